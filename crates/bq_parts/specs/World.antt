-- The world: processors with their inboxes, the lobby of the sleeping tasks, and how many numbers were drawn.
use Rattle.std.specs.Prelude.{ℕ, List, [], ◌∷◌, length, replicate, slice_index_or, slice_set}
use Rattle.bq_disc.specs.declared.limits.TheConstants.{TASKS}
use Rattle.bq_disc.specs.Tasks.{Task}
use Rattle.bq_parts.specs.declared.lobby_entry.LobbyEntry.{LobbyEntry}
use Rattle.bq_parts.specs.declared.lobby_entry.LobbyEntry.TheVariants.{Absent}
use Rattle.bq_parts.specs.Processors.{Processor, new_processor, load_of}

-- the processors; the inbox of each, in the order in which tasks came; the lobby's entry of each id; and how many numbers
-- were drawn. The id of an absent entry is not admitted; that of an entry that is away is admitted, and its task is with
-- some processor
pub record World : Type 0 where
  pub processors : List Processor
  pub inboxes : List (List Task)
  pub lobby : List LobbyEntry
  pub drawn : ℕ

-- a world of this many processors, with nothing admitted, drawn or installed
abbrev pub opening_world : ℕ → World
opening_world count = record { processors = replicate count new_processor; inboxes = replicate count []; lobby = replicate TASKS Absent; drawn = 0 }

-- the world that these parts make: processors, their inboxes, a lobby, and how many numbers were drawn
abbrev pub world_of_parts : List Processor → List (List Task) → List LobbyEntry → ℕ → World
world_of_parts processors inboxes lobby drawn = record { processors = processors; inboxes = inboxes; lobby = lobby; drawn = drawn }

-- how many processors a world has
abbrev pub count_in : World → ℕ
count_in w = length w.processors

-- the processor with this number
abbrev pub processor_at : World → ℕ → Processor
processor_at w processor = slice_index_or w.processors processor new_processor

-- the tasks in the inbox of a processor, in the order in which they came
abbrev pub inbox : World → ℕ → List Task
inbox w processor = slice_index_or w.inboxes processor []

-- the lobby's entry of an id
abbrev pub entry_of_id : World → ℕ → LobbyEntry
entry_of_id w id = slice_index_or w.lobby id Absent

-- the world with another value of one processor
abbrev pub with_processor : World → ℕ → Processor → World
with_processor w processor p = record w { processors = slice_set w.processors processor p }

-- the world with other tasks in one inbox
abbrev pub with_inbox : World → ℕ → List Task → World
with_inbox w processor tasks = record w { inboxes = slice_set w.inboxes processor tasks }

-- the world with another lobby
abbrev pub with_lobby : World → List LobbyEntry → World
with_lobby w lobby = record w { lobby = lobby }

-- the load of each processor
abbrev pub loads_of : List Processor → List (List Task) → List ℕ
loads_of (p ∷ ps) (tasks ∷ inboxes) = load_of p tasks ∷ loads_of ps inboxes
loads_of ps inboxes = []
