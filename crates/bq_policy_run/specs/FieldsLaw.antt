-- The law of the fields: if the context is that of a choice, each field holds what its name says of that choice.
use Rattle.std.specs.Prelude.{◌≡◌, ℕ, ◌+◌, ◌^◌, ◌%◌, ◌<◌, ◌⊎◌, min, List, [], ◌∷◌, length, slice_get, slice_index, slice_range, Option, Some, codes}
use Rattle.std.specs.List.{find}
use Rattle.std.specs.Option.{option_map_or}
use Rattle.std.specs.Str.{bytes_eq}
use Rattle.bq_console.specs.Words.{IsSplitAtMark, IsNumber}
use Rattle.bq_disc.specs.Tasks.{Task, id_of}
use Rattle.bq_hooks.specs.Contexts.{PlaceFacts, PreemptFacts, PullFacts, place_bytes_first, place_bytes_second, preempt_bytes, pull_bytes, as_number, if_any_shown, if_shown, or_nobody, u32_bytes, u64_bytes}
use Rattle.bq_hooks.specs.Hooks.{context_length_of}
use Rattle.bq_hooks.specs.declared.hook.Hook.{Hook}
use Rattle.bq_hooks.specs.declared.hook.Hook.TheVariants.{Place, Preempt, Pull}
use Rattle.bq_hooks.specs.declared.hook.Version.{Version}
use Rattle.bq_hooks.specs.declared.hook.Version.TheVariants.{First, Second}
use Rattle.bq_policy_run.specs.declared.fields.Field.{Field}
use Rattle.bq_policy_run.specs.declared.fields.FieldWidth.{FieldWidth}
use Rattle.bq_policy_run.specs.Fields.{IsField, bytes_in}

-- the facts of a choice for which a policy of the hook is asked
abbrev pub FactsOf : Hook → Type 0
FactsOf Place = PlaceFacts
FactsOf Preempt = PreemptFacts
FactsOf Pull = PullFacts

-- the context that the policy is shown there
abbrev pub shown_context : (hook : Hook) → Version → FactsOf hook → List ℕ
shown_context Place First f = place_bytes_first f
shown_context Place Second f = place_bytes_second f
shown_context Preempt version f = preempt_bytes f
shown_context Pull version f = pull_bytes f

-- a name, the number of its fields, and the bytes that each of them holds, by its number if there are several
pub record Meaning : Type 0 where
  pub name : List ℕ
  pub count : ℕ
  pub bytes : ℕ → List ℕ

-- a name with one field
abbrev pub one : List ℕ → List ℕ → Meaning
one name bytes = record { name = name; count = 1; bytes = λ number. bytes }

-- a name with several fields
abbrev pub each : List ℕ → ℕ → (ℕ → List ℕ) → Meaning
each name count bytes = record { name = name; count = count; bytes = bytes }

-- the meanings of a place context that shows the processors below a limit
abbrev pub place_meanings : ℕ → PlaceFacts → List Meaning
place_meanings limit f =
    one (codes "task") (u32_bytes f.task.id)
    ∷ one (codes "weight") (u32_bytes f.task.weight)
    ∷ one (codes "mask") (u64_bytes (f.task.mask % 2 ^ min f.processors limit))
    ∷ one (codes "slice") (u64_bytes f.task.slice)
    ∷ one (codes "waker") (u32_bytes (if_shown limit f.waking))
    ∷ one (codes "previous") (u32_bytes (if_any_shown limit f.task.prev))
    ∷ one (codes "processors") (u32_bytes (min f.processors limit))
    ∷ one (codes "own") (u32_bytes (if_shown limit f.own))
    ∷ each (codes "load") limit (λ processor. u32_bytes (slice_index f.loads processor))
    ∷ []

-- the meanings of a preempt context
abbrev pub preempt_meanings : PreemptFacts → List Meaning
preempt_meanings f =
    one (codes "processor") (u32_bytes f.processor)
    ∷ one (codes "queued") (u32_bytes (length f.queue))
    ∷ one (codes "task") (u32_bytes f.current.id)
    ∷ one (codes "weight") (u32_bytes f.current.weight)
    ∷ one (codes "v") (u64_bytes f.current.v)
    ∷ one (codes "deadline") (u64_bytes f.current.deadline)
    ∷ one (codes "next") (u32_bytes (or_nobody (id_of f.choice)))
    ∷ one (codes "next_weight") (u32_bytes (option_map_or (λ (t : Task). t.weight) f.choice 0))
    ∷ one (codes "next_v") (u64_bytes (option_map_or (λ (t : Task). t.v) f.choice 0))
    ∷ one (codes "own") (u32_bytes (as_number f.own))
    ∷ []

-- the meanings of a pull context
abbrev pub pull_meanings : PullFacts → List Meaning
pull_meanings f =
    one (codes "puller") (u32_bytes f.puller)
    ∷ one (codes "other") (u32_bytes f.source)
    ∷ one (codes "size") (u32_bytes f.puller_size)
    ∷ one (codes "other_size") (u32_bytes f.source_size)
    ∷ one (codes "movable") (u32_bytes (length f.movable))
    ∷ one (codes "shown") (u32_bytes (min (length f.movable) 8))
    ∷ one (codes "own") (u32_bytes (or_nobody f.own))
    ∷ each (codes "task") 8 (λ place. u32_bytes (option_map_or (λ (t : Task). t.id) (slice_get f.movable place) 0))
    ∷ each (codes "weight") 8 (λ place. u32_bytes (option_map_or (λ (t : Task). t.weight) (slice_get f.movable place) 0))
    ∷ each (codes "v") 8 (λ place. u64_bytes (option_map_or (λ (t : Task). t.v) (slice_get f.movable place) 0))
    ∷ []

-- the meanings of a hook's context of a version
abbrev pub meanings_of : (hook : Hook) → Version → FactsOf hook → List Meaning
meanings_of Place First f = place_meanings 16 f
meanings_of Place Second f = place_meanings 64 f
meanings_of Preempt version f = preempt_meanings f
meanings_of Pull version f = pull_meanings f

-- the first meaning of that name
abbrev pub meaning_named : List Meaning → List ℕ → Option Meaning
meaning_named meanings name = find (λ m. bytes_eq m.name name) meanings

-- a name without a number says these bytes
pub record MeansByName (meanings : List Meaning) (name bytes : List ℕ) : Type 0 where
  pub meaning : Meaning
  pub named : meaning_named meanings name ≡ Some meaning
  pub single : meaning.count ≡ 1
  pub is : bytes ≡ meaning.bytes 0

-- a name says these bytes by the part before its first dot, and the number after the dot
pub record MeansByNumber (meanings : List Meaning) (name bytes : List ℕ) : Type 0 where
  pub stem : List ℕ
  pub digits : List ℕ
  pub splits : IsSplitAtMark 46 name stem digits
  pub number : ℕ
  pub is_number : IsNumber digits number
  pub meaning : Meaning
  pub named : meaning_named meanings stem ≡ Some meaning
  pub several : 1 < meaning.count
  pub below : number < meaning.count
  pub is : bytes ≡ meaning.bytes number

-- a name says these bytes, on its own or with a number
abbrev pub MeansBytes : List Meaning → List ℕ → List ℕ → Type 0
MeansBytes meanings name bytes = MeansByName meanings name bytes ⊎ MeansByNumber meanings name bytes

-- the field there has these bytes and no more
abbrev pub FieldHolds : List ℕ → ℕ → FieldWidth → List ℕ → Type 0
FieldHolds context at width bytes = slice_range context at (at + bytes_in width) ≡ bytes

-- whatever the choice, the field of a name holds what the name says; each name that says something has a field; and the context is as
-- long as its hook and version say
pub record FieldsAreAsNamed : Type 0 where
  pub holds : (hook : Hook) (version : Version) (f : FactsOf hook) (name : List ℕ) (field : Field) → IsField hook version name field →
      (bytes : List ℕ) × MeansBytes (meanings_of hook version f) name bytes × FieldHolds (shown_context hook version f) field.at field.width bytes
  pub there : (hook : Hook) (version : Version) (f : FactsOf hook) (name bytes : List ℕ) → MeansBytes (meanings_of hook version f) name bytes →
      (field : Field) × IsField hook version name field
  pub long : (hook : Hook) (version : Version) (f : FactsOf hook) → length (shown_context hook version f) ≡ context_length_of hook version
