-- Queues: sets of tasks with distinct ids, as the list of their tasks by rising (v, id), with their mark.
use Rattle.std.specs.Prelude.{◌≡◌, ℕ, ◌<◌, ◌^◌, List, [], ◌∷◌, Option, Some, None, refl, Bool, true}
use Rattle.std.specs.Coded.{Coded, code_by, coded×, coded_ℕ, coded_list}
use Rattle.bq_disc.specs.Masks.{allows}
use Rattle.bq_disc.specs.Tasks.{Task, coded_task, comes_before, find_task}

-- the waiting tasks, and their mark of virtual time
pub record Queue : Type 0 where
  pub members : List Task
  pub mark : ℕ

-- a queue is stored as the pair of its fields
abbrev pub coded_queue : Coded Queue
coded_queue =
    code_by (List Task × ℕ) (coded× (coded_list coded_task) coded_ℕ) (λ q. (q.members, q.mark)) (λ p. record { members = p.0; mark = p.1 }) (λ _. refl)

-- no task has the id of one after it
abbrev pub HasDistinctIds : List Task → Type 0
HasDistinctIds [] = Unit {0}
HasDistinctIds (x ∷ xs) = (find_task x.id xs ≡ None) × HasDistinctIds xs

-- each id fits 16 bits
abbrev pub HasSmallIds : List Task → Type 0
HasSmallIds [] = Unit {0}
HasSmallIds (x ∷ xs) = (x.id < 2 ^ 16) × HasSmallIds xs

-- a task's place in the order: its (v, id)
abbrev pub key_of : Task → ℕ × ℕ
key_of t = (t.v, t.id)

-- whether a task comes after (v, id)
abbrev pub comes_after : ℕ → ℕ → Task → Bool
comes_after v id t = comes_before v id t.v t.id

-- whether a task comes after `last`; every task does if there is no last one
abbrev pub follows : Option (ℕ × ℕ) → Task → Bool
follows None t = true
follows (Some last) t = comes_after last.0 last.1 t

-- whether a task may use a processor
abbrev pub can_use : ℕ → Task → Bool
can_use processor t = allows t.mask processor
