-- Tasks as the disciplines see them, and queues as lists of tasks by rising (v, id).
use Rattle.std.specs.Prelude.{ℕ, ℤ, Bool, ◌||◌, ◌&&◌, ◌==◌, nat_lt, if◌then◌else◌, List, [], ◌∷◌, Option, Some, None, find, refl}
use Rattle.std.specs.Option.{option_map}
use Rattle.std.specs.Coded.{Coded, code_by, coded×, coded_ℕ, coded_ℤ, coded_option}

-- mask is the set of processors that it may use, by bits; slice the time that it asks for; v its virtual runtime;
-- rel its v less the mark when it last left, at most 2^30 and at least -2^30; prev the processor at which it last blocked
pub record Task : Type 0 where
  pub id : ℕ
  pub weight : ℕ
  pub mask : ℕ
  pub slice : ℕ
  pub v : ℕ
  pub deadline : ℕ
  pub rel : ℤ
  pub prev : Option ℕ

-- a task is stored as the tuple of its fields
abbrev pub coded_task : Coded Task
coded_task =
    code_by (ℕ × (ℕ × (ℕ × (ℕ × (ℕ × (ℕ × (ℤ × Option ℕ)))))))
    (coded× coded_ℕ (coded× coded_ℕ (coded× coded_ℕ (coded× coded_ℕ (coded× coded_ℕ (coded× coded_ℕ (coded× coded_ℤ (coded_option coded_ℕ))))))))
    (λ t. (t.id, (t.weight, (t.mask, (t.slice, (t.v, (t.deadline, (t.rel, t.prev))))))))
    (λ p. record {
      id = p.0;
      weight = p.1.0;
      mask = p.1.1.0;
      slice = p.1.1.1.0;
      v = p.1.1.1.1.0;
      deadline = p.1.1.1.1.1.0;
      rel = p.1.1.1.1.1.1.0;
      prev = p.1.1.1.1.1.1.1;
    })
    (λ _. refl)

-- whether the first time is less than the other; of equal times, whether the first id is less
abbrev pub comes_before : ℕ → ℕ → ℕ → ℕ → Bool
comes_before time id other_time other_id = nat_lt time other_time || (time == other_time && nat_lt id other_id)

-- whether task a has the lesser (v, id)
abbrev pub runs_before : Task → Task → Bool
runs_before a b = comes_before a.v a.id b.v b.id

-- x, or the other task if there is one and it comes before x
abbrev pub former : (Task → Task → Bool) → Task → Option Task → Task
former before x None = x
former before x (Some y) = if before y x then y else x

-- the first of some tasks by an order
abbrev pub first_by : (Task → Task → Bool) → List Task → Option Task
first_by before [] = None
first_by before (x ∷ xs) = Some (former before x (first_by before xs))

-- whether a task has this id
abbrev pub has_id : ℕ → Task → Bool
has_id id t = t.id == id

-- the task with this id, if there is one
abbrev pub find_task : ℕ → List Task → Option Task
find_task id xs = find (has_id id) xs

-- the tasks without the one that has this id
abbrev pub without : ℕ → List Task → List Task
without id [] = []
without id (x ∷ xs) = if has_id id x then xs else x ∷ without id xs

-- a queue with one more task, inserted by (v, id)
abbrev pub inserted : Task → List Task → List Task
inserted t [] = t ∷ []
inserted t (x ∷ xs) = if runs_before t x then t ∷ x ∷ xs else x ∷ inserted t xs

-- the tasks present at a processor: its current task, if any, and its queue
abbrev pub present : Option Task → List Task → List Task
present None queue = queue
present (Some current) queue = current ∷ queue

-- the id of a task, if there is a task
abbrev pub id_of : Option Task → Option ℕ
id_of o = option_map (λ (t : Task). t.id) o
