-- The times of tasks, one run more at a time.
use Rattle.std.proofs.Common.{◌≡◌, ◌≢◌, ℕ, ◌+◌, ◌*◌, ◌^◌, ◌<◌, ◌≤◌, List, [], ◌∷◌, ◌++◌, length, get_or, set, take, ap, sym, arith, inl, inr}
use Rattle.std.specs.Prelude.{◌==◌, if◌then◌else◌}
use Rattle.std.proofs.lemmas.Bool.Decides.{nat_tests, eqb_tells}
use Rattle.std.proofs.lemmas.Grind.{get_or-set_at}
use Rattle.std.proofs.lemmas.List.{get_or-set_other}
use Rattle.std.proofs.lemmas.List.Sums.{sum_by_more, sum_by_push}
use Rattle.bq_schedule.specs.declared.slice.Slice.{Slice}
use Rattle.bq_report.specs.Longest.{time_between, task_time_between}

-- what a run counts for a task
abbrev pub share : ℕ → ℕ → ℕ → Slice → ℕ
share from to task run = if run.task == task then time_between from to run else 0

-- what a run counts for its own task, and for another
counts : (run task time : ℕ) → run ≡ task → (if run == task then time else 0) ≡ time
counts run task time h = grind (arith, nat_tests)

counts_not : (run task time : ℕ) → run ≢ task → (if run == task then time else 0) ≡ 0
counts_not run task time h = grind (arith, nat_tests)

-- one more run adds what it counts to the time of a task
time_of_more : (from to : ℕ) (runs : List Slice) (i : ℕ) (d : Slice) (task : ℕ) → i < length runs
    → task_time_between from to (take (i + 1) runs) task
    ≡ task_time_between from to (take i runs) task + (if (get_or runs i d).task == task then time_between from to (get_or runs i d) else 0)
time_of_more from to runs i d task lt = sum_by_more _ runs i d lt

-- a run of another task counts for none of these
pub other_time : (from to : ℕ) (runs : List Slice) (i : ℕ) (d : Slice) (task : ℕ) → i < length runs
    → (get_or runs i d).task ≢ task → task_time_between from to (take (i + 1) runs) task ≡ task_time_between from to (take i runs) task
other_time from to runs i d task lt ne =
    omega (arith, time_of_more from to runs i d task lt, counts_not (get_or runs i d).task task (time_between from to (get_or runs i d)) ne)

-- a run counts at the place of its task
pub time_counted : (from to : ℕ) (runs : List Slice) (i : ℕ) (d : Slice) (times : List ℕ) (k value : ℕ) (task : ℕ)
    → i < length runs → k < length times → k ≡ (get_or runs i d).task
    → value ≡ get_or times k 0 + time_between from to (get_or runs i d)
    → get_or times task 0 ≡ task_time_between from to (take i runs) task
    → get_or (set times k value) task 0 ≡ task_time_between from to (take (i + 1) runs) task
time_counted from to runs i d times k value task lt there own is known = elim (eqb_tells k task) [
  | inl h ↦ omega (
    arith,
    get_or-set_at times k task value 0 (sym h.1) there,
    ap (λ (x : ℕ). get_or times x 0) h.1,
    time_of_more from to runs i d task lt,
    counts (get_or runs i d).task task (time_between from to (get_or runs i d)) (omega (arith, h.1)),
  )
  | inr h ↦ omega (
    arith,
    get_or-set_other times k task value 0 (omega (arith, h.1)),
    other_time from to runs i d task lt (omega (arith, h.1)),
  )
]

-- one more run counts for its task
pub time_pushed : (from to : ℕ) (runs : List Slice) (run : Slice) (task : ℕ) → run.task ≡ task
    → task_time_between from to (runs ++ (run ∷ [])) task ≡ task_time_between from to runs task + time_between from to run
time_pushed from to runs run task is =
    omega (arith, sum_by_push (share from to task) runs run, counts run.task task (time_between from to run) is)

-- one more run counts for no other task
pub time_pushed_other : (from to : ℕ) (runs : List Slice) (run : Slice) (task : ℕ) → run.task ≢ task
    → task_time_between from to (runs ++ (run ∷ [])) task ≡ task_time_between from to runs task
time_pushed_other from to runs run task not =
    omega (arith, sum_by_push (share from to task) runs run, counts_not run.task task (time_between from to run) not)

-- a run raises the place of its task by less than 2^64
pub bound_kept : (times : List ℕ) (k value time i task : ℕ) → k < length times → value ≡ get_or times k 0 + time → time < 2 ^ 64
    → get_or times k 0 ≤ i * 2 ^ 64 → get_or times task 0 ≤ i * 2 ^ 64 → get_or (set times k value) task 0 ≤ (i + 1) * 2 ^ 64
bound_kept times k value time i task there is small own known = elim (eqb_tells k task) [
  | inl h ↦ omega (arith, get_or-set_at times k task value 0 (sym h.1) there)
  | inr h ↦ omega (arith, get_or-set_other times k task value 0 (omega (arith, h.1)))
]
