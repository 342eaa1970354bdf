-- What is first in the event queue comes next by the accounts; where nothing is due in it, nothing comes.
use Rattle.std.proofs.Common.{◌≡◌, ℕ, ◌+◌, ◌-◌, ◌*◌, ◌<◌, ◌≤◌, inl, inr, Bool, true, false, List, Option, Some, None, refl, sym, ap, ◌∙◌, subst, arith}
use Rattle.std.specs.Prelude.{if◌then◌else◌, nat_lt}
use Rattle.std.proofs.lemmas.Bool.{ltb-false, ltb-true}
use Rattle.std.proofs.lemmas.Option.{none-some, same_Some}
use Rattle.bq_workload.specs.declared.due.Due.{Due}
use Rattle.bq_workload.specs.declared.due.Due.TheVariants.{End, Wake, Tick, Look}
use Rattle.bq_workload.specs.declared.due.TheConstants.{FIRST_LOOK, FIRST_TICK, FIRST_WAKE, RANKS}
use Rattle.bq_workload.specs.declared.event_queue.TheConstants.{INSTANT}
use Rattle.bq_workload.specs.Accounts.{Accounts}
use Rattle.bq_workload.specs.Dues.{IsDue, due_rank, due_at}
use Rattle.bq_workload.specs.Minima.{at_rank, due_number, AreNever, IsFirstDue, never_due}
use Rattle.bq_workload.specs.Next.{comes_at, QueueAgrees, IsBefore, IsNextDue, NothingComes}
use Rattle.bq_workload.proofs.ListLemmas.{some_or_none}

-- ranks of what is due, and what is due at a rank
rank-low : (due : Due) → IsDue due → due_rank due < RANKS
rank-low (End p) h = omega (arith, h)
rank-low (Wake k) h = omega (arith, h)
rank-low (Tick p) h = omega (arith, h)
rank-low (Look p) h = omega (arith, h)

-- what is at a rank is due, and has that rank
abbrev Stands : ℕ → Due → Type 0
Stands n due = IsDue due × (due_rank due ≡ n)

-- the thing that the bounds of a rank choose is due, and has that rank
stands-by : (n : ℕ) (due : Due) (a b c d : Bool) → nat_lt n FIRST_WAKE ≡ a → nat_lt n FIRST_TICK ≡ b → nat_lt n FIRST_LOOK ≡ c → nat_lt n RANKS ≡ d
    → (if a then Some (End n) else if b then Some (Wake (n - FIRST_WAKE)) else if c then Some (Tick (n - FIRST_TICK))
    else if d then Some (Look (n - FIRST_LOOK)) else None)
    ≡ Some due
    → Stands n due
stands-by n due true b c d e f g h is = subst (Stands n) (same_Some (End n) due is) (ltb-true n FIRST_WAKE e, refl)
stands-by n due false true c d e f g h is =
    let low = ltb-false n FIRST_WAKE e in
    let high = ltb-true n FIRST_TICK f in
    subst (Stands n) (same_Some (Wake (n - FIRST_WAKE)) due is) (omega (arith, low, high), omega (arith, low, high))
stands-by n due false false true d e f g h is =
    let low = ltb-false n FIRST_TICK f in
    let high = ltb-true n FIRST_LOOK g in
    subst (Stands n) (same_Some (Tick (n - FIRST_TICK)) due is) (omega (arith, low, high), omega (arith, low, high))
stands-by n due false false false true e f g h is =
    let low = ltb-false n FIRST_LOOK g in
    let high = ltb-true n RANKS h in
    subst (Stands n) (same_Some (Look (n - FIRST_LOOK)) due is) (omega (arith, low, high), omega (arith, low, high))
stands-by n due false false false false e f g h is = absurd (none-some due is)

-- the thing at a rank is due, and has that rank
stands : (n : ℕ) (due : Due) → due_at n ≡ Some due → Stands n due
stands n due is = stands-by n due (nat_lt n FIRST_WAKE) (nat_lt n FIRST_TICK) (nat_lt n FIRST_LOOK) (nat_lt n RANKS) refl refl refl refl is

-- a number below a rank that is never due says when it is due
number-is : (p time : ℕ) (o : Option ℕ) → p < RANKS → due_number p o ≡ time * INSTANT + p → o ≡ Some time
number-is p time None low is = absurd (omega (arith, low, is))
number-is p time (Some t) low is = ap (λ (n : ℕ). Some n) (let e : t ≡ time = omega (arith, is) in e)

-- what is first in the event queue comes first by the accounts
pub first-next : (end : ℕ) (a : Accounts) (x : List ℕ) (time rank : ℕ) (due : Due)
    → IsFirstDue x time rank → due_at rank ≡ Some due → QueueAgrees end a x → IsNextDue end a due time
first-next end a x time rank due first at h =
    let stand : Stands rank due = stands rank due at in
    let low : due_rank due < RANKS = rank-low due stand.0 in
    let taken : at_rank x (due_rank due) ≡ time * INSTANT + due_rank due =
    subst (λ (n : ℕ). at_rank x n ≡ time * INSTANT + n) (sym stand.1) first.taken in
    let bound : (other : Due) → IsDue other → time * INSTANT + due_rank due ≤ at_rank x (due_rank other) =
    λ other there.
    let few : due_rank other < RANKS = rank-low other there in
    subst (λ (n : ℕ). time * INSTANT + n ≤ at_rank x (due_rank other)) (sym stand.1)
    (first.bound (due_rank other) (omega arith)) in
    let least : (other : Due) (t : ℕ) → comes_at end a other ≡ Some t → IsBefore t other time due → ⊥ =
    λ other t comes before.
    let there : IsDue other = (h.all other).there t comes in
    let few : due_rank other < RANKS = rank-low other there in
    let stood : at_rank x (due_rank other) ≡ t * INSTANT + due_rank other = (h.all other).at there ∙ ap (due_number (due_rank other)) comes in
    let more : time * INSTANT + due_rank due ≤ at_rank x (due_rank other) = bound other there in
    elim before [ inl early ↦ omega arith | inr same ↦ omega (arith, same.0, same.1) ] in
    record { comes = number-is (due_rank due) time (comes_at end a due) low (sym ((h.all due).at stand.0) ∙ taken); first = least }

-- where nothing is due in the event queue nothing comes by the accounts
pub none-next : (end : ℕ) (a : Accounts) (x : List ℕ) → AreNever x → QueueAgrees end a x → NothingComes end a
none-next end a x none h due = elim (some_or_none (comes_at end a due)) [
  | inl nothing ↦ nothing
  | inr (t, comes) ↦
      let there : IsDue due = (h.all due).there t comes in
      let few : due_rank due < RANKS = rank-low due there in
      let stood : at_rank x (due_rank due) ≡ t * INSTANT + due_rank due = (h.all due).at there ∙ ap (due_number (due_rank due)) comes in
      let at : at_rank x (due_rank due) ≡ never_due = none (due_rank due) (omega arith) in
      absurd (omega (arith, few, stood, at))
]
