use Rattle.std.proofs.Common.{◌≡◌, ◌≢◌, ◌+◌, ◌*◌, ◌/◌, ◌%◌, ◌<◌, ℕ, List, get_or, refl, length, subst, sym, ◌∙◌, arith}
use Rattle.bq_workload.specs.Minima.{never_due, IsFirstDue, AreNever, HasMinima, AreLeavesRanked, HasSpareLeaves}
use Rattle.bq_workload.proofs.TreeLemmas.{nothing-due, first-due, first-rank, same-number}
use Rattle.bq_workload.proofs.event_queue.EventQueue.first.Goals as goal

-- of the list that the event queue is
nothing : (xs ys : List ℕ) (n : ℕ) → xs ≡ ys → length xs ≡ 4096 → HasMinima xs → AreLeavesRanked xs → n ≡ get_or xs 1 n → n ≡ never_due → AreNever ys
nothing xs ys n same len m ranks is none =
    subst AreNever same (nothing-due xs m ranks (sym (same-number xs n (omega (arith, len)) is) ∙ none))

first-of : (xs ys : List ℕ) (n : ℕ) → xs ≡ ys → length xs ≡ 4096 → HasMinima xs → AreLeavesRanked xs → n ≡ get_or xs 1 n → n ≢ never_due
    → IsFirstDue ys (n / 2048) (n % 2048)
first-of xs ys n same len m ranks is due =
    let root : n ≡ get_or xs 1 0 = same-number xs n (omega (arith, len)) is in
    let P : List ℕ → Type 0 = λ zs. IsFirstDue zs (n / 2048) (n % 2048) in
    let Q : ℕ → Type 0 = λ k. IsFirstDue xs (k / 2048) (k % 2048) in
    subst P same (subst Q (sym root) (first-due xs m ranks (λ e. due (root ∙ e))))

rank-of : (xs ys : List ℕ) (n : ℕ) → xs ≡ ys → length xs ≡ 4096 → HasMinima xs → AreLeavesRanked xs → HasSpareLeaves xs
    → n ≡ get_or xs 1 n → n ≢ never_due
    → n % 2048 < 1216
rank-of xs ys n same len m ranks spare is due =
    let whole : n / 2048 * 2048 + n % 2048 ≡ n = omega arith in
    let first : IsFirstDue xs (n / 2048) (n % 2048) = first-of xs xs n refl len m ranks is due in
    first-rank xs (n / 2048) (n % 2048) ranks spare (λ e. due (sym whole ∙ e)) first

pub returns-then-number-clause-none : goal.returns-then-number-clause-none
returns-then-number-clause-none c =
    nothing _ _ _ c.self.view_is c.self.invariant.0 c.self.invariant.1 c.self.invariant.2
    c.index-number.ensures c.if-number.true

pub returns-clause-first : goal.returns-clause-first
returns-clause-first c =
    first-of _ _ _ c.self.view_is c.self.invariant.0 c.self.invariant.1 c.self.invariant.2
    c.index-number.ensures c.if-number.false

pub returns-clause-rank : goal.returns-clause-rank
returns-clause-rank c =
    rank-of _ _ _ c.self.view_is c.self.invariant.0 c.self.invariant.1 c.self.invariant.2 c.self.invariant.3
    c.index-number.ensures c.if-number.false
