-- The whole at the start: no history, no receipts.
use Rattle.std.proofs.Common.{◌≡◌, ◌≢◌, ℕ, zero, suc, ◌+◌, ◌<◌, ◌≤◌, List, [], map, length, replicate, Bool, cond, eqb, eq-eqb, ne_eqb, refl, sym, ap, subst, arith}
use mathlib.Core.Option.{some, some-ne-none, some-injective}
use mathlib.Core.Logic.{dite}
use native.Mathlib.Decide.{ℕ_discrete}
use lib.ListN.{get_elem?}
use Rattle.bq_history.specs.Whole.{count, Each, Has}
use Rattle.bq_history.proofs.MoveLemmas.{count-append, each-append}
use Rattle.bq_history.specs.History.{IsShare, SharesOut}
use Rattle.bq_history.specs.Items.{part_item, same_item, callers_from, first_items, IsGood, fits_item}
use Rattle.bq_history.specs.declared.shared_state.Receipt.{Receipt}
use Rattle.bq_history.specs.declared.shared_state.SharedState.{SharedState}
use Rattle.bq_history.specs.declared.shared_state.Item.{Item}
use Rattle.bq_history.specs.declared.shared_state.Item.TheVariants.{Journal, Caller, Part}
use Rattle.bq_history.proofs.RecordingLemmas.{count_parts, no_journal, no_caller, fit_parts}

module _ (R : Type 0) {P : Type 0} (D : Type 0) (same : P → P → Bool) where
  callers_journal : (log : List R) (d : D) (s n : ℕ) → count (same_item {R = R} {D = D} same (Journal log d)) (callers_from s n) ≡ 0
  callers_journal log d s zero = refl
  callers_journal log d s (suc n) = let h = callers_journal log d (s + 1) n in omega arith

  callers_part : (p : P) (s n : ℕ) → count (same_item {R = R} {D = D} same (Part p)) (callers_from s n) ≡ 0
  callers_part p s zero = refl
  callers_part p s (suc n) = let h = callers_part p (s + 1) n in omega arith

  callers_below : (u : ℕ) (l : List (Receipt R)) (s n : ℕ) → u < s
      → count (same_item {R = R} {D = D} same (Caller u l)) (callers_from s n) ≡ 0
  callers_below u l s zero b = refl
  callers_below u l s (suc n) b =
      let h = callers_below u l (s + 1) n (omega arith) in
      let e : cond {A = ℕ} (eqb u s) 1 0 ≡ 0 = ap (λ (x : Bool). cond {A = ℕ} x 1 0) (ne_eqb u s (λ (i : u ≡ s). omega arith)) in
      omega arith

  callers_once : (u : ℕ) (l : List (Receipt R)) (s n : ℕ) → count (same_item {R = R} {D = D} same (Caller u l)) (callers_from s n) ≤ 1
  callers_once u l s zero = omega arith
  callers_once u l s (suc n) =
      dite (ℕ_discrete u s)
      (λ (e : u ≡ s).
      let h = callers_below u l (s + 1) n (omega arith) in
      let one : cond {A = ℕ} (eqb u s) 1 0 ≡ 1 = ap (λ (x : Bool). cond {A = ℕ} x 1 0) (eq-eqb u s e) in
      omega arith)
      (λ (i : u ≢ s).
      let h = callers_once u l (s + 1) n in
      let none : cond {A = ℕ} (eqb u s) 1 0 ≡ 0 = ap (λ (x : Bool). cond {A = ℕ} x 1 0) (ne_eqb u s i) in
      omega arith)

  first_once : (d : D) (ps : List P) (n : ℕ) → ((p : P) → count (same p) ps ≤ 1)
      → (e : Item R P D) → count (same_item same e) (first_items d ps n) ≤ 1
  first_once d ps n once (Journal log k) =
      let a = count-append (same_item {R = R} {D = D} same (Journal log k)) (map part_item ps) (callers_from 0 n) in
      let b = no_journal R D same log k ps in
      let c = callers_journal log k 0 n in
      omega arith
  first_once d ps n once (Caller u l) =
      let a = count-append (same_item {R = R} {D = D} same (Caller u l)) (map part_item ps) (callers_from 0 n) in
      let b = no_caller R D same u l ps in
      let c = callers_once u l 0 n in
      omega arith
  first_once d ps n once (Part p) =
      let a = count-append (same_item {R = R} {D = D} same (Part p)) (map part_item ps) (callers_from 0 n) in
      let b = count_parts R D same p ps in
      let c = callers_part p 0 n in
      let o = once p in
      omega arith

module _ {A : Type 0} where
  at_replicate : (n j : ℕ) (x y : A) → get_elem? (replicate n x) j ≡ some y → x ≡ y
  at_replicate zero j x y e = absurd (some-ne-none y (sym e))
  at_replicate (suc n) zero x y e = some-injective x y e
  at_replicate (suc n) (suc j) x y e = at_replicate n j x y e

  -- each place of a list of one item over and over has that item
  pub replicate_at : (n j : ℕ) (x : A) → j < n → get_elem? (replicate n x) j ≡ some x
  replicate_at zero j x b = absurd (omega arith)
  replicate_at (suc n) zero x b = refl
  replicate_at (suc n) (suc j) x b = replicate_at n j x (omega arith)

  -- a list of one item over and over is as long as was asked
  pub length_replicate : (n : ℕ) (x : A) → length (replicate n x) ≡ n
  length_replicate zero x = refl
  length_replicate (suc n) x = let h = length_replicate n x in omega arith

module _ {R P D W : Type 0} (step : W → R → W → Type 0) (kept : W → D) (same : P → P → Bool) (fits : W → P → Type 0) where
  abbrev start : W → ℕ → SharedState R W
  start opening n = record { log = []; lists = replicate n []; world = opening }

  nothing_shared : (n : ℕ) → SharesOut {R = R} [] (replicate n [])
  nothing_shared n = record {
    owner = λ p. 0;
    shares = λ s l e. subst (λ (k : List (Receipt R)). IsShare [] (λ p. 0) s k) (at_replicate n s [] l e)
        (record { rise = tt; stand = tt; own = tt });
    each_place = λ p b. absurd (omega arith);
  }

  callers_fit : (opening : W) (all s n : ℕ) → s + n ≡ all → Each (fits_item {P = P} kept fits (start opening all)) (callers_from s n)
  callers_fit opening all s zero e = tt
  callers_fit opening all s (suc n) e = (replicate_at all s [] (omega arith), callers_fit opening all (s + 1) n (omega arith))

  -- the first items are there in a good whole without a record
  pub opens : (opening : W) (ps : List P) (n : ℕ) → ((p : P) → count (same p) ps ≤ 1) → Each (fits opening) ps
      → Has (same_item same) (IsGood step opening n) (fits_item kept fits) (first_items (kept opening) ps n)
  opens opening ps n once h = (
    start opening n,
    (refl, length_replicate n [], nothing_shared n),
    first_once R D same (kept opening) ps n once,
    (
      (refl, refl),
      each-append (fits_item kept fits (start opening n)) (map part_item ps) (callers_from 0 n)
          (fit_parts kept fits (start opening n) ps h) (callers_fit opening n 0 n (omega arith)),
    ),
  )
