-- The counter calls on the way to each slot.
use Rattle.std.proofs.Common.{◌≡◌, ◌≢◌, ℕ, ◌+◌, ◌<◌, ◌≤◌, Bool, true, false, List, [], ◌∷◌, ◌++◌, Option, Some, None, length, refl, arith, sym, ap, subst, ◌⊎◌, inl, inr, ◌∙◌, get_or, set, get_or-set_same, get_or-set_other}
use Rattle.std.specs.Prelude.{slice_index_or, slice_set, IfSome, if◌then◌else◌}
use Rattle.std.proofs.lemmas.Bool.{cases_lt}
use Rattle.std.proofs.lemmas.Bool.Decides.{eqb_tells}
use Rattle.bq_insn.specs.declared.Insn.{Insn}
use Rattle.bq_bpf.specs.Steps.{instruction_at}
use Rattle.bq_verify.specs.Edges.{IsEdge}
use Rattle.bq_verify.specs.Paths.{IsPath, path_end, CallsOnWay, counter_calls_of, calls_before_end, IsMostCalls}
use Rattle.bq_bpf.specs.Instructions.{asks_counter}
use Rattle.bq_verify.specs.Passes.{IsGraphSound, IsAmongTargets, LeadsOut, Raises, CountsFollowed}
use Rattle.bq_verify.specs.declared.targets.Targets.{Targets}
use Rattle.bq_insn.proofs.OptionLemmas.{some_same, some_none}
use Rattle.bq_verify.proofs.EdgeLemmas.{edge_inside, end_of-push, IsPath-push}

-- after one count is set to a number no less, each count is at least what it was
raised_at : (old : List (Option ℕ)) (t g k a : ℕ) (b : Bool) → t < length old → IfSome (get_or old t None) (λ n. n ≤ g)
    → get_or old k None ≡ Some a → ((b ≡ true) × (k ≡ t)) ⊎ ((b ≡ false) × (k ≢ t))
    → (n : ℕ) × (get_or (set old t (Some g)) k None ≡ Some n) × (a ≤ n)
raised_at old t g k a b lt bound e (inl (_, same)) =
    let there : get_or old t None ≡ Some a = subst (λ (i : ℕ). get_or old i None ≡ Some a) same e in
    let le : a ≤ g = subst (λ (v : Option ℕ). IfSome v (λ n. n ≤ g)) there bound in
    (g, rw (same, get_or-set_same old t (Some g) None lt) refl, le)
raised_at old t g k a b lt bound e (inr (_, other)) = (a, rw (get_or-set_other old t k (Some g) None other) e, omega arith)

-- after one count is set, each count is an old one, or the new one at that slot
only_at : (old : List (Option ℕ)) (t g count k v : ℕ) (b : Bool)
    → t < length old → (g ≡ count) ⊎ (get_or old t None ≡ Some g) → get_or (set old t (Some g)) k None ≡ Some v
    → ((b ≡ true) × (k ≡ t)) ⊎ ((b ≡ false) × (k ≢ t))
    → (get_or old k None ≡ Some v) ⊎ ((Some t ≡ Some k) × (v ≡ count))
only_at old t g count k v b lt one e (inr (_, other)) = inl (sym (get_or-set_other old t k (Some g) None other) ∙ e)
only_at old t g count k v b lt one e (inl (_, same)) =
    let there : get_or (set old t (Some g)) t None ≡ Some v = subst (λ (i : ℕ). get_or (set old t (Some g)) i None ≡ Some v) same e in
    let is : v ≡ g = some_same _ _ _ there (get_or-set_same old t (Some g) None lt) in
    chosen one is
  where
    chosen : (g ≡ count) ⊎ (get_or old t None ≡ Some g) → v ≡ g → (get_or old k None ≡ Some v) ⊎ ((Some t ≡ Some k) × (v ≡ count))
    chosen (inl e') is = inr (ap (λ (n : ℕ). Some n) (sym same), is ∙ e')
    chosen (inr e') is = inl (subst (λ (i : ℕ). get_or old i None ≡ Some v) (sym same) (e' ∙ ap (λ (n : ℕ). Some n) (sym is)))

-- a number set to the greater of itself and the count is raised to it
pub raises_set : (old : List (Option ℕ)) (t g count : ℕ) → t < length old → count ≤ g
    → IfSome (slice_index_or old t None) (λ n. n ≤ g) → (g ≡ count) ⊎ (slice_index_or old t None ≡ Some g)
    → Raises old (Some t) count (slice_set old t (Some g))
raises_set old t g count lt le bound one = record {
  kept = λ k a e. raised_at old t g k a _ lt bound e (eqb_tells k t);
  raised = λ k e.
      let same : t ≡ k = some_same _ _ _ refl e in
      (g, subst (λ (i : ℕ). get_or (set old t (Some g)) i None ≡ Some g) same (get_or-set_same old t (Some g) None lt), le);
  only = λ k v e. only_at old t g count k v _ lt one e (eqb_tells k t);
}

-- a truth value as a number is at most 1
if_one : (b : Bool) → (if b then 1 else 0) ≤ 1
if_one true = omega arith
if_one false = omega arith

-- an instruction is at most one counter call
pub one_call : (v : Option Insn) → counter_calls_of v ≤ 1
one_call None = omega arith
one_call (Some insn) = if_one (asks_counter insn)

module _ (slots : List (Option Insn)) where
  -- a path that goes on has the calls of its end too
  calls-push : (from : ℕ) (rest : List ℕ) (t : ℕ)
      → calls_before_end slots from (rest ++ t ∷ [])
      ≡ calls_before_end slots from rest + counter_calls_of (instruction_at slots (path_end from rest))
  calls-push from [] t = omega arith
  calls-push from (n ∷ rest) t = let more = calls-push n rest t in omega arith

  -- a way that goes on by an edge, with its calls
  pub extend : (slot to n : ℕ) → CallsOnWay slots slot n → IsEdge slots slot to
      → CallsOnWay slots to (n + counter_calls_of (instruction_at slots slot))
  extend slot to n way edge = record {
    rest = way.rest ++ to ∷ [];
    is_path = IsPath-push slots 0 way.rest to way.is_path (subst (λ (s : ℕ). IsEdge slots s to) (sym way.ends) edge);
    ends = end_of-push 0 way.rest to;
    count_is =
        let pushed = calls-push 0 way.rest to in
        subst (λ (s : ℕ).
        calls_before_end slots 0 (way.rest ++ to ∷ [])
        ≡ calls_before_end slots 0 way.rest + counter_calls_of (instruction_at slots s)) way.ends pushed
        ∙ ap (λ (m : ℕ). m + counter_calls_of (instruction_at slots slot)) way.count_is;
  }

  -- the edges from one more slot
  pub counted_same : (slot : ℕ) (most : List (Option ℕ)) → CountsFollowed slots slot most
      → ((to n : ℕ) → IsEdge slots slot to → slice_index_or most slot None ≡ Some n →
      (m : ℕ) × (slice_index_or most to None ≡ Some m) × (n + counter_calls_of (instruction_at slots slot) ≤ m))
      → CountsFollowed slots (slot + 1) most
  counted_same slot most old here = record {
    begins = old.begins;
    way = old.way;
    small = old.small;
    closed = λ from to n lt edge e. by from to n lt edge e (cases_lt from slot);
  }
    where
      by : (from to n : ℕ) → from < slot + 1 → IsEdge slots from to → slice_index_or most from None ≡ Some n
          → (from < slot) ⊎ (slot ≤ from)
          → (m : ℕ) × (slice_index_or most to None ≡ Some m) × (n + counter_calls_of (instruction_at slots from) ≤ m)
      by from to n lt edge e (inl less) = old.closed from to n less edge e
      by from to n lt edge e (inr more) =
          let same : slot ≡ from = omega arith in
          subst (λ (s : ℕ).
          IsEdge slots s to → slice_index_or most s None ≡ Some n →
          (m : ℕ) × (slice_index_or most to None ≡ Some m) × (n + counter_calls_of (instruction_at slots s) ≤ m))
          same (here to n) edge e

  module _ (sound : IsGraphSound slots) (slot : ℕ) (targets : Targets) (out : LeadsOut slots slot targets)
      (n count : ℕ) (count_is : count ≡ n + counter_calls_of (instruction_at slots slot)) (old mid new : List (Option ℕ))
      (first : Raises old targets.next count mid) (second : Raises mid targets.jump count new) where
    -- each target comes later than the slot
    later : (to : ℕ) → IsAmongTargets targets to → slot < to
    later to of = (sound.forward slot to (out.only to of)).0

    -- what a number comes from
    origin : (k b : ℕ) → slice_index_or new k None ≡ Some b
        → (slice_index_or old k None ≡ Some b) ⊎ (IsAmongTargets targets k × (b ≡ count))
    origin k b e = by_second (second.only k b e)
      where
        -- a count after the first raise, or after both, is an old one or the new one at a target:
        by_first : (slice_index_or old k None ≡ Some b) ⊎ ((targets.next ≡ Some k) × (b ≡ count))
            → (slice_index_or old k None ≡ Some b) ⊎ (IsAmongTargets targets k × (b ≡ count))
        by_first (inl e') = inl e'
        by_first (inr (t, e')) = inr (inl t, e')

        by_second : (slice_index_or mid k None ≡ Some b) ⊎ ((targets.jump ≡ Some k) × (b ≡ count))
            → (slice_index_or old k None ≡ Some b) ⊎ (IsAmongTargets targets k × (b ≡ count))
        by_second (inl e') = by_first (first.only k b e')
        by_second (inr (t, e')) = inr (inr t, e')

    -- the counts up to this slot stay as they were
    low : (k b : ℕ) → k ≤ slot → slice_index_or new k None ≡ Some b → slice_index_or old k None ≡ Some b
    low k b le e = by (origin k b e)
      where
        by : (slice_index_or old k None ≡ Some b) ⊎ (IsAmongTargets targets k × (b ≡ count)) → slice_index_or old k None ≡ Some b
        by (inl e') = e'
        by (inr (of, e')) = let lt = later k of in absurd (omega arith)

    -- no count falls
    kept : (k a : ℕ) → slice_index_or old k None ≡ Some a → (b : ℕ) × (slice_index_or new k None ≡ Some b) × (a ≤ b)
    kept k a e =
        let one = first.kept k a e in
        let two = second.kept k one.0 one.1 in
        (two.0, two.1, omega (arith, one.2, two.2))

    -- each target has at least the new count
    reached : (to : ℕ) → IsAmongTargets targets to → (b : ℕ) × (slice_index_or new to None ≡ Some b) × (count ≤ b)
    reached to (inr e) = second.raised to e
    reached to (inl e) =
        let one = first.raised to e in
        let two = second.kept to one.0 one.1 in
        (two.0, two.1, omega (arith, one.2, two.2))

    -- both edges from one more slot have been followed
    pub counted_on : CountsFollowed slots slot old → slice_index_or old slot None ≡ Some n → CountsFollowed slots (slot + 1) new
    counted_on before here =
        counted_same slot new
        (record {
          begins = let one = kept 0 before.begins.0 before.begins.1 in (one.0, one.1);
          way = λ k b e. way_by k b (origin k b e);
          small = λ k b e. small_by k b (origin k b e);
          closed = λ from to a lt edge e.
              let one = before.closed from to a lt edge (low from a (omega arith) e) in
              let two = kept to one.0 one.1 in
              (two.0, two.1, omega (arith, one.2, two.2));
        })
        (λ to a edge e.
        let same : a ≡ n = some_same _ _ _ (low slot a (omega arith) e) here in
        let one = reached to (out.each to edge) in
        (one.0, one.1, rw (same, ← count_is) one.2))
      where
        -- a new count is the counter calls of some path, and at most the number of its slot:
        way_by : (k b : ℕ) → (slice_index_or old k None ≡ Some b) ⊎ (IsAmongTargets targets k × (b ≡ count)) → CallsOnWay slots k b
        way_by k b (inl e) = before.way k b e
        way_by k b (inr (of, e)) = rw (e, count_is) (extend slot k n (before.way slot n here) (out.only k of))

        small_by : (k b : ℕ) → (slice_index_or old k None ≡ Some b) ⊎ (IsAmongTargets targets k × (b ≡ count)) → b ≤ k
        small_by k b (inl e) = before.small k b e
        small_by k b (inr (of, e)) =
            let lt = later k of in
            let le = before.small slot n here in
            let one = one_call (instruction_at slots slot) in
            omega arith

  module _ (most : List (Option ℕ)) (counted : CountsFollowed slots (length slots) most) where
    -- the number at the end of a path is no less than the calls on it
    along : (from : ℕ) (rest : List ℕ) (n : ℕ) → IsPath slots from rest → slice_index_or most from None ≡ Some n
        → (m : ℕ) × (slice_index_or most (path_end from rest) None ≡ Some m) × (n + calls_before_end slots from rest ≤ m)
    along from [] n p e = (n, e, omega arith)
    along from (next ∷ rest) n p e =
        let one = counted.closed from next n (edge_inside slots from next p.0) p.0 e in
        let more = along next rest one.0 p.1 one.1 in
        (more.0, more.1, omega (arith, one.2, more.2))

    -- a number at a slot is the most calls on a path to the slot, and a slot without a number has no path
    most_by : (k : ℕ) (v : Option ℕ) → slice_index_or most k None ≡ v → IsMostCalls slots k v
    most_by k None e = λ path.
        let far = along 0 path.rest counted.begins.0 path.is_path counted.begins.1 in
        some_none _ _ (subst (λ (s : ℕ). slice_index_or most s None ≡ Some far.0) path.ends far.1) e
    most_by k (Some n) e = record {
      holds = counted.way k n e;
      bounds = λ m way.
          let far = along 0 way.rest counted.begins.0 way.is_path counted.begins.1 in
          let same : far.0 ≡ n = some_same _ _ _ (subst (λ (s : ℕ). slice_index_or most s None ≡ Some far.0) way.ends far.1) e in
          omega (arith, far.2, way.count_is);
    }

    -- the numbers are the greatest, once all edges have been followed
    pub most_is : (k : ℕ) → IsMostCalls slots k (slice_index_or most k None)
    most_is k = most_by k _ refl
