-- The discipline's own place is the first of the processors that the task may use.
use Rattle.std.proofs.Common.{◌≡◌, ◌≢◌, ℕ, zero, suc, ◌+◌, ◌<◌, ◌≤◌, Bool, true, false, cond, List, [], ◌∷◌, filter, Option, Some, None, refl, ap, ◌∙◌, subst, inl, inr, arith}
use Rattle.std.specs.Prelude.{IsSome, IfSome, slice_index, ◌&&◌, ◌==◌, not}
use Rattle.std.specs.List.{range_with_len}
use Rattle.std.proofs.lemmas.Bool.{cases_eq}
use Rattle.std.proofs.lemmas.Bool.Decides.{nat_tests}
use Rattle.bq_disc.specs.Tasks.{Task}
use Rattle.bq_disc.specs.Masks.{allows}
use Rattle.bq_hooks.specs.OwnPlace.{place_before, former_place, first_place, own_place}
use Rattle.bq_hooks.specs.PlaceLaw.{MayUse, OwnPlaceIsLawful}
use Rattle.bq_hooks.proofs.PlaceLemmas.{IsFit, first_fits, those_fit, own_place_there}

-- The order of places

-- a place comes before another one
abbrev goes_first : List ℕ → Option ℕ → ℕ → ℕ → Bool
goes_first loads previous a b = place_before loads previous a b && not (a == b)

-- if a is a better place than b, b does not go before a; if it is not better, a does not go before b:
one_way : (loads : List ℕ) (previous : Option ℕ) (a b : ℕ) → place_before loads previous a b ≡ true → goes_first loads previous b a ≡ false
one_way loads None a b h = grind (arith, nat_tests)
one_way loads (Some p) a b h = grind (arith, nat_tests)

no_first : (loads : List ℕ) (previous : Option ℕ) (a b : ℕ) → place_before loads previous a b ≡ false
    → goes_first loads previous a b ≡ false
no_first loads previous a b h = rw h refl

-- if a does not go before b, nor b before c, then a does not go before c
passes_on : (loads : List ℕ) (previous : Option ℕ) (a b c : ℕ)
    → goes_first loads previous a b ≡ false → goes_first loads previous b c ≡ false
    → goes_first loads previous a c ≡ false
passes_on loads None a b c h k = grind (arith, nat_tests)
passes_on loads (Some p) a b c h k = grind (arith, nat_tests)

-- no place goes before itself
not_itself : (loads : List ℕ) (previous : Option ℕ) (a : ℕ) → goes_first loads previous a a ≡ false
not_itself loads None a = grind (arith, nat_tests)
not_itself loads (Some p) a = grind (arith, nat_tests)

-- none of some places goes before p
abbrev NoneBefore : List ℕ → Option ℕ → ℕ → List ℕ → Type 0
NoneBefore loads previous p [] = Unit {0}
NoneBefore loads previous p (q ∷ qs) = (goes_first loads previous q p ≡ false) × NoneBefore loads previous p qs

-- if none goes before p, and p does not go before r, none goes before r
none_before_later : (loads : List ℕ) (previous : Option ℕ) (p r : ℕ) (qs : List ℕ)
    → goes_first loads previous p r ≡ false → NoneBefore loads previous p qs → NoneBefore loads previous r qs
none_before_later loads previous p r [] e h = tt
none_before_later loads previous p r (q ∷ qs) e h = (passes_on loads previous q p r h.0 e, none_before_later loads previous p r qs e h.1)

-- the better of p and of a place that is best of the rest is best of them all
first_of_two : (loads : List ℕ) (previous : Option ℕ) (p q : ℕ) (ps : List ℕ) (b : Bool)
    → place_before loads previous q p ≡ b → NoneBefore loads previous q ps
    → NoneBefore loads previous (cond b q p) (p ∷ ps)
first_of_two loads previous p q ps true e h = (one_way loads previous q p e, h)
first_of_two loads previous p q ps false e h =
    (not_itself loads previous p, none_before_later loads previous q p ps (no_first loads previous q p e) h)

-- the place is the best of a list, or there is no place and the list is empty
abbrev IsFirst : List ℕ → Option ℕ → List ℕ → Option ℕ → Type 0
IsFirst loads previous ps None = ps ≡ []
IsFirst loads previous ps (Some q) = NoneBefore loads previous q ps

-- the better of p and of the best of the rest, if there is a rest, is the best of all
first_with : (loads : List ℕ) (previous : Option ℕ) (p : ℕ) (ps : List ℕ) (o : Option ℕ)
    → IsFirst loads previous ps o → NoneBefore loads previous (former_place loads previous p o) (p ∷ ps)
first_with loads previous p ps None h = (not_itself loads previous p, rw h tt)
first_with loads previous p ps (Some q) h = first_of_two loads previous p q ps (place_before loads previous q p) refl h

-- none comes before the first
is_first : (loads : List ℕ) (previous : Option ℕ) (ps : List ℕ) → IsFirst loads previous ps (first_place loads previous ps)
is_first loads previous [] = refl
is_first loads previous (p ∷ ps) = first_with loads previous p ps (first_place loads previous ps) (is_first loads previous ps)

-- Of the processors of a mask

-- if none of a list goes before p, neither does an item that a test added, nor any item of the rest:
here_by_test : (loads : List ℕ) (previous : Option ℕ) (p a : ℕ) (qs : List ℕ) (b : Bool)
    → b ≡ true → NoneBefore loads previous p (cond b (a ∷ qs) qs) → goes_first loads previous a p ≡ false
here_by_test loads previous p a qs true e h = h.0
here_by_test loads previous p a qs false e h = cc

later_by_test : (loads : List ℕ) (previous : Option ℕ) (p a : ℕ) (qs : List ℕ) (b : Bool)
    → NoneBefore loads previous p (cond b (a ∷ qs) qs) → NoneBefore loads previous p qs
later_by_test loads previous p a qs true h = h.1
later_by_test loads previous p a qs false h = h

-- if none of the allowed processors of a range goes before p, each of them on its own does not
none_of_mask : (loads : List ℕ) (previous : Option ℕ) (mask p a n q : ℕ)
    → NoneBefore loads previous p (filter (allows mask) (range_with_len a n)) → a ≤ q → q < a + n → allows mask q ≡ true
    → goes_first loads previous q p ≡ false
none_of_mask loads previous mask p a zero q h l k e = absurd (omega arith)
none_of_mask loads previous mask p a (suc n) q h l k e =
    let rest = filter (allows mask) (range_with_len (a + 1) n) in
    elim (cases_eq a q) [
      | inl same ↦
          subst (λ j. goes_first loads previous j p ≡ false) same
          (here_by_test loads previous p a rest (allows mask a) (ap (allows mask) same ∙ e) h)
      | inr other ↦
          none_of_mask loads previous mask p (a + 1) n q (later_by_test loads previous p a rest (allows mask a) h)
          (omega arith) (omega arith) e
    ]

-- the best place of the mask, if there is one, has none before it that the task may use; so has the own place:
none_first : (count : ℕ) (loads : List ℕ) (t : Task) (o : Option ℕ)
    → IsFirst loads t.prev (filter (allows t.mask) (range_with_len 0 count)) o
    → IfSome o (λ p. (q : ℕ) → MayUse count t q → goes_first loads t.prev q p ≡ false)
none_first count loads t None h = tt
none_first count loads t (Some p) h = λ q u. none_of_mask loads t.prev t.mask p 0 count q h (omega arith) (omega (arith, u.0)) u.1

none_before : (count : ℕ) (loads : List ℕ) (t : Task)
    → IfSome (own_place count loads t) (λ p. (q : ℕ) → MayUse count t q → goes_first loads t.prev q p ≡ false)
none_before count loads t =
    none_first count loads t (own_place count loads t)
    (is_first loads t.prev (filter (allows t.mask) (range_with_len 0 count)))

-- What the order says of loads and numbers

-- if q does not go before p, the load of p is at most that of q
no_less : (loads : List ℕ) (previous : Option ℕ) (p q : ℕ) → goes_first loads previous q p ≡ false
    → slice_index loads p ≤ slice_index loads q
no_less loads None p q h = grind (arith, nat_tests)
no_less loads (Some r) p q h = grind (arith, nat_tests)

-- if the previous processor does not go before p and has the same load, it is p
the_previous : (loads : List ℕ) (p q : ℕ) → goes_first loads (Some q) q p ≡ false → slice_index loads q ≡ slice_index loads p → p ≡ q
the_previous loads p q h e = grind (arith, nat_tests)

-- if q does not go before p and has the same load, and p is not the previous processor, p is at most q
no_lower : (loads : List ℕ) (previous : Option ℕ) (p q : ℕ) → goes_first loads previous q p ≡ false
    → slice_index loads q ≡ slice_index loads p → previous ≢ Some p
    → p ≤ q
no_lower loads None p q h e n = grind (arith, nat_tests)
no_lower loads (Some r) p q h e n =
    let other : r ≢ p = λ s. n (ap (λ i. Some i) s) in
    grind (arith, nat_tests)

-- what follows from a property holds of an item if the property does
weaker : (o : Option ℕ) (P Q : ℕ → Type 0) → ((p : ℕ) → P p → Q p) → IfSome o P → IfSome o Q
weaker None P Q f h = tt
weaker (Some p) P Q f h = f p h

-- an option that is equal to some item has one
some_is : (o : Option ℕ) (p : ℕ) → o ≡ Some p → IsSome o
some_is None p e = cc
some_is (Some q) p e = refl

-- the own place is of the mask, none of the mask has less load, and ties go to the previous processor, else to the least number
pub own_place_is_lawful : OwnPlaceIsLawful
own_place_is_lawful = record {
  exists = λ count loads t h. let there = own_place_there count loads t h in some_is (own_place count loads t) there.0 there.1;
  member = λ count loads t.
      first_fits (IsFit count t.mask) loads t.prev (filter (allows t.mask) (range_with_len 0 count))
      (those_fit count t.mask 0 count (omega arith));
  lightest = λ count loads t.
      weaker (own_place count loads t) (λ p. (q : ℕ) → MayUse count t q → goes_first loads t.prev q p ≡ false) _
      (λ p h q u. no_less loads t.prev p q (h q u)) (none_before count loads t);
  previous = λ count loads t.
      weaker (own_place count loads t) (λ p. (q : ℕ) → MayUse count t q → goes_first loads t.prev q p ≡ false) _
      (λ p h q u e was. the_previous loads p q (subst (λ o. goes_first loads o q p ≡ false) was (h q u)) e) (none_before count loads t);
  lowest = λ count loads t.
      weaker (own_place count loads t) (λ p. (q : ℕ) → MayUse count t q → goes_first loads t.prev q p ≡ false) _
      (λ p h q u e n. no_lower loads t.prev p q (h q u) e n) (none_before count loads t);
}
