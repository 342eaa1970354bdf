use Rattle.std.proofs.Common.{◌≡◌, ◌++◌, ◌∷◌, ℕ, [], List, ◌⊎◌, inl, inr, subst, sym, ap}
use Rattle.std.specs.Prelude.{Contains, slice_index_or}
use Rattle.std.proofs.lemmas.List.Elements.{Contains-push_cases, Contains-get_or}
use Rattle.bq_explain.specs.declared.makers.Maker.{Maker}
use Rattle.bq_explain.proofs.makers.push_named.Goals.{then-len-lt-MOST_MAKERS+then-not-is_left_out+in_ok-push, else-len-lt-MOST_MAKERS}
use Rattle.bq_explain.proofs.makers.push_named.Goals as goal

-- what is there after one more maker is pushed
one_more : (register slot : ℕ) (made : List ℕ) (old new before : List Maker)
    → Contains made slot → new ≡ old ++ record { slot = slot; register = register } ∷ []
    → ((maker : Maker) → Contains old maker → Contains before maker ⊎ ((maker.register ≡ register) × Contains made maker.slot))
    → (maker : Maker) → Contains new maker
    → Contains before maker ⊎ ((maker.register ≡ register) × Contains made maker.slot)
one_more register slot made old new before from is was maker there =
    by
    (Contains-push_cases old (record { slot = slot; register = register }) maker (subst (λ (l : List Maker). Contains l maker) is there))
  where
    by : Contains old maker ⊎ (record { slot = slot; register = register } ≡ maker)
        → Contains before maker ⊎ ((maker.register ≡ register) × Contains made maker.slot)
    by (inl earlier) = was maker earlier
    by (inr same) =
        inr (sym (ap (λ (m : Maker). m.register) same), subst (λ (n : ℕ). Contains made n) (ap (λ (m : Maker). m.slot) same) from)

pub loop-slot-preserved : goal.loop-slot-preserved
loop-slot-preserved c =
    elim c.if-len-lt-MOST_MAKERS.branch [
      | then-len-lt-MOST_MAKERS+then-not-is_left_out+in_ok-push w ↦
          one_more c.args.register (slice_index_or c.args.made.now c.loop-slot.slot-index 0)
          c.args.made.now c.loop-slot.trail.items c.if-len-lt-MOST_MAKERS.trail.items c.args.trail.now.items
          (Contains-get_or c.args.made.now c.loop-slot.slot-index 0 c.loop-slot-test.true)
          (rw w.trail-is w.in_ok-push.ensures.items) c.loop-slot.invariant
      | else-len-lt-MOST_MAKERS w ↦ rw w.trail-is c.loop-slot.invariant
    ]
