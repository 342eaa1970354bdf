use Rattle.std.proofs.Common.{rules, ◌≡◌, ◌↔◌, Option, ℕ, ◌⊎◌, inl, inr, true, false, List, Bool}
use Rattle.std.specs.Prelude.{Contains, slice_index_or}
use Rattle.bq_insn.specs.declared.Insn.{Insn}
use Rattle.bq_explain.specs.Makers.{IsMaker, MakesAsked}
use Rattle.bq_explain.specs.declared.makers.Maker.{Maker}
use Rattle.bq_explain.proofs.makers.push_makers.Goals.{then-asked-from+in_ok-made+in_ok-reaching+in_ok-push_named, else-asked-from}
use Rattle.bq_explain.proofs.makers.push_makers.Goals as goal

-- what is there after the makers of one more of the registers are pushed
more : (slots : List (Option Insn)) (slot register : ℕ) (asked : List Bool) (made : List ℕ) (before old new : List Maker)
    → slice_index_or asked register false ≡ true → ((k : ℕ) → Contains made k ↔ IsMaker slots register slot k)
    → ((maker : Maker) → Contains new maker → Contains old maker ⊎ ((maker.register ≡ register) × Contains made maker.slot))
    → ((maker : Maker) → Contains old maker → Contains before maker ⊎ MakesAsked slots slot asked maker)
    → (maker : Maker) → Contains new maker
    → Contains before maker ⊎ MakesAsked slots slot asked maker
more slots slot register asked made before old new is_asked makes pushed was maker there = by (pushed maker there)
  where
    by : Contains old maker ⊎ ((maker.register ≡ register) × Contains made maker.slot)
        → Contains before maker ⊎ MakesAsked slots slot asked maker
    by (inl earlier) = was maker earlier
    by (inr (same, from)) = inr (record {
      of_asked = rw same is_asked;
      makes = rw same ((makes maker.slot).0 from);
    })

pub loop-register-preserved : goal.loop-register-preserved
loop-register-preserved c =
    elim c.if-asked-from.branch [
      | then-asked-from+in_ok-made+in_ok-reaching+in_ok-push_named w ↦
          let is_asked : slice_index_or c.args.asked.now c.loop-register.register false ≡ true = search rules in
          more c.args.walk.now.slots.now c.args.slot c.loop-register.register c.args.asked.now w.in_ok-made.made.items
          c.args.trail.now.items c.loop-register.trail.items c.if-asked-from.trail.items is_asked w.in_ok-made.ensures
          (rw (w.trail-is, ← w.as_slice.ensures.value) w.in_ok-push_named.ensures) c.loop-register.invariant
      | else-asked-from w ↦ rw w.trail-is c.loop-register.invariant
    ]
