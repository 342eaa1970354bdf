use Rattle.std.proofs.Common.{rules, ◌≡◌, ℕ, ◌<◌, List, Bool, Option, [], ◌⊎◌, inl, inr, length, arith, subst, sym}
use Rattle.std.specs.Prelude.{Contains}
use Rattle.bq_insn.specs.declared.Insn.{Insn}
use Rattle.bq_explain.specs.Makers.{AreOnTrail, IsOnTrail, MakesAsked, first}
use Rattle.bq_explain.specs.declared.makers.Maker.{Maker}
use Rattle.std.proofs.lemmas.List.Elements.{Contains-get_or}
use Rattle.bq_explain.proofs.makers.find_makers_on_trail.Goals.{then-at-len+in_ok-push_operands, else-at-len}
use Rattle.bq_explain.proofs.makers.find_makers_on_trail.Goals as goal

-- what made one of the registers is on their trail
begun : (slots : List (Option Insn)) (slot : ℕ) (asked : List Bool) (old new : List Maker) → old ≡ []
    → ((maker : Maker) → Contains new maker → Contains old maker ⊎ MakesAsked slots slot asked maker) → AreOnTrail slots slot asked new
begun slots slot asked old new none pushed maker there = by (pushed maker there)
  where
    empty : Contains [] maker → ⊥
    empty there = let less = there.1 in omega arith

    by : Contains old maker ⊎ MakesAsked slots slot asked maker → IsOnTrail slots slot asked maker.register maker.slot
    by (inl earlier) = absurd (empty (subst (λ (l : List Maker). Contains l maker) none earlier))
    by (inr made) = first maker.register maker.slot made.of_asked made.makes

pub loop-at-init : goal.loop-at-init
loop-at-init c =
    begun c.args.walk.now.slots.now c.args.slot c.args.asked.now c.new-trail.result.items c.push_makers.new.trail.items
    c.new-trail.ensures.items c.in_ok-push_makers.ensures

pub loop-at-preserved : goal.loop-at-preserved
loop-at-preserved c =
    elim c.if-at-len.branch [
      | then-at-len+in_ok-push_operands w ↦
          let inside : c.loop-at.at < length c.loop-at.trail.items = search rules in
          let there =
          subst (λ (m : Maker). Contains c.loop-at.trail.items m) (sym w.index-maker.ensures)
          (Contains-get_or c.loop-at.trail.items c.loop-at.at w.index-maker.result.now inside) in
          rw w.trail-is (w.in_ok-push_operands.ensures c.args.slot c.args.asked.now
          (c.loop-at.invariant w.index-maker.result.now there) c.loop-at.invariant)
      | else-at-len w ↦ rw w.trail-is c.loop-at.invariant
    ]
