use Rattle.std.proofs.Common.{ℕ, List, Bool, Option, subst, sym}
use Rattle.bq_insn.specs.declared.Insn.{Insn}
use Rattle.bq_explain.specs.Explained.{AreMade, AreOf}
use Rattle.bq_explain.specs.Makers.{AreOnTrail, IsOnTrail}
use Rattle.bq_explain.specs.declared.makers.Maker.{Maker}
use Rattle.bq_explain.specs.declared.trail.RegisterMaker.{RegisterMaker}
use Rattle.bq_explain.proofs.trail.find_trail.Goals as goal

-- what tells of makers on the trail is on it
on_trail : (slots : List (Option Insn)) (slot : ℕ) (asked : List Bool) (makers : List Maker) (made : List RegisterMaker)
    → AreOnTrail slots slot asked makers → AreOf slots makers made → AreMade slots slot asked made
on_trail slots slot asked makers made on of one there =
    let source = of one there in (
      subst (λ (r : ℕ). IsOnTrail slots slot asked r one.place.slot) (sym source.2.register_is)
          (subst (λ (s : ℕ). IsOnTrail slots slot asked source.0.register s) (sym source.2.slot_is) (on source.0 source.1)),
      source.2.insn_is,
    )

pub returns : goal.returns
returns c =
    on_trail c.args.slots.now c.args.slot c.args.asked.now c.in_ok-found.found.items c.in_ok-makers.makers.items
    c.in_ok-found.ensures (rw (← c.as_slice.ensures.value) c.in_ok-makers.ensures)
