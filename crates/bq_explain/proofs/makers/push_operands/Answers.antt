use Rattle.std.proofs.Common.{◌≡◌, ℕ, List, Bool, Option, Some, ◌⊎◌, inl, inr, true, false, sym, ◌∙◌}
use Rattle.std.specs.Prelude.{Contains, slice_index_or}
use Rattle.std.proofs.lemmas.Result.{on_ok_weaker}
use Rattle.bq_insn.specs.declared.Insn.{Insn}
use Rattle.bq_bpf.specs.Steps.{instruction_at}
use Rattle.bq_needs.specs.Operands.{reads}
use Rattle.bq_explain.specs.Makers.{AreOnTrail, IsOnTrail, MakesAsked, further}
use Rattle.bq_explain.specs.declared.makers.Maker.{Maker}
use Rattle.bq_explain.proofs.makers.push_operands.Goals as goal

-- what made an operand of an instruction that is on the trail, is on it
longer : (slots : List (Option Insn)) (later : Maker) (insn : Insn) (operands : List Bool) (old new : List Maker)
    → instruction_at slots later.slot ≡ Some insn → ((r : ℕ) → slice_index_or operands r false ≡ true → reads insn r ≡ true)
    → ((maker : Maker) → Contains new maker → Contains old maker ⊎ MakesAsked slots later.slot operands maker)
    → (slot : ℕ) (asked : List Bool) → IsOnTrail slots slot asked later.register later.slot → AreOnTrail slots slot asked old
    → AreOnTrail slots slot asked new
longer slots later insn operands old new here reads_them pushed slot asked on were maker there = by (pushed maker there)
  where
    by : Contains old maker ⊎ MakesAsked slots later.slot operands maker → IsOnTrail slots slot asked maker.register maker.slot
    by (inl earlier) = were maker earlier
    by (inr made) =
        further maker.register maker.slot later.slot later.register on
        (record { insn = insn; here = here; reads_it = reads_them maker.register made.of_asked }) made.makes

pub returns : goal.returns
returns c =
    let here : instruction_at c.args.walk.now.slots.now c.args.maker.slot ≡ Some c.in-Some.insn = sym c.instruction.ensures ∙ c.in-Some.is in
    on_ok_weaker c.push_makers.result
    (longer c.args.walk.now.slots.now c.args.maker c.in-Some.insn c.read_registers.result c.args.trail.now.items
    c.push_makers.new.trail.items here c.read_registers.ensures) c.push_makers.ensures
