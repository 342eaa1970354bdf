use Rattle.std.proofs.Common.{◌≡◌, ℤ, pos, sym, subst, arith, rules, ⊎_elim}
use Rattle.std.proofs.lemmas.Int.{ints}
use Rattle.std.proofs.lemmas.Result.{on_ok_weaker}
use mir.Syntax.{w32}
use mir.Val.{SFits}
use Rattle.bq_insn.specs.declared.Insn.{Insn}
use Rattle.bq_insn.specs.declared.Insn.TheVariants.{Call}
use Rattle.bq_transfer.specs.Transfers.{AsksFrom}
use Rattle.bq_transfer.proofs.counters.ask.Goals as goal

pub returns-then-helper-eq-ADD_COUNTER-clause-asks : goal.returns-then-helper-eq-ADD_COUNTER-clause-asks
returns-then-helper-eq-ADD_COUNTER-clause-asks c =
    let fits : SFits w32 c.in-Call.helper = search rules in
    let is : c.in-Call.helper ≡ pos 100 = omega (arith, ints) in
    on_ok_weaker c.add.result
    (λ asks.
    subst (λ (i : Insn). AsksFrom i c.args.state.now c.add.new.state) (sym c.in-Call.is)
    (subst (λ (h : ℤ). AsksFrom (Call h) c.args.state.now c.add.new.state) (sym is) asks))
    c.add.ensures.asks

pub returns-clause-asks : goal.returns-clause-asks
returns-clause-asks c =
    let fits : SFits w32 c.in-Call.helper = search rules in
    let counter = rw c.in-Call.is at c.requires in
    let is : c.in-Call.helper ≡ pos 101 =
    ⊎_elim (λ (e : c.in-Call.helper ≡ pos 100). absurd (omega (arith, ints, e)))
    (λ (e : c.in-Call.helper ≡ pos 101). e) counter in
    on_ok_weaker c.read.result
    (λ asks.
    subst (λ (i : Insn). AsksFrom i c.args.state.now c.read.new.state) (sym c.in-Call.is)
    (subst (λ (h : ℤ). AsksFrom (Call h) c.args.state.now c.read.new.state) (sym is) asks))
    c.read.ensures.asks
