use Rattle.std.proofs.Common.{ℕ, pos, subst, sym, ap, inl, inr, ◌∙◌, ℤ, arith, ◌≡◌, ◌≢◌, rules}
use Rattle.bq_insn.specs.declared.Insn.{Insn}
use Rattle.bq_transfer.specs.After.{After}
use Rattle.bq_transfer.proofs.CertaintyLemmas.{has_answered, has_looked_up}
use Rattle.bq_insn.specs.declared.Insn.TheVariants.{Call}
use mir.Syntax.{w32}
use mir.Val.{SFits}
use Rattle.std.proofs.lemmas.Int.{ints}
use Rattle.bq_transfer.proofs.calls.call.Goals as goal

pub returns-then-helper-eq-LOOKUP-clause-transfers : goal.returns-then-helper-eq-LOOKUP-clause-transfers
returns-then-helper-eq-LOOKUP-clause-transfers c =
    let fits : SFits w32 c.args.helper = search rules in
    let is : c.args.helper ≡ pos 1 = omega (arith, ints) in
    rw is c.look_up.ensures.transfers

pub returns-then-helper-eq-NOW-clause-transfers : goal.returns-then-helper-eq-NOW-clause-transfers
returns-then-helper-eq-NOW-clause-transfers c =
    let fits : SFits w32 c.args.helper = search rules in
    let is : c.args.helper ≡ pos 5 = omega (arith, ints) in
    rw is (c.now.ensures.transfers c.args.shapes.now c.args.context)

pub returns-then-helper-eq-PROCESSOR-clause-transfers : goal.returns-then-helper-eq-PROCESSOR-clause-transfers
returns-then-helper-eq-PROCESSOR-clause-transfers c =
    let fits : SFits w32 c.args.helper = search rules in
    let is : c.args.helper ≡ pos 8 = omega (arith, ints) in
    rw is (c.processor.ensures.transfers c.args.shapes.now c.args.context)

pub returns-then-helper-eq-UPDATE-clause-transfers : goal.returns-then-helper-eq-UPDATE-clause-transfers
returns-then-helper-eq-UPDATE-clause-transfers c =
    let fits : SFits w32 c.args.helper = search rules in
    let is : c.args.helper ≡ pos 2 = omega (arith, ints) in
    rw is c.update.ensures.transfers

pos_is : (a b : ℕ) → pos a ≡ pos b → a ≡ b
pos_is a b e = cc

pub returns-then-helper-eq-LOOKUP-clause-accepts : goal.returns-then-helper-eq-LOOKUP-clause-accepts
returns-then-helper-eq-LOOKUP-clause-accepts c = λ ready.
    let fits : SFits w32 c.args.helper = search rules in
    let is : c.args.helper ≡ pos 1 = omega (arith, ints) in
    elim ready [
      | inl either ↦
          elim either [
            | inl e ↦ absurd (let numbers = pos_is 5 1 (sym e ∙ is) in omega (arith, numbers))
            | inr e ↦ absurd (let numbers = pos_is 8 1 (sym e ∙ is) in omega (arith, numbers))
          ]
      | inr rest ↦
          elim rest [
            | inl n ↦ (
              (c.look_up.ensures.accepts n.1 n.2).0,
              λ x slot k after.
                  has_looked_up x slot k n.1 c.args.state.now c.look_up.new.state n.2.names (c.look_up.ensures.accepts n.1 n.2).1
                  (subst (λ (i : Insn). After x slot k i c.args.state.now) (ap (λ (h : ℤ). Call h) is) after),
            )
            | inr n ↦ absurd (let numbers = pos_is 2 1 (sym n.0 ∙ is) in omega (arith, numbers))
          ]
    ]

pub returns-then-helper-eq-UPDATE-clause-accepts : goal.returns-then-helper-eq-UPDATE-clause-accepts
returns-then-helper-eq-UPDATE-clause-accepts c = λ ready.
    let fits : SFits w32 c.args.helper = search rules in
    let is : c.args.helper ≡ pos 2 = omega (arith, ints) in
    let other : c.args.helper ≢ pos 1 = λ e. (let numbers = pos_is 1 2 (sym e ∙ is) in omega (arith, numbers)) in
    elim ready [
      | inl either ↦
          elim either [
            | inl e ↦ absurd (let numbers = pos_is 5 2 (sym e ∙ is) in omega (arith, numbers))
            | inr e ↦ absurd (let numbers = pos_is 8 2 (sym e ∙ is) in omega (arith, numbers))
          ]
      | inr rest ↦
          elim rest [
            | inl n ↦ absurd (other n.0)
            | inr n ↦ (
              (c.update.ensures.accepts n.1 n.2).0,
              λ x slot k after.
                  has_answered x slot k c.args.helper c.args.state.now c.update.new.state other
                  (c.update.ensures.accepts n.1 n.2).1 after,
            )
          ]
    ]
