use Rattle.std.proofs.Common.{List, Option, reverse, subst, sym, ap, ◌∙◌, ◌≡◌, true, ℕ}
use Rattle.std.proofs.lemmas.Result.{err_from_is_err_and}
use Rattle.bq_insn.specs.declared.Insn.{Insn}
use Rattle.bq_insn.specs.Slots.{spread}
use Rattle.bq_insn.specs.Spelling.{is_well_formed}
use Rattle.bq_import.specs.Copies.{IsCopy}
use Rattle.bq_import.proofs.OrderLemmas.{is_copy}
use Rattle.bq_import.proofs.ProgramLemmas.{written_is_well_formed}
use Rattle.bq_import.proofs.ReachLemmas.{wrong_by_search}
use Rattle.bq_import.proofs.order.search_order.Goals as goal

pub run-requires-clause-done : goal.run-requires-clause-done
run-requires-clause-done c = c.in_ok-search.ensures.done c.args.maps

pub returns-in_err-run-clause-disorder : goal.returns-in_err-run-clause-disorder
returns-in_err-run-clause-disorder c =
    let p = err_from_is_err_and c.from_residual-in_err-run.result c.from_residual-in_err-run.ensures.1 in
    rw (p.1, p.2) (wrong_by_search c.args.slots.now c.in_err-run.field-0.0 c.requires.back c.in_err-run.ensures.err)

pub returns-clause-copy : goal.returns-clause-copy
returns-clause-copy c =
    let back = c.run.new.self.copy.slots.items in
    let origins = c.run.new.self.copy.origins.items in
    let ordered = c.in_ok-ordered.ordered in
    let built = c.in_ok-run.ensures.built in
    let turned = c.in_ok-ordered.ensures in
    subst (λ (xs : List (Option Insn)). IsCopy c.args.maps c.args.slots.now xs ordered.origins.items)
    (sym (ap spread turned.insns ∙ built.spread_is))
    (subst (λ (ys : List ℕ). IsCopy c.args.maps c.args.slots.now (reverse back) ys) (sym turned.origins)
    (is_copy c.args.maps c.args.slots.now back origins built c.in_ok-run.ensures.front))

pub returns-clause-well_formed : goal.returns-clause-well_formed
returns-clause-well_formed c =
    let back = c.run.new.self.copy.slots.items in
    let origins = c.run.new.self.copy.origins.items in
    subst (λ (xs : List Insn). is_well_formed xs ≡ true) (sym c.in_ok-ordered.ensures.insns)
    (written_is_well_formed c.args.maps c.args.slots.now back origins c.in_ok-run.ensures.built c.in_ok-run.ensures.front)
