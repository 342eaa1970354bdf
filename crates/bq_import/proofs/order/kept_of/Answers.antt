use Rattle.std.proofs.Common.{ℕ, List, Option, subst, sym, ap, ◌∙◌}
use Rattle.bq_insn.specs.declared.Insn.{Insn}
use Rattle.bq_insn.specs.Slots.{spread}
use Rattle.bq_import.specs.Copies.{AreComposed, IsCopy}
use Rattle.bq_import.specs.Faults.{AllForward, IsLinked}
use Rattle.bq_import.proofs.ComposeLemmas.{copy_of_copy}
use Rattle.bq_import.proofs.ReachLemmas.{copy_forward, copy_linked}
use Rattle.bq_import.proofs.order.kept_of.Goals as goal

pub kept-requires-clause-linked : goal.kept-requires-clause-linked
kept-requires-clause-linked c =
    let p = c.requires.copy in
    let first = c.args.searched.now in
    let same = c.as_slice-2.ensures.value ∙ (c.in_ok-slots.ensures ∙ ap spread c.as_slice.ensures.value) in
    subst (λ (s : List (Option Insn)). IsLinked s) (sym same)
    (copy_linked p.0 p.1 first.insns.items first.origins.items p.2 c.requires.well_formed c.requires.numbers)

pub kept-requires-clause-forward : goal.kept-requires-clause-forward
kept-requires-clause-forward c =
    let p = c.requires.copy in
    let first = c.args.searched.now in
    let same = c.as_slice-2.ensures.value ∙ (c.in_ok-slots.ensures ∙ ap spread c.as_slice.ensures.value) in
    subst (λ (s : List (Option Insn)). AllForward s) (sym same)
    (copy_forward p.0 p.1 first.insns.items first.origins.items p.2 c.requires.well_formed c.requires.numbers)

pub returns-clause-copy : goal.returns-clause-copy
returns-clause-copy c = λ maps old p.
    let first = c.args.searched.now in
    let kept = c.in_ok-insns.field-0 in
    let same = c.as_slice-2.ensures.value ∙ (c.in_ok-slots.ensures ∙ ap spread c.as_slice.ensures.value) in
    let second : IsCopy 0 (spread first.insns.items) (spread kept.insns.items) kept.origins.items =
    subst (λ (s : List (Option Insn)). IsCopy 0 s (spread kept.insns.items) kept.origins.items) same c.in_ok-insns.ensures.copy in
    let composed : AreComposed first.origins.items kept.origins.items c.in_ok-origins.origins.items =
    subst (λ (xs : List ℕ). AreComposed xs kept.origins.items c.in_ok-origins.origins.items) c.as_slice-3.ensures.value
    (subst (λ (ys : List ℕ). AreComposed c.as_slice-3.result.now ys c.in_ok-origins.origins.items)
    c.as_slice-4.ensures.value c.in_ok-origins.ensures) in
    copy_of_copy maps old (spread first.insns.items) (spread kept.insns.items) first.origins.items kept.origins.items
    c.in_ok-origins.origins.items p second composed c.in_ok-insns.ensures.long
