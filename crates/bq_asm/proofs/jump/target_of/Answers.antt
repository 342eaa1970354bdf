use Rattle.std.proofs.Common.{◌∙◌, sym, ap, Some, None}
use Rattle.std.specs.Prelude.{option_map, if◌then◌else◌}
use Rattle.std.specs.Option.{option_copied}
use Rattle.bq_asm.proofs.JumpLemmas.{target_of-jump}
use Rattle.bq_asm.proofs.jump.target_of.Goals as goal

pub returns-in_err-word : goal.returns-in_err-word
returns-in_err-word c =
    let last = ap option_copied (sym c.in_err-word.was) ∙ c.last.ensures.value in
    ap (option_map (λ word. word.now)) c.from_residual.ensures
    ∙ sym (target_of-jump c.args.insn c.args.operands.now None (sym c.is_jump.ensures ∙ c.if-not-is_jump.false) last)

pub returns-then-is_label : goal.returns-then-is_label
returns-then-is_label c =
    let word = c.in_ok-word.field-0.now in
    let last = ap option_copied (sym c.in_ok-word.was) ∙ c.last.ensures.value in
    sym (target_of-jump c.args.insn c.args.operands.now (Some word) (sym c.is_jump.ensures ∙ c.if-not-is_jump.false) last
    ∙ ap (λ b. if b then Some word.now else None) (sym c.is_label.ensures ∙ c.if-is_label.true))

pub returns-else-is_label : goal.returns-else-is_label
returns-else-is_label c =
    let word = c.in_ok-word.field-0.now in
    let last = ap option_copied (sym c.in_ok-word.was) ∙ c.last.ensures.value in
    sym (target_of-jump c.args.insn c.args.operands.now (Some word) (sym c.is_jump.ensures ∙ c.if-not-is_jump.false) last
    ∙ ap (λ b. if b then Some word.now else None) (sym c.is_label.ensures ∙ c.if-is_label.false))
