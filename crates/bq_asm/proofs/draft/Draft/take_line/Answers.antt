use Rattle.std.proofs.Common.{sym, ◌≡◌, ◌<◌, ◌∙◌, ap, refl, subst, length, List, Some}
use Rattle.std.specs.Result.{OnOk, IfErr}
use Rattle.bq_asm.specs.Lines.{words_between_blanks, line_of_words, parsed_line, Line}
use Rattle.bq_asm.specs.Operands.{word_texts}
use Rattle.bq_asm.specs.Draft.{IsDraftOf, TakesLine, RefusesLine}
use Rattle.bq_asm.specs.Faults.{cause_at_line}
use Rattle.bq_asm.specs.declared.fault.AssemblyCause.TheVariants.{Word}
use Rattle.bq_asm.proofs.DraftLemmas.{many_words}
use Rattle.bq_asm.proofs.draft.Draft.take_line.Goals as goal

pub returns-in_default-clause-fault : goal.returns-in_default-clause-fault
returns-in_default-clause-fault c =
    let many : (before : List Line) → IsDraftOf before c.args.self.now
    → cause_at_line before (parsed_line c.args.line.now) ≡ Some Word = λ before is.
    many_words before _ (subst (λ text. 4 < length (words_between_blanks text)) c.without_comment.ensures c.in_default.ensures) in
    subst (RefusesLine c.args.self.now c.args.number (parsed_line c.args.line.now)) (sym c.refusal.ensures) (refl, many)

pub returns-clause-ok : goal.returns-clause-ok
returns-clause-ok c =
    let same : line_of_words (word_texts c.as_slice.result.now) ≡ parsed_line c.args.line.now =
    ap (λ ws. line_of_words (word_texts ws)) c.as_slice.ensures.value
    ∙ ap line_of_words (c.in-Some.ensures ∙ ap words_between_blanks c.without_comment.ensures) in
    subst (λ line. OnOk c.take_words.result (TakesLine c.args.self.now c.take_words.new.self c.args.number line)) same
    c.take_words.ensures.ok

pub returns-clause-fault : goal.returns-clause-fault
returns-clause-fault c =
    let same : line_of_words (word_texts c.as_slice.result.now) ≡ parsed_line c.args.line.now =
    ap (λ ws. line_of_words (word_texts ws)) c.as_slice.ensures.value
    ∙ ap line_of_words (c.in-Some.ensures ∙ ap words_between_blanks c.without_comment.ensures) in
    subst (λ line. IfErr c.take_words.result (RefusesLine c.args.self.now c.args.number line)) same c.take_words.ensures.fault
