use Rattle.std.proofs.Common.{◌∙◌, sym, ap, subst, get_or, take, drop, length, ◌-◌, []}
use Rattle.std.specs.Result.{OnOk, IfErr}
use Rattle.bq_asm.specs.Lines.{parsed}
use Rattle.bq_asm.specs.Operands.{word_texts}
use Rattle.bq_asm.specs.Draft.{TakesLine, RefusesLine}
use Rattle.bq_asm.proofs.DraftLemmas.{line_of-first, line_of-none, blank_line}
use Rattle.bq_asm.proofs.draft.Draft.take_words.Goals as goal

pub returns-in_default-clause-ok : goal.returns-in_default-clause-ok
returns-in_default-clause-ok c =
    subst (TakesLine c.args.self.now c.args.self.now c.args.number)
    (sym (line_of-none c.args.words.now c.in_default.len_below)) (blank_line c.args.self.now c.args.number)

pub returns-in-Some-clause-ok : goal.returns-in-Some-clause-ok
returns-in-Some-clause-ok c =
    let words = c.args.words.now in
    let first = get_or words 0 (record { ref_ptr = (0, 0); now = [] }) in
    let operands = word_texts (take (length words - 1) (drop 1 words)) in
    let line =
    ap (parsed first.now operands) c.in-Some.ensures
    ∙ sym (line_of-first words (record { ref_ptr = (0, 0); now = [] }) c.in-len1-up.len_at_least) in
    subst (λ l. OnOk c.set_label.result (TakesLine c.args.self.now c.set_label.new.self c.args.number l)) line c.set_label.ensures.ok

pub returns-in-None-clause-ok : goal.returns-in-None-clause-ok
returns-in-None-clause-ok c =
    let words = c.args.words.now in
    let first = get_or words 0 (record { ref_ptr = (0, 0); now = [] }) in
    let operands = word_texts (take (length words - 1) (drop 1 words)) in
    let line =
    ap (parsed first.now operands) c.in-None.ensures
    ∙ sym (line_of-first words (record { ref_ptr = (0, 0); now = [] }) c.in-len1-up.len_at_least) in
    subst (λ l. OnOk c.take_instruction.result (TakesLine c.args.self.now c.take_instruction.new.self c.args.number l)) line
    c.take_instruction.ensures.ok

pub returns-in-Some-clause-fault : goal.returns-in-Some-clause-fault
returns-in-Some-clause-fault c =
    let words = c.args.words.now in
    let first = get_or words 0 (record { ref_ptr = (0, 0); now = [] }) in
    let operands = word_texts (take (length words - 1) (drop 1 words)) in
    let line =
    ap (parsed first.now operands) c.in-Some.ensures
    ∙ sym (line_of-first words (record { ref_ptr = (0, 0); now = [] }) c.in-len1-up.len_at_least) in
    subst (λ l. IfErr c.set_label.result (RefusesLine c.args.self.now c.args.number l)) line c.set_label.ensures.fault

pub returns-in-None-clause-fault : goal.returns-in-None-clause-fault
returns-in-None-clause-fault c =
    let words = c.args.words.now in
    let first = get_or words 0 (record { ref_ptr = (0, 0); now = [] }) in
    let operands = word_texts (take (length words - 1) (drop 1 words)) in
    let line =
    ap (parsed first.now operands) c.in-None.ensures
    ∙ sym (line_of-first words (record { ref_ptr = (0, 0); now = [] }) c.in-len1-up.len_at_least) in
    subst (λ l. IfErr c.take_instruction.result (RefusesLine c.args.self.now c.args.number l)) line c.take_instruction.ensures.fault
