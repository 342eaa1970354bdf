use Rattle.std.proofs.Common.{◌≡◌, ◌+◌, ◌∙◌, sym, ap, length-append, ◌∷◌, [], true, false}
use Rattle.std.proofs.lemmas.Iterator.Splits.{YieldsList-from_lines}
use Rattle.std.proofs.lemmas.Iterator.Consumers.{YieldsList-end}
use Rattle.bq_asm.specs.Lines.{is_instruction, parsed_line}
use Rattle.bq_policy_file.specs.Files.{instruction_lines}
use Rattle.bq_policy_file.proofs.HeadLemmas.{lines_with, lines_without}
use Rattle.bq_policy_file.proofs.reading.lines_of.Goals as goal

pub loop-line-preserved-in-Continue-1 : goal.loop-line-preserved-in-Continue-1
loop-line-preserved-in-Continue-1 c =
    let yielded = c.loop-line.yielded in
    let states : is_instruction (parsed_line c.in-Some.line.now) ≡ true =
    ap (λ line. is_instruction (parsed_line line)) (sym c.as_bytes.ensures.value) ∙ sym c.is_instruction_line.ensures
    ∙ c.if-is_instruction_line.true in
    record {
      stated =
          c.in_ok-push.ensures.items
          ∙ lines_with yielded c.in-Some.line c.loop-line.numbers.items c.loop-line.number c.loop-line.invariant.stated
          c.loop-line.invariant.count states;
      count = ap (λ n. n + 1) c.loop-line.invariant.count ∙ sym (length-append yielded (c.in-Some.line ∷ []));
    }

pub loop-line-preserved : goal.loop-line-preserved
loop-line-preserved c =
    let yielded = c.loop-line.yielded in
    let states : is_instruction (parsed_line c.in-Some.line.now) ≡ false =
    ap (λ line. is_instruction (parsed_line line)) (sym c.as_bytes.ensures.value) ∙ sym c.is_instruction_line.ensures
    ∙ c.if-is_instruction_line.false in
    record {
      stated = lines_without yielded c.in-Some.line c.loop-line.numbers.items c.loop-line.invariant.stated states;
      count = ap (λ n. n + 1) c.loop-line.invariant.count ∙ sym (length-append yielded (c.in-Some.line ∷ []));
    }

pub returns : goal.returns
returns c =
    let e = YieldsList-from_lines c.args.text.now cc in
    let end = YieldsList-end e c.loop-line.yielded _ c.loop-line.yielded_by _ _ c.in-None.is c.next.ensures.steps in
    c.loop-line.invariant.stated ∙ ap (instruction_lines 1) end.0
