use Rattle.std.proofs.Common.{◌≡◌, ◌++◌, ap, ◌∙◌}
use Rattle.std.specs.Prelude.{string_bytes, codes}
use Rattle.std.proofs.lemmas.Result.{IfOk-weaker}
use Rattle.bq_import.specs.Noted.{IsNotedLine}
use Rattle.bq_import.proofs.noted.noted_line.Goals as goal

pub returns : goal.returns
returns c =
    let note = string_bytes c.args.note.now in
    let spelled = string_bytes c.in_ok-spelled.spelled in
    IfOk-weaker c.format.result (λ line. string_bytes line ≡ note ++ (spelled ++ codes "\n"))
    (λ line. IsNotedLine c.args.insn (string_bytes line))
    (λ line is. record { note = note; is_note = c.requires; line_is = is ∙ ap (λ s. note ++ (s ++ codes "\n")) c.in_ok-spelled.ensures })
    c.format.ensures.ok
