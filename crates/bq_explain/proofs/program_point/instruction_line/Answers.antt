use Rattle.std.proofs.Common.{◌≡◌, ◌∙◌, ◌++◌, append_assoc, refl, sym}
use Rattle.std.specs.Prelude.{codes, string_bytes}
use Rattle.std.proofs.lemmas.Result.{IfOk-weaker}
use Rattle.bq_explain.specs.TrailTexts.{EndsWith, place_line}
use Rattle.bq_explain.proofs.program_point.instruction_line.Goals as goal

pub returns-in-Some : goal.returns-in-Some
returns-in-Some c =
    let name = c.in-Some.name.now in
    let line = string_bytes c.in_ok-at.at ++ (codes ":  " ++ string_bytes c.in_ok-insn.insn) in
    IfOk-weaker c.format.result (λ text. string_bytes text ≡ name ++ (codes " " ++ line))
    (λ text. EndsWith (place_line c.args.place.now) (string_bytes text))
    (λ text is. (name ++ codes " ", is ∙ sym (append_assoc name (codes " ") line) ∙ rw (c.in_ok-at.ensures, c.in_ok-insn.ensures) refl))
    c.format.ensures.ok
