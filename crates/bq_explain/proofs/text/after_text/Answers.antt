use Rattle.std.proofs.Common.{◌≡◌, ◌∙◌, ◌++◌, refl}
use Rattle.std.specs.Prelude.{codes, string_bytes}
use Rattle.std.proofs.lemmas.Result.{IfOk-weaker}
use Rattle.bq_explain.specs.TrailTexts.{DescribesTrail}
use Rattle.bq_explain.proofs.text.after_text.Goals as goal

pub returns : goal.returns
returns c =
    let help = string_bytes c.in_ok-help.help in
    IfOk-weaker c.format.result
    (λ text. string_bytes text ≡ string_bytes c.in_ok-trail.trail ++ (codes "  helps: " ++ (help ++ codes "\n")))
    (λ text. DescribesTrail c.args.policy.now.form.shapes.items c.args.refusal.now.trail (string_bytes text))
    (λ text is. (help, is ∙ rw (c.in_ok-trail.ensures, c.as_slice.ensures.value) refl)) c.format.ensures.ok
