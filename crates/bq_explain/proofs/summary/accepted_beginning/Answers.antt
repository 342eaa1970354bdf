use Rattle.std.proofs.Common.{◌≡◌, ◌∙◌, ◌++◌, refl}
use Rattle.std.specs.Prelude.{codes, string_bytes}
use Rattle.std.specs.Fmt.{decimal}
use Rattle.std.proofs.lemmas.Result.{IfOk-weaker}
use Rattle.bq_insn.specs.declared.TheConstants.{SLOTS}
use Rattle.bq_explain.specs.Beginnings.{accepted_beginning}
use Rattle.bq_explain.proofs.summary.accepted_beginning.Goals as goal

pub returns : goal.returns
returns c =
    IfOk-weaker c.format.result (λ text.
    string_bytes text
    ≡ codes "accepted "
    ++ (c.word-hook.result.now
    ++ (codes " budget "
    ++ (decimal c.args.budget
    ++ (codes " of "
    ++ (decimal SLOTS
    ++ (codes ", version " ++ (decimal c.number-version.result ++ (codes ", maps " ++ string_bytes c.in_ok-maps.maps)))))))))
    (λ text. string_bytes text ≡ accepted_beginning c.args.policy.now c.args.budget)
    (λ text is. is ∙ rw (c.word-hook.ensures, c.number-version.ensures, c.in_ok-maps.ensures, c.as_slice.ensures.value) refl)
    c.format.ensures.ok
