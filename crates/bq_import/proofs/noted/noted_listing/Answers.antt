use Rattle.std.proofs.Common.{◌++◌, ap, ◌∙◌}
use Rattle.std.specs.Prelude.{string_bytes}
use Rattle.bq_import.proofs.NotedLemmas.{noted_next}
use Rattle.bq_import.proofs.noted.noted_listing.Goals as goal

pub insns-preserved : goal.insns-preserved
insns-preserved c =
    noted_next c.args.insns.now c.insns.insn-index _ (string_bytes c.insns.text)
    (string_bytes c.in_ok-line.line) _ c.insns-test.true c.insns.invariant c.in_ok-line.ensures
    (c.in_ok-push_str.ensures.bytes ∙ ap (λ t. string_bytes c.insns.text ++ t) c.as_str.ensures.value)
