use Rattle.std.proofs.Common.{◌≡◌, ◌∙◌, ap, List, map}
use Rattle.bq_bpf.specs.declared.shape.MapShape.{MapShape}
use Rattle.bq_verify.specs.Accepted.{Accepted}
use Rattle.bq_installed.specs.Answers.{zeros_of}
use Rattle.bq_installed.proofs.ZeroLemmas.{zero_bytes_are_zero_maps}
use Rattle.bq_installed.proofs.installed.Equipped.new.Goals as goal

pub returns-clause-maps : goal.returns-clause-maps
returns-clause-maps c =
    let made = c.in_ok-maps.maps in
    let have = c.shapes-sizes.ensures.sizes in
    let same : made.shapes ≡ c.args.policy.shapes =
    c.in_ok-maps.ensures.shapes ∙ c.shapes.ensures ∙ ap (λ (p : Accepted). p.shapes) c.program.ensures.value in
    zero_bytes_are_zero_maps made.shapes made.bytes have.as_many have.sizes c.in_ok-maps.ensures.zero
    ∙ ap (λ (xs : List MapShape). map zeros_of xs) same
