use Rattle.std.proofs.Common.{◌≡◌, ◌==◌, false, get_or, arith}
use Rattle.std.proofs.lemmas.Bool.Decides.{nat_tests}
use Rattle.std.proofs.lemmas.List.Elements.{All-more}
use Rattle.bq_policy_file.proofs.shapes_text.part_len.Goals as goal

pub loop-at-preserved : goal.loop-at-preserved
loop-at-preserved c =
    let text = c.args.text.now in
    let at = c.loop-at.at in
    let other : (get_or text at 0 == c.args.mark) ≡ false = grind (arith, nat_tests) in
    All-more (λ b. (b == c.args.mark) ≡ false) text at 0 c.loop-at-test.true c.loop-at.invariant other
