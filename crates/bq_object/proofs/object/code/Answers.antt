use Rattle.std.proofs.Common.{◌≡◌, ◌+◌, ◌<◌, ℕ, arith, inr, length, subst}
use Rattle.bq_object.specs.Sections.{IsSection}
use Rattle.bq_object.proofs.object.code.Goals as goal

pub returns-in-None-clause-err : goal.returns-in-None-clause-err
returns-in-None-clause-err c =
    let section = c.in-Some.section in
    let policy = c.args.policy in
    let here = subst (λ (k : ℕ). IsSection c.args.headers.now k section) c.from.ensures c.in-Some.ensures.some in
    let long : length c.in-Some-contents.bytes.now ≡ section.long = c.in-Some-contents.ensures.whole in
    let past : length c.in-Some-contents.bytes.now < policy.at + policy.long = c.in-None.ensures.none in
    inr (section, here, omega (arith, long, past))
