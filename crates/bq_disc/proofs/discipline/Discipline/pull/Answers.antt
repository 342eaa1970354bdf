use Rattle.std.proofs.Common.{◌-◌, ◌≤◌, ◌∙◌, arith}
use Rattle.bq_disc.proofs.PullLemmas.{pulls_first_named}
use Rattle.bq_disc.proofs.discipline.Discipline.pull.Goals as goal

pub returns : goal.returns
returns g c =
    let found = c.movable-found.ensures in
    let enough : 2 ≤ c.args.source_size - c.args.puller_size = omega (arith, c.saturating_sub.ensures, c.if-saturating_sub-lt-WORTH_A_PULL.false) in
    let named =
    pulls_first_named c.args.processor c.args.puller_size c.args.source_size _ c.deref.result.now enough found.rising
    (c.deref.ensures.0 ∙ found.first) in
    c.copied.ensures ∙ c.first.ensures.value ∙ named
