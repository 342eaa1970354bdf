use Rattle.std.proofs.Common.{◌<◌, ◌^◌, rules}
use Rattle.std.specs.Prelude.{IfSome}
use Rattle.bq_parts.specs.Choices.{by_programs}
use Rattle.bq_parts.proofs.PermittedLemmas.{settles_unasked}
use Rattle.bq_parts.proofs.cpu.Cpu.choose_pull.Goals as goal

pub returns-in_default-clause-settled : goal.returns-in_default-clause-settled
returns-in_default-clause-settled g c =
    let small : IfSome c.own_pull-own.result (λ id. id < 2 ^ 16) = search rules in
    let settled =
    settles_unasked (by_programs g.Q.R.Discipline.discipline) c.args.processor c.args.from c.args.self.now
    c.args.source.now c.version.result (rw (← c.self.view_is) c.version.ensures) c.in_default.is
    (rw (← c.size-size.ensures, ← c.own_pull-own.ensures) small) in
    rw (c.unasked.ensures, c.requires.no_calls, c.own_pull-own.ensures, c.size-size.ensures) settled
