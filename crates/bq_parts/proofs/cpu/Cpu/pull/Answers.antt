use Rattle.std.proofs.Common.{ap, ◌∙◌}
use Rattle.bq_parts.specs.Processors.{Processor}
use Rattle.bq_parts.proofs.PullingLemmas.{puller_within_lobby, source_within_lobby, source_distinct, taken_fresh}
use Rattle.bq_parts.proofs.cpu.Cpu.pull.Goals as goal

pub choose_pull-pulled-requires-clause-few : goal.choose_pull-pulled-requires-clause-few
choose_pull-pulled-requires-clause-few g c =
    rw c.charge.ensures (puller_within_lobby g.Q.R.Discipline.discipline c.args.self.now.running c.args.source.now.running
    c.args.now c.requires.once c.requires.ids)

pub choose_pull-pulled-requires-clause-few_from : goal.choose_pull-pulled-requires-clause-few_from
choose_pull-pulled-requires-clause-few_from g c =
    rw c.update_mark.ensures (source_within_lobby c.args.self.now.running c.args.source.now.running c.requires.once c.requires.ids)

pub choose_pull-pulled-requires-clause-distinct : goal.choose_pull-pulled-requires-clause-distinct
choose_pull-pulled-requires-clause-distinct g c =
    rw c.update_mark.ensures (source_distinct c.args.self.now.running c.args.source.now.running c.requires.once)

pub take_task-run-requires : goal.take_task-run-requires
take_task-run-requires g c =
    let d = g.Q.R.Discipline.discipline in
    let p = c.args.self.now.running in
    let q = c.args.source.now.running in
    let task = c.choose_pull-pulled.result.choice in
    let free = taken_fresh d p q c.args.now task c.requires.once in
    let queue =
    ap (λ (x : Processor). x.running.queue)
    (c.choose_pull-pulled.ensures.rest
    ∙ ap (λ (x : Processor). record x { hooks = record x.hooks { pull = c.choose_pull-pulled.new.self.hooks.pull } }) c.charge.ensures) in
    let source = c.update_mark.ensures in
    record { fresh = rw (source, queue) free }
