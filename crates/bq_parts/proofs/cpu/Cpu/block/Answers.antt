use Rattle.std.proofs.Common.{◌≡◌, Some, ap, ◌∙◌, arith}
use Rattle.std.specs.Option.{option_map}
use Rattle.bq_disc.specs.Tasks.{Task}
use Rattle.bq_disc.specs.OneProcessor.{charge}
use Rattle.bq_parts.specs.Processors.{Processor}
use Rattle.bq_parts.specs.Moves.{as_it_leaves}
use Rattle.bq_parts.proofs.LeaveLemmas.{leaving_task_ran, current_id}
use Rattle.bq_parts.proofs.cpu.Cpu.block.Goals as goal

pub enter-requires : goal.enter-requires
enter-requires g c =
    let d = g.Q.R.Discipline.discipline in
    let processor = c.args.processor in
    let p = charge d c.args.self.now.running c.args.now in
    let left : Some c.in-Some.task ≡ option_map (λ t. as_it_leaves p processor t) p.current =
    c.in-Some.ensures.task
    ∙ ap (λ (x : Processor). option_map (λ t. as_it_leaves x.running processor t) x.running.current) c.charge.ensures in
    let t = leaving_task_ran (λ t. as_it_leaves p processor t) p.current c.in-Some.task left in
    let below = current_id d c.args.self.now.running c.args.now t.0 c.requires t.1 in
    omega (arith, c.id-id.ensures, ap (λ (x : Task). x.id) t.2, below)
