use Rattle.std.proofs.Common.{◌≡◌, Some, ap, sym, ◌∙◌}
use Rattle.bq_disc.specs.Tasks.{without, inserted}
use Rattle.bq_disc.specs.Chains.{task_of}
use Rattle.bq_disc.specs.OneProcessor.{Running}
use Rattle.bq_disc.proofs.QueueLemmas.{without-absent}
use Rattle.bq_parts.specs.Processors.{Processor}
use Rattle.bq_parts.proofs.CountLemmas.{switched_same, switched_absent, switched_to, current_apart_without}
use Rattle.bq_parts.proofs.SwitchingLemmas.{next_is_current, next_is_other}
use Rattle.bq_parts.proofs.cpu.Cpu.switch.Goals as goal

pub returns-in_default-next : goal.returns-in_default-next
returns-in_default-next g c =
    let d = g.Q.R.Discipline.discipline in
    let p = c.args.self.now in
    let t = c.in-Some.current in
    let current : p.running.current ≡ Some t = ap (λ (q : Processor). q.running.current) (sym c.self.view_is) ∙ c.in-Some.is in
    let queue = ap (λ (q : Processor). q.running.queue) c.self.view_is in
    let next = next_is_current d t p.running.queue (rw (c.node.ensures, queue) at c.in_default-next.ensures) in
    ap (λ (r : Running). record p { running = r }) (sym (switched_same d p.running t c.requires.once current next))

pub returns-in_default-take : goal.returns-in_default-take
returns-in_default-take g c =
    let d = g.Q.R.Discipline.discipline in
    let p = c.args.self.now in
    let t = c.in-Some.current in
    let id = c.in-Some-next.id in
    let current : p.running.current ≡ Some t = ap (λ (q : Processor). q.running.current) (sym c.self.view_is) ∙ c.in-Some.is in
    let queue = ap (λ (q : Processor). q.running.queue) c.self.view_is in
    let next = next_is_other d t p.running.queue id (rw (c.node.ensures, queue) at c.in-Some-next.ensures) in
    let absent = sym c.in_default-take.ensures.taken in
    let same = c.take.ensures.rest ∙ without-absent id _ absent in
    rw (same, c.take.ensures.mark) (c.self.view_is
    ∙ ap (λ (r : Running). record p { running = r }) (sym (switched_absent d p.running t id current next (rw queue at absent))))

pub insert-requires-clause-fresh : goal.insert-requires-clause-fresh
insert-requires-clause-fresh g c =
    let p = c.args.self.now.running in
    let t = c.in-Some.current in
    let n = c.in-Some-take.ensures.taken in
    let current : p.current ≡ Some t = ap (λ (q : Processor). q.running.current) (sym c.self.view_is) ∙ c.in-Some.is in
    let queue = ap (λ (q : Processor). q.running.queue) c.self.view_is in
    let old : c.in-Some-replace.current ≡ t = cc in
    rw (c.into_node.ensures.task, old, c.take.ensures.rest, queue)
    (current_apart_without p t _ _ c.requires.once current (rw queue at (sym n)))

pub returns-in-Some-replace : goal.returns-in-Some-replace
returns-in-Some-replace g c =
    let d = g.Q.R.Discipline.discipline in
    let p = c.args.self.now in
    let t = c.in-Some.current in
    let n = task_of c.in-Some-take.next.value in
    let id = c.in-Some-next.id in
    let current : p.running.current ≡ Some t = ap (λ (q : Processor). q.running.current) (sym c.self.view_is) ∙ c.in-Some.is in
    let queue = ap (λ (q : Processor). q.running.queue) c.self.view_is in
    let next = next_is_other d t p.running.queue id (rw (c.node.ensures, queue) at c.in-Some-next.ensures) in
    let old : c.in-Some-replace.current ≡ t = cc in
    let exchanged =
    ap (λ (q : Processor). record q { running = record q.running { current = Some n; queue = inserted t (without id q.running.queue) } })
    c.self.view_is in
    rw (
      c.insert.ensures.members,
      c.into_node.ensures.task,
      old,
      c.insert.ensures.mark,
      c.take.ensures.rest,
      c.take.ensures.mark,
      c.replace.ensures.after,
      c.new.ensures,
    ) (exchanged ∙ ap (λ (r : Running). record p { running = r })
    (sym (switched_to d p.running t _ id current next (rw queue at c.in-Some-take.ensures.taken))))
