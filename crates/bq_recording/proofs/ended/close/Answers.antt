use Rattle.std.proofs.Common.{◌≡◌, rules, arith, sym, ap, subst, ◌∙◌}
use Rattle.bq_history.specs.History.{IsHistory}
use Rattle.bq_parts.specs.World.{World, opening_world}
use Rattle.bq_shared.specs.Parts.{RecordStep}
use Rattle.bq_recording.specs.AllParts.{parts_out}
use Rattle.bq_recording.proofs.ClosingLemmas.{only_parts, once_known, world_has_parts}
use Rattle.bq_recording.proofs.ended.close.Goals as goal

pub close-log-requires-clause-parts : goal.close-log-requires-clause-parts
close-log-requires-clause-parts g c =
    let x = c.take_contents-contents.result.0 in
    let ps = parts_out x.lobby x.cpus.items x.inboxes.items in
    only_parts c.take_contents-contents.result.1 ps c.take_contents-contents.ensures

pub core_of-requires : goal.core_of-requires
core_of-requires g c =
    let x = c.take_contents-contents.result.0 in
    let ps = parts_out x.lobby x.cpus.items x.inboxes.items in
    let all = c.take_contents-contents.result.1 in
    let once = once_known all ps c.take_contents-contents.ensures c.close-log.ensures.once in
    let k =
    world_has_parts g.Q.R.Discipline.discipline g.row.P c.args.locks.history.setup c.close-log.result.0 all ps
    c.into_inner-journal.result.1 c.args.locks.setup c.take_contents-contents.ensures c.close-log.ensures.world in
    let s = k.2 in (
      search rules,
      (
        omega arith,
        (c.args.locks.few, (once, (k.0, s.orderly, (s.many, s.boxes, k.3 ∙ ap (λ j. j.drawn) (sym c.kept.ensures), k.4)))),
      ),
    )

pub returns-clause-history : goal.returns-clause-history
returns-clause-history g c =
    let x = c.take_contents-contents.result.0 in
    let ps = parts_out x.lobby x.cpus.items x.inboxes.items in
    let d = g.Q.R.Discipline.discipline in
    let k =
    world_has_parts d g.row.P c.args.locks.history.setup c.close-log.result.0 c.take_contents-contents.result.1 ps
    c.into_inner-journal.result.1 c.args.locks.setup c.take_contents-contents.ensures c.close-log.ensures.world in
    let s = k.2 in
    let same : c.core_of.result ≡ k.0 = c.core_of.ensures k.0 (s.many, s.boxes, k.3 ∙ ap (λ j. j.drawn) (sym c.kept.ensures), k.4) in
    subst (λ (u : World). IsHistory (RecordStep d) (opening_world g.row.P) c.close-log.result.0 u) (sym same) k.1
