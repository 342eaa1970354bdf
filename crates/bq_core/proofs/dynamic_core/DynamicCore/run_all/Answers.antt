use Rattle.std.proofs.Common.{◌≡◌, ◌++◌, ◌∷◌, [], length, ap, ◌∙◌, append_assoc, arith}
use Rattle.std.specs.Vec.Iter.{into_iter_items}
use Rattle.bq_parts.specs.Choices.{by_programs}
use Rattle.bq_core.proofs.RunLemmas.{run_more, through_more}
use Rattle.bq_core.proofs.dynamic_core.DynamicCore.run_all.Goals as goal

pub loop-event-preserved : goal.loop-event-preserved
loop-event-preserved g c =
    let s = by_programs g.Q.R.Discipline.discipline in
    let at = c.loop-event in
    let e = c.in-Some.event in
    let steps : into_iter_items at.event-iterator ≡ e ∷ into_iter_items c.next.new.self = c.in-Some.ensures.steps.0 in
    let gone = c.in-Some.ensures.steps.1 in
    let shorter = ap length steps in
    let was = at.invariant.left in
    let ran = at.invariant.ran in
    let step = c.step-answer.ensures.step in
    record {
      whole = append_assoc at.yielded (e ∷ []) _ ∙ rw (← steps) at.invariant.whole;
      left = omega arith;
      room = omega (arith, c.push_reserved.ensures.len, at.invariant.room, c.push_reserved.ensures.capacity);
      ran = (
        ran.0 ++ step.0 ∷ [],
        rw c.push_reserved.ensures.items
            (run_more s c.args.self.now at.self c.step-answer.new.self at.yielded e ran.0 step.0
            at.answers.items c.step-answer.result ran.1 step.1),
        through_more g.B.Board.leads c.args.board.now at.board c.step-answer.new.board ran.0 step.0 ran.2 step.2,
      );
      orderly = c.step-answer.ensures.orderly;
    }
