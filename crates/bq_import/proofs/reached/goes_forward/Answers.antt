use Rattle.std.proofs.Common.{arith, below_more}
use Rattle.bq_verify.proofs.EdgeLemmas.{edge_inside}
use Rattle.bq_import.proofs.reached.goes_forward.Goals as goal

pub loop-slot-preserved : goal.loop-slot-preserved
loop-slot-preserved c = below_more _ _ c.loop-slot.invariant (c.leads_forward.ensures.yes c.if-not-leads_forward.false)

pub returns-clause-yes : goal.returns-clause-yes
returns-clause-yes c = λ e from to edge.
    let inside = edge_inside c.args.old.now from to edge in
    let end = c.loop-slot-test.false in
    c.loop-slot.invariant from (omega (arith, inside, end)) to edge
