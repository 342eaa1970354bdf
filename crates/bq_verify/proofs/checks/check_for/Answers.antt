use Rattle.std.proofs.Common.{below_more, false}
use Rattle.std.specs.Prelude.{IsTrue}
use Rattle.bq_verify.proofs.checks.check_for.Goals as goal

pub loop-slot-preserved : goal.loop-slot-preserved
loop-slot-preserved c = below_more _ _ c.loop-slot.invariant (λ fault. let no : IsTrue false = c.if-is_faulty.ensures.1 fault in cc)
