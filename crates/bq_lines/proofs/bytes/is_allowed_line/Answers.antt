use Rattle.bq_lines.specs.Bytes.{is_allowed}
use Rattle.bq_lines.proofs.AllowedLemmas.{all_step, all_end}
use Rattle.bq_lines.proofs.bytes.is_allowed_line.Goals as goal

pub loop-byte-preserved : goal.loop-byte-preserved
loop-byte-preserved c =
    all_step is_allowed c.args.line.now c.loop-byte.allowed c.loop-byte.byte-index c.is_allowed-allowed.result
    c.loop-byte-test.true c.is_allowed-allowed.ensures c.loop-byte.invariant

pub returns : goal.returns
returns c = all_end is_allowed c.args.line.now c.loop-byte.allowed c.loop-byte.byte-index c.loop-byte-test.false c.loop-byte.invariant
