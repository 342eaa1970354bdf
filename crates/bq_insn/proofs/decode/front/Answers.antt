use Rattle.std.proofs.Common.{◌≡◌, ◌-◌, length, take, drop, arith}
use Rattle.std.proofs.lemmas.Grind.{common_steps}
use Rattle.bq_insn.proofs.FrontLemmas.{begins_with_two}
use Rattle.bq_insn.proofs.decode.front.Goals as goal

pub returns-clause-begins : goal.returns-clause-begins
returns-clause-begins c =
    let bytes = c.args.bytes.now in
    let same : take (length bytes - 8) (drop 8 bytes) ≡ drop 8 bytes = grind (arith, common_steps) in
    begins_with_two bytes _ c.read-slot.result c.read.result c.read-slot.ensures.bytes same c.read.ensures.bytes c.read.ensures.fits
