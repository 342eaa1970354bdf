use Rattle.std.proofs.Common.{◌∙◌, sym, arith, le-ltb}
use Rattle.bq_disc.proofs.MaskLemmas.{allows-late}
use Rattle.bq_disc.proofs.mask.allows.Goals as goal

pub returns-else-processor-lt-PROCESSORS : goal.returns-else-processor-lt-PROCESSORS
returns-else-processor-lt-PROCESSORS c =
    le-ltb _ _ c.if-processor-lt-PROCESSORS.false
    ∙ sym (allows-late c.args.mask c.args.processor (omega (arith, c.ranges.mask.fits)) c.if-processor-lt-PROCESSORS.false)
