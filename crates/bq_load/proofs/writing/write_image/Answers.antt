use Rattle.bq_load.specs.Writing.{written_image}
use Rattle.bq_load.proofs.WritingLemmas.{is_written}
use Rattle.bq_load.proofs.writing.write_image.Goals as goal

pub returns-clause-ok : goal.returns-clause-ok
returns-clause-ok c = (written_image c.args.image.now, is_written c.args.image.now c.requires, c.in_default.ensures.ok)
