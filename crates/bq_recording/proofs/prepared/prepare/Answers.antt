use Rattle.bq_shared.proofs.OpenedLemmas.{each_part_once, parts_there}
use Rattle.bq_recording.proofs.prepared.prepare.Goals as goal

pub open-requires-clause-once : goal.open-requires-clause-once
open-requires-clause-once g c = each_part_once c.args.processors

pub open-requires-clause-parts : goal.open-requires-clause-parts
open-requires-clause-parts g c = parts_there c.args.processors
