use Rattle.std.proofs.Common.{◌∙◌, sym}
use Rattle.bq_asm.proofs.JumpLemmas.{lookup_places, found_within}
use Rattle.bq_asm.proofs.jump.slot_of.Goals as goal

pub returns-clause-found : goal.returns-clause-found
returns-clause-found c = c.copied.ensures ∙ c.get.ensures.value ∙ sym (lookup_places c.args.label.now c.args.labels.now.entries)

pub returns-clause-near : goal.returns-clause-near
returns-clause-near c = found_within 4096 _ c.args.labels.now.entries c.copied.result c.requires (c.copied.ensures ∙ c.get.ensures.value)
