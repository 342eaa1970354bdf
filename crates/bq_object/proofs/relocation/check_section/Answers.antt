use Rattle.std.proofs.Common.{below_more}
use Rattle.bq_object.proofs.RelocationLemmas.{clear_entries}
use Rattle.bq_object.proofs.relocation.check_section.Goals as goal

pub loop-index-preserved : goal.loop-index-preserved
loop-index-preserved c = below_more _ _ c.loop-index.invariant c.in_ok-check_entry.ensures.ok

pub returns-clause-ok : goal.returns-clause-ok
returns-clause-ok c =
    clear_entries c.args.file.now c.args.section c.args.policy c.in-Some.entries.now c.entry_size-size.result c.loop-index.index
    c.if-size-eq0.false c.entry_size-size.ensures c.in-Some.ensures.some c.loop-index-test.false c.loop-index.invariant
