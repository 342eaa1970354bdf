use Rattle.std.proofs.Common.{rules}
use Rattle.std.specs.String.{string_bytes}
use Rattle.bq_maps.specs.Arrays.{entry_of}
use Rattle.bq_policy_run.specs.Changes.{entry_line, is_changed, with_contents}
use Rattle.bq_policy_run.proofs.ChangeLemmas.{reported_more_passing}
use Rattle.bq_policy_run.proofs.changes.write_map.Goals as goal

pub loop-entry-preserved : goal.loop-entry-preserved
loop-entry-preserved c =
    let maps = c.args.maps.now in
    let number = c.args.number in
    reported_more_passing (λ k. entry_line number k (entry_of maps number k))
    (is_changed (with_contents maps c.args.before.now) maps number) c.loop-entry.entry
    (string_bytes c.args.text.now) (string_bytes c.loop-entry.text) (string_bytes c.write_change.new.text)
    c.loop-entry.invariant (search rules)
