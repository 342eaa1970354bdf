use Rattle.std.proofs.Common.{rules}
use Rattle.std.specs.String.{string_bytes}
use Rattle.bq_policy_run.specs.Changes.{map_changes, with_contents}
use Rattle.bq_policy_run.proofs.ChangeLemmas.{reported_more}
use Rattle.bq_policy_run.proofs.changes.write_changes.Goals as goal

pub loop-number-preserved : goal.loop-number-preserved
loop-number-preserved c =
    let maps = c.args.inputs.now.maps in
    reported_more (map_changes (with_contents maps c.args.before.now) maps) c.loop-number.number
    (string_bytes c.args.text.now) (string_bytes c.loop-number.text) (string_bytes c.write_map.new.text)
    c.loop-number.invariant (search rules)
