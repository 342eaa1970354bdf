use Rattle.std.proofs.Common.{◌≡◌, ◌+◌, ◌∙◌, ap, sym, Some, take, [], ◌∷◌, ◌++◌, rules, arith}
use Rattle.std.proofs.lemmas.Grind.{common_steps}
use Rattle.std.proofs.lemmas.List.{take_more}
use Rattle.toml.specs.Data.{as_table}
use Rattle.toml.specs.View.{view, table_view}
use Rattle.toml.specs.declared.value.Value.{Value}
use Rattle.bq_workload_file.proofs.EntryLemmas.{AreKinds-more}
use Rattle.bq_workload_file.proofs.workloads.kinds.Goals as goal

pub loop-index-preserved : goal.loop-index-preserved
loop-index-preserved c =
    let vs = c.args.tables.now in
    let i = c.loop-index.index in
    let v = c.index-tables-index.result in
    let more : take (i + 1) vs ≡ take i vs ++ v ∷ [] =
    take_more vs i v c.loop-index-test.true ∙ ap (λ (w : Value). take i vs ++ w ∷ []) (sym c.index-tables-index.is) in
    let table : as_table (view v) ≡ Some (table_view c.in_ok-table.table.now) = search rules in
    record {
      described =
          rw (more, c.in_ok-push.ensures.items)
          (AreKinds-more c.args.names.now c.args.processors.all (take i vs) c.loop-index.kinds.items v c.in_ok-kind.kind
          c.loop-index.invariant.described (table_view c.in_ok-table.table.now) table c.in_ok-kind.ensures.read);
      counted = grind (arith, common_steps, c.in_ok-push.ensures.items);
      few = omega arith;
    }
