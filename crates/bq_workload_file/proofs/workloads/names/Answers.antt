use Rattle.std.proofs.Common.{◌≡◌, ◌+◌, ◌∙◌, ap, sym, Some, None, take, [], ◌∷◌, ◌++◌, codes, option_and_then, string_bytes, List, String, Global, rules}
use Rattle.std.proofs.lemmas.List.{take_more}
use Rattle.toml.specs.Data.{Members, as_table, get_member}
use Rattle.toml.specs.View.{view, table_view}
use Rattle.toml.specs.declared.value.Value.{Value}
use Rattle.bq_workload_file.specs.Actions.{named_at}
use Rattle.bq_workload_file.specs.Fields.{read_name}
use Rattle.bq_workload_file.specs.Workloads.{name_in_table}
use Rattle.bq_workload_file.proofs.EntryLemmas.{AreNames-more, AreOthers-more}
use Rattle.bq_workload_file.proofs.workloads.names.Goals as goal

pub loop-index-preserved : goal.loop-index-preserved
loop-index-preserved c =
    let vs = c.args.tables.now in
    let i = c.loop-index.index in
    let v = c.index-tables-index.result in
    let ms = table_view c.in_ok-table.table.now in
    let n = c.in_ok-from_str.field-0 in
    let more : take (i + 1) vs ≡ take i vs ++ v ∷ [] =
    take_more vs i v c.loop-index-test.true ∙ ap (λ (w : Value). take i vs ++ w ∷ []) (sym c.index-tables-index.is) in
    let table : as_table (view v) ≡ Some ms = search rules in
    let name : option_and_then read_name (get_member (codes "name") ms) ≡ Some c.in_ok-name.name.now = search rules in
    let text : string_bytes n ≡ c.in_ok-name.name.now = search rules in
    let named : name_in_table (view v) ≡ Some (string_bytes n) =
    ap (option_and_then (λ (t : Members). option_and_then read_name (get_member (codes "name") t))) table ∙ name
    ∙ ap Some (sym text) in
    let new : named_at c.loop-index.names.items (string_bytes n) ≡ None =
    ap (named_at c.loop-index.names.items) text
    ∙ (ap (λ (ns : List (String Global)). named_at ns c.in_ok-name.name.now) (sym c.as_slice.ensures.value)
    ∙ (sym c.place.ensures ∙ c.in_default.is)) in
    record {
      named =
          rw (more, c.in_ok-push.ensures.items)
          (AreNames-more (take i vs) c.loop-index.names.items v n c.loop-index.invariant.named named);
      others = rw c.in_ok-push.ensures.items (AreOthers-more [] c.loop-index.names.items n c.loop-index.invariant.others new);
    }
