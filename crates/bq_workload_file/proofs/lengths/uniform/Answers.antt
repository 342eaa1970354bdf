use Rattle.std.proofs.Common.{◌≡◌, ◌≢◌, ◌∙◌, ap, sym, Some, option_and_then, length, rules, arith}
use Rattle.toml.specs.Data.{as_array}
use Rattle.toml.specs.View.{view, items_view}
use Rattle.bq_workload_file.specs.Lengths.{ends_of}
use Rattle.bq_workload_file.proofs.EntryLemmas.{ends-none}
use Rattle.bq_workload_file.proofs.lengths.uniform.Goals as goal

pub returns-in_default : goal.returns-in_default
returns-in_default c =
    let items = c.in_ok-ends.ends.now.items in
    let here : as_array (view c.args.value.now) ≡ Some (items_view items) = search rules in
    let other : length items ≢ 2 = λ k. omega (arith, ap length c.as_slice.ensures.value) in
    ends-none items other ∙ ap (option_and_then ends_of) (sym here)

pub returns-in_default-2 : goal.returns-in_default-2
returns-in_default-2 c =
    let items = c.in_ok-ends.ends.now.items in
    let here : as_array (view c.args.value.now) ≡ Some (items_view items) = search rules in
    let other : length items ≢ 2 = λ k. omega (arith, ap length c.as_slice.ensures.value) in
    ends-none items other ∙ ap (option_and_then ends_of) (sym here)
