use Rattle.std.proofs.Common.{◌≡◌, ◌∙◌, sym, Some, slice_get, rules}
use Rattle.bq_workload_file.proofs.EntryLemmas.{only-none, only-one}
use Rattle.bq_workload_file.proofs.tables.only.Goals as goal

pub returns-then-len-ne1 : goal.returns-then-len-ne1
returns-then-len-ne1 c = only-none c.args.table.now.entries (λ e. c.if-len-ne1.true (c.len.ensures.len ∙ e))

pub returns-in-Some : goal.returns-in-Some
returns-in-Some c =
    let first : slice_get c.args.table.now.entries 0 ≡ Some (c.in-Some.key.now, c.in-Some.value.now) = search rules in
    rw c.as_str.ensures.value
    (only-one c.args.table.now.entries c.in-Some.key.now c.in-Some.value.now (sym c.len.ensures.len ∙ c.if-len-ne1.false) first)
