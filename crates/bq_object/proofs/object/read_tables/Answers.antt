use Rattle.std.proofs.Common.{ℕ, inr, subst}
use Rattle.bq_object.specs.Sections.{IsSection}
use Rattle.bq_object.proofs.object.read_tables.Goals as goal

pub returns-in_default-contents-2-clause-err : goal.returns-in_default-contents-2-clause-err
returns-in_default-contents-2-clause-err c =
    let linked =
    subst (λ (k : ℕ). IsSection c.args.headers.now k c.in-Some-section_at.strings) c.from.ensures
    c.in-Some-section_at.ensures.some in
    (c.in-Some.table, c.in-Some.ensures.some, inr (c.in-Some-section_at.strings, linked, c.in_default-contents-2.ensures.none))

pub returns-clause-ok : goal.returns-clause-ok
returns-clause-ok c = record {
  table = c.in-Some.table;
  first = c.in-Some.ensures.some;
  entries_are = c.in-Some-contents.ensures.some;
  strings = c.in-Some-section_at.strings;
  linked = subst (λ (k : ℕ). IsSection c.args.headers.now k c.in-Some-section_at.strings) c.from.ensures c.in-Some-section_at.ensures.some;
  names_are = c.in-Some-contents-2.ensures.some;
}
