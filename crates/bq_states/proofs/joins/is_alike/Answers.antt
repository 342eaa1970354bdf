use Rattle.bq_states.proofs.AlikeLemmas.{entry_alike, answer_alike, reference_alike}
use Rattle.bq_states.proofs.joins.is_alike.Goals as goal

pub returns-in-Entry-Entry : goal.returns-in-Entry-Entry
returns-in-Entry-Entry c = record {
  left = λ yes base is.
      rw c.in-Entry-Entry.is-0 (entry_alike c.args.shapes.now c.in-Entry-Entry.map c.in-Entry-Entry.other base
      (c.are_alike.ensures yes) (rw c.in-Entry-Entry.is-1 at is));
}

pub returns-in-EntryOrNull-EntryOrNull : goal.returns-in-EntryOrNull-EntryOrNull
returns-in-EntryOrNull-EntryOrNull c = record {
  left = λ yes base is.
      rw c.in-EntryOrNull-EntryOrNull.is-0
      (answer_alike c.args.shapes.now c.in-EntryOrNull-EntryOrNull.map c.in-EntryOrNull-EntryOrNull.other base
      (c.are_alike-in-EntryOrNull-EntryOrNull.ensures yes) (rw c.in-EntryOrNull-EntryOrNull.is-1 at is));
}

pub returns-in-Map-Map : goal.returns-in-Map-Map
returns-in-Map-Map c = record {
  left = λ yes base is.
      rw c.in-Map-Map.is-0 (reference_alike c.args.shapes.now c.in-Map-Map.map c.in-Map-Map.other base
      (c.are_alike-in-Map-Map.ensures yes) (rw c.in-Map-Map.is-1 at is));
}
