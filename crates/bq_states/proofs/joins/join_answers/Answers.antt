use Rattle.std.proofs.Common.{ℕ, inl, inr, sym, rules, ◌∙◌}
use Rattle.bq_states.specs.AbstractStates.{IsBase}
use Rattle.bq_states.specs.declared.abstract_state.ValueKind.TheVariants.{EntryOrNull}
use Rattle.bq_states.proofs.AlikeLemmas.{entry_answers, answer_answers}
use Rattle.bq_states.proofs.WordLemmas.{describes_more}
use Rattle.bq_states.proofs.joins.join_answers.Goals.{in-Entry-EntryOrNull, then-map-other, else-map-other, in-EntryOrNull-Entry, then-map-other-2, else-map-other-2, in-Number+in-Number-Entry, in-Entry-Number2}
use Rattle.bq_states.proofs.joins.join_answers.Goals as goal

pub returns-clause-right : goal.returns-clause-right
returns-clause-right c = λ word d.
    let bases : (base : ℕ) → IsBase c.args.shapes.now c.args.b.kind base → IsBase c.args.shapes.now (EntryOrNull c.match-a.map) base =
    elim c.match-a.branch [
      | in-Entry-EntryOrNull w ↦
          answer_answers c.args.shapes.now c.args.b.kind c.match-a.map w.in-Entry-EntryOrNull.other w.in-Entry-EntryOrNull.is-1
          (elim w.if-map-other.branch [
            | then-map-other w' ↦ inl (w.map-is ∙ w'.if-map-other.true)
            | else-map-other w' ↦ inr (rw w.map-is (w'.are_alike.ensures (sym w'.value-is ∙ w.if-are_alike.true)))
          ])
      | in-EntryOrNull-Entry w ↦
          entry_answers c.args.shapes.now c.args.b.kind c.match-a.map w.in-EntryOrNull-Entry.other w.in-EntryOrNull-Entry.is-1
          (elim w.if-map-other-2.branch [
            | then-map-other-2 w' ↦ inl (w.map-is ∙ w'.if-map-other-2.true)
            | else-map-other-2 w' ↦ inr (rw w.map-is (w'.are_alike-else-map-other-2.ensures (sym w'.value-is ∙ w.if-are_alike-2.true)))
          ])
      | in-Number+in-Number-Entry w ↦ λ base is. search rules
      | in-Entry-Number2 w ↦ λ base is. search rules
    ] in
    describes_more c.args.shapes.now (EntryOrNull c.match-a.map) c.args.b c.hull.result word bases c.hull.ensures.left d
