use Rattle.std.proofs.Common.{◌∙◌, sym, ap, refl, true, false, is_some, map, subst, List, Some, ◌≡◌}
use Rattle.indexmap.proofs.CallerLemmas.{insert_entry-new}
use Rattle.bq_asm.specs.declared.fault.AssemblyCause.TheVariants.{LabelTwice}
use Rattle.bq_asm.specs.Draft.{IsDraftOf, RefusesLine}
use Rattle.bq_asm.specs.Lines.{Line, Label}
use Rattle.bq_asm.specs.Faults.{labels_in, cause_at_line}
use Rattle.bq_asm.specs.Assembly.{places_from}
use Rattle.bq_asm.specs.Jumps.{awaited_by}
use Rattle.bq_asm.proofs.DraftLemmas.{label_known, draft_labels_more, slots_kept, drafts_kept, jumps_kept, cause_of_label-is, none_from_is_some}
use Rattle.bq_asm.proofs.draft.Draft.set_label.Goals as goal

pub returns-then-is_some-clause-fault : goal.returns-then-is_some-clause-fault
returns-then-is_some-clause-fault c =
    let name = c.args.name.now in
    let twice : (before : List Line) → IsDraftOf before c.args.self.now → cause_at_line before (Label name) ≡ Some LabelTwice = λ before is.
    let known = label_known name c.args.self.now.labels.entries (places_from 0 before) is.labels in
    let found = sym (ap is_some c.in_ok-insert.ensures.old) ∙ sym c.is_some.ensures ∙ c.if-is_some.true in
    cause_of_label-is (labels_in before) name true (sym c.is_label.ensures ∙ c.if-not-is_label.false) (sym known ∙ found) in
    subst (RefusesLine c.args.self.now c.args.number (Label name)) (sym c.refusal-then-is_some.ensures) (refl, twice)

pub returns-clause-ok : goal.returns-clause-ok
returns-clause-ok c = λ before is count.
    let name = c.args.name.now in
    let old = c.args.self.now in
    let known = label_known name old.labels.entries (places_from 0 before) is.labels in
    let absent = none_from_is_some c.in_ok-insert.field-0 (sym c.is_some.ensures ∙ c.if-is_some.false) in
    let new =
    c.in_ok-insert.ensures.entries ∙ insert_entry-new _ old.labels c.args.name old.slots (sym c.in_ok-insert.ensures.old ∙ absent) in (
      cause_of_label-is (labels_in before) name false (sym c.is_label.ensures ∙ c.if-not-is_label.false)
          (sym known ∙ sym (ap is_some c.in_ok-insert.ensures.old) ∙ ap is_some absent),
      record {
        labels = ap (map (λ e. (e.0.now, e.1))) new ∙ draft_labels_more old.labels.entries c.args.name old.slots before is.labels is.slots;
        slots = slots_kept old.slots before (Label name) is.slots refl;
        insns = drafts_kept old.insns.items before (Label name) is.insns refl;
        jumps = jumps_kept (map awaited_by old.jumps.items) before (Label name) is.jumps (λ i s n. refl);
      },
    )
