-- What is written of a policy is its file.
use Rattle.std.proofs.Common.{◌≡◌, ℕ, List, ◌++◌, map, Bool, true, false, sym, subst, ◌∙◌}
use Rattle.std.specs.Prelude.{◌&&◌, nat_le}
use Rattle.std.specs.List.{list_all}
use Rattle.std.proofs.lemmas.Bool.{and_parts, leb-true}
use Rattle.bq_insn.specs.declared.Insn.{Insn}
use Rattle.bq_insn.specs.Laws.{AllFit}
use Rattle.bq_insn.specs.Spelling.{is_insn, is_well_formed, slot_count}
use Rattle.bq_asm.specs.Text.{line_body}
use Rattle.bq_policy_file.specs.Listed.{program_text}
use Rattle.bq_policy_file.specs.ReadBack.{IsFileOf, ListingIsReadBack}
use Rattle.bq_policy_file.proofs.LineLemmas.{ended, ended_append}
use Rattle.bq_policy_file.proofs.ListedLineLemmas.{listing_ended, plain_lines}
use Rattle.bq_policy_file.proofs.MarkLemmas.{mark_lines, marks_ended}
use Rattle.bq_policy_file.proofs.NoteLemmas.{noted_are, noted_ended, noted_lines}
use Rattle.bq_policy_file.proofs.ReadBackLemmas.{AreLines, file_of, text_of}

-- the lines of a program, with comments or without
program_lines : (has_slots : Bool) (insns : List Insn) → is_well_formed insns ≡ true → AllFit insns
    → (ls : List (List ℕ)) × (program_text has_slots insns ≡ ended ls) × AreLines insns ls
program_lines false insns h k =
    let parts = and_parts (list_all is_insn insns) (nat_le 1 (slot_count insns) && nat_le (slot_count insns) 4096) h in
    (map line_body insns, listing_ended insns, plain_lines insns parts.0 k)
program_lines true insns h k =
    let parts = and_parts (list_all is_insn insns) (nat_le 1 (slot_count insns) && nat_le (slot_count insns) 4096) h in
    let few = leb-true (slot_count insns) 4096 (and_parts (nat_le 1 (slot_count insns)) (nat_le (slot_count insns) 4096) parts.1).1 in
    (noted_lines 0 insns, noted_ended 0 insns, noted_are insns few parts.0 k)

-- what is listed of a policy is its file, with slots and bytes and without
pub listing_is_read_back : ListingIsReadBack
listing_is_read_back p has_slots text fit listed =
    let ls = program_lines has_slots p.insns.items p.whole fit in
    let marks = mark_lines p.form.hook p.form.shapes.items p.form.version in
    let same : text ≡ text_of p ls.0 =
    listed.text_is ∙ (λ i. marks_ended p listed.marks listed.are_marks i ++ ls.1 i) ∙ sym (ended_append marks ls.0) in
    subst (IsFileOf p) (sym same) (file_of p ls.0 fit ls.2)
