-- Lines without a fault are read, and what the second pass finds is what they say.
use Rattle.std.proofs.Common.{◌≡◌, ℕ, zero, suc, ◌<◌, List, [], length, take, get_or, refl, sym, ap, ◌∙◌, Some, None, arith, subst}
use Rattle.std.specs.Prelude.{Result, Ok, Err, pos, option_and_then}
use Rattle.std.specs.List.{AllByRecursion}
use Rattle.std.proofs.lemmas.Option.{slice_get-get_or}
use Rattle.std.proofs.lemmas.List.Elements.{recursion_from_All}
use Rattle.bq_insn.specs.declared.Insn.{Insn}
use Rattle.bq_asm.specs.declared.fault.AssemblyCause.{AssemblyCause}
use Rattle.bq_asm.specs.declared.fault.AssemblyCause.TheVariants.{LabelMissing}
use Rattle.bq_asm.specs.Lines.{Line, Blank, Label, Instruction}
use Rattle.bq_asm.specs.Operands.{instruction_of}
use Rattle.bq_asm.specs.Assembly.{places_from}
use Rattle.bq_asm.specs.Faults.{slots_in, labels_in, cause_of_insn, cause_at_line, fault_at, missing_at, IsFirstCause, IsClean}
use Rattle.bq_asm.specs.Jumps.{Awaited, drafts_of, jumps_from, with_jumps}
use Rattle.bq_asm.proofs.PassLemmas.{IsReadable, IsFirstMissing, Passes, readable_lines_pass}

-- an instruction without a cause was read
read_from_cause : (slots : ℕ) (read : Result Insn AssemblyCause) → cause_of_insn slots read ≡ None → (i : Insn) × (read ≡ Ok i)
read_from_cause slots (Err c) h = absurd (let no : Some c ≡ None = h in cc)
read_from_cause slots (Ok i) h = (i, refl)

-- a line without a cause says no instruction, or one that is read
readable : (before : List Line) (line : Line) → cause_at_line before line ≡ None → IsReadable line
readable before Blank h = tt
readable before (Label name) h = tt
readable before (Instruction first operands) h = read_from_cause (slots_in before) (instruction_of first operands (Some (pos 0))) h

-- a line's fault is its cause by the lines before it
pub fault_at-is : (lines : List Line) (k : ℕ) (d : Line) → k < length lines
    → fault_at lines (suc k) ≡ cause_at_line (take k lines) (get_or lines k d)
fault_at-is lines k d h = ap (option_and_then (cause_at_line (take k lines))) (slice_get-get_or lines k d h)

-- each of some lines without a fault can be read
pub readable_from_clean : (lines : List Line) → IsClean lines → AllByRecursion IsReadable lines
readable_from_clean lines clean =
    recursion_from_All IsReadable lines
    (λ k d h. readable (take k lines) (get_or lines k d) (sym (fault_at-is lines k d h) ∙ clean (suc k)))

-- the first jump whose label is set nowhere, its line counted from 1, is the first cause of a missing label
pub first_from_missing : (lines : List Line) (line : ℕ) → IsFirstMissing (labels_in lines) lines 1 line
    → IsFirstCause (missing_at lines) line LabelMissing
first_from_missing lines line m =
    let here : line ≡ suc m.index = let at = m.at in omega arith in
    (ap (missing_at lines) here ∙ m.missing, before)
  where
    before : (k : ℕ) → k < line → missing_at lines k ≡ None
    before zero h = refl
    before (suc k) h = let at = m.at in m.before k (omega arith)

-- what the second pass answers, of the draft of lines without a fault
pub passes_all : (lines : List Line) (places : List (List ℕ × ℕ)) (jumps : List Awaited) (insns : List Insn)
    (r : Result (List Insn) ℕ)
    → IsClean lines → places ≡ places_from 0 lines → jumps ≡ jumps_from 0 0 1 lines → insns ≡ drafts_of lines
    → with_jumps places jumps insns ≡ r
    → Passes (places_from 0 lines) 0 1 [] lines r
passes_all lines places jumps insns r clean a b c e =
    let all = readable_lines_pass (places_from 0 lines) 0 0 1 [] lines refl (readable_from_clean lines clean) in
    subst (Passes (places_from 0 lines) 0 1 [] lines) ((λ i. with_jumps (sym a i) (sym b i) (sym c i)) ∙ e) all
