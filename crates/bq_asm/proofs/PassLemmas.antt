-- The second pass: the jumps of the lines, set one after another, give what the lines say.
use Rattle.std.proofs.Common.{◌≡◌, ℕ, zero, suc, ◌+◌, ◌<◌, List, [], ◌∷◌, ◌++◌, length, refl, sym, ap, ◌∙◌, Bool, true, false, Some, None, is_some, arith, subst, append_assoc, length-append, ⊎_elim}
use Rattle.std.specs.Prelude.{Option, Result, Ok, Err, pos, ◌-ℤ◌, slice_get, slice_set, slice_index_or, option_and_then, not, ◌&&◌, if◌then◌else◌, option_map}
use Rattle.std.specs.List.{list_any, AllByRecursion}
use Rattle.std.specs.Map.{lookup, keys_of}
use Rattle.std.specs.Str.{bytes_eq}
use Rattle.std.proofs.lemmas.List.{set_at, get_or_at}
use Rattle.std.proofs.lemmas.Map.Made.{is_some-lookup}
use Rattle.bq_insn.specs.declared.Insn.{Insn}
use Rattle.bq_insn.specs.declared.Insn.TheVariants as insn
use Rattle.bq_insn.specs.Slots.{slots_of}
use Rattle.bq_asm.specs.declared.fault.AssemblyCause.{AssemblyCause}
use Rattle.bq_asm.specs.declared.fault.AssemblyCause.TheVariants.{LabelMissing}
use Rattle.bq_asm.specs.Lines.{Line, Blank, Label, Instruction, last_word}
use Rattle.bq_asm.specs.Operands.{instruction_of}
use Rattle.bq_asm.specs.Assembly.{slots_read, distance_to, AssemblesFrom}
use Rattle.bq_asm.specs.Faults.{awaits_label, cause_of_jump}
use Rattle.bq_asm.specs.Jumps.{Awaited, jump_aimed, awaited_at, insn_read, drafts_of, jump_read, jumps_from, with_jump, with_jumps}
use Rattle.bq_asm.proofs.ReadingLemmas.{IsPlain, IsAwaiting, plain_or_awaiting, jump_slots, aimed_slots}

-- the line says no instruction, or one that is read
abbrev pub IsReadable : Line → Type 0
IsReadable (Instruction first operands) = (i : Insn) × (instruction_of first operands (Some (pos 0)) ≡ Ok i)
IsReadable line = Unit {0}

-- the label of the jump at the line of this number, from 0 on, is not one of these
abbrev pub missing_in : List (List ℕ) → List Line → ℕ → Option AssemblyCause
missing_in labels lines k = option_and_then (cause_of_jump labels) (slice_get lines k)

-- where the first line has this number, the first jump whose label is not one of these is at that line
pub record IsFirstMissing (labels : List (List ℕ)) (lines : List Line) (number line : ℕ) : Type 0 where
  pub index : ℕ
  pub at : line ≡ number + index
  pub missing : missing_in labels lines index ≡ Some LabelMissing
  pub before : (k : ℕ) → k < index → missing_in labels lines k ≡ None

-- a jump at the first line whose label is missing is the first such jump
first_missing : (labels : List (List ℕ)) (line : Line) (lines : List Line) (number : ℕ)
    → cause_of_jump labels line ≡ Some LabelMissing → IsFirstMissing labels (line ∷ lines) number number
first_missing labels line lines number h = record { index = 0; at = omega arith; missing = h; before = λ k lt. absurd (omega arith) }

-- where the first line has no such jump, the first among the other lines is the first of all
later_missing : (labels : List (List ℕ)) (line : Line) (lines : List Line) (number found : ℕ)
    → cause_of_jump labels line ≡ None → IsFirstMissing labels lines (number + 1) found
    → IsFirstMissing labels (line ∷ lines) number found
later_missing labels line lines number found none m =
    let at = m.at in
    record { index = suc m.index; at = omega arith; missing = m.missing; before = before }
  where
    before : (k : ℕ) → k < suc m.index → missing_in labels (line ∷ lines) k ≡ None
    before zero lt = none
    before (suc k) lt = m.before k (omega arith)

-- what the second pass gives for lines, after the instructions that are done
abbrev pub Passes : List (List ℕ × ℕ) → ℕ → ℕ → List Insn → List Line → Result (List Insn) ℕ → Type 0
Passes places slot number done lines (Ok insns) = (rest : List Insn) × (insns ≡ done ++ rest) × AssemblesFrom places slot lines rest
Passes places slot number done lines (Err found) = IsFirstMissing (keys_of places) lines number found

-- a line that says no instruction
passes_over : (places : List (List ℕ × ℕ)) (slot number : ℕ) (done : List Insn) (line : Line) (lines : List Line)
    (r : Result (List Insn) ℕ)
    → cause_of_jump (keys_of places) line ≡ None
    → ((rest : List Insn) → AssemblesFrom places slot lines rest → AssemblesFrom places slot (line ∷ lines) rest)
    → Passes places slot (number + 1) done lines r
    → Passes places slot number done (line ∷ lines) r
passes_over places slot number done line lines (Ok insns) none assembles p = (p.0, p.1, assembles p.0 p.2)
passes_over places slot number done line lines (Err found) none assembles p = later_missing (keys_of places) line lines number found none p

-- a line whose instruction is v in the end
passes_insn : (places : List (List ℕ × ℕ)) (slot number : ℕ) (done : List Insn) (first : List ℕ) (operands : List (List ℕ))
    (v : Insn) (size : ℕ) (lines : List Line) (r : Result (List Insn) ℕ)
    → cause_of_jump (keys_of places) (Instruction first operands) ≡ None
    → instruction_of first operands (distance_to places slot (last_word operands)) ≡ Ok v → slots_of v ≡ size
    → Passes places (slot + size) (number + 1) (done ++ v ∷ []) lines r
    → Passes places slot number done (Instruction first operands ∷ lines) r
passes_insn places slot number done first operands v size lines (Ok insns) none is same p =
    (v ∷ p.0, p.1 ∙ append_assoc done (v ∷ []) p.0, (is, subst (λ n. AssemblesFrom places (slot + n) lines p.0) (sym same) p.2))
passes_insn places slot number done first operands v size lines (Err found) none is same p =
    later_missing (keys_of places) (Instruction first operands) lines number found none p

-- a jump whose label is looked for
sought : (places : List (List ℕ × ℕ)) (operands : List (List ℕ)) (read : Result Insn AssemblyCause) (found : Option ℕ)
    → read ≡ Err LabelMissing → lookup (bytes_eq (last_word operands)) places ≡ found
    → (if awaits_label read && not (list_any (bytes_eq (last_word operands)) (keys_of places)) then Some LabelMissing else None)
    ≡ (if is_some found then None else Some LabelMissing)
sought places operands read found h e =
    ap (λ r. if awaits_label r && not (list_any (bytes_eq (last_word operands)) (keys_of places)) then Some LabelMissing else None) h
    ∙ ap (λ b. if not b then Some LabelMissing else None) (sym (is_some-lookup (bytes_eq (last_word operands)) places) ∙ ap is_some e)
    ∙ turned (is_some found)
  where
    turned : (b : Bool) → (if not b then Some LabelMissing else None) ≡ (if b then None else Some LabelMissing)
    turned true = refl
    turned false = refl

-- a line whose instruction is read with no distance known does not jump to a missing label
plain_jump : (labels : List (List ℕ)) (first : List ℕ) (operands : List (List ℕ)) (i : Insn)
    → instruction_of first operands None ≡ Ok i → cause_of_jump labels (Instruction first operands) ≡ None
plain_jump labels first operands i h =
    ap (λ r. if awaits_label r && not (list_any (bytes_eq (last_word operands)) labels) then Some LabelMissing else None) h

-- one line of an instruction, with what is known of the lines after it
module _ (places : List (List ℕ × ℕ)) (index slot number : ℕ) (done : List Insn) (first : List ℕ) (operands : List (List ℕ))
    (i : Insn) (lines : List Line) (count : length done ≡ index)
    (more : (v : Insn) → Passes places (slot + slots_of i) (number + 1) (done ++ v ∷ []) lines
    (with_jumps places (jumps_from (index + 1) (slot + slots_of i) (number + 1) lines) ((done ++ v ∷ []) ++ drafts_of lines))) where
  -- the jumps to labels after the line
  abbrev later : List Awaited
  later = jumps_from (index + 1) (slot + slots_of i) (number + 1) lines

  -- what the second pass gives for the lines after an instruction, with it among those that are done
  after : (v : Insn)
      → Passes places (slot + slots_of i) (number + 1) (done ++ v ∷ []) lines (with_jumps places later (done ++ v ∷ drafts_of lines))
  after v =
      subst (λ is. Passes places (slot + slots_of i) (number + 1) (done ++ v ∷ []) lines (with_jumps places later is))
      (append_assoc done (v ∷ []) (drafts_of lines)) (more v)

  -- what the second pass gives where the instruction does not wait for a label
  plain : IsPlain first operands i
      → Passes places slot number done (Instruction first operands ∷ lines) (with_jumps places later (done ++ i ∷ drafts_of lines))
  plain p = passes_insn places slot number done first operands i (slots_of i) lines (with_jumps places later (done ++ i ∷ drafts_of lines))
      (plain_jump (keys_of places) first operands i (p.same None)) (p.same (distance_to places slot (last_word operands))) refl (after i)

  -- the jump to a label, where the label is sought
  abbrev awaited : Awaited
  awaited = record { index = index; next = slot + slots_of i; line = number; label = last_word operands }

  -- what the second pass gives where it is a jump that waits for a label, which is found or not
  jump : IsAwaiting first operands i → (found : Option ℕ) → lookup (bytes_eq (last_word operands)) places ≡ found
      → Passes places slot number done (Instruction first operands ∷ lines)
      (with_jump awaited (done ++ i ∷ drafts_of lines) (λ changed. with_jumps places later changed) found)
  jump a None e =
      first_missing (keys_of places) (Instruction first operands) lines number
      (sought places operands (instruction_of first operands None) None a.unset e)
  jump a (Some at) e =
      let z = pos at -ℤ pos (slot + slots_of i) in
      let v = jump_aimed i z in
      let all = done ++ i ∷ drafts_of lines in
      let here : slice_index_or all index insn.Exit ≡ i = get_or_at done i (drafts_of lines) insn.Exit index count in
      let changed : slice_set all index (jump_aimed (slice_index_or all index insn.Exit) z) ≡ done ++ v ∷ drafts_of lines =
      ap (λ j. slice_set all index (jump_aimed j z)) here ∙ set_at done i (drafts_of lines) v index count in
      let one = jump_slots i a.jump in
      let distance : distance_to places slot (last_word operands) ≡ Some z =
      ap (option_map (λ at. pos at -ℤ pos (slot + 1))) e ∙ ap (λ n. Some (pos at -ℤ pos (slot + n))) (sym one) in
      subst (λ is. Passes places slot number done (Instruction first operands ∷ lines) (with_jumps places later is))
      (sym changed) (passes_insn places slot number done first operands v
      (slots_of i) lines (with_jumps places later (done ++ v ∷ drafts_of lines))
      (sought places operands (instruction_of first operands None) (Some at) a.unset e)
      (ap (instruction_of first operands) distance ∙ a.set z) (aimed_slots i z) (after v))

  -- what the second pass gives for the line of any instruction that is read
  passes_step : instruction_of first operands (Some (pos 0)) ≡ Ok i
      → Passes places slot number done (Instruction first operands ∷ lines)
      (with_jumps places (jumps_from index slot number (Instruction first operands ∷ lines))
      (done ++ drafts_of (Instruction first operands ∷ lines)))
  passes_step read =
      let goal = Passes places slot number done (Instruction first operands ∷ lines) in
      subst (λ r.
      goal (with_jumps places
      (jump_read index slot number operands r ++ jumps_from (index + length (insn_read r)) (slot + slots_read r) (number + 1) lines)
      (done ++ (insn_read r ++ drafts_of lines)))) (sym read)
      (⊎_elim (λ p.
      subst (λ t. goal (with_jumps places (awaited_at index (slot + slots_of i) number t ++ later) (done ++ i ∷ drafts_of lines)))
      (sym p.target) (plain p)) (λ a.
      subst (λ t. goal (with_jumps places (awaited_at index (slot + slots_of i) number t ++ later) (done ++ i ∷ drafts_of lines)))
      (sym a.target) (jump a (lookup (bytes_eq (last_word operands)) places) refl)) (plain_or_awaiting first operands i read))

-- a line that says no instruction keeps the numbers of the lines after it
module _ (places : List (List ℕ × ℕ)) (index slot number : ℕ) (done : List Insn) (lines : List Line)
    (more : Passes places slot (number + 1) done lines
    (with_jumps places (jumps_from index slot (number + 1) lines) (done ++ drafts_of lines))) where
  -- what the second pass gives for the lines after it
  kept : Passes places slot (number + 1) done lines
      (with_jumps places (jumps_from (index + 0) (slot + 0) (number + 1) lines) (done ++ drafts_of lines))
  kept =
      let same : index ≡ index + 0 = omega arith in
      let here : slot ≡ slot + 0 = omega arith in
      subst (λ n.
      Passes places slot (number + 1) done lines
      (with_jumps places (jumps_from n (slot + 0) (number + 1) lines) (done ++ drafts_of lines))) same
      (subst (λ n.
      Passes places slot (number + 1) done lines
      (with_jumps places (jumps_from index n (number + 1) lines) (done ++ drafts_of lines))) here more)

-- the jumps of lines, set after those before, give what the lines say or the first label that is missing
pub readable_lines_pass : (places : List (List ℕ × ℕ)) (index slot number : ℕ) (done : List Insn) (lines : List Line)
    → length done ≡ index → AllByRecursion IsReadable lines
    → Passes places slot number done lines (with_jumps places (jumps_from index slot number lines) (done ++ drafts_of lines))
readable_lines_pass places index slot number done [] count readable = ([], refl, tt)
readable_lines_pass places index slot number done (Blank ∷ lines) count readable =
    passes_over places slot number done Blank lines
    (with_jumps places (jumps_from (index + 0) (slot + 0) (number + 1) lines) (done ++ drafts_of lines)) refl (λ rest h. h)
    (kept places index slot number done lines (readable_lines_pass places index slot (number + 1) done lines count readable.1))
readable_lines_pass places index slot number done (Label name ∷ lines) count readable =
    passes_over places slot number done (Label name) lines
    (with_jumps places (jumps_from (index + 0) (slot + 0) (number + 1) lines) (done ++ drafts_of lines)) refl (λ rest h. h)
    (kept places index slot number done lines (readable_lines_pass places index slot (number + 1) done lines count readable.1))
readable_lines_pass places index slot number done (Instruction first operands ∷ lines) count readable =
    let i = readable.0.0 in
    passes_step places index slot number done first operands i lines count
    (λ v.
    readable_lines_pass places (index + 1) (slot + slots_of i) (number + 1) (done ++ v ∷ []) lines
    (length-append done (v ∷ []) ∙ ap (λ n. n + 1) count) readable.1) readable.0.1
