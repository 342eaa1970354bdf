-- A text stands for one program, or has one fault.
use Rattle.std.proofs.Common.{◌≡◌, ℕ, zero, suc, ◌+◌, ◌<◌, ◌≤◌, List, [], ◌∷◌, ◌++◌, length, take, get_or, refl, sym, ap, ◌∙◌, Bool, true, false, Some, None, is_some, arith, subst, append_assoc, append-nil, inl, inr, ⊎_elim}
use Rattle.std.specs.Prelude.{Option, Result, Ok, Err, pos, ◌-ℤ◌, ◌⊎◌, option_map, not, ◌&&◌, if◌then◌else◌}
use Rattle.std.specs.List.{list_any, list_all}
use Rattle.std.specs.Map.{lookup, keys_of}
use Rattle.std.specs.Str.{bytes_eq}
use Rattle.std.proofs.lemmas.Bool.{cases_lt, cases_order, and_right, and_parts}
use Rattle.std.proofs.lemmas.Slice.Eq.{bytes_eq-Decides}
use Rattle.std.proofs.lemmas.Map.Made.{is_some-lookup}
use Rattle.bq_insn.specs.declared.Insn.{Insn}
use Rattle.bq_insn.specs.Slots.{slots_of}
use Rattle.bq_insn.specs.Spelling.{slot_count}
use Rattle.bq_insn.proofs.CountLemmas.{slot_count-cons}
use Rattle.bq_insn.proofs.OptionLemmas.{some_none}
use Rattle.bq_asm.specs.declared.fault.AssemblyCause.{AssemblyCause}
use Rattle.bq_asm.specs.declared.fault.AssemblyCause.TheVariants.{LabelMissing, Slots}
use Rattle.bq_asm.specs.declared.mnemonic.Mnemonic.{Mnemonic}
use Rattle.bq_asm.specs.Names.{mnemonic_word}
use Rattle.bq_asm.specs.Named.{named, entry_with, table}
use Rattle.bq_asm.specs.Lines.{Line, Blank, Label, Instruction, lines_of, last_word}
use Rattle.bq_asm.specs.Operands.{instruction_of}
use Rattle.bq_asm.specs.Assembly.{places_from, distance_to, AssemblesFrom, AreNewLabels, Assembles}
use Rattle.bq_asm.specs.Faults.{slots_in, labels_in, cause_at_line, fault_at, awaits_label, cause_of_jump, missing_at, IsFirstCause, IsClean, FaultyLines}
use Rattle.bq_asm.specs.Jumps.{drafts_of, jumps_from, with_jumps}
use Rattle.bq_asm.specs.Laws.{TextHasOneProgram, TextHasOneFault, NoAssemblyIsFaulty, EachTextIsJudged, OneName}
use Rattle.bq_asm.proofs.DraftLemmas.{slots_in-append, insn_fits, cause_of_label-is}
use Rattle.bq_asm.proofs.ReadingLemmas.{read_again}
use Rattle.bq_asm.proofs.PassLemmas.{missing_in, Passes}
use Rattle.bq_asm.proofs.CleanLemmas.{fault_at-is, first_from_missing, passes_all}
use Rattle.bq_asm.proofs.AssembledLemmas.{IsCleanAfter, clean_after, labels_in-more, slots_same, assembles_count, assembles_from, fits_from_cause}
use Rattle.bq_asm.proofs.LineByLineLemmas.{all_clean}

-- lines say one program at most
assembles_unique : (places : List (List ℕ × ℕ)) (slot : ℕ) (lines : List Line) (a b : List Insn)
    → AssemblesFrom places slot lines a → AssemblesFrom places slot lines b → a ≡ b
assembles_unique places slot [] [] [] h k = refl
assembles_unique places slot [] [] (j ∷ b) h k = absurd k
assembles_unique places slot [] (i ∷ a) b h k = absurd h
assembles_unique places slot (Blank ∷ lines) a b h k = assembles_unique places slot lines a b h k
assembles_unique places slot (Label name ∷ lines) a b h k = assembles_unique places slot lines a b h k
assembles_unique places slot (Instruction first operands ∷ lines) [] b h k = absurd h
assembles_unique places slot (Instruction first operands ∷ lines) (i ∷ a) [] h k = absurd k
assembles_unique places slot (Instruction first operands ∷ lines) (i ∷ a) (j ∷ b) h k =
    let read : Ok i ≡ Ok j = sym h.0 ∙ k.0 in
    let same : i ≡ j = cc in
    let rest =
    assembles_unique places (slot + slots_of i) lines a b h.1
    (subst (λ x. AssemblesFrom places (slot + slots_of x) lines b) (sym same) k.1) in
    λ n. same n ∷ rest n

-- a text stands for at most one list of instructions
pub one_program : TextHasOneProgram
one_program text a b h k = assembles_unique (places_from 0 (lines_of text)) 0 (lines_of text) a b h.assembles k.assembles

-- lines that say something have no fault
clean_assembled : (places : List (List ℕ × ℕ)) (slot : ℕ) (before lines : List Line) (insns : List Insn)
    → slot ≡ slots_in before → AreNewLabels (labels_in before) (keys_of (places_from slot lines))
    → AssemblesFrom places slot lines insns → slot + slot_count insns ≤ 4096
    → IsCleanAfter before lines
clean_assembled places slot before [] insns at new assembles few = tt
clean_assembled places slot before (Blank ∷ lines) insns at new assembles few =
    let next : slot ≡ slots_in (before ++ Blank ∷ []) = let more = slots_in-append before (Blank ∷ []) in omega arith in
    let same : slot + 0 ≡ slot = omega arith in
    let labels = sym (labels_in-more before Blank ∙ append-nil (labels_in before)) in (
      refl,
      clean_assembled places slot (before ++ Blank ∷ []) lines insns next
          (subst (λ ls. AreNewLabels ls (keys_of (places_from slot lines))) labels
          (subst (λ n. AreNewLabels (labels_in before) (keys_of (places_from n lines))) same new)) assembles few,
    )
clean_assembled places slot before (Label name ∷ lines) insns at new assembles few =
    let next : slot ≡ slots_in (before ++ Label name ∷ []) = let more = slots_in-append before (Label name ∷ []) in omega arith in
    let same : slot + 0 ≡ slot = omega arith in
    let labels = sym (labels_in-more before (Label name)) in (
      cause_of_label-is (labels_in before) name false new.0 new.1,
      clean_assembled places slot (before ++ Label name ∷ []) lines insns next
          (subst (λ ls. AreNewLabels ls (keys_of (places_from slot lines))) labels
          (subst (λ n. AreNewLabels (labels_in before ++ name ∷ []) (keys_of (places_from n lines))) same new.2))
          assembles few,
    )
clean_assembled places slot before (Instruction first operands ∷ lines) [] at new assembles few = absurd assembles
clean_assembled places slot before (Instruction first operands ∷ lines) (i ∷ insns) at new assembles few =
    let line = Instruction first operands in
    let sum = slot_count-cons i insns in
    let again = read_again first operands (distance_to places slot (last_word operands)) i assembles.0 in
    let size = again.slots in
    let fits : slots_in before + slots_of again.insn ≤ 4096 = omega (arith, at, sum, few, size) in
    let taken = slots_same first operands (distance_to places slot (last_word operands)) i assembles.0 in
    let next : slot + slots_of i ≡ slots_in (before ++ line ∷ []) =
    let more = slots_in-append before (line ∷ []) in omega (arith, at, taken, more) in
    let labels = sym (labels_in-more before line ∙ append-nil (labels_in before)) in (
      insn_fits (slots_in before) again.insn (instruction_of first operands (Some (pos 0))) again.read fits,
      clean_assembled places (slot + slots_of i) (before ++ line ∷ []) lines insns next
          (subst (λ ls. AreNewLabels ls (keys_of (places_from (slot + slots_of i) lines))) labels
          (subst (λ n. AreNewLabels (labels_in before) (keys_of (places_from (slot + n) lines))) taken new)) assembles.1
          (omega (arith, sum, few)),
    )

-- no line of them has a fault
cause_none : (before lines : List Line) (k : ℕ) (d : Line) → k < length lines → IsCleanAfter before lines
    → cause_at_line (before ++ take k lines) (get_or lines k d) ≡ None
cause_none before [] k d lt h = absurd (omega arith)
cause_none before (line ∷ lines) zero d lt h = ap (λ ls. cause_at_line ls line) (append-nil before) ∙ h.0
cause_none before (line ∷ lines) (suc k) d lt h =
    ap (λ ls. cause_at_line ls (get_or lines k d)) (sym (append_assoc before (line ∷ []) (take k lines)))
    ∙ cause_none (before ++ line ∷ []) lines k d (omega arith) h.1

-- lines of which none has a fault after the lines before it have no fault
clean_from_after : (lines : List Line) → IsCleanAfter [] lines → IsClean lines
clean_from_after lines h = all_clean lines (length lines) refl each
  where
    each : (k : ℕ) → k ≤ length lines → fault_at lines k ≡ None
    each zero le = refl
    each (suc k) le = fault_at-is lines k Blank (omega arith) ∙ cause_none [] lines k Blank (omega arith) h

-- the lines of a text that stands for instructions have no fault by themselves
assembled_clean : (text : List ℕ) (insns : List Insn) → Assembles text insns → IsClean (lines_of text)
assembled_clean text insns h =
    let few = h.few in
    clean_from_after (lines_of text)
    (clean_assembled (places_from 0 (lines_of text)) 0 [] (lines_of text) insns refl h.labels h.assembles (omega (arith, few)))

-- no line of a program names a label that is missing
no_label_missing : (places : List (List ℕ × ℕ)) (slot : ℕ) (first : List ℕ) (operands : List (List ℕ)) (i : Insn)
    → instruction_of first operands (distance_to places slot (last_word operands)) ≡ Ok i
    → cause_of_jump (keys_of places) (Instruction first operands) ≡ None
no_label_missing places slot first operands i h = by (lookup (bytes_eq (last_word operands)) places) refl h
  where
    answer : Bool → Bool → Option AssemblyCause
    answer awaits known = if awaits && not known then Some LabelMissing else None

    by : (o : Option ℕ) → lookup (bytes_eq (last_word operands)) places ≡ o
        → instruction_of first operands (option_map (λ at. pos at -ℤ pos (slot + 1)) o) ≡ Ok i
        → cause_of_jump (keys_of places) (Instruction first operands) ≡ None
    by (Some at) e k =
        let known : list_any (bytes_eq (last_word operands)) (keys_of places) ≡ true =
        sym (is_some-lookup (bytes_eq (last_word operands)) places) ∙ ap is_some e in
        ap (λ b. if awaits_label (instruction_of first operands None) && not b then Some LabelMissing else None) known
        ∙ ap (λ b. if b then Some LabelMissing else None) (and_right (awaits_label (instruction_of first operands None)) false refl)
    by None e k =
        ap (λ r. if awaits_label r && not (list_any (bytes_eq (last_word operands)) (keys_of places)) then Some LabelMissing else None) k

-- where lines say instructions, no line jumps to a label that is missing
none_missing : (places : List (List ℕ × ℕ)) (slot : ℕ) (lines : List Line) (insns : List Insn)
    → AssemblesFrom places slot lines insns → (k : ℕ) → missing_in (keys_of places) lines k ≡ None
none_missing places slot [] insns h k = refl
none_missing places slot (Blank ∷ lines) insns h zero = refl
none_missing places slot (Blank ∷ lines) insns h (suc k) = none_missing places slot lines insns h k
none_missing places slot (Label name ∷ lines) insns h zero = refl
none_missing places slot (Label name ∷ lines) insns h (suc k) = none_missing places slot lines insns h k
none_missing places slot (Instruction first operands ∷ lines) [] h k = absurd h
none_missing places slot (Instruction first operands ∷ lines) (i ∷ insns) h zero = no_label_missing places slot first operands i h.0
none_missing places slot (Instruction first operands ∷ lines) (i ∷ insns) h (suc k) =
    none_missing places (slot + slots_of i) lines insns h.1 k

-- no line of a text that stands for instructions jumps to a label that is missing
missing_none : (text : List ℕ) (insns : List Insn) → Assembles text insns → (k : ℕ) → missing_at (lines_of text) k ≡ None
missing_none text insns h zero = refl
missing_none text insns h (suc k) = none_missing (places_from 0 (lines_of text)) 0 (lines_of text) insns h.assembles k

-- a text that stands for instructions has no fault
pub no_program_is_faulty : NoAssemblyIsFaulty
no_program_is_faulty text insns line c h f =
    let clean = assembled_clean text insns h in
    let count = assembles_count (places_from 0 (lines_of text)) 0 (lines_of text) insns h.assembles in
    let some = h.some in
    ⊎_elim (λ first. some_none (fault_at (lines_of text) line) c first.0 (clean line))
    (λ whole.
    ⊎_elim (λ none. let zero = none.1 in omega (arith, zero, count, some))
    (λ missing. some_none (missing_at (lines_of text) line) c missing.2.0 (missing_none text insns h line)) whole) f

-- the first is one
one_first : (f : ℕ → Option AssemblyCause) (m n : ℕ) (c d : AssemblyCause) → IsFirstCause f m c → IsFirstCause f n d → (m ≡ n) × (c ≡ d)
one_first f m n c d h k = ⊎_elim
    (λ e. let both : Some c ≡ Some d = sym h.0 ∙ ap f e ∙ k.0 in (e, cc))
    (λ apart. ⊎_elim (λ lt. absurd (some_none (f m) c h.0 (k.1 m lt))) (λ gt. absurd (some_none (f n) d k.0 (h.1 n gt))) apart)
    (cases_order m n)

-- a text has at most one fault: one line, and there one cause
pub one_fault : TextHasOneFault
one_fault text m n c d h k =
    ⊎_elim (λ a. ⊎_elim (λ b. one_first (fault_at lines) m n c d a b)
    (λ b. absurd (⊎_elim (λ x. some_none (fault_at lines m) c a.0 (x.0 m)) (λ x. some_none (fault_at lines m) c a.0 (x.0 m)) b)) k)
    (λ a.
    ⊎_elim
    (λ b. absurd (⊎_elim (λ x. some_none (fault_at lines n) d b.0 (x.0 n)) (λ x. some_none (fault_at lines n) d b.0 (x.0 n)) a))
    (λ b. whole a b) k) h
  where
    lines : List Line
    lines = lines_of text

    whole : (IsClean (lines_of text) × (slots_in (lines_of text) ≡ 0) × (m ≡ 0) × (c ≡ Slots))
        ⊎ (IsClean (lines_of text) × (0 < slots_in (lines_of text)) × IsFirstCause (missing_at (lines_of text)) m c)
        → (IsClean (lines_of text) × (slots_in (lines_of text) ≡ 0) × (n ≡ 0) × (d ≡ Slots))
        ⊎ (IsClean (lines_of text) × (0 < slots_in (lines_of text)) × IsFirstCause (missing_at (lines_of text)) n d)
        → (m ≡ n) × (c ≡ d)
    whole (inl a) (inl b) = (a.2 ∙ sym b.2, a.3 ∙ sym b.3)
    whole (inl a) (inr b) = absurd (let none = a.1 in let some = b.1 in omega arith)
    whole (inr a) (inl b) = absurd (let none = b.1 in let some = a.1 in omega arith)
    whole (inr a) (inr b) = one_first (missing_at (lines_of text)) m n c d a.2 b.2

-- the first of some that has a cause, or none has
IsNoneBelow : (ℕ → Option AssemblyCause) → ℕ → Type 0
IsNoneBelow f n = (k : ℕ) → k < n → f k ≡ None

-- either no line below a number has a cause, or some line is the first that has one
sought : (f : ℕ → Option AssemblyCause) (n : ℕ) → IsNoneBelow f n ⊎ ((line : ℕ) × (c : AssemblyCause) × IsFirstCause f line c)
unfolding IsNoneBelow
sought f zero = inl (λ k lt. absurd (omega arith))
sought f (suc n) = ⊎_elim (λ none. by (f n) refl none) (λ found. inr found) (sought f n)
  where
    by : (o : Option AssemblyCause) → f n ≡ o → IsNoneBelow f n → IsNoneBelow f (suc n) ⊎ ((line : ℕ) × (c : AssemblyCause) × IsFirstCause f line c)
    by None e none =
        inl (λ k lt.
        ⊎_elim (λ below. none k below) (λ above. let same : n ≡ k = omega arith in subst (λ m. f m ≡ None) same e)
        (cases_lt k n))
    by (Some c) e none = inr (n, c, (e, none))

-- lines without a fault take at most 4096 slots
clean_few : (before lines : List Line) → slots_in before ≤ 4096 → IsCleanAfter before lines → slots_in before + slots_in lines ≤ 4096
clean_few before [] few h = omega arith
clean_few before (line ∷ lines) few h =
    let more = slots_in-append before (line ∷ []) in
    let here = fits_from_cause before line few h.0 in
    let rest = clean_few (before ++ line ∷ []) lines (omega (arith, more, here)) h.1 in
    omega (arith, more, rest)

-- each text stands for instructions or has a fault
pub each_text_is_judged : EachTextIsJudged
unfolding IsNoneBelow
each_text_is_judged text =
    ⊎_elim (λ none. clean (all_clean lines (length lines) refl (λ k le. none k (omega arith))))
    (λ found. inr (found.0, found.1, inl found.2)) (sought (fault_at lines) (suc (length lines)))
  where
    lines : List Line
    lines = lines_of text

    passed : IsClean (lines_of text) → 0 < slots_in (lines_of text) → slots_in (lines_of text) ≤ 4096
        → (r : Result (List Insn) ℕ) → Passes (places_from 0 (lines_of text)) 0 1 [] (lines_of text) r
        → ((insns : List Insn) × Assembles text insns) ⊎ ((line : ℕ) × (c : AssemblyCause) × FaultyLines (lines_of text) line c)
    passed h some few (Ok insns) p = inl (p.0, assembles_from text p.0 h some few p.2)
    passed h some few (Err line) p = inr (line, LabelMissing, inr (inr (h, some, first_from_missing (lines_of text) line p)))

    clean : IsClean (lines_of text)
        → ((insns : List Insn) × Assembles text insns) ⊎ ((line : ℕ) × (c : AssemblyCause) × FaultyLines (lines_of text) line c)
    clean h =
        let bound = clean_few [] (lines_of text) (omega arith) (clean_after (lines_of text) h) in
        let few : slots_in (lines_of text) ≤ 4096 = omega (arith, bound) in
        ⊎_elim (λ some.
        passed h some few (with_jumps (places_from 0 (lines_of text)) (jumps_from 0 0 1 (lines_of text)) (drafts_of (lines_of text)))
        (passes_all (lines_of text) (places_from 0 (lines_of text)) (jumps_from 0 0 1 (lines_of text))
        (drafts_of (lines_of text)) _ h refl refl refl refl))
        (λ none. inr (0, Slots, inr (inl (h, omega (arith, none), refl, refl)))) (cases_lt 0 (slots_in (lines_of text)))

-- what the table has under a word is named by it
entry_name : (word : List ℕ) (m : Mnemonic) (es : List (List ℕ × Mnemonic))
    → list_all (λ e. bytes_eq e.0 (mnemonic_word e.1)) es ≡ true → entry_with word es ≡ Some m → word ≡ mnemonic_word m
entry_name word m [] h k = absurd (let no : None ≡ Some m = k in cc)
entry_name word m (e ∷ es) h k =
    let parts = and_parts (bytes_eq e.0 (mnemonic_word e.1)) (list_all (λ e. bytes_eq e.0 (mnemonic_word e.1)) es) h in
    by (bytes_eq e.0 word) refl parts.0 k (entry_name word m es parts.1)
  where
    by : (b : Bool) → bytes_eq e.0 word ≡ b → bytes_eq e.0 (mnemonic_word e.1) ≡ true
        → (if b then Some e.1 else entry_with word es) ≡ Some m → (entry_with word es ≡ Some m → word ≡ mnemonic_word m)
        → word ≡ mnemonic_word m
    by true t named found rest =
        let same : e.1 ≡ m = let s : Some e.1 ≡ Some m = found in cc in
        sym ((bytes_eq-Decides e.0 word).0 t) ∙ (bytes_eq-Decides e.0 (mnemonic_word e.1)).0 named ∙ ap mnemonic_word same
    by false t named found rest = rest found

-- a first word that says something is the name of what it says
pub one_name : OneName
one_name word m h = entry_name word m table refl h
