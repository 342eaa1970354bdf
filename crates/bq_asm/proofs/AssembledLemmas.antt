-- What lines without a fault stand for: new labels, and instructions that are well formed and take the lines' slots.
use Rattle.std.proofs.Common.{◌≡◌, ℕ, suc, ◌+◌, ◌<◌, ◌≤◌, List, [], ◌∷◌, ◌++◌, length, take, get_or, refl, sym, ap, ◌∙◌, Bool, true, false, Some, None, arith, subst, length-append, append_assoc, append-nil}
use Rattle.std.specs.Prelude.{Option, Result, Ok, Err, ℤ, pos, ◌-ℤ◌, FitsSigned, option_map, if◌then◌else◌, nat_le, ◌&&◌, IfSome}
use Rattle.std.specs.Int.{w16}
use Rattle.std.specs.List.{list_any, list_all, AllByRecursion}
use Rattle.std.specs.Map.{lookup, keys_of}
use Rattle.std.specs.Str.{bytes_eq}
use Rattle.std.proofs.lemmas.Bool.Decides.{nat_tests}
use Rattle.std.proofs.lemmas.Int.{ints}
use Rattle.std.proofs.lemmas.List.{map-append, take_at, get_or_at}
use Rattle.bq_insn.specs.declared.Insn.{Insn}
use Rattle.bq_insn.specs.Slots.{slots_of}
use Rattle.bq_insn.specs.Spelling.{slot_count, is_insn, is_well_formed}
use Rattle.bq_insn.specs.Laws.{AllFit}
use Rattle.bq_insn.proofs.CountLemmas.{slots_positive, slot_count-cons}
use Rattle.bq_asm.specs.declared.fault.AssemblyCause.{AssemblyCause}
use Rattle.bq_asm.specs.declared.fault.AssemblyCause.TheVariants.{Word, LabelTwice, Slots}
use Rattle.bq_asm.specs.Lines.{Line, Blank, Label, Instruction, lines_of, last_word}
use Rattle.bq_asm.specs.Operands.{is_label, instruction_of}
use Rattle.bq_asm.specs.Assembly.{slots_read, slots_of_line, label_at, places_from, distance_to, AssemblesFrom, AreNewLabels, Assembles}
use Rattle.bq_asm.specs.Faults.{slots_in, labels_in, cause_of_label, cause_of_insn, cause_at_line, IsClean}
use Rattle.bq_asm.proofs.DraftLemmas.{places_from-append}
use Rattle.bq_asm.proofs.CleanLemmas.{fault_at-is}
use Rattle.bq_asm.proofs.WithinLemmas.{places_within}
use Rattle.bq_asm.proofs.ReadingLemmas.{read_again}
use Rattle.bq_asm.proofs.WellFormedLemmas.{DistanceFits, instruction_fine}

-- after other lines, no line has a fault
abbrev pub IsCleanAfter : List Line → List Line → Type 0
IsCleanAfter before [] = Unit {0}
IsCleanAfter before (line ∷ lines) = (cause_at_line before line ≡ None) × IsCleanAfter (before ++ line ∷ []) lines

-- of lines without a fault, the later ones have no fault after the earlier ones
clean_from : (before lines : List Line) → IsClean (before ++ lines) → IsCleanAfter before lines
clean_from before [] h = tt
clean_from before (line ∷ lines) h =
    let all = before ++ line ∷ lines in
    let more : length before < length all = omega (arith, length-append before (line ∷ lines)) in
    let here = fault_at-is all (length before) Blank more in
    let first : take (length before) all ≡ before = take_at before (line ∷ lines) (length before) refl in
    let this : get_or all (length before) Blank ≡ line = get_or_at before line lines Blank (length before) refl in (
      sym (here ∙ (λ i. cause_at_line (first i) (this i))) ∙ h (suc (length before)),
      clean_from (before ++ line ∷ []) lines (subst IsClean (sym (append_assoc before (line ∷ []) lines)) h),
    )

-- of lines without a fault, each has no cause by the lines before it
pub clean_after : (lines : List Line) → IsClean lines → IsCleanAfter [] lines
clean_after lines h = clean_from [] lines h

-- a label without a cause is a valid name, and was not set before
label_is : (before : List (List ℕ)) (name : List ℕ) → cause_of_label before name ≡ None
    → (is_label name ≡ true) × (list_any (bytes_eq name) before ≡ false)
label_is before name h = by (is_label name) (list_any (bytes_eq name) before) h
  where
    by : (a b : Bool) → (if a then (if b then Some LabelTwice else None) else Some Word) ≡ None → (a ≡ true) × (b ≡ false)
    by true false k = (refl, refl)
    by true true k = absurd (let no : Some LabelTwice ≡ None = k in cc)
    by false b k = absurd (let no : Some Word ≡ None = k in cc)

-- the labels of one line more
pub labels_in-more : (before : List Line) (line : Line)
    → labels_in (before ++ line ∷ []) ≡ labels_in before ++ keys_of (label_at (slots_in before) line)
labels_in-more before line =
    ap keys_of (places_from-append 0 before (line ∷ [])
    ∙ ap (λ ps. places_from 0 before ++ ps) (append-nil (label_at (0 + slots_in before) line) ∙ ap (λ n. label_at n line) (omega arith)))
    ∙ map-append (λ e. e.0) (places_from 0 before) (label_at (slots_in before) line)

-- lines that have no fault after others set labels that are names and were not set before
new_labels : (before lines : List Line) (slot : ℕ) → IsCleanAfter before lines
    → AreNewLabels (labels_in before) (keys_of (places_from slot lines))
new_labels before [] slot h = tt
new_labels before (Blank ∷ lines) slot h =
    subst (λ ls. AreNewLabels ls (keys_of (places_from (slot + 0) lines)))
    (labels_in-more before Blank ∙ append-nil (labels_in before)) (new_labels (before ++ Blank ∷ []) lines (slot + 0) h.1)
new_labels before (Label name ∷ lines) slot h =
    let is = label_is (labels_in before) name h.0 in (
      is.0,
      is.1,
      subst (λ ls. AreNewLabels ls (keys_of (places_from (slot + 0) lines))) (labels_in-more before (Label name))
          (new_labels (before ++ Label name ∷ []) lines (slot + 0) h.1),
    )
new_labels before (Instruction first operands ∷ lines) slot h =
    let line = Instruction first operands in
    subst (λ ls. AreNewLabels ls (keys_of (places_from (slot + slots_of_line line) lines)))
    (labels_in-more before line ∙ append-nil (labels_in before))
    (new_labels (before ++ line ∷ []) lines (slot + slots_of_line line) h.1)

-- lines without a fault set labels that are names, and none of them twice
pub clean_labels : (lines : List Line) → IsClean lines → AreNewLabels [] (keys_of (places_from 0 lines))
clean_labels lines h = new_labels [] lines 0 (clean_after lines h)

-- an instruction takes the slots of its line
pub slots_same : (first : List ℕ) (operands : List (List ℕ)) (d : Option ℤ) (i : Insn)
    → instruction_of first operands d ≡ Ok i → slots_of_line (Instruction first operands) ≡ slots_of i
slots_same first operands d i h = let again = read_again first operands d i h in ap slots_read again.read ∙ again.slots

-- the instructions that lines say take as many slots as the lines
pub assembles_count : (places : List (List ℕ × ℕ)) (slot : ℕ) (lines : List Line) (insns : List Insn)
    → AssemblesFrom places slot lines insns → slot_count insns ≡ slots_in lines
assembles_count places slot [] [] h = refl
assembles_count places slot [] (i ∷ insns) h = absurd h
assembles_count places slot (Instruction first operands ∷ lines) [] h = absurd h
assembles_count places slot (Blank ∷ lines) insns h = let rest = assembles_count places slot lines insns h in omega (arith, rest)
assembles_count places slot (Label name ∷ lines) insns h = let rest = assembles_count places slot lines insns h in omega (arith, rest)
assembles_count places slot (Instruction first operands ∷ lines) (i ∷ insns) h =
    let rest = assembles_count places (slot + slots_of i) lines insns h.1 in
    let here = slots_same first operands (distance_to places slot (last_word operands)) i h.0 in
    let sum = slot_count-cons i insns in
    omega (arith, rest, here, sum)

-- the distance between two slots of at most 4096 fits 16 bits with a sign
near_fits : (at from : ℕ) → at ≤ 4096 → from ≤ 4096 → FitsSigned w16 (pos at -ℤ pos from)
near_fits at from h k = omega (arith, ints)

-- where the slot of each label is within a limit, so is the slot that is found for a name
lookup_near : (limit : ℕ) (name : List ℕ) (places : List (List ℕ × ℕ))
    → AllByRecursion (λ p. p.1 ≤ limit) places → IfSome (lookup (bytes_eq name) places) (λ at. at ≤ limit)
lookup_near limit name [] h = tt
lookup_near limit name (p ∷ places) h = by (bytes_eq name p.0) (lookup_near limit name places h.1)
  where
    by : (b : Bool) → IfSome (lookup (bytes_eq name) places) (λ at. at ≤ limit)
        → IfSome (if b then Some p.1 else lookup (bytes_eq name) places) (λ at. at ≤ limit)
    by true rest = h.0
    by false rest = rest

-- where all labels and the slot behind a jump lie within 4096 slots, the distance to a label fits a near target
pub label_distance_fits : (places : List (List ℕ × ℕ)) (slot : ℕ) (name : List ℕ)
    → AllByRecursion (λ p. p.1 ≤ 4096) places → slot + 1 ≤ 4096 → DistanceFits (distance_to places slot name)
label_distance_fits places slot name h k = by (lookup (bytes_eq name) places) (lookup_near 4096 name places h)
  where
    by : (o : Option ℕ) → IfSome o (λ at. at ≤ 4096) → IfSome (option_map (λ at. pos at -ℤ pos (slot + 1)) o) (FitsSigned w16)
    by None l = tt
    by (Some at) l = near_fits at (slot + 1) l k

-- instructions with all fields in their ranges, whose slots fit a program
pub record AreFine (insns : List Insn) : Type 0 where
  pub in_range : list_all is_insn insns ≡ true
  pub fit : AllFit insns

-- the instructions that lines say within 4096 slots are in range, and their numbers are of their fields' types
pub assembles_fine : (places : List (List ℕ × ℕ)) (slot : ℕ) (lines : List Line) (insns : List Insn)
    → AllByRecursion (λ p. p.1 ≤ 4096) places → slot + slot_count insns ≤ 4096 → AssemblesFrom places slot lines insns
    → AreFine insns
assembles_fine places slot [] [] near few h = record { in_range = refl; fit = tt }
assembles_fine places slot [] (i ∷ insns) near few h = absurd h
assembles_fine places slot (Instruction first operands ∷ lines) [] near few h = absurd h
assembles_fine places slot (Blank ∷ lines) insns near few h = assembles_fine places slot lines insns near few h
assembles_fine places slot (Label name ∷ lines) insns near few h = assembles_fine places slot lines insns near few h
assembles_fine places slot (Instruction first operands ∷ lines) (i ∷ insns) near few h =
    let sum = slot_count-cons i insns in
    let one = slots_positive i in
    let fine =
    instruction_fine first operands (distance_to places slot (last_word operands)) i
    (label_distance_fits places slot (last_word operands) near (omega (arith, sum, one))) h.0 in
    let rest = assembles_fine places (slot + slots_of i) lines insns near (omega (arith, sum)) h.1 in
    record { in_range = ap (λ b. b && list_all is_insn insns) fine.in_range ∙ rest.in_range; fit = (fine.fits, rest.fit) }

-- instructions in range that take 1 to 4096 slots are well formed
well_formed : (insns : List Insn) → list_all is_insn insns ≡ true → 1 ≤ slot_count insns → slot_count insns ≤ 4096
    → is_well_formed insns ≡ true
well_formed insns all some few =
    let low : nat_le 1 (slot_count insns) ≡ true = grind (arith, nat_tests) in
    let high : nat_le (slot_count insns) 4096 ≡ true = grind (arith, nat_tests) in
    (λ i. all i && (low i && high i))

-- what a text stands for is well formed, and its numbers are those of their fields' types
pub assembles_well_formed : (text : List ℕ) (insns : List Insn) → Assembles text insns → (is_well_formed insns ≡ true) × AllFit insns
assembles_well_formed text insns h =
    let count = assembles_count (places_from 0 (lines_of text)) 0 (lines_of text) insns h.assembles in
    let few = h.few in
    let near = places_within 4096 0 (lines_of text) (omega (arith, count, few)) in
    let fine = assembles_fine (places_from 0 (lines_of text)) 0 (lines_of text) insns near (omega (arith, few)) h.assembles in
    (well_formed insns fine.in_range h.some h.few, fine.fit)

-- lines without a fault, and what they say
pub assembles_from : (text : List ℕ) (insns : List Insn) → IsClean (lines_of text) → 0 < slots_in (lines_of text)
    → slots_in (lines_of text) ≤ 4096 → AssemblesFrom (places_from 0 (lines_of text)) 0 (lines_of text) insns
    → Assembles text insns
assembles_from text insns clean some few assembles =
    let count = assembles_count (places_from 0 (lines_of text)) 0 (lines_of text) insns assembles in
    record {
      labels = clean_labels (lines_of text) clean;
      assembles = assembles;
      some = omega (arith, count, some);
      few = omega (arith, count, few);
    }

-- an instruction without a cause ends within the 4096 slots
insn_within : (slots : ℕ) (read : Result Insn AssemblyCause) → cause_of_insn slots read ≡ None → slots + slots_read read ≤ 4096
insn_within slots (Err c) h = absurd (let no : Some c ≡ None = h in cc)
insn_within slots (Ok i) h = by (nat_le (slots + slots_of i) 4096) refl h
  where
    by : (b : Bool) → nat_le (slots + slots_of i) 4096 ≡ b → (if b then None else Some Slots) ≡ None → slots + slots_of i ≤ 4096
    by true e k = grind (arith, nat_tests, e)
    by false e k = absurd (let no : Some Slots ≡ None = k in cc)

-- a line without a fault ends within the slots
pub fits_from_cause : (before : List Line) (line : Line) → slots_in before ≤ 4096 → cause_at_line before line ≡ None
    → slots_in before + slots_of_line line ≤ 4096
fits_from_cause before Blank few h = omega arith
fits_from_cause before (Label name) few h = omega arith
fits_from_cause before (Instruction first operands) few h = insn_within (slots_in before) (instruction_of first operands (Some (pos 0))) h
