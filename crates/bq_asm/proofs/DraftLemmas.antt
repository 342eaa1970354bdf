-- What one more line adds to a draft: its label, slots, instruction and jump, and why it may be refused.
use Rattle.std.proofs.Common.{◌≡◌, ℕ, ◌+◌, List, [], ◌∷◌, ◌++◌, length, map, refl, sym, ap, ◌∙◌, Bool, true, false, Some, None, is_some, arith, append_assoc, append-nil, add_assoc, zero-add, length-append, take, drop, get_or, take_all}
use Rattle.std.proofs.lemmas.List.{map-append}
use Rattle.std.specs.Prelude.{Option, if◌then◌else◌, nat_le, ◌≤◌, ◌<◌, ◌-◌, Result, Ok, Err, ℤ, pos}
use Rattle.std.proofs.lemmas.Bool.Decides.{nat_tests}
use Rattle.bq_insn.specs.Slots.{slots_of}
use Rattle.bq_asm.specs.declared.fault.AssemblyCause.{AssemblyCause}
use Rattle.std.specs.Borrow.{Bor}
use Rattle.std.specs.List.{list_any}
use Rattle.std.specs.Map.{lookup, keys_of}
use Rattle.std.specs.Str.{bytes_eq}
use Rattle.std.proofs.lemmas.Map.Made.{is_some-lookup}
use Rattle.std.proofs.lemmas.List.Concat.{flat_map-append}
use Rattle.bq_insn.specs.declared.Insn.{Insn}
use Rattle.bq_asm.specs.declared.mnemonic.Mnemonic.{Mnemonic}
use Rattle.bq_asm.specs.declared.instruction.Kinds.{Kinds}
use Rattle.bq_asm.specs.declared.instruction.Kinds.TheVariants as kinds
use Rattle.bq_asm.specs.Named.{named}
use Rattle.bq_asm.specs.Lines.{Line, Blank, Label, label_set, parsed, line_of_words}
use Rattle.bq_asm.specs.Assembly.{slots_of_line, label_at, places_from}
use Rattle.bq_asm.specs.declared.fault.AssemblyCause.TheVariants.{Word, LabelTwice, Slots}
use Rattle.bq_asm.specs.Operands.{is_label, word_texts, kind_list, kinds_of, made, instruction_from}
use Rattle.bq_asm.specs.Faults.{slots_in, cause_at_line, cause_of_label, cause_of_insn}
use Rattle.bq_asm.proofs.JumpLemmas.{lookup_places}
use Rattle.bq_asm.proofs.CountLemmas.{count_wrong}
use Rattle.bq_asm.specs.declared.draft.Draft.{Draft}
use Rattle.bq_asm.specs.Draft.{TakesLine}
use Rattle.bq_asm.specs.Jumps.{Awaited, awaited_by, places_of, draft_of, drafts_of, jump_at, jumps_from}

-- lines joined to others take the slots of both
pub slots_in-append : (xs ys : List Line) → slots_in (xs ++ ys) ≡ slots_in xs + slots_in ys
slots_in-append [] ys = sym (zero-add (slots_in ys))
slots_in-append (x ∷ xs) ys =
    ap (λ n. slots_of_line x + n) (slots_in-append xs ys) ∙ sym (add_assoc (slots_of_line x) (slots_in xs) (slots_in ys))

-- the labels of lines joined to others are those of both, the others' counted from the slots of the first on
pub places_from-append : (slot : ℕ) (xs ys : List Line)
    → places_from slot (xs ++ ys) ≡ places_from slot xs ++ places_from (slot + slots_in xs) ys
places_from-append slot [] ys = ap (λ n. places_from n ys) (omega arith)
places_from-append slot (x ∷ xs) ys =
    let same : slot + slots_of_line x + slots_in xs ≡ slot + (slots_of_line x + slots_in xs) = omega arith in
    ap (λ ps. label_at slot x ++ ps)
    (places_from-append (slot + slots_of_line x) xs ys ∙ ap (λ n. places_from (slot + slots_of_line x) xs ++ places_from n ys) same)
    ∙ sym
    (append_assoc (label_at slot x) (places_from (slot + slots_of_line x) xs) (places_from (slot + (slots_of_line x + slots_in xs)) ys))

-- the jumps of lines joined to others are those of both, the others' numbered from where the first end
pub jumps_from-append : (index slot number : ℕ) (xs ys : List Line) → jumps_from index slot number (xs ++ ys)
    ≡ jumps_from index slot number xs ++ jumps_from (index + length (drafts_of xs)) (slot + slots_in xs) (number + length xs) ys
jumps_from-append index slot number [] ys =
    let a : index ≡ index + 0 = omega arith in
    let b : slot ≡ slot + 0 = omega arith in
    let c : number ≡ number + 0 = omega arith in
    λ i. jumps_from (a i) (b i) (c i) ys
jumps_from-append index slot number (x ∷ xs) ys =
    let more = jumps_from-append (index + length (draft_of x)) (slot + slots_of_line x) (number + 1) xs ys in
    let a : index + length (draft_of x) + length (drafts_of xs) ≡ index + length (drafts_of (x ∷ xs)) =
    omega (arith, length-append (draft_of x) (drafts_of xs)) in
    let b : slot + slots_of_line x + slots_in xs ≡ slot + (slots_of_line x + slots_in xs) = omega arith in
    let c : number + 1 + length xs ≡ number + length (x ∷ xs) = omega arith in
    let first = jumps_from (index + length (draft_of x)) (slot + slots_of_line x) (number + 1) xs in
    ap (λ js. jump_at index slot number x ++ js) (more ∙ (λ i. first ++ jumps_from (a i) (b i) (c i) ys))
    ∙ sym (append_assoc (jump_at index slot number x) first
    (jumps_from (index + length (drafts_of (x ∷ xs))) (slot + (slots_of_line x + slots_in xs)) (number + length (x ∷ xs)) ys))

-- a label is in a map exactly where it is among the labels that were set
pub label_known : (name : List ℕ) (es : List (Bor (List ℕ) × ℕ)) (places : List (List ℕ × ℕ)) → map (λ e. (e.0.now, e.1)) es ≡ places
    → is_some (lookup (λ k. bytes_eq name k.now) es) ≡ list_any (bytes_eq name) (keys_of places)
label_known name es places same =
    ap is_some (sym (lookup_places name es)) ∙ is_some-lookup (bytes_eq name) (map (λ e. (e.0.now, e.1)) es)
    ∙ ap (λ ps. list_any (bytes_eq name) (keys_of ps)) same

-- with the label of one line more, set at the slots so far, a map has the labels of all lines
pub draft_labels_more : (es : List (Bor (List ℕ) × ℕ)) (name : Bor (List ℕ)) (slot : ℕ) (before : List Line)
    → map (λ e. (e.0.now, e.1)) es ≡ places_from 0 before → slot ≡ slots_in before
    → map (λ e. (e.0.now, e.1)) (es ++ (name, slot) ∷ []) ≡ places_from 0 (before ++ Label name.now ∷ [])
draft_labels_more es name slot before same at =
    let here : slot ≡ 0 + slots_in before = omega arith in
    map-append (λ e. (e.0.now, e.1)) es ((name, slot) ∷ []) ∙ (λ i. same i ++ (name.now, here i) ∷ [])
    ∙ sym (places_from-append 0 before (Label name.now ∷ []))

-- the slots so far and those of one line more are the slots of all lines
pub slots_more : (slots : ℕ) (before : List Line) (line : Line)
    → slots ≡ slots_in before → slots + slots_of_line line ≡ slots_in (before ++ line ∷ [])
slots_more slots before line same = let more = slots_in-append before (line ∷ []) in omega arith

-- the instructions so far and that of one line more are those of all lines
pub drafts_more : (insns : List Insn) (before : List Line) (line : Line)
    → insns ≡ drafts_of before → insns ++ draft_of line ≡ drafts_of (before ++ line ∷ [])
drafts_more insns before line same =
    ap (λ is. is ++ draft_of line) same ∙ ap (λ is. drafts_of before ++ is) (sym (append-nil (draft_of line)))
    ∙ sym (flat_map-append draft_of before (line ∷ []))

-- the jumps so far and that of one line more are those of all lines
pub jumps_more : (jumps : List Awaited) (index slots number : ℕ) (before : List Line) (line : Line)
    → jumps ≡ jumps_from 0 0 1 before → index ≡ length (drafts_of before) → slots ≡ slots_in before
    → number ≡ length before + 1
    → jumps ++ jump_at index slots number line ≡ jumps_from 0 0 1 (before ++ line ∷ [])
jumps_more jumps index slots number before line same place slot count =
    let a : index ≡ 0 + length (drafts_of before) = omega arith in
    let b : slots ≡ 0 + slots_in before = omega arith in
    let c : number ≡ 1 + length before = omega arith in
    (λ i. same i ++ jump_at (a i) (b i) (c i) line)
    ∙ ap (λ js. jumps_from 0 0 1 before ++ js)
    (sym (append-nil (jump_at (0 + length (drafts_of before)) (0 + slots_in before) (1 + length before) line)))
    ∙ sym (jumps_from-append 0 0 1 before (line ∷ []))

-- a name is a label that is new, or not
pub cause_of_label-is : (before : List (List ℕ)) (name : List ℕ) (known : Bool)
    → is_label name ≡ true → list_any (bytes_eq name) before ≡ known
    → cause_of_label before name ≡ (if known then Some LabelTwice else None)
cause_of_label-is before name known valid test =
    ap (λ b. if b then (if list_any (bytes_eq name) before then Some LabelTwice else None) else Some Word) valid
    ∙ ap (λ b. if b then Some LabelTwice else None) test

-- a place where the test for something fails is nothing
pub none_from_is_some : (o : Option ℕ) → is_some o ≡ false → o ≡ None
none_from_is_some None h = refl
none_from_is_some (Some n) h = absurd (let e : true ≡ false = h in cc)

-- a line that takes no slot leaves the slots as they are
pub slots_kept : (slots : ℕ) (before : List Line) (line : Line)
    → slots ≡ slots_in before → slots_of_line line ≡ 0 → slots ≡ slots_in (before ++ line ∷ [])
slots_kept slots before line same none = let more = slots_more slots before line same in omega arith

-- a line that says no instruction leaves the instructions as they are
pub drafts_kept : (insns : List Insn) (before : List Line) (line : Line)
    → insns ≡ drafts_of before → draft_of line ≡ [] → insns ≡ drafts_of (before ++ line ∷ [])
drafts_kept insns before line same none = sym (append-nil insns) ∙ ap (λ is. insns ++ is) (sym none) ∙ drafts_more insns before line same

-- a line that has no jump to a label leaves the jumps as they are
pub jumps_kept : (jumps : List Awaited) (before : List Line) (line : Line)
    → jumps ≡ jumps_from 0 0 1 before → ((i s n : ℕ) → jump_at i s n line ≡ [])
    → jumps ≡ jumps_from 0 0 1 (before ++ line ∷ [])
jumps_kept jumps before line same none =
    let index = length (drafts_of before) in
    let slots = slots_in before in
    let number = length before + 1 in
    sym (append-nil jumps) ∙ ap (λ js. jumps ++ js) (sym (none index slots number))
    ∙ jumps_more jumps index slots number before line same refl refl refl

-- a line that sets no label leaves the labels as they are
pub places_kept : (places : List (List ℕ × ℕ)) (before : List Line) (line : Line)
    → places ≡ places_from 0 before → ((slot : ℕ) → label_at slot line ≡ [])
    → places ≡ places_from 0 (before ++ line ∷ [])
places_kept places before line same none =
    same ∙ sym (append-nil (places_from 0 before))
    ∙ ap (λ ps. places_from 0 before ++ ps) (sym (append-nil []) ∙ ap (λ ps. ps ++ []) (sym (none (0 + slots_in before))))
    ∙ sym (places_from-append 0 before (line ∷ []))

-- an instruction that is read, and ends within the slots
pub insn_fits : (slots : ℕ) (i : Insn) (read : Result Insn AssemblyCause)
    → read ≡ Ok i → slots + slots_of i ≤ 4096 → cause_of_insn slots read ≡ None
insn_fits slots i read is fits =
    let e : nat_le (slots + slots_of i) 4096 ≡ true = grind (arith, nat_tests) in
    ap (cause_of_insn slots) is ∙ ap (λ b. if b then None else Some Slots) e

-- an instruction that is read, and ends past the slots
pub insn_over : (slots : ℕ) (i : Insn) (read : Result Insn AssemblyCause)
    → read ≡ Ok i → 4096 < slots + slots_of i → cause_of_insn slots read ≡ Some Slots
insn_over slots i read is over =
    let e : nat_le (slots + slots_of i) 4096 ≡ false = grind (arith, nat_tests) in
    ap (cause_of_insn slots) is ∙ ap (λ b. if b then None else Some Slots) e

-- a line with words says what the first of them and the others as operands say
pub line_of-first : (words : List (Bor (List ℕ))) (d : Bor (List ℕ))
    → 1 ≤ length words
    → line_of_words (word_texts words)
    ≡ parsed (get_or words 0 d).now (word_texts (take (length words - 1) (drop 1 words)))
    (label_set (get_or words 0 d).now (word_texts (take (length words - 1) (drop 1 words))))
line_of-first [] d h = absurd (omega arith)
line_of-first (first ∷ operands) d h =
    let all : take (length (first ∷ operands) - 1) operands ≡ operands = take_all (length (first ∷ operands) - 1) operands (omega arith) in
    ap (λ os. parsed first.now (word_texts os) (label_set first.now (word_texts os))) (sym all)

-- a line without words says nothing
pub line_of-none : (words : List (Bor (List ℕ))) → length words < 1 → line_of_words (word_texts words) ≡ Blank
line_of-none [] h = refl
line_of-none (w ∷ ws) h = absurd (omega arith)

-- a first word has at most three operands
few_kinds : (k : Kinds) → length (kind_list k) ≤ 3
few_kinds kinds.Zero = omega arith
few_kinds (kinds.One a) = omega arith
few_kinds (kinds.Two a b) = omega arith
few_kinds (kinds.Three a b c) = omega arith

-- more than three operands are refused for a word, whatever the first word is
many_operands : (m : Option Mnemonic) (operands : List (List ℕ)) (d : Option ℤ)
    → 3 < length operands → instruction_from m operands d ≡ Err Word
many_operands None operands d h = refl
many_operands (Some m) operands d h =
    ap (made m) (count_wrong (kind_list (kinds_of m)) operands d (λ e. let few = few_kinds (kinds_of m) in omega arith))

-- five words and more are never a line
pub many_words : (before : List Line) (words : List (List ℕ)) → 4 < length words → cause_at_line before (line_of_words words) ≡ Some Word
many_words before [] h = absurd (omega arith)
many_words before (first ∷ []) h = absurd (omega arith)
many_words before (first ∷ second ∷ operands) h =
    ap (cause_of_insn (slots_in before)) (many_operands (named first) (second ∷ operands) (Some (pos 0)) (omega arith))

-- a line that says nothing has no fault, and leaves the draft as it is
pub blank_line : (draft : Draft) (number : ℕ) → TakesLine draft draft number Blank
blank_line draft number = λ before is count. (
  refl,
  record {
    labels = places_kept (places_of draft.labels) before Blank is.labels (λ s. refl);
    slots = slots_kept draft.slots before Blank is.slots refl;
    insns = drafts_kept draft.insns.items before Blank is.insns refl;
    jumps = jumps_kept (map awaited_by draft.jumps.items) before Blank is.jumps (λ i s n. refl);
  },
)
