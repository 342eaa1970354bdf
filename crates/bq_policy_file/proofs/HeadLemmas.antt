-- One more line of a text, and what it does to the head of the lines before it.
use Rattle.std.proofs.Common.{◌≡◌, ℕ, ◌+◌, ◌<◌, suc, List, [], ◌∷◌, ◌++◌, length, take, drop, get_or, map, refl, sym, ap, ◌∙◌, subst, true, arith, append-nil, take-append-drop, drop-cons, add-zero, false}
use Rattle.std.specs.Prelude.{Option, Some, None, Result, Ok, Err, IfErr, ◌&&◌, if◌then◌else◌}
use Rattle.std.specs.List.{list_all}
use Rattle.std.specs.Borrow.{Bor}
use Rattle.std.proofs.lemmas.List.Folds.{list_all-append}
use Rattle.std.proofs.lemmas.Grind.{flat_map-append}
use Rattle.bq_policy_file.specs.declared.head.Head.{Head}
use Rattle.bq_policy_file.specs.declared.mark.Key.{Key}
use Rattle.bq_policy_file.specs.declared.mark.Key.TheVariants as key
use Rattle.bq_policy_file.specs.Marks.{are_known, key_word, mark_words, value_in, values}
use Rattle.bq_hooks.specs.Hooks.{hook_of, version_of}
use Rattle.std.specs.Str.Lines.{lines}
use Rattle.std.proofs.lemmas.List.{length-map, map-append}
use Rattle.bq_policy_file.specs.declared.fault.HeadFault.{HeadFault}
use Rattle.bq_policy_file.specs.declared.fault.HeadFault.TheVariants.{At, OutOfMemory}
use Rattle.bq_asm.specs.Faults.{IsAssemblyFault}
use Rattle.bq_asm.specs.declared.fault.AsmFault.{AsmFault}
use Rattle.bq_asm.specs.declared.fault.AsmFault.TheVariants as assembly
use Rattle.bq_asm.specs.Lines.{is_instruction, parsed_line}
use Rattle.bq_policy_file.specs.Files.{HasHead, IsFaultOfKind, IsHexFault, IsImageFault, IsPolicyFault, IsTextFault, IsWholeText, instruction_lines, kind_of}
use Rattle.bq_policy_file.specs.Combining.{IsUncombinable}
use Rattle.bq_policy_file.specs.declared.fault.PolicyFault.{PolicyFault}
use Rattle.bq_policy_file.specs.declared.fault.PolicyFault.TheVariants as fault
use Rattle.bq_policy_file.specs.declared.kind.FileKind.TheVariants as kind
use Rattle.bq_policy_file.specs.declared.policy_source.PolicySource.{PolicySource}
use Rattle.bq_policy_file.specs.HexText.{SpellsBytes}
use Rattle.bq_policy_file.specs.Heads.{IsHeadFault, IsStated, NamesMapShapes, StatesHead}
use Rattle.bq_policy_file.specs.Naming.{of_assembly}
use Rattle.bq_policy_file.specs.Taking.{IsRefusedLine, TakesValue}

-- what is said of a key, where nothing is known of it
states_none : {A : Type 0} (P : List ℕ → A → Type 0) (ws : List (List ℕ)) → IsStated P ws None → ws ≡ []
states_none P [] h = refl
states_none P (w ∷ []) h = absurd h
states_none P (w ∷ v ∷ ws) h = absurd h

-- what the lines say, and the line after them
more_values : (key : Key) (before : List (List ℕ)) (line : List ℕ) (stated : Option (List (List ℕ))) → mark_words line ≡ stated
    → values key (before ++ line ∷ []) ≡ values key before ++ (value_in (key_word key) stated ++ [])
more_values key before line stated is =
    flat_map-append (λ l. value_in (key_word key) (mark_words l)) before (line ∷ [])
    ∙ ap (λ w. values key before ++ (value_in (key_word key) w ++ [])) is

-- where all lines say known keys, or none, and one more does, all of them do
more_known : (before : List (List ℕ)) (line : List ℕ) → list_all (λ l. are_known (mark_words l)) before ≡ true
    → are_known (mark_words line) ≡ true
    → list_all (λ l. are_known (mark_words l)) (before ++ line ∷ []) ≡ true
more_known before line all one = list_all-append (λ l. are_known (mark_words l)) before (line ∷ []) ∙ (λ i. all i && (one i && true))

-- nothing is said of this key by that line
still_stated : {A : Type 0} (P : List ℕ → A → Type 0) (key : Key) (before : List (List ℕ)) (line : List ℕ)
    (stated : Option (List (List ℕ))) (x : Option A)
    → mark_words line ≡ stated → value_in (key_word key) stated ≡ [] → IsStated P (values key before) x
    → IsStated P (values key (before ++ line ∷ [])) x
still_stated P key before line stated x is none h =
    let same : values key (before ++ line ∷ []) ≡ values key before =
    more_values key before line stated is ∙ ap (λ v. values key before ++ (v ++ [])) none ∙ append-nil (values key before) in
    subst (λ ws. IsStated P ws x) (sym same) h

-- that line says the value
now_stated : {A : Type 0} (P : List ℕ → A → Type 0) (key : Key) (before : List (List ℕ)) (line word : List ℕ) (x : A)
    → mark_words line ≡ Some (key_word key ∷ word ∷ []) → value_in (key_word key) (Some (key_word key ∷ word ∷ [])) ≡ word ∷ []
    → IsStated P (values key before) None → P word x → IsStated P (values key (before ++ line ∷ [])) (Some x)
now_stated P key before line word x is one none h =
    let same : values key (before ++ line ∷ []) ≡ word ∷ [] =
    more_values key before line (Some (key_word key ∷ word ∷ [])) is
    ∙ (λ i. states_none P (values key before) none i ++ (one i ++ [])) in
    subst (λ ws. IsStated P ws (Some x)) (sym same) h

-- a line that is no mark
pub states_no_mark : (h : Head) (before : List (List ℕ)) (line : List ℕ)
    → mark_words line ≡ None → StatesHead before h → StatesHead (before ++ line ∷ []) h
states_no_mark h before line is s = record {
  known = more_known before line s.known (ap are_known is);
  hook = still_stated (λ word hook. hook_of word ≡ Some hook) key.Hook before line None h.hook is refl s.hook;
  maps = still_stated NamesMapShapes key.Maps before line None h.maps is refl s.maps;
  format = still_stated (λ word version. version_of word ≡ Some version) key.Format before line None h.format is refl s.format;
}

-- a mark whose value is taken
pub states_mark : (old new : Head) (key : Key) (before : List (List ℕ)) (line word : List ℕ) → TakesValue old new key word
    → mark_words line ≡ Some (key_word key ∷ word ∷ []) → StatesHead before old → StatesHead (before ++ line ∷ []) new
states_mark old new key.Hook before line word t is s =
    let stated : Option (List (List ℕ)) = Some (key_word key.Hook ∷ word ∷ []) in
    record {
      known = more_known before line s.known (ap are_known is);
      hook =
          subst (IsStated (λ word hook. hook_of word ≡ Some hook) (values key.Hook (before ++ line ∷ []))) (sym t.3)
          (now_stated (λ word hook. hook_of word ≡ Some hook) key.Hook before line word t.0 is refl
          (subst (IsStated (λ word hook. hook_of word ≡ Some hook) (values key.Hook before)) t.1 s.hook) t.2);
      maps =
          subst (IsStated NamesMapShapes (values key.Maps (before ++ line ∷ []))) (sym t.4)
          (still_stated NamesMapShapes key.Maps before line stated old.maps is refl s.maps);
      format =
          subst (IsStated (λ word version. version_of word ≡ Some version) (values key.Format (before ++ line ∷ []))) (sym t.5)
          (still_stated (λ word version. version_of word ≡ Some version) key.Format before line stated old.format is refl s.format);
    }
states_mark old new key.Maps before line word t is s =
    let stated : Option (List (List ℕ)) = Some (key_word key.Maps ∷ word ∷ []) in
    record {
      known = more_known before line s.known (ap are_known is);
      hook =
          subst (IsStated (λ word hook. hook_of word ≡ Some hook) (values key.Hook (before ++ line ∷ []))) (sym t.3)
          (still_stated (λ word hook. hook_of word ≡ Some hook) key.Hook before line stated old.hook is refl s.hook);
      maps =
          subst (IsStated NamesMapShapes (values key.Maps (before ++ line ∷ []))) (sym t.4)
          (now_stated NamesMapShapes key.Maps before line word t.0 is refl
          (subst (IsStated NamesMapShapes (values key.Maps before)) t.1 s.maps) t.2);
      format =
          subst (IsStated (λ word version. version_of word ≡ Some version) (values key.Format (before ++ line ∷ []))) (sym t.5)
          (still_stated (λ word version. version_of word ≡ Some version) key.Format before line stated old.format is refl s.format);
    }
states_mark old new key.Format before line word t is s =
    let stated : Option (List (List ℕ)) = Some (key_word key.Format ∷ word ∷ []) in
    record {
      known = more_known before line s.known (ap are_known is);
      hook =
          subst (IsStated (λ word hook. hook_of word ≡ Some hook) (values key.Hook (before ++ line ∷ []))) (sym t.3)
          (still_stated (λ word hook. hook_of word ≡ Some hook) key.Hook before line stated old.hook is refl s.hook);
      maps =
          subst (IsStated NamesMapShapes (values key.Maps (before ++ line ∷ []))) (sym t.4)
          (still_stated NamesMapShapes key.Maps before line stated old.maps is refl s.maps);
      format =
          subst (IsStated (λ word version. version_of word ≡ Some version) (values key.Format (before ++ line ∷ [])))
          (sym t.5) (now_stated (λ word version. version_of word ≡ Some version) key.Format before line word t.0 is refl
          (subst (IsStated (λ word version. version_of word ≡ Some version) (values key.Format before)) t.1 s.format) t.2);
    }

-- a file of no lines states a head that names nothing
pub states_nothing : (h : Head) → h.hook ≡ None → h.maps ≡ None → h.format ≡ None → StatesHead [] h
states_nothing h a b c = record {
  known = refl;
  hook = subst (IsStated (λ word hook. hook_of word ≡ Some hook) []) (sym a) tt;
  maps = subst (IsStated NamesMapShapes []) (sym b) tt;
  format = subst (IsStated (λ word version. version_of word ≡ Some version) []) (sym c) tt;
}

-- a list, its beginning, the element after that, and the rest
pub parted_at_line : (all before : List (List ℕ)) (line : List ℕ) → before ≡ take (length before) all → length before < length all
    → line ≡ get_or all (length before) line → all ≡ before ++ line ∷ drop (suc (length before)) all
parted_at_line all before line so_far more here =
    let n = length before in
    sym (take-append-drop n all) ∙ (λ i. sym so_far i ++ (drop-cons all n line more ∙ ap (λ l. l ∷ drop (suc n) all) (sym here)) i)

-- the line after those of the head is refused
pub refused_at : (text : List ℕ) (head : Head) (yielded : List (Bor (List ℕ))) (n : ℕ) (line : List ℕ) (e : HeadFault)
    → map (λ l. l.now) yielded ≡ take (length yielded) (lines text) → length yielded < length (lines text)
    → line ≡ get_or (lines text) (length yielded) line → n ≡ length yielded → StatesHead (map (λ l. l.now) yielded) head
    → IsRefusedLine head (n + 1) line e
    → IsHeadFault (lines text) e
refused_at text head yielded n line OutOfMemory so_far more here count stated h = tt
refused_at text head yielded n line (At k c) so_far more here count stated h =
    let before = map (λ l. l.now) yielded in
    let same : length before ≡ length yielded = length-map yielded (λ l. l.now) in
    let so_far' : before ≡ take (length before) (lines text) = subst (λ m. before ≡ take m (lines text)) (sym same) so_far in
    let more' : length before < length (lines text) = omega (arith, same, more) in
    let here' : line ≡ get_or (lines text) (length before) line = subst (λ m. line ≡ get_or (lines text) m line) (sym same) here in
    record {
      before = before;
      line = line;
      rest = drop (suc (length before)) (lines text);
      lines_are = parted_at_line (lines text) before line so_far' more' here';
      number_is = h.0 ∙ ap (λ m. m + 1) (count ∙ sym same);
      head = head;
      stated = stated;
      bad = h.1;
    }

-- the numbers of the lines so far that say an instruction, and the next line's
pub more_lines : (number : ℕ) (before : List (List ℕ)) (line : List ℕ)
    → instruction_lines number (before ++ line ∷ [])
    ≡ instruction_lines number before ++ instruction_lines (number + length before) (line ∷ [])
more_lines number [] line = ap (λ n. instruction_lines n (line ∷ [])) (sym (add-zero number))
more_lines number (first ∷ before) line =
    let same : number + 1 + length before ≡ number + suc (length before) = omega arith in
    let more =
    more_lines (number + 1) before line ∙ ap (λ n. instruction_lines (number + 1) before ++ instruction_lines n (line ∷ [])) same in
    elim (is_instruction (parsed_line first)) as (λ b.
    (if b then number ∷ instruction_lines (number + 1) (before ++ line ∷ []) else instruction_lines (number + 1) (before ++ line ∷ []))
    ≡ (if b then number ∷ instruction_lines (number + 1) before else instruction_lines (number + 1) before)
    ++ instruction_lines (number + suc (length before)) (line ∷ [])) [ true ↦ ap (λ ns. number ∷ ns) more | false ↦ more ]

-- the next line says an instruction
pub lines_with : (yielded : List (Bor (List ℕ))) (line : Bor (List ℕ)) (numbers : List ℕ) (n : ℕ)
    → numbers ≡ instruction_lines 1 (map (λ l. l.now) yielded) → n ≡ length yielded
    → is_instruction (parsed_line line.now) ≡ true
    → numbers ++ (n + 1) ∷ [] ≡ instruction_lines 1 (map (λ l. l.now) (yielded ++ line ∷ []))
lines_with yielded line numbers n stated count states =
    let before = map (λ l. l.now) yielded in
    let same : 1 + length before ≡ n + 1 = omega (arith, count, length-map yielded (λ (l : Bor (List ℕ)). l.now)) in
    let one : instruction_lines (1 + length before) (line.now ∷ []) ≡ (n + 1) ∷ [] =
    ap (λ b. if b then (1 + length before) ∷ [] else []) states ∙ ap (λ k. k ∷ []) same in
    sym (ap (instruction_lines 1) (map-append (λ (l : Bor (List ℕ)). l.now) yielded (line ∷ []))
    ∙ more_lines 1 before line.now ∙ (λ i. sym stated i ++ one i))

-- the next line says no instruction
pub lines_without : (yielded : List (Bor (List ℕ))) (line : Bor (List ℕ)) (numbers : List ℕ)
    → numbers ≡ instruction_lines 1 (map (λ l. l.now) yielded) → is_instruction (parsed_line line.now) ≡ false
    → numbers ≡ instruction_lines 1 (map (λ l. l.now) (yielded ++ line ∷ []))
lines_without yielded line numbers stated states =
    let before = map (λ l. l.now) yielded in
    let one : instruction_lines (1 + length before) (line.now ∷ []) ≡ [] = ap (λ b. if b then (1 + length before) ∷ [] else []) states in
    sym (ap (instruction_lines 1) (map-append (λ (l : Bor (List ℕ)). l.now) yielded (line ∷ []))
    ∙ more_lines 1 before line.now ∙ (λ i. sym stated i ++ one i) ∙ append-nil numbers)

-- what is wrong with the program of a text whose marks are right
pub bad_program : (text : List ℕ) (given stated : Head) (named : AsmFault)
    → HasHead text stated → IsAssemblyFault text named → IsTextFault text given (of_assembly named)
bad_program text given stated (assembly.At line cause) head bad = (stated, head, bad)
bad_program text given stated assembly.OutOfMemory head bad = tt

-- what is wrong with a text whose parts are right
pub uncombinable_is_fault : (text : List ℕ) (given stated : Head) (named : PolicyFault)
    → IsWholeText text stated → IsUncombinable given stated named → IsTextFault text given named
uncombinable_is_fault text given stated (fault.Disagrees key) whole h = (stated, whole, h)
uncombinable_is_fault text given stated fault.NoHook whole h = (stated, whole, h)
uncombinable_is_fault text given stated fault.OutOfMemory whole h = tt
uncombinable_is_fault text given stated named whole h = absurd h

-- what is wrong with the image that hex spells is wrong with the hex
of_hex : (bytes image : List ℕ) (given : Head) (named : PolicyFault)
    → SpellsBytes bytes image → IsImageFault image given named → IsHexFault bytes given named
of_hex bytes image given fault.Hex spells f = absurd f
of_hex bytes image given fault.OutOfMemory spells f = tt
of_hex bytes image given named spells f = (image, spells, f)

-- what is wrong with the image that hex spells is wrong with a file of hex
pub hex_fault : (result : Result PolicySource PolicyFault) (bytes image : List ℕ) (given : Head)
    → kind_of bytes ≡ kind.Hex → SpellsBytes bytes image → IfErr result (IsImageFault image given)
    → IfErr result (IsPolicyFault bytes given)
hex_fault (Ok p) bytes image given hex spells f = tt
hex_fault (Err named) bytes image given hex spells f =
    subst (λ k. IsFaultOfKind k bytes given named) (sym hex) (of_hex bytes image given named spells f)
