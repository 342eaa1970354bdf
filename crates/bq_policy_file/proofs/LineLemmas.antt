-- Texts by their lines.
use Rattle.std.proofs.Common.{◌≡◌, ℕ, ◌<◌, List, [], ◌∷◌, ◌++◌, refl, ap, ◌∙◌, true, arith, append_assoc}
use Rattle.std.specs.Prelude.{not, nat_lt, ◌&&◌, ◌==◌}
use Rattle.std.specs.List.{AllByRecursion, flat_map, list_all}
use Rattle.std.specs.Str.{IsUtf8}
use Rattle.std.specs.Str.Lines.{lines}
use Rattle.std.proofs.lemmas.Bool.{and_parts, ltb-true}
use Rattle.std.proofs.lemmas.Str.{IsUtf8-from_ascii}
use Rattle.std.proofs.lemmas.Str.Ascii.{IsAscii-from_all}
use Rattle.std.proofs.lemmas.Grind.{flat_map-append}
use Rattle.std.proofs.lemmas.List.Elements.{All-from_recursion}
use Rattle.bq_asm.proofs.ListingLemmas.{is_line_byte, line_first}

-- each line with its end
abbrev pub ended : List (List ℕ) → List ℕ
ended ls = flat_map (λ l. l ++ 10 ∷ []) ls

-- no byte of the lines ends a line, and all are ascii
abbrev pub AreClean : List (List ℕ) → Type 0
AreClean ls = AllByRecursion (λ l. list_all is_line_byte l ≡ true) ls

-- what is ended line by line has these lines
pub lines_ended : (ls : List (List ℕ)) → AreClean ls → lines (ended ls) ≡ ls
lines_ended [] h = refl
lines_ended (l ∷ ls) h =
    ap lines (append_assoc l (10 ∷ []) (ended ls)) ∙ line_first l (ended ls) h.0 ∙ ap (λ rest. l ∷ rest) (lines_ended ls h.1)

-- clean lines are ASCII, and so are two texts of ASCII together, and clean lines that are ended:
ascii_of : (bs : List ℕ) → list_all is_line_byte bs ≡ true → AllByRecursion (λ b. b < 128) bs
ascii_of [] h = tt
ascii_of (b ∷ bs) h =
    let parts = and_parts (is_line_byte b) (list_all is_line_byte bs) h in
    (ltb-true b 128 (and_parts (nat_lt b 128) (not (b == 10) && not (b == 13)) parts.0).0, ascii_of bs parts.1)

both_ascii : (xs ys : List ℕ) → AllByRecursion (λ b. b < 128) xs → AllByRecursion (λ b. b < 128) ys
    → AllByRecursion (λ b. b < 128) (xs ++ ys)
both_ascii [] ys h k = k
both_ascii (x ∷ xs) ys h k = (h.0, both_ascii xs ys h.1 k)

ended_ascii : (ls : List (List ℕ)) → AreClean ls → AllByRecursion (λ b. b < 128) (ended ls)
ended_ascii [] h = tt
ended_ascii (l ∷ ls) h =
    let feed : AllByRecursion (λ b. b < 128) (10 ∷ []) = (omega arith, tt) in
    both_ascii (l ++ 10 ∷ []) (ended ls) (both_ascii l (10 ∷ []) (ascii_of l h.0) feed) (ended_ascii ls h.1)

-- clean lines that are ended one by one are text
pub text_ended : (ls : List (List ℕ)) → AreClean ls → IsUtf8 (ended ls)
text_ended ls h =
    IsUtf8-from_ascii (ended ls) (IsAscii-from_all (ended ls) (All-from_recursion (λ b. b < 128) (ended ls) (ended_ascii ls h)))

-- lines and others after them
pub ended_append : (xs ys : List (List ℕ)) → ended (xs ++ ys) ≡ ended xs ++ ended ys
ended_append xs ys = flat_map-append (λ l. l ++ 10 ∷ []) xs ys

-- lines whose bytes end no line and others of that kind are such together
pub clean_append : (xs ys : List (List ℕ)) → AreClean xs → AreClean ys → AreClean (xs ++ ys)
clean_append [] ys h k = k
clean_append (x ∷ xs) ys h k = (h.0, clean_append xs ys h.1 k)
