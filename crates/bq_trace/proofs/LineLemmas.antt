-- Lines in order, and lines in pieces.
use Rattle.std.proofs.Common.{◌≡◌, ℕ, List, [], ◌∷◌, ◌++◌, length, map, refl, sym, ap, ◌∙◌, append_assoc, subst, Bool, true, false, cond, eqb}
use Rattle.std.specs.List.{slice_split, onto_first, AllByRecursion}
use Rattle.std.specs.Str.Lines.{lines, lines_of_parts, strip_carriage_return}
use Rattle.std.proofs.lemmas.List.Splits.{slice_split_at, slice_split_none}
use Rattle.bq_lines.specs.Kept.{IsOneLine}
use Rattle.bq_trace.specs.Trace.{AnswersAll}
use Rattle.bq_trace.specs.Feeding.{with_feeds}
use Rattle.bq_trace.specs.declared.progress.Progress.{Progress}

-- lines and the lines after them are answered by both texts, joined
pub AnswersAll-append : (p m q : Progress) (xs ys : List (List ℕ)) (t u : List ℕ)
    → AnswersAll p xs t m → AnswersAll m ys u q → AnswersAll p (xs ++ ys) (t ++ u) q
AnswersAll-append p m q [] ys t u h k =
    subst (λ s. AnswersAll s ys (t ++ u) q) h.1 (subst (λ l. AnswersAll m ys (l ++ u) q) (sym h.0) k)
AnswersAll-append p m q (x ∷ xs) ys t u h k =
    (h.0, h.1, h.2 ++ u, h.3, AnswersAll-append h.0 m q xs ys h.2 u h.4 k, ap (λ l. l ++ u) h.5 ∙ append_assoc h.1 h.2 u)

-- whether a byte is a line feed
abbrev is_feed : ℕ → Bool
is_feed b = eqb b 10

-- a list of parts is never empty
parts_not_empty : (bs : List ℕ) → (part : List ℕ) × (others : List (List ℕ)) × (slice_split is_feed bs ≡ part ∷ others)
parts_not_empty [] = ([], [], refl)
parts_not_empty (b ∷ bs) = parts_onto b (is_feed b) (slice_split is_feed bs)
  where
    parts_onto : (b : ℕ) (c : Bool) (ps : List (List ℕ))
        → (part : List ℕ) × (others : List (List ℕ)) × (cond c ([] ∷ ps) (onto_first b ps) ≡ part ∷ others)
    parts_onto b true ps = ([], ps, refl)
    parts_onto b false [] = (b ∷ [], [], refl)
    parts_onto b false (p ∷ ps) = (b ∷ p, ps, refl)

-- a line that a line feed ends is the first line of the text, and the others are those behind it
lines-first : (line more : List ℕ) → IsOneLine line → lines (line ++ 10 ∷ more) ≡ strip_carriage_return line ∷ lines more
lines-first line more one =
    let n = parts_not_empty more in
    ap lines_of_parts (slice_split_at is_feed line 10 more one refl ∙ ap (λ ps. line ∷ ps) n.2)
    ∙ ap (λ ps. strip_carriage_return line ∷ lines_of_parts ps) (sym n.2)

-- the lines of a text that begins with whole lines are these, and those of the rest
pub lines-with_feeds : (ended : List (List ℕ)) (more : List ℕ)
    → AllByRecursion IsOneLine ended
    → lines (with_feeds ended ++ more) ≡ map strip_carriage_return ended ++ lines more
lines-with_feeds [] more each = refl
lines-with_feeds (line ∷ ended) more each =
    ap lines (append_assoc (line ++ 10 ∷ []) (with_feeds ended) more ∙ append_assoc line (10 ∷ []) (with_feeds ended ++ more))
    ∙ lines-first line (with_feeds ended ++ more) each.0
    ∙ ap (λ ls. strip_carriage_return line ∷ ls) (lines-with_feeds ended more each.1)

-- a text without a line feed is one line, or none if it is empty
pub lines-one : (line : List ℕ) → IsOneLine line → lines line ≡ cond (eqb (length line) 0) [] (line ∷ [])
lines-one line one = ap lines_of_parts (slice_split_none is_feed line one)
