-- The words of a line, one after another.
use Rattle.std.proofs.Common.{◌≡◌, ℕ, ◌<◌, suc, zero, List, [], ◌∷◌, ◌++◌, length, take, drop, get_or, refl, sym, ap, ◌∙◌, Bool, true, false, cond, ltb, arith, take-append-drop, append-nil}
use Rattle.std.specs.Prelude.{filter}
use Rattle.std.specs.List.{All}
use Rattle.std.proofs.lemmas.List.Splits.{slice_split_at, slice_split_none}
use Rattle.std.proofs.lemmas.Bool.Decides.{nat_tests}
use Rattle.std.proofs.lemmas.Grind.{common_steps}
use Rattle.bq_words.specs.Words.{words_by, IsWordLen}

-- the end, or a blank
abbrev pub EndsWord : (ℕ → Bool) → List ℕ → Type 0
EndsWord p [] = Unit {0}
EndsWord p (b ∷ bs) = p b ≡ true

-- a blank at the front says nothing
pub words-blank : (p : ℕ → Bool) (b : ℕ) (bs : List ℕ) → p b ≡ true → words_by p (b ∷ bs) ≡ words_by p bs
words-blank p b bs h = rw h refl

-- bytes that are no blanks, up to a blank or the end, are the first word
pub words-word : (p : ℕ → Bool) (w rest : List ℕ) → 0 < length w → All (λ b. p b ≡ false) w → EndsWord p rest
    → words_by p (w ++ rest) ≡ w ∷ words_by p rest
words-word p w [] some h end =
    let e : ltb 0 (length w) ≡ true = grind (arith, nat_tests) in
    ap (words_by p) (append-nil w) ∙ ap (filter (λ x. ltb 0 (length x))) (slice_split_none p w h) ∙ ap (λ t. cond t (w ∷ []) []) e
words-word p w (b ∷ bs) some h end =
    let e : ltb 0 (length w) ≡ true = grind (arith, nat_tests) in
    ap (filter (λ x. ltb 0 (length x))) (slice_split_at p w b bs h end) ∙ ap (λ t. cond t (w ∷ words_by p bs) (words_by p bs)) e
    ∙ ap (λ ws. w ∷ ws) (sym (words-blank p b bs end))

ends_word : (p : ℕ → Bool) (text : List ℕ) (len : ℕ) → (len < length text → p (get_or text len 0) ≡ true) → EndsWord p (drop len text)
ends_word p [] zero h = tt
ends_word p [] (suc n) h = tt
ends_word p (b ∷ bs) zero h = h (omega arith)
ends_word p (b ∷ bs) (suc n) h = ends_word p bs n (λ lt. h (omega arith))

-- the first word, and those of what follows it
pub words-first : (p : ℕ → Bool) (text : List ℕ) (len : ℕ) → IsWordLen p text len → 0 < len
    → words_by p text ≡ take len text ∷ words_by p (drop len text)
words-first p text len h some =
    let long : 0 < length (take len text) = let within = h.within in grind (arith, common_steps) in
    ap (words_by p) (sym (take-append-drop len text))
    ∙ words-word p (take len text) (drop len text) long h.no_blank (ends_word p text len h.then)
