-- Words that are one thing, or none.
use Rattle.std.proofs.Common.{◌≡◌, ℕ, suc, Bor, List, [], ◌∷◌, ◌++◌, Option, Some, None, MatchOption, refl, sym, subst, ◌∙◌, arith}
use Rattle.bq_console.specs.Words.{IsSplitAtMark, IsFreeOf, IsNumber, IsNumberWord}

-- a text with the mark in it is not free of it
pub free_uncut : (mark : ℕ) (before behind : List ℕ) → ¬ IsFreeOf mark (before ++ (mark ∷ behind))
free_uncut mark [] behind free = free 0 (omega arith) refl
free_uncut mark (x ∷ before) behind free = free_uncut mark before behind (λ i h. free (suc i) (omega arith))

-- around the first mark there are no two pairs of parts
pub parts_once : (mark : ℕ) (a b c d : List ℕ) → a ++ (mark ∷ b) ≡ c ++ (mark ∷ d) → IsFreeOf mark a → IsFreeOf mark c → (a ≡ c) × (b ≡ d)
parts_once mark [] b [] d same free other = (refl, cc)
parts_once mark [] b (y ∷ c) d same free other = let e : y ≡ mark = cc in absurd (other 0 (omega arith) e)
parts_once mark (x ∷ a) b [] d same free other = let e : x ≡ mark = cc in absurd (free 0 (omega arith) e)
parts_once mark (x ∷ a) b (y ∷ c) d same free other =
    let head : x ≡ y = cc in
    let tail : a ++ (mark ∷ b) ≡ c ++ (mark ∷ d) = cc in
    let rest = parts_once mark a b c d tail (λ i h. free (suc i) (omega arith)) (λ i h. other (suc i) (omega arith)) in
    let front : a ≡ c = rest.0 in
    (cc, rest.1)

-- a text is cut in one way
pub cut_once : (mark : ℕ) (text a b c d : List ℕ) → IsSplitAtMark mark text a b → IsSplitAtMark mark text c d → (a ≡ c) × (b ≡ d)
cut_once mark text a b c d one two = parts_once mark a b c d (sym one.splits ∙ two.splits) one.first two.first

-- a text in which the mark does not stand is not cut
pub free_cut : (mark : ℕ) (text a b : List ℕ) → IsFreeOf mark text → ¬ IsSplitAtMark mark text a b
free_cut mark text a b free cut = free_uncut mark a b (subst (IsFreeOf mark) cut.splits free)

-- a word writes one number
pub number_once : (word : List ℕ) (m n : ℕ) → IsNumber word m → IsNumber word n → m ≡ n
number_once word m n one two = let same : Some m ≡ Some n = sym one ∙ two in cc

-- a word writes one value
pub value_once : (word : List ℕ) (m n : ℕ) → IsNumberWord word m → IsNumberWord word n → m ≡ n
value_once word m n one two = let same : Some m ≡ Some n = sym one ∙ two in cc

-- the parts around the mark, if it stands there, are those of a cut
pub cut_parts : (mark : ℕ) (text : List ℕ) (r : Option (Bor (List ℕ) × Bor (List ℕ)))
    → MatchOption r (IsFreeOf mark text) (λ x. (text ≡ x.0.now ++ (mark ∷ x.1.now)) × IsFreeOf mark x.0.now)
    → MatchOption r (IsFreeOf mark text) (λ x. IsSplitAtMark mark text x.0.now x.1.now)
cut_parts mark text None h = h
cut_parts mark text (Some x) h = record { splits = h.0; first = h.1 }
