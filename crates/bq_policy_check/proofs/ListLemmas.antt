-- Words with commas between, each of which writes something.
use Rattle.std.proofs.Common.{◌≡◌, ℕ, zero, suc, ◌+◌, ◌<◌, ◌≤◌, List, [], ◌∷◌, ◌++◌, length, get_or, drop, drop-cons, add-one, append_assoc, append-nil, refl, sym, subst, ap, ◌∙◌, arith}
use Rattle.std.specs.List.{AllZip}
use Rattle.std.specs.declared.alloc.Global.{Global}
use Rattle.std.specs.declared.vec.Vec.{Vec}
use Rattle.std.proofs.lemmas.List.{drop_all}
use Rattle.bq_policy_check.specs.Limiting.{words_of_list}
use Rattle.bq_words.specs.Words.{parts}

-- what the words that are left write, behind what was read, all write
abbrev pub ReadsOn : {A : Type 0} → (List ℕ → A → Type 0) → List (List ℕ) → ℕ → List A → Type 0
ReadsOn {A} Is words i so_far = (more : List A) → AllZip Is (drop i words) more → AllZip Is words (so_far ++ more)

-- the words that are read go on by one more word
pub read_more : {A : Type 0} (Is : List ℕ → A → Type 0) (words : List (List ℕ)) (i : ℕ) (d : List ℕ)
    (so_far next : List A) (one : A)
    → i < length words → Is (get_or words i d) one → next ≡ so_far ++ one ∷ [] → ReadsOn Is words i so_far
    → ReadsOn Is words (i + 1) next
read_more {A} Is words i d so_far next one h is pushed all more rest =
    let cons : drop i words ≡ get_or words i d ∷ drop (i + 1) words =
    drop-cons words i d h ∙ ap (λ (k : ℕ). get_or words i d ∷ drop k words) (sym (add-one i)) in
    let joined : so_far ++ (one ∷ more) ≡ next ++ more =
    sym (ap (λ (n : List A). n ++ more) pushed ∙ append_assoc so_far (one ∷ []) more) in
    subst (λ (xs : List A). AllZip Is words xs) joined
    (all (one ∷ more) (subst (λ (ws : List (List ℕ)). AllZip Is ws (one ∷ more)) (sym cons) (is, rest)))

-- where no word is left, all are read
pub read_all : {A : Type 0} (Is : List ℕ → A → Type 0) (words : List (List ℕ)) (i : ℕ) (so_far : List A)
    → length words ≤ i → ReadsOn Is words i so_far → AllZip Is words so_far
read_all {A} Is words i so_far h all =
    subst (λ (xs : List A). AllZip Is words xs) (append-nil so_far)
    (all [] (subst (λ (ws : List (List ℕ)). AllZip Is ws []) (sym (drop_all i words h)) tt))

-- a word that writes none: the words write no list
pub one_none : {A : Type 0} (Is : List ℕ → A → Type 0) (words : List (List ℕ)) (i : ℕ) (d : List ℕ)
    → i < length words → ((one : A) → ¬ Is (get_or words i d) one) → (xs : List A) → ¬ AllZip Is words xs
one_none Is [] i d h none xs = absurd (omega (arith, h))
one_none Is (w ∷ ws) i d h none [] = λ all. all
one_none Is (w ∷ ws) zero d h none (x ∷ xs) = λ all. none x all.0
one_none Is (w ∷ ws) (suc i) d h none (x ∷ xs) = λ all. one_none Is ws i d (omega (arith, h)) none xs all.1

-- an empty text names an empty list
pub none_named : {A : Type 0} (Is : List ℕ → A → Type 0) (text : List ℕ) (xs : List A)
    → length text ≡ 0 → xs ≡ [] → AllZip Is (words_of_list text) xs
none_named {A} Is [] xs h none = subst (λ (ys : List A). AllZip Is [] ys) (sym none) tt
none_named Is (c ∷ rest) xs h none = absurd (omega (arith, h))

-- a text that is not empty names what its parts write
pub all_named : {A : Type 0} (Is : List ℕ → A → Type 0) (text : List ℕ) (xs : List A)
    → ¬ (length text ≡ 0) → AllZip Is (parts 44 text) xs → AllZip Is (words_of_list text) xs
all_named Is [] xs h all = absurd (h refl)
all_named Is (c ∷ rest) xs h all = all

-- a text that is not empty names nothing where its parts write none
pub not_named : {A : Type 0} (Is : List ℕ → A → Type 0) (text : List ℕ)
    → ¬ (length text ≡ 0) → ((xs : List A) → ¬ AllZip Is (parts 44 text) xs)
    → (xs : Vec A Global) → ¬ AllZip Is (words_of_list text) xs.items
not_named Is [] h none xs = absurd (h refl)
not_named Is (c ∷ rest) h none xs = none xs.items
