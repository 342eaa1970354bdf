-- The shapes that a text names, one after another.
use Rattle.std.proofs.Common.{◌≡◌, ℕ, ◌<◌, List, [], ◌∷◌, ◌++◌, length, map, refl, sym, ap, ◌∙◌, Bool, true, false, Some, None, Option, is_some, arith, cond, eqb}
use Rattle.std.specs.List.{onto_first}
use Rattle.std.specs.Borrow.{Bor}
use Rattle.bq_bpf.specs.declared.shape.MapShape.{MapShape}
use Rattle.bq_words.specs.Words.{parts}
use Rattle.bq_policy_file.specs.ShapesText.{NamesNoShapes, parts_after, pair_of, numbers_in, numbers_of}

-- a text has a part at least
some_part : (mark : ℕ) (text : List ℕ) → (first : List ℕ) × (others : List (List ℕ)) × (parts mark text ≡ first ∷ others)
some_part mark [] = ([], [], refl)
some_part mark (b ∷ bs) = onto (eqb b mark) (parts mark bs)
  where
    onto : (c : Bool) (ps : List (List ℕ))
        → (first : List ℕ) × (others : List (List ℕ)) × (cond c ([] ∷ ps) (onto_first b ps) ≡ first ∷ others)
    onto true ps = ([], ps, refl)
    onto false [] = (b ∷ [], [], refl)
    onto false (p ∷ ps) = (b ∷ p, ps, refl)

-- a text of more than two parts is no shape
pub no_shape : (text size entries : List ℕ) (after more : Option (Bor (List ℕ))) (next : Bor (List ℕ))
    → parts 58 text ≡ size ∷ parts_after 58 after → after ≡ Some next → parts 58 next.now ≡ entries ∷ parts_after 58 more
    → is_some more ≡ true → (s : MapShape) → numbers_in text ≡ numbers_of s
    → ⊥
no_shape text size entries after None next first is second some s h = cc
no_shape text size entries after (Some rest) next first is second some s h =
    let third = some_part 58 rest.now in
    let none : numbers_in text ≡ None =
    ap pair_of (first ∙ ap (λ a. size ∷ parts_after 58 a) is ∙ ap (λ ps. size ∷ ps) second ∙ ap (λ ps. size ∷ entries ∷ ps) third.2) in
    cc

-- the shapes so far, and then what is left of the text
abbrev pub Names : List ℕ → List MapShape → List ℕ → Type 0
Names text done rest = map numbers_in (parts 44 text) ≡ map numbers_of done ++ map numbers_in (parts 44 rest)

-- the part that comes next is that of a shape, if the text names shapes
next_shape : (done named : List MapShape) (x : Option (ℕ × ℕ)) (rest : List (Option (ℕ × ℕ)))
    → map numbers_of done ++ x ∷ rest ≡ map numbers_of named → (s : MapShape) × (x ≡ numbers_of s)
next_shape [] [] x rest h = cc
next_shape [] (s ∷ named) x rest h = (s, cc)
next_shape (d ∷ done) [] x rest h = cc
next_shape (d ∷ done) (s ∷ named) x rest h = next_shape done named x rest cc

-- a text of which the next part is no shape names no shapes
pub no_shape_next : (text rest part : List ℕ) (done : List MapShape) (others : List (List ℕ))
    → Names text done rest → parts 44 rest ≡ part ∷ others → ((s : MapShape) → numbers_in part ≡ numbers_of s → ⊥)
    → NamesNoShapes text
no_shape_next text rest part done others so_far here none shapes named =
    let all : map numbers_of done ++ numbers_in part ∷ map numbers_in others ≡ map numbers_of shapes =
    ap (λ ps. map numbers_of done ++ map numbers_in ps) (sym here) ∙ sym so_far ∙ named.each in
    let next = next_shape done shapes (numbers_in part) (map numbers_in others) all in
    none next.0 next.1

-- after eight shapes there is no more
pub too_many : (text rest : List ℕ) (done : List MapShape) → Names text done rest → length done ≡ 8 → NamesNoShapes text
too_many text rest done so_far eight shapes named =
    let more = some_part 44 rest in
    let all : map numbers_of done ++ map numbers_in (more.0 ∷ more.1) ≡ map numbers_of shapes =
    ap (λ ps. map numbers_of done ++ map numbers_in ps) (sym more.2) ∙ sym so_far ∙ named.each in
    let long = longer done shapes (numbers_in more.0) (map numbers_in more.1) all in
    absurd (omega (arith, long, named.few, eight))
  where
    longer : (done named : List MapShape) (x : Option (ℕ × ℕ)) (rest : List (Option (ℕ × ℕ)))
        → map numbers_of done ++ x ∷ rest ≡ map numbers_of named → length done < length named
    longer [] [] x rest h = cc
    longer [] (s ∷ named) x rest h = omega arith
    longer (d ∷ done) [] x rest h = cc
    longer (d ∷ done) (s ∷ named) x rest h =
        let more = longer done named x rest cc in
        omega (arith, more)
