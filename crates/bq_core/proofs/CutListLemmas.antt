-- Two of some processors, as a list is cut between them and put together again.
use Rattle.std.proofs.Common.{◌≡◌, ℕ, zero, suc, ◌<◌, ◌++◌, List, [], ◌∷◌, length, refl, ap, ◌∙◌, arith, get_or, set, take, drop}
use Rattle.std.proofs.lemmas.List.{set_comm, get_or_default}

-- a place below the cut
read_low : {X : Type 0} (xs : List X) (i j : ℕ) (d : X) → i < j → get_or (take j xs) i d ≡ get_or xs i d
read_low [] i zero d h = refl
read_low [] i (suc j) d h = refl
read_low (x ∷ xs) i zero d h = absurd (omega arith)
read_low (x ∷ xs) zero (suc j) d h = refl
read_low (x ∷ xs) (suc i) (suc j) d h = read_low xs i j d (omega arith)

-- the place at the cut
read_high : {X : Type 0} (xs : List X) (j : ℕ) (d : X) → get_or (drop j xs) 0 d ≡ get_or xs j d
read_high [] zero d = refl
read_high [] (suc j) d = refl
read_high (x ∷ xs) zero d = refl
read_high (x ∷ xs) (suc j) d = read_high xs j d

-- to write the beginning of the second part is to write the whole list at the cut
set_high : {X : Type 0} (xs : List X) (j : ℕ) (b : X) → take j xs ++ set (drop j xs) 0 b ≡ set xs j b
set_high [] zero b = refl
set_high [] (suc j) b = refl
set_high (x ∷ xs) zero b = refl
set_high (x ∷ xs) (suc j) b = ap (λ ys. x ∷ ys) (set_high xs j b)

-- both are written, the first one below the cut and the second one at it
set_two : {X : Type 0} (xs : List X) (i j : ℕ) (a b : X) → i < j → set (take j xs) i a ++ set (drop j xs) 0 b ≡ set (set xs i a) j b
set_two [] i zero a b h = absurd (omega arith)
set_two [] i (suc j) a b h = refl
set_two (x ∷ xs) i zero a b h = absurd (omega arith)
set_two (x ∷ xs) zero (suc j) a b h = ap (λ ys. a ∷ ys) (set_high xs j b)
set_two (x ∷ xs) (suc i) (suc j) a b h = ap (λ ys. x ∷ ys) (set_two xs i j a b (omega arith))

-- both are written, the first one at the cut and the second one below it
set_two_back : {X : Type 0} (xs : List X) (i j : ℕ) (a b : X) → j < i → set (take i xs) j b ++ set (drop i xs) 0 a ≡ set (set xs i a) j b
set_two_back xs i j a b h = set_two xs j i b a h ∙ set_comm xs j i b a (λ e. absurd (omega (arith, e)))

-- the first of the two parts has at a place below the cut what the whole list has there
pub first_part_reads : {X : Type 0} (xs ys : List X) (i k j m : ℕ) (e d : X)
    → ys ≡ take m xs → m ≡ j → k ≡ i → i < j → i < length xs → get_or ys k e ≡ get_or xs i d
first_part_reads xs ys i k j m e d f g h l n = rw (f, g, h) (read_low xs i j e l ∙ get_or_default xs i e d n)

-- the second part has at its beginning what the whole list has at the cut
pub second_part_reads : {X : Type 0} (xs ys : List X) (j m : ℕ) (e d : X)
    → ys ≡ drop m xs → m ≡ j → j < length xs → get_or ys 0 e ≡ get_or xs j d
second_part_reads xs ys j m e d f g n = rw (f, g) (read_high xs j e ∙ get_or_default xs j e d n)

-- the parts, once a place of the first and then the beginning of the second are written, make the list written at both
pub written_parts_joined : {X : Type 0} (xs ys zs : List X) (i j k m : ℕ) (a b : X)
    → ys ≡ take m xs → zs ≡ drop m xs → m ≡ j → k ≡ i → i < j
    → set ys k a ++ set zs 0 b ≡ set (set xs i a) j b
written_parts_joined xs ys zs i j k m a b e f g h l = rw (e, f, g, h) (set_two xs i j a b l)

-- the parts make the list that is written first at the cut and then at the place below it
pub joined_reversed : {X : Type 0} (xs ys zs : List X) (i j k m : ℕ) (a b : X)
    → ys ≡ take m xs → zs ≡ drop m xs → m ≡ i → k ≡ j → j < i
    → set ys k b ++ set zs 0 a ≡ set (set xs i a) j b
joined_reversed xs ys zs i j k m a b e f g h l = rw (e, f, g, h) (set_two_back xs i j a b l)
