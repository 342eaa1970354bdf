-- The names among the parts of a word.
use Rattle.std.proofs.Common.{◌≡◌, ◌<◌, ◌≤◌, ◌+◌, ℕ, List, [], ◌∷◌, ◌++◌, Bool, true, false, cond, ap, sym, ◌∙◌, append-nil, get_or, length, take}
use Rattle.std.specs.List.{filter}
use Rattle.std.proofs.lemmas.List.{take_all, take_more}
use Rattle.std.proofs.lemmas.List.Elements.{filter-append}
use Rattle.bq_timeline.specs.Settings.{is_name}

-- the names of one part more
filter_more : (parts : List (List ℕ)) (i : ℕ) (part : List ℕ)
    → i < length parts → part ≡ get_or parts i part
    → filter is_name (take (i + 1) parts) ≡ filter is_name (take i parts) ++ filter is_name (part ∷ [])
filter_more parts i part low at =
    ap (λ (l : List (List ℕ)). filter is_name l) (take_more parts i part low)
    ∙ filter-append is_name (take i parts) (get_or parts i part ∷ [])
    ∙ ap (λ (p : List ℕ). filter is_name (take i parts) ++ filter is_name (p ∷ [])) (sym at)

-- a part that is a name is added
pub names_on : (parts old new : List (List ℕ)) (i : ℕ) (part : List ℕ)
    → i < length parts → part ≡ get_or parts i part → is_name part ≡ true → old ≡ filter is_name (take i parts)
    → new ≡ old ++ part ∷ []
    → new ≡ filter is_name (take (i + 1) parts)
names_on parts old new i part low at name so_far e =
    let one : filter is_name (part ∷ []) ≡ part ∷ [] = ap (λ (b : Bool). cond b (part ∷ []) []) name in
    e ∙ ap (λ (l : List (List ℕ)). l ++ part ∷ []) so_far
    ∙ sym (filter_more parts i part low at ∙ ap (λ (l : List (List ℕ)). filter is_name (take i parts) ++ l) one)

-- a part that is no name is not added
pub names_off : (parts old : List (List ℕ)) (i : ℕ) (part : List ℕ)
    → i < length parts → part ≡ get_or parts i part → is_name part ≡ false → old ≡ filter is_name (take i parts)
    → old ≡ filter is_name (take (i + 1) parts)
names_off parts old i part low at other so_far =
    let none : filter is_name (part ∷ []) ≡ [] = ap (λ (b : Bool). cond b (part ∷ []) []) other in
    so_far ∙ sym (filter_more parts i part low at ∙ ap (λ (l : List (List ℕ)). filter is_name (take i parts) ++ l) none
    ∙ append-nil (filter is_name (take i parts)))

-- the names of all parts
pub names_all : (parts : List (List ℕ)) (n : ℕ) → length parts ≤ n → filter is_name (take n parts) ≡ filter is_name parts
names_all parts n all = ap (λ (l : List (List ℕ)). filter is_name l) (take_all n parts all)
