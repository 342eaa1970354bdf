-- A text has a line for each thing of a list: one more line, and those that are left.
use Rattle.std.proofs.Common.{◌≡◌, ◌∙◌, ℕ, ◌+◌, ◌<◌, List, ◌++◌, ap, append_assoc, drop, get_or, length, sym}
use Rattle.std.specs.Prelude.{flat_map}
use Rattle.std.proofs.lemmas.List.{at_drop_more}

-- the lines of a list go on by the line of one more item
pub one_line_more : {A : Type 0} (line : A → List ℕ) (items : List A) (i : ℕ) (d : A) (whole now next : List ℕ)
    → i < length items → next ≡ now ++ line (get_or items i d) → now ++ flat_map line (drop i items) ≡ whole
    → next ++ flat_map line (drop (i + 1) items) ≡ whole
one_line_more {A} line items i d whole now next there e is =
    let later = flat_map line (drop (i + 1) items) in
    ap (λ t. t ++ later) e ∙ append_assoc now (line (get_or items i d)) later
    ∙ sym (at_drop_more (λ (l : List A). now ++ flat_map line l) items i d there) ∙ is
