-- Parts of a text between marks.
use Rattle.std.proofs.Common.{◌≡◌, ℕ, ◌+◌, ◌<◌, List, [], ◌∷◌, ◌++◌, length, take, drop, get_or, take-append-drop, sym, ap, ◌∙◌, arith}
use Rattle.std.proofs.lemmas.List.{take_all, drop_more}
use Rattle.std.proofs.lemmas.List.Splits.{slice_split_at, slice_split_none}
use Rattle.bq_words.specs.Words.{parts}
use Rattle.bq_policy_file.specs.ShapesText.{IsPartLen}

-- a mark follows the first part
pub parts-first : (mark : ℕ) (text : List ℕ) (len : ℕ) → IsPartLen mark text len → len < length text
    → parts mark text ≡ take len text ∷ parts mark (drop (len + 1) text)
parts-first mark text len h more =
    ap (parts mark) (sym (take-append-drop len text) ∙ ap (λ r. take len text ++ r) (drop_more text len 0 more))
    ∙ slice_split_at _ (take len text) (get_or text len 0) (drop (len + 1) text) h.others (h.ends more)

-- a text without the mark has one part
pub parts-only : (mark : ℕ) (text : List ℕ) (len : ℕ) → IsPartLen mark text len → len ≡ length text → parts mark text ≡ text ∷ []
parts-only mark text len h end =
    let whole : take len text ≡ text = take_all len text (omega (arith, end)) in
    slice_split_none _ text (rw whole at h.others)
