-- The axis of a picture, line after line.
use Rattle.std.proofs.Common.{◌≡◌, ℕ, ◌+◌, List, ◌++◌, sym, ap, ◌∙◌, append_assoc, append-nil, add-one}
use Rattle.bq_drawing.specs.Axes.{line_at, mark_if, axis_marks_text}
use Rattle.bq_drawing.specs.Frames.{PictureSetting}

-- no line is drawn yet
pub marks_none : (s : PictureSetting) (step top edge : ℕ) (text : List ℕ) → text ≡ text ++ axis_marks_text s step top edge 0
unfolding axis_marks_text
marks_none s step top edge text = sym (append-nil text)

-- the marks of an axis and one more mark are its marks
pub marks_more : (s : PictureSetting) (step top edge number at : ℕ) (old now next : List ℕ)
    → at ≡ line_at s.extent step number → now ≡ old ++ axis_marks_text s step top edge number → next ≡ now ++ mark_if s top edge at
    → next ≡ old ++ axis_marks_text s step top edge (number + 1)
unfolding axis_marks_text
marks_more s step top edge number at old now next is e1 e2 =
    let before = axis_marks_text s step top edge number in
    e2 ∙ ap (λ t. t ++ mark_if s top edge at) e1 ∙ append_assoc old before (mark_if s top edge at)
    ∙ ap (λ m. old ++ (before ++ mark_if s top edge m)) is ∙ ap (λ n. old ++ axis_marks_text s step top edge n) (sym (add-one number))
