-- Operands that are more or fewer than their places are refused for a word.
use Rattle.std.proofs.Common.{◌≡◌, ℕ, suc, List, [], ◌∷◌, length, refl, ap, ◌∙◌}
use Rattle.std.specs.Prelude.{Option, Result, Ok, Err, ℤ}
use Rattle.bq_asm.specs.declared.fault.AssemblyCause.{AssemblyCause}
use Rattle.bq_asm.specs.declared.fault.AssemblyCause.TheVariants as cause
use Rattle.bq_asm.specs.declared.operand.Operand.{Operand}
use Rattle.bq_asm.specs.declared.operand_kind.OperandKind.{OperandKind}
use Rattle.bq_asm.specs.Operands.{operand_of, each_operand, with_next, lesser}

-- the cause Word is the least, after any cause and after any operand:
lesser_word : (c : AssemblyCause) → lesser c cause.Word ≡ cause.Word
lesser_word cause.Word = refl
lesser_word cause.Number = refl
lesser_word cause.LabelTwice = refl
lesser_word cause.LabelMissing = refl
lesser_word cause.Slots = refl

word_wins : (r : Result Operand AssemblyCause) → with_next r (Err cause.Word) ≡ Err cause.Word
word_wins (Ok o) = refl
word_wins (Err c) = ap (λ (x : AssemblyCause). Err x) (lesser_word c)

-- more words or fewer than there are operands are refused for a word, whatever they write
pub count_wrong : (ks : List OperandKind) (ws : List (List ℕ)) (d : Option ℤ)
    → (length ws ≡ length ks → ⊥) → each_operand ks ws d ≡ Err cause.Word
count_wrong [] [] d h = absurd (h refl)
count_wrong [] (w ∷ ws) d h = refl
count_wrong (k ∷ ks) [] d h = refl
count_wrong (k ∷ ks) (w ∷ ws) d h =
    ap (with_next (operand_of k w d)) (count_wrong ks ws d (λ e. h (ap suc e))) ∙ word_wins (operand_of k w d)
