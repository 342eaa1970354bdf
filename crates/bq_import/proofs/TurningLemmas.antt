-- The instructions that begin at slots, and the same of slots the other way round.
use Rattle.std.proofs.Common.{◌≡◌, ℕ, ◌+◌, ◌<◌, List, [], ◌∷◌, ◌++◌, reverse, length, take, get_or, Option, Some, None, refl, sym, ap, ◌∙◌}
use Rattle.std.specs.List.{filter_map}
use Rattle.std.proofs.lemmas.List.{append-nil, reverse-append, take_more}
use Rattle.std.proofs.lemmas.List.Elements.{filter_map-append}
use Rattle.bq_insn.specs.declared.Insn.{Insn}

-- the instructions that begin at slots
abbrev pub begun : List (Option Insn) → List Insn
begun slots = filter_map (λ (slot : Option Insn). slot) slots

-- one slot more has its instruction behind the others, if one begins there
pub begun_next : (slots : List (Option Insn)) (i : ℕ) (d : Option Insn)
    → i < length slots → begun (take (i + 1) slots) ≡ begun (take i slots) ++ begun (get_or slots i d ∷ [])
begun_next slots i d inside =
    ap begun (take_more slots i d inside) ∙ filter_map-append (λ (slot : Option Insn). slot) (take i slots) (get_or slots i d ∷ [])

-- of slots the other way round begin the same instructions, the other way round
pub begun_reversed : (slots : List (Option Insn)) → begun (reverse slots) ≡ reverse (begun slots)
begun_reversed [] = refl
begun_reversed (None ∷ slots) =
    ap begun (reverse-append (None ∷ []) slots) ∙ filter_map-append (λ (slot : Option Insn). slot) (reverse slots) (None ∷ [])
    ∙ append-nil (begun (reverse slots)) ∙ begun_reversed slots
begun_reversed (Some insn ∷ slots) =
    ap begun (reverse-append (Some insn ∷ []) slots) ∙ filter_map-append (λ (slot : Option Insn). slot) (reverse slots) (Some insn ∷ [])
    ∙ ap (λ (xs : List Insn). xs ++ (insn ∷ [])) (begun_reversed slots) ∙ sym (reverse-append (insn ∷ []) (begun slots))
