-- A listing with comments grows by a line.
use Rattle.std.proofs.Common.{◌≡◌, ◌+◌, ◌<◌, List, [], ◌∷◌, ◌++◌, ℕ, ap, ◌∙◌, sym, subst, append_assoc, refl, length, take, get_or}
use Rattle.std.proofs.lemmas.List.{append-nil, take_more}
use Rattle.bq_insn.specs.declared.Insn.{Insn}
use Rattle.bq_import.specs.Noted.{IsNotedLine, IsNotedListing}

-- one line more is that of one instruction more
pub noted_more : (insns : List Insn) (insn : Insn) (text line : List ℕ)
    → IsNotedListing insns text → IsNotedLine insn line
    → IsNotedListing (insns ++ (insn ∷ [])) (text ++ line)
noted_more [] insn text line e l = (line, [], l, refl, ap (λ (t : List ℕ). t ++ line) e ∙ sym (append-nil line))
noted_more (first ∷ insns) insn text line p l =
    (p.0, p.1 ++ line, p.2, noted_more insns insn p.1 line p.3 l, ap (λ (t : List ℕ). t ++ line) p.4 ∙ append_assoc p.0 p.1 line)

-- the instruction of that number is the next one
pub noted_next : (insns : List Insn) (k : ℕ) (d : Insn) (text line new : List ℕ)
    → k < length insns → IsNotedListing (take k insns) text → IsNotedLine (get_or insns k d) line → new ≡ text ++ line
    → IsNotedListing (take (k + 1) insns) new
noted_next insns k d text line new lt p q e =
    subst (λ (t : List ℕ). IsNotedListing (take (k + 1) insns) t) (sym e)
    (subst (λ (xs : List Insn). IsNotedListing xs (text ++ line)) (sym (take_more insns k d lt))
    (noted_more (take k insns) (get_or insns k d) text line p q))
