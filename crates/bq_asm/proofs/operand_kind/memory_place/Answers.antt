use Rattle.std.proofs.Common.{◌∙◌, ◌≤◌, ◌-◌, sym, ap, arith, length, drop, length-drop}
use Rattle.std.proofs.lemmas.List.{take_all}
use Rattle.std.specs.Prelude.{option_map}
use Rattle.bq_asm.specs.Operands.{memory_place, cut_at, based}
use Rattle.bq_asm.proofs.operand_kind.memory_place.Goals as goal

pub returns-in_default : goal.returns-in_default
returns-in_default c = ap memory_place (sym (ap (option_map (λ w. w.now)) c.in_default.is) ∙ c.inside.ensures)

pub returns-in-None : goal.returns-in-None
returns-in-None c =
    let inner = c.in-Some.inner.now in
    c.based.ensures ∙ (λ i. based (c.register_of.ensures i) (c.as_slice.ensures i))
    ∙ ap (λ sign. cut_at sign inner) (sym c.in-None.is ∙ c.first_sign.ensures)
    ∙ ap memory_place (sym (ap (option_map (λ w. w.now)) c.in-Some.is) ∙ c.inside.ensures)

pub returns-in-Some-first_sign : goal.returns-in-Some-first_sign
returns-in-Some-first_sign c =
    let inner = c.in-Some.inner.now in
    let at = c.in-Some-first_sign.at in
    let rest : length (drop at inner) ≤ length inner - at = omega (arith, length-drop at inner) in
    c.based-in-Some-first_sign.ensures
    ∙ (λ i. based (c.register_of-in-Some-first_sign.ensures i) (take_all (length inner - at) (drop at inner) rest i))
    ∙ ap (λ sign. cut_at sign inner) (sym c.in-Some-first_sign.is ∙ c.first_sign.ensures)
    ∙ ap memory_place (sym (ap (option_map (λ w. w.now)) c.in-Some.is) ∙ c.inside.ensures)
