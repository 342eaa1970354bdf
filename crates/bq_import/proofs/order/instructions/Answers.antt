use Rattle.std.proofs.Common.{List, [], ◌∷◌, ◌++◌, None, ap, sym, ◌∙◌}
use Rattle.std.proofs.lemmas.List.{append-nil}
use Rattle.bq_insn.specs.declared.Insn.{Insn}
use Rattle.bq_import.proofs.TurningLemmas.{begun_next}
use Rattle.bq_import.proofs.order.instructions.Goals.{in-Some+in_ok-push, in_default}
use Rattle.bq_import.proofs.order.instructions.Goals as goal

pub slots-preserved : goal.slots-preserved
slots-preserved c =
    rw (begun_next c.args.slots.now c.slots.slot-index None c.slots-test.true)
    (elim c.match-slot.branch [
      | in-Some+in_ok-push w ↦
          rw w.in-Some.is (ap (λ v. v.items) w.insns-is ∙ w.in_ok-push.ensures.items
          ∙ ap (λ (insns : List Insn). insns ++ (w.in-Some.insn ∷ [])) c.slots.invariant)
      | in_default w ↦ rw w.in_default.is (ap (λ v. v.items) w.insns-is ∙ c.slots.invariant ∙ sym (append-nil _))
    ])
