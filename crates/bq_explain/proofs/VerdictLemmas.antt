-- What the verifier answers of a policy's program, it answers of the policy.
use Rattle.std.proofs.Common.{◌≡◌, ◌∙◌, ℕ, subst, sym}
use Rattle.bq_insn.specs.Slots.{spread}
use Rattle.bq_hooks.specs.Hooks.{context_length_of}
use Rattle.bq_verify.specs.Accepted.{Accepted, IsAccepted}
use Rattle.bq_verify.specs.Faults.{IsFaultless}
use Rattle.bq_verify.specs.Paths.{IsGreatest, PathOut}
use Rattle.bq_verify.specs.Refusals.{IsOutOfMemory, IsVerdictOn}
use Rattle.bq_verify.specs.Straight.{IsStraightProgram}
use Rattle.bq_verify.specs.Subjects.{Subject}
use Rattle.bq_verify.specs.declared.cause.Cause.{Cause}
use Rattle.bq_verify.specs.declared.refused.Refused.{Refused}
use Rattle.bq_verify.specs.declared.refused.Refused.TheVariants as refused
use Rattle.bq_verify.proofs.VerdictLemmas.{not_memory}
use Rattle.bq_policy_file.specs.Subjects.{subject_in}
use Rattle.bq_policy_file.specs.declared.policy_source.PolicySource.{PolicySource}
use Rattle.bq_explain.specs.Verdicts.{IsAcceptedPolicy, IsRefusedPolicy}

-- a program that is accepted is so as that of the policy whose program it is
pub accepted_policy : (p : PolicySource) (v : Accepted) → v.slots ≡ spread p.insns.items
    → v.shapes ≡ p.form.shapes.items → v.hook ≡ p.form.hook → v.version ≡ p.form.version → IsFaultless v.slots
    → IsAccepted v.slots v.shapes (context_length_of v.hook v.version) v.budget → IsGreatest (PathOut v.slots 0) v.budget
    → IsAcceptedPolicy p v.budget
accepted_policy p v slots shapes hook version faultless accepted longest =
    record {
      faultless = rw (sym slots) faultless;
      accepted = rw (sym slots, sym shapes, sym hook, sym version) accepted;
      longest = rw (sym slots) longest;
    }

-- the verdict on what the policy is judged as is that on the policy
pub refused_policy : (p : PolicySource) (judged : Subject) (answer : Refused) (slot : ℕ) (cause : Cause)
    → judged ≡ subject_in p → answer ≡ refused.At slot cause → IsVerdictOn judged answer
    → (IsStraightProgram judged → IsOutOfMemory answer)
    → IsRefusedPolicy p slot cause
refused_policy p judged answer slot cause same named verdict accepts = record {
  refusal = subst (IsVerdictOn (subject_in p)) named (subst (λ (s : Subject). IsVerdictOn s answer) same verdict);
  not_straight = λ straight. not_memory slot cause (sym named ∙ accepts (subst IsStraightProgram (sym same) straight));
}
