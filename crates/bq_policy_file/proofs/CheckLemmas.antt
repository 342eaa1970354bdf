-- The line that refuses an image, by its fault.
use Rattle.std.proofs.Common.{◌≡◌, ◌∙◌, ℕ, List, false, Result, Ok, Err, IfOk, inr, ap, sym, subst}
use Rattle.std.specs.Prelude.{◌≢◌}
use Rattle.std.specs.String.{string_bytes}
use Rattle.std.specs.declared.alloc.AllocError.{AllocError}
use Rattle.bq_load.specs.declared.fault.LoadFault.{LoadFault}
use Rattle.bq_load.specs.declared.fault.LoadFault.TheVariants as fault
use Rattle.bq_load.specs.Answers.{IsUnloaded}
use Rattle.bq_policy_file.specs.declared.answer.Answer.{Answer}
use Rattle.bq_words.specs.Refused.{refused_line}
use Rattle.bq_policy_file.specs.HexText.{SpellsBytes}
use Rattle.bq_load.specs.Naming.{load_fault_text}
use Rattle.bq_policy_file.specs.Check.{CheckWrites}

-- where an image has a fault, the answer that refuses it by the text of that fault is what is to be written
pub refuses_fault : (text bytes reason : List ℕ) (f : LoadFault) (r : Result Answer AllocError)
    → SpellsBytes text bytes → IsUnloaded bytes f → f ≢ fault.OutOfMemory → reason ≡ load_fault_text f
    → IfOk r (λ a. string_bytes a.text ≡ refused_line reason) → IfOk r (λ a. a.accepted ≡ false)
    → IfOk r (λ a. CheckWrites text a.accepted (string_bytes a.text))
refuses_fault text bytes reason f (Err e) spells unloaded other is line refused = tt
refuses_fault text bytes reason f (Ok a) spells unloaded other is line refused =
    subst (λ b. CheckWrites text b (string_bytes a.text)) (sym refused) (inr (bytes, spells, f, unloaded, other, line ∙ ap refused_line is))
