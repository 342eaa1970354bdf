-- Laws of what is answered: an input has one answer.
use Rattle.std.specs.Prelude.{◌≡◌, ◌≢◌, ℕ, Bool, List}
use Rattle.bq_insn.specs.Laws.{AllFit}
use Rattle.bq_load.specs.Laws.{AreBytes}
use Rattle.bq_policy_file.specs.declared.fault.PolicyFault.{PolicyFault}
use Rattle.bq_policy_file.specs.declared.fault.PolicyFault.TheVariants.{OutOfMemory}
use Rattle.bq_policy_file.specs.declared.form.ProgramForm.{ProgramForm}
use Rattle.bq_policy_file.specs.declared.head.Head.{Head}
use Rattle.bq_policy_file.specs.declared.policy_source.PolicySource.{PolicySource}
use Rattle.bq_policy_file.specs.Asm.{AsmWrites}
use Rattle.bq_policy_file.specs.Dis.{DisWrites}
use Rattle.bq_policy_file.specs.Files.{IsPolicy, IsPolicyFault}

-- in each form `asm` does not both accept and refuse an input, and writes one text for it
abbrev pub OneAssembly : Type 0
OneAssembly = (form : ProgramForm) (text : List ℕ) (a b : Bool) (x y : List ℕ) → AsmWrites form text a x → AsmWrites form text b y → (a ≡ b) × (x ≡ y)

-- `dis` does not both accept and refuse a text, and writes one text for it
abbrev pub OneListing : Type 0
OneListing = (text : List ℕ) (a b : Bool) (x y : List ℕ) → DisWrites text a x → DisWrites text b y → (a ≡ b) × (x ≡ y)

-- a file with a fault is no policy, and has no other fault; if memory runs out, that is no fault of the file
abbrev pub OnePolicyAnswer : Type 0
OnePolicyAnswer =
    (bytes : List ℕ) (given : Head) (named : PolicyFault) → AreBytes bytes → named ≢ OutOfMemory → IsPolicyFault bytes given named
    → ((p : PolicySource) → AllFit p.insns.items → IsPolicy bytes given p → ⊥) × ((other : PolicyFault) → other ≢ OutOfMemory → IsPolicyFault bytes given other → other ≡ named)
