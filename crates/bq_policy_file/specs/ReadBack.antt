-- The text of a policy is read as that policy.
use Rattle.std.specs.Prelude.{◌≡◌, ◌↔◌, ℕ, Bool, List, None}
use Rattle.std.specs.Str.Lines.{lines}
use Rattle.bq_insn.specs.Laws.{AllFit}
use Rattle.bq_policy_file.specs.declared.fault.PolicyFault.{PolicyFault}
use Rattle.bq_policy_file.specs.declared.fault.PolicyFault.TheVariants.{OutOfMemory}
use Rattle.bq_policy_file.specs.declared.head.Head.{Head}
use Rattle.bq_policy_file.specs.declared.policy_source.PolicySource.{PolicySource}
use Rattle.bq_policy_file.specs.Files.{IsPolicy, IsPolicyFault, instruction_lines}
use Rattle.bq_policy_file.specs.Listed.{IsListed}

-- nothing is asked for beside the file
pub record AsksNothing (h : Head) : Type 0 where
  pub hook : h.hook ≡ None
  pub maps : h.maps ≡ None
  pub format : h.format ≡ None

-- two policies have equal hooks, versions, maps and programs
pub record IsSamePolicy (p q : PolicySource) : Type 0 where
  pub hook : q.form.hook ≡ p.form.hook
  pub version : q.form.version ≡ p.form.version
  pub shapes : q.form.shapes.items ≡ p.form.shapes.items
  pub insns : q.insns.items ≡ p.insns.items

-- two policies are equal, and the lines of the second are those of the text that have an instruction
pub record IsReadBackFrom (text : List ℕ) (p q : PolicySource) : Type 0 where
  pub same : IsSamePolicy p q
  pub lines : q.lines.items ≡ instruction_lines 1 (lines text)

-- the text is the file of this policy and of no other, and has no fault; if memory runs out, nothing is said of it
pub record IsFileOf (p : PolicySource) (text : List ℕ) : Type 0 where
  pub read : (h : Head) → AsksNothing h → (q : PolicySource) → IsPolicy text h q ↔ IsReadBackFrom text p q
  pub no_fault : (h : Head) → AsksNothing h → (named : PolicyFault) → IsPolicyFault text h named → named ≡ OutOfMemory

-- what is listed of a policy is its file, with slots and bytes and without
abbrev pub ListingIsReadBack : Type 0
ListingIsReadBack = (p : PolicySource) (has_slots : Bool) (text : List ℕ) → AllFit p.insns.items → IsListed p has_slots text → IsFileOf p text
