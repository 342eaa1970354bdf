-- The case in which the words of `asm` contradict the marks of the text.
use Rattle.std.specs.Prelude.{◌≡◌, ◌≢◌, ℕ, List, ◌⊎◌, Option, Some, None, IsSome, string_bytes}
use Rattle.bq_console.specs.Words.{GivesWord}
use Rattle.bq_policy_file.specs.declared.fault.PolicyFault.{PolicyFault}
use Rattle.bq_policy_file.specs.declared.fault.PolicyFault.TheVariants.{Disagrees, OutOfMemory}
use Rattle.bq_policy_file.specs.declared.head.Head.{Head}
use Rattle.bq_policy_file.specs.declared.kind.FileKind.TheVariants.{Text}
use Rattle.bq_policy_file.specs.declared.mark.Key.{Key}
use Rattle.bq_policy_file.specs.declared.options.Options.{Options}
use Rattle.bq_policy_file.specs.declared.policy_source.PolicySource.{PolicySource}
use Rattle.bq_policy_file.specs.Files.{IsPolicy, IsPolicyFault, kind_of}
use Rattle.bq_policy_file.specs.Forms.{maps_option_text}
use Rattle.bq_policy_file.specs.Heads.{NamesMapShapes}
use Rattle.bq_policy_check.specs.Refusing.{policy_fault_line}
use Rattle.bq_policy_check.specs.declared.asm_head.AsmRefusal.{AsmRefusal}

-- the mark that the words contradict, if that is the fault
abbrev pub differing : PolicyFault → Option Key
differing (Disagrees key) = Some key
differing other = None

-- the text is a policy with these words, or another thing is wrong with it
abbrev pub NoneDiffers : List ℕ → Head → Type 0
NoneDiffers bytes h = ((p : PolicySource) × IsPolicy bytes h p) ⊎ ((named : PolicyFault) × IsPolicyFault bytes h named × (named ≢ OutOfMemory) × (differing named ≡ None))

-- the key in which the words differ from the marks of a text, if they do; other bytes have no marks
abbrev pub IsDifferingKey : List ℕ → Head → Option Key → Type 0
IsDifferingKey bytes h None = (kind_of bytes ≢ Text) ⊎ NoneDiffers bytes h
IsDifferingKey bytes h (Some key) = (named : PolicyFault) × IsPolicyFault bytes h named × (differing named ≡ Some key)

-- the options ask for an image, and say this of it
pub record GivesImage (o : Options) (h : Head) : Type 0 where
  pub asked : IsSome o.hook
  pub hook : h.hook ≡ o.hook
  pub maps : GivesWord NamesMapShapes (maps_option_text o) h.maps
  pub format : h.format ≡ o.format

-- the refusal, if there is one, names the mark of the text from which the words differ
abbrev pub IsRefusalBeside : List ℕ → Head → Option AsmRefusal → Type 0
IsRefusalBeside bytes h None = IsDifferingKey bytes h None
IsRefusalBeside bytes h (Some refusal) = (key : Key) × IsDifferingKey bytes h (Some key) × (string_bytes refusal.line ≡ policy_fault_line (Disagrees key))

-- options that ask for no image, or name no maps, are not refused here; others are refused if they differ from the marks of the text
abbrev pub IsAsmRefusal : Options → List ℕ → Option AsmRefusal → Type 0
IsAsmRefusal o bytes refusal = (((h : Head) → ¬ GivesImage o h) × (refusal ≡ None)) ⊎ ((h : Head) × GivesImage o h × IsRefusalBeside bytes h refusal)
