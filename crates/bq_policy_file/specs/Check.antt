-- What `check` writes for a text of hex, and whether it accepts it.
use Rattle.std.specs.Prelude.{◌≡◌, ◌≢◌, ℕ, Bool, true, false, List, ◌++◌, ◌⊎◌, codes}
use Rattle.std.specs.Fmt.{decimal}
use Rattle.bq_verify.specs.Accepted.{Accepted}
use Rattle.bq_hooks.specs.Hooks.{hook_word}
use Rattle.bq_hooks.specs.declared.hook.Hook.{Hook}
use Rattle.bq_load.specs.declared.fault.LoadFault.{LoadFault}
use Rattle.bq_load.specs.declared.fault.LoadFault.TheVariants as fault
use Rattle.bq_load.specs.Answers.{Loads, IsUnloaded}
use Rattle.bq_load.specs.Naming.{load_fault_text}
use Rattle.bq_words.specs.Refused.{refused_line}
use Rattle.bq_policy_file.specs.HexText.{SpellsBytes, IsNoHex}

-- the line of a program that is accepted: its hook and its budget
abbrev pub accepted_line : Hook → ℕ → List ℕ
accepted_line hook budget = codes "accepted " ++ (hook_word hook ++ (codes " budget " ++ (decimal budget ++ codes "\n")))

-- the bytes are an image whose program is accepted: its hook, and its budget, which is the longest path
pub record IsAcceptedImage (text written : List ℕ) : Type 0 where
  pub bytes : List ℕ
  pub spells : SpellsBytes text bytes
  pub program : Accepted
  pub loads : Loads bytes program
  pub line : written ≡ accepted_line program.hook program.budget

-- no program is loaded from the bytes, for this fault, and memory did not run out
abbrev pub IsFaultyImage : List ℕ → List ℕ → Type 0
IsFaultyImage text written =
    (bytes : List ℕ) × SpellsBytes text bytes × (named : LoadFault) × IsUnloaded bytes named × (named ≢ fault.OutOfMemory)
    × (written ≡ refused_line (load_fault_text named))

-- what is written for a text that is accepted, or for one that is not
abbrev pub CheckWrites : List ℕ → Bool → List ℕ → Type 0
CheckWrites text true written = IsAcceptedImage text written
CheckWrites text false written = (IsNoHex text × (written ≡ refused_line (codes "hex"))) ⊎ IsFaultyImage text written
