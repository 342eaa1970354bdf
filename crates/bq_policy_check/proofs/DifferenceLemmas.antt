-- The mark from which words differ, of a fault.
use Rattle.std.proofs.Common.{◌≡◌, ◌≢◌, ℕ, List, Option, Some, None, inr, is_some, subst, sym, true}
use Rattle.bq_policy_file.specs.declared.fault.PolicyFault.{PolicyFault}
use Rattle.bq_policy_file.specs.declared.fault.PolicyFault.TheVariants.{OutOfMemory}
use Rattle.bq_policy_file.specs.declared.head.Head.{Head}
use Rattle.bq_policy_file.specs.declared.mark.Key.{Key}
use Rattle.bq_policy_file.specs.Files.{IsPolicyFault}
use Rattle.bq_policy_file.specs.Forms.{maps_option_text}
use Rattle.bq_policy_file.specs.Heads.{NamesMapShapes}
use Rattle.bq_policy_file.specs.ShapesText.{NamesNoShapes}
use Rattle.bq_policy_file.specs.declared.options.Options.{Options}
use Rattle.bq_console.specs.Words.{GivesWord}
use Rattle.bq_console.proofs.GivenLemmas.{no_value}
use Rattle.bq_policy_check.specs.Disagreeing.{IsDifferingKey, GivesImage, differing}

-- the mark that a fault of the file names is the one from which the words differ
pub IsDifference-of_fault : (bytes : List ℕ) (h : Head) (named : PolicyFault) (reported : Option Key)
    → IsPolicyFault bytes h named → named ≢ OutOfMemory → reported ≡ differing named
    → IsDifferingKey bytes h reported
IsDifference-of_fault bytes h named None is other e = inr (inr (named, is, other, sym e))
IsDifference-of_fault bytes h named (Some key) is other e = (named, is, sym e)

-- options without a hook ask for no image
pub no_image : (o : Options) → o.hook ≡ None → (h : Head) → ¬ GivesImage o h
no_image o none h gives = let asked : is_some o.hook ≡ true = gives.asked in absurd (cc)

-- options that name no maps ask for no image
pub no_maps : (o : Options) (text : List ℕ) → maps_option_text o ≡ Some text → NamesNoShapes text → (h : Head) → ¬ GivesImage o h
no_maps o text named none h gives =
    no_value NamesMapShapes text (λ shapes. none shapes.items) h.maps
    (subst (λ (word : Option (List ℕ)). GivesWord NamesMapShapes word h.maps) named gives.maps)
