-- Why there is no text of an input, by why its section is not imported.
use Rattle.std.proofs.Common.{◌≡◌, ℕ, List, sym, subst}
use Rattle.bq_import.specs.Text.{IsImportRefused, IsProgramBytes, IsUnimported}
use Rattle.bq_import.specs.declared.text.ImportRefusal.{ImportRefusal}
use Rattle.bq_import.specs.declared.text.ImportRefusal.TheVariants as refusal

-- an input whose section is not imported has no text, for that reason
pub refused_by : (input bytes : List ℕ) (r : ImportRefusal) → IsProgramBytes input bytes → IsUnimported bytes r → IsImportRefused input r
refused_by input bytes refusal.Hex s u = absurd u
refused_by input bytes (refusal.Object fault) s u = absurd u
refused_by input bytes (refusal.Import named) s u = (bytes, s, u)
refused_by input bytes refusal.OutOfMemory s u = tt

-- that memory runs out says nothing of the input
pub refused_for_memory : (input : List ℕ) (r : ImportRefusal) → r ≡ refusal.OutOfMemory → IsImportRefused input r
refused_for_memory input r e = subst (λ (x : ImportRefusal). IsImportRefused input x) (sym e) tt
