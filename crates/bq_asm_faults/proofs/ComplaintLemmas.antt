-- Of a text with a fault there is a complaint.
use Rattle.std.proofs.Common.{◌≡◌, ℕ, List, subst, sym}
use Rattle.bq_asm.specs.declared.fault.AssemblyCause.{AssemblyCause}
use Rattle.bq_asm.specs.Lines.{lines_of}
use Rattle.bq_asm.specs.Assembly.{Assembles}
use Rattle.bq_asm.specs.Faults.{FaultyLines}
use Rattle.bq_asm.proofs.LawLemmas.{no_program_is_faulty}
use Rattle.bq_asm_faults.specs.Complaints.{IsAssembly}

-- a text that has a fault does not assemble
pub faulty_is_none : (text written : List ℕ) (line : ℕ) (cause : AssemblyCause)
    → written ≡ text → FaultyLines (lines_of written) line cause → IsAssembly text → ⊥
faulty_is_none text written line cause same faulty is =
    no_program_is_faulty written is.1.0 line cause (subst (λ (t : List ℕ). Assembles t is.1.0) (sym same) is.1.1) faulty
