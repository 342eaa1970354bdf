-- Bytes are at most one image and have at most one first fault, and an image has none.
use Rattle.std.proofs.Common.{◌≡◌, ℕ, ◌*◌, ◌%◌, ◌≤◌, true, false, List, length, Ok, Err, sym, ap, ◌∙◌, arith}
use Rattle.std.specs.Prelude.{◌==◌, ◌&&◌, nat_le}
use Rattle.std.proofs.lemmas.Bool.Decides.{nat_tests}
use Rattle.bq_insn.specs.declared.fault.DecodeCause.TheVariants.{Length}
use Rattle.bq_insn.specs.Faults.{is_program_length}
use Rattle.bq_load.specs.declared.fault.LoadFault.{LoadFault}
use Rattle.bq_load.specs.declared.fault.LoadFault.TheVariants as fault
use Rattle.bq_load.specs.Layout.{Header, IsFramed}
use Rattle.bq_load.specs.Faults.{HasFaultyProgram}
use Rattle.bq_load.specs.Laws.{OneImage, NoImageIsFaulty, ImageHasOneFault}
use Rattle.bq_load.specs.Reading.{Spelled, frame_at}
use Rattle.bq_load.proofs.SpelledHeaderLemmas.{spelled}
use Rattle.bq_load.proofs.FaultLemmas.{IsFound, fault_again}
use Rattle.bq_load.proofs.UniqueLemmas.{frame_again, one_frame}

-- bytes that are two images have one version, one hook, the same shapes and the same program
pub one_image : OneImage
one_image bytes v w h k a b p q x y =
    let same =
    one_frame bytes (record { version = v; hook = h; shapes = a; slots = x.slots })
    (record { version = w; hook = k; shapes = b; slots = y.slots }) p q x.framed y.framed in (
      ap (λ (r : Header). r.version) same.0,
      ap (λ (r : Header). r.hook) same.0,
      ap (λ (r : Header). r.shapes) same.0,
      same.1,
    )

-- an image's program has a good length
good_length : (n slots : ℕ) → n ≡ 8 * slots → 1 ≤ slots → slots ≤ 4096 → ((n % 8 == 0) && (nat_le 1 n && nat_le n 32768)) ≡ true
good_length n slots whole some most = grind (arith, nat_tests)

-- bytes that read as an image do not read as a fault
pub not_framed : (bytes : List ℕ) (x : Spelled × List ℕ) (f : LoadFault) → frame_at bytes ≡ Ok x → frame_at bytes ≡ Err f → ⊥
not_framed bytes x f e g = cc

-- where header and program are the bytes, reading them does not fail
pub framed_does_not_fail : (bytes : List ℕ) (h : Header) (program : List ℕ) (f : LoadFault)
    → IsFramed bytes h program → frame_at bytes ≡ Err f → ⊥
framed_does_not_fail bytes h program f framed e = not_framed bytes (spelled h, program) f (frame_again bytes h program framed) e

-- bytes with a header and its program of 1 to 4096 slots have no fault of length, and no other that is found:
whole_program : (bytes : List ℕ) (h : Header) (program : List ℕ) (slot : ℕ)
    → IsFramed bytes h program → 1 ≤ h.slots → h.slots ≤ 4096 → HasFaultyProgram bytes slot Length → ⊥
whole_program bytes h program slot framed some most b =
    let same = one_frame bytes h b.header program b.program framed b.framed in
    let good : is_program_length program ≡ true = good_length (length program) h.slots framed.whole some most in
    let bad : is_program_length b.program ≡ false = b.faulty.1 in
    let moved : is_program_length program ≡ false = ap is_program_length same.1 ∙ bad in
    cc

no_fault : (bytes : List ℕ) (h : Header) (program : List ℕ) (f : LoadFault)
    → IsFramed bytes h program → 1 ≤ h.slots → h.slots ≤ 4096 → IsFound bytes f → ⊥
no_fault bytes h program (fault.Decode slot Length) framed some most b = whole_program bytes h program slot framed some most b
no_fault bytes h program f framed some most b = framed_does_not_fail bytes h program _ framed b

-- bytes that are an image have no fault
pub no_image_is_faulty : NoImageIsFaulty
no_image_is_faulty bytes v h shapes program f fits image b =
    no_fault bytes (record { version = v; hook = h; shapes = shapes; slots = image.slots }) program f image.framed
    image.some image.most (fault_again bytes f fits b)

-- two faults that reading found are the same
pub same_found : (bytes : List ℕ) (f g : LoadFault) → frame_at bytes ≡ Err f → frame_at bytes ≡ Err g → f ≡ g
same_found bytes f g e d = cc

-- a fault of the program's length is the only one found, and any two faults that are found are the same:
of_length : (bytes : List ℕ) (slot : ℕ) (g : LoadFault) → HasFaultyProgram bytes slot Length → IsFound bytes g
    → fault.Decode slot Length ≡ g
of_length bytes slot (fault.Decode other Length) b d = ap (λ (n : ℕ). fault.Decode n Length) (b.faulty.0 ∙ sym d.faulty.0)
of_length bytes slot g b d = absurd (framed_does_not_fail bytes b.header b.program _ b.framed d)

same_faults : (bytes : List ℕ) (f g : LoadFault) → IsFound bytes f → IsFound bytes g → f ≡ g
same_faults bytes (fault.Decode slot Length) g b d = of_length bytes slot g b d
same_faults bytes f (fault.Decode slot Length) b d = sym (of_length bytes slot f d b)
same_faults bytes f g b d = same_found bytes f g b d

-- two first faults of the same bytes are one
pub one_fault : ImageHasOneFault
one_fault bytes f g fits b d = same_faults bytes f g (fault_again bytes f fits b) (fault_again bytes g fits d)
