-- Bytes with a fault of their own, of their program or of its control graph have no other answer, and at most one program is loaded.
use Rattle.std.proofs.Common.{◌≡◌, ℕ, List, Option, Result, Ok, Err, refl, sym, ap, subst, ◌∙◌, ◌⊎◌, inl, inr, arith}
use Rattle.bq_insn.specs.declared.fault.DecodeCause.{DecodeCause}
use Rattle.bq_insn.specs.declared.fault.DecodeFault.TheVariants.{At}
use Rattle.bq_insn.specs.declared.Insn.{Insn}
use Rattle.bq_insn.specs.Faults.{IsDecodeFault as IsProgramFault}
use Rattle.bq_insn.specs.Slots.{spread}
use Rattle.bq_insn.specs.Spelling.{spelling}
use Rattle.bq_insn.proofs.LengthLemmas as lengths
use Rattle.bq_insn.proofs.OneFaultLemmas as insn
use Rattle.bq_insn.proofs.UniqueLemmas.{one_program}
use Rattle.bq_insn.proofs.LengthLemmas.{well_formed_in_range}
use Rattle.bq_verify.specs.declared.graph_cause.GraphCause.{GraphCause}
use Rattle.bq_verify.specs.declared.cause.Cause.{Cause}
use Rattle.bq_verify.specs.declared.cause.Cause.TheVariants.{Graph, State}
use Rattle.bq_verify.specs.Faults.{IsFaultless, IsFirstFault}
use Rattle.bq_verify.specs.Paths.{IsGreatest, PathOut}
use Rattle.bq_verify.specs.Accepted.{Accepted}
use Rattle.bq_verify.specs.Refusals.{IsVerdictOn}
use Rattle.bq_verify.specs.Subjects.{Subject, subject_of_insns}
use Rattle.bq_verify.specs.declared.refused.Refused.TheVariants as refused
use Rattle.bq_verify.proofs.FirstLemmas.{faultless_has_none, one_first_fault}
use Rattle.bq_load.specs.declared.fault.LoadFault.{LoadFault}
use Rattle.bq_load.specs.declared.fault.LoadFault.TheVariants as fault
use Rattle.bq_load.specs.Answers.{HasProgram, HasRefusedProgram, IsUnloaded, Loads}
use Rattle.bq_load.specs.Faults.{HasFaultyProgram}
use Rattle.bq_load.specs.Laws.{AreBytes, IsAnswer, OneAnswer, OneLoaded}
use Rattle.bq_load.specs.Layout.{Header, IsFramed}
use Rattle.bq_load.specs.Reading.{frame_at}
use Rattle.bq_load.proofs.FaultLemmas.{fault_again}
use Rattle.bq_load.proofs.LawLemmas.{framed_does_not_fail, one_image, same_found}
use Rattle.bq_load.proofs.UniqueLemmas.{one_frame}
use Rattle.bq_hooks.specs.declared.hook.Hook.{Hook}
use Rattle.bq_hooks.specs.declared.hook.Version.{Version}
use Rattle.bq_bpf.specs.declared.shape.MapShape.{MapShape}

-- the fault is one of header and length: reading stops there
record Stops (bytes : List ℕ) (f : LoadFault) : Type 0 where
  at : frame_at bytes ≡ Err f

-- the header and the program of an image are there
record Stands (bytes : List ℕ) : Type 0 where
  header : Header
  program : List ℕ
  framed : IsFramed bytes header program

-- where no program is loaded, reading stops at the fault, or a header and its program are there
by_fault : (bytes : List ℕ) (f : LoadFault) → AreBytes bytes → IsUnloaded bytes f → Stops bytes f ⊎ Stands bytes
by_fault bytes fault.Magic fits b = inl (record { at = fault_again bytes fault.Magic fits b })
by_fault bytes fault.Version fits b = inl (record { at = fault_again bytes fault.Version fits b })
by_fault bytes fault.Hook fits b = inl (record { at = fault_again bytes fault.Hook fits b })
by_fault bytes fault.Shape fits b = inl (record { at = fault_again bytes fault.Shape fits b })
by_fault bytes fault.Cut fits b = inl (record { at = fault_again bytes fault.Cut fits b })
by_fault bytes fault.Rest fits b = inl (record { at = fault_again bytes fault.Rest fits b })
by_fault bytes (fault.Decode slot cause) fits b = inr (record { header = b.header; program = b.program; framed = b.framed })
by_fault bytes (fault.Refused slot cause) fits b = inr (record { header = _; program = _; framed = b.0.program.image.framed })
by_fault bytes fault.OutOfMemory fits b = inr (record { header = _; program = _; framed = b.image.framed })

-- an image's program has no fault
no_faulty : (bytes : List ℕ) (insns : List Insn) (slot : ℕ) (cause : DecodeCause) → HasFaultyProgram bytes slot cause → HasProgram bytes insns → ⊥
no_faulty bytes insns slot cause b p =
    let same =
    one_frame bytes b.header (record { version = p.version; hook = p.hook; shapes = p.shapes; slots = p.image.slots })
    b.program (spelling insns) b.framed p.image.framed in
    lengths.no_program_is_refused insns slot cause p.well_formed p.numbers
    (subst (λ (x : List ℕ). IsProgramFault x (At slot cause)) same.1 b.faulty)

-- a program has one fault
one_faulty : (bytes : List ℕ) (s t : ℕ) (c d : DecodeCause) → HasFaultyProgram bytes s c → HasFaultyProgram bytes t d
    → fault.Decode t d ≡ fault.Decode s c
one_faulty bytes s t c d a b =
    let same = one_frame bytes a.header b.header a.program b.program a.framed b.framed in
    let one = insn.one_fault b.program t s d c b.faulty (subst (λ (x : List ℕ). IsProgramFault x (At s c)) same.1 a.faulty) in
    ap (λ (n : ℕ). fault.Decode n d) one.0 ∙ ap (λ (k : DecodeCause). fault.Decode s k) one.1

-- the answer is that fault, or lack of memory
abbrev IsOnly : LoadFault → Result Accepted LoadFault → Type 0
IsOnly f answer = (answer ≡ Err f) ⊎ (answer ≡ Err fault.OutOfMemory)

-- where reading stops at a fault, a fault that is answered is that one
stopped : (bytes : List ℕ) (f g : LoadFault) → Stops bytes f → Stops bytes g ⊎ Stands bytes → IsOnly f (Err g)
stopped bytes f g at (inl other) = inl (ap (λ (x : LoadFault). Err x) (same_found bytes g f other.at at.at))
stopped bytes f g at (inr there) = absurd (framed_does_not_fail bytes there.header there.program f there.framed at.at)

-- reading stops at a fault: it is the answer
at_stop : (bytes : List ℕ) (f : LoadFault) (answer : Result Accepted LoadFault)
    → AreBytes bytes → Stops bytes f → IsAnswer bytes answer → IsOnly f answer
at_stop bytes f (Ok v) fits at a = absurd (framed_does_not_fail bytes _ _ f a.image.framed at.at)
at_stop bytes f (Err g) fits at a = stopped bytes f g at (by_fault bytes g fits a)

-- header and program are there, so reading does not stop
framed : (bytes : List ℕ) (f : LoadFault) (h : Header) (program : List ℕ) → IsFramed bytes h program → Stops bytes f → ⊥
framed bytes f h program there at = framed_does_not_fail bytes h program f there at.at

-- bytes from which a program is loaded are an image of its instructions
as_program : (bytes : List ℕ) (v : Accepted) (l : Loads bytes v) → HasProgram bytes l.insns
as_program bytes v l =
    record { version = v.version; hook = v.hook; shapes = v.shapes; image = l.image; well_formed = l.well_formed; numbers = l.numbers }

-- a fault of the program is the answer
faulty : (bytes : List ℕ) (slot : ℕ) (cause : DecodeCause) (answer : Result Accepted LoadFault)
    → AreBytes bytes → HasFaultyProgram bytes slot cause → IsAnswer bytes answer
    → IsOnly (fault.Decode slot cause) answer
faulty bytes slot cause (Ok v) fits b a = absurd (no_faulty bytes a.insns slot cause b (as_program bytes v a))
faulty bytes slot cause (Err (fault.Decode t d)) fits b a = inl (ap (λ (x : LoadFault). Err x) (one_faulty bytes slot t cause d b a))
faulty bytes slot cause (Err (fault.Refused t d)) fits b a = absurd (no_faulty bytes a.0.insns slot cause b a.0.program)
faulty bytes slot cause (Err fault.OutOfMemory) fits b a = inr refl
faulty bytes slot cause (Err fault.Magic) fits b a =
    absurd (framed_does_not_fail bytes b.header b.program fault.Magic b.framed (fault_again bytes fault.Magic fits a))
faulty bytes slot cause (Err fault.Version) fits b a =
    absurd (framed_does_not_fail bytes b.header b.program fault.Version b.framed (fault_again bytes fault.Version fits a))
faulty bytes slot cause (Err fault.Hook) fits b a =
    absurd (framed_does_not_fail bytes b.header b.program fault.Hook b.framed (fault_again bytes fault.Hook fits a))
faulty bytes slot cause (Err fault.Shape) fits b a =
    absurd (framed_does_not_fail bytes b.header b.program fault.Shape b.framed (fault_again bytes fault.Shape fits a))
faulty bytes slot cause (Err fault.Cut) fits b a =
    absurd (framed_does_not_fail bytes b.header b.program fault.Cut b.framed (fault_again bytes fault.Cut fits a))
faulty bytes slot cause (Err fault.Rest) fits b a =
    absurd (framed_does_not_fail bytes b.header b.program fault.Rest b.framed (fault_again bytes fault.Rest fits a))

-- bytes are at most one program
one_list : (bytes : List ℕ) (a b : List Insn) → HasProgram bytes a → HasProgram bytes b → a ≡ b
one_list bytes a b p q =
    let images = one_image bytes p.version q.version p.hook q.hook p.shapes q.shapes (spelling a) (spelling b) p.image q.image in
    one_program a b (well_formed_in_range a p.well_formed) (well_formed_in_range b q.well_formed) p.numbers q.numbers images.3

-- a refusal of a program whose control graph has a first fault names that fault
one_refusal : (p : Subject) (s t : ℕ) (c : GraphCause) (d : Cause)
    → IsFirstFault p.slots c s → IsVerdictOn p (refused.At t d)
    → fault.Refused t d ≡ fault.Refused s (Graph c)
one_refusal p s t c (Graph d) first other =
    let one = one_first_fault p.slots d c t s other first in
    ap (λ (n : ℕ). fault.Refused n (Graph d)) one.1 ∙ ap (λ (k : GraphCause). fault.Refused s (Graph k)) one.0
one_refusal p s t c (State d) first other = absurd (faultless_has_none p.slots c s other.0 first)

-- the verdict on one list of instructions, said of the other
moved : (hook : Hook) (version : Version) (shapes : List MapShape) (a b : List Insn) (s : ℕ) (c : Cause)
    → a ≡ b → IsVerdictOn (subject_of_insns a hook version shapes) (refused.At s c)
    → IsVerdictOn (subject_of_insns b hook version shapes) (refused.At s c)
moved hook version shapes a b s c same r =
    subst (λ (x : List Insn). IsVerdictOn (subject_of_insns x hook version shapes) (refused.At s c)) same r

-- no program is loaded from bytes whose program is refused for its control graph
not_faultless : (bytes : List ℕ) (slot : ℕ) (cause : GraphCause) (v : Accepted)
    → HasRefusedProgram bytes (refused.At slot (Graph cause)) → Loads bytes v → ⊥
not_faultless bytes slot cause v b l =
    let first : IsFirstFault (spread l.insns) cause slot =
    moved b.program.hook b.program.version b.program.shapes b.insns l.insns slot (Graph cause)
    (one_list bytes b.insns l.insns b.program (as_program bytes v l)) b.refused in
    faultless_has_none (spread l.insns) cause slot (subst (λ (x : List (Option Insn)). IsFaultless x) l.slots l.faultless) first

-- a fault of the control graph is the answer
graph_fault : (bytes : List ℕ) (slot : ℕ) (cause : GraphCause) (answer : Result Accepted LoadFault)
    → AreBytes bytes → HasRefusedProgram bytes (refused.At slot (Graph cause)) → IsAnswer bytes answer
    → IsOnly (fault.Refused slot (Graph cause)) answer
graph_fault bytes slot cause (Ok v) fits b a = absurd (not_faultless bytes slot cause v b a)
graph_fault bytes slot cause (Err (fault.Decode t d)) fits b a = absurd (no_faulty bytes b.insns t d a b.program)
graph_fault bytes slot cause (Err (fault.Refused t d)) fits b a =
    let same = one_list bytes a.0.insns b.insns a.0.program b.program in
    inl (ap (λ (x : LoadFault). Err x)
    (one_refusal (subject_of_insns b.insns a.0.program.hook a.0.program.version a.0.program.shapes) slot t cause d b.refused
    (moved a.0.program.hook a.0.program.version a.0.program.shapes a.0.insns b.insns t d same a.0.refused)))
graph_fault bytes slot cause (Err fault.OutOfMemory) fits b a = inr refl
graph_fault bytes slot cause (Err fault.Magic) fits b a =
    absurd (framed bytes fault.Magic _ _ b.program.image.framed (record { at = fault_again bytes fault.Magic fits a }))
graph_fault bytes slot cause (Err fault.Version) fits b a =
    absurd (framed bytes fault.Version _ _ b.program.image.framed (record { at = fault_again bytes fault.Version fits a }))
graph_fault bytes slot cause (Err fault.Hook) fits b a =
    absurd (framed bytes fault.Hook _ _ b.program.image.framed (record { at = fault_again bytes fault.Hook fits a }))
graph_fault bytes slot cause (Err fault.Shape) fits b a =
    absurd (framed bytes fault.Shape _ _ b.program.image.framed (record { at = fault_again bytes fault.Shape fits a }))
graph_fault bytes slot cause (Err fault.Cut) fits b a =
    absurd (framed bytes fault.Cut _ _ b.program.image.framed (record { at = fault_again bytes fault.Cut fits a }))
graph_fault bytes slot cause (Err fault.Rest) fits b a =
    absurd (framed bytes fault.Rest _ _ b.program.image.framed (record { at = fault_again bytes fault.Rest fits a }))

-- bytes with a fault of their own, of their program or its graph are answered by it, or by lack of memory
pub one_answer : OneAnswer
one_answer bytes fault.Magic answer fits of b a =
    at_stop bytes fault.Magic answer fits (record { at = fault_again bytes fault.Magic fits b }) a
one_answer bytes fault.Version answer fits of b a =
    at_stop bytes fault.Version answer fits (record { at = fault_again bytes fault.Version fits b }) a
one_answer bytes fault.Hook answer fits of b a =
    at_stop bytes fault.Hook answer fits (record { at = fault_again bytes fault.Hook fits b }) a
one_answer bytes fault.Shape answer fits of b a =
    at_stop bytes fault.Shape answer fits (record { at = fault_again bytes fault.Shape fits b }) a
one_answer bytes fault.Cut answer fits of b a = at_stop bytes fault.Cut answer fits (record { at = fault_again bytes fault.Cut fits b }) a
one_answer bytes fault.Rest answer fits of b a =
    at_stop bytes fault.Rest answer fits (record { at = fault_again bytes fault.Rest fits b }) a
one_answer bytes (fault.Decode slot cause) answer fits of b a = faulty bytes slot cause answer fits b a
one_answer bytes (fault.Refused slot (Graph cause)) answer fits of b a = graph_fault bytes slot cause answer fits b.0 a
one_answer bytes (fault.Refused slot (State obligation)) answer fits of b a = absurd of
one_answer bytes fault.OutOfMemory answer fits of b a = absurd of

-- two numbers that are each the greatest with a property are the same
one_greatest : (P : ℕ → Type 0) (m n : ℕ) → IsGreatest P m → IsGreatest P n → m ≡ n
one_greatest P m n a b = let below = a.bounds n b.holds in let above = b.bounds m a.holds in omega (arith, below, above)

-- two programs that are loaded from the same bytes are one, with one budget
pub one_loaded : OneLoaded
one_loaded bytes v w a b =
    let images =
    one_image bytes v.version w.version v.hook w.hook v.shapes w.shapes (spelling a.insns)
    (spelling b.insns) a.image b.image in
    let insns = one_list bytes a.insns b.insns (as_program bytes v a) (as_program bytes w b) in
    let slots : v.slots ≡ w.slots = a.slots ∙ ap (λ (x : List Insn). spread x) insns ∙ sym b.slots in
    let budget : v.budget ≡ w.budget =
    one_greatest (PathOut v.slots 0) v.budget w.budget a.longest
    (subst (λ (x : List (Option Insn)). IsGreatest (PathOut x 0) w.budget) (sym slots) b.longest) in
    ap (λ (x : List (Option Insn)). record v { slots = x }) slots
    ∙ ap (λ (x : List MapShape). record v { slots = w.slots; shapes = x }) images.2
    ∙ ap (λ (x : Hook). record v { slots = w.slots; shapes = w.shapes; hook = x }) images.1
    ∙ ap (λ (x : Version). record v { slots = w.slots; shapes = w.shapes; hook = w.hook; version = x }) images.0
    ∙ ap (λ (n : ℕ). record w { budget = n }) budget
