-- What `load` answers, by its parts.
use Rattle.std.proofs.Common.{◌≡◌, ℕ, true, List, refl, sym, ap, subst, ◌∙◌}
use Rattle.bq_verify.specs.declared.cause.Cause.{Cause}
use Rattle.bq_insn.specs.declared.Insn.{Insn}
use Rattle.bq_insn.specs.declared.fault.DecodeCause.TheVariants.{Length, Opcode, Register, Field, Offset, Imm, WideCut}
use Rattle.bq_insn.specs.declared.fault.DecodeFault.{DecodeFault}
use Rattle.bq_insn.specs.declared.fault.DecodeFault.TheVariants as program
use Rattle.bq_insn.specs.Spelling.{spelling, is_well_formed}
use Rattle.bq_insn.specs.Slots.{spread}
use Rattle.bq_insn.specs.Laws.{AllFit}
use Rattle.bq_insn.specs.Faults.{IsDecodeFault as IsProgramFault}
use Rattle.bq_insn.proofs.UniqueLemmas as insn
use Rattle.bq_insn.proofs.LengthLemmas as lengths
use Rattle.bq_bpf.specs.declared.shape.MapShape.{MapShape}
use Rattle.bq_verify.specs.Accepted.{Accepted, IsAccepted}
use Rattle.bq_hooks.specs.Hooks.{context_length_of}
use Rattle.bq_verify.specs.Faults.{IsFaultless}
use Rattle.bq_verify.specs.Paths.{IsGreatest, PathOut}
use Rattle.bq_verify.specs.Refusals.{IsVerdictOn}
use Rattle.bq_verify.specs.Straight.{IsStraightProgram}
use Rattle.bq_verify.specs.Subjects.{subject_of_insns}
use Rattle.bq_verify.specs.declared.refused.Refused.{Refused}
use Rattle.bq_verify.specs.declared.refused.Refused.TheVariants as refused
use Rattle.bq_verify.proofs.VerdictLemmas.{not_memory}
use Rattle.bq_insn.proofs.LengthLemmas.{well_formed_in_range}
use Rattle.bq_load.specs.declared.fault.LoadFault.{LoadFault}
use Rattle.bq_load.specs.declared.fault.LoadFault.TheVariants as fault
use Rattle.bq_load.specs.Layout.{shapes_bytes, Header, IsImage}
use Rattle.bq_load.specs.Fields.{Front, Nothing, Marked, Versioned, Hooked, Mapped, Headed, IsBadNext}
use Rattle.bq_load.specs.Faults.{IsLoadFault}
use Rattle.bq_load.specs.Headers.{with_shapes, HasParts}
use Rattle.bq_load.specs.Answers.{Loads, IsUnloaded}
use Rattle.bq_load.specs.Laws.{AreBytes}
use Rattle.bq_load.specs.Naming.{load_fault_of_program, load_fault_of_refusal}
use Rattle.bq_load.specs.Reading.{Spelled}
use Rattle.bq_load.specs.Straight.{HasStraightProgram}
use Rattle.bq_load.proofs.FramingLemmas.{no_memory, is_image, has_image}
use Rattle.bq_load.proofs.HeaderLemmas.{no_decode}
use Rattle.bq_load.proofs.LawLemmas.{no_image_is_faulty}
use Rattle.bq_load.proofs.UniqueLemmas.{one_shapes, one_frame}

-- no bad field is named as a refusal of the verifier
pub no_refusal : (slot : ℕ) (cause : Cause) (front : Front) (field : List ℕ) → IsBadNext front field (fault.Refused slot cause) → ⊥
no_refusal slot cause Nothing field h = h
no_refusal slot cause Marked field h = h
no_refusal slot cause (Versioned v) field h = h
no_refusal slot cause (Hooked v k) field h = h
no_refusal slot cause (Mapped v k n s) field h = h
no_refusal slot cause (Headed k) field h = h

-- a fault of the bytes is answered
pub fault_is_unloaded : (bytes : List ℕ) (f : LoadFault) → IsLoadFault bytes f → IsUnloaded bytes f
fault_is_unloaded bytes fault.Magic b = b
fault_is_unloaded bytes fault.Version b = b
fault_is_unloaded bytes fault.Hook b = b
fault_is_unloaded bytes fault.Shape b = b
fault_is_unloaded bytes fault.Cut b = b
fault_is_unloaded bytes fault.Rest b = b
fault_is_unloaded bytes fault.OutOfMemory b = absurd (no_memory b.front b.field b.bad)
fault_is_unloaded bytes (fault.Refused slot cause) b = absurd (no_refusal slot cause b.front b.field b.bad)
fault_is_unloaded bytes (fault.Decode slot Length) b = b
fault_is_unloaded bytes (fault.Decode slot Opcode) b = absurd (no_decode slot Opcode b.front b.field b.bad)
fault_is_unloaded bytes (fault.Decode slot Register) b = absurd (no_decode slot Register b.front b.field b.bad)
fault_is_unloaded bytes (fault.Decode slot Field) b = absurd (no_decode slot Field b.front b.field b.bad)
fault_is_unloaded bytes (fault.Decode slot Offset) b = absurd (no_decode slot Offset b.front b.field b.bad)
fault_is_unloaded bytes (fault.Decode slot Imm) b = absurd (no_decode slot Imm b.front b.field b.bad)
fault_is_unloaded bytes (fault.Decode slot WideCut) b = absurd (no_decode slot WideCut b.front b.field b.bad)

-- a fault of the program is answered
pub unloaded_program : (bytes : List ℕ) (s : Spelled) (code : List ℕ) (f : DecodeFault)
    → HasParts bytes s code → IsProgramFault code f → IsUnloaded bytes (load_fault_of_program f)
unloaded_program bytes s code program.OutOfMemory parts b = has_image bytes s code parts
unloaded_program bytes s code (program.At slot cause) parts b = record {
  header = with_shapes s parts.frames.shapes;
  program = code;
  framed = parts.frames.framed;
  faulty = b;
}

-- the verifier's verdict on the program of the image is answered, where that is not straight
pub unloaded_refusal : (bytes : List ℕ) (s : Spelled) (code : List ℕ) (insns : List Insn)
    (shapes : List MapShape) (r : Refused)
    → HasParts bytes s code → code ≡ spelling insns → is_well_formed insns ≡ true → AllFit insns
    → s.shapes ≡ shapes_bytes shapes → IsVerdictOn (subject_of_insns insns s.hook s.version shapes) r
    → (HasStraightProgram bytes → r ≡ refused.OutOfMemory)
    → IsUnloaded bytes (load_fault_of_refusal r)
unloaded_refusal bytes s code insns shapes refused.OutOfMemory parts is well_formed numbers shapes-are verdict memory =
    has_image bytes s code parts
unloaded_refusal bytes s code insns shapes (refused.At slot cause) parts is well_formed numbers shapes-are verdict memory = (
  record {
    insns = insns;
    program = record {
      version = s.version;
      hook = s.hook;
      shapes = shapes;
      image = subst (λ (p : List ℕ). IsImage bytes s.version s.hook shapes p) is (is_image bytes s code shapes parts shapes-are);
      well_formed = well_formed;
      numbers = numbers;
    };
    refused = verdict;
  },
  λ straight. not_memory slot cause (memory straight),
)

-- what was accepted is loaded
pub accepted_is_loaded : (bytes : List ℕ) (s : Spelled) (code : List ℕ) (insns : List Insn)
    (shapes : List MapShape) (v : Accepted)
    → HasParts bytes s code → code ≡ spelling insns → is_well_formed insns ≡ true → AllFit insns
    → s.shapes ≡ shapes_bytes shapes → v.slots ≡ spread insns → v.shapes ≡ shapes → v.hook ≡ s.hook → v.version ≡ s.version
    → IsFaultless v.slots → IsAccepted v.slots v.shapes (context_length_of v.hook v.version) v.budget
    → IsGreatest (PathOut v.slots 0) v.budget
    → Loads bytes v
accepted_is_loaded bytes s code insns shapes v parts is well_formed numbers shapes-are slots same_shapes same_hook
    same_version faultless accepted longest = record {
      insns = insns;
      image =
          rw (same_shapes, same_hook, same_version)
          (subst (λ (p : List ℕ). IsImage bytes s.version s.hook shapes p) is (is_image bytes s code shapes parts shapes-are));
      well_formed = well_formed;
      numbers = numbers;
      slots = slots;
      faultless = faultless;
      accepted = accepted;
      longest = longest;
    }

-- ---- straight programs

-- bytes that are an image of a straight program have no fault
pub straight_bytes : (bytes : List ℕ) (f : LoadFault) → AreBytes bytes → HasStraightProgram bytes → IsLoadFault bytes f → ⊥
straight_bytes bytes f fits st b = no_image_is_faulty bytes st.version st.hook st.shapes (spelling st.insns) f fits st.image b

-- the parts are those of the straight image
record IsOf (bytes : List ℕ) (s : Spelled) (code : List ℕ) (st : HasStraightProgram bytes) : Type 0 where
  code_is : code ≡ spelling st.insns
  version : s.version ≡ st.version
  hook : s.hook ≡ st.hook
  shapes : s.shapes ≡ shapes_bytes st.shapes

-- the parts of a straight image's bytes are those of the image
is_of : (bytes : List ℕ) (s : Spelled) (code : List ℕ) (st : HasStraightProgram bytes) → HasParts bytes s code → IsOf bytes s code st
is_of bytes s code st parts =
    let header : Header = record { version = st.version; hook = st.hook; shapes = st.shapes; slots = st.image.slots } in
    let same = one_frame bytes (with_shapes s parts.frames.shapes) header code (spelling st.insns) parts.frames.framed st.image.framed in
    record {
      code_is = same.1;
      version = ap (λ (h : Header). h.version) same.0;
      hook = ap (λ (h : Header). h.hook) same.0;
      shapes = parts.frames.shapes_are ∙ ap (λ (h : Header). shapes_bytes h.shapes) same.0;
    }

-- the program of a straight image is refused only if memory runs out
pub straight_code : (bytes : List ℕ) (s : Spelled) (code : List ℕ) (f : DecodeFault)
    → HasParts bytes s code → HasStraightProgram bytes → IsProgramFault code f
    → load_fault_of_program f ≡ fault.OutOfMemory
straight_code bytes s code program.OutOfMemory parts st b = refl
straight_code bytes s code (program.At slot cause) parts st b =
    let of = is_of bytes s code st parts in
    absurd (lengths.no_program_is_refused st.insns slot cause st.well_formed st.numbers
    (subst (λ (x : List ℕ). IsProgramFault x (program.At slot cause)) of.code_is b))

-- instructions and shapes that were read of a straight image are a straight program for its hook and version
pub straight_program : (bytes : List ℕ) (s : Spelled) (code : List ℕ) (insns : List Insn) (shapes : List MapShape)
    → HasParts bytes s code → HasStraightProgram bytes → code ≡ spelling insns → is_well_formed insns ≡ true
    → AllFit insns → s.shapes ≡ shapes_bytes shapes
    → IsStraightProgram (subject_of_insns insns s.hook s.version shapes)
straight_program bytes s code insns shapes parts st is well_formed numbers shapes-are =
    let of = is_of bytes s code st parts in
    let same_insns : insns ≡ st.insns =
    insn.one_program insns st.insns (well_formed_in_range insns well_formed) (well_formed_in_range st.insns st.well_formed)
    numbers st.numbers (sym is ∙ of.code_is) in
    let same_shapes : shapes ≡ st.shapes = one_shapes shapes st.shapes (sym shapes-are ∙ of.shapes) in
    rw (same_insns, same_shapes, of.hook, of.version) st.straight
