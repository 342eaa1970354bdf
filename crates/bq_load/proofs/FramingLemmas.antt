-- Header and program: what was read is in the bytes, and what was refused has the fault that was found.
use Rattle.std.proofs.Common.{◌≡◌, ℕ, ◌*◌, ◌%◌, ◌<◌, ◌≤◌, false, cond, ltb, List, ◌++◌, length, Ok, Err, refl, sym, ap, subst, ◌∙◌, inl, inr, ◌⊎◌, arith}
use Rattle.std.specs.Prelude.{◌&&◌, ◌==◌, nat_le}
use Rattle.std.specs.Int.{w32, to_le_bytes}
use Rattle.std.proofs.lemmas.Bool.{ltb-false, ltb-true}
use Rattle.std.proofs.lemmas.Bool.Decides.{nat_tests}
use Rattle.bq_insn.specs.declared.fault.DecodeCause.TheVariants.{Length}
use Rattle.bq_bpf.specs.declared.shape.MapShape.{MapShape}
use Rattle.bq_load.specs.declared.fault.LoadFault.{LoadFault}
use Rattle.bq_load.specs.declared.fault.LoadFault.TheVariants as fault
use Rattle.bq_load.specs.Layout.{shapes_bytes, image_opening, header_bytes, IsImage}
use Rattle.bq_load.specs.Fields.{Front, Nothing, Marked, Versioned, Hooked, Mapped, Headed, IsBadNext}
use Rattle.bq_load.specs.Faults.{HasFaultyProgram, IsLoadFault}
use Rattle.bq_load.specs.Headers.{with_shapes, HasHeader, Frames, HasParts}
use Rattle.bq_load.specs.Answers.{HasImage, IsUnread}
use Rattle.bq_load.specs.Reading.{Spelled, header_at, ended, frame_at}
use Rattle.bq_load.proofs.ReadingLemmas.{bind_ok, ok_is}
use Rattle.bq_load.proofs.FieldLemmas.{AreBytes, bind_err, err_is, chosen_by_test}
use Rattle.bq_load.proofs.HeaderLemmas.{length-shapes_bytes, header_ok, header_err, refused_is}

-- where the program ends
ended_ok : (x y : Spelled × List ℕ) → ended x ≡ Ok y → (x ≡ y) × (length x.1 ≡ 8 * x.0.slots)
ended_ok x y e =
    elim (chosen_by_test (ltb (length x.1) (8 * x.0.slots)) (Err fault.Cut)
    (cond (ltb (8 * x.0.slots) (length x.1)) (Err fault.Rest) (Ok x)) (Ok y) e) [
      | inl p ↦ absurd (let q = p.1 in cc)
      | inr p ↦ elim (chosen_by_test (ltb (8 * x.0.slots) (length x.1)) (Err fault.Rest) (Ok x) (Ok y) p.1) [
        | inl q ↦ absurd (let r = q.1 in cc)
        | inr q ↦
            let low : 8 * x.0.slots ≤ length x.1 = ltb-false _ _ p.0 in
            let high : length x.1 ≤ 8 * x.0.slots = ltb-false _ _ q.0 in
            (ok_is x y q.1, omega arith)
      ]
    ]

-- a header and a program that were read are the bytes
pub frame_ok : (bytes : List ℕ) (x : Spelled × List ℕ) → AreBytes bytes → frame_at bytes ≡ Ok x → Frames bytes x.0 x.1
unfolding frame_at
frame_ok bytes x fits e =
    let a = bind_ok (header_at bytes) ended x e in
    let there = header_ok bytes a.0 fits a.1 in
    let end = ended_ok a.0 x a.2 in
    subst (λ (y : Spelled × List ℕ). Frames bytes y.0 y.1) end.0
    (record {
      shapes = there.shapes;
      shapes_are = there.shapes_are;
      framed = record { header = there.good; whole = end.1; bytes_are = there.bytes_are };
    })

-- a program that does not end as the header says
ended_err : (bytes : List ℕ) (x : Spelled × List ℕ) (f : LoadFault) → HasHeader bytes x.0 x.1 → ended x ≡ Err f → IsLoadFault bytes f
ended_err bytes x f there e =
    let h = with_shapes x.0 there.shapes in
    elim (chosen_by_test (ltb (length x.1) (8 * x.0.slots)) (Err fault.Cut)
    (cond (ltb (8 * x.0.slots) (length x.1)) (Err fault.Rest) (Ok x)) (Err f) e) [
      | inl p ↦
          subst (IsLoadFault bytes) (err_is {A = Spelled × List ℕ} fault.Cut f p.1)
          (record { front = Headed h; part = x.1; good = there.good; bytes_are = there.bytes_are; short = ltb-true _ _ p.0 })
      | inr p ↦ elim (chosen_by_test (ltb (8 * x.0.slots) (length x.1)) (Err fault.Rest) (Ok x) (Err f) p.1) [
        | inl q ↦
            subst (IsLoadFault bytes) (err_is {A = Spelled × List ℕ} fault.Rest f q.1)
            (record { header = h; rest = x.1; good = there.good; bytes_are = there.bytes_are; more = ltb-true _ _ q.0 })
        | inr q ↦ absurd (let r = q.1 in cc)
      ]
    ]

-- what reading header and program fails with is a fault of the bytes
pub frame_err : (bytes : List ℕ) (f : LoadFault) → AreBytes bytes → frame_at bytes ≡ Err f → IsLoadFault bytes f
unfolding frame_at
frame_err bytes f fits e =
    elim (bind_err (header_at bytes) ended f e) [
      | inl p ↦ refused_is bytes f (header_err bytes f fits p)
      | inr p ↦ ended_err bytes p.0 f (header_ok bytes p.0 fits p.1) p.2
    ]

-- ---- faults that are answered

-- no bad field is named as lack of memory
pub no_memory : (front : Front) (field : List ℕ) → IsBadNext front field fault.OutOfMemory → ⊥
no_memory Nothing field h = h
no_memory Marked field h = h
no_memory (Versioned v) field h = h
no_memory (Hooked v k) field h = h
no_memory (Mapped v k n s) field h = h
no_memory (Headed k) field h = h

-- a fault of the bytes says why no image is read of them
pub fault_is_unread : (bytes : List ℕ) (f : LoadFault) → IsLoadFault bytes f → IsUnread bytes f
fault_is_unread bytes fault.OutOfMemory b = absurd (no_memory b.front b.field b.bad)
fault_is_unread bytes fault.Magic b = b
fault_is_unread bytes fault.Version b = b
fault_is_unread bytes fault.Hook b = b
fault_is_unread bytes fault.Shape b = b
fault_is_unread bytes fault.Cut b = b
fault_is_unread bytes fault.Rest b = b
fault_is_unread bytes (fault.Decode slot cause) b = b
fault_is_unread bytes (fault.Refused slot cause) b = b

-- ---- programs that are too short or too long

-- eight bytes for each of no slots, or of more than 4096 slots, are no length of a program
no_length : (n : ℕ) → (n ≡ 0) ⊎ (4096 < n) → ((8 * n % 8 == 0) && (nat_le 1 (8 * n) && nat_le (8 * n) 32768)) ≡ false
no_length n h = grind (arith, nat_tests)

-- eight bytes for each of more than 4096 slots are no length of a program
pub bad_length_of : (n slots : ℕ) → n ≡ 8 * slots → 4096 < slots → ((n % 8 == 0) && (nat_le 1 n && nat_le n 32768)) ≡ false
bad_length_of n slots whole over =
    subst (λ (m : ℕ). ((m % 8 == 0) && (nat_le 1 m && nat_le m 32768)) ≡ false) (sym whole) (no_length slots (inr over))

-- a program of no slot, or of more than 4096, has the fault of its length
pub bad_length : (bytes : List ℕ) (s : Spelled) (program : List ℕ)
    → Frames bytes s program → (s.slots ≡ 0) ⊎ (4096 < s.slots) → HasFaultyProgram bytes 0 Length
bad_length bytes s program frames out = record {
  header = with_shapes s frames.shapes;
  program = program;
  framed = frames.framed;
  faulty = (
    refl,
    subst (λ (n : ℕ). ((n % 8 == 0) && (nat_le 1 n && nat_le n 32768)) ≡ false) (sym frames.framed.whole)
        (no_length s.slots out),
  );
}

-- ---- images

-- with shapes that have the same bytes, a header has the same bytes
same_header : (s : Spelled) (shapes others : List MapShape) → shapes_bytes shapes ≡ shapes_bytes others
    → header_bytes (with_shapes s shapes) ≡ header_bytes (with_shapes s others)
same_header s shapes others same =
    let count : length shapes ≡ length others = omega (arith, length-shapes_bytes shapes, length-shapes_bytes others, ap length same) in
    ap (λ (n : ℕ). image_opening s.version s.hook n ++ (shapes_bytes shapes ++ to_le_bytes w32 s.slots)) count
    ∙ ap (λ (x : List ℕ). image_opening s.version s.hook (length others) ++ (x ++ to_le_bytes w32 s.slots)) same

-- a header and its program of 1 to 4096 slots are an image of any shapes that have the header's bytes
pub is_image : (bytes : List ℕ) (s : Spelled) (program : List ℕ) (shapes : List MapShape)
    → HasParts bytes s program → s.shapes ≡ shapes_bytes shapes
    → IsImage bytes s.version s.hook shapes program
is_image bytes s program shapes parts is =
    let frames = parts.frames in
    let same : shapes_bytes frames.shapes ≡ shapes_bytes shapes = sym frames.shapes_are ∙ is in
    record {
      slots = s.slots;
      some = parts.some;
      most = parts.most;
      framed = record {
        header = record {
          few = omega (arith, frames.framed.header.few, length-shapes_bytes frames.shapes, length-shapes_bytes shapes, ap length same);
          slots = frames.framed.header.slots;
        };
        whole = frames.framed.whole;
        bytes_are = frames.framed.bytes_are ∙ ap (λ (x : List ℕ). x ++ program) (same_header s frames.shapes shapes same);
      };
    }

-- a header and its program of 1 to 4096 slots are some image
pub has_image : (bytes : List ℕ) (s : Spelled) (program : List ℕ) → HasParts bytes s program → HasImage bytes
has_image bytes s program parts = record {
  version = s.version;
  hook = s.hook;
  shapes = parts.frames.shapes;
  program = program;
  image = is_image bytes s program parts.frames.shapes parts parts.frames.shapes_are;
}
