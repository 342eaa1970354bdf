-- Each instruction has one spelling, and none begins another.
use Rattle.std.proofs.lemmas.Int.{ints}
use Rattle.bq_insn.specs.declared.Operation.{Operation}
use Rattle.bq_insn.specs.declared.Operation.TheVariants as op
use Rattle.bq_insn.specs.declared.Bits.{Bits}
use Rattle.bq_insn.specs.declared.Bits.TheVariants.{B8}
use Rattle.std.proofs.Common.{◌≡◌, ℕ, length, ◌+◌, ◌*◌, ◌^◌, ◌<◌, ◌≤◌, true, refl, sym, ap, ◌∙◌, List, [], ◌∷◌, ◌++◌, ℤ, arith, drop}
use Rattle.std.specs.Prelude.{Option, Some, None, FitsSigned}
use Rattle.std.specs.List.{flat_map, list_all}
use Rattle.std.specs.Int.{w16, w32, to_le_bytes, from_le_bytes}
use Rattle.std.proofs.lemmas.Nat.{from_le_bytes-to_le_bytes_2, from_le_bytes-to_le_bytes_4}
use Rattle.bq_insn.specs.declared.Source.TheVariants.{Imm, Reg}
use Rattle.bq_insn.specs.declared.Insn.{Insn}
use Rattle.bq_insn.specs.declared.Insn.TheVariants as insn
use Rattle.bq_insn.specs.declared.slot.Slot.{Slot}
use Rattle.bq_insn.specs.Spelling.{slot_bytes, spelled, is_insn, insn_bytes, word16, word32, variant_of, bits_number, spelling}
use Rattle.std.proofs.lemmas.List.{drop_at}
use Rattle.std.proofs.lemmas.Bool.{and_parts}
use Rattle.bq_insn.specs.Laws.{Fits, OneSpelling, OneProgram}
use Rattle.bq_insn.proofs.FaultLemmas.{same_slot}
use Rattle.bq_insn.proofs.EncodeLemmas.{FitRegisters, registers_fit}
use Rattle.bq_insn.proofs.SpelledSlotsLemmas.{read, head_of, after, spelled_reads_back}
use Rattle.bq_insn.proofs.OptionLemmas.{some_same}

-- offsets and immediates of these slots fit their fields
abbrev pub FitNumbers : List Slot → Type 0
FitNumbers [] = Unit {0}
FitNumbers (s ∷ rest) = (s.offset < 2 ^ 16) × (s.imm < 2 ^ 32) × FitNumbers rest

-- slots in front of equal bytes are equal, and so is what follows them
pub same_front : (s t : Slot) (x y : List ℕ) → s.dst < 16 → t.dst < 16 → s.offset < 2 ^ 16 → t.offset < 2 ^ 16
    → s.imm < 2 ^ 32 → t.imm < 2 ^ 32 → slot_bytes s ++ x ≡ slot_bytes t ++ y
    → (s ≡ t) × (x ≡ y)
same_front s t x y sd td so to si ti h =
    let opcode : s.opcode ≡ t.opcode = cc in
    let registers : s.dst + 16 * s.src ≡ t.dst + 16 * t.src = cc in
    let offsets : to_le_bytes w16 s.offset ≡ to_le_bytes w16 t.offset = cc in
    let imms : to_le_bytes w32 s.imm ≡ to_le_bytes w32 t.imm = cc in
    let rest : x ≡ y = cc in
    let dst : s.dst ≡ t.dst = omega (arith, registers) in
    let src : s.src ≡ t.src = omega (arith, registers) in
    let offset : s.offset ≡ t.offset =
    sym (from_le_bytes-to_le_bytes_2 s.offset so) ∙ ap (from_le_bytes w16) offsets
    ∙ from_le_bytes-to_le_bytes_2 t.offset to in
    let imm : s.imm ≡ t.imm =
    sym (from_le_bytes-to_le_bytes_4 s.imm si) ∙ ap (from_le_bytes w32) imms ∙ from_le_bytes-to_le_bytes_4 t.imm ti in
    (same_slot t s.opcode s.dst s.src s.offset s.imm opcode dst src offset imm, rest)

-- an offset fits its field
fit16 : (z : ℤ) → FitsSigned w16 z → word16 z < 2 ^ 16
fit16 z h = omega (arith, ints)

-- an immediate fits its field
fit32 : (z : ℤ) → FitsSigned w32 z → word32 z < 2 ^ 32
fit32 z h = omega (arith, ints)

-- a small number fits both fields
small : (n : ℕ) → n ≤ 64 → (n < 2 ^ 16) × (n < 2 ^ 32)
small n h = (omega arith, omega arith)

-- a slot with neither
zeros : (0 < 2 ^ 16) × (0 < 2 ^ 32) × Unit {0}
zeros = (omega arith, omega arith, tt)

-- a slot with an offset
offset_fits : (z : ℤ) → FitsSigned w16 z → (word16 z < 2 ^ 16) × (0 < 2 ^ 32) × Unit {0}
offset_fits z h = (fit16 z h, omega arith, tt)

-- a slot with an immediate
imm_fits : (z : ℤ) → FitsSigned w32 z → (0 < 2 ^ 16) × (word32 z < 2 ^ 32) × Unit {0}
imm_fits z h = (omega arith, fit32 z h, tt)

-- a variant's offset is small
variant_small : (o : Operation) → variant_of o ≤ 64
variant_small o = elim o as (λ x. variant_of x ≤ 64) [ op.Add ↦ omega arith | _ ↦ omega arith ]

-- a number of bits is small
bits_small : (b : Bits) → bits_number b ≤ 64
bits_small b = elim b as (λ x. bits_number x ≤ 64) [ B8 ↦ omega arith | _ ↦ omega arith ]

-- the numbers of an instruction fit the fields of its slots
numbers_fit : (i : Insn) → Fits i → FitNumbers (spelled i)
numbers_fit (insn.Alu w o d (Imm n)) fits = ((small (variant_of o) (variant_small o)).0, fit32 n fits, tt)
numbers_fit (insn.Alu w o d (Reg s)) fits = ((small (variant_of o) (variant_small o)).0, omega arith, tt)
numbers_fit (insn.MovSx w b d s) fits = ((small (bits_number b) (bits_small b)).0, omega arith, tt)
numbers_fit (insn.Neg w d) fits = zeros
numbers_fit (insn.End order b d) fits = (omega arith, (small (bits_number b) (bits_small b)).1, tt)
numbers_fit (insn.Load size signed d s off) fits = offset_fits off fits
numbers_fit (insn.StoreImm size d off n) fits = (fit16 off fits.0, fit32 n fits.1, tt)
numbers_fit (insn.StoreReg size d off s) fits = offset_fits off fits
numbers_fit (insn.Imm64 d v) fits = (omega arith, omega arith, (omega arith, omega arith, tt))
numbers_fit (insn.MapRef d n) fits = (omega arith, fit32 n fits, zeros)
numbers_fit (insn.Goto off) fits = offset_fits off fits
numbers_fit (insn.Goto32 n) fits = imm_fits n fits
numbers_fit (insn.Branch w c d (Imm n) off) fits = (fit16 off fits.1, fit32 n fits.0, tt)
numbers_fit (insn.Branch w c d (Reg s) off) fits = offset_fits off fits.1
numbers_fit (insn.Call n) fits = imm_fits n fits
numbers_fit insn.Exit fits = zeros

-- a list of slots that is read as an instruction, whatever follows it
pub record IsRead (slots : List Slot) (i : Insn) : Type 0 where
  pub some : 1 ≤ length slots
  pub registers : FitRegisters slots
  pub numbers : FitNumbers slots
  pub read_as : (next : Option Slot) → read (head_of slots) (after slots next) ≡ Some i

-- equal slots are read as one instruction
same_read : (s t : Slot) (next : Option Slot) (a b : Insn) → s ≡ t → read s next ≡ Some a → read t next ≡ Some b → a ≡ b
same_read s t next a b e h k = some_same (read t next) a b (sym (ap (λ (u : Slot). read u next) e) ∙ h) k

-- lists of slots in front of equal bytes are read as one instruction
unique : (la lb : List Slot) (a b : Insn) (x y : List ℕ) → IsRead la a → IsRead lb b
    → flat_map slot_bytes la ++ x ≡ flat_map slot_bytes lb ++ y
    → a ≡ b
unique [] lb a b x y h k e = absurd (let none = h.some in omega arith)
unique (s ∷ la) [] a b x y h k e = absurd (let none = k.some in omega arith)
unique (s ∷ []) (t ∷ []) a b x y h k e =
    let front = same_front s t x y h.registers.0 k.registers.0 h.numbers.0 k.numbers.0 h.numbers.1 k.numbers.1 e in
    same_read s t None a b front.0 (h.read_as None) (k.read_as None)
unique (s ∷ []) (t ∷ u ∷ lb) a b x y h k e =
    let front =
    same_front s t x (flat_map slot_bytes (u ∷ lb) ++ y) h.registers.0 k.registers.0 h.numbers.0
    k.numbers.0 h.numbers.1 k.numbers.1 e in
    same_read s t (Some u) a b front.0 (h.read_as (Some u)) (k.read_as None)
unique (s ∷ u ∷ la) (t ∷ []) a b x y h k e =
    let front =
    same_front s t (flat_map slot_bytes (u ∷ la) ++ x) y h.registers.0 k.registers.0 h.numbers.0
    k.numbers.0 h.numbers.1 k.numbers.1 e in
    same_read s t (Some u) a b front.0 (h.read_as None) (k.read_as (Some u))
unique (s ∷ u ∷ la) (t ∷ v ∷ lb) a b x y h k e =
    let front =
    same_front s t (flat_map slot_bytes (u ∷ la) ++ x) (flat_map slot_bytes (v ∷ lb) ++ y) h.registers.0 k.registers.0
    h.numbers.0 k.numbers.0 h.numbers.1 k.numbers.1 e in
    let hr = h.registers.2 in
    let kr = k.registers.2 in
    let hn = h.numbers.2 in
    let kn = k.numbers.2 in
    let second = same_front u v (flat_map slot_bytes la ++ x) (flat_map slot_bytes lb ++ y) hr.0 kr.0 hn.0 kn.0 hn.1 kn.1 front.1 in
    same_read s t (Some v) a b front.0 (ap (λ (w : Slot). read s (Some w)) (sym second.0) ∙ h.read_as None) (k.read_as None)

-- the slots of an instruction in range are read as that instruction
pub is_read : (i : Insn) → is_insn i ≡ true → Fits i → IsRead (spelled i) i
is_read i h fits = record {
  some = some_slot i;
  registers = registers_fit i h;
  numbers = numbers_fit i fits;
  read_as = spelled_reads_back i h fits;
}
  where
    some_slot : (j : Insn) → 1 ≤ length (spelled j)
    some_slot (insn.Alu w o d (Imm n)) = omega arith
    some_slot (insn.Alu w o d (Reg s)) = omega arith
    some_slot (insn.Branch w c d (Imm n) off) = omega arith
    some_slot (insn.Branch w c d (Reg s) off) = omega arith
    some_slot j = omega arith

-- no instruction's bytes begin another's
pub one_spelling : OneSpelling
one_spelling a b x y ha hb fa fb e = unique (spelled a) (spelled b) a b x y (is_read a ha fa) (is_read b hb fb) e

-- slots have bytes
not_empty : (slots : List Slot) (rest : List ℕ) → 1 ≤ length slots → [] ≡ flat_map slot_bytes slots ++ rest → ⊥
not_empty [] rest some e = omega arith
not_empty (s ∷ slots) rest some e = cc

-- an instruction has at least one byte
pub some_bytes : (i : Insn) (rest : List ℕ) → is_insn i ≡ true → Fits i → [] ≡ insn_bytes i ++ rest → ⊥
some_bytes i rest h fits e = let read = is_read i h fits in not_empty (spelled i) rest read.some e

-- equal beginnings are taken away
pub front_cancelled : (front x y : List ℕ) → front ++ x ≡ front ++ y → x ≡ y
front_cancelled front x y e = sym (drop_at front x (length front) refl) ∙ ap (drop (length front)) e ∙ drop_at front y (length front) refl

-- two programs with the same bytes are the same, instruction by instruction
pub one_program : OneProgram
one_program [] [] ha hb fa fb e = refl
one_program [] (b ∷ bs) ha hb fa fb e = absurd (some_bytes b (spelling bs) (and_parts (is_insn b) (list_all is_insn bs) hb).0 fb.0 e)
one_program (a ∷ more) [] ha hb fa fb e =
    absurd (some_bytes a (spelling more) (and_parts (is_insn a) (list_all is_insn more) ha).0 fa.0 (sym e))
one_program (a ∷ more) (b ∷ bs) ha hb fa fb e =
    let pa = and_parts (is_insn a) (list_all is_insn more) ha in
    let pb = and_parts (is_insn b) (list_all is_insn bs) hb in
    let same = one_spelling a b (spelling more) (spelling bs) pa.0 pb.0 fa.0 fb.0 e in
    let rest =
    front_cancelled (insn_bytes b) (spelling more) (spelling bs)
    (ap (λ (i : Insn). insn_bytes i ++ spelling more) (sym same) ∙ e) in
    ap (λ (i : Insn). i ∷ more) same ∙ ap (λ (l : List Insn). b ∷ l) (one_program more bs pa.1 pb.1 fa.1 fb.1 rest)
