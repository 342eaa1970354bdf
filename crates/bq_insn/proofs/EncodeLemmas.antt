-- Lists of instructions, one after another.
use Rattle.std.proofs.Common.{◌≡◌, ℕ, suc, ◌+◌, ◌<◌, true, false, ap, sym, ◌∙◌, List, [], ◌∷◌, ◌++◌, length, take, drop, get_or, drop-cons, append-nil, append_assoc, subst, arith}
use Rattle.std.specs.Prelude.{◌&&◌, Option, Result, Ok, Err, OnErr}
use Rattle.std.specs.List.{list_all, flat_map}
use Rattle.std.specs.Option.{option_to_list}
use Rattle.std.proofs.Math.Seq.{take-suc}
use Rattle.std.proofs.lemmas.List.Concat.{flat_map-append}
use Rattle.std.proofs.lemmas.Bool.Decides.{nat_tests}
use Rattle.std.proofs.lemmas.Bool.{and_parts, false≢true}
use Rattle.bq_insn.specs.declared.Insn.{Insn}
use Rattle.bq_insn.specs.declared.Insn.TheVariants as insn
use Rattle.bq_insn.specs.declared.Source.TheVariants.{Imm, Reg}
use Rattle.bq_insn.specs.declared.Width.TheVariants.{W32, W64}
use Rattle.bq_insn.specs.declared.Size.TheVariants.{Byte, Half, Word, Double}
use Rattle.bq_insn.specs.declared.Bits.TheVariants.{B8, B16, B32, B64}
use Rattle.bq_insn.specs.declared.slot.Slot.{Slot}
use Rattle.bq_insn.specs.Appending.{StartsWith}
use Rattle.bq_insn.specs.Spelling.{AreSlots, slot_bytes, spelled, spelling, insn_bytes, is_insn, is_register}

-- the registers of these slots fit their fields
abbrev pub FitRegisters : List Slot → Type 0
FitRegisters [] = Unit {0}
FitRegisters (s ∷ rest) = (s.dst < 16) × (s.src < 16) × FitRegisters rest

-- a register fits its field
register_fits : (r : ℕ) → is_register r ≡ true → r < 16
register_fits r h = grind (arith, nat_tests)

-- a slot with one register
one_fits : (d : ℕ) → is_register d ≡ true → (d < 16) × (0 < 16) × Unit {0}
one_fits d h = (register_fits d h, omega arith, tt)

-- a slot with two registers
both_fit : (d r : ℕ) → (is_register d && is_register r) ≡ true → (d < 16) × (r < 16) × Unit {0}
both_fit d r h =
    let parts = and_parts (is_register d) (is_register r) h in
    (register_fits d parts.0, register_fits r parts.1, tt)

-- a slot with none
none_fit : (0 < 16) × (0 < 16) × Unit {0}
none_fit = (omega arith, omega arith, tt)

-- the registers of an instruction in range fit their fields
pub registers_fit : (i : Insn) → is_insn i ≡ true → FitRegisters (spelled i)
registers_fit (insn.Alu w o d (Imm n)) h = one_fits d (and_parts (is_register d) true h).0
registers_fit (insn.Alu w o d (Reg s)) h = both_fit d s h
registers_fit (insn.MovSx w B8 d s) h = both_fit d s h
registers_fit (insn.MovSx w B16 d s) h = both_fit d s h
registers_fit (insn.MovSx W64 B32 d s) h = both_fit d s h
registers_fit (insn.MovSx W32 B32 d s) h = absurd (false≢true h)
registers_fit (insn.MovSx W32 B64 d s) h = absurd (false≢true h)
registers_fit (insn.MovSx W64 B64 d s) h = absurd (false≢true h)
registers_fit (insn.Neg w d) h = one_fits d h
registers_fit (insn.End order B8 d) h = absurd (false≢true h)
registers_fit (insn.End order B16 d) h = one_fits d h
registers_fit (insn.End order B32 d) h = one_fits d h
registers_fit (insn.End order B64 d) h = one_fits d h
registers_fit (insn.Load Double true d s off) h = absurd (false≢true h)
registers_fit (insn.Load Double false d s off) h = both_fit d s h
registers_fit (insn.Load Byte signed d s off) h = both_fit d s h
registers_fit (insn.Load Half signed d s off) h = both_fit d s h
registers_fit (insn.Load Word signed d s off) h = both_fit d s h
registers_fit (insn.StoreImm size d off n) h = one_fits d h
registers_fit (insn.StoreReg size d off s) h = both_fit d s h
registers_fit (insn.Imm64 d v) h = (register_fits d h, omega arith, none_fit)
registers_fit (insn.MapRef d n) h = (register_fits d h, omega arith, none_fit)
registers_fit (insn.Goto off) h = none_fit
registers_fit (insn.Goto32 n) h = none_fit
registers_fit (insn.Branch w c d (Imm n) off) h = one_fits d (and_parts (is_register d) true h).0
registers_fit (insn.Branch w c d (Reg s) off) h = both_fit d s h
registers_fit (insn.Call n) h = none_fit
registers_fit insn.Exit h = none_fit

-- what stays in front of a beginning stays in front of the whole
pub starts_more : (old middle new : List ℕ) → StartsWith old middle → StartsWith middle new → StartsWith old new
starts_more old middle new a b =
    (a.0 ++ b.0, b.1 ∙ ap (λ (x : List ℕ). x ++ b.0) a.1 ∙ append_assoc old a.0 b.0)

-- what holds anyway holds on an error
pub on_err : {A B P : Type 0} (r : Result A B) → P → OnErr r P
on_err (Ok x) h = tt
on_err (Err e) h = h

-- the instruction at a place is in range, where all from it on are
pub ranged_here : (insns : List Insn) (i : ℕ) (d : Insn) → i < length insns → list_all is_insn (drop i insns) ≡ true
    → is_insn (get_or insns i d) ≡ true
ranged_here insns i d h all =
    (and_parts (is_insn (get_or insns i d)) (list_all is_insn (drop (suc i) insns))
    (ap (list_all is_insn) (sym (drop-cons insns i d h)) ∙ all)).0

-- the instructions after a place are in range, where all from it on are
pub ranged_after : (insns : List Insn) (i : ℕ) → i < length insns → list_all is_insn (drop i insns) ≡ true
    → list_all is_insn (drop (i + 1) insns) ≡ true
ranged_after insns i h all =
    let next : i + 1 ≡ suc i = omega arith in
    ap (λ n. list_all is_insn (drop n insns)) next
    ∙ (and_parts (is_insn (get_or insns i insn.Exit)) (list_all is_insn (drop (suc i) insns))
    (ap (list_all is_insn) (sym (drop-cons insns i insn.Exit h)) ∙ all)).1

-- the bytes of the instruction at a place follow those of the instructions before it
pub spelled_more : (old out new : List ℕ) (insns : List Insn) (i : ℕ) (d : Insn)
    → i < length insns → out ≡ old ++ spelling (take i insns) → new ≡ out ++ insn_bytes (get_or insns i d)
    → new ≡ old ++ spelling (take (i + 1) insns)
spelled_more old out new insns i d h so_far added =
    let next : suc i ≡ i + 1 = omega arith in
    let bytes = insn_bytes (get_or insns i d) in
    added ∙ ap (λ bs. bs ++ bytes) so_far ∙ append_assoc old (spelling (take i insns)) bytes
    ∙ ap (λ bs. old ++ bs) (ap (λ bs. spelling (take i insns) ++ bs) (sym (append-nil bytes))
    ∙ sym (flat_map-append insn_bytes (take i insns) (get_or insns i d ∷ [])))
    ∙ ap (λ is. old ++ spelling is) (sym (take-suc insns i d h) ∙ ap (λ n. take n insns) next)

-- the slots of an instruction in range have registers that fit their fields
pub slots_fit : (i : Insn) (pair : Slot × Option Slot) → is_insn i ≡ true → AreSlots pair (spelled i)
    → FitRegisters (pair.0 ∷ option_to_list pair.1)
slots_fit i pair h same = subst FitRegisters same (registers_fit i h)

-- an instruction of one slot, appended
pub one_appended : (old new : List ℕ) (i : Insn) (a : Slot) → new ≡ old ++ slot_bytes a → spelled i ≡ a ∷ [] → new ≡ old ++ insn_bytes i
one_appended old new i a first same =
    first ∙ ap (λ bs. old ++ bs) (sym (append-nil (slot_bytes a))) ∙ ap (λ slots. old ++ flat_map slot_bytes slots) (sym same)

-- an instruction of two slots, appended one after the other
pub two_appended : (old middle new : List ℕ) (i : Insn) (a b : Slot)
    → middle ≡ old ++ slot_bytes a → new ≡ middle ++ slot_bytes b → spelled i ≡ a ∷ b ∷ []
    → new ≡ old ++ insn_bytes i
two_appended old middle new i a b first second same =
    second ∙ ap (λ bs. bs ++ slot_bytes b) first ∙ append_assoc old (slot_bytes a) (slot_bytes b)
    ∙ ap (λ bs. old ++ (slot_bytes a ++ bs)) (sym (append-nil (slot_bytes b))) ∙ ap (λ slots. old ++ flat_map slot_bytes slots) (sym same)
