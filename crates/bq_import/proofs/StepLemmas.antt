-- What an instruction does depends on its slot only in where it goes on: at another slot, in a setting with another program,
-- it does the same and goes on as far.
use Rattle.std.proofs.Common.{◌≡◌, ℕ, ◌+◌, List, Option, Some, None, length, refl, ap, ◌∙◌, inl, inr, ℤ}
use Rattle.bq_insn.specs.declared.Insn.{Insn}
use Rattle.bq_insn.specs.declared.Insn.TheVariants.{Alu, MovSx, Neg, End, Load, StoreImm, StoreReg, Imm64, MapRef, Goto, Goto32, Branch, Call, Exit}
use Rattle.bq_insn.specs.Slots.{slots_of}
use Rattle.bq_bpf.specs.declared.shape.MapShape.{MapShape}
use Rattle.bq_bpf.specs.declared.board.CounterCall.{CounterCall}
use Rattle.bq_bpf.specs.declared.board.CounterCall.TheVariants.{Add, Read}
use Rattle.bq_bpf.specs.Memory.{Setting, State, Region, InContext, InStack, InEntry, IsGood, Reads, Writes, written}
use Rattle.bq_bpf.specs.Steps.{Does, Helps, NamesEntry, Takes}
use Rattle.bq_bpf.specs.Instructions.{distance_of}
use Rattle.bq_verify.proofs.KnownLemmas.{write_keeps_slot}
use Rattle.bq_import.specs.Laws.{with_program}

-- the state at another slot
abbrev pub moved : State → ℕ → State
moved s slot = record s { slot = slot }

module _ (f : Setting) (slots : List (Option Insn)) (k : ℕ) where
  -- an access or a read that is good stays so in a setting with another program, at whatever slot:
  good_beside : (address count : ℕ) (r : Region) (o : ℕ) → IsGood f address count r o → IsGood (with_program f slots) address count r o
  good_beside address count InContext o p =
      record { base = p.base; size = p.size; spans = p.spans; address_is = p.address_is; inside = p.inside }
  good_beside address count InStack o p =
      record { base = p.base; size = p.size; spans = p.spans; address_is = p.address_is; inside = p.inside }
  good_beside address count (InEntry m first) o p =
      record { base = p.base; size = p.size; spans = p.spans; address_is = p.address_is; inside = p.inside }

  reads_moved : (s : State) (address : ℕ) (bytes : List ℕ) → Reads f s address bytes → Reads (with_program f slots) (moved s k) address bytes
  reads_moved s address bytes p = record {
    region = p.region;
    offset = p.offset;
    good = good_beside address (length bytes) p.region p.offset p.good;
    set = p.set;
  }

  -- a write is the same at another slot, by cases:
  written_moved : (s : State) (r : Region) (o : ℕ) (bytes : List ℕ) → moved (written s r o bytes) k ≡ written (moved s k) r o bytes
  written_moved s InContext o bytes = refl
  written_moved s InStack o bytes = refl
  written_moved s (InEntry m first) o bytes = refl

  writes_moved : (s : State) (address : ℕ) (bytes : List ℕ) (t : State)
      → Writes f s address bytes t → Writes (with_program f slots) (moved s k) address bytes (moved t k)
  writes_moved s address bytes t p = record {
    region = p.region;
    offset = p.offset;
    writable = p.writable;
    good = good_beside address (length bytes) p.region p.offset p.good;
    after = ap (λ (u : State). moved u k) p.after ∙ written_moved s p.region p.offset bytes;
  }

  -- what names a map's entry still does, and a helper does the same, at another slot in a setting with another program:
  names_moved : (s : State) (m : ℕ) (shape : MapShape) (n : ℕ)
      → NamesEntry f s m shape n → NamesEntry (with_program f slots) (moved s k) m shape n
  names_moved s m shape n p = record {
    known = p.known;
    reference_is = p.reference_is;
    address = p.address;
    address_is = p.address_is;
    bytes = p.bytes;
    four = p.four;
    reads = reads_moved s p.address p.bytes p.reads;
    number_is = p.number_is;
  }

  helps_moved : (helper : ℤ) (s t : State) → Helps f helper s t
      → Helps (with_program f slots) helper (moved s k) (moved t (k + 1)) × (t.slot ≡ s.slot + 1)
  helps_moved helper s t (inl (one, (m, shape, n, entry, e))) =
      (inl (one, (m, shape, n, names_moved s m shape n entry, ap (λ (v : State). moved v (k + 1)) e)), ap (λ (v : State). v.slot) e)
  helps_moved helper s t (inr (inl (two, (m, shape, n, from, value, entry, is, long, reads, none, inl (there, u, writes, e))))) = (
    inr (inl (
      two,
      (
        m,
        shape,
        n,
        from,
        value,
        names_moved s m shape n entry,
        is,
        long,
        reads_moved s from value reads,
        none,
        inl (there, moved u k, writes_moved s _ value u writes, ap (λ (v : State). moved v (k + 1)) e),
      ),
    )),
    ap (λ (v : State). v.slot) e ∙ ap (λ (n : ℕ). n + 1) (write_keeps_slot f s u _ value writes),
  )
  helps_moved helper s t (inr (inl (two, (m, shape, n, from, value, entry, is, long, reads, none, inr (past, e))))) = (
    inr (inl (
      two,
      (
        m,
        shape,
        n,
        from,
        value,
        names_moved s m shape n entry,
        is,
        long,
        reads_moved s from value reads,
        none,
        inr (past, ap (λ (v : State). moved v (k + 1)) e),
      ),
    )),
    ap (λ (v : State). v.slot) e,
  )
  helps_moved helper s t (inr (inr (inl (five, e)))) =
      (inr (inr (inl (five, ap (λ (v : State). moved v (k + 1)) e))), ap (λ (v : State). v.slot) e)
  helps_moved helper s t (inr (inr (inr (eight, e)))) =
      (inr (inr (inr (eight, ap (λ (v : State). moved v (k + 1)) e))), ap (λ (v : State). v.slot) e)

  some_none : (z : ℤ) → Some z ≡ None → ⊥
  some_none z e = cc

  -- what an instruction that does not jump does
  pub does_moved : (insn : Insn) (s t : State) → distance_of insn ≡ None → Does f insn s t
      → Does (with_program f slots) insn (moved s k) (moved t (k + slots_of insn)) × (t.slot ≡ s.slot + slots_of insn)
  does_moved (Alu w op dst src) s t d (a, b, left, operand, target, e) =
      ((a, b, left, operand, target, ap (λ (v : State). moved v (k + 1)) e), ap (λ (v : State). v.slot) e)
  does_moved (MovSx w bits dst src) s t d (a, is, target, e) =
      ((a, is, target, ap (λ (v : State). moved v (k + 1)) e), ap (λ (v : State). v.slot) e)
  does_moved (Neg w dst) s t d (a, is, target, e) = ((a, is, target, ap (λ (v : State). moved v (k + 1)) e), ap (λ (v : State). v.slot) e)
  does_moved (End kind bits dst) s t d (a, is, target, e) =
      ((a, is, target, ap (λ (v : State). moved v (k + 1)) e), ap (λ (v : State). v.slot) e)
  does_moved (Load size signed dst src off) s t d (a, bytes, is, long, reads, target, e) =
      ((a, bytes, is, long, reads_moved s _ bytes reads, target, ap (λ (v : State). moved v (k + 1)) e), ap (λ (v : State). v.slot) e)
  does_moved (StoreImm size dst off imm) s t d (a, u, is, writes, e) = (
    (a, moved u k, is, writes_moved s _ _ u writes, ap (λ (v : State). moved v (k + 1)) e),
    ap (λ (v : State). v.slot) e ∙ ap (λ (n : ℕ). n + 1) (write_keeps_slot f s u _ _ writes),
  )
  does_moved (StoreReg size dst off src) s t d (a, v, u, is, from, writes, e) = (
    (a, v, moved u k, is, from, writes_moved s _ _ u writes, ap (λ (v : State). moved v (k + 1)) e),
    ap (λ (v : State). v.slot) e ∙ ap (λ (n : ℕ). n + 1) (write_keeps_slot f s u _ _ writes),
  )
  does_moved (Imm64 dst value) s t d (target, e) = ((target, ap (λ (v : State). moved v (k + 2)) e), ap (λ (v : State). v.slot) e)
  does_moved (MapRef dst index) s t d (m, is, there, target, e) =
      ((m, is, there, target, ap (λ (v : State). moved v (k + 2)) e), ap (λ (v : State). v.slot) e)
  does_moved (Goto off) s t d p = absurd (some_none off d)
  does_moved (Goto32 imm) s t d p = absurd (some_none imm d)
  does_moved (Branch w c dst src off) s t d p = absurd (some_none off d)
  does_moved (Call helper) s t d p = helps_moved helper s t p
  does_moved Exit s t d p = absurd p

  -- an instruction that asks a counter asks the same at another slot, and goes on as far
  asks_moved : (insn : Insn) (s : State) (c : CounterCall) (t : State)
      → Takes f insn s (Some c) t
      → Takes (with_program f slots) insn (moved s k) (Some c) (moved t (k + slots_of insn)) × (t.slot ≡ s.slot + slots_of insn)
  asks_moved (Call helper) s (Add i d x) t (asks, fits, e) =
      ((asks, fits, ap (λ (v : State). moved v (k + 1)) e), ap (λ (v : State). v.slot) e)
  asks_moved (Call helper) s (Read i x) t (asks, fits, e) =
      ((asks, fits, ap (λ (v : State). moved v (k + 1)) e), ap (λ (v : State). v.slot) e)
  asks_moved (Alu w op dst src) s c t (asks, fits, e) = absurd asks
  asks_moved (MovSx w bits dst src) s c t (asks, fits, e) = absurd asks
  asks_moved (Neg w dst) s c t (asks, fits, e) = absurd asks
  asks_moved (End kind bits dst) s c t (asks, fits, e) = absurd asks
  asks_moved (Load size signed dst src off) s c t (asks, fits, e) = absurd asks
  asks_moved (StoreImm size dst off imm) s c t (asks, fits, e) = absurd asks
  asks_moved (StoreReg size dst off src) s c t (asks, fits, e) = absurd asks
  asks_moved (Imm64 dst value) s c t (asks, fits, e) = absurd asks
  asks_moved (MapRef dst index) s c t (asks, fits, e) = absurd asks
  asks_moved (Goto off) s c t (asks, fits, e) = absurd asks
  asks_moved (Goto32 imm) s c t (asks, fits, e) = absurd asks
  asks_moved (Branch w cond dst src off) s c t (asks, fits, e) = absurd asks
  asks_moved Exit s c t (asks, fits, e) = absurd asks

  -- what an instruction that does not jump does, with calls of counters
  pub takes_moved : (insn : Insn) (s : State) (c : Option CounterCall) (t : State)
      → distance_of insn ≡ None → Takes f insn s c t
      → Takes (with_program f slots) insn (moved s k) c (moved t (k + slots_of insn)) × (t.slot ≡ s.slot + slots_of insn)
  takes_moved insn s None t d p = does_moved insn s t d p
  takes_moved insn s (Some c) t d p = asks_moved insn s c t p
