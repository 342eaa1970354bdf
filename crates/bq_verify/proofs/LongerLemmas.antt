-- A step on the first bytes of a context is a step on the whole context, and in a safe program each step is one.
use Rattle.std.proofs.Common.{◌≡◌, ℕ, zero, suc, ◌+◌, ◌^◌, ◌<◌, ◌≤◌, List, [], ◌∷◌, Option, Some, None, length, take, refl, arith, sym, ap, ◌∙◌, subst, ◌⊎◌, inl, inr, ℤ, length-take}
use Rattle.std.proofs.lemmas.Option.{same_Some, none-some}
use Rattle.std.specs.Prelude.{slice_get}
use Rattle.bq_insn.specs.declared.Insn.{Insn}
use Rattle.bq_insn.specs.declared.Insn.TheVariants.{Alu, MovSx, Neg, End, Load, StoreImm, StoreReg, Imm64, MapRef, Goto, Goto32, Branch, Call, Exit}
use Rattle.bq_bpf.specs.declared.shape.MapShape.{MapShape}
use Rattle.bq_bpf.specs.declared.board.CounterCall.{CounterCall}
use Rattle.bq_bpf.specs.Counters.{answer_of}
use Rattle.bq_bpf.specs.Memory.{Setting, State, Region, InContext, InStack, InEntry, IsGood, Reads, Writes, byte_at}
use Rattle.bq_bpf.specs.Steps.{Does, Helps, NamesEntry, Takes, Step}
use Rattle.bq_bpf.specs.Runs.{Ends, Steps, start}
use Rattle.bq_bpf.specs.Safe.{GoesOn, GoesWell, IsSetting}
use Rattle.bq_verify.specs.Laws.{shortened, SafeOnLonger, RunsOnLonger}
use Rattle.bq_verify.proofs.OneStepLemmas.{one_step, no_step}

-- a byte among the first n bytes of a list is the byte at the same index of the whole list
taken_get : (n : ℕ) (xs : List ℕ) (i b : ℕ) → slice_get (take n xs) i ≡ Some b → slice_get xs i ≡ Some b
taken_get zero xs i b p = absurd (let no : ⊥ = cc in no)
taken_get (suc n) [] i b p = p
taken_get (suc n) (x ∷ xs) zero b p = p
taken_get (suc n) (x ∷ xs) (suc i) b p = taken_get n xs i b p

-- a setting, and the same setting with only the first n bytes of its context
module _ (f : Setting) (n : ℕ) where
  -- a byte of the memory is the same with the whole context
  byte_longer : (s : State) (r : Region) (i b : ℕ) → byte_at (shortened f n) s r i ≡ Some b → byte_at f s r i ≡ Some b
  byte_longer s InContext i b p = taken_get n f.context i b p
  byte_longer s InStack i b p = p
  byte_longer s (InEntry m first) i b p = p

  -- an address that is good with the shorter context is good with the whole context
  good_longer : (address count : ℕ) (r : Region) (o : ℕ) → IsGood (shortened f n) address count r o → IsGood f address count r o
  good_longer address count InContext o p =
      let least = length-take n f.context in
      record {
        base = p.base;
        size = length f.context;
        spans = (p.spans.0, refl);
        address_is = p.address_is;
        inside = omega (arith, p.inside, p.spans.1, least);
      }
  good_longer address count InStack o p =
      record { base = p.base; size = p.size; spans = p.spans; address_is = p.address_is; inside = p.inside }
  good_longer address count (InEntry m first) o p =
      record { base = p.base; size = p.size; spans = p.spans; address_is = p.address_is; inside = p.inside }

  -- a read, a write, a helper call or a step that the shorter context permits, the whole context permits too
  reads_longer : (s : State) (address : ℕ) (bytes : List ℕ) → Reads (shortened f n) s address bytes → Reads f s address bytes
  reads_longer s address bytes p = record {
    region = p.region;
    offset = p.offset;
    good = good_longer address (length bytes) p.region p.offset p.good;
    set = λ i lt. byte_longer s p.region (p.offset + i) _ (p.set i lt);
  }

  writes_longer : (s : State) (address : ℕ) (bytes : List ℕ) (t : State)
      → Writes (shortened f n) s address bytes t → Writes f s address bytes t
  writes_longer s address bytes t p = record {
    region = p.region;
    offset = p.offset;
    writable = p.writable;
    good = good_longer address (length bytes) p.region p.offset p.good;
    after = p.after;
  }

  names_longer : (s : State) (m : ℕ) (shape : MapShape) (k : ℕ) → NamesEntry (shortened f n) s m shape k → NamesEntry f s m shape k
  names_longer s m shape k p = record {
    known = p.known;
    reference_is = p.reference_is;
    address = p.address;
    address_is = p.address_is;
    bytes = p.bytes;
    four = p.four;
    reads = reads_longer s p.address p.bytes p.reads;
    number_is = p.number_is;
  }

  helps_longer : (helper : ℤ) (s t : State) → Helps (shortened f n) helper s t → Helps f helper s t
  helps_longer helper s t (inl (one, (m, shape, k, entry, e))) = inl (one, (m, shape, k, names_longer s m shape k entry, e))
  helps_longer helper s t (inr (inl (two, (m, shape, k, from, value, entry, is, long, reads, none, inl (there, u, writes, e))))) =
      inr (inl (
        two,
        (
          m,
          shape,
          k,
          from,
          value,
          names_longer s m shape k entry,
          is,
          long,
          reads_longer s from value reads,
          none,
          inl (there, u, writes_longer s _ value u writes, e),
        ),
      ))
  helps_longer helper s t (inr (inl (two, (m, shape, k, from, value, entry, is, long, reads, none, inr past)))) =
      inr (inl (two, (m, shape, k, from, value, names_longer s m shape k entry, is, long, reads_longer s from value reads, none, inr past)))
  helps_longer helper s t (inr (inr other)) = inr (inr other)

  does_longer : (insn : Insn) (s t : State) → Does (shortened f n) insn s t → Does f insn s t
  does_longer (Load size signed dst src off) s t (a, bytes, is, long, reads, target, e) =
      (a, bytes, is, long, reads_longer s _ bytes reads, target, e)
  does_longer (StoreImm size dst off imm) s t (a, u, is, writes, e) = (a, u, is, writes_longer s _ _ u writes, e)
  does_longer (StoreReg size dst off src) s t (a, v, u, is, from, writes, e) = (a, v, u, is, from, writes_longer s _ _ u writes, e)
  does_longer (Call helper) s t p = helps_longer helper s t p
  does_longer (Alu w op dst src) s t p = p
  does_longer (MovSx w bits dst src) s t p = p
  does_longer (Neg w dst) s t p = p
  does_longer (End k bits dst) s t p = p
  does_longer (Imm64 dst value) s t p = p
  does_longer (MapRef dst index) s t p = p
  does_longer (Goto off) s t p = p
  does_longer (Goto32 imm) s t p = p
  does_longer (Branch w c dst src off) s t p = p
  does_longer Exit s t p = p

  takes_longer : (insn : Insn) (s : State) (c : Option CounterCall) (t : State) → Takes (shortened f n) insn s c t → Takes f insn s c t
  takes_longer insn s None t p = does_longer insn s t p
  takes_longer insn s (Some c) t p = p

  step_longer : (s : State) (c : Option CounterCall) (t : State) → Step (shortened f n) s c t → Step f s c t
  step_longer s c t p = record { insn = p.insn; here = p.here; takes = takes_longer p.insn s c t p.takes }

  -- so do an end, a chain of steps, and going on:
  ends_longer : (s : State) (answer : ℕ) (maps : List (List ℕ)) → Ends (shortened f n) s answer maps → Ends f s answer maps
  ends_longer s answer maps p = record { here = p.here; answer_is = p.answer_is; maps_are = p.maps_are }

  chain_longer : (s : State) (k : ℕ) (calls : List CounterCall) (t : State) → Steps (shortened f n) s k calls t → Steps f s k calls t
  chain_longer s zero calls t p = p
  chain_longer s (suc k) calls t (before, c, u, chain, step, e) = (before, c, u, chain_longer s k before u chain, step_longer u c t step, e)

  goes_on_longer : (s : State) → GoesOn (shortened f n) s → GoesOn f s
  goes_on_longer s (inl (t, step)) = inl (t, step_longer s None t step)
  goes_on_longer s (inr each) = inr (λ x lt. let e = each x lt in (e.0, e.1, e.2, step_longer s (Some e.0) e.1 e.3))

  -- the whole context has fewer than 2^16 bytes
  module _ (small : length f.context < 2 ^ 16) where
    -- if a state ends or goes on with the shorter context, each step with the whole context is a step with the shorter one
    step_shorter : (s t : State) (c : Option CounterCall)
        → ((answer : ℕ) × Ends (shortened f n) s answer s.maps) ⊎ GoesOn (shortened f n) s → Step f s c t
        → Step (shortened f n) s c t
    step_shorter s t c (inl (answer, ends)) step = absurd (no_step f small s answer c t (ends_longer s answer s.maps ends) step)
    step_shorter s t None (inr (inl (t', step'))) step =
        let same = one_step f small s None None t t' step (step_longer s None t' step') (λ x y p q. absurd (none-some x p)) in
        subst (λ (v : State). Step (shortened f n) s None v) (sym same.1) step'
    step_shorter s t (Some c) (inr (inl (t', step'))) step =
        let same = one_step f small s (Some c) None t t' step (step_longer s None t' step') (λ x y p q. absurd (none-some y q)) in
        absurd (none-some c (sym same.0))
    step_shorter s t None (inr (inr each)) step =
        let e = each 0 (omega arith) in
        let same = one_step f small s None (Some e.0) t e.1 step (step_longer s (Some e.0) e.1 e.3) (λ x y p q. absurd (none-some x p)) in
        absurd (none-some e.0 same.0)
    step_shorter s t (Some c) (inr (inr each)) step =
        let e = each (answer_of c) step.takes.1 in
        let same = one_step f small s (Some c) (Some e.0) t e.1 step (step_longer s (Some e.0) e.1 e.3)
        (λ x y p q. ap answer_of (sym (same_Some c x p)) ∙ (sym e.2 ∙ ap answer_of (same_Some e.0 y q))) in
        subst (λ (v : State). Step (shortened f n) s (Some c) v) (sym same.1)
        (subst (λ (d : Option CounterCall). Step (shortened f n) s d e.1) (sym same.0) e.3)

    -- with the shorter context all steps from the state go well
    module _ (s : State) (budget : ℕ)
        (safe : (k : ℕ) (calls : List CounterCall) (t : State) → Steps (shortened f n) s k calls t →
        GoesWell (shortened f n) budget k calls t) where
      -- each chain of steps with the whole context is a chain of steps with the shorter context
      chain_shorter : (k : ℕ) (calls : List CounterCall) (t : State) → Steps f s k calls t → Steps (shortened f n) s k calls t
      chain_shorter zero calls t p = p
      chain_shorter (suc k) calls t (before, c, u, chain, step, e) =
          let less = chain_shorter k before u chain in
          (before, c, u, less, step_shorter u t c (safe k before u less).on step, e)

      -- a state that ends or goes on with the shorter context ends or goes on with the whole context
      on_longer : (t : State) → ((answer : ℕ) × Ends (shortened f n) t answer t.maps) ⊎ GoesOn (shortened f n) t
          → ((answer : ℕ) × Ends f t answer t.maps) ⊎ GoesOn f t
      on_longer t (inl (answer, ends)) = inl (answer, ends_longer t answer t.maps ends)
      on_longer t (inr on) = inr (goes_on_longer t on)

      -- all steps from the state go well with the whole context too
      pub well_longer : (k : ℕ) (calls : List CounterCall) (t : State) → Steps f s k calls t → GoesWell f budget k calls t
      well_longer k calls t chain =
          let well = safe k calls t (chain_shorter k calls t chain) in
          record { short = well.short; few = well.few; on = on_longer t well.on }

-- with the first n bytes of its context, a setting for a program with a longer context is one for a context of n bytes
short_setting : (slots : List (Option Insn)) (shapes : List MapShape) (n m : ℕ) (f : Setting)
    → n ≤ m → IsSetting slots shapes m f → IsSetting slots shapes n (shortened f n)
short_setting slots shapes n m f le p = record {
  slots_are = p.slots_are;
  shapes_are = p.shapes_are;
  context_long = let least = length-take n f.context in omega (arith, p.context_long, least);
  context_bytes = λ i b found. p.context_bytes i b (taken_get n f.context i b found);
  now_fits = p.now_fits;
  processor_fits = p.processor_fits;
}

-- a program that is safe on a context of some length is safe on a longer one
pub safe_on_longer : SafeOnLonger
safe_on_longer slots shapes n m budget le few safe f maps setting have =
    well_longer f n (rw setting.context_long few) (start maps) budget
    (safe (shortened f n) maps (short_setting slots shapes n m f le setting) have)

-- a run on the first bytes of a context is a run on the whole context, with the same outcome
pub runs_on_longer : RunsOnLonger
runs_on_longer f n steps calls answer maps after (k, t, is, chain, ends) =
    (k, t, is, chain_longer f n (start maps) k calls t chain, ends_longer f n t answer after ends)
