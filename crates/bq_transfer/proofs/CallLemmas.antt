-- Calls: the state after a call, look-ups of entries and updates of them.
use Rattle.std.proofs.Common.{◌≡◌, ◌≢◌, ℕ, suc, ◌+◌, ◌-◌, ◌*◌, ◌^◌, ◌<◌, ◌≤◌, Bool, true, false, List, Option, Some, None, length, get_or, set, refl, sym, arith, ap, ◌∙◌, cond, ◌⊎◌, inl, inr, pos, zero-le, get_or-set_same, get_or-set_other}
use Rattle.std.specs.Prelude.{slice_get, slice_set, slice_index}
use Rattle.std.proofs.lemmas.Bool.Decides.{eqb_tells, leb_tells, nat_tests}
use Rattle.std.proofs.lemmas.Bool.{cases_lt}
use Rattle.bq_insn.specs.declared.Insn.TheVariants.{Call}
use Rattle.bq_bpf.specs.declared.shape.MapShape.{MapShape}
use Rattle.bq_bpf.specs.Memory.{Setting, State, Reads, Writes, IsGood, InEntry, written, IsEntry, reference, values_base, number_of}
use Rattle.bq_bpf.specs.Steps.{Does, called, entry_address, NamesEntry}
use Rattle.bq_ranges.specs.declared.range.Range.{Range}
use Rattle.bq_states.specs.declared.abstract_state.AbstractState.{AbstractState}
use Rattle.bq_states.specs.declared.abstract_state.AbstractValue.{AbstractValue}
use Rattle.bq_states.specs.declared.abstract_state.ValueKind.TheVariants.{EntryOrNull}
use Rattle.bq_states.specs.Copies.{ForgetsFirstClasses}
use Rattle.bq_states.proofs.CopyLemmas.{copies_called}
use Rattle.bq_states.specs.AbstractStates.{AreAlike, Describes, RegisterIsAsKnown, Contains, Clears, FindsBytes}
use Rattle.bq_transfer.specs.Transfers.{Transfers, IsBelow}
use Rattle.bq_states.proofs.AccessLemmas.{entry_low}
use Rattle.bq_transfer.proofs.WriteLemmas.{contains_entry}

-- the answer of a look-up is described as an entry or 0, by whether the map has an entry of that number
answer_at : (shapes : List MapShape) (m n k : ℕ) (r : Range) (b : Bool) (alike : AreAlike shapes m n)
    → r.lo ≡ 0 → ((b ≡ true) × (suc k ≤ alike.shape.entries)) ⊎ ((b ≡ false) × (alike.shape.entries < suc k))
    → Describes shapes (record { kind = EntryOrNull m; offset = r }) (cond b (values_base n + k * alike.shape.value_size) 0)
answer_at shapes m n k r b alike lo (inl (e, there)) =
    let size : ℕ = alike.shape.value_size in
    let entry : IsEntry shapes n (k * size) size =
    record { shape = alike.shape; known = alike.other; number = k; there = there; first_is = refl; size_is = refl } in
    let start = entry_low shapes n (k * size) size entry in
    rw e (record {
      base = values_base n + k * size;
      offset = 0;
      is_base = inr (record { map = n; alike = alike; first = k * size; size = size; entry = entry; base_is = refl });
      within = (omega arith, zero-le);
      word_is = omega (arith, start, alike.low);
    })
answer_at shapes m n k r b alike lo (inr (e, past)) =
    rw e (record { base = 0; offset = 0; is_base = inl refl; within = (omega arith, zero-le); word_is = refl })

-- the answer of a look-up in a map of the same shape is described as an entry of the map or 0
pub answer_is : (shapes : List MapShape) (m n k : ℕ) (r : Range) (alike : AreAlike shapes m n)
    → r.lo ≡ 0
    → Describes shapes (record { kind = EntryOrNull m; offset = r }) (entry_address alike.shape n k)
answer_is shapes m n k r alike lo = answer_at shapes m n k r _ alike lo (leb_tells (suc k) alike.shape.entries)

-- after a call each register is as known: register 0 as the answer, 1 to 5 not at all, the others as before
called_at : (shapes : List MapShape) (old cleared : List (Option AbstractValue)) (register : ℕ → Option ℕ) (answer : ℕ)
    (k : AbstractValue) (r : ℕ) (b c : Bool)
    → 0 < length cleared → Clears old cleared → RegisterIsAsKnown shapes (get_or old r None) (register r)
    → Describes shapes k answer → ((b ≡ true) × (r ≡ 0)) ⊎ ((b ≡ false) × (r ≢ 0))
    → ((c ≡ true) × (suc r ≤ 6)) ⊎ ((c ≡ false) × (6 < suc r))
    → RegisterIsAsKnown shapes (get_or (set cleared 0 (Some k)) r None) (cond b (Some answer) (cond c None (register r)))
called_at shapes old cleared register answer k r b c lt clears h d (inl (e, same)) q =
    rw (e, same, get_or-set_same cleared 0 (Some k) None lt) (answer, refl, d)
called_at shapes old cleared register answer k r b c lt clears h d (inr (e, other)) (inl (e', low)) =
    rw (e, e', get_or-set_other cleared 0 r (Some k) None other, clears.forgotten r (omega arith) (omega arith)) tt
called_at shapes old cleared register answer k r b c lt clears h d (inr (e, other)) (inr (e', high)) =
    rw (e, e', get_or-set_other cleared 0 r (Some k) None other, clears.others r (omega arith)) h

-- after a call the abstract state that forgot registers 1 to 5 and knows the answer in register 0 is right
pub contains_called : (f : Setting) (v : AbstractState) (s : State) (cleared : List (Option AbstractValue))
    (parts : List ℕ) (answer : ℕ) (k : AbstractValue)
    → 0 < length cleared → Clears v.registers cleared → ForgetsFirstClasses v.classes parts → Contains f v s
    → Describes f.shapes k answer
    → Contains f (record v { registers = slice_set cleared 0 (Some k); classes = slice_set parts 0 0 }) (called s answer)
contains_called f v s cleared parts answer k lt clears first contains d = record {
  registers = λ r.
      called_at f.shapes v.registers cleared s.register answer k r _ _ lt clears (contains.registers r) d (eqb_tells r 0)
      (leb_tells (suc r) 6);
  set = contains.set;
  kept = contains.kept;
  parts = contains.parts;
  maps = contains.maps;
  copies = copies_called v.classes parts v.related s answer first contains.copies;
}

-- a look-up transfers the abstract state on
pub carries_look_up : (shapes : List MapShape) (context_length : ℕ) (v : AbstractState)
    (cleared : List (Option AbstractValue)) (parts : List ℕ) (m : ℕ) (r : Range)
    → 0 < length cleared → Clears v.registers cleared → ForgetsFirstClasses v.classes parts → r.lo ≡ 0
    → ((f : Setting) (s : State) → Contains f v s → (n : ℕ) × (s.register 1 ≡ Some (reference n)) × AreAlike f.shapes m n)
    → FindsBytes shapes context_length v 2 4
    → Transfers shapes context_length (Call (pos 1)) v
    (record v { registers = slice_set cleared 0 (Some (record { kind = EntryOrNull m; offset = r })); classes = slice_set parts 0 0 })
carries_look_up shapes context_length v cleared parts m r lt clears first lo names finds f s suits contains =
    let named = names f s contains in
    let found = finds f s suits contains in
    let shape : MapShape = named.2.shape in
    let k : ℕ = number_of found.1 in
    let entry : NamesEntry f s named.0 shape k = record {
      known = named.2.other;
      reference_is = named.1;
      address = found.0;
      address_is = found.2;
      bytes = found.1;
      four = found.3;
      reads = found.4;
      number_is = refl;
    } in (
      called s (entry_address shape named.0 k),
      inl (refl, (named.0, shape, k, entry, refl)),
      contains_called f v s cleared parts (entry_address shape named.0 k) (record { kind = EntryOrNull m; offset = r }) lt
          clears first contains (answer_is f.shapes m named.0 k r named.2 lo),
      refl,
    )

-- the write of a value into an entry
entry_written : (f : Setting) (v : AbstractState) (s : State) (m k : ℕ) (shape : MapShape) (value : List ℕ)
    → slice_get f.shapes m ≡ Some shape → k < shape.entries → length value ≡ shape.value_size
    → ((i : ℕ) → slice_index value i < 256) → Contains f v s
    → (u : State) × Writes f s (entry_address shape m k) value u × Contains f v u × (u.slot ≡ s.slot)
entry_written f v s m k shape value known there long small contains =
    let first : ℕ = k * shape.value_size in
    let entry : IsEntry f.shapes m first shape.value_size =
    record { shape = shape; known = known; number = k; there = there; first_is = refl; size_is = refl } in
    let address : entry_address shape m k ≡ values_base m + first + 0 = entry_at shape m k there in
    let good : IsGood f (entry_address shape m k) (length value) (InEntry m first) 0 = record {
      base = values_base m + first;
      size = shape.value_size;
      spans = (refl, entry);
      address_is = address;
      inside = omega (arith, long);
    } in
    let after = contains_entry f v s m first (entry_address shape m k) (length value) 0 value good refl small contains in (
      written s (InEntry m first) 0 value,
      record { region = InEntry m first; offset = 0; writable = tt; good = good; after = refl },
      record {
        registers = after.registers;
        set = after.set;
        kept = after.kept;
        parts = after.parts;
        maps = after.maps;
        copies = after.copies;
      },
      refl,
    )
  where
    entry_at : (shape : MapShape) (m k : ℕ) → k < shape.entries → entry_address shape m k ≡ values_base m + k * shape.value_size + 0
    entry_at shape m k there = grind (arith, nat_tests)

-- an update does its step to a state of the new abstract state, by whether the map has an entry of that number
update_by : (f : Setting) (s : State) (v new : AbstractState) (m k : ℕ) (shape : MapShape) (from : ℕ) (value : List ℕ)
    → NamesEntry f s m shape k → s.register 3 ≡ Some from → length value ≡ shape.value_size
    → Reads f s from value → s.register 4 ≡ Some 0 → ((i : ℕ) → slice_index value i < 256)
    → Contains f v s → ((s : State) (x : ℕ) → Contains f v s → x < 2 ^ 64 → Contains f new (called s x))
    → (k < shape.entries) ⊎ (shape.entries ≤ k)
    → (t : State) × Does f (Call (pos 2)) s t × Contains f new t × (t.slot ≡ s.slot + 1)
update_by f s v new m k shape from value entry is long reads none small contains answered (inl there) =
    let on = entry_written f v s m k shape value entry.known there long small contains in (
      called on.0 0,
      inr (inl (refl, (m, shape, k, from, value, entry, is, long, reads, none, inl (there, on.0, on.1, refl)))),
      answered on.0 0 on.2 (omega arith),
      ap (λ (n : ℕ). n + 1) on.3,
    )
update_by f s v new m k shape from value entry is long reads none small contains answered (inr past) = (
  called s (2 ^ 64 - 1),
  inr (inl (refl, (m, shape, k, from, value, entry, is, long, reads, none, inr (past, refl)))),
  answered s (2 ^ 64 - 1) contains (omega arith),
  refl,
)

-- an update transfers the abstract state on
pub carries_update : (shapes : List MapShape) (context_length : ℕ) (v new : AbstractState) (m : ℕ) (shape : MapShape)
    → slice_get shapes m ≡ Some shape
    → ((f : Setting) (s : State) → Contains f v s → (n : ℕ) × (s.register 1 ≡ Some (reference n)) × AreAlike f.shapes m n)
    → FindsBytes shapes context_length v 2 4 → FindsBytes shapes context_length v 3 shape.value_size → IsBelow v 4 1
    → ((f : Setting) (s : State) (x : ℕ) → Contains f v s → x < 2 ^ 64 → Contains f new (called s x))
    → Transfers shapes context_length (Call (pos 2)) v new
carries_update shapes context_length v new m shape known names finds values below answered f s suits contains =
    let named = names f s contains in
    let found = finds f s suits contains in
    let value = values f s suits contains in
    let last = below f s contains in
    let none : s.register 4 ≡ Some 0 = last.1 ∙ ap Some (omega arith) in
    let k : ℕ = number_of found.1 in
    let at : slice_get f.shapes named.0 ≡ Some shape = named.2.other ∙ sym named.2.one ∙ rw suits.shapes_are known in
    let entry : NamesEntry f s named.0 shape k = record {
      known = at;
      reference_is = named.1;
      address = found.0;
      address_is = found.2;
      bytes = found.1;
      four = found.3;
      reads = found.4;
      number_is = refl;
    } in
    update_by f s v new named.0 k shape value.0 value.1 entry value.2 value.3 value.4 none value.5 contains (answered f)
    (cases_lt k shape.entries)
