-- Registers that are known, and of which more gets known.
use Rattle.std.proofs.Common.{sym, ◌≡◌, ◌≢◌, ℕ, ◌<◌, Bool, true, false, List, Option, Some, None, length, get_or, set, get_or-set_same, get_or-set_other, ◌⊎◌, inl, inr}
use Rattle.std.specs.Prelude.{slice_index_or}
use Rattle.std.proofs.lemmas.Bool.Decides.{eqb_tells}
use Rattle.bq_bpf.specs.declared.shape.MapShape.{MapShape}
use Rattle.bq_bpf.specs.Memory.{Setting, State}
use Rattle.bq_states.specs.declared.abstract_state.AbstractValue.{AbstractValue}
use Rattle.bq_states.specs.declared.abstract_state.AbstractState.{AbstractState}
use Rattle.bq_states.proofs.CopyLemmas.{copies_learnt}
use Rattle.bq_states.specs.AbstractStates.{Describes, RegisterIsAsKnown, Contains, knowing}

-- a register that is known has such a word
pub found_at : (f : Setting) (v : AbstractState) (s : State) (r : ℕ) (k : AbstractValue)
    → Some k ≡ slice_index_or v.registers r None → Contains f v s
    → (n : ℕ) × (s.register r ≡ Some n) × Describes f.shapes k n
found_at f v s r k e contains = rw (sym e) at (contains.registers r)

-- a place among registers of which more is known
pub learn_at : (shapes : List MapShape) (regs : List (Option AbstractValue)) (register : ℕ → Option ℕ)
    (dst n : ℕ) (k : AbstractValue) (r : ℕ) (b : Bool)
    → dst < length regs → register dst ≡ Some n → RegisterIsAsKnown shapes (get_or regs r None) (register r)
    → Describes shapes k n → ((b ≡ true) × (r ≡ dst)) ⊎ ((b ≡ false) × (r ≢ dst))
    → RegisterIsAsKnown shapes (get_or (set regs dst (Some k)) r None) (register r)
learn_at shapes regs register dst n k r b lt is h d (inl (e, same)) = rw (same, get_or-set_same regs dst (Some k) None lt) (n, is, d)
learn_at shapes regs register dst n k r b lt is h d (inr (e, other)) = rw (get_or-set_other regs dst r (Some k) None other) h

-- the state is still described if more is known of a register that stays as it is
pub contains_learn : (f : Setting) (v : AbstractState) (s : State) (dst n : ℕ) (k : AbstractValue)
    → dst < length v.registers → s.register dst ≡ Some n → Contains f v s → Describes f.shapes k n
    → Contains f (knowing v dst k) s
contains_learn f v s dst n k lt is contains d = record {
  registers = λ r. learn_at f.shapes v.registers s.register dst n k r _ lt is (contains.registers r) d (eqb_tells r dst);
  set = contains.set;
  kept = contains.kept;
  parts = contains.parts;
  maps = contains.maps;
  copies = copies_learnt v.classes v.related s dst contains.copies;
}
