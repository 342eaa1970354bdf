-- Registers of which nothing is known are named.
use Rattle.std.proofs.Common.{◌≡◌, ℕ, suc, zero, List, [], ◌∷◌, ◌++◌, Option, Some, None, slice_index_or, append-nil, refl, sym, ap, ◌∙◌, subst, inl, inr}
use Rattle.std.specs.Prelude.{codes}
use Rattle.bq_states.specs.declared.abstract_state.AbstractValue.{AbstractValue}
use Rattle.bq_explain.specs.DescribedStates.{AreRegisterNames, no_name, one_name, NamesUnknown}
use Rattle.bq_explain.specs.Texts.{called_unknown, unknown_below, unknown_name, unknown_registers_text}

-- without a name nothing is said
pub none_unknown : (names : List ℕ) (registers : List (Option AbstractValue))
    → names ≡ unknown_below 11 registers → names ≡ [] → names ≡ unknown_registers_text registers
none_unknown names registers are none = none ∙ sym (ap called_unknown (sym are ∙ none))

-- what is called unknown
called : (names text : List ℕ) → (names ≡ [] → ⊥) → text ≡ names ++ codes " unknown  " → text ≡ called_unknown names
called [] text some is = absurd (some refl)
called (first ∷ rest) text some is = is

-- names are reported, and that they are unknown
pub some_unknown : (names text : List ℕ) (registers : List (Option AbstractValue))
    → names ≡ unknown_below 11 registers → (names ≡ [] → ⊥) → text ≡ names ++ codes " unknown  "
    → text ≡ unknown_registers_text registers
some_unknown names text registers are some is = called names text some is ∙ ap called_unknown are

-- one register more
one_more : (before : List ℕ) (register : ℕ) (known : Option AbstractValue)
    → AreRegisterNames before → AreRegisterNames (before ++ unknown_name register known)
one_more before register None are = one_name before register are
one_more before register (Some k) are = subst (λ (t : List ℕ). AreRegisterNames t) (sym (append-nil before)) are

-- the first registers that are not known
are_names : (registers : List (Option AbstractValue)) (n : ℕ) → AreRegisterNames (unknown_below n registers)
are_names registers zero = no_name
are_names registers (suc n) = one_more (unknown_below n registers) n (slice_index_or registers n None) (are_names registers n)

-- names, or nothing
named : (names : List ℕ) → AreRegisterNames names → NamesUnknown (called_unknown names)
named [] are = inl refl
named (first ∷ rest) are = inr (first ∷ rest, refl, are)

-- no word of any of them is reported
pub names_unknown : (registers : List (Option AbstractValue)) → NamesUnknown (unknown_registers_text registers)
names_unknown registers = named (unknown_below 11 registers) (are_names registers 11)
