-- Where each field's `==` tells whether two values are the same, so does a derived `==` of an enum.
use Rattle.std.proofs.Common.{◌≡◌, Bool, true, false, ◌&&◌, List, [], ◌∷◌, inl, inr, refl, ap}
use Rattle.std.specs.Bool.{Decides}
use Rattle.std.proofs.lemmas.Bool.Decides.{Decides-and, Decides-like}
use denote.Struct.Field.{Field}
use denote.Struct.Values.{Values}
use denote.Enum.Bare.{Bare, sameb, same_true, true_same}
use denote.Enum.Declared.{Record, Declared, Choice, values_one}
use denote.Enum.Compared.{Each, by}

-- each variant's test of its fields tells whether they are the same
abbrev pub EachDecides : (Fss : List (List Field)) → Each Bool Fss → Type 0
EachDecides [] es = Unit {0}
EachDecides (Fs ∷ Fss) es = ((x y : Values Fs) → Decides (es.0 x y) (x ≡ y)) × EachDecides Fss es.1

-- the test of two choices tells whether they are the same, if each variant's test of its fields does
choices_decide : (Fss : List (List Field)) (es : Each Bool Fss)
    → EachDecides Fss es → (c d : Choice Fss) → Decides (by false false Fss es c d) (c ≡ d)
choices_decide [] es all c d = absurd c
choices_decide (Fs ∷ Fss) es all (inl x) (inl y) =
    let h = all.0 x y in
    (λ e. ap inl (h.0 e), λ e. h.1 (cc))
choices_decide (Fs ∷ Fss) es all (inl x) (inr y) = ((λ e. absurd (cc)), (λ e. absurd (cc)))
choices_decide (Fs ∷ Fss) es all (inr x) (inl y) = ((λ e. absurd (cc)), (λ e. absurd (cc)))
choices_decide (Fs ∷ Fss) es all (inr x) (inr y) =
    let h = choices_decide Fss es.1 all.1 x y in
    (λ e. ap inr (h.0 e), λ e. h.1 (cc))

-- the test of two values tells whether they are the same, if each variant's test of its fields does
pub by_decides : (N : Record) (es : Each Bool N.parts) → EachDecides N.parts es
    → (x y : N.D) → Decides (by false false N.parts es (N.as_values x) (N.as_values y)) (x ≡ y)
by_decides N es all x y =
    let h = choices_decide N.parts es all (N.as_values x) (N.as_values y) in
    (λ e. values_one N x y (h.0 e), λ e. h.1 (ap N.as_values e))

-- of an enum without fields the tags tell it
pub bare_decides : (D : Declared) → Bare D.parts → (a b : D.D) → Decides (sameb D a b) (a ≡ b)
bare_decides D bare a b = (same_true D bare a b, true_same D a b)

-- of a variant without fields there is one value
pub no_field : (x y : Unit {0}) → Decides true (x ≡ y)
no_field x y = (λ e. refl, λ e. refl)

-- the test of a variant's last field tells whether two are the same
pub last_field : {A : Type 0} {E : A → A → Bool} → ((a b : A) → Decides (E a b) (a ≡ b))
    → (x y : A × Unit {0}) → Decides (E x.0 y.0) (x ≡ y)
last_field h x y =
    let field = h x.0 y.0 in
    (λ e. λ i. (field.0 e i, tt), λ e. field.1 (ap (λ p. p.0) e))

-- the test of a field, and then that of the fields behind it, tells whether two are the same
pub and_field : {A B : Type 0} {E : A → A → Bool} {F : B → B → Bool}
    → ((a b : A) → Decides (E a b) (a ≡ b)) → ((a b : B) → Decides (F a b) (a ≡ b))
    → (x y : A × B) → Decides (E x.0 y.0 && F x.1 y.1) (x ≡ y)
and_field {A} {B} {E} {F} h k x y =
    Decides-like (E x.0 y.0 && F x.1 y.1) (λ (p : (x.0 ≡ y.0) × (x.1 ≡ y.1)). λ i. (p.0 i, p.1 i))
    (λ e. (ap (λ (p : A × B). p.0) e, ap (λ (p : A × B). p.1) e))
    (Decides-and (E x.0 y.0) (F x.1 y.1) (h x.0 y.0) (k x.1 y.1))
