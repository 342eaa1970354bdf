-- What holds of each value that is read.
use Rattle.std.proofs.Common.{◌≡◌, Bool, true, false, cond, Option, None, Some, IfSome, option_and_then, option_map, refl, subst}

-- a value that is kept where a test passes
pub each-if : {A : Type 0} (b : Bool) (x : A) (Q : A → Type 0) → (b ≡ true → Q x) → IfSome (cond b (Some x) None) Q
each-if {A} true x Q h = h refl
each-if {A} false x Q h = tt

-- a value that is kept where a test fails
pub each-unless : {A : Type 0} (b : Bool) (x : A) (Q : A → Type 0) → (b ≡ false → Q x) → IfSome (cond b None (Some x)) Q
each-unless {A} true x Q h = tt
each-unless {A} false x Q h = h refl

-- what holds for each of two options that are there holds for the one that a test chooses
pub each-cond : {A : Type 0} (b : Bool) (x y : Option A) (Q : A → Type 0) → IfSome x Q → IfSome y Q → IfSome (cond b x y) Q
each-cond {A} true x y Q h k = h
each-cond {A} false x y Q h k = k

-- what is read of a value that is read
pub each-then : {A B : Type 0} (o : Option A) (P : A → Type 0) (f : A → Option B) (Q : B → Type 0)
    → IfSome o P → ((a : A) → P a → IfSome (f a) Q) → IfSome (option_and_then f o) Q
each-then {A} {B} None P f Q h k = tt
each-then {A} {B} (Some a) P f Q h k = k a h

-- what is read, whatever the value is of which it is read
pub each-of : {A B : Type 0} (o : Option A) (f : A → Option B) (Q : B → Type 0)
    → ((a : A) → IfSome (f a) Q) → IfSome (option_and_then f o) Q
each-of {A} {B} None f Q k = tt
each-of {A} {B} (Some a) f Q k = k a

-- what is made of a value that is read
pub each-map : {A B : Type 0} (o : Option A) (P : A → Type 0) (f : A → B) (Q : B → Type 0)
    → IfSome o P → ((a : A) → P a → Q (f a)) → IfSome (option_map f o) Q
each-map {A} {B} None P f Q h k = tt
each-map {A} {B} (Some a) P f Q h k = k a h

-- the value that is read
pub each-at : {A : Type 0} (o : Option A) (v : A) (Q : A → Type 0) → IfSome o Q → o ≡ Some v → Q v
each-at {A} o v Q h e = subst (λ (x : Option A). IfSome x Q) e h
