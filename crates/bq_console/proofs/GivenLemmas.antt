-- Words that say none.
use Rattle.std.proofs.Common.{◌≡◌, ℕ, List, Option, Some, None, subst, String}
use Rattle.std.specs.declared.alloc.Global.{Global}
use Rattle.bq_console.specs.declared.fault.WordsFault.{WordsFault}
use Rattle.bq_console.specs.declared.fault.WordsFault.TheVariants.{Words, OutOfMemory}
use Rattle.bq_console.specs.Words.{GivesNone, GivesWord}

-- words that say none may be refused by any text
pub none_given : {A : Type 0} (Gives : A → Type 0) (e : WordsFault) → ((a : A) → ¬ Gives a) → GivesNone Gives e
none_given Gives (Words why) none = none
none_given Gives OutOfMemory none = tt

-- where words say no part, they say no whole
pub none_of_part : {A B : Type 0} (Part : A → Type 0) (Whole : B → Type 0) (e : WordsFault)
    → ((b : B) → Whole b → (a : A) × Part a) → GivesNone Part e → GivesNone Whole e
none_of_part Part Whole (Words why) has none = λ b whole. let part = has b whole in none part.0 part.1
none_of_part Part Whole OutOfMemory has none = tt

-- where a part is not said, the whole is not
pub none_whole : {A B : Type 0} (Part : A → Type 0) (Whole : B → Type 0) (part : B → A) (e : WordsFault)
    → ((b : B) → Whole b → Part (part b)) → GivesNone Part e → GivesNone Whole e
none_whole Part Whole part e has none = none_of_part Part Whole e (λ b whole. (part b, has b whole)) none

-- where words are refused they give nothing
pub gives_none : {A : Type 0} (Gives : A → Type 0) (e : WordsFault) (why : String Global)
    → e ≡ Words why → GivesNone Gives e → (a : A) → ¬ Gives a
gives_none {A} Gives e why is none = subst (λ (f : WordsFault). GivesNone Gives f) is none

-- a word that stands for no value is neither read as one nor missing
pub no_value : {A : Type 0} (P : List ℕ → A → Type 0) (word : List ℕ)
    → ((a : A) → ¬ P word a) → (value : Option A) → ¬ GivesWord P (Some word) value
no_value P word none None h = h
no_value P word none (Some a) h = none a h
