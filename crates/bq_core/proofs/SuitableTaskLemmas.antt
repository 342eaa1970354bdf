-- Tasks that suit a processor: their masks allow it, and have only processors of the machine.
use Rattle.std.proofs.Common.{◌≡◌, ℕ, ◌^◌, Bool, true, false, cond, List, [], ◌∷◌, refl, arith, ltb-true, lt-ltb, ne_eqb}
use Rattle.std.specs.Prelude.{◌&&◌, ◌==◌, not, nat_lt, All}
use Rattle.std.specs.List.{AllByRecursion}
use Rattle.std.proofs.lemmas.List.Elements.{All-from_recursion, recursion_from_All}
use Rattle.std.proofs.lemmas.Bool.{eqb-false}
use Rattle.bq_disc.specs.Tasks.{Task}
use Rattle.bq_disc.specs.Queues.{can_use}
use Rattle.bq_disc.specs.Masks.{allows}
use Rattle.bq_hooks.specs.OwnPlace.{HasPlace}
use Rattle.bq_parts.proofs.TallyLemmas.{tally, worth}

-- a processor that a task may use, and a mask of the machine's processors
abbrev pub suits : ℕ → ℕ → ℕ → Bool
suits count processor mask = allows mask processor && (nat_lt mask (2 ^ count) && not (mask == 0))

-- 1 for a task that a processor doesn't suit
abbrev pub unsuited : ℕ → ℕ → ℕ → ℕ → ℕ
unsuited count processor id mask = cond (suits count processor mask) 0 1

-- what a task is that a processor suits
pub record Suits (count processor : ℕ) (t : Task) : Type 0 where
  pub can : can_use processor t ≡ true
  pub place : HasPlace count t

-- what three tests say where none counts
tests_of : (a b c : Bool) → ◌≡◌ {A = ℕ} (cond (a && (b && not c)) 0 1) 0 → (a ≡ true) × (b ≡ true) × (c ≡ false)
tests_of true true true h = absurd (omega arith)
tests_of true true false h = (refl, refl, refl)
tests_of true false c h = absurd (omega arith)
tests_of false b c h = absurd (omega arith)

-- a task that doesn't count suits the processor
pub suits_of : (count processor : ℕ) (t : Task) → worth (unsuited count processor) t ≡ 0 → Suits count processor t
suits_of count processor t h =
    let f = tests_of (allows t.mask processor) (nat_lt t.mask (2 ^ count)) (t.mask == 0) h in
    record { can = f.0; place = (ltb-true t.mask (2 ^ count) f.1, eqb-false t.mask 0 f.2) }

-- a task that suits the processor doesn't count
pub of_suits : (count processor : ℕ) (t : Task) → can_use processor t ≡ true → HasPlace count t → worth (unsuited count processor) t ≡ 0
of_suits count processor t e h = rw (e, lt-ltb t.mask (2 ^ count) h.0, ne_eqb t.mask 0 h.1) refl

-- of tasks that may use the processor and have a place, taken one after another, none is unsuited
unsuited_by_recursion : (count processor : ℕ) (xs : List Task)
    → AllByRecursion (λ t. can_use processor t ≡ true) xs → AllByRecursion (HasPlace count) xs
    → tally (unsuited count processor) xs ≡ 0
unsuited_by_recursion count processor [] h k = refl
unsuited_by_recursion count processor (x ∷ xs) h k =
    omega (arith, of_suits count processor x h.0 k.0, unsuited_by_recursion count processor xs h.1 k.1)

-- where each task may use the processor and has a place, none is unsuited
pub none_unsuited : (count processor : ℕ) (xs : List Task) → All (λ t. can_use processor t ≡ true) xs
    → All (HasPlace count) xs
    → tally (unsuited count processor) xs ≡ 0
none_unsuited count processor xs h k =
    unsuited_by_recursion count processor xs (recursion_from_All (λ t. can_use processor t ≡ true) xs h)
    (recursion_from_All (HasPlace count) xs k)

-- where none is unsuited the processor suits each task, taken one after another
suits_by_recursion : (count processor : ℕ) (xs : List Task) → tally (unsuited count processor) xs ≡ 0
    → AllByRecursion (Suits count processor) xs
suits_by_recursion count processor [] h = tt
suits_by_recursion count processor (x ∷ xs) h =
    (suits_of count processor x (omega arith), suits_by_recursion count processor xs (omega arith))

-- where none is unsuited the processor suits each
pub all_suit : (count processor : ℕ) (xs : List Task) → tally (unsuited count processor) xs ≡ 0 → All (Suits count processor) xs
all_suit count processor xs h = All-from_recursion (Suits count processor) xs (suits_by_recursion count processor xs h)
