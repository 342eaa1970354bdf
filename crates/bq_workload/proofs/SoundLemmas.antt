-- The first of some flaws, and what a workload without one has.
use Rattle.std.proofs.Common.{◌≡◌, ◌≤◌, ◌+◌, ℕ, Bool, true, false, List, [], ◌∷◌, ◌++◌, Option, None, Some, is_some, length, slice_get, string_bytes, refl, sym, ap, arith}
use Rattle.std.specs.Prelude.{nat_le}
use Rattle.std.specs.List.{AllByRecursion}
use Rattle.std.proofs.lemmas.Bool.{false≢true}
use Rattle.std.proofs.lemmas.Bool.Decides.{nat_tests}
use Rattle.std.proofs.lemmas.Option.{none-some}
use Rattle.bq_words.specs.Sizes.{processors_in}
use Rattle.bq_workload.specs.declared.sound.Unsound.{Unsound}
use Rattle.bq_workload.specs.declared.sound.Unsound.TheVariants as flaw
use Rattle.bq_workload.specs.declared.workload.TaskKind.{TaskKind}
use Rattle.bq_workload.specs.declared.workload.Workload.{Workload}
use Rattle.bq_workload.specs.Kinds.{tasks_in}
use Rattle.bq_workload.specs.Soundness.{allows_one, first_flaw, flaws_of_count, flaws_of_doing, flaws_of_kind, flaws_of_kinds, flaws_of_machine, has_name, has_numbers, unless}

-- where a part has a flaw, its first comes before those of the parts behind it
pub first-found : (xs ys zs : List Unsound) (flaw : Unsound) → Some flaw ≡ slice_get xs 0 → slice_get (xs ++ ys ++ zs) 0 ≡ Some flaw
first-found [] ys zs flaw h = absurd (false≢true (sym (ap (λ (o : Option Unsound). is_some o) h)))
first-found (x ∷ xs) ys zs flaw h = sym h

-- where it has none, the first is of the parts behind it
pub first-later : (xs ys zs : List Unsound) → None ≡ slice_get xs 0 → slice_get (xs ++ ys ++ zs) 0 ≡ slice_get (ys ++ zs) 0
first-later [] ys zs h = refl
first-later (x ∷ xs) ys zs h = absurd (false≢true (ap (λ (o : Option Unsound). is_some o) h))

-- where two parts together have no flaw, neither has one
pub parts_sound : (xs ys : List Unsound) → slice_get (xs ++ ys) 0 ≡ None → (slice_get xs 0 ≡ None) × (slice_get ys 0 ≡ None)
parts_sound [] ys h = (refl, h)
parts_sound (x ∷ xs) ys h = absurd (none-some x (sym h))

-- what has no flaw holds
pub holds : (b : Bool) (flaw : Unsound) → slice_get (unless b flaw) 0 ≡ None → b ≡ true
holds true flaw h = refl
holds false flaw h = absurd (none-some flaw (sym h))

-- a name that is allowed has at most 1024 bytes
short_name : (kind : TaskKind) → has_name kind ≡ true → length (string_bytes kind.name) ≤ 1024
short_name kind h = grind (arith, nat_tests)

-- where kinds have no flaw, each has a name of at most 1024 bytes
kinds_named : (processors kinds number : ℕ) (ks : List TaskKind) → slice_get (flaws_of_kinds processors kinds number ks) 0 ≡ None
    → AllByRecursion (λ (kind : TaskKind). length (string_bytes kind.name) ≤ 1024) ks
kinds_named processors kinds number [] h = tt
kinds_named processors kinds number (kind ∷ ks) h =
    let both = parts_sound (flaws_of_kind processors kinds number kind) (flaws_of_kinds processors kinds (number + 1) ks) h in
    let doing = parts_sound _ (flaws_of_doing kinds number kind.actions.items) both.0 in
    let mask = parts_sound _ (unless (allows_one processors kind.mask) (flaw.Mask number)) doing.0 in
    let numbers = parts_sound _ (unless (has_numbers kind) (flaw.Kind number)) mask.0 in
    (short_name kind (holds (has_name kind) (flaw.Name number) numbers.0), kinds_named processors kinds (number + 1) ks both.1)

-- in a workload without a flaw no name is too long
pub sound-named : (w : Workload) → first_flaw w ≡ None
    → AllByRecursion (λ (kind : TaskKind). length (string_bytes kind.name) ≤ 1024) w.tasks.items
sound-named w h =
    let kinds = flaws_of_kinds (processors_in w.machine.size) (length w.tasks.items) 0 w.tasks.items in
    let all = parts_sound (flaws_of_machine w.machine ++ kinds) (flaws_of_count w.tasks.items) h in
    kinds_named _ _ 0 w.tasks.items (parts_sound (flaws_of_machine w.machine) kinds all.0).1

-- in a workload without a flaw there are not too many tasks
pub sound-few : (w : Workload) → first_flaw w ≡ None → tasks_in w.tasks.items ≤ 1024
sound-few w h =
    let kinds = flaws_of_kinds (processors_in w.machine.size) (length w.tasks.items) 0 w.tasks.items in
    let all = parts_sound (flaws_of_machine w.machine ++ kinds) (flaws_of_count w.tasks.items) h in
    let few = holds (nat_le (tasks_in w.tasks.items) 1024) flaw.Tasks all.1 in
    grind (arith, nat_tests)
