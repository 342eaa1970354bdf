-- Which tasks are of which kind.
use Rattle.std.proofs.Common.{◌≡◌, ℕ, zero, suc, ◌+◌, ◌<◌, ◌≤◌, ◌⊎◌, inl, inr, List, [], ◌∷◌, ◌++◌, Some, ap, sym, refl, ◌∙◌, arith, get_or, length, take}
use Rattle.std.specs.Prelude.{slice_get, sum_by}
use Rattle.std.proofs.lemmas.List.{take_more}
use Rattle.std.proofs.lemmas.List.Sums.{sum_by-append, sum_by-take-drop}
use Rattle.std.proofs.lemmas.Option.{get_or_from_slice_get, slice_get_within, none-some, same_Some}
use Rattle.bq_workload.specs.declared.workload.TaskKind.{TaskKind}
use Rattle.bq_workload.specs.Kinds.{tasks_in}
use Rattle.bq_simulate.specs.Actions.{IsTaskOfKind, first_task_of}

-- the tasks of the next kind follow those of this one
pub first-more : (kinds : List TaskKind) (number : ℕ) (kind : TaskKind)
    → slice_get kinds number ≡ Some kind → first_task_of kinds (number + 1) ≡ first_task_of kinds number + kind.count
first-more kinds number kind there =
    let count : TaskKind → ℕ = λ k. k.count in
    let first = first_task_of kinds number in
    let last : first_task_of kinds (number + 1) ≡ first + sum_by count (get_or kinds number kind ∷ []) =
    ap (sum_by count) (take_more kinds number kind (slice_get_within kinds number kind there))
    ∙ sum_by-append count (take number kinds) (get_or kinds number kind ∷ []) in
    let is : first + sum_by count (get_or kinds number kind ∷ []) ≡ first + sum_by count (kind ∷ []) =
    ap (λ (k : TaskKind). first + sum_by count (k ∷ [])) (get_or_from_slice_get kinds number kind kind there) in
    let one : sum_by count (kind ∷ []) ≡ kind.count = omega arith in
    last ∙ is ∙ ap (λ n. first + n) one

-- the tasks of a kind are among all tasks
pub kind-within : (kinds : List TaskKind) (number : ℕ) (kind : TaskKind)
    → slice_get kinds number ≡ Some kind → first_task_of kinds number + kind.count ≤ tasks_in kinds
kind-within kinds number kind there =
    omega (arith, first-more kinds number kind there, sum_by-take-drop (λ (k : TaskKind). k.count) kinds (number + 1))

-- the tasks of a kind, one after another
pub nth-of-kind : (kinds : List TaskKind) (kind : TaskKind) (task number before : ℕ)
    → slice_get kinds number ≡ Some kind → task ≡ first_task_of kinds number + before → before < kind.count
    → IsTaskOfKind kinds task number
nth-of-kind kinds kind task number before there at low =
    record { kind = kind; there = there; from = omega (arith, at); below = omega (arith, at, low) }

-- what stands in a longer list stands in the shorter one, or is the last
in_longer : (ns : List ℕ) (last n place : ℕ) → slice_get (ns ++ last ∷ []) place ≡ Some n
    → (slice_get ns place ≡ Some n) ⊎ ((place ≡ length ns) × (last ≡ n))
in_longer [] last n zero e = inr (refl, same_Some last n e)
in_longer [] last n (suc place) e = absurd (none-some n e)
in_longer (m ∷ ns) last n zero e = inl e
in_longer (m ∷ ns) last n (suc place) e = one (in_longer ns last n place e)
  where
    one : (slice_get ns place ≡ Some n) ⊎ ((place ≡ length ns) × (last ≡ n))
        → (slice_get (m ∷ ns) (suc place) ≡ Some n) ⊎ ((suc place ≡ length (m ∷ ns)) × (last ≡ n))
    one (inl there) = inl there
    one (inr at) = inr (ap suc at.0, at.1)

-- with the first task of the next kind, each is still that of its kind
pub firsts-pushed : (kinds : List TaskKind) (firsts : List ℕ) (number : ℕ)
    → length firsts ≡ number → ((place first : ℕ) → slice_get firsts place ≡ Some first → first ≡ first_task_of kinds place)
    → (place first : ℕ) → slice_get (firsts ++ first_task_of kinds number ∷ []) place ≡ Some first
    → first ≡ first_task_of kinds place
firsts-pushed kinds firsts number long had place first there = one (in_longer firsts (first_task_of kinds number) first place there)
  where
    one : (slice_get firsts place ≡ Some first) ⊎ ((place ≡ length firsts) × (first_task_of kinds number ≡ first)) → first ≡ first_task_of kinds place
    one (inl before) = had place first before
    one (inr last) = sym last.1 ∙ ap (first_task_of kinds) (sym (last.0 ∙ long))
