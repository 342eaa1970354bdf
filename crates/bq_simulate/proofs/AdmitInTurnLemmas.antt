-- Tasks that are admitted one after another.
use Rattle.std.proofs.Common.{◌≡◌, ℕ, zero, suc, ◌+◌, ◌≤◌, List, [], ◌∷◌, ◌++◌, Some, length, take, refl, sym, ap, ◌∙◌, subst, arith, append_assoc, append-nil, length-take-le}
use Rattle.std.specs.Prelude.{slice_get, sum_by}
use Rattle.std.proofs.lemmas.List.{take_more}
use Rattle.std.proofs.lemmas.List.Sums.{sum_by-append}
use Rattle.std.proofs.lemmas.Option.{get_or_from_slice_get, slice_get_within}
use Rattle.bq_workload.specs.declared.workload.TaskKind.{TaskKind}
use Rattle.bq_workload.specs.Soundness.{IsFirstAllowed}
use Rattle.bq_parts.specs.declared.event.Event.TheVariants.{Admit}
use Rattle.bq_workload.specs.Kinds.{tasks_in}
use Rattle.bq_simulate.specs.Actions.{first_task_of}
use Rattle.bq_simulate.specs.Deeds.{Deed, Happens}
use Rattle.bq_simulate.specs.Steps.{AreAdmitted, AreAllAdmitted, AreJustEvents, IsAdmission, IsJoin}

-- a task is admitted, and then it is there
pub admission-of : (processors number : ℕ) (kind : TaskKind) (task home : ℕ) (xs ys : List Deed)
    → IsFirstAllowed processors kind.mask home → AreJustEvents (Admit task kind.nice kind.mask kind.slice ∷ []) xs
    → IsJoin number home ys
    → IsAdmission processors number kind task (xs ++ ys)
admission-of processors number kind task home xs ys first admit join =
    let begin : Deed = Happens (Admit task kind.nice kind.mask kind.slice) admit.0 in (
      admit.0,
      home,
      first,
      ap (λ (l : List Deed). l ++ ys) (admit.2 ∙ ap (λ (l : List Deed). begin ∷ l) admit.3)
          ∙ ap (λ (l : List Deed). begin ∷ l) join,
    )

-- one task more of a kind
pub AreAdmitted-more : (processors number : ℕ) (kind : TaskKind) (task count next : ℕ) (xs ys : List Deed)
    → next ≡ task + count → AreAdmitted processors number kind task count xs → IsAdmission processors number kind next ys
    → AreAdmitted processors number kind task (suc count) (xs ++ ys)
AreAdmitted-more processors number kind task zero next xs ys at none one =
    let here : next ≡ task = omega (arith, at) in (
      ys,
      [],
      ap (λ (l : List Deed). l ++ ys) none ∙ sym (append-nil ys),
      subst (λ (n : ℕ). IsAdmission processors number kind n ys) here one,
      refl,
    )
AreAdmitted-more processors number kind task (suc count) next xs ys at (some, more, whole, is, rest) one = (
  some,
  more ++ ys,
  ap (λ (l : List Deed). l ++ ys) whole ∙ append_assoc some more ys,
  is,
  AreAdmitted-more processors number kind (task + 1) count next more ys (omega (arith, at)) rest one,
)

-- one kind and some others have the tasks of that kind and those of the others
tasks_in-cons : (kind : TaskKind) (kinds : List TaskKind) → tasks_in (kind ∷ kinds) ≡ kind.count + tasks_in kinds
tasks_in-cons kind kinds =
    let count : TaskKind → ℕ = λ k. k.count in
    let one : sum_by count (kind ∷ []) ≡ kind.count = omega arith in
    sum_by-append count (kind ∷ []) kinds ∙ ap (λ n. n + tasks_in kinds) one

-- one kind more
AreAllAdmitted-more : (processors number task : ℕ) (kinds : List TaskKind) (kind : TaskKind) (n t : ℕ) (xs ys : List Deed)
    → n ≡ number + length kinds → t ≡ task + tasks_in kinds → AreAllAdmitted processors number task kinds xs
    → AreAdmitted processors n kind t kind.count ys
    → AreAllAdmitted processors number task (kinds ++ kind ∷ []) (xs ++ ys)
AreAllAdmitted-more processors number task [] kind n t xs ys at from none are =
    let here : n ≡ number = omega (arith, at) in
    let first : t ≡ task = omega (arith, from) in
    let P : ℕ → Type 0 = λ k. AreAdmitted processors k kind t kind.count ys in
    let Q : ℕ → Type 0 = λ k. AreAdmitted processors number kind k kind.count ys in
    (ys, [], ap (λ (l : List Deed). l ++ ys) none ∙ sym (append-nil ys), subst Q first (subst P here are), refl)
AreAllAdmitted-more processors number task (k ∷ kinds) kind n t xs ys at from (some, more, whole, is, rest) are = (
  some,
  more ++ ys,
  ap (λ (l : List Deed). l ++ ys) whole ∙ append_assoc some more ys,
  is,
  AreAllAdmitted-more processors (number + 1) (task + k.count) kinds kind n t more ys (omega (arith, at))
      (omega (arith, from, tasks_in-cons k kinds)) rest are,
)

-- the kind of this number, after those before it
pub AreAllAdmitted-next : (processors : ℕ) (kinds : List TaskKind) (number : ℕ) (kind : TaskKind) (xs ys : List Deed)
    → slice_get kinds number ≡ Some kind → AreAllAdmitted processors 0 0 (take number kinds) xs
    → AreAdmitted processors number kind (first_task_of kinds number) kind.count ys
    → AreAllAdmitted processors 0 0 (take (number + 1) kinds) (xs ++ ys)
AreAllAdmitted-next processors kinds number kind xs ys there before are =
    let within = slice_get_within kinds number kind there in
    let low : number ≤ length kinds = omega (arith, within) in
    let is : take (number + 1) kinds ≡ take number kinds ++ kind ∷ [] =
    take_more kinds number kind within
    ∙ ap (λ (k : TaskKind). take number kinds ++ k ∷ []) (get_or_from_slice_get kinds number kind kind there) in
    let at : number ≡ 0 + length (take number kinds) = omega (arith, length-take-le number kinds low) in
    let from : first_task_of kinds number ≡ 0 + tasks_in (take number kinds) = omega arith in
    subst (λ (l : List TaskKind). AreAllAdmitted processors 0 0 l (xs ++ ys)) (sym is)
    (AreAllAdmitted-more processors 0 0 (take number kinds) kind number (first_task_of kinds number) xs ys at from before are)
