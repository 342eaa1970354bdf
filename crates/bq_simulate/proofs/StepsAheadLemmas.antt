-- How many steps a task takes before one that takes time.
use Rattle.std.proofs.Common.{◌≡◌, ℕ, zero, suc, ◌+◌, ◌-◌, ◌≤◌, Bool, true, false, List, [], ◌∷◌, ◌++◌, Some, refl, sym, subst, ap, ◌∙◌, arith, take, drop}
use Rattle.std.specs.Prelude.{◌||◌, slice_get, sum_by}
use Rattle.std.specs.List.{list_any}
use Rattle.std.proofs.lemmas.Bool.{false≢true, true≢false}
use Rattle.std.proofs.lemmas.List.{take-append-drop}
use Rattle.std.proofs.lemmas.List.Folds.{list_any-append}
use Rattle.std.proofs.lemmas.List.Sums.{sum_by-append, sum_by-cons}
use Rattle.std.proofs.lemmas.Option.{none-some, same_Some}
use Rattle.bq_workload.specs.declared.action.Action.{Action}
use Rattle.bq_workload.specs.declared.action.Action.TheVariants.{Run, Sleep, Wait, Wake}
use Rattle.bq_workload.specs.declared.workload.TaskKind.{TaskKind}
use Rattle.bq_workload.specs.Bounds.{steps_for}
use Rattle.bq_workload.specs.Kinds.{kind_count}
use Rattle.bq_workload.specs.Lengths.{takes_time}
use Rattle.bq_simulate.specs.AtOnce.{steps_until}

-- an action takes a step at least where one of those ahead takes time
pub steps-some : (kinds : List TaskKind) (woken : ℕ) (actions : List Action)
    → list_any takes_time actions ≡ true → 1 ≤ steps_until kinds woken actions
steps-some kinds woken [] h = absurd (false≢true h)
steps-some kinds woken (Run asked ∷ more) h = omega arith
steps-some kinds woken (Sleep asked ∷ more) h = omega arith
steps-some kinds woken (Wait ∷ more) h = omega arith
steps-some kinds woken (Wake kind ∷ more) h = omega (arith, steps-some kinds 0 more h)

-- no more than all of them take
steps-most : (kinds : List TaskKind) (woken : ℕ) (actions : List Action)
    → steps_until kinds woken actions ≤ sum_by (steps_for kinds) actions
steps-most kinds woken [] = omega arith
steps-most kinds woken (Run asked ∷ more) = omega (arith, sum_by-cons (steps_for kinds) (Run asked) more)
steps-most kinds woken (Sleep asked ∷ more) = omega (arith, sum_by-cons (steps_for kinds) (Sleep asked) more)
steps-most kinds woken (Wait ∷ more) = omega (arith, sum_by-cons (steps_for kinds) Wait more, steps-most kinds 0 more)
steps-most kinds woken (Wake kind ∷ more) = omega (arith, sum_by-cons (steps_for kinds) (Wake kind) more, steps-most kinds 0 more)

-- what comes behind one that takes time does not count
pub steps-first : (kinds : List TaskKind) (woken : ℕ) (actions more : List Action)
    → list_any takes_time actions ≡ true
    → steps_until kinds woken (actions ++ more) ≡ steps_until kinds woken actions
steps-first kinds woken [] more h = absurd (false≢true h)
steps-first kinds woken (Run asked ∷ actions) more h = refl
steps-first kinds woken (Sleep asked ∷ actions) more h = refl
steps-first kinds woken (Wait ∷ actions) more h = ap (λ n. 1 + n) (steps-first kinds 0 actions more h)
steps-first kinds woken (Wake kind ∷ actions) more h = ap (λ n. (kind_count kinds kind - woken) + n) (steps-first kinds 0 actions more h)

-- where none takes time all of them count
steps-past : (kinds : List TaskKind) (woken : ℕ) (actions more : List Action)
    → list_any takes_time actions ≡ false
    → steps_until kinds woken (actions ++ more) ≤ sum_by (steps_for kinds) actions + steps_until kinds 0 more
steps-past kinds woken [] more h = less kinds woken more
  where
    less : (kinds : List TaskKind) (woken : ℕ) (actions : List Action) → steps_until kinds woken actions ≤ 0 + steps_until kinds 0 actions
    less kinds woken [] = omega arith
    less kinds woken (Run asked ∷ actions) = omega arith
    less kinds woken (Sleep asked ∷ actions) = omega arith
    less kinds woken (Wait ∷ actions) = omega arith
    less kinds woken (Wake kind ∷ actions) = omega arith
steps-past kinds woken (Run asked ∷ actions) more h = absurd (true≢false h)
steps-past kinds woken (Sleep asked ∷ actions) more h = absurd (true≢false h)
steps-past kinds woken (Wait ∷ actions) more h =
    omega (arith, sum_by-cons (steps_for kinds) Wait actions, steps-past kinds 0 actions more h)
steps-past kinds woken (Wake kind ∷ actions) more h =
    omega (arith, sum_by-cons (steps_for kinds) (Wake kind) actions, steps-past kinds 0 actions more h)

-- from some action on, and then all over again: no more than all of them once
round_of : (kinds : List TaskKind) (woken : ℕ) (front back : List Action) (some : Bool)
    → list_any takes_time back ≡ some → list_any takes_time (front ++ back) ≡ true
    → steps_until kinds woken (back ++ (front ++ back)) ≤ sum_by (steps_for kinds) (front ++ back)
round_of kinds woken front back true test h =
    omega (
      arith,
      steps-first kinds woken back (front ++ back) test,
      steps-most kinds woken back,
      sum_by-append (steps_for kinds) front back,
    )
round_of kinds woken front back false test h =
    let ahead : list_any takes_time front ≡ true =
    either (list_any takes_time front) (list_any takes_time back) (sym (list_any-append takes_time front back) ∙ h) test in
    omega (
      arith,
      steps-past kinds woken back (front ++ back) test,
      steps-first kinds 0 front back ahead,
      steps-most kinds 0 front,
      sum_by-append (steps_for kinds) front back,
    )
  where
    either : (a b : Bool) → (a || b) ≡ true → b ≡ false → a ≡ true
    either true b h last = refl
    either false b h last = absurd (true≢false (sym h ∙ last))

-- from a place on, and then all over again
pub steps-round : (kinds : List TaskKind) (woken place : ℕ) (actions : List Action)
    → list_any takes_time actions ≡ true
    → steps_until kinds woken (drop place actions ++ actions) ≤ sum_by (steps_for kinds) actions
steps-round kinds woken place actions h =
    let front = take place actions in
    let back = drop place actions in
    let whole : front ++ back ≡ actions = take-append-drop place actions in
    subst (λ (l : List Action). steps_until kinds woken (back ++ l) ≤ sum_by (steps_for kinds) l) whole
    (round_of kinds woken front back (list_any takes_time back) refl (ap (list_any takes_time) whole ∙ h))

-- the action at a place is the first of those from there on
pub dropped-first : (actions : List Action) (place : ℕ) (action : Action)
    → slice_get actions place ≡ Some action → drop place actions ≡ action ∷ drop (suc place) actions
dropped-first [] place action at = absurd (none-some action at)
dropped-first (x ∷ xs) zero action at = ap (λ (y : Action). y ∷ xs) (same_Some x action at)
dropped-first (x ∷ xs) (suc place) action at = dropped-first xs place action at
