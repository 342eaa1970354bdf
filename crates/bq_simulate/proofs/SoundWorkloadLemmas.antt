-- What a workload has that can be followed: the times of its machine, and of each of its kinds.
use Rattle.std.proofs.Common.{◌≡◌, ℕ, zero, suc, ◌+◌, ◌<◌, ◌≤◌, true, List, [], ◌∷◌, ◌++◌, length, Option, Some, None, refl, sym, subst, ap, arith, get_or}
use Rattle.std.specs.Prelude.{◌&&◌, nat_le, slice_get}
use Rattle.std.specs.List.{list_any}
use Rattle.std.specs.Option.{option_map_or}
use Rattle.std.proofs.lemmas.Bool.{and_parts, false≢true, leb-true, ltb-true}
use Rattle.std.proofs.lemmas.Option.{none-some, same_Some, slice_get-get_or}
use Rattle.bq_words.specs.Sizes.{processors_in}
use Rattle.bq_workload.specs.declared.action.Action.{Action}
use Rattle.bq_workload.specs.declared.action.Action.TheVariants.{Wake}
use Rattle.bq_workload.specs.declared.setup.Setup.{Setup}
use Rattle.bq_workload.specs.declared.sound.Unsound.TheVariants as flaw
use Rattle.bq_workload.specs.declared.workload.TaskKind.{TaskKind}
use Rattle.bq_workload.specs.declared.workload.Workload.{Workload}
use Rattle.bq_workload.specs.Kinds.{kind_count}
use Rattle.bq_workload.specs.Lengths.{is_long, longest, takes_time}
use Rattle.bq_workload.specs.Soundness.{allows_one, first_flaw, flaws_of_actions, flaws_of_count, flaws_of_doing, flaws_of_kind, flaws_of_kinds, flaws_of_machine, has_name, has_numbers, has_times, is_action, unless}
use Rattle.bq_workload.proofs.SoundLemmas.{holds, parts_sound}
use Rattle.bq_simulate.proofs.AdmissionTakenLemmas.{numbers_of}
use Rattle.bq_disc.specs.declared.clock.TheConstants.{LATEST}

-- a kind has tasks, and actions, of which one takes time. Each has a length in its range, or wakes one of the kinds
pub record IsSoundKind (kinds : ℕ) (kind : TaskKind) : Type 0 where
  pub tasks : 1 ≤ kind.count
  pub actions : 1 ≤ length kind.actions.items
  pub time : list_any takes_time kind.actions.items ≡ true
  pub wakes : (place number : ℕ) → slice_get kind.actions.items place ≡ Some (Wake number) → number < kinds
  pub each : (place : ℕ) (action : Action) → slice_get kind.actions.items place ≡ Some action → is_action kinds action ≡ true

-- where one action takes time there is at least one
some_action : (actions : List Action) → list_any takes_time actions ≡ true → 1 ≤ length actions
some_action [] h = absurd (false≢true h)
some_action (x ∷ xs) h = omega arith

-- where actions have no flaw each has a length in its range, or wakes one of the kinds
action_sound : (kinds number from : ℕ) (actions : List Action) (place : ℕ) (action : Action)
    → slice_get (flaws_of_actions kinds number from actions) 0 ≡ None → slice_get actions place ≡ Some action
    → is_action kinds action ≡ true
action_sound kinds number from [] place action h at = absurd (none-some action at)
action_sound kinds number from (x ∷ xs) zero action h at =
    let first = parts_sound (unless (is_action kinds x) (flaw.Action number from)) (flaws_of_actions kinds number (from + 1) xs) h in
    subst (λ (a : Action). is_action kinds a ≡ true) (same_Some x action at) (holds (is_action kinds x) (flaw.Action number from) first.0)
action_sound kinds number from (x ∷ xs) (suc place) action h at =
    let first = parts_sound (unless (is_action kinds x) (flaw.Action number from)) (flaws_of_actions kinds number (from + 1) xs) h in
    action_sound kinds number (from + 1) xs place action first.1 at

-- a kind without a flaw has tasks, and actions as they are to be
kind_sound : (processors kinds number : ℕ) (kind : TaskKind) → slice_get (flaws_of_kind processors kinds number kind) 0 ≡ None
    → IsSoundKind kinds kind
kind_sound processors kinds number kind h =
    let all =
    parts_sound (unless (has_name kind) (flaw.Name number) ++ unless (has_numbers kind) (flaw.Kind number)
    ++ unless (allows_one processors kind.mask) (flaw.Mask number)) (flaws_of_doing kinds number kind.actions.items) h in
    let mask =
    parts_sound (unless (has_name kind) (flaw.Name number) ++ unless (has_numbers kind) (flaw.Kind number))
    (unless (allows_one processors kind.mask) (flaw.Mask number)) all.0 in
    let numbers = parts_sound (unless (has_name kind) (flaw.Name number)) (unless (has_numbers kind) (flaw.Kind number)) mask.0 in
    let doing =
    parts_sound (flaws_of_actions kinds number 0 kind.actions.items)
    (unless (list_any takes_time kind.actions.items) (flaw.NoTime number)) all.1 in
    record {
      tasks = (numbers_of kind (holds (has_numbers kind) (flaw.Kind number) numbers.1)).some;
      actions = some_action kind.actions.items (holds (list_any takes_time kind.actions.items) (flaw.NoTime number) doing.1);
      time = holds (list_any takes_time kind.actions.items) (flaw.NoTime number) doing.1;
      wakes = λ place other at. ltb-true other kinds (action_sound kinds number 0 kind.actions.items place (Wake other) doing.0 at);
      each = λ place action at. action_sound kinds number 0 kind.actions.items place action doing.0 at;
    }

-- the numbers of a kind are in their ranges, and its mask allows one of the processors
pub record IsAdmissible (processors : ℕ) (kind : TaskKind) : Type 0 where
  pub numbers : has_numbers kind ≡ true
  pub mask : allows_one processors kind.mask ≡ true

-- a kind without a flaw has numbers in their ranges, and a mask that allows a processor
kind_admissible : (processors kinds number : ℕ) (kind : TaskKind)
    → slice_get (flaws_of_kind processors kinds number kind) 0 ≡ None → IsAdmissible processors kind
kind_admissible processors kinds number kind h =
    let all =
    parts_sound (unless (has_name kind) (flaw.Name number) ++ unless (has_numbers kind) (flaw.Kind number)
    ++ unless (allows_one processors kind.mask) (flaw.Mask number)) (flaws_of_doing kinds number kind.actions.items) h in
    let mask =
    parts_sound (unless (has_name kind) (flaw.Name number) ++ unless (has_numbers kind) (flaw.Kind number))
    (unless (allows_one processors kind.mask) (flaw.Mask number)) all.0 in
    let numbers = parts_sound (unless (has_name kind) (flaw.Name number)) (unless (has_numbers kind) (flaw.Kind number)) mask.0 in
    record {
      numbers = holds (has_numbers kind) (flaw.Kind number) numbers.1;
      mask = holds (allows_one processors kind.mask) (flaw.Mask number) mask.1;
    }

-- what each kind without a flaw is, each of these kinds is
each_kind : (P : TaskKind → Type 0) (processors kinds from : ℕ)
    → ((number : ℕ) (kind : TaskKind) → slice_get (flaws_of_kind processors kinds number kind) 0 ≡ None → P kind)
    → (all : List TaskKind) (number : ℕ) (kind : TaskKind) → slice_get (flaws_of_kinds processors kinds from all) 0 ≡ None
    → slice_get all number ≡ Some kind
    → P kind
each_kind P processors kinds from is [] number kind h at = absurd (none-some kind at)
each_kind P processors kinds from is (x ∷ xs) zero kind h at =
    let first = parts_sound (flaws_of_kind processors kinds from x) (flaws_of_kinds processors kinds (from + 1) xs) h in
    subst P (same_Some x kind at) (is from x first.0)
each_kind P processors kinds from is (x ∷ xs) (suc number) kind h at =
    let first = parts_sound (flaws_of_kind processors kinds from x) (flaws_of_kinds processors kinds (from + 1) xs) h in
    each_kind P processors kinds (from + 1) is xs number kind first.1 at

-- each kind of a workload that can be followed is sound
pub sound_kind : (w : Workload) (number : ℕ) (kind : TaskKind)
    → first_flaw w ≡ None → slice_get w.tasks.items number ≡ Some kind
    → IsSoundKind (length w.tasks.items) kind
sound_kind w number kind sound at =
    let kinds = flaws_of_kinds (processors_in w.machine.size) (length w.tasks.items) 0 w.tasks.items in
    let all = parts_sound (flaws_of_machine w.machine ++ kinds) (flaws_of_count w.tasks.items) sound in
    each_kind (IsSoundKind (length w.tasks.items)) (processors_in w.machine.size) (length w.tasks.items) 0
    (kind_sound (processors_in w.machine.size) (length w.tasks.items)) w.tasks.items number kind
    (parts_sound (flaws_of_machine w.machine) kinds all.0).1 at

-- each kind of a workload that can be followed can be admitted
pub admissible_kind : (w : Workload) (number : ℕ) (kind : TaskKind)
    → first_flaw w ≡ None → slice_get w.tasks.items number ≡ Some kind
    → IsAdmissible (processors_in w.machine.size) kind
admissible_kind w number kind sound at =
    let kinds = flaws_of_kinds (processors_in w.machine.size) (length w.tasks.items) 0 w.tasks.items in
    let all = parts_sound (flaws_of_machine w.machine ++ kinds) (flaws_of_count w.tasks.items) sound in
    each_kind (IsAdmissible (processors_in w.machine.size)) (processors_in w.machine.size) (length w.tasks.items) 0
    (kind_admissible (processors_in w.machine.size) (length w.tasks.items)) w.tasks.items number kind
    (parts_sound (flaws_of_machine w.machine) kinds all.0).1 at

-- each kind of a workload that can be followed has tasks
pub sound_count : (w : Workload) (number : ℕ) → first_flaw w ≡ None → number < length w.tasks.items → 1 ≤ kind_count w.tasks.items number
sound_count w number sound low = one w.tasks.items refl
  where
    one : (kinds : List TaskKind) → w.tasks.items ≡ kinds → 1 ≤ kind_count w.tasks.items number
    one [] e = absurd (omega (arith, low, ap (λ (l : List TaskKind). length l) e))
    one (x ∷ xs) e =
        let kind : TaskKind = get_or w.tasks.items number x in
        let at = slice_get-get_or w.tasks.items number x low in
        subst (λ (o : Option TaskKind). 1 ≤ option_map_or (λ (k : TaskKind). k.count) o 0) (sym at)
        (sound_kind w number kind sound at).tasks

-- times of a machine that can be counted
pub record HasTimes (machine : Setup) : Type 0 where
  pub tick : 1 ≤ machine.tick
  pub balance : 1 ≤ machine.balance
  pub duration : machine.duration ≤ LATEST
  pub tick_counted : machine.tick ≤ LATEST
  pub balance_counted : machine.balance ≤ LATEST

-- a machine whose times pass the test has times that can be counted
times_of : (machine : Setup) → has_times machine ≡ true → HasTimes machine
times_of machine h =
    let all =
    and_parts (is_long machine.duration && is_long machine.tick && is_long machine.balance)
    (nat_le machine.migration_cost longest) h in
    let three = and_parts (is_long machine.duration && is_long machine.tick) (is_long machine.balance) all.0 in
    let two = and_parts (is_long machine.duration) (is_long machine.tick) three.0 in
    let long = leb-true machine.duration longest (and_parts (nat_le 1 machine.duration) (nat_le machine.duration longest) two.0).1 in
    record {
      tick = leb-true 1 machine.tick (and_parts (nat_le 1 machine.tick) (nat_le machine.tick longest) two.1).0;
      balance = leb-true 1 machine.balance (and_parts (nat_le 1 machine.balance) (nat_le machine.balance longest) three.1).0;
      duration = omega (arith, long);
      tick_counted = omega (arith, leb-true machine.tick longest (and_parts (nat_le 1 machine.tick) (nat_le machine.tick longest) two.1).1);
      balance_counted = omega (
        arith,
        leb-true machine.balance longest (and_parts (nat_le 1 machine.balance) (nat_le machine.balance longest) three.1).1,
      );
    }

-- the machine of a workload that can be followed has them
pub sound_times : (w : Workload) → first_flaw w ≡ None → HasTimes w.machine
sound_times w sound =
    let kinds = flaws_of_kinds (processors_in w.machine.size) (length w.tasks.items) 0 w.tasks.items in
    let all = parts_sound (flaws_of_machine w.machine ++ kinds) (flaws_of_count w.tasks.items) sound in
    times_of w.machine (holds (has_times w.machine) flaw.Machine (parts_sound (flaws_of_machine w.machine) kinds all.0).0)
