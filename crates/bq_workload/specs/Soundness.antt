-- Which workloads can be followed, and what the flaws of the others are. Kinds of tasks and their actions are numbered from 0.
use Rattle.std.specs.Prelude.{◌≡◌, ℕ, ◌+◌, ◌<◌, Bool, true, false, ◌&&◌, nat_lt, nat_le, List, [], ◌∷◌, ◌++◌, Option, Some, None, length, slice_get, string_bytes}
use Rattle.std.specs.List.{list_any, range_with_len}
use Rattle.bq_workload.specs.declared.action.Action.{Action}
use Rattle.bq_workload.specs.declared.action.Action.TheVariants.{Run, Sleep, Wait, Wake}
use Rattle.bq_workload.specs.declared.setup.Setup.{Setup}
use Rattle.bq_workload.specs.declared.sound.Unsound.{Unsound}
use Rattle.bq_workload.specs.declared.sound.Unsound.TheVariants as flaw
use Rattle.bq_workload.specs.declared.workload.TaskKind.{TaskKind}
use Rattle.bq_workload.specs.declared.workload.Workload.{Workload}
use Rattle.bq_workload.specs.Kinds.{tasks_in}
use Rattle.bq_workload.specs.Lengths.{is_length, is_long, longest, takes_time}
use Rattle.bq_workload.specs.declared.limits.TheConstants.{LONGEST_NAME}
use Rattle.bq_disc.specs.Masks.{allows}
use Rattle.bq_disc.specs.declared.limits.TheConstants.{GREATEST_SLICE, LEAST_SLICE, TASKS}
use Rattle.bq_weights.specs.VirtualTime.{is_nice}
use Rattle.bq_words.specs.Sizes.{processors_in}

-- the flaw, if something does not hold
abbrev pub unless : Bool → Unsound → List Unsound
unless true flaw = []
unless false flaw = flaw ∷ []

-- a machine runs, ticks and balances at times that can be counted
abbrev pub has_times : Setup → Bool
has_times machine = is_long machine.duration && is_long machine.tick && is_long machine.balance && nat_le machine.migration_cost longest

-- a kind repeats its actions for ever, or at least once
abbrev pub goes_round : Option ℕ → Bool
goes_round None = true
goes_round (Some loops) = nat_le 1 loops

-- the name of a kind has at most this many bytes
abbrev pub has_name : TaskKind → Bool
has_name kind = nat_le (length (string_bytes kind.name)) LONGEST_NAME

-- there are tasks of a kind, and its numbers are in their ranges
abbrev pub has_numbers : TaskKind → Bool
has_numbers kind =
    nat_le 1 kind.count && is_nice kind.nice && nat_le LEAST_SLICE kind.slice && nat_le kind.slice GREATEST_SLICE
    && nat_le kind.start longest && goes_round kind.loops

-- a mask allows one of this many processors
abbrev pub allows_one : ℕ → ℕ → Bool
allows_one processors mask = list_any (allows mask) (range_with_len 0 processors)

-- the first of this many processors that a mask allows
pub record IsFirstAllowed (processors mask first : ℕ) : Type 0 where
  pub within : first < processors
  pub allowed : allows mask first ≡ true
  pub least : (lower : ℕ) → lower < first → allows mask lower ≡ false

-- an action has a length in its range, or wakes one of this many kinds
abbrev pub is_action : ℕ → Action → Bool
is_action kinds (Run length) = is_length length
is_action kinds (Sleep length) = is_length length
is_action kinds Wait = true
is_action kinds (Wake kind) = nat_lt kind kinds

-- the flaw of a machine, if it has one
abbrev pub flaws_of_machine : Setup → List Unsound
flaws_of_machine machine = unless (has_times machine) flaw.Machine

-- the flaws of a kind's actions, from a place on
abbrev pub flaws_of_actions : ℕ → ℕ → ℕ → List Action → List Unsound
flaws_of_actions kinds number place [] = []
flaws_of_actions kinds number place (action ∷ actions) = unless (is_action kinds action) (flaw.Action number place) ++ flaws_of_actions kinds number (place + 1) actions

-- the flaws of what a kind does; one of its actions at least takes time
abbrev pub flaws_of_doing : ℕ → ℕ → List Action → List Unsound
flaws_of_doing kinds number actions = flaws_of_actions kinds number 0 actions ++ unless (list_any takes_time actions) (flaw.NoTime number)

-- the flaws of one kind, which is one of this many, on this many processors
abbrev pub flaws_of_kind : ℕ → ℕ → ℕ → TaskKind → List Unsound
flaws_of_kind processors kinds number kind =
    unless (has_name kind) (flaw.Name number) ++ unless (has_numbers kind) (flaw.Kind number) ++ unless (allows_one processors kind.mask) (flaw.Mask number)
    ++ flaws_of_doing kinds number kind.actions.items

-- the flaws of the kinds from a number on
abbrev pub flaws_of_kinds : ℕ → ℕ → ℕ → List TaskKind → List Unsound
flaws_of_kinds processors kinds number [] = []
flaws_of_kinds processors kinds number (kind ∷ more) = flaws_of_kind processors kinds number kind ++ flaws_of_kinds processors kinds (number + 1) more

-- the flaw of all kinds together: they have too many tasks
abbrev pub flaws_of_count : List TaskKind → List Unsound
flaws_of_count kinds = unless (nat_le (tasks_in kinds) TASKS) flaw.Tasks

-- all flaws of a workload, in the order in which they are looked for
abbrev pub flaws_of : Workload → List Unsound
flaws_of w = flaws_of_machine w.machine ++ flaws_of_kinds (processors_in w.machine.size) (length w.tasks.items) 0 w.tasks.items ++ flaws_of_count w.tasks.items

-- the first of them; a workload without one can be followed
abbrev pub first_flaw : Workload → Option Unsound
first_flaw w = slice_get (flaws_of w) 0
