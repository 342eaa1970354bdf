-- Which lengths there are, and which actions take time.
use Rattle.std.specs.Prelude.{ℕ, ◌-◌, ◌^◌, Bool, true, false, ◌&&◌, nat_le}
use Rattle.bq_workload.specs.declared.action.Length.{Length}
use Rattle.bq_workload.specs.declared.action.Length.TheVariants.{Fixed, Uniform, Exponential}
use Rattle.bq_workload.specs.declared.action.Action.{Action}
use Rattle.bq_workload.specs.declared.action.Action.TheVariants.{Run, Sleep, Wait, Wake}

-- the longest length, in nanoseconds
abbrev pub longest : ℕ
longest = 2 ^ 48 - 1

-- at least 1 and at most the longest
abbrev pub is_long : ℕ → Bool
is_long n = nat_le 1 n && nat_le n longest

-- the numbers of a length are in range, and its least is at most its greatest
abbrev pub is_length : Length → Bool
is_length (Fixed n) = is_long n
is_length (Uniform least greatest) = nat_le 1 least && nat_le least greatest && nat_le greatest longest
is_length (Exponential mean) = is_long mean

-- an action takes time whatever other tasks do
abbrev pub takes_time : Action → Bool
takes_time (Run length) = true
takes_time (Sleep length) = true
takes_time Wait = false
takes_time (Wake kind) = false
