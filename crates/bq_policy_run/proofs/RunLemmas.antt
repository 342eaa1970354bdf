-- The last of some runs begins with what those before it left, and with the context, time and processor of the first.
use Rattle.std.proofs.Common.{◌≡◌, ℕ, Bool, false, List, [], length, sym, refl, String, string_bytes}
use Rattle.bq_maps.specs.Arrays.{Arrays}
use Rattle.bq_policy_run.specs.Changes.{changes_text, with_all}
use Rattle.std.specs.declared.alloc.Global.{Global}
use Rattle.bq_bpf.specs.declared.board.CounterCall.{CounterCall}
use Rattle.bq_bpf.specs.Runs.{start}
use Rattle.bq_verify.specs.Accepted.{Accepted}
use Rattle.bq_interp.specs.declared.traced.Snapshot.{Snapshot}
use Rattle.bq_interp.specs.Progress.{setting_of}
use Rattle.bq_interp.specs.Snapshots.{AreSnapshots}
use Rattle.bq_policy_run.specs.declared.inputs.Inputs.{Inputs}
use Rattle.bq_policy_run.specs.Runs.{AreRuns, IsRun, PersistentState, kept_in}
use Rattle.bq_policy_check.specs.declared.answered.Answered.TheVariants.{Done}
use Rattle.bq_policy_run.specs.Running.{HasRun, ReportsRun, changed_text}
use Rattle.bq_policy_run.specs.Tracing.{ReportsSteps}

-- where runs leave the shapes of maps as they are, what changed may be said of the maps before or of those after
pub changes_same : (first now : Arrays) (bytes : List (List ℕ))
    → now.shapes ≡ first.shapes → bytes ≡ first.bytes
    → changes_text (with_all now bytes) now ≡ changes_text first (with_all first now.bytes)
changes_same first now bytes shapes same =
    λ i. changes_text (record { shapes = shapes i; bytes = same i }) (record { shapes = shapes i; bytes = now.bytes })

-- the runs before leave context, time and processor as they are, so the last has those of the first
pub has_run : (traced timed : Bool) (others : ℕ) (program : Accepted) (inputs between : Inputs) (snapshots : List Snapshot)
    (steps answer : ℕ) (calls : List CounterCall) (after : PersistentState) (text : String Global) (executed timing : List ℕ)
    → AreRuns program inputs.context.items inputs.env.now inputs.env.processor others (kept_in inputs) (kept_in between)
    → between.context ≡ inputs.context → between.env ≡ inputs.env
    → IsRun program between.context.items between.env.now between.env.processor (kept_in between) steps calls answer after
    → AreSnapshots (setting_of program between.context.items between.env.now between.env.processor)
    (start between.maps.bytes) calls 0 snapshots
    → length snapshots ≡ steps → ReportsSteps traced program snapshots executed → (timed ≡ false → timing ≡ [])
    → ReportsRun program between.context.items answer steps executed (changed_text inputs.maps after.maps calls)
    timing (string_bytes text)
    → HasRun traced timed others program inputs (Done text)
has_run traced timed others program inputs between snapshots steps answer calls after text executed timing runs context env
    run are each steps_reported untimed reported = record {
      steps = steps;
      calls = calls;
      answer = answer;
      before = kept_in between;
      after = after;
      snapshots = snapshots;
      runs = runs;
      run = rw (sym context, sym env) run;
      are = rw (sym context, sym env) are;
      each = each;
      text = text;
      is = refl;
      executed = executed;
      steps_reported = steps_reported;
      timing = timing;
      untimed = untimed;
      reported = rw (sym context) reported;
    }
