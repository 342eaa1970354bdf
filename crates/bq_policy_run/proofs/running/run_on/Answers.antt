use Rattle.std.proofs.Common.{◌≡◌, ◌∙◌, ◌++◌, ℕ, Global, ap, length, map, string_bytes, List, subst}
use Rattle.std.specs.Prelude.{is_some}
use Rattle.std.proofs.lemmas.Option.{MatchOption-at_some}
use Rattle.std.specs.declared.vec.Vec.{Vec}
use Rattle.bq_interp.specs.declared.traced.Snapshot.{Snapshot}
use Rattle.bq_policy_run.specs.Changes.{calls_text}
use Rattle.bq_policy_run.specs.Runs.{kept_in}
use Rattle.bq_policy_run.specs.Running.{ReportsRun, changed_text}
use Rattle.bq_policy_run.specs.Tracing.{ReportsSteps}
use Rattle.bq_policy_run.proofs.RunLemmas.{changes_same, has_run}
use Rattle.bq_policy_run.proofs.running.run_on.Goals as goal

pub returns : goal.returns
returns c =
    let runs = MatchOption-at_some _ _ _ c.in-Some-Some.is-0 c.run_often-others.ensures.runs in
    let run = MatchOption-at_some _ _ _ c.in-Some-Some.is-1 c.in_ok-last.ensures.run in
    let snapshots = MatchOption-at_some _ _ _ c.in-Some-Some.is-1 c.in_ok-last.ensures.snapshots in
    let each = MatchOption-at_some _ _ _ c.in-Some-Some.is-1 c.in_ok-last.ensures.each in
    let executed : ReportsSteps c.args.words.now.report.is_traced c.args.verified.now c.trace_once.new.snapshots.items
    (string_bytes c.in_ok-executed.executed) =
    subst (λ (ms : List Snapshot).
    ReportsSteps c.args.words.now.report.is_traced c.args.verified.now ms (string_bytes c.in_ok-executed.executed))
    c.as_slice.ensures.value c.in_ok-executed.ensures in
    let shapes = c.in_ok-last.ensures.shapes ∙ c.run_often-others.ensures.others.shapes in
    let first = ap (λ (all : List (Vec ℕ Global)). map (λ v. v.items) all) c.as_slice-2.ensures.value ∙ c.in_ok-first.ensures in
    let changed : string_bytes c.in_ok-changes.changes
    ≡ changed_text c.args.series.now.inputs.maps c.trace_once.new.inputs.maps.bytes c.in-Some-Some.ran.calls.items =
    c.in_ok-changes.ensures
    ∙ ap (λ (lines : List ℕ). lines ++ calls_text c.in-Some-Some.ran.calls.items)
    (changes_same c.args.series.now.inputs.maps c.trace_once.new.inputs.maps _ shapes first) in
    let reported =
    subst (λ (context : List ℕ).
    ReportsRun c.args.verified.now context c.in-Some-Some.ran.r0 c.in-Some-Some.ran.steps
    (string_bytes c.in_ok-executed.executed) (string_bytes c.in_ok-changes.changes) (string_bytes c.args.line.now)
    (string_bytes c.in_ok-text.text))
    (ap (λ (context : Vec ℕ Global). context.items) c.in_ok-last.ensures.context) c.in_ok-text.ensures in
    let reported_exactly =
    subst (λ (lines : List ℕ).
    ReportsRun c.args.verified.now c.run_often-others.new.inputs.context.items c.in-Some-Some.ran.r0 c.in-Some-Some.ran.steps
    (string_bytes c.in_ok-executed.executed) lines (string_bytes c.args.line.now) (string_bytes c.in_ok-text.text))
    changed reported in
    has_run c.args.words.now.report.is_traced (is_some c.args.words.now.report.repeat)
    c.args.series.now.before c.args.verified.now c.args.series.now.inputs c.run_often-others.new.inputs
    c.trace_once.new.snapshots.items c.in-Some-Some.ran.steps c.in-Some-Some.ran.r0 c.in-Some-Some.ran.calls.items
    (kept_in c.trace_once.new.inputs) c.in_ok-text.text (string_bytes c.in_ok-executed.executed)
    (string_bytes c.args.line.now) runs c.run_often-others.ensures.others.context c.run_often-others.ensures.others.env run snapshots each
    executed c.requires.untimed reported_exactly

pub reported-requires : goal.reported-requires
reported-requires c =
    let whole = MatchOption-at_some _ _ _ c.in-Some-Some.is-1 c.in_ok-last.ensures.whole in
    ap (λ (context : Vec ℕ Global). length context.items) c.in_ok-last.ensures.context ∙ whole
