use Rattle.std.proofs.Common.{ℕ, ◌≤◌, ◌+◌, List, [], ◌++◌, get_or, length, take, take_all, refl, sym, ap, ◌∙◌, subst, arith}
use Rattle.std.proofs.lemmas.Option.{slice_get_read}
use Rattle.bq_workload.specs.declared.roster.Roster.{Roster}
use Rattle.bq_workload.specs.declared.workload.TaskKind.{TaskKind}
use Rattle.bq_workload.specs.Kinds.{tasks_in}
use Rattle.bq_words.specs.Sizes.{processors_in}
use Rattle.bq_simulate.specs.Actions.{first_task_of}
use Rattle.bq_simulate.specs.Deeds.{Deed}
use Rattle.bq_simulate.specs.GoingWell.{OpensWell}
use Rattle.bq_simulate.specs.Steps.{AreAdmitted, AreAllAdmitted, AreJustEvents}
use Rattle.bq_simulate.proofs.AdmitInTurnLemmas.{AreAllAdmitted-next}
use Rattle.bq_simulate.proofs.DeedLemmas.{GoesOnBy-join, GoesOnBy-same, GoesOnBy-unreported, GoesOnBy-weaker, OnlyPlansOrCounts-here}
use Rattle.bq_simulate.proofs.GoesWellLemmas.{err-by}
use Rattle.bq_simulate.proofs.OpensWellLemmas.{begun-well, streams-there}
use Rattle.bq_simulate.proofs.TasksOfKindLemmas.{first-more}
use Rattle.bq_simulate.proofs.simulation.Simulation.admit.Goals as goal

pub kinds-init : goal.kinds-init
kinds-init g c =
    let w = c.args.workload.now in
    record {
      goes_on = GoesOnBy-same g.S.Sink.takes (AreAllAdmitted (processors_in w.machine.size) 0 0 []) refl _ _ _ (OnlyPlansOrCounts-here _) w.tasks.items;
      tasks = c.requires.tasks;
      streams = c.requires.streams;
      well = λ opens. opens;
      firsts = omega arith;
    }

pub admit_kind-requires-clause-kind : goal.admit_kind-requires-clause-kind
admit_kind-requires-clause-kind g c =
    let same = c.deref-kind-items.ensures.value in
    slice_get_read c.args.workload.now.tasks.items _ c.kinds.number c.kind-item.result (ap length same) c.kinds-test.true
    (c.kind-item.is ∙ ap (λ l. get_or l c.kinds.number c.kind-item.result) same)

pub admit_kind-requires-clause-first : goal.admit_kind-requires-clause-first
admit_kind-requires-clause-first g c =
    ap (λ (r : Roster). length r.by_task.items) c.in_ok-begin_kind.ensures.by_task ∙ c.kinds.invariant.tasks

pub admit_kind-requires-clause-streams : goal.admit_kind-requires-clause-streams
admit_kind-requires-clause-streams g c = ap (λ v. length v.items) c.in_ok-begin_kind.ensures.streams ∙ c.kinds.invariant.streams

pub kinds-preserved : goal.kinds-preserved
kinds-preserved g c =
    let takes = g.S.Sink.takes in
    let w = c.args.workload.now in
    let kinds = w.tasks.items in
    let all = processors_in w.machine.size in
    let number = c.kinds.number in
    let kind = c.kind-item.result in
    let same = c.deref-kind-items.ensures.value in
    let there =
    slice_get_read kinds _ number kind (ap length same) c.kinds-test.true
    (c.kind-item.is ∙ ap (λ l. get_or l number kind) same) in
    let first = first_task_of kinds number in
    let before = AreAllAdmitted all 0 0 (take number kinds) in
    let these = AreAdmitted all number kind first kind.count in
    let after = AreAllAdmitted all 0 0 (take (number + 1) kinds) in
    let more : (xs ys : List Deed) → before xs → these ys → after (xs ++ ys) =
    λ xs ys h k. AreAllAdmitted-next all kinds number kind xs ys there h k in
    let tasks = ap (λ (r : Roster). length r.by_task.items) c.in_ok-begin_kind.ensures.by_task ∙ c.kinds.invariant.tasks in
    let streams = ap (λ v. length v.items) c.in_ok-begin_kind.ensures.streams ∙ c.kinds.invariant.streams in
    let next = sym (first-more kinds number kind there) in
    record {
      goes_on =
          GoesOnBy-join takes kinds before these after more _ _ _ _ _ _ c.kinds.invariant.goes_on
          (GoesOnBy-join takes kinds (AreJustEvents []) these these
          (λ xs ys none are. subst (λ (l : List Deed). these (l ++ ys)) (sym none) are) _ _ _ _ _ _
          (GoesOnBy-unreported takes kinds (AreJustEvents []) _ _ _ (c.in_ok-begin_kind.ensures.goes_on kinds c.kinds.invariant.streams))
          c.in_ok-admit_kind.ensures.goes_on);
      tasks = c.in_ok-admit_kind.ensures.tasks ∙ ap (λ n. n + kind.count) tasks ∙ next;
      streams = c.in_ok-admit_kind.ensures.streams ∙ ap (λ n. n + kind.count) streams ∙ next;
      well = λ opens.
          let begun =
          begun-well takes w first c.kinds.sink _ c.begin_kind.new.self
          (c.in_ok-begin_kind.ensures.goes_on kinds c.kinds.invariant.streams) c.begin_kind.ensures.counts
          (c.kinds.invariant.well opens) in
          subst (λ (n : ℕ). OpensWell w n c.admit_kind.new.self) next (c.in_ok-admit_kind.ensures.well begun);
      firsts = omega (
        arith,
        ap (λ v. length v.items) c.in_ok-admit_kind.ensures.firsts,
        c.in_ok-begin_kind.ensures.firsts,
        c.kinds.invariant.firsts,
      );
    }

pub returns-clause-streams : goal.returns-clause-streams
returns-clause-streams g c =
    let kinds = c.args.workload.now.tasks.items in
    let late : length kinds ≤ c.kinds.number = omega (arith, ap length c.deref-kind-items.ensures.value, c.kinds-test.false) in
    c.kinds.invariant.streams ∙ ap tasks_in (take_all c.kinds.number kinds late)

pub returns-clause-goes_on : goal.returns-clause-goes_on
returns-clause-goes_on g c =
    let w = c.args.workload.now in
    let kinds = w.tasks.items in
    let all = processors_in w.machine.size in
    let number = c.kinds.number in
    let late : length kinds ≤ number = omega (arith, ap length c.deref-kind-items.ensures.value, c.kinds-test.false) in
    GoesOnBy-weaker g.S.Sink.takes kinds (AreAllAdmitted all 0 0 (take number kinds)) (AreAllAdmitted all 0 0 kinds)
    (λ xs are. subst (λ (l : List TaskKind). AreAllAdmitted all 0 0 l xs) (take_all number kinds late) are) _ _ _ _
    c.kinds.invariant.goes_on

pub returns-clause-firsts : goal.returns-clause-firsts
returns-clause-firsts g c =
    let kinds = c.args.workload.now.tasks.items in
    let late : length kinds ≤ c.kinds.number = omega (arith, ap length c.deref-kind-items.ensures.value, c.kinds-test.false) in
    λ none. omega (arith, late, c.kinds.invariant.firsts, none)

pub returns-in_err-begin_kind-clause-ends : goal.returns-in_err-begin_kind-clause-ends
returns-in_err-begin_kind-clause-ends g c = λ opens none.
    let w = c.args.workload.now in
    let well = c.kinds.invariant.well opens in
    let wants =
    c.in_err-begin_kind.ensures.ends (well.counted ∙ sym (streams-there w _ _ well))
    (omega (arith, c.kinds.invariant.firsts, none)) in
    err-by c.from_residual.result c.from_residual.ensures.1 (λ e is. is ∙ wants)

pub returns-in_err-admit_kind-clause-ends : goal.returns-in_err-admit_kind-clause-ends
returns-in_err-admit_kind-clause-ends g c = λ opens none.
    let w = c.args.workload.now in
    let kinds = w.tasks.items in
    let begun =
    begun-well g.S.Sink.takes w (first_task_of kinds c.kinds.number) c.kinds.sink _ c.begin_kind.new.self
    (c.in_ok-begin_kind.ensures.goes_on kinds c.kinds.invariant.streams) c.begin_kind.ensures.counts
    (c.kinds.invariant.well opens) in
    let wants = c.in_err-admit_kind.ensures.ends begun in
    err-by c.from_residual-in_err-admit_kind.result c.from_residual-in_err-admit_kind.ensures.1 (λ e is. is ∙ wants)

pub returns-clause-well : goal.returns-clause-well
returns-clause-well g c = λ opens.
    let w = c.args.workload.now in
    let kinds = w.tasks.items in
    let late : length kinds ≤ c.kinds.number = omega (arith, ap length c.deref-kind-items.ensures.value, c.kinds-test.false) in
    subst (λ (n : ℕ). OpensWell w n c.kinds.self) (ap tasks_in (take_all c.kinds.number kinds late)) (c.kinds.invariant.well opens)
