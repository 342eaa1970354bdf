use Rattle.std.proofs.Common.{◌≡◌, ◌+◌, ◌<◌, None, false, true≢false, ℕ, suc, List, Option, ◌∷◌, [], ◌++◌, length, sym, ap, ◌∙◌, subst, arith, refl}
use Rattle.std.specs.Option.{option_map_or}
use Rattle.std.specs.Prelude.{IfNone, IfSome}
use Rattle.bq_workload.specs.declared.workload.TaskKind.{TaskKind}
use Rattle.bq_workload.specs.declared.roster.Roster.{Roster}
use Rattle.bq_workload.specs.Soundness.{IsFirstAllowed, allows_one}
use Rattle.bq_parts.specs.declared.event.Event.TheVariants.{Admit}
use Rattle.bq_words.specs.Sizes.{processors_in}
use Rattle.bq_simulate.specs.Actions.{first_task_of, kind_start}
use Rattle.bq_simulate.specs.Deeds.{Deed}
use Rattle.bq_simulate.specs.GoingWell.{OpensWell}
use Rattle.bq_simulate.specs.Steps.{AreAdmitted, AreJustEvents, IsAdmission, IsJoin}
use Rattle.bq_simulate.proofs.AdmitInTurnLemmas.{AreAdmitted-more, admission-of}
use Rattle.bq_simulate.proofs.DeedLemmas.{GoesOnBy-join, GoesOnBy-same, GoesOnBy-unreported, GoesOnBy-then, OnlyPlansOrCounts-here}
use Rattle.bq_simulate.proofs.GoesWellLemmas.{err-by}
use Rattle.bq_simulate.proofs.OpensWellLemmas.{few_before, opens-well, tasks-open}
use Rattle.bq_simulate.proofs.SoundWorkloadLemmas.{admissible_kind}
use Rattle.bq_simulate.proofs.TasksOfKindLemmas.{nth-of-kind}
use Rattle.bq_simulate.proofs.simulation.Simulation.admit_kind.Goals as goal

pub tasks-init : goal.tasks-init
tasks-init g c =
    let w = c.args.workload.now in
    record {
      goes_on =
          GoesOnBy-same g.S.Sink.takes
          (AreAdmitted (processors_in w.machine.size) c.args.number c.args.kind.now (first_task_of w.tasks.items c.args.number) 0)
          refl _ _ _ (OnlyPlansOrCounts-here _) w.tasks.items;
      tasks = omega arith;
      streams = omega arith;
      firsts = refl;
      counted = λ opens. omega (arith, opens.counted);
    }

pub tasks-preserved : goal.tasks-preserved
tasks-preserved g c =
    let takes = g.S.Sink.takes in
    let w = c.args.workload.now in
    let kinds = w.tasks.items in
    let kind = c.args.kind.now in
    let number = c.args.number in
    let all = processors_in w.machine.size in
    let count = c.tasks.counter in
    let first = first_task_of kinds number in
    let task = c.tasks.self.counts.tasks in
    let home = c.in_ok-home.home in
    let least : IsFirstAllowed c.processors-processors.result kind.mask home =
    subst (λ (o : Option ℕ). IfSome o (IsFirstAllowed c.processors-processors.result kind.mask)) c.in_ok-home.ensures.ok_part
    c.first_of_mask.ensures.some in
    let mine : IsFirstAllowed all kind.mask home =
    subst (λ (n : ℕ). IsFirstAllowed n kind.mask home) c.processors-processors.ensures least in
    let here : length c.admit_one.new.self.roster.by_task.items ≡ first + count =
    ap (λ (r : Roster). length r.by_task.items) c.in_ok-admit_one.ensures.by_task ∙ c.tasks.invariant.tasks
    ∙ ap (λ n. n + count) c.requires.first in
    let streams : length c.admit_one.new.self.streams.items ≡ first + count =
    ap (λ v. length v.items) c.in_ok-admit_one.ensures.streams ∙ c.tasks.invariant.streams
    ∙ ap (λ n. n + count) c.requires.streams in
    let of = nth-of-kind kinds kind _ number count c.requires.kind here c.tasks-test.true in
    let start : kind.start ≡ kind_start kinds number =
    sym (ap (λ (o : Option TaskKind). option_map_or (λ (k : TaskKind). k.start) o 0) c.requires.kind) in
    let admits = AreJustEvents (Admit task kind.nice kind.mask kind.slice ∷ []) in
    let joins = IsJoin number home in
    let one = IsAdmission all number kind task in
    let joined =
    GoesOnBy-join takes kinds admits joins one (λ xs ys admit join. admission-of all number kind task home xs ys mine admit join)
    _ _ _ _ _ _ (c.in_ok-admit_one.ensures.goes_on kinds)
    (GoesOnBy-unreported takes kinds joins _ _ _ (c.in_ok-add_task.ensures.goes_on kinds of start (streams ∙ sym here))) in
    let begun = GoesOnBy-then takes kinds one _ _ _ _ _ joined c.count_task.ensures.same in
    let before = AreAdmitted all number kind first count in
    let after = AreAdmitted all number kind first (count + 1) in
    let next : suc count ≡ count + 1 = omega arith in
    let more : (xs ys : List Deed) → before xs → one ys → after (xs ++ ys) =
    λ xs ys h k.
    subst (λ (n : ℕ). AreAdmitted all number kind first n (xs ++ ys)) next
    (AreAdmitted-more all number kind first count task xs ys (c.in_ok-add_task.ensures.number ∙ streams) h k) in
    record {
      goes_on = GoesOnBy-join takes kinds before one after more _ _ _ _ _ _ c.tasks.invariant.goes_on begun;
      tasks = ap (λ v. length v.items) c.count_task.ensures.by_task ∙ c.in_ok-add_task.ensures.tasks ∙ omega (arith, here, c.requires.first);
      streams =
          ap (λ v. length v.items) c.count_task.ensures.same.stays.streams ∙ c.in_ok-add_task.ensures.streams
          ∙ omega (arith, streams, c.requires.streams);
      firsts =
          c.count_task.ensures.same.stays.firsts ∙ c.in_ok-add_task.ensures.firsts ∙ c.in_ok-admit_one.ensures.firsts
          ∙ c.tasks.invariant.firsts;
      counted = λ opens.
          let here : task ≡ first + count = c.tasks.invariant.counted opens in
          let few : task < 1024 = few_before w number kind task count opens.sound c.requires.kind here c.tasks-test.true in
          omega (arith, here, c.count_task.ensures.counted few);
    }

pub returns-clause-well : goal.returns-clause-well
returns-clause-well g c = λ opens.
    let w = c.args.workload.now in
    let kind = c.args.kind.now in
    let number = c.args.number in
    let first = first_task_of w.tasks.items number in
    let count = c.tasks.counter in
    let all : count ≡ kind.count = omega (arith, c.tasks-test.false, c.tasks.auto.counter-end) in
    subst (λ (n : ℕ). OpensWell w (first + n) c.tasks.self) all
    (opens-well g.S.Sink.takes _ _ _ w first (first + count) _ _ (tasks-open w c.args.self.now.seed number kind first count)
    (c.tasks.invariant.counted opens) c.tasks.invariant.goes_on opens)

-- a kind without a flaw may use a processor
pub returns-in_err-home-clause-ends : goal.returns-in_err-home-clause-ends
returns-in_err-home-clause-ends g c = λ opens.
    let w = c.args.workload.now in
    let mask = (admissible_kind w c.args.number c.args.kind.now opens.sound c.requires.kind).mask in
    let nothing : c.first_of_mask.result ≡ None = c.in_err-home.ensures.ok_part in
    let none =
    subst (λ (o : Option ℕ). IfNone o (allows_one c.processors-processors.result c.args.kind.now.mask ≡ false)) nothing
    c.first_of_mask.ensures.none in
    absurd (true≢false (sym mask ∙ sym (ap (λ (n : ℕ). allows_one n c.args.kind.now.mask) c.processors-processors.ensures) ∙ none))

pub returns-in_err-admit_one-clause-ends : goal.returns-in_err-admit_one-clause-ends
returns-in_err-admit_one-clause-ends g c = λ opens.
    let w = c.args.workload.now in
    let kind = c.args.kind.now in
    let number = c.args.number in
    let first = first_task_of w.tasks.items number in
    let count = c.tasks.counter in
    let task = c.tasks.self.counts.tasks in
    let home = c.in_ok-home.home in
    let least : IsFirstAllowed c.processors-processors.result kind.mask home =
    subst (λ (o : Option ℕ). IfSome o (IsFirstAllowed c.processors-processors.result kind.mask)) c.in_ok-home.ensures.ok_part
    c.first_of_mask.ensures.some in
    let mine : IsFirstAllowed (processors_in w.machine.size) kind.mask home =
    subst (λ (n : ℕ). IsFirstAllowed n kind.mask home) c.processors-processors.ensures least in
    let here : task ≡ first + count = c.tasks.invariant.counted opens in
    let few : task < 1024 = few_before w number kind task count opens.sound c.requires.kind here c.tasks-test.true in
    let numbers = (admissible_kind w number kind opens.sound c.requires.kind).numbers in
    let well =
    opens-well g.S.Sink.takes _ _ _ w first (first + count) _ _ (tasks-open w c.args.self.now.seed number kind first count)
    here c.tasks.invariant.goes_on opens in
    let wants =
    c.in_err-admit_one.ensures.ends w home (subst (λ (n : ℕ). OpensWell w n c.tasks.self) (sym here) well)
    (record { few = few; numbers = numbers; first = mine }) in
    err-by c.from_residual-in_err-admit_one.result c.from_residual-in_err-admit_one.ensures.1 (λ e is. is ∙ wants)

pub returns-in_err-add_task-clause-ends : goal.returns-in_err-add_task-clause-ends
returns-in_err-add_task-clause-ends g c = λ opens.
    let w = c.args.workload.now in
    let kind = c.args.kind.now in
    let number = c.args.number in
    let first = first_task_of w.tasks.items number in
    let count = c.tasks.counter in
    let task = c.tasks.self.counts.tasks in
    let here : task ≡ first + count = c.tasks.invariant.counted opens in
    let few : task < 1024 = few_before w number kind task count opens.sound c.requires.kind here c.tasks-test.true in
    let streams : length c.admit_one.new.self.streams.items ≡ first + count =
    ap (λ v. length v.items) c.in_ok-admit_one.ensures.streams ∙ c.tasks.invariant.streams
    ∙ ap (λ n. n + count) c.requires.streams in
    let wants = c.in_err-add_task.ensures.ends (here ∙ sym streams) few in
    err-by c.from_residual-in_err-add_task.result c.from_residual-in_err-add_task.ensures.1 (λ e is. is ∙ wants)
