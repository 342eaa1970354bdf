-- What may still come at an instant, after each change of the accounts.
use Rattle.std.proofs.Common.{◌≡◌, ℕ, ◌+◌, ◌-◌, ◌/◌, ◌<◌, ◌≤◌, ◌⊎◌, inl, inr, Bool, true, false, List, Option, Some, None, refl, sym, subst, ap, ◌∙◌, arith}
use Rattle.std.specs.Prelude.{◌==◌, ◌&&◌, if◌then◌else◌, nat_le, option_map, slice_get, sum_by, unwrap_or}
use Rattle.std.specs.Option.{option_map_or}
use Rattle.std.proofs.lemmas.Bool.{cases_eq, eq-eqb, false≢true, le-leb, leb-true, ne_eqb}
use Rattle.std.proofs.lemmas.Option.{same_Some, slice_get_within}
use Rattle.std.proofs.Math.Nat.{add-mul}
use Rattle.std.proofs.lemmas.Nat.{div-add-mod', mod_below}
use Rattle.bq_workload.specs.declared.processor_state.ProcessorState.{ProcessorState}
use Rattle.bq_workload.specs.declared.progress.TaskProgress.{TaskProgress}
use Rattle.bq_workload.specs.declared.progress.TaskState.{TaskState}
use Rattle.bq_workload.specs.declared.progress.TaskState.TheVariants.{Asleep, Waiting, Runnable, Over}
use Rattle.bq_workload.specs.declared.periods.Periods.{Periods}
use Rattle.bq_workload.specs.declared.workload.TaskKind.{TaskKind}
use Rattle.bq_workload.specs.Accounts.{Accounts, changed_at, accounts_charged, idled, is_same, occupied, of_processor, of_task, accounts_passed, accounts_switched, taken_over}
use Rattle.bq_workload.specs.Dues.{next_multiple}
use Rattle.bq_workload.specs.TaskProgress.{lengthened, migrates_to, moved_to, run_for}
use Rattle.bq_workload.proofs.ListLemmas.{changed_at-here, changed_at-none, changed_at-others, some_or_none}
use Rattle.bq_workload.proofs.ProcessorAgreesLemmas.{both, charged-is, counted, since_now}
use Rattle.bq_simulate.specs.AtOnce.{in_all, steps_left_at, left_in, left_of_processor, left_of_task, steps_ahead, uncounted, uncounted_at}
use Rattle.bq_simulate.proofs.AccountsReadLemmas.{changed_at-length, charged_there}
use Rattle.bq_simulate.proofs.SumOverAllLemmas.{in_all-less, in_all-no_more, sum-changed, sum-no_more}

-- the next multiple comes later
pub multiple-past : (between now : ℕ) → 1 ≤ between → now < next_multiple between now
multiple-past between now some = omega (arith, add-mul (now / between) 1 between, div-add-mod' now between, mod_below now between some)

-- Tasks

-- a task has no more left where its phase is done only if it was before
in-no_more : (s : TaskState) (rings done later : Bool) (steps : ℕ)
    → (later ≡ true → done ≡ true) → left_in s rings later steps ≤ left_in s rings done steps
in-no_more Asleep rings done later steps h = omega arith
in-no_more Waiting rings done later steps h = omega arith
in-no_more Runnable rings done false steps h = omega arith
in-no_more Runnable rings true true steps h = omega arith
in-no_more Runnable rings false true steps h = absurd (false≢true (h refl))
in-no_more Over rings done later steps h = omega arith

-- a task that stands where it stood, and of whose phase nothing is left only where nothing was
task-no_more : (kinds : List TaskKind) (now : ℕ) (ls ms : List ProcessorState) (task : ℕ) (c : TaskProgress)
    (due got home : ℕ) (has_run : Bool)
    → (due ≤ got + uncounted now ms task → c.due ≤ c.got + uncounted now ls task)
    → left_of_task kinds now ms task (record c { due = due; got = got; home = home; has_run = has_run })
    ≤ left_of_task kinds now ls task c
task-no_more kinds now ls ms task c due got home has_run h =
    in-no_more c.task_state (c.timer == now) (nat_le c.due (c.got + uncounted now ls task))
    (nat_le due (got + uncounted now ms task)) (steps_ahead kinds c)
    (λ t. le-leb c.due (c.got + uncounted now ls task) (h (leb-true due (got + uncounted now ms task) t)))

-- one of the tasks has changed
one-changed : (F : ℕ → TaskProgress → ℕ) (f : TaskProgress → TaskProgress) (cs : List TaskProgress) (task : ℕ)
    → ((c : TaskProgress) → slice_get cs task ≡ Some c → F task (f c) ≤ F task c)
    → (n : ℕ) (x y : TaskProgress) → slice_get (changed_at f cs task) n ≡ Some x → slice_get cs n ≡ Some y
    → F n x ≤ F n y
one-changed F f cs task h n x y new old = elim (cases_eq n task) [
  | inr apart ↦
      let is : x ≡ y = same_Some x y (sym new ∙ changed_at-others f cs task n apart ∙ old) in
      subst (λ (z : TaskProgress). F n x ≤ F n z) is (omega arith)
  | inl same ↦
      let there : slice_get cs task ≡ Some y = ap (slice_get cs) (sym same) ∙ old in
      let is : f y ≡ x =
      same_Some (f y) x (sym (changed_at-here f cs task y there) ∙ ap (slice_get (changed_at f cs task)) (sym same) ∙ new) in
      subst (λ (z : TaskProgress). F n z ≤ F n y) is (subst (λ k. F k (f y) ≤ F k y) (sym same) (h y there))
]

-- to one of which no more is left
pub task-left : (kinds : List TaskKind) (now : ℕ) (f : TaskProgress → TaskProgress) (task : ℕ) (a : Accounts)
    → ((c : TaskProgress) → slice_get a.by_task task ≡ Some c →
    left_of_task kinds now a.by_processor task (f c) ≤ left_of_task kinds now a.by_processor task c)
    → steps_left_at kinds now (of_task f task a) ≤ steps_left_at kinds now a
task-left kinds now f task a h =
    let F = left_of_task kinds now a.by_processor in
    omega (
      arith,
      in_all-no_more F F (changed_at f a.by_task task) a.by_task (changed_at-length f a.by_task task)
          (one-changed F f a.by_task task h),
    )

-- to one of which so much less is left
pub task-takes : (kinds : List TaskKind) (now : ℕ) (f : TaskProgress → TaskProgress) (task d : ℕ)
    (a : Accounts) (c : TaskProgress)
    → slice_get a.by_task task ≡ Some c
    → left_of_task kinds now a.by_processor task (f c) + d ≤ left_of_task kinds now a.by_processor task c
    → steps_left_at kinds now (of_task f task a) + d ≤ steps_left_at kinds now a
task-takes kinds now f task d a c at less =
    let F = left_of_task kinds now a.by_processor in
    let cs = a.by_task in
    let its : (x : TaskProgress) → slice_get cs task ≡ Some x → F task (f x) + d ≤ F task x =
    λ x is. subst (λ (z : TaskProgress). F task (f z) + d ≤ F task z) (same_Some c x (sym at ∙ is)) less in
    let here : (x y : TaskProgress) → slice_get (changed_at f cs task) task ≡ Some x → slice_get cs task ≡ Some y
    → F task x + d ≤ F task y =
    λ x y new old.
    subst (λ (z : TaskProgress). F task z + d ≤ F task y) (same_Some (f y) x (sym (changed_at-here f cs task y old) ∙ new))
    (its y old) in
    omega (
      arith,
      in_all-less F F d task (changed_at f cs task) cs (changed_at-length f cs task) (slice_get_within cs task c at)
          (one-changed F f cs task (λ x is. omega (arith, its x is))) here,
    )

-- Processors

-- what runs at the processors has run no longer uncounted
uncounted-no_more : (kinds : List TaskKind) (now : ℕ) (cs : List TaskProgress) (ls ms : List ProcessorState)
    → ((task : ℕ) → uncounted now ms task ≤ uncounted now ls task)
    → in_all (left_of_task kinds now ms) cs ≤ in_all (left_of_task kinds now ls) cs
uncounted-no_more kinds now cs ls ms h =
    in_all-no_more (left_of_task kinds now ms) (left_of_task kinds now ls) cs cs refl (λ n x y new old.
    subst (λ (z : TaskProgress). left_of_task kinds now ms n x ≤ left_of_task kinds now ls n z) (same_Some x y (sym new ∙ old))
    (task-no_more kinds now ls ms n x x.due x.got x.home x.has_run (λ d. omega (arith, d, h n))))

-- a processor has changed, and what runs there has run no longer uncounted
pub processor-left : (kinds : List TaskKind) (now : ℕ) (f : ProcessorState → ProcessorState) (processor : ℕ) (a : Accounts)
    (l : ProcessorState)
    → slice_get a.by_processor processor ≡ Some l → ((task : ℕ) → uncounted_at now task (f l) ≤ uncounted_at now task l)
    → steps_left_at kinds now (of_processor f processor a) + left_of_processor now l ≤ steps_left_at kinds now a + left_of_processor now (f l)
processor-left kinds now f processor a l at h =
    let ls = a.by_processor in
    let less : (task : ℕ) → uncounted now (changed_at f ls processor) task ≤ uncounted now ls task = λ task.
    sum-no_more (uncounted_at now task) f ls processor (λ x is.
    subst (λ (z : ProcessorState). uncounted_at now task (f z) ≤ uncounted_at now task z)
    (same_Some l x (sym at ∙ is)) (h task)) in
    omega (
      arith,
      uncounted-no_more kinds now a.by_task ls (changed_at f ls processor) less,
      sum-changed (left_of_processor now) f ls processor l at,
    )

-- how many tasks a processor has changes nothing of it
pub sized-left : (kinds : List TaskKind) (now : ℕ) (g : ℕ → ℕ) (processor : ℕ) (a : Accounts)
    → steps_left_at kinds now (of_processor (λ l. record l { size = g l.size }) processor a) ≤ steps_left_at kinds now a
sized-left kinds now g processor a =
    let f : ProcessorState → ProcessorState = λ l. record l { size = g l.size } in
    elim (some_or_none (slice_get a.by_processor processor)) [
      | inl none ↦
          let is : steps_left_at kinds now (of_processor f processor a) ≡ steps_left_at kinds now a =
          ap (λ (ls : List ProcessorState). steps_left_at kinds now (both a.by_task ls))
          (changed_at-none f a.by_processor processor none) in
          omega (arith, is)
      | inr (l, at) ↦ omega (arith, processor-left kinds now f processor a l at (λ task. omega arith))
    ]

-- a task that goes from one queue to another changes nothing of what is left
pub passed-left : (kinds : List TaskKind) (now from to : ℕ) (task : Option ℕ) (a : Accounts)
    → steps_left_at kinds now (option_map_or (λ _. accounts_passed from to a) task a) ≤ steps_left_at kinds now a
passed-left kinds now from to None a = omega arith
passed-left kinds now from to (Some id) a = omega (
  arith,
  sized-left kinds now (λ n. n - 1) from a,
  sized-left kinds now (λ n. n + 1) to (of_processor (λ l. record l { size = l.size - 1 }) from a),
)

-- The time of a processor is counted

-- what runs at a processor has run uncounted since the time of the processor was counted last
runs-uncounted : (now task : ℕ) (l : ProcessorState) → l.run ≡ Some task → uncounted_at now task l ≡ now - l.since
runs-uncounted now task l runs =
    ap (λ (o : Option ℕ). if is_same o (Some task) then now - l.since else 0) runs
    ∙ ap (λ b. if b then now - l.since else 0) (eq-eqb task task refl)

-- what is counted until now has run no longer uncounted than anything else
just-counted : (b : Bool) (now m : ℕ) → (if b then now - now else 0) ≤ m
just-counted true now m = omega arith
just-counted false now m = omega arith

-- it has got what it had not been counted for, and lacks as much as before
pub charged-left : (kinds : List TaskKind) (now processor : ℕ) (a : Accounts) (l : ProcessorState)
    → slice_get a.by_processor processor ≡ Some l
    → steps_left_at kinds now (accounts_charged processor now a) ≤ steps_left_at kinds now a
charged-left kinds now processor a l at =
    let cs = a.by_task in
    let ls = a.by_processor in
    let ms = changed_at (since_now now) ls processor in
    let ran : ℕ = now - l.since in
    let same : sum_by (left_of_processor now) ms + left_of_processor now l
    ≡ sum_by (left_of_processor now) ls + left_of_processor now l =
    sum-changed (left_of_processor now) (since_now now) ls processor l at in
    let less : (task : ℕ) → uncounted now ms task ≤ uncounted now ls task = λ task.
    sum-no_more (uncounted_at now task) (since_now now) ls processor
    (λ x is. just-counted (is_same x.run (Some task)) now (uncounted_at now task x)) in
    let tasks : in_all (left_of_task kinds now ms) (counted l now cs) ≤ in_all (left_of_task kinds now ls) cs =
    elim (some_or_none l.run) [
      | inl none ↦
          let is : counted l now cs ≡ cs = ap (λ (o : Option ℕ). option_map_or (λ task. changed_at (run_for ran) cs task) o cs) none in
          subst (λ (ds : List TaskProgress). in_all (left_of_task kinds now ms) ds ≤ in_all (left_of_task kinds now ls) cs)
          (sym is) (uncounted-no_more kinds now cs ls ms less)
      | inr (task, runs) ↦
          let is : counted l now cs ≡ changed_at (run_for ran) cs task =
          ap (λ (o : Option ℕ). option_map_or (λ k. changed_at (run_for ran) cs k) o cs) runs in
          let its : uncounted now ms task + ran ≤ uncounted now ls task =
          omega (
            arith,
            sum-changed (uncounted_at now task) (since_now now) ls processor l at,
            runs-uncounted now task l runs,
            just-counted (is_same l.run (Some task)) now 0,
          ) in
          subst (λ (ds : List TaskProgress). in_all (left_of_task kinds now ms) ds ≤ in_all (left_of_task kinds now ls) cs)
          (sym is) (in_all-no_more (left_of_task kinds now ms) (left_of_task kinds now ls) (changed_at (run_for ran) cs task)
          cs (changed_at-length (run_for ran) cs task) (λ n x y new old. elim (cases_eq n task) [
            | inr apart ↦
                let one : y ≡ x = same_Some y x (sym old ∙ sym (changed_at-others (run_for ran) cs task n apart) ∙ new) in
                subst (λ (z : TaskProgress). left_of_task kinds now ms n z ≤ left_of_task kinds now ls n y) one
                (task-no_more kinds now ls ms n y y.due y.got y.home y.has_run (λ d. omega (arith, d, less n)))
            | inl here ↦
                let there : slice_get cs task ≡ Some y = ap (slice_get cs) (sym here) ∙ old in
                let one : run_for ran y ≡ x =
                same_Some (run_for ran y) x (sym (changed_at-here (run_for ran) cs task y there)
                ∙ ap (slice_get (changed_at (run_for ran) cs task)) (sym here) ∙ new) in
                subst (λ (z : TaskProgress). left_of_task kinds now ms n z ≤ left_of_task kinds now ls n y) one
                (subst (λ k. left_of_task kinds now ms k (run_for ran y) ≤ left_of_task kinds now ls k y) (sym here)
                (task-no_more kinds now ls ms task y y.due (y.got + ran) y.home y.has_run (λ d. omega (arith, d, its))))
          ]))
    ] in
    subst (λ (x : Accounts). steps_left_at kinds now x ≤ steps_left_at kinds now a) (sym (charged-is processor now l a at)) (omega (arith, tasks, same))

-- Another task runs

-- what a test counts once
pub at-most-one : (b : Bool) → (if b then 1 else 0) ≤ 1
at-most-one true = omega arith
at-most-one false = omega arith

-- a processor that falls idle has nothing left, except that it may look for a task
idled-left : (kinds : List TaskKind) (now processor : ℕ) (a : Accounts) (l : ProcessorState)
    → slice_get a.by_processor processor ≡ Some l
    → steps_left_at kinds now (of_processor (idled now) processor a) + left_of_processor now l ≤ steps_left_at kinds now a + 1
idled-left kinds now processor a l at =
    omega (
      arith,
      processor-left kinds now (idled now) processor a l at (λ task. omega arith),
      at-most-one (is_same (option_map (λ _. now) l.look) (Some now)),
    )

-- a task begins to run where one ran, or where none did: the next tick is later then
begun-left : (tick task now : ℕ) (l : ProcessorState) → 1 ≤ tick
    → left_of_processor now (occupied tick task now l) ≤ left_of_processor now l
begun-left tick task now l some =
    let looks : ℕ = if is_same l.look (Some now) then 1 else 0 in
    let form : Option ℕ → ℕ = λ o. if is_same o (Some now) then 2 else looks in
    elim (some_or_none l.tick) [
      | inr (time, is) ↦
          let e : left_of_processor now (occupied tick task now l) ≡ left_of_processor now l =
          ap (λ (o : Option ℕ). form (Some (unwrap_or o (next_multiple tick now)))) is ∙ sym (ap form is) in
          omega (arith, e)
      | inl none ↦
          let e : left_of_processor now (occupied tick task now l) ≡ looks =
          ap (λ (o : Option ℕ). form (Some (unwrap_or o (next_multiple tick now)))) none
          ∙ ap (λ b. if b then 2 else looks) (ne_eqb (next_multiple tick now) now (λ x. omega (arith, x, multiple-past tick now some))) in
          let k : left_of_processor now l ≡ looks = ap form none in
          omega (arith, e, k)
    ]

-- a task that moves to a processor leaves no more to come
moved-left : (kinds : List TaskKind) (now processor cost task : ℕ) (a : Accounts)
    → steps_left_at kinds now (of_task (moved_to processor cost) task a) ≤ steps_left_at kinds now a
moved-left kinds now processor cost task a =
    task-left kinds now (moved_to processor cost) task a (λ c at.
    let b : Bool = migrates_to processor c && nat_le c.got c.due in
    let more : c.due ≤ (if b then lengthened cost c.due else c.due) =
    elim b as (λ x. c.due ≤ (if x then lengthened cost c.due else c.due)) [ true ↦ omega arith | false ↦ omega arith ] in
    task-no_more kinds now a.by_processor a.by_processor task c (if b then lengthened cost c.due else c.due) c.got
    processor true (λ d. omega (arith, d, more)))

-- a task that begins to run at a processor leaves no more to come
taken-left : (kinds : List TaskKind) (periods : Periods) (now processor task : ℕ) (a : Accounts) (l : ProcessorState)
    → 1 ≤ periods.tick → slice_get a.by_processor processor ≡ Some l
    → steps_left_at kinds now (taken_over processor (Some task) now periods a) ≤ steps_left_at kinds now a
taken-left kinds periods now processor task a l some at =
    omega (
      arith,
      moved-left kinds now processor periods.migration_cost task (of_processor (occupied periods.tick task now) processor a),
      processor-left kinds now (occupied periods.tick task now) processor a l at
          (λ k. just-counted (is_same (Some task) (Some k)) now (uncounted_at now k l)),
      begun-left periods.tick task now l some,
    )

-- no more is left, unless the processor falls idle and looks for a task then
abbrev pub IsSwitchedLeft : List TaskKind → ℕ → Accounts → ProcessorState → Accounts → Type 0
IsSwitchedLeft kinds now a l b =
    (steps_left_at kinds now b ≤ steps_left_at kinds now a) ⊎ (steps_left_at kinds now b + left_of_processor now l ≤ steps_left_at kinds now a + 1)

-- so it is once the time of the processor is counted and another task runs, or none
over-left : (run : Option ℕ) (kinds : List TaskKind) (periods : Periods) (now processor : ℕ) (a : Accounts)
    (l : ProcessorState)
    → 1 ≤ periods.tick → slice_get a.by_processor processor ≡ Some l
    → IsSwitchedLeft kinds now a l (taken_over processor run now periods (accounts_charged processor now a))
over-left None kinds periods now processor a l some at =
    inr (omega (
      arith,
      charged-left kinds now processor a l at,
      idled-left kinds now processor (accounts_charged processor now a) (record l { since = now })
          (charged_there processor now a l at),
    ))
over-left (Some task) kinds periods now processor a l some at =
    inl (omega (
      arith,
      charged-left kinds now processor a l at,
      taken-left kinds periods now processor task (accounts_charged processor now a) (record l { since = now }) some
          (charged_there processor now a l at),
    ))

-- a switch changes nothing if the same task is to run, or counts the time first and lets the other take over
switched-form : (periods : Periods) (now processor : ℕ) (run : Option ℕ) (a : Accounts) (l : ProcessorState)
    → slice_get a.by_processor processor ≡ Some l
    → accounts_switched processor run now periods a
    ≡ (if is_same l.run run then a else taken_over processor run now periods (accounts_charged processor now a))
switched-form periods now processor run a l at =
    ap (λ (o : Option ProcessorState).
    option_map_or
    (λ (x : ProcessorState). if is_same x.run run then a else taken_over processor run now periods (accounts_charged processor now a))
    o a) at

-- no more is left once another task runs, as an answer says, or none, unless the processor falls idle and looks for a task then
pub switched-left : (kinds : List TaskKind) (periods : Periods) (now processor : ℕ) (run : Option ℕ) (a : Accounts)
    (l : ProcessorState)
    → 1 ≤ periods.tick → slice_get a.by_processor processor ≡ Some l
    → IsSwitchedLeft kinds now a l (accounts_switched processor run now periods a)
switched-left kinds periods now processor run a l some at =
    let over : Accounts = taken_over processor run now periods (accounts_charged processor now a) in
    subst (λ (x : Accounts). IsSwitchedLeft kinds now a l x) (sym (switched-form periods now processor run a l at))
    (elim (is_same l.run run) as (λ b. IsSwitchedLeft kinds now a l (if b then a else over))
    [ true ↦ inl (omega arith) | false ↦ over-left run kinds periods now processor a l some at ])

-- at most one step more is left once another task runs, or none
pub switched-one : (kinds : List TaskKind) (periods : Periods) (now processor : ℕ) (run : Option ℕ) (a : Accounts)
    → 1 ≤ periods.tick → steps_left_at kinds now (accounts_switched processor run now periods a) ≤ steps_left_at kinds now a + 1
switched-one kinds periods now processor run a some = elim (some_or_none (slice_get a.by_processor processor)) [
  | inl none ↦
      let is : accounts_switched processor run now periods a ≡ a =
      ap (λ (o : Option ProcessorState).
      option_map_or
      (λ (x : ProcessorState). if is_same x.run run then a else taken_over processor run now periods (accounts_charged processor now a)) o a)
      none in
      omega (arith, ap (steps_left_at kinds now) is)
  | inr (l, at) ↦ elim (switched-left kinds periods now processor run a l some at) [ inl h ↦ omega (arith, h) | inr h ↦ omega (arith, h) ]
]

-- no step more is left where a task runs then, or where none did
pub switched-kept : (kinds : List TaskKind) (periods : Periods) (now processor : ℕ) (run : Option ℕ) (a : Accounts)
    (l : ProcessorState)
    → 1 ≤ periods.tick → slice_get a.by_processor processor ≡ Some l → (run ≡ None → l.run ≡ None)
    → steps_left_at kinds now (accounts_switched processor run now periods a) ≤ steps_left_at kinds now a
switched-kept kinds periods now processor None a l some at h =
    let is : accounts_switched processor None now periods a ≡ a =
    switched-form periods now processor None a l at
    ∙ ap (λ (o : Option ℕ). if is_same o None then a else taken_over processor None now periods (accounts_charged processor now a)) (h refl) in
    omega (arith, ap (steps_left_at kinds now) is)
switched-kept kinds periods now processor (Some task) a l some at h =
    let over : Accounts = taken_over processor (Some task) now periods (accounts_charged processor now a) in
    let less : steps_left_at kinds now over ≤ steps_left_at kinds now a = omega (
      arith,
      charged-left kinds now processor a l at,
      taken-left kinds periods now processor task (accounts_charged processor now a) (record l { since = now }) some
          (charged_there processor now a l at),
    ) in
    subst (λ (x : Accounts). steps_left_at kinds now x ≤ steps_left_at kinds now a)
    (sym (switched-form periods now processor (Some task) a l at))
    (elim (is_same l.run (Some task))
    as (λ b. steps_left_at kinds now (if b then a else over) ≤ steps_left_at kinds now a) [ true ↦ omega arith | false ↦ less ])
