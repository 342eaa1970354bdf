-- Where nothing comes any more.
use Rattle.std.proofs.Common.{◌≡◌, ℕ, zero, suc, ◌+◌, ◌<◌, ◌≤◌, Bool, true, false, inl, inr, List, [], ◌∷◌, Option, Some, None, refl, sym, ap, ◌∙◌, arith}
use Rattle.std.specs.Prelude.{◌&&◌, nat_le, option_and_then, slice_get, if◌then◌else◌}
use Rattle.std.specs.List.{list_all}
use Rattle.std.specs.Option.{option_map_or}
use Rattle.std.proofs.lemmas.Bool.{and_cases, and_from, and_left, and_parts, and_right, cases_Bool, cases_lt, le-leb, leb-true, lt-ltb}
use Rattle.std.proofs.lemmas.Option.{none-some}
use Rattle.bq_workload.specs.declared.progress.TaskProgress.{TaskProgress}
use Rattle.bq_workload.specs.declared.progress.TaskState.{TaskState}
use Rattle.bq_workload.specs.declared.progress.TaskState.TheVariants.{Asleep, Waiting, Runnable, Over}
use Rattle.bq_workload.specs.declared.due.Due.TheVariants.{End, Wake, Tick, Look}
use Rattle.bq_workload.specs.declared.processor_state.ProcessorState.{ProcessorState}
use Rattle.bq_workload.specs.Accounts.{Accounts, is_over, is_past, rests_past, runs_past}
use Rattle.bq_workload.specs.TaskProgress.{keeps_phase, keeps_time, lacks_more, rings_past, sleeps_past}
use Rattle.bq_workload.specs.Dues.{phase_end, until}
use Rattle.bq_workload.specs.Next.{HasHome, HaveHomes, NothingComes, rings_at}
use Rattle.bq_workload.proofs.ListLemmas.{some_or_none}
use Rattle.bq_workload.proofs.ProcessorAgreesLemmas.{end-of, look-of, tick-of}
use Rattle.bq_disc.specs.declared.clock.TheConstants.{LATEST}

-- what each passes, all pass
all-from : {A : Type 0} (p : A → Bool) (xs : List A) → ((k : ℕ) (x : A) → slice_get xs k ≡ Some x → p x ≡ true) → list_all p xs ≡ true
all-from p [] h = refl
all-from p (x ∷ xs) h = and_from (p x) (list_all p xs) (h zero x refl) (all-from p xs (λ k y at. h (suc k) y at))

-- what all pass, each passes
each-of : {A : Type 0} (p : A → Bool) (xs : List A) → list_all p xs ≡ true → (k : ℕ) (x : A) → slice_get xs k ≡ Some x → p x ≡ true
each-of p [] all k x at = absurd (none-some x at)
each-of {A} p (y ∷ ys) all zero x at =
    let parts = and_parts (p y) (list_all p ys) all in ap (λ (o : Option A). option_map_or p o true) (sym at) ∙ parts.0
each-of p (y ∷ ys) all (suc k) x at = let parts = and_parts (p y) (list_all p ys) all in each-of p ys parts.1 k x at

-- what is not seen until the end comes after it
until-past : (end time : ℕ) → end ≤ LATEST → until end time ≡ None → end < time
until-past end time low none = elim (cases_lt end time) [
  | inl past ↦ past
  | inr early ↦
      absurd (none-some time (sym none
      ∙ ap (λ (b : Bool). if b then Some time else None)
      (and_from (nat_le time end) (nat_le time LATEST) (le-leb time end early) (le-leb time LATEST (omega (arith, low, early))))))
]

-- a timer that does not ring until the end rings past it
rings-past : (end timer : ℕ) (task_state : TaskState) → end ≤ LATEST → rings_at end task_state timer ≡ None
    → rings_past end task_state timer ≡ true
rings-past end timer Asleep low none = lt-ltb end timer (until-past end timer low none)
rings-past end timer Waiting low none = refl
rings-past end timer Runnable low none = refl
rings-past end timer Over low none = refl

-- a time that does not come until the end is past it
past-of : (end : ℕ) (time : Option ℕ) → end ≤ LATEST → option_and_then (until end) time ≡ None → is_past end time ≡ true
past-of end None low none = refl
past-of end (Some time) low none = lt-ltb end time (until-past end time low none)

-- where some task has run past its phase not all keep time
keeps-none : (end : ℕ) (cs : List TaskProgress) → list_all keeps_phase cs ≡ false → list_all (keeps_time end) cs ≡ false
keeps-none end [] some = some
keeps-none end (c ∷ cs) some = elim (and_cases (keeps_phase c) (list_all keeps_phase cs) some) [
  | inl here ↦ and_left (keeps_time end c) (list_all (keeps_time end) cs) (and_left (keeps_phase c) (sleeps_past end c) here)
  | inr later ↦ and_right (keeps_time end c) (list_all (keeps_time end) cs) (keeps-none end cs later)
]

-- a phase that does not end until the end lacks more than it can get until then
runs-of : (end k : ℕ) (a : Accounts) (l : ProcessorState) → end ≤ LATEST → HaveHomes a → NothingComes end a
    → ((task : ℕ) (c : TaskProgress) → slice_get a.by_task task ≡ Some c → keeps_phase c ≡ true)
    → slice_get a.by_processor k ≡ Some l
    → runs_past end a.by_task l ≡ true
runs-of end k a l low homes none keeps at =
    let past : Option ℕ → Bool =
    λ o. option_map_or (λ (task : ℕ). option_map_or (lacks_more l.since end) (slice_get a.by_task task) false) o true in
    elim (some_or_none l.run) [
      | inl idle ↦ ap past idle
      | inr (task, runs) ↦
          let home : HasHome a task k = homes k task l at runs in
          let c = home.progress in
          let kept : c.got ≤ c.due = leb-true c.got c.due (keeps task c home.there) in
          let late : end < phase_end l.since c =
          until-past end (phase_end l.since c) low (sym (end-of end k task a l c at runs home.there) ∙ none (End k)) in
          ap past runs ∙ ap (λ (o : Option TaskProgress). option_map_or (lacks_more l.since end) o false) home.there
          ∙ lt-ltb (end + c.got) (l.since + c.due) (omega (arith, kept, late))
    ]

-- where by the accounts nothing comes any more it is over exactly when no task has run past its phase
pub over-where-none : (end : ℕ) (a : Accounts) → end ≤ LATEST → HaveHomes a → NothingComes end a
    → is_over end a ≡ list_all keeps_phase a.by_task
over-where-none end a low homes none =
    let cs = a.by_task in
    let sleeps : (k : ℕ) (c : TaskProgress) → slice_get cs k ≡ Some c → sleeps_past end c ≡ true =
    λ k c at.
    rings-past end c.timer c.task_state low
    (sym (ap (λ (o : Option TaskProgress). option_and_then (λ d. rings_at end d.task_state d.timer) o) at) ∙ none (Wake k)) in
    let rests : list_all (rests_past end) a.by_processor ≡ true =
    all-from (rests_past end) a.by_processor (λ k l at.
    and_from (is_past end l.tick) (is_past end l.look) (past-of end l.tick low (sym (tick-of end k a l at) ∙ none (Tick k)))
    (past-of end l.look low (sym (look-of end k a l at) ∙ none (Look k)))) in
    elim (cases_Bool (list_all keeps_phase cs)) [
      | inl all ↦
          let keeps : list_all (keeps_time end) cs ≡ true =
          all-from (keeps_time end) cs
          (λ k c at. and_from (keeps_phase c) (sleeps_past end c) (each-of keeps_phase cs all k c at) (sleeps k c at)) in
          let runs : list_all (runs_past end cs) a.by_processor ≡ true =
          all-from (runs_past end cs) a.by_processor
          (λ k l at. runs-of end k a l low homes none (each-of keeps_phase cs all) at) in
          and_from (list_all (keeps_time end) cs && list_all (runs_past end cs) a.by_processor)
          (list_all (rests_past end) a.by_processor)
          (and_from (list_all (keeps_time end) cs) (list_all (runs_past end cs) a.by_processor) keeps runs) rests
          ∙ sym all
      | inr some ↦
          let same : list_all (keeps_time end) cs ≡ false = keeps-none end cs some in
          and_left (list_all (keeps_time end) cs && list_all (runs_past end cs) a.by_processor)
          (list_all (rests_past end) a.by_processor)
          (and_left (list_all (keeps_time end) cs) (list_all (runs_past end cs) a.by_processor) same)
          ∙ sym some
    ]
