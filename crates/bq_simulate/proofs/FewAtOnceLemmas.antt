-- Fewer things come at one instant than are counted for it.
use Rattle.std.proofs.Common.{◌≡◌, ℕ, zero, suc, ◌+◌, ◌*◌, ◌<◌, ◌≤◌, inl, inr, Bool, true, false, List, [], ◌∷◌, length, Option, Some, None, refl, sym, subst, ap, ◌∙◌, arith, drop, lit≤, take}
use Rattle.std.specs.Prelude.{◌==◌, if◌then◌else◌, nat_le, slice_get, sum_by}
use Rattle.std.specs.List.{list_any}
use Rattle.std.specs.Option.{option_map_or}
use Rattle.std.proofs.lemmas.Bool.{cases_eq}
use Rattle.std.proofs.lemmas.List.{length-drop}
use Rattle.std.proofs.lemmas.List.Sums.{sum_by-cons}
use Rattle.std.proofs.lemmas.Option.{same_Some}
use Rattle.bq_words.specs.declared.processor_count.ProcessorCount.{ProcessorCount}
use Rattle.bq_words.specs.declared.processor_count.ProcessorCount.TheVariants.{One, Two, Four, Eight, Sixteen, ThirtyTwo, SixtyFour}
use Rattle.bq_words.specs.Sizes.{processors_in}
use Rattle.bq_workload.specs.declared.action.Action.{Action}
use Rattle.bq_workload.specs.declared.processor_state.ProcessorState.{ProcessorState}
use Rattle.bq_workload.specs.declared.progress.TaskProgress.{TaskProgress}
use Rattle.bq_workload.specs.declared.progress.TaskState.{TaskState}
use Rattle.bq_workload.specs.declared.progress.TaskState.TheVariants.{Asleep, Waiting, Runnable, Over}
use Rattle.bq_workload.specs.declared.workload.TaskKind.{TaskKind}
use Rattle.bq_workload.specs.declared.workload.Workload.{Workload}
use Rattle.bq_workload.specs.Accounts.{Accounts, is_same}
use Rattle.bq_workload.specs.Bounds.{steps_at_once, steps_for, steps_of, steps_of_tasks}
use Rattle.bq_workload.specs.Kinds.{tasks_in}
use Rattle.bq_workload.specs.Lengths.{takes_time}
use Rattle.bq_workload.specs.Soundness.{first_flaw}
use Rattle.bq_workload.proofs.ListLemmas.{some_or_none}
use Rattle.bq_simulate.specs.declared.driver.Driver.{Driver}
use Rattle.bq_simulate.specs.Actions.{IsTaskOfKind, first_task_of}
use Rattle.bq_simulate.specs.AtOnce.{kind_actions, in_all, steps_left_at, left_in, left_of_processor, left_of_task, steps_ahead, uncounted}
use Rattle.bq_simulate.specs.Deeds.{Book}
use Rattle.bq_simulate.specs.Kept.{IsKept}
use Rattle.bq_simulate.proofs.SoundWorkloadLemmas.{IsSoundKind, sound_kind}
use Rattle.bq_simulate.proofs.StaysOnTimeLemmas.{run_of, runner_low}
use Rattle.bq_simulate.proofs.StepsAheadLemmas.{steps-round}
use Rattle.bq_simulate.proofs.StepsLeftLemmas.{at-most-one}
use Rattle.bq_simulate.proofs.SumOverAllLemmas.{in_all-no_more, sum-most}

-- The tasks of each kind

-- what stands in the rest of a list
rest-at : (n i : ℕ) (cs : List TaskProgress) → slice_get (drop n cs) i ≡ slice_get cs (n + i)
rest-at zero i cs = let e : i ≡ 0 + i = omega arith in ap (slice_get cs) e
rest-at (suc n) i [] = refl
rest-at (suc n) i (c ∷ cs) = let e : suc (n + i) ≡ suc n + i = omega arith in rest-at n i cs ∙ ap (slice_get (c ∷ cs)) e

-- one number in place of another that is the same
renumbered : (f g : ℕ → TaskProgress → ℕ) (cs : List TaskProgress)
    → ((i : ℕ) (c : TaskProgress) → f i c ≤ g i c) → in_all f cs ≤ in_all g cs
renumbered f g cs h =
    in_all-no_more f g cs cs refl (λ i x y at there. subst (λ (z : TaskProgress). f i x ≤ g i z) (same_Some x y (sym at ∙ there)) (h i x))

-- each of the first tasks has so much at most, and the rest as much as is known
front-most : (n m rest : ℕ) (f : ℕ → TaskProgress → ℕ) (cs : List TaskProgress)
    → n ≤ length cs → ((i : ℕ) (c : TaskProgress) → i < n → slice_get cs i ≡ Some c → f i c ≤ m * 2)
    → in_all (λ i. f (n + i)) (drop n cs) ≤ rest * 2
    → in_all f cs ≤ (n * m + rest) * 2
front-most zero m rest f cs long h last = omega (
  arith,
  last,
  renumbered f (λ i. f (0 + i)) cs (λ i c. let e : i ≡ 0 + i = omega arith in subst (λ k. f i c ≤ f k c) e (omega arith)),
)
front-most (suc n) m rest f [] long h last = absurd (omega (arith, long))
front-most (suc n) m rest f (c ∷ cs) long h last =
    let same : in_all (λ i. f (suc (n + i))) (drop n cs) ≤ in_all (λ i. f (suc n + i)) (drop n cs) =
    renumbered (λ i. f (suc (n + i))) (λ i. f (suc n + i)) (drop n cs)
    (λ i x. let e : suc (n + i) ≡ suc n + i = omega arith in subst (λ k. f (suc (n + i)) x ≤ f k x) e (omega arith)) in
    omega (
      arith,
      h 0 c (omega arith) refl,
      front-most n m rest (λ i. f (suc i)) cs (omega (arith, long)) (λ i x low. h (suc i) x (omega (arith, low)))
          (omega (arith, last, same)),
    )

-- a task of one of these kinds has at most twice what is counted for that kind
pub record IsMost (kinds : List TaskKind) (f : ℕ → TaskProgress → ℕ) (g : TaskKind → ℕ) (task : ℕ) (c : TaskProgress) : Type 0 where
  pub number : ℕ
  pub of : IsTaskOfKind kinds task number
  pub most : f task c ≤ g of.kind * 2

-- the tasks of the kinds behind the first come behind its own
first-behind : (kind : TaskKind) (kinds : List TaskKind) (number : ℕ)
    → first_task_of (kind ∷ kinds) (suc number) ≡ kind.count + first_task_of kinds number
first-behind kind kinds number = sum_by-cons (λ (k : TaskKind). k.count) kind (take number kinds)

-- a task of the first kind has at most twice what is counted for that kind
first-is : (kind : TaskKind) (kinds : List TaskKind) (f : ℕ → TaskProgress → ℕ) (g : TaskKind → ℕ)
    (task : ℕ) (c : TaskProgress)
    → task < kind.count → IsMost (kind ∷ kinds) f g task c → f task c ≤ g kind * 2
first-is kind kinds f g task c low h = go h.number h.of h.most
  where
    go : (number : ℕ) (of : IsTaskOfKind (kind ∷ kinds) task number) → f task c ≤ g of.kind * 2 → f task c ≤ g kind * 2
    go zero of most = subst (λ (k : TaskKind). f task c ≤ g k * 2) (sym (same_Some kind of.kind of.there)) most
    go (suc number) of most = absurd (omega (arith, of.from, low, first-behind kind kinds number))

-- a task after those of the first kind keeps its bound where only the other kinds are counted
behind-is : (kind : TaskKind) (kinds : List TaskKind) (f : ℕ → TaskProgress → ℕ) (g : TaskKind → ℕ)
    (task : ℕ) (c : TaskProgress)
    → IsMost (kind ∷ kinds) f g (kind.count + task) c → IsMost kinds (λ i. f (kind.count + i)) g task c
behind-is kind kinds f g task c h = go h.number h.of h.most
  where
    go : (number : ℕ) (of : IsTaskOfKind (kind ∷ kinds) (kind.count + task) number)
        → f (kind.count + task) c ≤ g of.kind * 2 → IsMost kinds (λ i. f (kind.count + i)) g task c
    go zero of most =
        let none : first_task_of (kind ∷ kinds) 0 ≡ 0 = refl in
        absurd (omega (arith, of.below, none, ap (λ (k : TaskKind). k.count) (same_Some kind of.kind of.there)))
    go (suc number) of most = record {
      number = number;
      of = record {
        kind = of.kind;
        there = of.there;
        from = omega (arith, of.from, first-behind kind kinds number);
        below = omega (arith, of.below, first-behind kind kinds number);
      };
      most = most;
    }

-- all tasks together have at most twice what is counted for the tasks of their kinds
by-kind : (f : ℕ → TaskProgress → ℕ) (g : TaskKind → ℕ) (kinds : List TaskKind) (cs : List TaskProgress)
    → length cs ≡ tasks_in kinds → ((task : ℕ) (c : TaskProgress) → slice_get cs task ≡ Some c → IsMost kinds f g task c)
    → in_all f cs ≤ sum_by (λ (kind : TaskKind). kind.count * g kind) kinds * 2
by-kind f g [] [] long h = omega arith
by-kind f g [] (c ∷ cs) long h = absurd (omega (arith, long))
by-kind f g (kind ∷ kinds) cs long h =
    let n : ℕ = kind.count in
    let all : tasks_in (kind ∷ kinds) ≡ n + tasks_in kinds = sum_by-cons (λ (k : TaskKind). k.count) kind kinds in
    let sums : sum_by (λ (k : TaskKind). k.count * g k) (kind ∷ kinds)
    ≡ n * g kind + sum_by (λ (k : TaskKind). k.count * g k) kinds =
    sum_by-cons (λ (k : TaskKind). k.count * g k) kind kinds in
    let rest =
    by-kind (λ i. f (n + i)) g kinds (drop n cs) (omega (arith, length-drop n cs, long, all))
    (λ task c at. behind-is kind kinds f g task c (h (n + task) c (sym (rest-at n task cs) ∙ at))) in
    omega (
      arith,
      sums,
      front-most n (g kind) (sum_by (λ (k : TaskKind). k.count * g k) kinds) f cs (omega (arith, long, all))
          (λ i c low at. first-is kind kinds f g i c low (h i c at)) rest,
    )

-- One task and one processor

-- a task takes at most two steps for its timer, and two for each step before one that takes time
in-most : (s : TaskState) (rings done : Bool) (steps : ℕ) → left_in s rings done steps ≤ 2 + steps * 2
in-most Asleep true done steps = omega arith
in-most Asleep false done steps = omega arith
in-most Waiting rings done steps = omega arith
in-most Runnable rings true steps = omega arith
in-most Runnable rings false steps = omega arith
in-most Over rings done steps = omega arith

-- a task takes no more steps at once than its kind does once, and one for its timer
task-most : (w : Workload) (now : ℕ) (ls : List ProcessorState) (task : ℕ) (c : TaskProgress)
    → first_flaw w ≡ None → (of : IsTaskOfKind w.tasks.items task c.kind)
    → left_of_task w.tasks.items now ls task c ≤ steps_of w.tasks.items of.kind.actions.items * 2
task-most w now ls task c sound of =
    let kinds = w.tasks.items in
    let good : IsSoundKind (length kinds) of.kind = sound_kind w c.kind of.kind sound of.there in
    let actions : kind_actions kinds c.kind ≡ of.kind.actions.items =
    ap (λ (o : Option TaskKind). option_map_or (λ (x : TaskKind). x.actions.items) o []) of.there in
    let round : steps_ahead kinds c ≤ sum_by (steps_for kinds) of.kind.actions.items =
    subst (λ (l : List Action). steps_ahead kinds c ≤ sum_by (steps_for kinds) l) actions
    (steps-round kinds c.woken c.action (kind_actions kinds c.kind) (ap (list_any takes_time) actions ∙ good.time)) in
    omega (arith, round, in-most c.task_state (c.timer == now) (nat_le c.due (c.got + uncounted now ls task)) (steps_ahead kinds c))

-- a processor takes at most two steps at one instant
processor-most : (now : ℕ) (l : ProcessorState) → left_of_processor now l ≤ 2
processor-most now l = go (is_same l.tick (Some now)) (is_same l.look (Some now))
  where
    go : (ticks looks : Bool) → (if ticks then 2 else if looks then 1 else 0) ≤ 2
    go true looks = omega arith
    go false true = omega arith
    go false false = omega arith

-- without a tick
idle-most : (now : ℕ) (l : ProcessorState) → l.tick ≡ None → left_of_processor now l ≤ 1
idle-most now l none =
    let looks = is_same l.look (Some now) in
    let form : Option ℕ → ℕ = λ o. if is_same o (Some now) then 2 else if looks then 1 else 0 in
    omega (arith, ap form none, at-most-one looks)

-- All of them

-- a machine has one processor at least
pub processors_in-some : (size : ProcessorCount) → 1 ≤ processors_in size
processors_in-some One = lit≤ tt
processors_in-some Two = lit≤ tt
processors_in-some Four = lit≤ tt
processors_in-some Eight = lit≤ tt
processors_in-some Sixteen = lit≤ tt
processors_in-some ThirtyTwo = lit≤ tt
processors_in-some SixtyFour = lit≤ tt

-- where there are no tasks, nothing runs, and no processor ticks
none-ticks : (w : Workload) (now : ℕ) (d : Driver) (b : Book)
    → IsKept w.tasks.items now d b → tasks_in w.tasks.items ≡ 0 → (n : ℕ) (l : ProcessorState)
    → slice_get b.accounts.by_processor n ≡ Some l
    → left_of_processor now l ≤ 1
none-ticks w now d b h none n l at = elim (some_or_none l.run) [
  | inl idle ↦ idle-most now l ((h.on_time.processors n l at).rests idle)
  | inr (task, runs) ↦
      absurd (omega (arith, runner_low d.machine.world b.accounts n task h.agrees (run_of b.accounts n l at ∙ runs), h.all, none))
]

-- at no instant may as many things still come as are counted for one
pub few-left : (w : Workload) (now : ℕ) (d : Driver) (b : Book)
    → first_flaw w ≡ None → IsKept w.tasks.items now d b → length b.accounts.by_processor ≡ processors_in w.machine.size
    → steps_left_at w.tasks.items now b.accounts < steps_at_once w
few-left w now d b sound h many =
    let kinds = w.tasks.items in
    let a : Accounts = b.accounts in
    let tasks : in_all (left_of_task kinds now a.by_processor) a.by_task ≤ steps_of_tasks kinds kinds * 2 =
    by-kind (left_of_task kinds now a.by_processor) (λ (kind : TaskKind). steps_of kinds kind.actions.items)
    kinds a.by_task h.all (λ task c at.
    let of = (h.standing.tasks task c at).of_kind in
    record { number = c.kind; of = of; most = task-most w now a.by_processor task c sound of }) in
    let some = processors_in-some w.machine.size in
    elim (cases_eq (tasks_in kinds) 0) [
      | inl none ↦ omega (arith, tasks, some, many, sum-most (left_of_processor now) 1 a.by_processor (none-ticks w now d b h none))
      | inr there ↦
          let one : 1 ≤ tasks_in kinds = omega (arith, there) in
          omega (arith, tasks, one, many, sum-most (left_of_processor now) 2 a.by_processor (λ n l at. processor-most now l))
    ]
