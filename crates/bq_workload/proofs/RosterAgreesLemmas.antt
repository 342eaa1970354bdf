-- Changes of a roster after which its event queue agrees with its accounts: sizes, counted time, ticks, looks, one task more.
use Rattle.std.proofs.Common.{◌≡◌, ℕ, ◌+◌, ◌-◌, ◌<◌, List, [], ◌∷◌, ◌++◌, length, Some, refl, sym, ap, ◌∙◌, subst, arith}
use Rattle.std.specs.Prelude.{slice_get, slice_set, OnOk, Ok, Err, Result}
use Rattle.bq_workload.specs.declared.progress.TaskProgress.{TaskProgress}
use Rattle.bq_workload.specs.declared.due.Due.TheVariants.{End, Wake, Tick, Look}
use Rattle.bq_workload.specs.declared.processor_state.ProcessorState.{ProcessorState}
use Rattle.bq_workload.specs.declared.due.TheConstants.{FIRST_LOOK, FIRST_TICK}
use Rattle.bq_workload.specs.declared.periods.Periods.{Periods}
use Rattle.bq_workload.specs.declared.progress.TaskState.TheVariants.{Asleep}
use Rattle.bq_workload.specs.declared.roster.Roster.{Roster}
use Rattle.bq_workload.specs.Accounts.{Accounts, changed_at, accounts_charged, of_processor, accounts_of, beaten, grown, looked, shrunk}
use Rattle.bq_workload.specs.Dues.{IsPlanned, next_multiple}
use Rattle.bq_workload.specs.Next.{HaveHomes, phase_ends_at, QueueAgrees, IsAgreed, StaysAgreed}
use Rattle.bq_workload.proofs.ListLemmas.{changed_at-others, changed_at-here, changed_at-is, changed_at-read}
use Rattle.bq_workload.proofs.AgreesAtLemmas.{agrees_if_kept, agrees_if_planned}
use Rattle.bq_workload.proofs.ProcessorAgreesLemmas.{both, tick_at, look_at, AgreesBut, agrees_but_one_end, after-change, homes-read, agrees_if_times_same, charged-agrees, tick-of, look-of}
use Rattle.bq_workload.proofs.TaskAgreesLemmas.{added-agrees}
use Rattle.bq_disc.specs.declared.limits.TheConstants.{PROCESSORS}

-- accounts of the same tasks' progress and processors are the same
pub same-accounts : (cs ds : List TaskProgress) (ls ms : List ProcessorState) → cs ≡ ds → ls ≡ ms → both cs ls ≡ both ds ms
same-accounts cs ds ls ms e f = ap (λ x. both x ls) e ∙ ap (both ds) f

-- two facts of a call that has done its work
pub both-ok : {T E : Type 0} (P Q : Type 0) (r : Result T E) → OnOk r P → OnOk r Q → OnOk r (P × Q)
both-ok P Q (Ok x) p q = (p, q)
both-ok P Q (Err e) p q = p

-- a roster whose event queue and periods are as they were, and whose accounts have changed so
pub resized-agreed : (p : ℕ) (f : ProcessorState → ProcessorState) (r s : Roster)
    → ((l : ProcessorState) → (f l).run ≡ l.run)
    → ((cs : List TaskProgress) (l : ProcessorState) → phase_ends_at r.periods.end cs (f l) ≡ phase_ends_at r.periods.end cs l)
    → ((l : ProcessorState) → (f l).tick ≡ l.tick) → ((l : ProcessorState) → (f l).look ≡ l.look)
    → accounts_of s ≡ of_processor f p (accounts_of r) → s.event_queue ≡ r.event_queue → s.periods ≡ r.periods
    → StaysAgreed r s
resized-agreed p f r s run ends tick look is event_queue periods h =
    subst (λ (k : Periods). QueueAgrees k.end (accounts_of s) s.event_queue) (sym periods)
    (agrees_if_times_same r.periods.end p f (accounts_of r) (accounts_of s) r.event_queue s.event_queue run ends tick
    look is event_queue h)

-- one task less at a processor
pub shrunk-agreed : (p : ℕ) (r s : Roster) → accounts_of s ≡ shrunk p (accounts_of r) → s.event_queue ≡ r.event_queue
    → s.periods ≡ r.periods
    → StaysAgreed r s
shrunk-agreed p r s is event_queue periods =
    resized-agreed p (λ l. record l { size = l.size - 1 }) r s (λ l. refl) (λ cs l. refl)
    (λ l. refl) (λ l. refl) is event_queue periods

-- this many tasks more at a processor
pub grown-agreed : (p count : ℕ) (r s : Roster) → accounts_of s ≡ grown p count (accounts_of r)
    → s.event_queue ≡ r.event_queue → s.periods ≡ r.periods
    → StaysAgreed r s
grown-agreed p count r s is event_queue periods =
    resized-agreed p (λ l. record l { size = l.size + count }) r s (λ l. refl) (λ cs l. refl)
    (λ l. refl) (λ l. refl) is event_queue periods

-- a roster once the time of a processor is counted
pub charged-agreed : (p now : ℕ) (processor_state : ProcessorState) (r s : Roster)
    → slice_get r.by_processor.items p ≡ Some processor_state → accounts_of s ≡ accounts_charged p now (accounts_of r)
    → s.event_queue ≡ r.event_queue → s.periods ≡ r.periods → IsAgreed r
    → AgreesBut s.periods.end p (accounts_of s) s.event_queue
charged-agreed p now processor_state r s at is event_queue periods h =
    let end = r.periods.end in
    let but : AgreesBut end p (accounts_charged p now (accounts_of r)) r.event_queue =
    charged-agrees end p now processor_state (accounts_of r) r.event_queue at h in
    subst (λ (k : Periods). AgreesBut k.end p (accounts_of s) s.event_queue) (sym periods)
    (subst (λ (l : List ℕ). AgreesBut end p (accounts_of s) l) (sym event_queue)
    (subst (λ (a : Accounts). AgreesBut end p a r.event_queue) (sym is) but))

-- a processor ticks next then
pub beaten-agrees : (end p now between : ℕ) (a b : Accounts) (x y : List ℕ) (processor_state : ProcessorState)
    → slice_get a.by_processor p ≡ Some processor_state → b ≡ beaten p now between a
    → IsPlanned end (Tick p) (next_multiple between now) x y → QueueAgrees end a x
    → QueueAgrees end b y
beaten-agrees end p now between a b x y processor_state at is plan h =
    let f : ProcessorState → ProcessorState = λ l. record l { tick = Some (next_multiple between now) } in
    let d = of_processor f p a in
    let low : p < PROCESSORS = plan.there in
    let new : slice_get d.by_processor p ≡ Some (f processor_state) = changed_at-here f a.by_processor p processor_state at in
    let homes : HaveHomes d = homes-read f (λ l. refl) p a d refl (λ k. refl) h.homes in
    let whole : QueueAgrees end d y = after-change end p a d x y (agrees_but_one_end end p a x h) (record {
      low = low;
      by_processor = λ q other. changed_at-others f a.by_processor p q other;
      by_task = λ q task l other here mine. refl;
      rings = λ k. refl;
      ranks = λ k few i j l. plan.others k few j;
      ends =
          agrees_if_kept end a d x y (End p) (changed_at-read f (phase_ends_at end a.by_task) (λ l. refl) a.by_processor p p)
          (λ few. plan.others p (omega arith) (omega arith)) (h.all (End p));
      ticks = agrees_if_planned end (next_multiple between now) d x y (Tick p) plan (tick-of end p d (f processor_state) new);
      looks =
          agrees_if_kept end a d x y (Look p) (changed_at-read f (look_at end) (λ l. refl) a.by_processor p p)
          (λ few. plan.others (FIRST_LOOK + p) (omega arith) (omega arith)) (h.all (Look p));
      home = λ task l here mine. homes p task l here mine;
    }) in
    subst (λ (z : Accounts). QueueAgrees end z y) (sym is) whole

-- a roster whose processor ticks next then
pub beaten-agreed : (p now next : ℕ) (processor_state : ProcessorState) (r m s : Roster)
    → slice_get r.by_processor.items p ≡ Some processor_state → next ≡ next_multiple r.periods.tick now
    → IsPlanned r.periods.end (Tick p) (next_multiple r.periods.tick now) r.event_queue m.event_queue
    → m.by_task ≡ r.by_task → m.by_processor ≡ r.by_processor → m.periods ≡ r.periods
    → s.by_processor.items ≡ slice_set m.by_processor.items p (record processor_state { tick = Some next })
    → s.by_task ≡ m.by_task → s.event_queue ≡ m.event_queue → s.periods ≡ m.periods
    → StaysAgreed r s
beaten-agreed p now next processor_state r m s at is plan by_task by_processor periods set by_task' event_queue periods' h =
    let end = r.periods.end in
    let f : ProcessorState → ProcessorState = λ l. record l { tick = Some (next_multiple r.periods.tick now) } in
    let new : s.by_processor.items ≡ changed_at f r.by_processor.items p =
    set ∙ ap (λ (n : ℕ). slice_set m.by_processor.items p (record processor_state { tick = Some n })) is
    ∙ ap (λ v. slice_set v.items p (f processor_state)) by_processor
    ∙ sym (changed_at-is f r.by_processor.items p processor_state at) in
    let whole : accounts_of s ≡ beaten p now r.periods.tick (accounts_of r) =
    same-accounts _ _ _ _ (ap (λ v. v.items) (by_task' ∙ by_task)) new in
    subst (λ (k : Periods). QueueAgrees k.end (accounts_of s) s.event_queue) (sym (periods' ∙ periods))
    (subst (λ (l : List ℕ). QueueAgrees end (accounts_of s) l) (sym event_queue)
    (beaten-agrees end p now r.periods.tick (accounts_of r) (accounts_of s) r.event_queue m.event_queue processor_state at whole plan h))

-- a processor looks next then
pub looked-agrees : (end p now between : ℕ) (a b : Accounts) (x y : List ℕ) (processor_state : ProcessorState)
    → slice_get a.by_processor p ≡ Some processor_state → b ≡ looked p now between a
    → IsPlanned end (Look p) (next_multiple between now) x y → QueueAgrees end a x
    → QueueAgrees end b y
looked-agrees end p now between a b x y processor_state at is plan h =
    let f : ProcessorState → ProcessorState = λ l. record l { look = Some (next_multiple between now) } in
    let d = of_processor f p a in
    let low : p < PROCESSORS = plan.there in
    let new : slice_get d.by_processor p ≡ Some (f processor_state) = changed_at-here f a.by_processor p processor_state at in
    let homes : HaveHomes d = homes-read f (λ l. refl) p a d refl (λ k. refl) h.homes in
    let whole : QueueAgrees end d y = after-change end p a d x y (agrees_but_one_end end p a x h) (record {
      low = low;
      by_processor = λ q other. changed_at-others f a.by_processor p q other;
      by_task = λ q task l other here mine. refl;
      rings = λ k. refl;
      ranks = λ k few i j l. plan.others k few l;
      ends =
          agrees_if_kept end a d x y (End p) (changed_at-read f (phase_ends_at end a.by_task) (λ l. refl) a.by_processor p p)
          (λ few. plan.others p (omega arith) (omega arith)) (h.all (End p));
      ticks =
          agrees_if_kept end a d x y (Tick p) (changed_at-read f (tick_at end) (λ l. refl) a.by_processor p p)
          (λ few. plan.others (FIRST_TICK + p) (omega arith) (omega arith)) (h.all (Tick p));
      looks = agrees_if_planned end (next_multiple between now) d x y (Look p) plan (look-of end p d (f processor_state) new);
      home = λ task l here mine. homes p task l here mine;
    }) in
    subst (λ (z : Accounts). QueueAgrees end z y) (sym is) whole

-- a roster whose processor looks next then
pub looked-agreed : (p now next : ℕ) (processor_state : ProcessorState) (r m s : Roster)
    → slice_get r.by_processor.items p ≡ Some processor_state → next ≡ next_multiple r.periods.balance now
    → IsPlanned r.periods.end (Look p) next r.event_queue m.event_queue
    → m.by_task ≡ r.by_task → m.by_processor ≡ r.by_processor → m.periods ≡ r.periods
    → s.by_processor.items ≡ slice_set m.by_processor.items p (record processor_state { look = Some next })
    → s.by_task ≡ m.by_task → s.event_queue ≡ m.event_queue → s.periods ≡ m.periods
    → StaysAgreed r s
looked-agreed p now next processor_state r m s at is plan by_task by_processor periods set by_task' event_queue periods' h =
    let end = r.periods.end in
    let f : ProcessorState → ProcessorState = λ l. record l { look = Some (next_multiple r.periods.balance now) } in
    let new : s.by_processor.items ≡ changed_at f r.by_processor.items p =
    set ∙ ap (λ (n : ℕ). slice_set m.by_processor.items p (record processor_state { look = Some n })) is
    ∙ ap (λ v. slice_set v.items p (f processor_state)) by_processor
    ∙ sym (changed_at-is f r.by_processor.items p processor_state at) in
    let whole : accounts_of s ≡ looked p now r.periods.balance (accounts_of r) =
    same-accounts _ _ _ _ (ap (λ v. v.items) (by_task' ∙ by_task)) new in
    let put : IsPlanned end (Look p) (next_multiple r.periods.balance now) r.event_queue m.event_queue =
    subst (λ (n : ℕ). IsPlanned end (Look p) n r.event_queue m.event_queue) is plan in
    subst (λ (k : Periods). QueueAgrees k.end (accounts_of s) s.event_queue) (sym (periods' ∙ periods))
    (subst (λ (l : List ℕ). QueueAgrees end (accounts_of s) l) (sym event_queue)
    (looked-agrees end p now r.periods.balance (accounts_of r) (accounts_of s) r.event_queue
    m.event_queue processor_state at whole put h))

-- a roster with one task more, whose timer is put down
pub added-agreed : (task start : ℕ) (progress : TaskProgress) (r m s : Roster)
    → task ≡ length r.by_task.items → progress.task_state ≡ Asleep → progress.timer ≡ start
    → m.by_task.items ≡ r.by_task.items ++ progress ∷ [] → m.by_processor ≡ r.by_processor → m.event_queue ≡ r.event_queue
    → m.periods ≡ r.periods → IsPlanned m.periods.end (Wake task) start m.event_queue s.event_queue → s.by_task ≡ m.by_task
    → s.by_processor ≡ m.by_processor → s.periods ≡ m.periods
    → StaysAgreed r s
added-agreed task start progress r m s number asleep timer by_task by_processor event_queue periods
    plan by_task' by_processor' periods' h =
    let end = r.periods.end in
    let P : Periods → Type 0 = λ k. IsPlanned k.end (Wake task) start m.event_queue s.event_queue in
    let Q : List ℕ → Type 0 = λ l. IsPlanned end (Wake task) start l s.event_queue in
    let put : IsPlanned end (Wake task) progress.timer r.event_queue s.event_queue =
    subst (λ (n : ℕ). IsPlanned end (Wake task) n r.event_queue s.event_queue) (sym timer)
    (subst Q event_queue (subst P periods plan)) in
    subst (λ (k : Periods). QueueAgrees k.end (accounts_of s) s.event_queue) (sym (periods' ∙ periods))
    (added-agrees end task progress (accounts_of r) (accounts_of s) r.event_queue s.event_queue number asleep
    (ap (λ v. v.items) by_task' ∙ by_task) (ap (λ v. v.items) (by_processor' ∙ by_processor)) put h)
