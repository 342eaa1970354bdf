-- Fair times rise by what readings give, and with what is left over they add up to the time in which tasks ran.
use Rattle.std.proofs.Common.{◌≡◌, ◌≢◌, ℕ, ◌+◌, ◌-◌, ◌*◌, ◌^◌, ◌<◌, ◌≤◌, Bool, true, false, List, [], ◌∷◌, length, get_or, Option, Some, None, Result, Ok, Err, refl, sym, ap, ◌∙◌, subst, inl, inr, eqb, leb, cond, zero, suc, replicate, get_or-set_same, get_or-set_other, arith}
use Rattle.std.specs.Prelude.{slice_set, ℤ}
use Rattle.std.specs.List.{sum_by}
use Rattle.std.proofs.Math.Nat.{div-le_self, mul-div-le}
use Rattle.std.proofs.lemmas.Bool.Decides.{eqb_tells, leb_tells}
use Rattle.std.proofs.lemmas.List.{get_or-replicate, get_or_past, length-replicate}
use Rattle.std.proofs.lemmas.List.Sums.{sum_by-cons, sum_by-set, get_or-le-sum_by}
use Rattle.bq_parts.specs.declared.event.Event.{Event}
use Rattle.bq_parts.specs.declared.event.Event.TheVariants.{Admit, EndWake, Drain, Tick, Block, Pull}
use Rattle.bq_parts.specs.declared.reply.Reply.{Reply}
use Rattle.bq_parts.specs.declared.reply.Reply.TheVariants.{Admitted, Placed, Drained, Ticked, Blocked as Went, Pulled}
use Rattle.bq_parts.specs.declared.refusal.Refusal.{Refusal}
use Rattle.bq_hooks.specs.declared.hook.Hook.TheVariants.{Place, Preempt, Pull as OnPull}
use Rattle.bq_schedule.specs.declared.slice.Slice.{Slice}
use Rattle.bq_schedule.specs.declared.change.Decision.{Decision}
use Rattle.bq_schedule.specs.declared.change.StopReason.{StopReason}
use Rattle.bq_schedule.specs.declared.change.StopReason.TheVariants.{Preempted, Blocked}
use Rattle.bq_schedule.specs.declared.figures.TaskFigures.{TaskFigures}
use Rattle.bq_schedule.specs.declared.figures.ProcessorFigures.{ProcessorFigures}
use Rattle.bq_schedule.specs.Counts.{parts_per_nanosecond}
use Rattle.bq_schedule.specs.Histories.{AnsweredEvent, History}
use Rattle.bq_schedule.specs.Figures.{Figures, opening_figures, unread, unknown, processor_in_figures, task_in_figures, figures_with_processor, figures_with_task}
use Rattle.bq_schedule.specs.Passing.{slice_at, slice_length, parts_per_weight, processor_read, figures_read, with_charged}
use Rattle.bq_schedule.specs.Runnable.{fair_at, fair_of, figures_left, comes}
use Rattle.bq_schedule.specs.Running.{figures_switched}
use Rattle.bq_schedule.specs.Slices.{ShownByAnswer, shown_by_reply, shown_by_answer, is_this}
use Rattle.bq_schedule.specs.Steps.{figures_counted, figures_admitted, waited_there, emptied, figures_taken, placed, figures_decided, blocked, figures_pulled, performed, time_at, is_there, figures_after, figures}
use Rattle.bq_schedule.specs.FairTimes.{weight_there, weights_at, share, all_fair, all_unshared, all_busy}
use Rattle.bq_schedule.specs.Laws.{IsShownWithin, IsOfProcessors, SharesOut, AddsUpFairTimes}
use Rattle.bq_schedule.proofs.TestLemmas.{Tells, get_or-set_at}
use Rattle.bq_schedule.proofs.FrameLemmas.{Works, KeepsWorks, works-id, works-then, processor_kept, task_kept, works-with_processor, works-with_task, works-counted, works-leaves, works-comes, works-switched, processors-read_at, count-read_at, tasks-read_at}
use Rattle.bq_schedule.proofs.ClockLemmas.{count-figures, within-figures, shown_by_reply-none}
use Rattle.bq_schedule.proofs.SumLemmas.{most_of_clocks, clocks_of-le}
use Rattle.bq_schedule.proofs.WindowLemmas.{figures_are_filled, IsFilled}
use Rattle.bq_schedule.proofs.PurseLemmas
use Rattle.bq_schedule.proofs.LeavingLemmas as Leaving
use Rattle.bq_schedule.proofs.ComingLemmas as Coming

-- all that tasks have
abbrev pub all_uncapped : Figures → ℕ
all_uncapped s = sum_by (PurseLemmas.uncapped_of s) s.tasks

-- what is had and what is left over is what was run, and no unit of weight was given more than its processor's tasks ran
pub record IsFull (s : Figures) : Type 0 where
  pub sound : PurseLemmas.IsSound s
  pub total : all_uncapped s + all_unshared s ≡ parts_per_nanosecond * all_busy s
  pub ahead : (j : ℕ) → PurseLemmas.shared_at s j ≤ parts_per_nanosecond * (processor_in_figures s j).busy

-- all busy times together stay within the greatest sum of clocks
abbrev pub IsShort : Figures → Type 0
IsShort s = all_busy s ≤ most_of_clocks

-- what keeps the works keeps the sum of all busy times, and of what was left over:
busy-kept : (s s' : Figures) → KeepsWorks s s' → all_busy s' ≡ all_busy s
busy-kept s s' k =
    PurseLemmas.sums_like (λ (p : ProcessorFigures). p.busy) (λ (p : ProcessorFigures). p.busy) unread s'.processors
    s.processors k.count (λ j. ap (λ (w : Works). w.busy) (k.at j))

unshared-kept : (s s' : Figures) → KeepsWorks s s' → all_unshared s' ≡ all_unshared s
unshared-kept s s' k =
    PurseLemmas.sums_like (λ (p : ProcessorFigures). p.unshared) (λ (p : ProcessorFigures). p.unshared) unread s'.processors
    s.processors k.count (λ j. ap (λ (w : Works). w.unshared) (k.at j))

-- what keeps the works, and leaves each task what it has
full-kept : (s s' : Figures) → IsFull s → KeepsWorks s s' → Coming.Stays s s' → IsFull s'
full-kept s s' f k m = record {
  sound = m.sound;
  total = omega (
    arith,
    f.total,
    busy-kept s s' k,
    unshared-kept s s' k,
    PurseLemmas.sums_like (PurseLemmas.uncapped_of s') (PurseLemmas.uncapped_of s) unknown s'.tasks s.tasks k.tasks m.uncapped_after,
  );
  ahead = λ j. omega (arith, f.ahead j, ap (λ (w : Works). w.shared) (k.at j), ap (λ (w : Works). w.busy) (k.at j));
}

-- what a task has is little
small_by : (s : Figures) (id : ℕ) (b : Bool) → IsFull s → IsShort s
    → Tells b (length s.tasks ≤ id) (id < length s.tasks)
    → PurseLemmas.uncapped s id ≤ 2 ^ 128 - 1
small_by s id b f short (inl past) =
    omega (arith, ap (λ (t : TaskFigures). PurseLemmas.uncapped_of s t) (get_or_past s.tasks id unknown past.1))
small_by s id b f short (inr inside) =
    omega (arith, f.total, short, get_or-le-sum_by (PurseLemmas.uncapped_of s) s.tasks id unknown inside.1)

-- what any task has fits in 128 bits, if all busy times are short
small : (s : Figures) (id : ℕ) → IsFull s → IsShort s → PurseLemmas.uncapped s id ≤ 2 ^ 128 - 1
small s id f short = small_by s id (leb (length s.tasks) id) f short (leb_tells (length s.tasks) id)

-- where what a task has is little, its fair time is what it has
fair_of-uncapped_if : (s : Figures) (t : TaskFigures) (o : Option ℕ)
    → PurseLemmas.worth_at (PurseLemmas.shared_at s) (PurseLemmas.purse t) o ≤ 2 ^ 128 - 1
    → fair_at s t o ≡ PurseLemmas.worth_at (PurseLemmas.shared_at s) (PurseLemmas.purse t) o
fair_of-uncapped_if s t None h = refl
fair_of-uncapped_if s t (Some processor) h = omega (arith, h)

-- the fair time of a task is what it has, if all busy times are short
fair_of-uncapped : (s : Figures) (id : ℕ) → IsFull s → IsShort s → fair_of s id ≡ PurseLemmas.uncapped s id
fair_of-uncapped s id f short = fair_of-uncapped_if s (task_in_figures s id) (task_in_figures s id).processor (small s id f short)

-- a move leaves all full, and each task what it has
pub record Goes (s s' : Figures) : Type 0 where
  pub keeps : KeepsWorks s s'
  pub goes : IsFull s → IsShort s → Coming.Stays s s'

-- to change nothing is such a move, and so are two such moves one after the other:
goes-id : (s : Figures) → Goes s s
goes-id s = record { keeps = works-id s; goes = λ f short. record { sound = f.sound; uncapped_after = λ j. refl } }

goes-then : (s t u : Figures) → Goes s t → Goes t u → Goes s u
goes-then s t u a b = record {
  keeps = works-then s t u a.keeps b.keeps;
  goes = λ f short.
      let first = a.goes f short in
      let short' : IsShort t = omega (arith, short, busy-kept s t a.keeps) in
      let next = b.goes (full-kept s t f a.keeps first) short' in
      record { sound = next.sound; uncapped_after = λ j. next.uncapped_after j ∙ first.uncapped_after j };
}

-- what keeps works, purses and pots is such a move
goes-purses : (s s' : Figures) → KeepsWorks s s' → PurseLemmas.KeepsPurses s s' → Goes s s'
goes-purses s s' w k = record {
  keeps = w;
  goes = λ f short. record {
    sound = PurseLemmas.sound-kept s s' k f.sound;
    uncapped_after = λ j. PurseLemmas.uncapped-kept s s' j (λ i. ap (λ (q : PurseLemmas.Pot). q.shared) (k.pots i)) (k.purses j);
  };
}

-- so is a task set with the same time and purse, a decision that is counted, and an inbox that is drained:
goes-with_task : (s : Figures) (id : ℕ) (t : TaskFigures) → t.time ≡ (task_in_figures s id).time
    → PurseLemmas.purse t ≡ PurseLemmas.purse (task_in_figures s id)
    → Goes s (figures_with_task s id t)
goes-with_task s id t e p = goes-purses s _ (works-with_task s id t e) (PurseLemmas.kept-with_task s id t p)

goes-counted : (processor : ℕ) (d : Decision) (s : Figures) → Goes s (figures_counted processor d s)
goes-counted processor d s = goes-purses s _ (works-counted processor d s) (PurseLemmas.kept-counted processor d s)

goes-emptied : (processor : ℕ) (s : Figures) → Goes s (emptied processor s)
goes-emptied processor s = goes-purses s _ (works-with_processor s processor _ refl) (PurseLemmas.kept-with_processor s processor _ refl)

-- a task that leaves its processor, comes to one, or is admitted keeps what it has, and so does each other:
goes-leaves : (id : ℕ) (s : Figures) → Goes s (figures_left id s)
goes-leaves id s = record {
  keeps = works-leaves id s;
  goes = λ f short. let l = Leaving.leaves-stays s id f.sound (small s id f short) in record { sound = l.sound; uncapped_after = l.uncapped_after };
}

goes-comes : (id processor now : ℕ) (s : Figures) → Goes s (comes id processor now s)
goes-comes id processor now s = record {
  keeps = works-comes id processor now s;
  goes = λ f short.
      let l = Leaving.leaves-stays s id f.sound (small s id f short) in
      let c = Coming.joined-stays (figures_left id s) id processor now l.sound l.nowhere in
      record { sound = c.sound; uncapped_after = λ j. c.uncapped_after j ∙ l.uncapped_after j };
}

goes-admitted : (id : ℕ) (nice : ℤ) (s : Figures) → Goes s (figures_admitted id nice (figures_left id s))
goes-admitted id nice s = record {
  keeps = works-then s (figures_left id s) _ (works-leaves id s) (works-with_task (figures_left id s) id _ refl);
  goes = λ f short.
      let l = Leaving.leaves-stays s id f.sound (small s id f short) in
      let c = Coming.admitted-stays (figures_left id s) id nice l.sound l.nowhere in
      record { sound = c.sound; uncapped_after = λ j. c.uncapped_after j ∙ l.uncapped_after j };
}

-- a switch to a task, or to none, is such a move
goes-switched : (reason : StopReason) (processor now : ℕ) (run : Option ℕ) (s : Figures) → Goes s (figures_switched reason processor now run s)
goes-switched reason processor now run s =
    goes-purses s _ (works-switched reason processor now run s) (PurseLemmas.kept-switched reason processor now run s)

-- a task that is pulled, if there is one, is such a move
goes-taken : (processor now : ℕ) (task : Option ℕ) (s : Figures) → Goes s (figures_taken processor now task s)
goes-taken processor now None s = goes-id s
goes-taken processor now (Some id) s =
    goes-then s (waited_there id now s) _ (goes-with_task s id _ refl refl)
    (goes-comes id processor now (waited_there id now s))

-- after its reading, what an event does
abbrev pub GoesFrom : Figures → Option ShownByAnswer → Figures → Type 0
GoesFrom s None s' = Goes s s'
GoesFrom s (Some x) s' = Goes (figures_read x.processor x.now s) s'

-- after the reading, a decision, a placement, a pull and a block leave each task what it has:
goes-decided : (processor now : ℕ) (d : Decision) (run : Option ℕ) (s : Figures)
    → Goes (figures_read processor now s) (figures_decided processor now d run s)
goes-decided processor now d run s =
    let r = figures_read processor now s in
    goes-then r (figures_counted processor d r) _ (goes-counted processor d r)
    (goes-switched Preempted processor (time_at processor now s) run (figures_counted processor d r))

goes-placed : (processor now : ℕ) (d : Decision) (id to : ℕ) (s : Figures) → Goes (figures_read processor now s) (placed processor now d id to s)
goes-placed processor now d id to s =
    let r = figures_read processor now s in
    let a = figures_counted processor d r in
    let c = comes id to (time_at processor now s) a in
    goes-then r a _ (goes-counted processor d r)
    (goes-then a c _ (goes-comes id to (time_at processor now s) a) (goes-with_task c id _ refl refl))

goes-pulled : (processor now : ℕ) (d : Decision) (task run : Option ℕ) (s : Figures)
    → Goes (figures_read processor now s) (figures_pulled processor now d task run s)
goes-pulled processor now d task run s =
    let r = figures_read processor now s in
    let a = figures_counted processor d r in
    let k = figures_taken processor (time_at processor now s) task a in
    goes-then r a _ (goes-counted processor d r)
    (goes-then a k _ (goes-taken processor (time_at processor now s) task a)
    (goes-switched Preempted processor (time_at processor now s) run k))

goes-blocked : (processor now id : ℕ) (run : Option ℕ) (s : Figures) → Goes (figures_read processor now s) (blocked processor now id run s)
goes-blocked processor now id run s =
    let r = figures_read processor now s in
    goes-then r (figures_left id r) _ (goes-leaves id r) (goes-switched Blocked processor (time_at processor now s) run (figures_left id r))

-- after its reading, what a reply does leaves each task what it has
goes-performed : (s : Figures) (e : Event) (r : Reply) → GoesFrom s (shown_by_reply e r) (performed s e r)
goes-performed s (Admit id nice mask slice) Admitted = goes-admitted id nice s
goes-performed s (EndWake processor now) (Placed task to by steps) =
    goes-placed processor now (record { hook = Place; by = by; steps = steps }) task to s
goes-performed s (Drain processor now) (Drained count run by steps) =
    let d : Decision = record { hook = Preempt; by = by; steps = steps } in
    goes-then _ (figures_decided processor now d run s) _ (goes-decided processor now d run s)
    (goes-emptied processor (figures_decided processor now d run s))
goes-performed s (Tick processor now) (Ticked run by steps) =
    goes-decided processor now (record { hook = Preempt; by = by; steps = steps }) run s
goes-performed s (Block processor now) (Went task run) = goes-blocked processor now task run s
goes-performed s (Pull processor from now) (Pulled task run by steps) =
    goes-pulled processor now (record { hook = OnPull; by = by; steps = steps }) task run s
goes-performed s e r = goes-id s

-- where the event's processor is not there, figures that stay as they are leave each task what it has
goes-nothing : (s : Figures) (e : Event) (r : Reply) → is_there s e ≡ false → IsShownWithin (length s.processors) (shown_by_reply e r)
    → GoesFrom s (shown_by_reply e r) s
goes-nothing s e r none h = subst (λ o. GoesFrom s o s) (sym (shown_by_reply-none s e r none h)) (goes-id s)

-- after its reading an event leaves each task what it has, whether its processor is there, and whether it is refused:
goes-if : (b : Bool) (s : Figures) (e : Event) (r : Reply) → is_there s e ≡ b → IsShownWithin (length s.processors) (shown_by_reply e r)
    → GoesFrom s (shown_by_reply e r) (cond b (performed s e r) s)
goes-if true s e r there h = goes-performed s e r
goes-if false s e r there h = goes-nothing s e r there h

goes-after : (s : Figures) (e : Event) (a : Result Reply Refusal)
    → IsShownWithin (length s.processors) (shown_by_answer e a) → GoesFrom s (shown_by_answer e a) (figures_after s e a)
goes-after s e (Ok r) h = goes-if (is_there s e) s e r refl h
goes-after s e (Err r) h = record {
  keeps = record { at = λ j. refl; count = refl; tasks = refl; times = λ id. refl };
  goes = λ f short. record {
    sound = record { weights = f.sound.weights; joined = f.sound.joined; table = f.sound.table; ids = f.sound.ids };
    uncapped_after = λ j. refl;
  };
}

-- a reading changes no purse
purse-with_charged : (s : Figures) (o : Option Slice) (id : ℕ)
    → PurseLemmas.purse (task_in_figures (with_charged s o) id) ≡ PurseLemmas.purse (task_in_figures s id)
purse-with_charged s None id = refl
purse-with_charged s (Some x) id = task_kept PurseLemmas.purse s x.task id _ refl

purse-read_at : (processor now : ℕ) (s : Figures) (id : ℕ)
    → PurseLemmas.purse (task_in_figures (figures_read processor now s) id) ≡ PurseLemmas.purse (task_in_figures s id)
purse-read_at processor now s id =
    purse-with_charged (figures_with_processor s processor (processor_read processor (processor_in_figures s processor) now))
    (slice_at processor (processor_in_figures s processor) now) id

-- what each unit of weight is given at a reading
abbrev pub given : ℕ → ℕ → Figures → ℕ
given processor now s = parts_per_weight (slice_length (slice_at processor (processor_in_figures s processor) now)) (processor_in_figures s processor).weight

-- a reading gives its part to each unit of weight at its processor, and nothing elsewhere, if the sum fits in 128 bits:
shared-read : (processor now j : ℕ) (s : Figures) (b : Bool) → processor < length s.processors
    → PurseLemmas.shared_at s processor + given processor now s ≤ 2 ^ 128 - 1
    → Tells b (processor ≡ j) (processor ≢ j)
    → (get_or (slice_set s.processors processor (processor_read processor (processor_in_figures s processor) now)) j unread).shared
    ≡ PurseLemmas.shared_at s j + cond b (given processor now s) 0
shared-read processor now j s true inside fits (inl e) =
    let q = processor_read processor (processor_in_figures s processor) now in
    let same : PurseLemmas.shared_at s processor ≡ PurseLemmas.shared_at s j = ap (PurseLemmas.shared_at s) e.1 in
    ap (λ k. (get_or (slice_set s.processors processor q) k unread).shared) (sym e.1)
    ∙ ap (λ (p : ProcessorFigures). p.shared) (get_or-set_same s.processors processor q unread inside)
    ∙ omega (arith, same, fits)
shared-read processor now j s false inside fits (inl e) = absurd (cc)
shared-read processor now j s true inside fits (inr e) = absurd (cc)
shared-read processor now j s false inside fits (inr e) =
    ap (λ (p : ProcessorFigures). p.shared)
    (get_or-set_other s.processors processor j (processor_read processor (processor_in_figures s processor) now) unread (λ h. e.1 (sym h)))
    ∙ omega arith

shared-read_at : (processor now j : ℕ) (s : Figures) → processor < length s.processors
    → PurseLemmas.shared_at s processor + given processor now s ≤ 2 ^ 128 - 1
    → PurseLemmas.shared_at (figures_read processor now s) j ≡ PurseLemmas.shared_at s j + cond (eqb processor j) (given processor now s) 0
shared-read_at processor now j s inside fits =
    ap (λ l. (get_or l j unread).shared) (processors-read_at processor now s)
    ∙ shared-read processor now j s (eqb processor j) inside fits (eqb_tells processor j)

-- a task that is there is given its weight times as much
worth-more_if : (f g : ℕ → ℕ) (processor k part : ℕ) (u : PurseLemmas.Purse) (b c : Bool)
    → Tells b (processor ≡ k) (processor ≢ k)
    → Tells c (k ≡ processor) (k ≢ processor) → g k ≡ f k + cond b part 0 → u.joined ≤ f k
    → u.accrued + u.weight * (g k - u.joined) ≡ (u.accrued + u.weight * (f k - u.joined)) + cond c u.weight 0 * part
worth-more_if f g processor k part u true true s t e h =
    let more : g k - u.joined ≡ (f k - u.joined) + part = omega (arith, e, h) in
    ap (λ n. u.accrued + u.weight * n) more ∙ omega arith
worth-more_if f g processor k part u false false s t e h =
    let same : g k - u.joined ≡ f k - u.joined = omega (arith, e) in
    ap (λ n. u.accrued + u.weight * n) same ∙ omega arith
worth-more_if f g processor k part u true false (inl s) (inr t) e h = absurd (t.1 (sym s.1))
worth-more_if f g processor k part u true false (inl s) (inl t) e h = absurd (cc)
worth-more_if f g processor k part u true false (inr s) t e h = absurd (cc)
worth-more_if f g processor k part u false true (inr s) (inl t) e h = absurd (s.1 (sym t.1))
worth-more_if f g processor k part u false true (inr s) (inr t) e h = absurd (cc)
worth-more_if f g processor k part u false true (inl s) t e h = absurd (cc)

worth-more : (f g : ℕ → ℕ) (processor part : ℕ) (u : PurseLemmas.Purse) (o : Option ℕ)
    → ((j : ℕ) → g j ≡ f j + cond (eqb processor j) part 0) → PurseLemmas.JoinedBy f u o
    → PurseLemmas.worth_at g u o ≡ PurseLemmas.worth_at f u o + cond (is_this processor o) u.weight 0 * part
worth-more f g processor part u None e h = omega arith
worth-more f g processor part u (Some k) e h =
    worth-more_if f g processor k part u (eqb processor k) (eqb k processor) (eqb_tells processor k)
    (eqb_tells k processor) (e k) h

-- a reading adds to what a task has its weight there times the part of each unit, if that part's sum fits
uncapped-read_at : (processor now id : ℕ) (s : Figures) → PurseLemmas.IsSound s → processor < length s.processors
    → PurseLemmas.shared_at s processor + given processor now s ≤ 2 ^ 128 - 1
    → PurseLemmas.uncapped (figures_read processor now s) id
    ≡ PurseLemmas.uncapped s id + weight_there processor (task_in_figures s id) * given processor now s
uncapped-read_at processor now id s h inside fits =
    let r = figures_read processor now s in
    ap (λ (u : PurseLemmas.Purse). PurseLemmas.worth_at (PurseLemmas.shared_at r) u u.processor) (purse-read_at processor now s id)
    ∙ worth-more (PurseLemmas.shared_at s) (PurseLemmas.shared_at r) processor (given processor now s)
    (PurseLemmas.purse (task_in_figures s id)) (task_in_figures s id).processor (λ j. shared-read_at processor now j s inside fits) (h.joined id)

-- two sums at once
sums_both : (f g : TaskFigures → ℕ) (n : ℕ) (xs : List TaskFigures)
    → sum_by (λ (t : TaskFigures). f t + g t * n) xs ≡ sum_by f xs + sum_by g xs * n
sums_both f g n [] = omega arith
sums_both f g n (x ∷ xs) =
    omega (
      arith,
      sum_by-cons (λ (t : TaskFigures). f t + g t * n) x xs,
      sum_by-cons f x xs,
      ap (λ k. k * n) (sum_by-cons g x xs),
      sums_both f g n xs,
    )

-- a reading leaves all sound, if what its processor has given fits in 128 bits
sound-read_at : (processor now : ℕ) (s : Figures) → PurseLemmas.IsSound s → processor < length s.processors
    → PurseLemmas.shared_at s processor + given processor now s ≤ 2 ^ 128 - 1
    → PurseLemmas.IsSound (figures_read processor now s)
sound-read_at processor now s h inside fits =
    let r = figures_read processor now s in
    let q = processor_read processor (processor_in_figures s processor) now in
    record {
      weights = λ j there.
          ap (λ l. (get_or l j unread).weight) (processors-read_at processor now s)
          ∙ processor_kept (λ (p : ProcessorFigures). p.weight) s processor j q refl
          ∙ h.weights j (omega (arith, there, count-read_at processor now s))
          ∙ sym (PurseLemmas.sums_like (weight_there j) (weight_there j) unknown r.tasks s.tasks
          (tasks-read_at processor now s) (λ i. ap (PurseLemmas.weight_of_purse j) (purse-read_at processor now s i)));
      joined = λ id.
          PurseLemmas.joined-more (PurseLemmas.shared_at s) (PurseLemmas.shared_at r) (PurseLemmas.purse (task_in_figures r id))
          (task_in_figures r id).processor (λ j. omega (arith, shared-read_at processor now j s inside fits))
          (PurseLemmas.joined-same (PurseLemmas.shared_at s) (PurseLemmas.purse (task_in_figures r id))
          (PurseLemmas.purse (task_in_figures s id)) (purse-read_at processor now s id) (h.joined id));
      table = λ id. omega (arith, h.table id, ap (λ (u : PurseLemmas.Purse). u.weight) (purse-read_at processor now s id));
      ids = tasks-read_at processor now s ∙ h.ids;
    }

-- a reading, all of whose numbers fit
pub record Reads (processor now : ℕ) (s : Figures) : Type 0 where
  pub full : IsFull (figures_read processor now s)
  pub uncapped_after : (id : ℕ)
      → PurseLemmas.uncapped (figures_read processor now s) id
      ≡ PurseLemmas.uncapped s id + weight_there processor (task_in_figures s id) * given processor now s

-- after a reading no unit of weight was given more than its processor's tasks ran, there or elsewhere
ahead-if : (s : Figures) (processor j shared busy part time busy' : ℕ) (b : Bool)
    → Tells b (processor ≡ j) (processor ≢ j) → IsFull s
    → shared ≡ PurseLemmas.shared_at s j + cond b part 0 → busy ≡ cond b busy' (processor_in_figures s j).busy
    → busy' ≡ (processor_in_figures s processor).busy + time → part ≤ time * parts_per_nanosecond
    → shared ≤ parts_per_nanosecond * busy
ahead-if s processor j shared busy part time busy' true (inl e) f is now more le =
    let same : (processor_in_figures s processor).busy ≡ (processor_in_figures s j).busy = ap (λ k. (processor_in_figures s k).busy) e.1 in
    omega (arith, f.ahead j, is, now, more, le, same)
ahead-if s processor j shared busy part time busy' false (inl e) f is now more le = absurd (cc)
ahead-if s processor j shared busy part time busy' true (inr e) f is now more le = absurd (cc)
ahead-if s processor j shared busy part time busy' false (inr e) f is now more le = omega (arith, f.ahead j, is, now)

-- a reading leaves all full, and gives each task its part by its weight there, if busy times stay short
pub full-read_at : (processor now : ℕ) (s : Figures) → IsFull s → processor < length s.processors
    → IsShort (figures_read processor now s)
    → Reads processor now s
full-read_at processor now s f inside short =
    let r = figures_read processor now s in
    let p = processor_in_figures s processor in
    let q = processor_read processor p now in
    let time = slice_length (slice_at processor p now) in
    let part = given processor now s in
    let busies : sum_by (λ (x : ProcessorFigures). x.busy) (slice_set s.processors processor q) + p.busy
    ≡ all_busy s + q.busy = sum_by-set (λ (x : ProcessorFigures). x.busy) s.processors processor q unread inside in
    let is-busy : all_busy r ≡ sum_by (λ (x : ProcessorFigures). x.busy) (slice_set s.processors processor q) =
    ap (λ l. sum_by (λ (x : ProcessorFigures). x.busy) l) (processors-read_at processor now s) in
    let part-of-all : p.busy ≤ all_busy s = get_or-le-sum_by (λ (x : ProcessorFigures). x.busy) s.processors processor unread inside in
    let unshareds : sum_by (λ (x : ProcessorFigures). x.unshared) (slice_set s.processors processor q) + p.unshared
    ≡ all_unshared s + q.unshared =
    sum_by-set (λ (x : ProcessorFigures). x.unshared) s.processors processor q unread inside in
    let is-unshared : all_unshared r ≡ sum_by (λ (x : ProcessorFigures). x.unshared) (slice_set s.processors processor q) =
    ap (λ l. sum_by (λ (x : ProcessorFigures). x.unshared) l) (processors-read_at processor now s) in
    let part-of-rest : p.unshared ≤ all_unshared s =
    get_or-le-sum_by (λ (x : ProcessorFigures). x.unshared) s.processors processor unread inside in
    let busy : q.busy ≡ p.busy + time = omega (arith, short, busies, is-busy, part-of-all) in
    let little : part ≤ time * parts_per_nanosecond = div-le_self (time * parts_per_nanosecond) p.weight in
    let shares : p.weight * part ≤ time * parts_per_nanosecond = mul-div-le (time * parts_per_nanosecond) p.weight in
    let fits : PurseLemmas.shared_at s processor + part ≤ 2 ^ 128 - 1 =
    omega (arith, f.ahead processor, little, busy, short, busies, is-busy, part-of-all) in
    let unshared : q.unshared ≡ p.unshared + (time * parts_per_nanosecond - p.weight * part) =
    omega (arith, part-of-rest, f.total, short, busies, is-busy, part-of-all, busy) in
    let uncapped_after : (id : ℕ) → PurseLemmas.uncapped r id ≡ PurseLemmas.uncapped s id + weight_there processor (task_in_figures s id) * part =
    λ id. uncapped-read_at processor now id s f.sound inside fits in
    let all : all_uncapped r ≡ all_uncapped s + weights_at s processor * part =
    PurseLemmas.sums_like (PurseLemmas.uncapped_of r)
    (λ (t : TaskFigures). PurseLemmas.uncapped_of s t + weight_there processor t * part) unknown r.tasks s.tasks
    (tasks-read_at processor now s) uncapped_after
    ∙ sums_both (PurseLemmas.uncapped_of s) (weight_there processor) part s.tasks in
    let weights : p.weight * part ≡ weights_at s processor * part = ap (λ n. n * part) (f.sound.weights processor inside) in
    record {
      full = record {
        sound = sound-read_at processor now s f.sound inside fits;
        total = omega (arith, all, weights, unshared, unshareds, is-unshared, busies, is-busy, busy, f.total, shares);
        ahead = λ j.
            ahead-if s processor j (PurseLemmas.shared_at r j) (processor_in_figures r j).busy part time q.busy
            (eqb processor j) (eqb_tells processor j) f (shared-read_at processor now j s inside fits)
            (ap (λ l. (get_or l j unread).busy) (processors-read_at processor now s)
            ∙ get_or-set_at (λ (p : ProcessorFigures). p.busy) s.processors processor j _ unread (λ same. omega (arith, same, inside))) busy little;
      };
      uncapped_after = uncapped_after;
    }

-- busy times are no longer than clocks
sums_le : (f g : ProcessorFigures → ℕ) (xs : List ProcessorFigures)
    → ((j : ℕ) → j < length xs → f (get_or xs j unread) ≤ g (get_or xs j unread)) → sum_by f xs ≤ sum_by g xs
sums_le f g [] h = omega arith
sums_le f g (x ∷ xs) h =
    omega (arith, sum_by-cons f x xs, sum_by-cons g x xs, h 0 (omega arith), sums_le f g xs (λ j inside. h (suc j) (omega (arith, inside))))

busy-le : (first : Option ℕ) (p : ProcessorFigures) → IsFilled first p.last p.busy p.running → p.busy ≤ p.last
busy-le None p h = omega (arith, h.0)
busy-le (Some first) p h = omega (arith, h)

-- in each history of at most 255 processors all busy times are short
is_short : (count : ℕ) (past : History) → count ≤ 255 → IsOfProcessors count past → IsShort (figures count past)
is_short count past few h =
    let s = figures count past in
    omega (
      arith,
      clocks_of-le count past few h,
      sums_le (λ (p : ProcessorFigures). p.busy) (λ (p : ProcessorFigures). p.last) s.processors (λ j inside.
          busy-le (processor_in_figures s j).first (processor_in_figures s j)
          (figures_are_filled count past j h (omega (arith, inside, count-figures count past h)))),
    )

-- at the opening nothing is there
same_everywhere_if : {X : Type 0} (n i : ℕ) (x : X) (b : Bool)
    → Tells b (length (replicate n x) ≤ i) (i < length (replicate n x))
    → get_or (replicate n x) i x ≡ x
same_everywhere_if n i x b (inl past) = get_or_past (replicate n x) i x past.1
same_everywhere_if n i x b (inr inside) = get_or-replicate n i x x (omega (arith, inside.1, length-replicate n x))

same_everywhere : {X : Type 0} (n i : ℕ) (x : X) → get_or (replicate n x) i x ≡ x
same_everywhere n i x = same_everywhere_if n i x (leb (length (replicate n x)) i) (leb_tells (length (replicate n x)) i)

-- things of which each counts nothing add up to nothing
sum-none : {X : Type 0} (f : X → ℕ) (x : X) (n : ℕ) → f x ≡ 0 → sum_by f (replicate n x) ≡ 0
sum-none f x zero e = refl
sum-none f x (suc n) e = omega (arith, sum_by-cons f x (replicate n x), e, sum-none f x n e)

-- the opening figures are full: nothing was given yet, and nothing ran
opening-full : (count : ℕ) → IsFull (opening_figures count)
opening-full count =
    let s = opening_figures count in
    record {
      sound = record {
        weights = λ processor inside.
            ap (λ (p : ProcessorFigures). p.weight) (same_everywhere count processor unread)
            ∙ sym (sum-none (weight_there processor) unknown 1024 refl);
        joined = λ id.
            PurseLemmas.joined-same (PurseLemmas.shared_at s) (PurseLemmas.purse (task_in_figures s id)) (PurseLemmas.purse unknown)
            (ap PurseLemmas.purse (same_everywhere 1024 id unknown)) tt;
        table = λ id. omega (arith, ap (λ (t : TaskFigures). t.weight) (same_everywhere 1024 id unknown));
        ids = length-replicate 1024 unknown;
      };
      total = omega (
        arith,
        sum-none (PurseLemmas.uncapped_of s) unknown 1024 refl,
        sum-none (λ (p : ProcessorFigures). p.unshared) unread count refl,
        sum-none (λ (p : ProcessorFigures). p.busy) unread count refl,
      );
      ahead = λ j. omega (arith, ap (λ (p : ProcessorFigures). p.shared) (same_everywhere count j unread));
    }

-- what an event gives and leaves
pub record Rises (s s' : Figures) (o : Option ShownByAnswer) : Type 0 where
  pub full : IsFull s'
  pub uncapped_after : (id : ℕ) → PurseLemmas.uncapped s' id ≡ PurseLemmas.uncapped s id + share s o id

-- an event adds to what each task has its share of the slice, and leaves all full, if what follows its reading is such a move
rises : (s s' : Figures) (o : Option ShownByAnswer) → IsFull s → IsShort s → IsShort s'
    → IsShownWithin (length s.processors) o → GoesFrom s o s'
    → Rises s s' o
rises s s' None f short short' w g =
    let m = g.goes f short in
    record { full = full-kept s s' f g.keeps m; uncapped_after = λ id. m.uncapped_after id ∙ omega arith }
rises s s' (Some x) f short short' w g =
    let r = figures_read x.processor x.now s in
    let short-r : IsShort r = omega (arith, short', busy-kept r s' g.keeps) in
    let k = full-read_at x.processor x.now s f w short-r in
    let m = g.goes k.full short-r in
    record {
      full = full-kept r s' k.full g.keeps m;
      uncapped_after = λ id.
          m.uncapped_after id ∙ k.uncapped_after id
          ∙ ap (λ n.
          PurseLemmas.uncapped s id
          + weight_there x.processor (task_in_figures s id) * parts_per_weight (slice_length (slice_at x.processor (processor_in_figures s x.processor) x.now)) n)
          (f.sound.weights x.processor w);
    }

-- each answered event of a history adds to what each task has its share of the slice, and leaves all full
step : (count : ℕ) (past : History) (m : AnsweredEvent) → count ≤ 255 → IsOfProcessors count (m ∷ past) → IsFull (figures count past)
    → Rises (figures count past) (figures count (m ∷ past)) (shown_by_answer m.event m.answer)
step count past m few h f =
    let s = figures count past in
    let w = within-figures count past m h in
    rises s (figures_after s m.event m.answer) (shown_by_answer m.event m.answer) f (is_short count past few h.1)
    (is_short count (m ∷ past) few h) w (goes-after s m.event m.answer w)

-- in each history what tasks have, and what is left over, is what was run
pub figures_are_full : (count : ℕ) (past : History) → count ≤ 255 → IsOfProcessors count past → IsFull (figures count past)
figures_are_full count [] few h = opening-full count
figures_are_full count (m ∷ past) few h = (step count past m few h (figures_are_full count past few h.1)).full

-- the fair time of a task rises at each reading by its share of the slice, and by nothing else
pub shares_out : SharesOut
shares_out count past m id few h =
    let s = figures count past in
    let s' = figures count (m ∷ past) in
    let f = figures_are_full count past few h.1 in
    let k = step count past m few h f in
    fair_of-uncapped s' id k.full (is_short count (m ∷ past) few h) ∙ k.uncapped_after id
    ∙ ap (λ n. n + share s (shown_by_answer m.event m.answer) id) (sym (fair_of-uncapped s id f (is_short count past few h.1)))

-- all fair times, and what was not shared out, are the time in which any task ran, in parts of a nanosecond
pub adds_up_fair_times : AddsUpFairTimes
adds_up_fair_times count past few h =
    let s = figures count past in
    let f = figures_are_full count past few h in
    let fair : all_fair s ≡ all_uncapped s =
    PurseLemmas.sums_like (λ (t : TaskFigures). fair_at s t t.processor) (PurseLemmas.uncapped_of s) unknown s.tasks s.tasks refl
    (λ j. fair_of-uncapped s j f (is_short count past few h)) in
    omega (arith, fair, f.total)
