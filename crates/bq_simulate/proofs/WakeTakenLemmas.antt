-- A wake that a world takes: it begins, it ends, and the task is taken in.
use Rattle.std.proofs.Common.{◌≡◌, ◌≢◌, ℕ, ◌+◌, ◌<◌, inl, inr, true, false, List, [], ◌∷◌, ◌++◌, length, Option, Some, None, refl, sym, subst, ap, ◌∙◌, arith}
use Rattle.std.specs.Prelude.{◌==◌, Ok, is_none, slice_get, slice_set, unwrap_or}
use Rattle.std.specs.Option.{option_map_or}
use Rattle.std.proofs.lemmas.Bool.{cases_lt, lt-leb, true≢false}
use Rattle.std.proofs.lemmas.List.{get_or-set_other, get_or-set_same, get_or_past, length-set}
use Rattle.std.proofs.lemmas.Option.{same_Some}
use Rattle.bq_bpf.specs.declared.board.CounterCall.{CounterCall}
use Rattle.bq_disc.specs.Tasks.{Task, id_of}
use Rattle.bq_disc.specs.Discipline.{Discipline}
use Rattle.bq_disc.specs.OneProcessor.{Running, enter_all, present_at}
use Rattle.bq_hooks.specs.OwnPlace.{own_place}
use Rattle.bq_hooks.specs.Permitted.{may_place}
use Rattle.bq_hooks.proofs.PermittedLemmas.{own_place_permitted}
use Rattle.bq_parts.specs.declared.carried.Carried.{Carried}
use Rattle.bq_parts.specs.declared.event.Event.TheVariants.{BeginWake, Drain, EndWake}
use Rattle.bq_parts.specs.declared.lobby_entry.LobbyEntry.{LobbyEntry}
use Rattle.bq_parts.specs.declared.lobby_entry.LobbyEntry.TheVariants.{Absent, Away}
use Rattle.bq_parts.specs.declared.reply.Reply.{Reply}
use Rattle.bq_parts.specs.Processors.{Processor, new_processor, size_of}
use Rattle.bq_parts.specs.World.{World, processor_at, inbox, entry_of_id, count_in, with_inbox, with_lobby, with_processor}
use Rattle.bq_parts.specs.Choices.{SettledChoice, decided_by, place_bytes, by_programs}
use Rattle.bq_parts.specs.Refusals.{either_refusal, is_absent}
use Rattle.bq_parts.specs.Shares.{after_time}
use Rattle.bq_parts.specs.Orderly.{IsOrderly}
use Rattle.bq_parts.specs.Steps.{WorldStep}
use Rattle.bq_parts.proofs.PermittedLemmas.{may_place_fits, settled_permitted}
use Rattle.bq_parts.proofs.TallyLemmas.{tally, tally-charge, tally-decided, tally-enter_all}
use Rattle.bq_core.proofs.EachProcessorLemmas.{at_set, at_set_else}
use Rattle.bq_core.proofs.OrderLemmas.{step_keeps}
use Rattle.bq_core.proofs.SizeLemmas.{step_count}
use Rattle.bq_workload.specs.declared.progress.TaskProgress.{TaskProgress}
use Rattle.bq_workload.specs.declared.processor_state.ProcessorState.{ProcessorState}
use Rattle.bq_workload.specs.declared.periods.Periods.{Periods}
use Rattle.bq_workload.specs.Accounts.{Accounts, accounts_entered, grown, of_task}
use Rattle.bq_workload.specs.TaskProgress.{progress_woken}
use Rattle.bq_workload.proofs.ListLemmas.{changed_at-here}
use Rattle.bq_simulate.specs.Agreement.{AgreesWith, HaveProcessors, Mirrors, StandsAs, state_at}
use Rattle.bq_simulate.specs.AgreementLaws.{IsTaken, IsTakenIn, WakesAreTaken}
use Rattle.bq_simulate.specs.Drives.{count_entered, placed_at, runs_now}
use Rattle.bq_simulate.proofs.AccountsReadLemmas.{Reads, reads_grown, reads_join, reads_same, reads_switched, state_others, state_woken}
use Rattle.bq_simulate.proofs.EventTakenLemmas.{current_id}
use Rattle.bq_simulate.proofs.MirrorLemmas.{agree_after, each, homes_switched, homes_task, runs_written, run_there, size_there, state_there, tally_length, tasks_kept, there}

-- a wake has begun: one hand holds a task, and else none is on its way
pub record IsBegun (from : ℕ) (w : World) (a : Accounts) : Type 0 where
  pub orderly : IsOrderly w
  pub entries : length w.lobby ≡ 1024
  pub low : from < count_in w
  pub carried : Carried
  pub holds : (processor_at w from).hand ≡ Some carried
  pub hands : (other : ℕ) → other ≢ from → (processor_at w other).hand ≡ None
  pub inboxes : (processor : ℕ) → inbox w processor ≡ []
  pub mirrors : Mirrors w a
  pub homes : HaveProcessors (count_in w) a

-- a wake has ended: one inbox has one task, and else none is on its way
pub record IsPlacedAt (to : ℕ) (w : World) (a : Accounts) : Type 0 where
  pub orderly : IsOrderly w
  pub entries : length w.lobby ≡ 1024
  pub low : to < count_in w
  pub hands : (processor : ℕ) → (processor_at w processor).hand ≡ None
  pub task : Task
  pub comes : inbox w to ≡ task ∷ []
  pub inboxes : (other : ℕ) → other ≢ to → inbox w other ≡ []
  pub mirrors : Mirrors w a
  pub homes : HaveProcessors (count_in w) a

-- a task that is not absent has an entry
pub present_there : (w : World) (task : ℕ) → is_absent (entry_of_id w task) ≡ false → task < length w.lobby
present_there w task h = elim (cases_lt task (length w.lobby))
    [ inl l ↦ l | inr g ↦ absurd (true≢false (sym (ap is_absent (get_or_past w.lobby task Absent g)) ∙ h)) ]

-- a task that sleeps is in the lobby
pub sleeper_stands : (w : World) (a : Accounts) (task : ℕ) (c : TaskProgress)
    → AgreesWith w a → slice_get a.by_task task ≡ Some c → StandsAs (Some c.task_state) (entry_of_id w task)
sleeper_stands w a task c h at =
    subst (λ o. StandsAs o (entry_of_id w task))
    (ap (λ (o : Option TaskProgress). option_map_or (λ (x : TaskProgress). Some x.task_state) o None) at)
    (h.mirrors.tasks task)

-- once the wake of a task has begun, a hand holds it, and by the accounts it can run
begin_kept : (d : Discipline) (w v : World) (a : Accounts) (from task : ℕ) (c : TaskProgress)
    (calls : List CounterCall) (r : Reply)
    → AgreesWith w a → from < count_in w → slice_get a.by_task task ≡ Some c → task < length w.lobby
    → WorldStep (by_programs d) w (BeginWake from task) calls (Ok r) v
    → IsBegun from v (of_task progress_woken task a)
begin_kept d w v a from task c calls r h low at small step =
    let k = step.1 in
    let q : Processor = k.0 in
    let x = k.2 in
    let b : Accounts = of_task progress_woken task a in
    let m = h.mirrors.processors in
    let l = state_there w a from m low in
    let form : World = with_lobby (with_processor w from q) (slice_set w.lobby task Away) in
    let is : v ≡ form = k.4 ∙ ap (with_lobby (with_processor w from q)) x.away in
    let runs_as =
    runs_written w a a from q l.0.run l.0.size m low (reads_same from a l.0 l.1)
    (run_there w a from l.0 m l.1 ∙ sym (ap (λ (y : Processor). id_of y.running.current) x.in_hand))
    (size_there w a from l.0 m l.1 ∙ sym (ap size_of x.in_hand)) in
    let mirrors : Mirrors form b = record {
      tasks =
          at_set_else (λ n (s : LobbyEntry). StandsAs (state_at b.by_task n) s) w.lobby task Away Absent small
          (subst (λ o. StandsAs o Away) (sym (state_woken task a c at)) (refl, refl))
          (λ other apart. subst (λ o. StandsAs o (entry_of_id w other)) (sym (state_others progress_woken task other a apart)) (h.mirrors.tasks other));
      processors = record { many = runs_as.many; runs = runs_as.runs; sizes = runs_as.sizes };
    } in
    let count : count_in v ≡ count_in w = step_count (by_programs d) w (BeginWake from task) calls (Ok r) v step in
    let carried : Carried = record { task = x.task; loads = _ } in
    record {
      orderly = step_keeps (by_programs d) w (BeginWake from task) calls (Ok r) v step h.orderly;
      entries = ap (λ (y : World). length y.lobby) is ∙ length-set w.lobby task Away ∙ h.entries;
      low = subst (λ n. from < n) (sym count) low;
      carried = carried;
      holds =
          ap (λ (y : World). (processor_at y from).hand) is
          ∙ ap (λ (p : Processor). p.hand) (get_or-set_same w.processors from q new_processor low)
          ∙ ap (λ (p : Processor). p.hand) x.in_hand;
      hands = λ other apart.
          ap (λ (y : World). (processor_at y other).hand) is
          ∙ ap (λ (p : Processor). p.hand) (get_or-set_other w.processors from other q new_processor apart) ∙ h.settled.hands other;
      inboxes = λ processor. ap (λ (y : World). inbox y processor) is ∙ h.settled.inboxes processor;
      mirrors = subst (λ y. Mirrors y b) (sym is) mirrors;
      homes = subst (λ n. HaveProcessors n b) (sym count) (homes_task (count_in w) task progress_woken a (λ y was. was) h.homes);
    }

-- once the wake has ended, the task is in the inbox of the processor on which it was placed
end_kept : (d : Discipline) (w v : World) (a : Accounts) (from to now : ℕ) (calls : List CounterCall) (r : Reply)
    → IsBegun from w a → placed_at r ≡ Some to → WorldStep (by_programs d) w (EndWake from now) calls (Ok r) v
    → IsPlacedAt to v a
end_kept d w v a from to now calls r h at step =
    let k = step.1 in
    let y = k.0 in
    let q : Processor = k.1 in
    let x = k.2 in
    let p : Processor = after_time d now (processor_at w from) in
    let m = h.mirrors.processors in
    let l = state_there w a from m h.low in
    let carried : Carried = x.carried in
    let settled : SettledChoice = x.settled in
    let own : ℕ = unwrap_or (own_place (count_in w) carried.loads carried.task) 0 in
    let goes =
    settled_permitted (by_programs d)
    (place_bytes (record { task = carried.task; waking = from; processors = count_in w; own = own; loads = carried.loads }))
    p.hooks.place p.running.last from (may_place (count_in w) carried.task) own settled
    (own_place_permitted (count_in w) carried.loads carried.task (h.orderly.places.in_hand from carried x.in_hand))
    x.settles in
    let there : y.to ≡ to = same_Some y.to to (sym (ap placed_at k.3) ∙ at) in
    let fits : to < count_in w =
    (may_place_fits (count_in w) carried.task to
    (subst (λ n. may_place (count_in w) carried.task n ≡ true) (sym x.to ∙ there) goes)).0 in
    let form : World = with_inbox (with_processor w from q) to (y.task ∷ []) in
    let is : v ≡ form =
    k.4 ∙ ap (λ n. with_inbox (with_processor w from q) n (inbox w n ++ y.task ∷ [])) there
    ∙ ap (λ tasks. with_inbox (with_processor w from q) to (tasks ++ y.task ∷ [])) (h.inboxes to) in
    let size : size_of q ≡ size_of (processor_at w from) =
    ap size_of x.here ∙ sym (tally_length (present_at p.running)) ∙ tally-charge each d (processor_at w from).running now
    ∙ tally_length (present_at (processor_at w from).running) in
    let runs_as =
    runs_written w a a from q l.0.run l.0.size m h.low (reads_same from a l.0 l.1)
    (run_there w a from l.0 m l.1 ∙ sym (current_id d (processor_at w from).running now)
    ∙ sym (ap (λ (z : Processor). id_of z.running.current) x.here)) (size_there w a from l.0 m l.1 ∙ sym size) in
    let mirrors : Mirrors form a =
    record { tasks = h.mirrors.tasks; processors = record { many = runs_as.many; runs = runs_as.runs; sizes = runs_as.sizes } } in
    let count : count_in v ≡ count_in w = step_count (by_programs d) w (EndWake from now) calls (Ok r) v step in
    let hands : (processor : ℕ) → (processor_at form processor).hand ≡ None =
    at_set_else (λ n (z : Processor). z.hand ≡ None) w.processors from q new_processor h.low
    (ap (λ (z : Processor). z.hand) x.here) h.hands in
    let even : to < length w.inboxes = omega (arith, fits, h.orderly.an_inbox_each) in
    record {
      orderly = step_keeps (by_programs d) w (EndWake from now) calls (Ok r) v step h.orderly;
      entries = ap (λ (z : World). length z.lobby) is ∙ h.entries;
      low = subst (λ n. to < n) (sym count) fits;
      hands = λ processor. ap (λ (z : World). (processor_at z processor).hand) is ∙ hands processor;
      task = y.task;
      comes = ap (λ (z : World). inbox z to) is ∙ get_or-set_same w.inboxes to (y.task ∷ []) [] even;
      inboxes = λ other apart.
          ap (λ (z : World). inbox z other) is ∙ get_or-set_other w.inboxes to other (y.task ∷ []) [] apart ∙ h.inboxes other;
      mirrors = subst (λ z. Mirrors z a) (sym is) mirrors;
      homes = subst (λ n. HaveProcessors n a) (sym count) h.homes;
    }

-- once that processor has taken in its inbox, one task has entered, and world and accounts agree
drain_kept : (d : Discipline) (periods : Periods) (w v : World) (a : Accounts) (to now : ℕ)
    (calls : List CounterCall) (r : Reply)
    → IsPlacedAt to w a → WorldStep (by_programs d) w (Drain to now) calls (Ok r) v
    → (count_entered r ≡ 1) × AgreesWith v (accounts_entered to (count_entered r) (runs_now r) now periods a)
drain_kept d periods w v a to now calls r h step =
    let k = step.1 in
    let q : Processor = k.0 in
    let settled : SettledChoice = k.1.0 in
    let p : Processor = processor_at w to in
    let tasks : List Task = inbox w to in
    let c : Processor = after_time d now p in
    let entered : Running = enter_all d c.running tasks in
    let is : q ≡ decided_by (by_programs d) (record c { running = entered }) settled = k.1.1.1 in
    let m = h.mirrors.processors in
    let l = state_there w a to m h.low in
    let run : Option ℕ = runs_now r in
    let counted : count_entered r ≡ length tasks = ap count_entered k.1.3 in
    let more : ProcessorState = record l.0 { size = l.0.size + count_entered r } in
    let mid : Accounts = grown to (count_entered r) a in
    let b : Accounts = accounts_entered to (count_entered r) run now periods a in
    let at : slice_get mid.by_processor to ≡ Some more =
    changed_at-here (λ (y : ProcessorState). record y { size = y.size + count_entered r }) a.by_processor to l.0 l.1 in
    let reads : Reads to run more.size a b =
    reads_join to more.size more.size l.0.run run a mid b (reads_grown to (count_entered r) a l.0 l.1)
    (reads_switched to run now periods mid more at) in
    let size : more.size ≡ size_of q = omega (
      arith,
      size_there w a to l.0 m l.1,
      counted,
      ap size_of is,
      ap (λ (y : Processor). tally each (present_at y.running)) is,
      tally_length (present_at q.running),
      tally-decided each d entered entered.current (settled.choice == 1) refl,
      tally-enter_all each d c.running tasks,
      tally-charge each d p.running now,
      tally_length (present_at p.running),
      tally_length tasks,
    ) in
    let form : World = with_inbox (with_processor w to q) to [] in
    let low' : to < length w.inboxes = omega (arith, h.low, h.orderly.an_inbox_each) in
    let runs_as = runs_written w a b to q run more.size m h.low reads (ap runs_now k.1.3) size in (
      counted ∙ ap length h.comes,
      agree_after (by_programs d) w form v (Drain to now) calls r b h.orderly step k.2 h.entries
          (record {
            hands =
                at_set (λ n (z : Processor). z.hand ≡ None) w.processors to q new_processor
                (ap (λ (z : Processor). z.hand) is ∙ h.hands to) h.hands;
            inboxes = at_set_else (λ n (ts : List Task). ts ≡ []) w.inboxes to [] [] low' refl h.inboxes;
          }) (record {
            tasks = tasks_kept w a b reads.states h.mirrors.tasks;
            processors = record { many = runs_as.many; runs = runs_as.runs; sizes = runs_as.sizes };
          }) (homes_switched (count_in w) to run now periods mid h.low h.homes),
    )

-- a hand that holds a task is not empty
not_empty : (o : Option Carried) (c : Carried) → o ≡ Some c → is_none o ≡ false
not_empty o c h = ap is_none h

-- the world takes the event by which that processor takes the task in
taken_in : (d : Discipline) (periods : Periods) (w : World) (a : Accounts) (to now : ℕ)
    → IsPlacedAt to w a
    → IsTaken d w (Drain to now)
    (λ drained v. (count_entered drained ≡ 1) × AgreesWith v (accounts_entered to (count_entered drained) (runs_now drained) now periods a))
taken_in d periods w a to now h = record {
  taken = ap (λ o. either_refusal o None) (there (count_in w) to h.low);
  leaves = λ calls r v step. drain_kept d periods w v a to now calls r h step;
}

-- the world takes the end of a wake that has begun, and then the event that takes the task in
ended : (d : Discipline) (periods : Periods) (w : World) (a : Accounts) (from now : ℕ)
    → IsBegun from w a → IsTaken d w (EndWake from now) (IsTakenIn d periods a now)
ended d periods w a from now h = record {
  taken = rw (lt-leb (count_in w) from h.low, not_empty (processor_at w from).hand h.carried h.holds) refl;
  leaves = λ calls r v step to at. taken_in d periods v a to now (end_kept d w v a from to now calls r h at step);
}

-- a world takes each wake that comes
pub wakes_are_taken : WakesAreTaken
wakes_are_taken d periods w a from task now c h low at sleeps =
    let stands = sleeper_stands w a task c h at in
    let small : task < length w.lobby = present_there w task stands.0 in
    record {
      taken =
          rw (
            lt-leb (count_in w) from low,
            lt-leb 1024 task (omega (arith, small, h.entries)),
            stands.0,
            stands.1,
            sleeps,
            h.settled.hands from,
          ) refl;
      leaves = λ calls r v step.
          ended d periods v (of_task progress_woken task a) from now (begin_kept d w v a from task c calls r h low at small step);
    }
