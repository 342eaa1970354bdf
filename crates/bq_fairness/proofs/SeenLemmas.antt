-- Each event of the world is some steps at each processor, and so is each history.
use Rattle.std.proofs.Common.{◌≡◌, ◌≢◌, ℕ, ◌<◌, Bool, true, false, cond, List, [], ◌∷◌, ◌++◌, Option, Some, None, Ok, Err, refl, ap, sym, subst, ◌∙◌, arith, eqb-true}
use Rattle.std.specs.Prelude.{◌==◌}
use Rattle.std.specs.Option.{option_map_or}
use Rattle.std.proofs.lemmas.List.{length-set, get_or-set_same, get_or-set_other}
use Rattle.std.proofs.lemmas.Bool.{eqb-false}
use Rattle.bq_disc.specs.Tasks.{Task, find_task}
use Rattle.bq_disc.specs.Queues.{HasDistinctIds, can_use}
use Rattle.bq_disc.specs.Discipline.{Discipline}
use Rattle.bq_disc.specs.OneProcessor.{Running, present_at, charge, marked, enter_all}
use Rattle.bq_bpf.specs.declared.board.CounterCall.{CounterCall}
use Rattle.bq_hooks.specs.declared.settled.By.TheVariants as who
use Rattle.bq_hooks.specs.Contexts.{or_nobody}
use Rattle.bq_hooks.specs.Permitted.{may_pull, task_numbered}
use Rattle.bq_fairness.specs.Steps.{ProcessorStep, Pass, Decide, stepped, after_steps}
use Rattle.bq_fairness.specs.Events.{entries}
use Rattle.bq_fairness.proofs.EventLemmas.{events_are_steps}
use Rattle.bq_parts.specs.declared.event.Event.TheVariants.{Admit, Retire, Draw, Install, BeginWake, EndWake, Drain, Tick, Block, Pull}
use Rattle.bq_parts.specs.declared.reply.Reply.{Reply}
use Rattle.bq_parts.specs.declared.refusal.Refusal.TheVariants as no
use Rattle.bq_parts.specs.Processors.{Processor, new_processor}
use Rattle.bq_parts.specs.declared.lobby_entry.LobbyEntry.{LobbyEntry}
use Rattle.bq_parts.specs.Refusals.{refusal}
use Rattle.bq_parts.specs.World.{World, processor_at, inbox, count_in, with_processor}
use Rattle.bq_parts.specs.Moves.{taken_from, without_task, with_pulled, started_if_idle}
use Rattle.bq_parts.specs.Orderly.{IsOrderly}
use Rattle.bq_parts.specs.Choices.{by_programs, SettledChoice, own_pull}
use Rattle.bq_parts.specs.Shares.{Ticks, Drains, Blocks, Pulls, after_time, mark_updated}
use Rattle.bq_parts.proofs.CountLemmas.{each_once_queue, HasDistinctIds-from_counts}
use Rattle.bq_parts.proofs.OnceLemmas.{each_once_running}
use Rattle.bq_parts.proofs.PermittedLemmas.{settled_permitted, own_pull_permitted, may_pull_names}
use Rattle.bq_parts.proofs.RefusalLemmas.{first_refusal_passed, not_refused_is_there, accepted}
use Rattle.bq_core.proofs.OrderLemmas.{step_tidy, step_keeps}
use Rattle.bq_fairness.specs.Seen.{running_at, enter_if_pulled, decide_if_idle, own_steps, leaving, steps_at, DecidesAlone, EventIsSteps, HistoryIsSteps}
use Rattle.bq_fairness.proofs.PassingLemmas.{own_decision}

-- What is read of a world after a processor was written

-- at the processor that was written stands what was written, and at each other what stood there
at_itself : (w : World) (processor : ℕ) (q : Processor) → processor < count_in w
    → running_at (with_processor w processor q) processor ≡ q.running
at_itself w processor q l = ap (λ (x : Processor). x.running) (get_or-set_same w.processors processor q new_processor l)

at_another : (w : World) (processor at : ℕ) (q : Processor) → at ≢ processor
    → running_at (with_processor w processor q) at ≡ running_at w at
at_another w processor at q n = ap (λ (x : Processor). x.running) (get_or-set_other w.processors processor at q new_processor n)

-- where the running part stays, nothing is seen of it anywhere
unseen : (w : World) (processor at : ℕ) (q : Processor) (t : Bool)
    → (at == processor) ≡ t → at < count_in w → q.running ≡ running_at w processor
    → running_at (with_processor w processor q) at ≡ running_at w at
unseen w processor at q true e l h =
    let same = eqb-true at processor e in
    subst (λ n. running_at (with_processor w processor q) n ≡ running_at w n) (sym same)
    (at_itself w processor q (subst (λ n. n < count_in w) same l) ∙ h)
unseen w processor at q false e l h = at_another w processor at q (eqb-false at processor e)

-- what an event does at only its own processor
seen_there : (d : Discipline) (w : World) (processor at : ℕ) (q : Processor) (ss : List ProcessorStep) (t : Bool)
    → (at == processor) ≡ t → at < count_in w → (at ≡ processor → q.running ≡ after_steps d (running_at w processor) ss)
    → running_at (with_processor w processor q) at ≡ after_steps d (running_at w at) (cond t ss [])
seen_there d w processor at q ss true e l h =
    let same = eqb-true at processor e in
    subst (λ n. running_at (with_processor w processor q) n ≡ after_steps d (running_at w n) ss) (sym same)
    (at_itself w processor q (subst (λ n. n < count_in w) same l) ∙ h same)
seen_there d w processor at q ss false e l h = at_another w processor at q (eqb-false at processor e)

-- the tasks at a processor of an orderly world have distinct ids
pub distinct_at : (w : World) (processor : ℕ) → IsOrderly w → HasDistinctIds (present_at (running_at w processor))
distinct_at w processor o = HasDistinctIds-from_counts (present_at (running_at w processor)) (each_once_running w processor o)

-- The events that one processor sees

-- what an event leaves at its own processor is what its steps leave, by events: Tick, Drain, Block
tick_seen : (d : Discipline) (at processor now : ℕ) (p q : Processor) (calls : List CounterCall) (r : Reply)
    → Ticks (by_programs d) processor now p calls r q → DecidesAlone at (Tick processor now) (Ok r) → at ≡ processor
    → q.running ≡ after_steps d p.running (Pass now ∷ Decide ∷ [])
tick_seen d at processor now p q calls r h alone same =
    let settled : SettledChoice = h.0 in
    let own = subst (λ x. DecidesAlone at (Tick processor now) (Ok x)) h.3 alone same in
    let c = after_time d now p in
    ap (λ (x : Processor). x.running) h.1.1 ∙ own_decision (by_programs d) processor c c.running.current settled h.1.0 own

drain_seen : (d : Discipline) (at processor now : ℕ) (p q : Processor) (tasks : List Task)
    (calls : List CounterCall) (r : Reply)
    → Drains (by_programs d) processor now p tasks calls r q → DecidesAlone at (Drain processor now) (Ok r) → at ≡ processor
    → q.running ≡ after_steps d p.running (Pass now ∷ entries d (charge d p.running now).mark tasks)
drain_seen d at processor now p q tasks calls r h alone same =
    let settled : SettledChoice = h.0 in
    let own = subst (λ x. DecidesAlone at (Drain processor now) (Ok x)) h.3 alone same in
    let c = after_time d now p in
    let e = record c { running = enter_all d c.running tasks } in
    ap (λ (x : Processor). x.running) h.1.1 ∙ own_decision (by_programs d) processor e e.running.current settled h.1.0 own
    ∙ events_are_steps.drain d p.running now tasks

block_seen : (d : Discipline) (w : World) (processor now : ℕ) (q : Processor) (lobby : List LobbyEntry) (r : Reply)
    → IsOrderly w → Blocks d processor now (processor_at w processor) w.lobby (Ok r) q lobby
    → q.running ≡ after_steps d (running_at w processor) (own_steps d w (Block processor now) r)
block_seen d w processor now q lobby r o h =
    let t : Task = h.0 in
    subst (λ x. q.running ≡ after_steps d (running_at w processor) (own_steps d w (Block processor now) x)) (sym h.1.2)
    (ap (λ (x : Processor). x.running) h.1.1 ∙ events_are_steps.block d (running_at w processor) now t (distinct_at w processor o) h.1.0)

-- A pull, as its two processors see it

-- to let a pulled task enter, and start the choice if nothing runs, is to make the steps for it
entered_then : (d : Discipline) (p : Running) (o cur : Option Task)
    → p.current ≡ cur → started_if_idle d (with_pulled d p o) cur ≡ after_steps d p (enter_if_pulled d p o ++ decide_if_idle cur)
entered_then d p None None e = events_are_steps.idle d p e
entered_then d p (Some t) None e = events_are_steps.idle d (with_pulled d p (Some t)) e
entered_then d p None (Some u) e = refl
entered_then d p (Some t) (Some u) e = refl

-- where a test finds that a task may use a processor, there is one
there_is : (processor : ℕ) (o : Option Task) → option_map_or (can_use processor) o false ≡ true → (t : Task) × (o ≡ Some t)
there_is processor None h = cc
there_is processor (Some t) h = (t, refl)

-- to compute the mark again and take a task away is to make the steps of the other processor of a pull
goes_away : (d : Discipline) (processor n : ℕ) (p : Running) (task : Option ℕ)
    → HasDistinctIds (present_at p) → may_pull processor p.queue n ≡ true → task_numbered n ≡ task
    → without_task (marked d p) task ≡ after_steps d p (leaving task)
goes_away d processor n p None h may e = refl
goes_away d processor n p (Some id) h may e =
    let found = there_is processor (find_task id p.queue) (may_pull_names processor p.queue n id may e) in
    events_are_steps.pulled_away d p id found.0 h found.1

-- written at two processors, it is seen at the one, at the other, or not
pull_cases : (d : Discipline) (w : World) (processor from at : ℕ) (q r : Processor) (ss rs : List ProcessorStep) (t u : Bool)
    → (at == processor) ≡ t → (at == from) ≡ u → processor ≢ from → at < count_in w
    → q.running ≡ after_steps d (running_at w processor) ss → r.running ≡ after_steps d (running_at w from) rs
    → running_at (with_processor (with_processor w processor q) from r) at ≡ after_steps d (running_at w at) (cond t ss (cond u rs []))
pull_cases d w processor from at q r ss rs true u e f n l hq hr =
    let same = eqb-true at processor e in
    let here = subst (λ n. n < count_in w) same l in
    subst (λ n. running_at (with_processor (with_processor w processor q) from r) n ≡ after_steps d (running_at w n) ss) (sym same)
    (at_another (with_processor w processor q) from processor r n ∙ at_itself w processor q here ∙ hq)
pull_cases d w processor from at q r ss rs false true e f n l hq hr =
    let same = eqb-true at from f in
    let here : from < count_in (with_processor w processor q) = rw length-set (subst (λ n. n < count_in w) same l) in
    subst (λ n. running_at (with_processor (with_processor w processor q) from r) n ≡ after_steps d (running_at w n) rs) (sym same)
    (at_itself (with_processor w processor q) from r here ∙ hr)
pull_cases d w processor from at q r ss rs false false e f n l hq hr =
    at_another (with_processor w processor q) from at r (eqb-false at from f) ∙ at_another w processor at q (eqb-false at processor e)

-- what a pull leaves at a processor, at the puller, the source or another, is what its steps there leave
pull_seen : (d : Discipline) (at : ℕ) (w : World) (processor from now : ℕ) (q other : Processor)
    (calls : List CounterCall) (r : Reply)
    → IsOrderly w → at < count_in w → processor ≢ from
    → Pulls (by_programs d) processor from now (processor_at w processor) (processor_at w from) calls r q other
    → running_at (with_processor (with_processor w processor q) from other) at
    ≡ after_steps d (running_at w at) (steps_at d at w (Pull processor from now) (Ok r))
pull_seen d at w processor from now q other calls r o l apart h =
    let settled : SettledChoice = h.settled in
    let task = task_numbered settled.choice in
    let c = after_time d now (processor_at w processor) in
    let source = mark_updated d (processor_at w from) in
    let queue = (running_at w from).queue in
    let once = each_once_queue (running_at w from) (each_once_running w from o) in
    let may : may_pull processor queue settled.choice ≡ true =
    settled_permitted (by_programs d) _ c.hooks.pull c.running.last processor (may_pull processor queue)
    (or_nobody (own_pull processor c source)) settled (own_pull_permitted processor c source once) h.settles in
    subst (λ x.
    running_at (with_processor (with_processor w processor q) from other) at
    ≡ after_steps d (running_at w at) (steps_at d at w (Pull processor from now) (Ok x))) (sym h.replies)
    (pull_cases d w processor from at q other
    (Pass now ∷ enter_if_pulled d c.running (taken_from source.running task) ++ decide_if_idle c.running.current)
    (leaving task) (at == processor) (at == from) refl refl apart l
    (ap (λ (x : Processor). x.running) h.here ∙ entered_then d c.running (taken_from source.running task) c.running.current refl)
    (ap (λ (x : Processor). x.running) h.there
    ∙ goes_away d processor settled.choice (running_at w from) task (distinct_at w from o) may refl))

-- the two processors of a pull that is not refused differ
pub pulls_apart : (w : World) (processor from now : ℕ) → refusal w (Pull processor from now) ≡ None → processor ≢ from
pulls_apart w processor from now h =
    let f = not_refused_is_there (count_in w) processor _ (accepted w (Pull processor from now) h).0 in
    let g = not_refused_is_there (count_in w) from _ f.1 in
    eqb-false processor from (first_refusal_passed (processor == from) no.SameProcessor None g.1).0

-- Each event

-- what an event of an orderly world leaves at a processor is what its steps there leave
pub event_is_steps : EventIsSteps
event_is_steps d at w w' e calls (Err r) o l h alone = ap (λ v. running_at v at) h.1
event_is_steps d at w w' (Admit id nice mask slice) calls (Ok r) o l h alone = ap (λ v. running_at v at) h.1.3
event_is_steps d at w w' (Retire id) calls (Ok r) o l h alone = ap (λ v. running_at v at) h.1.3
event_is_steps d at w w' Draw calls (Ok r) o l h alone = ap (λ v. running_at v at) h.1.2
event_is_steps d at w w' (Install processor hook g policy) calls (Ok r) o l h alone =
    ap (λ v. running_at v at) h.1.3 ∙ unseen w processor at h.1.0 (at == processor) refl l (ap (λ (x : Processor). x.running) h.1.1.2)
event_is_steps d at w w' (BeginWake processor id) calls (Ok r) o l h alone =
    ap (λ v. running_at v at) h.1.4 ∙ unseen w processor at h.1.0 (at == processor) refl l (ap (λ (x : Processor). x.running) h.1.2.in_hand)
event_is_steps d at w w' (EndWake processor now) calls (Ok r) o l h alone =
    ap (λ v. running_at v at) h.1.4
    ∙ seen_there d w processor at h.1.1 (Pass now ∷ []) (at == processor) refl l (λ same. ap (λ (x : Processor). x.running) h.1.2.here)
event_is_steps d at w w' (Drain processor now) calls (Ok r) o l h alone =
    ap (λ v. running_at v at) h.1.2
    ∙ seen_there d w processor at h.1.0 (own_steps d w (Drain processor now) r) (at == processor) refl l
    (drain_seen d at processor now (processor_at w processor) h.1.0 (inbox w processor) calls r h.1.1 alone)
event_is_steps d at w w' (Tick processor now) calls (Ok r) o l h alone =
    ap (λ v. running_at v at) h.1.2
    ∙ seen_there d w processor at h.1.0 (own_steps d w (Tick processor now) r) (at == processor) refl l
    (tick_seen d at processor now (processor_at w processor) h.1.0 calls r h.1.1 alone)
event_is_steps d at w w' (Block processor now) calls (Ok r) o l h alone =
    ap (λ v. running_at v at) h.1.4
    ∙ seen_there d w processor at h.1.0 (own_steps d w (Block processor now) r) (at == processor) refl l
    (λ same. block_seen d w processor now h.1.0 h.1.1 r o h.1.2)
event_is_steps d at w w' (Pull processor from now) calls (Ok r) o l h alone =
    ap (λ v. running_at v at) h.1.3
    ∙ pull_seen d at w processor from now h.1.0 h.1.1 calls r o l (pulls_apart w processor from now h.0) h.1.2

-- Histories

-- some steps and others after them are all of them, one after another
after-append : (d : Discipline) (p : Running) (ss rs : List ProcessorStep) → after_steps d p (ss ++ rs) ≡ after_steps d (after_steps d p ss) rs
after-append d p [] rs = refl
after-append d p (s ∷ ss) rs = after-append d (stepped d p s) ss rs

-- what a history of an orderly world leaves at a processor is what its steps there leave
pub history_is_steps : HistoryIsSteps
history_is_steps d at w w' [] [] [] ss o l h = ap (λ v. running_at v at) h.0 ∙ ap (λ xs. after_steps d (running_at w at) xs) (sym h.1)
history_is_steps d at w w' (e ∷ es) (calls ∷ more) (a ∷ answers) ss o l h =
    let mid : World = h.0 in
    let rest : List ProcessorStep = h.1 in
    let y = step_tidy (by_programs d) w e calls a mid h.2 o in
    let first = event_is_steps d at w mid e calls a o l h.2 h.3 in
    let l' : at < count_in mid = omega (arith, y.many) in
    let then = history_is_steps d at mid w' es more answers rest (step_keeps (by_programs d) w e calls a mid h.2 o) l' h.4 in
    then ∙ ap (λ p. after_steps d p rest) first ∙ sym (after-append d (running_at w at) (steps_at d at w e a) rest)
    ∙ ap (λ xs. after_steps d (running_at w at) xs) (sym h.5)
history_is_steps d at w w' es more answers ss o l h = absurd h
