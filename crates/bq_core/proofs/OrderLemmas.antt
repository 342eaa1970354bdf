-- The laws of order: each event keeps it, by what its refusals leave and what it does; and so does each run.
use Rattle.std.proofs.Common.{◌≡◌, ℕ, zero, suc, ◌%◌, ◌^◌, true, false, List, [], ◌∷◌, Option, None, refl, subst, sym}
use Rattle.std.specs.Prelude.{ℤ, Result, Ok, Err, ◌==◌, nat_le, is_some, unwrap_or}
use Rattle.std.proofs.lemmas.List.{length-replicate}
use Rattle.std.proofs.lemmas.Nat.{pow_pos, mod_below}
use Rattle.std.proofs.lemmas.Bool.{eqb-false}
use Rattle.bq_parts.specs.declared.carried.Carried.{Carried}
use Rattle.bq_bpf.specs.declared.board.CounterCall.{CounterCall}
use Rattle.bq_hooks.specs.declared.hook.Hook.{Hook}
use Rattle.bq_verify.specs.Accepted.{Accepted}
use Rattle.bq_installed.specs.Answers.{fresh_maps}
use Rattle.bq_installed.specs.Installed.{InstalledFacts, with_installed}
use Rattle.bq_hooks.specs.Contexts.{or_nobody}
use Rattle.bq_hooks.specs.OwnPlace.{own_place, HasPlace}
use Rattle.bq_hooks.specs.Permitted.{may_place, may_pull, task_numbered}
use Rattle.bq_hooks.proofs.PermittedLemmas.{own_place_permitted}
use Rattle.bq_parts.specs.declared.event.Event.{Event}
use Rattle.bq_parts.specs.declared.event.Event.TheVariants.{Admit, Retire, Draw, Install, BeginWake, EndWake, Drain, Tick, Block, Pull}
use Rattle.bq_parts.specs.declared.reply.Reply.{Reply}
use Rattle.bq_parts.specs.declared.refusal.Refusal.{Refusal}
use Rattle.bq_parts.specs.declared.refusal.Refusal.TheVariants as no
use Rattle.bq_parts.specs.Processors.{Processor, HasEachOnce, new_processor}
use Rattle.bq_parts.specs.World.{World, opening_world, processor_at, entry_of_id, count_in, loads_of}
use Rattle.bq_parts.specs.Refusals.{refusal, argument_refusal, is_absent, is_away}
use Rattle.bq_parts.specs.Choices.{PolicySemantics, SettledChoice, by_programs, place_bytes, own_pull, under_any_answers}
use Rattle.bq_parts.specs.Moves.{admitted}
use Rattle.bq_parts.specs.Shares.{after_time, mark_updated}
use Rattle.bq_parts.specs.Steps.{WorldStep, Performs}
use Rattle.bq_parts.specs.Orderly.{IsOrderly}
use Rattle.bq_core.specs.Laws.{OpeningIsOrderly, StepKeeps, RunKeeps, StepKeepsOrder, StepKeepsOrderAnyhow, RunKeepsOrder, HistoryIsOrderly}
use Rattle.bq_parts.proofs.RefusalLemmas.{accepted, first_refusal_passed, not_refused_is_there}
use Rattle.bq_parts.proofs.CountLemmas.{each_once_queue}
use Rattle.bq_parts.proofs.OnceLemmas.{each_once_running}
use Rattle.bq_core.proofs.EachProcessorLemmas.{IsWell, AllWell, opening_well, performs_well}
use Rattle.bq_core.proofs.OnTheWayLemmas.{IsTidy, tidy_of, orderly_of, well_of, opening_tidy, same_everywhere}
use Rattle.bq_parts.proofs.PermittedLemmas.{settled_permitted, own_pull_permitted, may_place_fits}
use Rattle.bq_core.proofs.EventLemmas

-- the opening world is in order
pub opening_is_orderly : OpeningIsOrderly
opening_is_orderly n =
    let tidy : IsTidy (count_in (opening_world n)) [] (opening_world n) =
    subst (λ c. IsTidy c [] (opening_world n)) (sym (length-replicate n new_processor)) (opening_tidy n 1024) in
    orderly_of (opening_world n) tidy (λ processor. subst IsWell (sym (same_everywhere new_processor n processor)) opening_well)

-- the mask of a task that is admitted has a processor of the machine
admitted_has_place : (count id : ℕ) (nice : ℤ) (mask slice : ℕ)
    → argument_refusal count (Admit id nice mask slice) ≡ None
    → HasPlace count (admitted count id nice mask slice)
admitted_has_place count id nice mask slice h =
    let some = (first_refusal_passed (mask % 2 ^ count == 0) no.EmptyMask _ (first_refusal_passed (nat_le 1024 id) no.NoTask _ h).1).0 in
    (mod_below mask (2 ^ count) (pow_pos count), eqb-false (mask % 2 ^ count) 0 some)

-- the world after an event is tidy, with as many processors
abbrev Keeps : World → World → Type 0
Keeps w w' = IsTidy (count_in w) [] w'

-- each event by itself, as it is not refused
admit_keeps : (s : PolicySemantics) (w : World) (id : ℕ) (nice : ℤ) (mask slice : ℕ) (calls : List CounterCall)
    (r : Reply) (w' : World)
    → IsTidy (count_in w) [] w → refusal w (Admit id nice mask slice) ≡ None
    → Performs s w (Admit id nice mask slice) calls r w'
    → Keeps w w'
admit_keeps s w id nice mask slice calls r w' y h k =
    let f = accepted w (Admit id nice mask slice) h in
    rw (k.3, k.1.2) (EventLemmas.admit_tidy (count_in w) w id (admitted (count_in w) id nice mask slice) y k.1.0 refl
    (admitted_has_place (count_in w) id nice mask slice f.0))

retire_keeps : (s : PolicySemantics) (w : World) (id : ℕ) (calls : List CounterCall) (r : Reply) (w' : World)
    → IsTidy (count_in w) [] w → Performs s w (Retire id) calls r w' → Keeps w w'
retire_keeps s w id calls r w' y k =
    let later = (first_refusal_passed (is_absent (entry_of_id w id)) no.NoTask _ k.1.0).1 in
    rw (k.3, k.1.2) (EventLemmas.retire_tidy (count_in w) w id y (first_refusal_passed (is_away (entry_of_id w id)) no.NotBlocked None later).0)

install_keeps : (s : PolicySemantics) (w : World) (processor : ℕ) (hook : Hook) (g : ℕ) (policy : Option Accepted)
    (calls : List CounterCall) (r : Reply) (w' : World)
    → IsTidy (count_in w) [] w → refusal w (Install processor hook g policy) ≡ None
    → Performs s w (Install processor hook g policy) calls r w'
    → Keeps w w'
install_keeps s w processor hook g policy calls r w' y h k =
    let new : InstalledFacts = record { policy = policy; generation = g; maps = fresh_maps policy } in
    let l = (not_refused_is_there (count_in w) processor _ (accepted w (Install processor hook g policy) h).0).0 in
    rw (k.3, k.1.2) (EventLemmas.install_tidy (count_in w) w processor (with_installed hook (processor_at w processor).hooks new) y l)

begin_wake_keeps : (s : PolicySemantics) (w : World) (processor id : ℕ) (calls : List CounterCall) (r : Reply) (w' : World)
    → IsTidy (count_in w) [] w → refusal w (BeginWake processor id) ≡ None → Performs s w (BeginWake processor id) calls r w'
    → Keeps w w'
begin_wake_keeps s w processor id calls r w' y h k =
    let b = k.2 in
    let l = (not_refused_is_there (count_in w) processor _ (accepted w (BeginWake processor id) h).0).0 in
    let later =
    (first_refusal_passed (is_away (entry_of_id w id)) no.NotBlocked _
    (first_refusal_passed (is_absent (entry_of_id w id)) no.NoTask _ b.not_refused).1).1 in
    rw (k.4, b.in_hand, b.away) (EventLemmas.begin_wake_tidy (count_in w)
    w processor id b.task (loads_of w.processors w.inboxes) y l b.sleeps
    (first_refusal_passed (is_some (processor_at w processor).hand) no.InHand None later).0)

end_wake_keeps : (s : PolicySemantics) (w : World) (processor now : ℕ) (calls : List CounterCall) (r : Reply) (w' : World)
    → IsTidy (count_in w) [] w → refusal w (EndWake processor now) ≡ None → Performs s w (EndWake processor now) calls r w'
    → Keeps w w'
end_wake_keeps s w processor now calls r w' y h k =
    let l = (not_refused_is_there (count_in w) processor None (accepted w (EndWake processor now) h).0).0 in
    let p : Processor = after_time s.discipline now (processor_at w processor) in
    let b = k.2 in
    let to = k.0.to in
    let carried : Carried = b.carried in
    let settled : SettledChoice = b.settled in
    let own : ℕ = unwrap_or (own_place (count_in w) carried.loads carried.task) 0 in
    let goes =
    settled_permitted s
    (place_bytes (record { task = carried.task; waking = processor; processors = count_in w; own = own; loads = carried.loads }))
    p.hooks.place p.running.last processor (may_place (count_in w) carried.task) own settled
    (own_place_permitted (count_in w) carried.loads carried.task (y.hand processor carried b.in_hand)) b.settles in
    let fits = may_place_fits (count_in w) carried.task to (subst (λ n. may_place (count_in w) carried.task n ≡ true) (sym b.to) goes) in
    rw (k.4, b.here, b.task) (EventLemmas.end_wake_tidy s.discipline (count_in w) w processor now to carried
    (record p.hooks { place = settled.installed }) y l b.in_hand fits.0 fits.1)

drain_keeps : (s : PolicySemantics) (w : World) (processor now : ℕ) (calls : List CounterCall) (r : Reply) (w' : World)
    → IsTidy (count_in w) [] w → refusal w (Drain processor now) ≡ None → Performs s w (Drain processor now) calls r w'
    → Keeps w w'
drain_keeps s w processor now calls r w' y h k =
    let l = (not_refused_is_there (count_in w) processor None (accepted w (Drain processor now) h).0).0 in
    rw (k.2, k.1.1.1) (EventLemmas.drain_tidy s (count_in w) w processor now k.1.0 y l)

tick_keeps : (s : PolicySemantics) (w : World) (processor now : ℕ) (calls : List CounterCall) (r : Reply) (w' : World)
    → IsTidy (count_in w) [] w → refusal w (Tick processor now) ≡ None → Performs s w (Tick processor now) calls r w'
    → Keeps w w'
tick_keeps s w processor now calls r w' y h k =
    let l = (not_refused_is_there (count_in w) processor None (accepted w (Tick processor now) h).0).0 in
    rw (k.2, k.1.1.1) (EventLemmas.tick_tidy s (count_in w) w processor now k.1.0 y l)

block_keeps : (s : PolicySemantics) (w : World) (processor now : ℕ) (calls : List CounterCall) (r : Reply) (w' : World)
    → IsTidy (count_in w) [] w → refusal w (Block processor now) ≡ None → Performs s w (Block processor now) calls r w'
    → Keeps w w'
block_keeps s w processor now calls r w' y h k =
    let l = (not_refused_is_there (count_in w) processor None (accepted w (Block processor now) h).0).0 in
    let b = k.2 in
    rw (k.4, b.1.1, b.1.3) (EventLemmas.block_tidy s.discipline (count_in w) w processor now b.0 y l b.1.0)

pull_keeps : (s : PolicySemantics) (w : World) (processor from now : ℕ) (calls : List CounterCall) (r : Reply) (w' : World)
    → IsOrderly w → IsTidy (count_in w) [] w → refusal w (Pull processor from now) ≡ None
    → Performs s w (Pull processor from now) calls r w'
    → Keeps w w'
pull_keeps s w processor from now calls r w' o y h k =
    let f = not_refused_is_there (count_in w) processor _ (accepted w (Pull processor from now) h).0 in
    let g = not_refused_is_there (count_in w) from _ f.1 in
    let apart = eqb-false processor from (first_refusal_passed (processor == from) no.SameProcessor None g.1).0 in
    let p : Processor = after_time s.discipline now (processor_at w processor) in
    let source : Processor = mark_updated s.discipline (processor_at w from) in
    let x = k.2 in
    let settled : SettledChoice = x.settled in
    let once : HasEachOnce source.running.queue = each_once_queue (processor_at w from).running (each_once_running w from o) in
    let may =
    settled_permitted s _ p.hooks.pull p.running.last processor (may_pull processor source.running.queue)
    (or_nobody (own_pull processor p source)) settled (own_pull_permitted processor p source once) x.settles in
    rw (k.3, x.here, x.there) (EventLemmas.pull_tidy s.discipline (count_in w) w processor from now settled.choice
    (task_numbered settled.choice) (record p.hooks { pull = settled.installed }) y f.0 g.0 apart may refl)

-- an event that is not refused keeps a world tidy
performs_tidy : (s : PolicySemantics) (w : World) (e : Event) (calls : List CounterCall) (r : Reply) (w' : World)
    → IsOrderly w → IsTidy (count_in w) [] w → refusal w e ≡ None → Performs s w e calls r w' → Keeps w w'
performs_tidy s w (Admit id nice mask slice) calls r w' o y h k = admit_keeps s w id nice mask slice calls r w' y h k
performs_tidy s w (Retire id) calls r w' o y h k = retire_keeps s w id calls r w' y k
performs_tidy s w Draw calls r w' o y h k = rw k.2 (EventLemmas.draw_tidy (count_in w) w _ y)
performs_tidy s w (Install processor hook g policy) calls r w' o y h k = install_keeps s w processor hook g policy calls r w' y h k
performs_tidy s w (BeginWake processor id) calls r w' o y h k = begin_wake_keeps s w processor id calls r w' y h k
performs_tidy s w (EndWake processor now) calls r w' o y h k = end_wake_keeps s w processor now calls r w' y h k
performs_tidy s w (Drain processor now) calls r w' o y h k = drain_keeps s w processor now calls r w' y h k
performs_tidy s w (Tick processor now) calls r w' o y h k = tick_keeps s w processor now calls r w' y h k
performs_tidy s w (Block processor now) calls r w' o y h k = block_keeps s w processor now calls r w' y h k
performs_tidy s w (Pull processor from now) calls r w' o y h k = pull_keeps s w processor from now calls r w' o y h k

-- in every setting a step leaves the world tidy
pub step_tidy : (s : PolicySemantics) (w : World) (e : Event) (calls : List CounterCall)
    (r : Result Reply Refusal) (w' : World)
    → WorldStep s w e calls r w' → IsOrderly w → Keeps w w'
step_tidy s w e calls (Ok r) w' step o = performs_tidy s w e calls r w' o (tidy_of w o) step.0 step.1
step_tidy s w e calls (Err r) w' step o = subst (Keeps w) (sym step.1) (tidy_of w o)

-- in every setting a step leaves all processors of the world well
step_well : (s : PolicySemantics) (w : World) (e : Event) (calls : List CounterCall) (r : Result Reply Refusal) (w' : World)
    → WorldStep s w e calls r w' → IsOrderly w → AllWell w'
step_well s w e calls (Ok r) w' step o = performs_well s w e calls r w' (well_of w o) step.1
step_well s w e calls (Err r) w' step o = subst AllWell (sym step.1) (well_of w o)

-- such a world is in order, however many processors it was said to have
tidy_is_orderly : (count : ℕ) (w : World) → IsTidy count [] w → AllWell w → IsOrderly w
tidy_is_orderly count w y well = orderly_of w (subst (λ c. IsTidy c [] w) (sym y.many) y) well

-- in every setting a step keeps order
pub step_keeps : (s : PolicySemantics) → StepKeeps s
step_keeps s w e calls r w' step o = tidy_is_orderly (count_in w) w' (step_tidy s w e calls r w' step o) (step_well s w e calls r w' step o)

-- in every setting each beginning of a list of events keeps order
pub run_keeps : (s : PolicySemantics) → RunKeeps s
run_keeps s w [] o zero [] [] w' run = subst IsOrderly (sym run) o
run_keeps s w [] o (suc n) [] [] w' run = subst IsOrderly (sym run) o
run_keeps s w (e ∷ es) o zero [] [] w' run = subst IsOrderly (sym run) o
run_keeps s w (e ∷ es) o (suc n) (calls ∷ more) (a ∷ answers) w' run =
    run_keeps s run.0 es (step_keeps s w e calls a run.0 run.1 o) n more answers w' run.2
run_keeps s w es o n calls answers w' run = absurd run

-- under every discipline each step keeps a world in order
pub step_keeps_order : StepKeepsOrder
step_keeps_order d = step_keeps (by_programs d)

-- each step keeps a world in order, even if a policy may answer anything at all
pub step_keeps_order_anyhow : StepKeepsOrderAnyhow
step_keeps_order_anyhow d = step_keeps (under_any_answers d)

-- under every discipline events one after another keep a world in order, after each of them
pub run_keeps_order : RunKeepsOrder
run_keeps_order d = run_keeps (by_programs d)

-- under every discipline each world that events leave of the opening one is in order
pub history_is_orderly : HistoryIsOrderly
history_is_orderly d n es = run_keeps (by_programs d) (opening_world n) es (opening_is_orderly n)
