-- What each event keeps of every processor: its queue rises, and whatever stands at its hooks may stand there.
use Rattle.std.proofs.Common.{◌≡◌, ◌≢◌, ◌<◌, ℕ, zero, suc, inl, inr, Bool, true, false, List, [], ◌∷◌, length, Option, Some, None, refl, sym, subst, get_or, set}
use Rattle.std.specs.Prelude.{◌==◌}
use Rattle.std.proofs.lemmas.Bool.{cases_eq}
use Rattle.std.proofs.lemmas.List.{get_or-set_other, get_or-set_same}
use Rattle.bq_disc.specs.Tasks.{Task, find_task, without, inserted, id_of}
use Rattle.bq_disc.specs.Rising.{IsRising}
use Rattle.bq_disc.specs.Discipline.{Discipline, woken, pulled, next_of}
use Rattle.bq_disc.specs.OneProcessor.{Running, run_id, choice_started, exchanged, switched, decided, entered}
use Rattle.bq_disc.proofs.RisingLemmas.{IsRising-inserted, IsRising-without}
use Rattle.bq_bpf.specs.declared.board.CounterCall.{CounterCall}
use Rattle.bq_hooks.specs.declared.hook.Hook.{Hook}
use Rattle.bq_hooks.specs.declared.hook.Hook.TheVariants.{Place, Preempt, Pull}
use Rattle.bq_hooks.specs.declared.hook.Version.{Version}
use Rattle.bq_verify.specs.Accepted.{Accepted}
use Rattle.bq_installed.specs.Installed.{InstalledFacts, HooksFacts, new_hooks, with_installed}
use Rattle.bq_hooks.specs.Permitted.{task_numbered}
use Rattle.bq_installed.specs.Standing.{IsEquipped, MayBeInstalled, AreReady}
use Rattle.bq_parts.specs.declared.event.Event.{Event}
use Rattle.bq_parts.specs.declared.event.Event.TheVariants as event
use Rattle.bq_parts.specs.declared.reply.Reply.{Reply}
use Rattle.bq_parts.specs.Processors.{Processor, new_processor}
use Rattle.bq_parts.specs.World.{World, processor_at, inbox, with_processor}
use Rattle.bq_parts.specs.Choices.{PolicySemantics, SettledChoice, SettlesBy, SettlesPreempt, decided_by}
use Rattle.bq_parts.specs.Moves.{taken_from, without_task, with_pulled, started_if_idle}
use Rattle.bq_parts.specs.Shares.{after_time, mark_updated, Decides}
use Rattle.bq_parts.specs.Steps.{Performs}

-- a processor's queue rises, and whatever stands at its hooks may stand there
pub record IsWell (p : Processor) : Type 0 where
  pub rising : IsRising p.running.queue
  pub ready : AreReady p.hooks

-- the queue of every processor rises, and whatever stands at its hooks may stand there
abbrev pub AllWell : World → Type 0
AllWell w = (processor : ℕ) → IsWell (processor_at w processor)

-- a fact of each place of a list, after one place was written
pub at_set : {X : Type 0} (Q : ℕ → X → Type 0) (xs : List X) (i : ℕ) (x d : X)
    → Q i x → ((j : ℕ) → Q j (get_or xs j d)) → (j : ℕ) → Q j (get_or (set xs i x) j d)
at_set Q [] i x d q h j = h j
at_set Q (y ∷ ys) zero x d q h zero = q
at_set Q (y ∷ ys) zero x d q h (suc j) = h (suc j)
at_set Q (y ∷ ys) (suc i) x d q h zero = h zero
at_set Q (y ∷ ys) (suc i) x d q h (suc j) = at_set (λ n. Q (suc n)) ys i x d q (λ n. h (suc n)) j

-- a fact of each place of a list, after one place was written, where it may have been false
pub at_set_else : {X : Type 0} (Q : ℕ → X → Type 0) (xs : List X) (i : ℕ) (x d : X)
    → i < length xs → Q i x → ((j : ℕ) → j ≢ i → Q j (get_or xs j d))
    → (j : ℕ) → Q j (get_or (set xs i x) j d)
at_set_else Q xs i x d low here others j = elim (cases_eq j i) [
  | inl same ↦ subst (λ n. Q n (get_or (set xs i x) n d)) (sym same) (subst (Q i) (sym (get_or-set_same xs i x d low)) here)
  | inr apart ↦ subst (Q j) (sym (get_or-set_other xs i j x d apart)) (others j apart)
]

-- if all processors are well and a well one is written, all are well
pub well_at : (w : World) (processor : ℕ) (q : Processor) → AllWell w → IsWell q → AllWell (with_processor w processor q)
well_at w processor q all well = at_set (λ n (p : Processor). IsWell p) w.processors processor q new_processor well all

-- nothing stands at the opening
pub opening_well : IsWell new_processor
opening_well = record { rising = tt; ready = none }
  where
    none : AreReady new_hooks
    none Place = (tt, tt)
    none Preempt = (tt, tt)
    none Pull = (tt, tt)

-- Queues

-- a queue goes on to rise as a task begins to run, and as the current task gives way, by cases: to a task, to the next one
rising_run : (p : Running) (o : Option ℕ) → IsRising p.queue → IsRising (run_id p o).queue
rising_run p None h = h
rising_run p (Some id) h = IsRising-without id p.queue h

rising_exchanged : (p : Running) (old : Task) (o : Option Task) → IsRising p.queue → IsRising (exchanged p old o).queue
rising_exchanged p old None h = h
rising_exchanged p old (Some new) h = IsRising-inserted old (without new.id p.queue) (IsRising-without new.id p.queue h)

rising_switched : (d : Discipline) (p : Running) (o : Option Task) → IsRising p.queue → IsRising (switched d p o).queue
rising_switched d p None h = h
rising_switched d p (Some t) h = rising_exchanged p t (find_task (next_of d t p.queue) p.queue) h

-- it does so as its choice starts, and however it is decided who runs
rising_start : (d : Discipline) (p : Running) → IsRising p.queue → IsRising (choice_started d p).queue
rising_start d p h = rising_run p (id_of (d.choice p.queue)) h

rising_decided : (d : Discipline) (p : Running) (o : Option Task) (gives_way : Bool)
    → IsRising p.queue → IsRising (decided d p o gives_way).queue
rising_decided d p None b h = rising_start d p h
rising_decided d p (Some t) true h = rising_switched d p (Some t) h
rising_decided d p (Some t) false h = h

-- it does so as tasks enter, as one is pulled into it, and as its choice starts if nothing runs
rising_entered : (d : Discipline) (mark : ℕ) (queue tasks : List Task) → IsRising queue → IsRising (entered d mark queue tasks)
rising_entered d mark queue [] h = h
rising_entered d mark queue (t ∷ tasks) h =
    rising_entered d mark (inserted (woken d mark t) queue) tasks (IsRising-inserted (woken d mark t) queue h)

rising_pulled : (d : Discipline) (p : Running) (o : Option Task) → IsRising p.queue → IsRising (with_pulled d p o).queue
rising_pulled d p None h = h
rising_pulled d p (Some t) h = IsRising-inserted (pulled d p.mark t) p.queue h

rising_started : (d : Discipline) (p : Running) (o : Option Task) → IsRising p.queue → IsRising (started_if_idle d p o).queue
rising_started d p None h = rising_start d p h
rising_started d p (Some t) h = h

-- it does so as a task is taken out of it
rising_taken : (p : Running) (task : Option ℕ) → IsRising p.queue → IsRising (without_task p task).queue
rising_taken p None h = h
rising_taken p (Some id) h = IsRising-without id p.queue h

-- Hooks

-- something else that may stand there
ready_with : (hooks : HooksFacts) (hook : Hook) (new : InstalledFacts)
    → AreReady hooks → MayBeInstalled hook new → AreReady (with_installed hook hooks new)
ready_with hooks Place new h m Place = m
ready_with hooks Place new h m Preempt = h Preempt
ready_with hooks Place new h m Pull = h Pull
ready_with hooks Preempt new h m Place = h Place
ready_with hooks Preempt new h m Preempt = m
ready_with hooks Preempt new h m Pull = h Pull
ready_with hooks Pull new h m Place = h Place
ready_with hooks Pull new h m Preempt = h Preempt
ready_with hooks Pull new h m Pull = m

-- a policy that was asked stands there as before, with maps of its shapes
settled_stands : (s : PolicySemantics) (hook : Hook) (policy : Option Accepted) (context : Version → List ℕ)
    (installed : InstalledFacts) (now processor : ℕ) (permitted : ℕ → Bool) (own : ℕ) (settled : SettledChoice)
    → installed.policy ≡ policy → SettlesBy s policy context installed now processor permitted own settled
    → MayBeInstalled hook installed
    → MayBeInstalled hook settled.installed
settled_stands s hook None context installed now processor permitted own settled is h m = rw h m
settled_stands s hook (Some p) context installed now processor permitted own settled is h m =
    let had : IsEquipped (Some p) installed.maps = subst (λ (o : Option Accepted). IsEquipped o installed.maps) is m.1 in
    rw h.leaves (m.0, subst (λ (o : Option Accepted). IsEquipped o h.maps) (sym is) (had.0, h.shapes))

-- what is left at the preempt hook by a decision may stand there
preempt_stands : (s : PolicySemantics) (processor : ℕ) (p : Processor) (o : Option Task) (settled : SettledChoice)
    → SettlesPreempt s processor p o settled → AreReady p.hooks → MayBeInstalled Preempt settled.installed
preempt_stands s processor p None settled h ready = rw h (ready Preempt)
preempt_stands s processor p (Some t) settled h ready =
    settled_stands s Preempt p.hooks.preempt.policy _ p.hooks.preempt p.running.last processor _ _ settled
    refl h (ready Preempt)

-- Processors

-- a decision leaves a processor well
decides_well : (s : PolicySemantics) (processor : ℕ) (p : Processor) (settled : SettledChoice) (q : Processor)
    → Decides s processor p settled q → IsWell p → IsWell q
decides_well s processor p settled q h well =
    let q' : IsWell (decided_by s p settled) = record {
      rising = rising_decided s.discipline p.running p.running.current (settled.choice == 1) well.rising;
      ready =
          ready_with p.hooks Preempt settled.installed well.ready
          (preempt_stands s processor p p.running.current settled h.0 well.ready);
    } in
    subst IsWell (sym h.1) q'

-- time changes neither
time_well : (d : Discipline) (now : ℕ) (p : Processor) → IsWell p → IsWell (after_time d now p)
time_well d now p well = record { rising = well.rising; ready = well.ready }

-- an event that is not refused keeps all processors well
pub performs_well : (s : PolicySemantics) (w : World) (e : Event) (calls : List CounterCall) (r : Reply) (w' : World)
    → AllWell w → Performs s w e calls r w' → AllWell w'
performs_well s w (event.Admit id nice mask slice) calls r w' all k = rw k.3 all
performs_well s w (event.Retire id) calls r w' all k = rw k.3 all
performs_well s w event.Draw calls r w' all k = rw k.2 all
performs_well s w (event.Install processor h g policy) calls r w' all k =
    let p = processor_at w processor in
    let well = all processor in
    let i = k.1 in
    let q : IsWell k.0 = rw i.2 (record { rising = well.rising; ready = ready_with p.hooks h _ well.ready i.3 }) in
    rw k.3 (well_at w processor k.0 all q)
performs_well s w (event.BeginWake processor id) calls r w' all k =
    let well = all processor in
    let q : IsWell k.0 = rw k.2.in_hand (record { rising = well.rising; ready = well.ready }) in
    rw k.4 (well_at w processor k.0 all q)
performs_well s w (event.EndWake processor now) calls r w' all k =
    let p = processor_at w processor in
    let c = after_time s.discipline now p in
    let well = all processor in
    let b = k.2 in
    let new =
    settled_stands s Place c.hooks.place.policy _ c.hooks.place c.running.last processor _ _ b.settled refl b.settles
    (well.ready Place) in
    let q : IsWell k.1 = rw b.here (record { rising = well.rising; ready = ready_with c.hooks Place b.settled.installed well.ready new }) in
    rw k.4 (well_at w processor k.1 all q)
performs_well s w (event.Drain processor now) calls r w' all k =
    let c = after_time s.discipline now (processor_at w processor) in
    let well = all processor in
    let q = decides_well s processor _ k.1.0 k.0 k.1.1 (record {
      rising = rising_entered s.discipline c.running.mark c.running.queue (inbox w processor) well.rising;
      ready = well.ready;
    }) in
    rw k.2 (well_at w processor k.0 all q)
performs_well s w (event.Tick processor now) calls r w' all k =
    rw k.2 (well_at w processor k.0 all
    (decides_well s processor _ k.1.0 k.0 k.1.1 (time_well s.discipline now (processor_at w processor) (all processor))))
performs_well s w (event.Block processor now) calls r w' all k =
    let c = after_time s.discipline now (processor_at w processor) in
    let well = all processor in
    let gone : Running = record c.running { current = None } in
    let q : IsWell k.0 = rw k.2.1.1 (record { rising = rising_start s.discipline gone well.rising; ready = well.ready }) in
    rw k.4 (well_at w processor k.0 all q)
performs_well s w (event.Pull processor from now) calls r w' all k =
    let d = s.discipline in
    let c = after_time d now (processor_at w processor) in
    let other = processor_at w from in
    let x = k.2 in
    let source : Running = (mark_updated d other).running in
    let task = task_numbered x.settled.choice in
    let taken = taken_from source task in
    let well = all processor in
    let there = all from in
    let new =
    settled_stands s Pull c.hooks.pull.policy _ c.hooks.pull c.running.last processor _ _ x.settled refl x.settles
    (well.ready Pull) in
    let q : IsWell k.0 = rw x.here (record {
      rising = rising_started d (with_pulled d c.running taken) c.running.current (rising_pulled d c.running taken well.rising);
      ready = ready_with c.hooks Pull x.settled.installed well.ready new;
    }) in
    let o : IsWell k.1 = rw x.there (record { rising = rising_taken source task there.rising; ready = there.ready }) in
    rw k.3 (well_at (with_processor w processor k.0) from k.1 (well_at w processor k.0 all q) o)
