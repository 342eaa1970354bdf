-- If the counters answer alike and memory does not run out, two steps by one event from one world are one.
use Rattle.std.proofs.Common.{◌≡◌, ℕ, ◌^◌, ◌<◌, Bool, List, Option, Some, None, refl, sym, subst, ap, ◌∙◌, length, arith, inl, inr}
use Rattle.std.specs.Prelude.{Result, Ok, Err, unwrap_or}
use Rattle.std.proofs.lemmas.Option.{same_Some}
use Rattle.bq_disc.specs.Tasks.{Task}
use Rattle.bq_disc.specs.Discipline.{Discipline}
use Rattle.bq_disc.specs.Movable.{movable_to}
use Rattle.bq_disc.specs.OneProcessor.{own_preempt}
use Rattle.bq_bpf.specs.declared.board.CounterCall.{CounterCall}
use Rattle.bq_bpf.specs.Runs.{start}
use Rattle.bq_interp.specs.Laws.{AnswerAlike}
use Rattle.bq_interp.specs.Progress.{setting_of}
use Rattle.bq_interp.proofs.OneRunLemmas.{one_run}
use Rattle.bq_hooks.specs.declared.hook.Version.{Version}
use Rattle.bq_hooks.specs.declared.hook.Version.TheVariants.{First, Second}
use Rattle.bq_verify.specs.Accepted.{Accepted}
use Rattle.bq_installed.specs.Installed.{InstalledFacts}
use Rattle.bq_hooks.specs.Contexts.{PlaceFacts, PreemptFacts, PullFacts, preempt_bytes, pull_bytes, as_number, or_nobody}
use Rattle.bq_hooks.specs.OwnPlace.{own_place}
use Rattle.bq_hooks.specs.Permitted.{may_place, may_preempt, may_pull}
use Rattle.bq_hooks.specs.Settled.{settled as chosen}
use Rattle.bq_hooks.proofs.LengthLemmas.{length-place_bytes_first, length-place_bytes_second, length-preempt_bytes, length-pull_bytes}
use Rattle.bq_parts.specs.declared.event.Event.{Event}
use Rattle.bq_parts.specs.declared.event.Event.TheVariants.{Admit, Retire, Draw, Install, BeginWake, EndWake, Drain, Tick, Block, Pull}
use Rattle.bq_parts.specs.declared.carried.Carried.{Carried}
use Rattle.bq_parts.specs.declared.reply.Reply.{Reply}
use Rattle.bq_parts.specs.declared.refusal.Refusal.{Refusal}
use Rattle.bq_parts.specs.declared.lobby_entry.LobbyEntry.{LobbyEntry}
use Rattle.bq_parts.specs.declared.lobby_entry.LobbyEntry.TheVariants.{Sleeping}
use Rattle.bq_parts.specs.declared.waking.Placement.{Placement}
use Rattle.bq_parts.specs.Processors.{Processor, size_of}
use Rattle.bq_parts.specs.World.{World}
use Rattle.bq_parts.specs.Refusals.{refusal}
use Rattle.bq_parts.specs.Choices.{SettledChoice, SettlesBy, SettlesPlace, SettlesPreempt, SettlesPull, place_bytes, own_pull, by_programs, decided_by}
use Rattle.bq_parts.specs.Shares.{after_time, mark_updated, Decides, Ticks, Drains, Blocks, BeginsWake, Places, Pulls}
use Rattle.bq_parts.specs.Steps.{Performs, WorldStep}
use Rattle.bq_core.specs.Laws.{HadMemory, StepIsOne}

-- Choices

-- the context of a placement has fewer than 2^16 bytes
place_small : (f : PlaceFacts) (version : Version) → length (place_bytes f version) < 2 ^ 16
place_small f First = omega (arith, length-place_bytes_first f)
place_small f Second = omega (arith, length-place_bytes_second f)

-- settled choices with equal parts are equal
same_settled : (x y : SettledChoice) → x.choice ≡ y.choice → x.by ≡ y.by → x.steps ≡ y.steps → x.calls ≡ y.calls
    → x.installed ≡ y.installed
    → x ≡ y
same_settled x y choice by steps calls installed =
    ap (λ c. record x { choice = c }) choice
    ∙ ap (λ b. record x { choice = y.choice; by = b }) by
    ∙ ap (λ n. record x { choice = y.choice; by = y.by; steps = n }) steps
    ∙ ap (λ c. record x { choice = y.choice; by = y.by; steps = y.steps; calls = c }) calls
    ∙ ap (λ p. record y { installed = p }) installed

module _ (d : Discipline) where
  -- what is settled twice at a hook, on one context, is one if the counters answer alike, by hooks: any, preempt, place, pull
  settles_one : (policy : Option Accepted) (context : Version → List ℕ) (installed : InstalledFacts) (now processor : ℕ)
      (permitted : ℕ → Bool) (own : ℕ) (x y : SettledChoice)
      → ((version : Version) → length (context version) < 2 ^ 16)
      → SettlesBy (by_programs d) policy context installed now processor permitted own x
      → SettlesBy (by_programs d) policy context installed now processor permitted own y → AnswerAlike x.calls y.calls
      → x ≡ y
  settles_one None context installed now processor permitted own x y small h k alike = h ∙ sym k
  settles_one (Some p) context installed now processor permitted own x y small h k alike =
      let one =
      one_run (setting_of p (context p.version) now processor) (start installed.maps) x.steps y.steps x.calls y.calls h.r0 k.r0
      h.maps k.maps (small p.version) h.answers k.answers alike in
      same_settled x y
      (h.choice ∙ ap (λ r. (chosen permitted (Some r) own).choice) one.2 ∙ sym k.choice)
      (h.by ∙ ap (λ r. (chosen permitted (Some r) own).by) one.2 ∙ sym k.by)
      one.0
      one.1
      (h.leaves ∙ ap (λ maps. record installed { maps = maps }) one.3 ∙ sym k.leaves)

  preempt_one : (processor : ℕ) (p : Processor) (o : Option Task) (x y : SettledChoice)
      → SettlesPreempt (by_programs d) processor p o x → SettlesPreempt (by_programs d) processor p o y
      → AnswerAlike x.calls y.calls
      → x ≡ y
  preempt_one processor p None x y h k alike = h ∙ sym k
  preempt_one processor p (Some t) x y h k alike =
      let queue = p.running.queue in
      let own = own_preempt d queue (Some t) in
      let facts : PreemptFacts = record { processor = processor; queue = queue; current = t; choice = d.choice queue; own = own } in
      settles_one p.hooks.preempt.policy (λ version. preempt_bytes facts) p.hooks.preempt p.running.last processor may_preempt
      (as_number own) x y (λ version. omega (arith, length-preempt_bytes facts)) h k alike

  place_one : (count processor : ℕ) (p : Processor) (carried : Carried) (x y : SettledChoice)
      → SettlesPlace (by_programs d) count processor p carried x → SettlesPlace (by_programs d) count processor p carried y
      → AnswerAlike x.calls y.calls
      → x ≡ y
  place_one count processor p carried x y h k alike =
      let own = unwrap_or (own_place count carried.loads carried.task) 0 in
      let facts : PlaceFacts = record { task = carried.task; waking = processor; processors = count; own = own; loads = carried.loads } in
      settles_one p.hooks.place.policy (place_bytes facts) p.hooks.place p.running.last processor
      (may_place count carried.task) own x y (place_small facts) h k alike

  pull_one : (processor from : ℕ) (p other : Processor) (x y : SettledChoice)
      → SettlesPull (by_programs d) processor from p other x → SettlesPull (by_programs d) processor from p other y
      → AnswerAlike x.calls y.calls
      → x ≡ y
  pull_one processor from p other x y h k alike =
      let queue = other.running.queue in
      let own = own_pull processor p other in
      let facts : PullFacts = record {
        puller = processor;
        source = from;
        puller_size = size_of p;
        source_size = size_of other;
        movable = movable_to processor queue;
        own = own;
      } in
      settles_one p.hooks.pull.policy (λ version. pull_bytes facts) p.hooks.pull p.running.last processor
      (may_pull processor queue) (or_nobody own) x y (λ version. omega (arith, length-pull_bytes facts)) h k alike

  -- two decisions about one processor, if the counters answer alike, are one and leave one processor
  decides_one : (processor : ℕ) (p : Processor) (x y : SettledChoice) (q q' : Processor)
      → Decides (by_programs d) processor p x q → Decides (by_programs d) processor p y q' → AnswerAlike x.calls y.calls
      → (x ≡ y) × (q ≡ q')
  decides_one processor p x y q q' h k alike =
      let same = preempt_one processor p p.running.current x y h.0 k.0 alike in
      (same, h.1 ∙ ap (decided_by (by_programs d) p) same ∙ sym k.1)

  -- Shares

  -- what calls are alike, those of the settled choices are
  alike_settled : (calls calls' : List CounterCall) (x y : SettledChoice)
      → calls ≡ x.calls → calls' ≡ y.calls → AnswerAlike calls calls' → AnswerAlike x.calls y.calls
  alike_settled calls calls' x y e f alike =
      subst (λ (c : List CounterCall). AnswerAlike x.calls c) f
      (subst (λ (c : List CounterCall). AnswerAlike c calls') e alike)

  -- if the counters answer alike, two Ticks of one processor, and two Drains, have one reply, leave one processor and ask the same
  ticks_one : (processor now : ℕ) (p : Processor) (calls calls' : List CounterCall) (r r' : Reply) (q q' : Processor)
      → Ticks (by_programs d) processor now p calls r q → Ticks (by_programs d) processor now p calls' r' q'
      → AnswerAlike calls calls'
      → (r ≡ r') × (q ≡ q') × (calls ≡ calls')
  ticks_one processor now p calls calls' r r' q q' h k alike =
      let same = decides_one processor _ h.0 k.0 q q' h.1 k.1 (alike_settled calls calls' h.0 k.0 h.2 k.2 alike) in
      (h.3 ∙ rw (same.0, same.1) refl ∙ sym k.3, same.1, h.2 ∙ ap (λ (x : SettledChoice). x.calls) same.0 ∙ sym k.2)

  drains_one : (processor now : ℕ) (p : Processor) (tasks : List Task) (calls calls' : List CounterCall)
      (r r' : Reply) (q q' : Processor)
      → Drains (by_programs d) processor now p tasks calls r q → Drains (by_programs d) processor now p tasks calls' r' q'
      → AnswerAlike calls calls'
      → (r ≡ r') × (q ≡ q') × (calls ≡ calls')
  drains_one processor now p tasks calls calls' r r' q q' h k alike =
      let same = decides_one processor _ h.0 k.0 q q' h.1 k.1 (alike_settled calls calls' h.0 k.0 h.2 k.2 alike) in
      (h.3 ∙ rw (same.0, same.1) refl ∙ sym k.3, same.1, h.2 ∙ ap (λ (x : SettledChoice). x.calls) same.0 ∙ sym k.2)

  -- one task sleeps in an entry
  blocked_one : (t u : Task) (s : LobbyEntry) → s ≡ Sleeping t → s ≡ Sleeping u → t ≡ u
  blocked_one t u s e f = cc

  -- two Blocks, and two beginnings of a wake, from the same parts have one reply and leave the same parts
  blocks_one : (processor now : ℕ) (p : Processor) (lobby : List LobbyEntry) (r r' : Reply) (q q' : Processor)
      (left left' : List LobbyEntry)
      → Blocks d processor now p lobby (Ok r) q left → Blocks d processor now p lobby (Ok r') q' left'
      → (r ≡ r') × (q ≡ q') × (left ≡ left')
  blocks_one processor now p lobby r r' q q' left left' h k =
      let task = same_Some h.0 k.0 (sym h.1.0 ∙ k.1.0) in
      let cpus : q ≡ q' = h.1.1 ∙ sym k.1.1 in
      (h.1.2 ∙ rw (task, cpus) refl ∙ sym k.1.2, cpus, h.1.3 ∙ rw task refl ∙ sym k.1.3)

  begins_one : (id : ℕ) (loads : List ℕ) (p : Processor) (lobby : List LobbyEntry) (r r' : Reply)
      (q q' : Processor) (left left' : List LobbyEntry)
      → BeginsWake id loads p lobby (Ok r) q left → BeginsWake id loads p lobby (Ok r') q' left'
      → (r ≡ r') × (q ≡ q') × (left ≡ left')
  begins_one id loads p lobby r r' q q' left left' h k =
      let task = blocked_one h.task k.task _ h.sleeps k.sleeps in
      (h.replies ∙ sym k.replies, h.in_hand ∙ rw task refl ∙ sym k.in_hand, h.away ∙ sym k.away)

  -- if the counters answer alike, two placements from one processor are one, leave one processor and ask the same
  places_one : (count processor now : ℕ) (p : Processor) (calls calls' : List CounterCall)
      (x x' : Placement) (q q' : Processor)
      → Places (by_programs d) count processor now p calls (Some x) q
      → Places (by_programs d) count processor now p calls' (Some x') q' → AnswerAlike calls calls'
      → (x ≡ x') × (q ≡ q') × (calls ≡ calls')
  places_one count processor now p calls calls' x x' q q' h k alike =
      let c : Processor = after_time d now p in
      let carried = same_Some h.carried k.carried (sym h.in_hand ∙ k.in_hand) in
      let there = subst (λ (x : Carried). SettlesPlace (by_programs d) count processor c x k.settled) (sym carried) k.settles in
      let same =
      place_one count processor c h.carried h.settled k.settled h.settles there
      (alike_settled calls calls' h.settled k.settled h.asks k.asks alike) in
      let task : x.task ≡ x'.task = h.task ∙ ap (λ (c : Carried). c.task) carried ∙ sym k.task in
      let to : x.to ≡ x'.to = h.to ∙ ap (λ (s : SettledChoice). s.choice) same ∙ sym k.to in
      let by : x.by ≡ x'.by = h.by ∙ ap (λ (s : SettledChoice). s.by) same ∙ sym k.by in
      let steps : x.steps ≡ x'.steps = h.steps ∙ ap (λ (s : SettledChoice). s.steps) same ∙ sym k.steps in (
        same_placement x x' task to by steps,
        h.here ∙ rw same refl ∙ sym k.here,
        h.asks ∙ ap (λ (s : SettledChoice). s.calls) same ∙ sym k.asks,
      )
    where
      same_placement : (x y : Placement) → x.task ≡ y.task → x.to ≡ y.to → x.by ≡ y.by → x.steps ≡ y.steps → x ≡ y
      same_placement x y task to by steps =
          ap (λ t. record x { task = t }) task ∙ ap (λ n. record x { task = y.task; to = n }) to
          ∙ ap (λ b. record x { task = y.task; to = y.to; by = b }) by ∙ ap (λ n. record y { steps = n }) steps

  -- if the counters answer alike, two pulls from the same two processors have one reply, leave the same two and ask the same
  pulls_one : (processor from now : ℕ) (p o : Processor) (calls calls' : List CounterCall) (r r' : Reply)
      (q q' u u' : Processor)
      → Pulls (by_programs d) processor from now p o calls r q u
      → Pulls (by_programs d) processor from now p o calls' r' q' u' → AnswerAlike calls calls'
      → (r ≡ r') × (q ≡ q') × (u ≡ u') × (calls ≡ calls')
  pulls_one processor from now p o calls calls' r r' q q' u u' h k alike =
      let same =
      pull_one processor from (after_time d now p) (mark_updated d o) h.settled k.settled h.settles k.settles
      (alike_settled calls calls' h.settled k.settled h.asks k.asks alike) in
      let here : q ≡ q' = h.here ∙ rw same refl ∙ sym k.here in (
        h.replies ∙ rw (same, here) refl ∙ sym k.replies,
        here,
        h.there ∙ rw same refl ∙ sym k.there,
        h.asks ∙ ap (λ (x : SettledChoice). x.calls) same ∙ sym k.asks,
      )

  -- Events

  -- if the counters answer alike, an event that is done twice from one world has one reply, leaves one world and asks the same
  performs_one : (w : World) (e : Event) (calls calls' : List CounterCall) (r r' : Reply) (u u' : World)
      → Performs (by_programs d) w e calls r u → Performs (by_programs d) w e calls' r' u' → AnswerAlike calls calls'
      → (r ≡ r') × (u ≡ u') × (calls ≡ calls')
  performs_one w (Admit id nice mask slice) calls calls' r r' u u' h k alike =
      (h.1.1 ∙ sym k.1.1, h.3 ∙ rw (h.1.2, k.1.2) refl ∙ sym k.3, h.2 ∙ sym k.2)
  performs_one w (Retire id) calls calls' r r' u u' h k alike = (h.1.1 ∙ sym k.1.1, h.3 ∙ rw (h.1.2, k.1.2) refl ∙ sym k.3, h.2 ∙ sym k.2)
  performs_one w Draw calls calls' r r' u u' h k alike = (h.0 ∙ sym k.0, h.2 ∙ sym k.2, h.1 ∙ sym k.1)
  performs_one w (Install processor hook g policy) calls calls' r r' u u' h k alike =
      (h.1.1 ∙ sym k.1.1, h.3 ∙ rw (h.1.2, k.1.2) refl ∙ sym k.3, h.2 ∙ sym k.2)
  performs_one w (BeginWake processor id) calls calls' r r' u u' h k alike =
      let same = begins_one id _ _ w.lobby r r' h.0 k.0 h.1 k.1 h.2 k.2 in
      (same.0, h.4 ∙ rw (same.1, same.2) refl ∙ sym k.4, h.3 ∙ sym k.3)
  performs_one w (EndWake processor now) calls calls' r r' u u' h k alike =
      let same = places_one _ processor now _ calls calls' h.0 k.0 h.1 k.1 h.2 k.2 alike in
      (h.3 ∙ rw same.0 refl ∙ sym k.3, h.4 ∙ rw (same.0, same.1) refl ∙ sym k.4, same.2)
  performs_one w (Drain processor now) calls calls' r r' u u' h k alike =
      let same = drains_one processor now _ _ calls calls' r r' h.0 k.0 h.1 k.1 alike in
      (same.0, h.2 ∙ rw same.1 refl ∙ sym k.2, same.2)
  performs_one w (Tick processor now) calls calls' r r' u u' h k alike =
      let same = ticks_one processor now _ calls calls' r r' h.0 k.0 h.1 k.1 alike in
      (same.0, h.2 ∙ rw same.1 refl ∙ sym k.2, same.2)
  performs_one w (Block processor now) calls calls' r r' u u' h k alike =
      let same = blocks_one processor now _ w.lobby r r' h.0 k.0 h.1 k.1 h.2 k.2 in
      (same.0, h.4 ∙ rw (same.1, same.2) refl ∙ sym k.4, h.3 ∙ sym k.3)
  performs_one w (Pull processor from now) calls calls' r r' u u' h k alike =
      let same = pulls_one processor from now _ _ calls calls' r r' h.0 k.0 h.1 k.1 h.2 k.2 alike in
      (same.0, h.3 ∙ rw (same.1, same.2) refl ∙ sym k.3, same.3)

  -- a refusal is that of the world, where memory was not wanting
  refused : (w : World) (e : Event) (calls : List CounterCall) (r : Refusal) (u : World)
      → WorldStep (by_programs d) w e calls (Err r) u → HadMemory (Err r) → refusal w e ≡ Some r
  refused w e calls r u h some = elim h.2 [ inl f ↦ f | inr f ↦ absurd (some f.2) ]

  -- an event is not both done and refused
  not_both : (o : Option Refusal) (r : Refusal) → o ≡ None → o ≡ Some r → ⊥
  not_both o r e f = cc

  -- if the counters answer alike and memory does not run out, two steps by one event from one world are one, done or refused
  step_one : (w : World) (e : Event) (calls calls' : List CounterCall) (a a' : Result Reply Refusal) (u u' : World)
      → WorldStep (by_programs d) w e calls a u → WorldStep (by_programs d) w e calls' a' u' → HadMemory a
      → HadMemory a' → AnswerAlike calls calls'
      → (a ≡ a') × (u ≡ u') × (calls ≡ calls')
  step_one w e calls calls' (Ok r) (Ok r') u u' h k m m' alike =
      let same = performs_one w e calls calls' r r' u u' h.1 k.1 alike in
      (ap Ok same.0, same.1, same.2)
  step_one w e calls calls' (Err r) (Err r') u u' h k m m' alike =
      (ap Err (same_Some r r' (sym (refused w e calls r u h m) ∙ refused w e calls' r' u' k m')), h.1 ∙ sym k.1, h.0 ∙ sym k.0)
  step_one w e calls calls' (Ok r) (Err r') u u' h k m m' alike = absurd (not_both _ r' h.0 (refused w e calls' r' u' k m'))
  step_one w e calls calls' (Err r) (Ok r') u u' h k m m' alike = absurd (not_both _ r k.0 (refused w e calls r u h m))

-- two steps by one event from one world are one, where the counters answered alike and memory was not wanting
pub step_is_one : StepIsOne
step_is_one d = step_one d
