-- Each step of a world does to its clocks, and to who runs, what its answer shows.
use Rattle.std.proofs.Common.{◌≡◌, ◌≢◌, ℕ, ◌<◌, Bool, true, false, List, [], ◌∷◌, length, get_or, Option, Some, None, Result, Ok, Err, refl, sym, ap, ◌∙◌, inl, inr, get_or-set_same, get_or-set_other, eqb, cond, arith}
use Rattle.std.specs.Prelude.{slice_set, unwrap_or, ◌==◌}
use Rattle.std.specs.Option.{option_map}
use Rattle.std.proofs.lemmas.Bool.Decides.{eqb_tells}
use Rattle.std.proofs.lemmas.List.{get_or-replicate, length-set, length-replicate}
use Rattle.std.proofs.lemmas.Bool.{eqb-false}
use Rattle.bq_disc.specs.Tasks.{Task, id_of, find_task}
use Rattle.bq_disc.specs.Discipline.{Discipline, charged, next_of}
use Rattle.bq_disc.specs.OneProcessor.{Running, reading, charge, run_id, exchanged, decided, enter_all}
use Rattle.bq_bpf.specs.declared.board.CounterCall.{CounterCall}
use Rattle.bq_parts.specs.declared.event.Event.{Event}
use Rattle.bq_parts.specs.declared.event.Event.TheVariants.{Admit, Retire, Draw, Install, BeginWake, EndWake, Drain, Tick, Block, Pull}
use Rattle.bq_parts.specs.declared.reply.Reply.{Reply}
use Rattle.bq_parts.specs.declared.reply.Reply.TheVariants.{Admitted, Retired, Drawn, Installed, Begun, Placed, Drained, Ticked, Blocked, Pulled}
use Rattle.bq_parts.specs.declared.refusal.Refusal.{Refusal}
use Rattle.bq_parts.specs.declared.refusal.Refusal.TheVariants as no
use Rattle.bq_parts.specs.Processors.{Processor, new_processor}
use Rattle.bq_parts.specs.World.{World, opening_world, processor_at, count_in, with_processor}
use Rattle.bq_parts.specs.Refusals.{refusal}
use Rattle.bq_parts.specs.Moves.{with_pulled, started_if_idle, without_task, taken_from}
use Rattle.bq_parts.specs.Choices.{PolicySemantics, under_any_answers}
use Rattle.bq_hooks.specs.Permitted.{task_numbered}
use Rattle.bq_parts.specs.Shares.{after_time, mark_updated}
use Rattle.bq_parts.specs.Steps.{Performs, WorldStep, WorldRun}
use Rattle.bq_parts.proofs.PullingLemmas.{current-without_task}
use Rattle.bq_parts.proofs.RefusalLemmas.{not_refused_is_there, first_refusal_passed, accepted}
use Rattle.bq_schedule.specs.Histories.{History}
use Rattle.bq_schedule.specs.Slices.{ShownByAnswer, shown_by_reply, shown_by_answer, clock_after, clock, runner_after, runner}
use Rattle.bq_schedule.specs.Laws.{IsShownWithin, IsOfProcessors, history_grown, IsCharged}
use Rattle.bq_schedule.proofs.TestLemmas.{Tells}
use Rattle.bq_schedule.proofs.FrameLemmas.{get_or-set_like}
use Rattle.bq_schedule.proofs.ClockLemmas.{within_same}

-- the last reading of a processor's clock
abbrev pub last_at : World → ℕ → ℕ
last_at w j = (processor_at w j).running.last

-- who runs at a processor
abbrev pub who_at : World → ℕ → Option ℕ
who_at w j = id_of (processor_at w j).running.current

-- a world shows of its processors what an answer says
pub record Shown (w w' : World) (o : Option ShownByAnswer) : Type 0 where
  pub count : count_in w' ≡ count_in w
  pub last : (j : ℕ) → j < count_in w → last_at w' j ≡ clock_after j (last_at w j) o
  pub who : (j : ℕ) → j < count_in w → who_at w' j ≡ runner_after j (who_at w j) o

-- a processor is replaced by one with the same clock and current task
kept : (w : World) (i : ℕ) (p : Processor) → p.running.last ≡ last_at w i → id_of p.running.current ≡ who_at w i
    → Shown w (with_processor w i p) None
kept w i p l c = record {
  count = length-set w.processors i p;
  last = λ j inside. get_or-set_like (λ (q : Processor). q.running.last) w.processors i j p new_processor l;
  who = λ j inside. get_or-set_like (λ (q : Processor). id_of q.running.current) w.processors i j p new_processor c;
}

-- what is shown of a world depends only on its processors
like : (w u w' : World) (o : Option ShownByAnswer) → u.processors ≡ w'.processors → Shown w u o → Shown w w' o
like w u w' o e h = record {
  count = ap (λ (l : List Processor). length l) (sym e) ∙ h.count;
  last = λ j inside. ap (λ l. (get_or l j new_processor).running.last) (sym e) ∙ h.last j inside;
  who = λ j inside. ap (λ l. id_of (get_or l j new_processor).running.current) (sym e) ∙ h.who j inside;
}

-- what changes nothing shows nothing
same : (w : World) → Shown w w None
same w = record { count = refl; last = λ j inside. refl; who = λ j inside. refl }

-- where a processor is set, its clock is what is read, who runs is who is reported, and the others keep both:
last_there : (w : World) (i j now : ℕ) (p : Processor) (b : Bool)
    → j < count_in w → p.running.last ≡ reading (last_at w i) now → Tells b (i ≡ j) (i ≢ j)
    → (get_or (slice_set w.processors i p) j new_processor).running.last ≡ cond b (reading (last_at w j) now) (last_at w j)
last_there w i j now p true inside l (inl e) =
    ap (λ k. (get_or (slice_set w.processors k p) j new_processor).running.last) e.1
    ∙ ap (λ (q : Processor). q.running.last) (get_or-set_same w.processors j p new_processor inside) ∙ l
    ∙ ap (λ k. reading (last_at w k) now) e.1
last_there w i j now p false inside l (inl e) = absurd (cc)
last_there w i j now p true inside l (inr e) = absurd (cc)
last_there w i j now p false inside l (inr e) =
    ap (λ (q : Processor). q.running.last) (get_or-set_other w.processors i j p new_processor (λ h. e.1 (sym h)))

who_there : (w : World) (i j : ℕ) (run : Option (Option ℕ)) (p : Processor) (b : Bool)
    → j < count_in w → id_of p.running.current ≡ unwrap_or run (who_at w i) → Tells b (i ≡ j) (i ≢ j)
    → id_of (get_or (slice_set w.processors i p) j new_processor).running.current ≡ cond b (unwrap_or run (who_at w j)) (who_at w j)
who_there w i j run p true inside l (inl e) =
    ap (λ k. id_of (get_or (slice_set w.processors k p) j new_processor).running.current) e.1
    ∙ ap (λ (q : Processor). id_of q.running.current) (get_or-set_same w.processors j p new_processor inside) ∙ l
    ∙ ap (λ k. unwrap_or run (who_at w k)) e.1
who_there w i j run p false inside l (inl e) = absurd (cc)
who_there w i j run p true inside l (inr e) = absurd (cc)
who_there w i j run p false inside l (inr e) =
    ap (λ (q : Processor). id_of q.running.current) (get_or-set_other w.processors i j p new_processor (λ h. e.1 (sym h)))

-- a processor's clock is read, and who runs there is reported or stays
read_there : (w : World) (x : ShownByAnswer) (p : Processor) → p.running.last ≡ reading (last_at w x.processor) x.now
    → id_of p.running.current ≡ unwrap_or x.run (who_at w x.processor)
    → Shown w (with_processor w x.processor p) (Some x)
read_there w x p l c = record {
  count = length-set w.processors x.processor p;
  last = λ j inside. last_there w x.processor j x.now p (eqb x.processor j) inside l (eqb_tells x.processor j);
  who = λ j inside. who_there w x.processor j x.run p (eqb x.processor j) inside c (eqb_tells x.processor j);
}

-- what is shown stays so when a step follows that shows nothing
then_kept : (w u v : World) (o : Option ShownByAnswer) → Shown w u o → Shown u v None → Shown w v o
then_kept w u v o a b = record {
  count = b.count ∙ a.count;
  last = λ j inside. let i : j < count_in u = omega (arith, a.count) in b.last j i ∙ a.last j inside;
  who = λ j inside. let i : j < count_in u = omega (arith, a.count) in b.who j i ∙ a.who j inside;
}

-- what is decided leaves the clock
last-run_id : (p : Running) (o : Option ℕ) → (run_id p o).last ≡ p.last
last-run_id p None = refl
last-run_id p (Some id) = refl

last-exchanged : (p : Running) (old : Task) (o : Option Task) → (exchanged p old o).last ≡ p.last
last-exchanged p old None = refl
last-exchanged p old (Some new) = refl

last-decided : (d : Discipline) (p : Running) (o : Option Task) (b : Bool) → (decided d p o b).last ≡ p.last
last-decided d p None b = last-run_id p (id_of (d.choice p.queue))
last-decided d p (Some current) true = last-exchanged p current (find_task (next_of d current p.queue) p.queue)
last-decided d p (Some current) false = refl

last-with_pulled : (d : Discipline) (p : Running) (o : Option Task) → (with_pulled d p o).last ≡ p.last
last-with_pulled d p None = refl
last-with_pulled d p (Some t) = refl

last-started_if_idle : (d : Discipline) (p : Running) (o : Option Task) → (started_if_idle d p o).last ≡ p.last
last-started_if_idle d p None = last-run_id p (id_of (d.choice p.queue))
last-started_if_idle d p (Some t) = refl

-- to take a waiting task away leaves the clock
last-without_task : (p : Running) (o : Option ℕ) → (without_task p o).last ≡ p.last
last-without_task p None = refl
last-without_task p (Some id) = refl

-- who runs is charged, and is who it was
id-charged : (d : Discipline) (o : Option Task) (time : ℕ) → id_of (option_map (λ (t : Task). charged d t time) o) ≡ id_of o
id-charged d None time = refl
id-charged d (Some t) time = refl

-- of an answer that is another
shown_as : (w w' : World) (e : Event) (r x : Reply) → r ≡ x → Shown w w' (shown_by_reply e x) → Shown w w' (shown_by_reply e r)
shown_as w w' e r x h k = rw h k

-- an event that is performed does to the clocks, and to who runs, what its reply shows
pub shown-performs : (s : PolicySemantics) (w : World) (e : Event) (calls : List CounterCall) (r : Reply) (w' : World)
    → refusal w e ≡ None → Performs s w e calls r w' → Shown w w' (shown_by_reply e r)
shown-performs s w (Admit id nice mask slice) calls r w' h k =
    shown_as w w' (Admit id nice mask slice) r Admitted k.1.1 (like w w w' None (ap (λ (v : World). v.processors) (sym k.3)) (same w))
shown-performs s w (Retire id) calls r w' h k =
    shown_as w w' (Retire id) r Retired k.1.1 (like w w w' None (ap (λ (v : World). v.processors) (sym k.3)) (same w))
shown-performs s w Draw calls r w' h k =
    shown_as w w' Draw r (Drawn _) k.0 (like w w w' None (ap (λ (v : World). v.processors) (sym k.2)) (same w))
shown-performs s w (Install processor hook g policy) calls r w' h k =
    let i = k.1 in
    shown_as w w' (Install processor hook g policy) r Installed i.1
    (like w (with_processor w processor k.0) w' None (ap (λ (v : World). v.processors) (sym k.3))
    (kept w processor k.0 (ap (λ (q : Processor). q.running.last) i.2) (ap (λ (q : Processor). id_of q.running.current) i.2)))
shown-performs s w (BeginWake processor id) calls r w' h k =
    let b = k.2 in
    shown_as w w' (BeginWake processor id) r (Begun id _) b.replies
    (like w (with_processor w processor k.0) w' None (ap (λ (v : World). v.processors) (sym k.4))
    (kept w processor k.0 (ap (λ (q : Processor). q.running.last) b.in_hand) (ap (λ (q : Processor). id_of q.running.current) b.in_hand)))
shown-performs s w (EndWake processor now) calls r w' h k =
    let written = k.2.here in
    shown_as w w' (EndWake processor now) r (Placed k.0.task.id k.0.to k.0.by k.0.steps) k.3
    (like w (with_processor w processor k.1) w' _ (ap (λ (v : World). v.processors) (sym k.4))
    (read_there w (record { processor = processor; now = now; run = None }) k.1 (ap (λ (q : Processor). q.running.last) written)
    (ap (λ (q : Processor). id_of q.running.current) written ∙ id-charged s.discipline (processor_at w processor).running.current _)))
shown-performs s w (Drain processor now) calls r w' h k =
    let p = enter_all s.discipline (charge s.discipline (processor_at w processor).running now) (get_or w.inboxes processor []) in
    let x = k.1 in
    shown_as w w' (Drain processor now) r (Drained _ (id_of k.0.running.current) x.0.by x.0.steps) x.3
    (like w (with_processor w processor k.0) w' _ (ap (λ (v : World). v.processors) (sym k.2))
    (read_there w (record { processor = processor; now = now; run = Some (id_of k.0.running.current) }) k.0
    (ap (λ (q : Processor). q.running.last) x.1.1 ∙ last-decided s.discipline p p.current (x.0.choice == 1)) refl))
shown-performs s w (Tick processor now) calls r w' h k =
    let p = charge s.discipline (processor_at w processor).running now in
    let x = k.1 in
    shown_as w w' (Tick processor now) r (Ticked (id_of k.0.running.current) x.0.by x.0.steps) x.3
    (like w (with_processor w processor k.0) w' _ (ap (λ (v : World). v.processors) (sym k.2))
    (read_there w (record { processor = processor; now = now; run = Some (id_of k.0.running.current) }) k.0
    (ap (λ (q : Processor). q.running.last) x.1.1 ∙ last-decided s.discipline p p.current (x.0.choice == 1)) refl))
shown-performs s w (Block processor now) calls r w' h k =
    let p = charge s.discipline (processor_at w processor).running now in
    let rest : Running = record p { current = None } in
    let x = k.2 in
    shown_as w w' (Block processor now) r (Blocked x.0.id (id_of k.0.running.current)) x.1.2
    (like w (with_processor w processor k.0) w' _ (ap (λ (v : World). v.processors) (sym k.4))
    (read_there w (record { processor = processor; now = now; run = Some (id_of k.0.running.current) }) k.0
    (ap (λ (q : Processor). q.running.last) x.1.1 ∙ last-run_id rest (id_of (s.discipline.choice rest.queue))) refl))
shown-performs s w (Pull processor from now) calls r w' h k =
    let d = s.discipline in
    let f = not_refused_is_there (count_in w) processor _ (accepted w (Pull processor from now) h).0 in
    let g = not_refused_is_there (count_in w) from _ f.1 in
    let apart : processor ≢ from = eqb-false processor from (first_refusal_passed (processor == from) no.SameProcessor None g.1).0 in
    let x = k.2 in
    let task = task_numbered x.settled.choice in
    let c : Processor = after_time d now (processor_at w processor) in
    let other : Processor = mark_updated d (processor_at w from) in
    let taken = taken_from other.running task in
    let u = with_processor w processor k.0 in
    let there' : processor_at u from ≡ processor_at w from =
    get_or-set_other w.processors processor from k.0 new_processor (λ e. apart (sym e)) in
    shown_as w w' (Pull processor from now) r (Pulled task (id_of k.0.running.current) x.settled.by x.settled.steps) x.replies
    (then_kept w u w' (Some (record { processor = processor; now = now; run = Some (id_of k.0.running.current) }))
    (read_there w (record { processor = processor; now = now; run = Some (id_of k.0.running.current) }) k.0
    (ap (λ (q : Processor). q.running.last) x.here ∙ last-started_if_idle d (with_pulled d c.running taken) c.running.current
    ∙ last-with_pulled d c.running taken) refl)
    (like u (with_processor u from k.1) w' None (ap (λ (v : World). v.processors) (sym k.3))
    (kept u from k.1 (ap (λ (q : Processor). q.running.last) x.there ∙ last-without_task other.running task
    ∙ ap (λ (v : Processor). v.running.last) (sym there'))
    (ap (λ (q : Processor). id_of q.running.current) x.there ∙ ap id_of (current-without_task other.running task)
    ∙ ap (λ (v : Processor). id_of v.running.current) (sym there')))))

-- the same of whether the processor shown is there
within_as : (n : ℕ) (e : Event) (r x : Reply) → r ≡ x → IsShownWithin n (shown_by_reply e x) → IsShownWithin n (shown_by_reply e r)
within_as n e r x h k = rw h k

-- an event that is not refused names a processor that is there
within-performs : (s : PolicySemantics) (w : World) (e : Event) (calls : List CounterCall) (r : Reply) (w' : World)
    → refusal w e ≡ None → Performs s w e calls r w' → IsShownWithin (count_in w) (shown_by_reply e r)
within-performs s w (EndWake processor now) calls r w' h k =
    within_as (count_in w) (EndWake processor now) r (Placed k.0.task.id k.0.to k.0.by k.0.steps) k.3
    (not_refused_is_there (count_in w) processor None (accepted w (EndWake processor now) h).0).0
within-performs s w (Drain processor now) calls r w' h k =
    within_as (count_in w) (Drain processor now) r (Drained _ _ k.1.0.by k.1.0.steps) k.1.3
    (not_refused_is_there (count_in w) processor None (accepted w (Drain processor now) h).0).0
within-performs s w (Tick processor now) calls r w' h k =
    within_as (count_in w) (Tick processor now) r (Ticked _ k.1.0.by k.1.0.steps) k.1.3
    (not_refused_is_there (count_in w) processor None (accepted w (Tick processor now) h).0).0
within-performs s w (Block processor now) calls r w' h k =
    within_as (count_in w) (Block processor now) r (Blocked k.2.0.id _) k.2.1.2
    (not_refused_is_there (count_in w) processor None (accepted w (Block processor now) h).0).0
within-performs s w (Pull processor from now) calls r w' h k =
    within_as (count_in w) (Pull processor from now) r
    (Pulled (task_numbered k.2.settled.choice) _ k.2.settled.by k.2.settled.steps) k.2.replies
    (not_refused_is_there (count_in w) processor _ (accepted w (Pull processor from now) h).0).0
within-performs s w (Admit id nice mask slice) calls r w' h k = within_as (count_in w) (Admit id nice mask slice) r Admitted k.1.1 tt
within-performs s w (Retire id) calls r w' h k = within_as (count_in w) (Retire id) r Retired k.1.1 tt
within-performs s w Draw calls r w' h k = within_as (count_in w) Draw r (Drawn _) k.0 tt
within-performs s w (Install processor hook g policy) calls r w' h k =
    within_as (count_in w) (Install processor hook g policy) r Installed k.1.1 tt
within-performs s w (BeginWake processor id) calls r w' h k = within_as (count_in w) (BeginWake processor id) r (Begun id _) k.2.replies tt

-- each step shows what its answer says, refused or not
shown-step : (s : PolicySemantics) (w : World) (e : Event) (calls : List CounterCall) (a : Result Reply Refusal) (w' : World)
    → WorldStep s w e calls a w' → Shown w w' (shown_by_answer e a) × IsShownWithin (count_in w) (shown_by_answer e a)
shown-step s w e calls (Ok r) w' k = (shown-performs s w e calls r w' k.0 k.1, within-performs s w e calls r w' k.0 k.1)
shown-step s w e calls (Err r) w' k = (like w w w' None (ap (λ (v : World). v.processors) (sym k.1)) (same w), tt)

-- a world's clocks and who runs are those of a history
pub record HasClocksOf (count : ℕ) (w : World) (past : History) : Type 0 where
  pub many : count_in w ≡ count
  pub within : IsOfProcessors count past
  pub last : (j : ℕ) → j < count → last_at w j ≡ clock j past
  pub who : (j : ℕ) → j < count → who_at w j ≡ runner j past

-- where a world's clocks and who runs are those of a history, they still are after a step, and after a run:
reported-step : (count : ℕ) (s : PolicySemantics) (w : World) (past : History) (e : Event) (calls : List CounterCall)
    (a : Result Reply Refusal) (w' : World)
    → HasClocksOf count w past → WorldStep s w e calls a w'
    → HasClocksOf count w' (record { event = e; answer = a } ∷ past)
reported-step count s w past e calls a w' t k =
    let h = shown-step s w e calls a w' k in
    record {
      many = h.0.count ∙ t.many;
      within = (within_same _ _ (shown_by_answer e a) (sym t.many) h.1, t.within);
      last = λ j inside. h.0.last j (rw t.many inside) ∙ ap (λ n. clock_after j n (shown_by_answer e a)) (t.last j inside);
      who = λ j inside. h.0.who j (rw t.many inside) ∙ ap (λ n. runner_after j n (shown_by_answer e a)) (t.who j inside);
    }

reported-run : (count : ℕ) (s : PolicySemantics) (w : World) (past : History) (es : List Event)
    (calls : List (List CounterCall)) (answers : List (Result Reply Refusal)) (w' : World)
    → HasClocksOf count w past → WorldRun s w es calls answers w'
    → HasClocksOf count w' (history_grown past es answers)
reported-run count s w past [] [] [] w' t k = rw k t
reported-run count s w past (e ∷ es) (c ∷ calls) (a ∷ answers) w' t k =
    reported-run count s k.0 (record { event = e; answer = a } ∷ past) es calls answers w'
    (reported-step count s w past e c a k.0 t k.1) k.2
reported-run count s w past es calls answers w' t k = absurd k

-- a world that opens has the clocks of the empty history
opening-reported : (count : ℕ) → HasClocksOf count (opening_world count) []
opening-reported count = record {
  many = length-replicate count new_processor;
  within = tt;
  last = λ j inside. ap (λ (p : Processor). p.running.last) (get_or-replicate count j new_processor new_processor inside);
  who = λ j inside. ap (λ (p : Processor). id_of p.running.current) (get_or-replicate count j new_processor new_processor inside);
}

-- in each history of a world every processor's last reading, and its current task, are those of the history
pub is_charged : IsCharged
is_charged d count es calls answers w' run =
    let t = reported-run count (under_any_answers d) (opening_world count) [] es calls answers w' (opening-reported count) run in
    (t.within, λ processor inside. (t.last processor inside, t.who processor inside))
