-- What every task of a world keeps: its weight is of the table's range, and where it is present a fact that the discipline keeps
-- of each that enters and runs.
use Rattle.std.proofs.Common.{not, ◌≡◌, ℕ, zero, suc, ◌+◌, ◌-◌, ◌<◌, ◌≤◌, Bool, true, false, cond, List, [], ◌∷◌, ◌++◌, length, Option, Some, None, refl, ap, sym, subst, ◌∙◌, arith, set}
use Rattle.std.specs.Prelude.{ℤ, pos, negsuc, ◌==◌, ◌^◌, ◌%◌, ◌&&◌, nat_le, slice_index}
use Rattle.std.specs.List.{AllByRecursion, list_all}
use Rattle.std.specs.Option.{option_map}
use Rattle.std.proofs.lemmas.Bool.{and_parts, leb-true}
use Rattle.std.proofs.lemmas.Bool.Decides.{nat_tests}
use Rattle.bq_weights.specs.VirtualTime.{IsWeight, is_nice, weights, weight_of}
use Rattle.bq_disc.specs.Tasks.{Task, has_id, find_task, without, inserted, present, runs_before, id_of}
use Rattle.bq_disc.specs.Discipline.{Discipline, charged, woken, pulled, left_at, next_of}
use Rattle.bq_disc.specs.OneProcessor.{Running, present_at, charge, run_id, choice_started, exchanged, decided, entered, enter_all}
use Rattle.bq_bpf.specs.declared.board.CounterCall.{CounterCall}
use Rattle.bq_parts.specs.declared.carried.Carried.{Carried}
use Rattle.bq_parts.specs.declared.lobby_entry.LobbyEntry.{LobbyEntry}
use Rattle.bq_parts.specs.declared.lobby_entry.LobbyEntry.TheVariants.{Absent, Sleeping, Away}
use Rattle.bq_parts.specs.declared.event.Event.{Event}
use Rattle.bq_parts.specs.declared.event.Event.TheVariants as event
use Rattle.bq_parts.specs.declared.reply.Reply.{Reply}
use Rattle.bq_parts.specs.declared.refusal.Refusal.TheVariants as no
use Rattle.bq_parts.specs.Processors.{Processor, new_processor}
use Rattle.bq_parts.specs.Refusals.{refusal}
use Rattle.bq_parts.specs.World.{World, opening_world, processor_at, inbox, entry_of_id, count_in, with_processor, with_inbox, with_lobby}
use Rattle.bq_parts.specs.Choices.{PolicySemantics, SettledChoice}
use Rattle.bq_parts.specs.Moves.{taken_from, without_task, with_pulled, started_if_idle, admitted}
use Rattle.bq_parts.specs.Shares.{Decides, after_time, mark_updated}
use Rattle.bq_parts.specs.Steps.{Performs}
use Rattle.bq_parts.proofs.RefusalLemmas.{first_refusal_passed, accepted}
use Rattle.bq_core.proofs.EachProcessorLemmas.{at_set}
use Rattle.bq_core.proofs.OnTheWayLemmas.{same_everywhere}

-- Lists of tasks

-- the fact is true of each of the tasks
abbrev pub Each : (Task → Type 0) → List Task → Type 0
Each P xs = AllByRecursion P xs

-- what is true of the first task and of the one found behind it is true of the one that is found
each_found_by : (P : Task → Type 0) (b : Bool) (x t : Task) (o : Option Task) → P x → (o ≡ Some t → P t) → cond b (Some x) o ≡ Some t → P t
each_found_by P true x t o h rest e = let same : x ≡ t = cc in subst P same h
each_found_by P false x t o h rest e = rest e

-- what is true of each task is true of the one that is found by its id
pub each_found : (P : Task → Type 0) (id : ℕ) (xs : List Task) (t : Task) → Each P xs → find_task id xs ≡ Some t → P t
each_found P id [] t h e = cc
each_found P id (x ∷ xs) t h e = each_found_by P (has_id id x) x t (find_task id xs) h.0 (each_found P id xs t h.1) e

-- what is true of each task stays so as one comes of which it is true
each_place_by : (P : Task → Type 0) (b : Bool) (t x : Task) (xs rest : List Task)
    → P t → P x → Each P xs → Each P rest → Each P (cond b (t ∷ x ∷ xs) (x ∷ rest))
each_place_by P true t x xs rest p q h r = (p, (q, h))
each_place_by P false t x xs rest p q h r = (q, r)

each_place : (P : Task → Type 0) (t : Task) (xs : List Task) → P t → Each P xs → Each P (inserted t xs)
each_place P t [] p h = (p, tt)
each_place P t (x ∷ xs) p h = each_place_by P (runs_before t x) t x xs (inserted t xs) p h.0 h.1 (each_place P t xs p h.1)

-- what is true of each task stays so as one is taken out
each_without_by : (P : Task → Type 0) (b : Bool) (x : Task) (xs rest : List Task)
    → P x → Each P xs → Each P rest → Each P (cond b xs (x ∷ rest))
each_without_by P true x xs rest p h r = h
each_without_by P false x xs rest p h r = (p, r)

each_without : (P : Task → Type 0) (id : ℕ) (xs : List Task) → Each P xs → Each P (without id xs)
each_without P id [] h = tt
each_without P id (x ∷ xs) h = each_without_by P (has_id id x) x xs (without id xs) h.0 h.1 (each_without P id xs h.1)

-- what is true of each task of two lists is true of each of both joined
each_append : (P : Task → Type 0) (xs ys : List Task) → Each P xs → Each P ys → Each P (xs ++ ys)
each_append P [] ys h k = k
each_append P (x ∷ xs) ys h k = (h.0, each_append P xs ys h.1 k)

-- A fact that a discipline keeps of each task that is present

-- what is so of a task stays so when it is charged, and is so of each that enters
pub record IsKept (d : Discipline) (P : Task → Type 0) : Type 0 where
  pub weight : (t : Task) → P t → IsWeight t.weight
  pub ends : (t : Task) → P t → t.v ≤ 2 ^ 62
  pub charged : (t : Task) (time : ℕ) → P t → P (charged d t time)
  pub woken : (mark : ℕ) (t : Task) → IsWeight t.weight → P (woken d mark t)
  pub pulled : (mark : ℕ) (t : Task) → IsWeight t.weight → P (pulled d mark t)

-- the weight is one of the table's range
abbrev pub HasWeight : Task → Type 0
HasWeight t = IsWeight t.weight

-- of the one that runs and of those in the queue
pub record Holds (P : Task → Type 0) (p : Running) : Type 0 where
  pub current : (t : Task) → p.current ≡ Some t → P t
  pub queue : Each P p.queue

-- what holds of the task that runs, if one does, and of each in the queue holds of each that is present
each_present : (P : Task → Type 0) (q : List Task) (o : Option Task) → ((t : Task) → o ≡ Some t → P t) → Each P q → Each P (present o q)
each_present P q None c h = h
each_present P q (Some t) c h = (c t refl, h)

-- what holds of the task that runs and of those in the queue holds of each that is present
pub holds_present : (P : Task → Type 0) (p : Running) → Holds P p → Each P (present_at p)
holds_present P p h = each_present P p.queue p.current h.current h.queue

-- it is true of the task that runs once its time is charged
charged_current : (d : Discipline) (P : Task → Type 0) → IsKept d P → (o : Option Task) (x : ℕ)
    → ((t : Task) → o ≡ Some t → P t) → (u : Task) → option_map (λ t. charged d t x) o ≡ Some u
    → P u
charged_current d P k None x c u e = cc
charged_current d P k (Some t) x c u e = let same : charged d t x ≡ u = cc in subst P same (k.charged t x (c t refl))

-- what is true of the one that runs and of those in the queue stays so when the time passes
pub holds_charge : (d : Discipline) (P : Task → Type 0) → IsKept d P → (p : Running) (now : ℕ) → Holds P p → Holds P (charge d p now)
holds_charge d P k p now h = record { current = charged_current d P k p.current _ h.current; queue = h.queue }

-- it stays so as a task of the queue starts, and as the queue's choice does
holds_run : (P : Task → Type 0) (p : Running) (o : Option ℕ) → Holds P p → Holds P (run_id p o)
holds_run P p None h = h
holds_run P p (Some id) h = record { current = λ t e. each_found P id p.queue t h.queue e; queue = each_without P id p.queue h.queue }

holds_start : (d : Discipline) (P : Task → Type 0) (p : Running) → Holds P p → Holds P (choice_started d p)
holds_start d P p h = holds_run P p (id_of (d.choice p.queue)) h

-- it stays so as a task takes the place of the current one, and whatever is decided
holds_exchanged : (P : Task → Type 0) (p : Running) (old : Task) (o : Option Task)
    → Holds P p → P old → ((t : Task) → o ≡ Some t → P t) → Holds P (exchanged p old o)
holds_exchanged P p old None h po c = h
holds_exchanged P p old (Some new) h po c =
    record {
      current = λ t e. let same : new ≡ t = cc in subst P same (c new refl);
      queue = each_place P old (without new.id p.queue) po (each_without P new.id p.queue h.queue);
    }

holds_decided : (d : Discipline) (P : Task → Type 0) (p : Running) (o : Option Task) (gives_way : Bool)
    → p.current ≡ o → Holds P p → Holds P (decided d p o gives_way)
holds_decided d P p None b e h = holds_start d P p h
holds_decided d P p (Some t) false e h = h
holds_decided d P p (Some t) true e h =
    let id = next_of d t p.queue in
    holds_exchanged P p t (find_task id p.queue) h (h.current t e) (λ u f. each_found P id p.queue u h.queue f)

-- it stays so as woken tasks enter the queue, if their weights are of the table's range
each_entered : (d : Discipline) (P : Task → Type 0) → IsKept d P → (mark : ℕ) (queue tasks : List Task) → Each P queue
    → Each HasWeight tasks
    → Each P (entered d mark queue tasks)
each_entered d P k mark queue [] h w = h
each_entered d P k mark queue (t ∷ tasks) h w =
    each_entered d P k mark (inserted (woken d mark t) queue) tasks
    (each_place P (woken d mark t) queue (k.woken mark t w.0) h) w.1

-- it stays so as a pulled task enters, as the choice starts if nothing runs, and as a task is taken out
holds_pulled : (d : Discipline) (P : Task → Type 0) → IsKept d P → (p : Running) (o : Option Task)
    → ((t : Task) → o ≡ Some t → HasWeight t) → Holds P p
    → Holds P (with_pulled d p o)
holds_pulled d P k p None c h = h
holds_pulled d P k p (Some t) c h =
    record { current = h.current; queue = each_place P (pulled d p.mark t) p.queue (k.pulled p.mark t (c t refl)) h.queue }

holds_started : (d : Discipline) (P : Task → Type 0) (p : Running) (o : Option Task) → Holds P p → Holds P (started_if_idle d p o)
holds_started d P p None h = holds_start d P p h
holds_started d P p (Some t) h = h

holds_taken : (P : Task → Type 0) (p : Running) (task : Option ℕ) → Holds P p → Holds P (without_task p task)
holds_taken P p None h = h
holds_taken P p (Some id) h = record { current = h.current; queue = each_without P id p.queue h.queue }

-- a task of which it is true has a weight of the table's range as it leaves
left_weight : (d : Discipline) (P : Task → Type 0) → IsKept d P → (mark : ℕ) (o : Option Task)
    → ((t : Task) → o ≡ Some t → P t) → (u : Task) → option_map (left_at mark) o ≡ Some u
    → HasWeight u
left_weight d P k mark None c u e = cc
left_weight d P k mark (Some t) c u e = let same : left_at mark t ≡ u = cc in subst HasWeight same (k.weight t (c t refl))

-- a task that is taken from a queue has a weight of the range
pub taken_weight : (d : Discipline) (P : Task → Type 0) → IsKept d P → (p : Running) (task : Option ℕ) → Holds P p
    → (u : Task) → taken_from p task ≡ Some u
    → HasWeight u
taken_weight d P k p None h u e = cc
taken_weight d P k p (Some id) h u e = left_weight d P k p.mark (find_task id p.queue) (λ t f. each_found P id p.queue t h.queue f) u e

-- The world

-- it is so of each task at a processor, and each that waits to come to one has a weight of the table
pub record IsSoundWorld (P : Task → Type 0) (w : World) : Type 0 where
  pub running : (processor : ℕ) → Holds P (processor_at w processor).running
  pub hand : (processor : ℕ) (c : Carried) → (processor_at w processor).hand ≡ Some c → HasWeight c.task
  pub placed : (processor : ℕ) → Each HasWeight (inbox w processor)
  pub lobby : (id : ℕ) (t : Task) → entry_of_id w id ≡ Sleeping t → HasWeight t

-- the task in the hand, if there is one, has a weight of the table's range
abbrev HandIsSound : Processor → Type 0
HandIsSound q = (c : Carried) → q.hand ≡ Some c → HasWeight c.task

-- a world stays so as a part is written of which it is so, by parts: a processor, an inbox
sound_processor : (P : Task → Type 0) (w : World) (processor : ℕ) (q : Processor)
    → IsSoundWorld P w → Holds P q.running → HandIsSound q → IsSoundWorld P (with_processor w processor q)
sound_processor P w processor q s h k = record {
  running = at_set (λ n (p : Processor). Holds P p.running) w.processors processor q new_processor h s.running;
  hand = at_set (λ n (p : Processor). HandIsSound p) w.processors processor q new_processor k s.hand;
  placed = s.placed;
  lobby = s.lobby;
}

sound_inbox : (P : Task → Type 0) (w : World) (processor : ℕ) (tasks : List Task)
    → IsSoundWorld P w → Each HasWeight tasks → IsSoundWorld P (with_inbox w processor tasks)
sound_inbox P w processor tasks s h =
    record {
      running = s.running;
      hand = s.hand;
      placed = at_set (λ n (ts : List Task). Each HasWeight ts) w.inboxes processor tasks [] h s.placed;
      lobby = s.lobby;
    }

-- the task that sleeps in the entry, if there is one, has a weight of the table's range
abbrev EntryIsSound : LobbyEntry → Type 0
EntryIsSound x = (t : Task) → x ≡ Sleeping t → HasWeight t

-- a world stays so as such an entry of the lobby is written, and as a number is drawn
sound_entry : (P : Task → Type 0) (w : World) (id : ℕ) (x : LobbyEntry)
    → IsSoundWorld P w → EntryIsSound x → IsSoundWorld P (with_lobby w (set w.lobby id x))
sound_entry P w id x s h =
    record {
      running = s.running;
      hand = s.hand;
      placed = s.placed;
      lobby = at_set (λ n (y : LobbyEntry). EntryIsSound y) w.lobby id x Absent h s.lobby;
    }

sound_drawn : (P : Task → Type 0) (w : World) (n : ℕ) → IsSoundWorld P w → IsSoundWorld P (record w { drawn = n })
sound_drawn P w n s = record { running = s.running; hand = s.hand; placed = s.placed; lobby = s.lobby }

-- a task with such a weight may sleep in an entry
blocked_is : (t : Task) → HasWeight t → EntryIsSound (Sleeping t)
blocked_is t h = λ u e. let same : t ≡ u = cc in subst HasWeight same h

-- The table of weights

-- whether a number is in the range of the table's weights
abbrev is_weight : ℕ → Bool
is_weight w = nat_le 15 w && nat_le w 88761

-- numbers that the test finds to be weights are weights
weights_by_test : (xs : List ℕ) → list_all is_weight xs ≡ true → AllByRecursion IsWeight xs
weights_by_test [] e = tt
weights_by_test (w ∷ ws) e =
    let parts = and_parts (is_weight w) (list_all is_weight ws) e in
    let ends = and_parts (nat_le 15 w) (nat_le w 88761) parts.0 in
    ((leb-true 15 w ends.0, leb-true w 88761 ends.1), weights_by_test ws parts.1)

-- each number of the table of weights is a weight, and so is the one at each place of it
all_weights : AllByRecursion IsWeight weights
all_weights = weights_by_test weights refl

weight_there : (xs : List ℕ) (k : ℕ) → AllByRecursion IsWeight xs → k < length xs → IsWeight (slice_index xs k)
weight_there [] k h l = absurd (omega arith)
weight_there (x ∷ xs) zero h l = h.0
weight_there (x ∷ xs) (suc k) h l = weight_there xs k h.1 (omega arith)

-- the weight of a nice value that is not refused is in the range
nice_weight : (n : ℤ) → not (is_nice n) ≡ false → IsWeight (weight_of n)
nice_weight (pos n) e = weight_there weights (20 + n) all_weights (let l : n ≤ 19 = grind (arith, nat_tests) in omega arith)
nice_weight (negsuc n) e = weight_there weights (19 - n) all_weights (omega arith)

-- Each event

-- a decision keeps what is true of each that is present, and the task in the hand
decides_holds : (s : PolicySemantics) (P : Task → Type 0) (processor : ℕ) (p : Processor) (settled : SettledChoice) (q : Processor)
    → Decides s processor p settled q → Holds P p.running → Holds P q.running
decides_holds s P processor p settled q h k = rw h.1 (holds_decided s.discipline P p.running p.running.current (settled.choice == 1) refl k)

decides_hand : (s : PolicySemantics) (processor : ℕ) (p : Processor) (settled : SettledChoice) (q : Processor)
    → Decides s processor p settled q → HandIsSound p → HandIsSound q
decides_hand s processor p settled q h k = rw h.1 k

-- the hand holds one task
held_task : (x c : Carried) → Some x ≡ Some c → x.task ≡ c.task
held_task x c e = let same : x ≡ c = cc in ap (λ (y : Carried). y.task) same

-- an event that is not refused keeps a world sound
pub performs_sound : (s : PolicySemantics) (P : Task → Type 0)
    → IsKept s.discipline P → (w : World) (e : Event) (calls : List CounterCall) (r : Reply) (w' : World) → IsSoundWorld P w
    → refusal w e ≡ None → Performs s w e calls r w'
    → IsSoundWorld P w'
performs_sound s P k w (event.Admit id nice mask slice) calls r w' y free h =
    let arguments = (accepted w (event.Admit id nice mask slice) free).0 in
    let f =
    first_refusal_passed (not (is_nice nice)) no.Nice _
    (first_refusal_passed (mask % 2 ^ count_in w == 0) no.EmptyMask _
    (first_refusal_passed (nat_le 1024 id) no.NoTask _ arguments).1).1 in
    rw (h.3, h.1.2) (sound_entry P w id (Sleeping (admitted (count_in w) id nice mask slice)) y (blocked_is _ (nice_weight nice f.0)))
performs_sound s P k w (event.Retire id) calls r w' y free h = rw (h.3, h.1.2) (sound_entry P w id Absent y (λ t e. cc))
performs_sound s P k w event.Draw calls r w' y free h = rw h.2 (sound_drawn P w _ y)
performs_sound s P k w (event.Install processor hook g policy) calls r w' y free h =
    rw (h.3, h.1.2) (sound_processor P w processor _ y (y.running processor) (y.hand processor))
performs_sound s P k w (event.BeginWake processor id) calls r w' y free h =
    let b = h.2 in
    let t : Task = b.task in
    let one =
    sound_processor P w processor (record (processor_at w processor) { hand = Some (record { task = t; loads = _ }) }) y
    (y.running processor) (λ c e. subst HasWeight (held_task _ c e) (y.lobby id t b.sleeps)) in
    rw (h.4, b.in_hand, b.away) (sound_entry P _ id Away one (λ t e. cc))
performs_sound s P k w (event.EndWake processor now) calls r w' y free h =
    let b = h.2 in
    let carried : Carried = b.carried in
    let one =
    sound_processor P w processor h.1 y
    (rw b.here (holds_charge s.discipline P k (processor_at w processor).running now (y.running processor)))
    (rw b.here (λ c e. cc)) in
    let task : HasWeight h.0.task = rw b.task (y.hand processor carried b.in_hand) in
    rw h.4 (sound_inbox P (with_processor w processor h.1) h.0.to _ one
    (each_append HasWeight (inbox w h.0.to) (h.0.task ∷ []) (y.placed h.0.to) (task, tt)))
performs_sound s P k w (event.Drain processor now) calls r w' y free h =
    let d = s.discipline in
    let c = after_time d now (processor_at w processor) in
    let e = record c { running = enter_all d c.running (inbox w processor) } in
    let t = holds_charge d P k (processor_at w processor).running now (y.running processor) in
    let entered : Holds P e.running = record {
      current = t.current;
      queue = each_entered d P k c.running.mark c.running.queue (inbox w processor) t.queue (y.placed processor);
    } in
    let one =
    sound_processor P w processor h.0 y (decides_holds s P processor e h.1.0 h.0 h.1.1 entered)
    (decides_hand s processor e h.1.0 h.0 h.1.1 (y.hand processor)) in
    rw h.2 (sound_inbox P (with_processor w processor h.0) processor [] one tt)
performs_sound s P k w (event.Tick processor now) calls r w' y free h =
    let d = s.discipline in
    let c = after_time d now (processor_at w processor) in
    rw h.2 (sound_processor P w processor h.0 y
    (decides_holds s P processor c h.1.0 h.0 h.1.1 (holds_charge d P k (processor_at w processor).running now (y.running processor)))
    (decides_hand s processor c h.1.0 h.0 h.1.1 (y.hand processor)))
performs_sound s P k w (event.Block processor now) calls r w' y free h =
    let d = s.discipline in
    let b = h.2 in
    let c = after_time d now (processor_at w processor) in
    let t : Task = b.0 in
    let charged = holds_charge d P k (processor_at w processor).running now (y.running processor) in
    let gone : Running = record c.running { current = None } in
    let left = holds_start d P gone (record { current = λ u e. cc; queue = charged.queue }) in
    let one = sound_processor P w processor h.0 y (rw b.1.1 left) (rw b.1.1 (y.hand processor)) in
    rw (h.4, b.1.3) (sound_entry P (with_processor w processor h.0) t.id _ one (blocked_is _ (k.weight t (charged.current t b.1.0))))
performs_sound s P k w (event.Pull processor from now) calls r w' y free h =
    let d = s.discipline in
    let x = h.2 in
    let c = after_time d now (processor_at w processor) in
    let source = mark_updated d (processor_at w from) in
    let there : Holds P source.running = record { current = (y.running from).current; queue = (y.running from).queue } in
    let charged = holds_charge d P k (processor_at w processor).running now (y.running processor) in
    let taken = taken_from source.running _ in
    let in_it =
    holds_started d P (with_pulled d c.running taken) c.running.current
    (holds_pulled d P k c.running taken (taken_weight d P k source.running _ there) charged) in
    let one = sound_processor P w processor h.0 y (rw x.here in_it) (rw x.here (y.hand processor)) in
    rw h.3 (sound_processor P (with_processor w processor h.0) from h.1 one
    (rw x.there (holds_taken P source.running _ there)) (rw x.there (y.hand from)))

-- The opening

-- in the opening world, where no task is, any fact is kept of every task
pub opening_sound : (P : Task → Type 0) (count : ℕ) → IsSoundWorld P (opening_world count)
opening_sound P count = record {
  running = λ processor. rw (same_everywhere {X = Processor} new_processor count processor) (record { current = λ t e. cc; queue = tt });
  hand = λ processor c e.
      let none : None ≡ Some c =
      sym (ap (λ (p : Processor). p.hand) (same_everywhere {X = Processor} new_processor count processor)) ∙ e in
      cc;
  placed = λ processor. rw (same_everywhere {X = List Task} [] count processor) tt;
  lobby = λ id t e. let none : Absent ≡ Sleeping t = sym (same_everywhere {X = LobbyEntry} Absent 1024 id) ∙ e in cc;
}
