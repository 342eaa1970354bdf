-- Two tasks that stay at a processor of the world where only the discipline decides are served in proportion.
use Rattle.std.proofs.Common.{◌≡◌, ℕ, ◌+◌, ◌<◌, ◌≤◌, List, [], ◌∷◌, Result, ap, subst, ◌∙◌, arith}
use Rattle.std.specs.Prelude.{max, All, Ok, Err}
use Rattle.std.proofs.lemmas.List.{length-replicate}
use Rattle.bq_weights.specs.VirtualTime.{vdelta_of, held_within}
use Rattle.bq_disc.specs.Tasks.{Task}
use Rattle.bq_disc.specs.Totals.{IsBounded}
use Rattle.bq_disc.specs.Discipline.{Discipline, charged, woken, pulled}
use Rattle.bq_disc.specs.OneProcessor.{present_at}
use Rattle.bq_bpf.specs.declared.board.CounterCall.{CounterCall}
use Rattle.bq_cfs.specs.Cfs.{cfs, held_above}
use Rattle.bq_cfs.specs.Spread.{AreTasksSound}
use Rattle.bq_eevdf.specs.Eevdf.{eevdf}
use Rattle.bq_fairness.specs.Histories.{task_at}
use Rattle.bq_fairness.specs.EevdfDeadlines.{HasDeadlines}
use Rattle.bq_fairness.specs.Steps.{ProcessorStep, after_steps, EachEntersNew, EntersDue}
use Rattle.bq_fairness.proofs.ListLemmas.{All-from_ids}
use Rattle.bq_fairness.proofs.SoundLemmas.{well_formed, each_has_room}
use Rattle.bq_fairness.proofs.DueLemmas.{IsDue, charged_due}
use Rattle.bq_fairness.proofs.NearThroughoutLemmas.{got_by}
use Rattle.bq_fairness.proofs.ThroughoutLemmas.{cfs_serves_throughout, eevdf_serves_throughout}
use Rattle.bq_parts.specs.declared.event.Event.{Event}
use Rattle.bq_parts.specs.declared.reply.Reply.{Reply}
use Rattle.bq_parts.specs.declared.refusal.Refusal.{Refusal}
use Rattle.bq_parts.specs.Processors.{new_processor}
use Rattle.bq_parts.specs.World.{World, opening_world, count_in}
use Rattle.bq_parts.specs.Orderly.{IsOrderly}
use Rattle.bq_parts.specs.Choices.{by_programs}
use Rattle.bq_parts.specs.Steps.{WorldStep, WorldRun}
use Rattle.bq_core.proofs.OrderLemmas.{opening_is_orderly, step_tidy, step_keeps}
use Rattle.bq_fairness.specs.Seen.{running_at, steps_at, IsSeenAt}
use Rattle.bq_fairness.specs.WorldFairness.{CfsWorldServes, EevdfWorldServes}
use Rattle.bq_fairness.proofs.SeenLemmas.{distinct_at, event_is_steps, history_is_steps}
use Rattle.bq_fairness.proofs.WorldSoundLemmas.{each_found, IsKept, IsSoundWorld, holds_present, performs_sound, opening_sound}
use Rattle.bq_fairness.proofs.WorldNewLemmas.{EachEntersNew-append, event_new}
use Rattle.bq_fairness.proofs.WorldDueLemmas.{shift_ends, entered_due, EntersDue-append, event_due}

-- What is kept from the opening on

-- a step from a world of sound tasks leaves one
step_sound : (d : Discipline) (P : Task → Type 0) → IsKept d P
    → (w : World) (e : Event) (calls : List CounterCall) (a : Result Reply Refusal) (w' : World)
    → WorldStep (by_programs d) w e calls a w' → IsSoundWorld P w
    → IsSoundWorld P w'
step_sound d P k w e calls (Ok r) w' h s = performs_sound (by_programs d) P k w e calls r w' s h.0 h.1
step_sound d P k w e calls (Err r) w' h s = rw h.1 s

-- a world of this many processors, in order, with sound tasks
record IsReached (P : Task → Type 0) (count : ℕ) (w : World) : Type 0 where
  many : count_in w ≡ count
  orderly : IsOrderly w
  sound : IsSoundWorld P w

-- such a world is reached by a step from one, by any number of steps from one, and by any history from the opening
step_reached : (d : Discipline) (P : Task → Type 0) → IsKept d P
    → (count : ℕ) (w : World) (e : Event) (calls : List CounterCall) (a : Result Reply Refusal) (w' : World)
    → IsReached P count w → WorldStep (by_programs d) w e calls a w'
    → IsReached P count w'
step_reached d P k count w e calls a w' r h = record {
  many = (step_tidy (by_programs d) w e calls a w' h r.orderly).many ∙ r.many;
  orderly = step_keeps (by_programs d) w e calls a w' h r.orderly;
  sound = step_sound d P k w e calls a w' h r.sound;
}

run_reached : (d : Discipline) (P : Task → Type 0) → IsKept d P
    → (count : ℕ) (w : World) (es : List Event) (more : List (List CounterCall)) (answers : List (Result Reply Refusal)) (w' : World)
    → IsReached P count w → WorldRun (by_programs d) w es more answers w'
    → IsReached P count w'
run_reached d P k count w [] [] [] w' r h = rw h r
run_reached d P k count w (e ∷ es) (calls ∷ more) (a ∷ answers) w' r h =
    run_reached d P k count h.0 es more answers w' (step_reached d P k count w e calls a h.0 r h.1) h.2
run_reached d P k count w es more answers w' r h = absurd h

reached : (d : Discipline) (P : Task → Type 0) → IsKept d P
    → (count : ℕ) (w : World) (es : List Event) (more : List (List CounterCall)) (answers : List (Result Reply Refusal))
    → WorldRun (by_programs d) (opening_world count) es more answers w
    → IsReached P count w
reached d P k count w es more answers h =
    run_reached d P k count (opening_world count) es more answers w
    (record { many = length-replicate count new_processor; orderly = opening_is_orderly count; sound = opening_sound P count }) h

-- each task that enters in a history is new
history_new : (d : Discipline) (P : Task → Type 0) → IsKept d P
    → (count at : ℕ) (w w' : World) (es : List Event) (more : List (List CounterCall))
    (answers : List (Result Reply Refusal)) (ss : List ProcessorStep)
    → IsReached P count w → at < count → IsSeenAt d at w es more answers w' ss
    → EachEntersNew d (running_at w at) ss
history_new d P k count at w w' [] [] [] ss r l h = rw h.1 tt
history_new d P k count at w w' (e ∷ es) (calls ∷ more) (a ∷ answers) ss r l h =
    let mid : World = h.0 in
    let there : at < count_in w = rw r.many l in
    let next = step_reached d P k count w e calls a mid r h.2 in
    let first : running_at mid at ≡ after_steps d (running_at w at) (steps_at d at w e a) =
    event_is_steps d at w mid e calls a r.orderly there h.2 h.3 in
    let rest = history_new d P k count at mid w' es more answers h.1 next l h.4 in
    rw h.5 (EachEntersNew-append d (running_at w at) (steps_at d at w e a) h.1
    (event_new d P k at w mid e calls a r.orderly r.sound h.2) (subst (λ p. EachEntersNew d p h.1) first rest))
history_new d P k count at w w' es more answers ss r l h = absurd h

-- each that is present at a processor of the world
each_at : (P : Task → Type 0) (w : World) (at : ℕ) → IsOrderly w → IsSoundWorld P w → All P (present_at (running_at w at))
each_at P w at o s =
    All-from_ids P (present_at (running_at w at)) (distinct_at w at o)
    (λ i t f. each_found P i (present_at (running_at w at)) t (holds_present P (running_at w at) (s.running at)) f)

-- what is present at a processor of a world with sound tasks is sound
sound_at : (d : Discipline) (P : Task → Type 0) → IsKept d P → (w : World) (at : ℕ) → IsOrderly w → IsSoundWorld P w
    → AreTasksSound (running_at w at)
sound_at d P k w at o s =
    let each = each_at P w at o s in
    record { distinct = distinct_at w at o; weights = λ i x l. k.weight _ (each i x l); ends = λ i x l. k.ends _ (each i x l) }

-- CFS

-- CFS keeps the weight and the v of each task in their ranges
cfs_keeps : IsKept cfs IsBounded
cfs_keeps = record {
  weight = λ t h. h.0;
  ends = λ t h. h.1;
  charged = λ t time h. (h.0, omega arith);
  woken = λ mark t h. (h, shift_ends mark (held_above t.rel));
  pulled = λ mark t h. (h, shift_ends mark t.rel);
}

-- how far two tasks come apart, in terms of what each was served and where it began
apart_by : (m av bv iv jv uv tv x : ℕ) → uv ≡ av + iv → tv ≡ bv + jv → av + iv ≤ jv + m + x → uv + bv ≤ tv + m + x
apart_by m av bv iv jv uv tv x e f h = omega arith

-- under CFS two tasks that stay at a processor of the world are served in proportion
pub cfs_world_serves : CfsWorldServes
cfs_world_serves count at r i j w w' earlier es before calls given answers ss a b run l seen room within si sj f g =
    let k = reached cfs IsBounded cfs_keeps count w earlier before given run in
    let p = running_at w at in
    let sound = sound_at cfs IsBounded cfs_keeps w at k.orderly k.sound in
    let new = history_new cfs IsBounded cfs_keeps count at w w' es calls answers ss k l seen in
    let law = cfs_serves_throughout r p ss i j a b sound room new within f g si sj in
    let rooms = each_has_room p room in
    let x = got_by cfs p ss i a (well_formed p sound) new si (rooms i a f) f in
    let y = got_by cfs p ss j b (well_formed p sound) new sj (rooms j b g) g in
    let end : running_at w' at ≡ after_steps cfs p ss = history_is_steps cfs at w w' es calls answers ss k.orderly (rw k.many l) seen in (
      x.0,
      y.0,
      ap (λ q. task_at i q) end ∙ x.1,
      ap (λ q. task_at j q) end ∙ y.1,
      apart_by (max a.v (b.v + 1000000)) a.v b.v _ _ x.0.v y.0.v (vdelta_of r a.weight) x.2 y.2 law,
    )

-- EEVDF: each that is present has a deadline too, and each that enters

-- a task in its ranges, due no earlier than it stands and no later than one slice from there
record IsTimed (t : Task) : Type 0 where
  range : IsBounded t
  due : IsDue t

-- EEVDF keeps each task in its ranges, and due within one slice
eevdf_keeps : IsKept eevdf IsTimed
eevdf_keeps = record {
  weight = λ t h. h.range.0;
  ends = λ t h. h.range.1;
  charged = λ t time h. record { range = (h.range.0, omega arith); due = charged_due t time h.range.1 h.due };
  woken = λ mark t h.
      let ends = shift_ends mark (held_within (vdelta_of t.slice t.weight) t.rel) in
      let due = entered_due _ t.slice t.weight ends in
      record { range = (h, ends); due = record { low = due.0; high = due.1 } };
  pulled = λ mark t h.
      let ends = shift_ends mark t.rel in
      let due = entered_due _ t.slice t.weight ends in
      record { range = (h, ends); due = record { low = due.0; high = due.1 } };
}

-- each task that enters in a history under EEVDF is due within one slice
history_due : (at : ℕ) (w w' : World) (es : List Event) (more : List (List CounterCall))
    (answers : List (Result Reply Refusal)) (ss : List ProcessorStep)
    → IsSeenAt eevdf at w es more answers w' ss → EntersDue ss
history_due at w w' [] [] [] ss h = rw h.1 tt
history_due at w w' (e ∷ es) (calls ∷ more) (a ∷ answers) ss h =
    rw h.5
    (EntersDue-append (steps_at eevdf at w e a) h.1 (event_due at w h.0 e calls a h.2) (history_due at h.0 w' es more answers h.1 h.4))
history_due at w w' es more answers ss h = absurd h

-- each task at a processor of such a world is due within one slice from where it stands
deadlines_at : (w : World) (at : ℕ) → IsOrderly w → IsSoundWorld IsTimed w → HasDeadlines (running_at w at)
deadlines_at w at o s = λ i x l. let t = each_at IsTimed w at o s i x l in (t.due.low, t.due.high)

-- under EEVDF two tasks that stay at a processor of the world are served in proportion
pub eevdf_world_serves : EevdfWorldServes
eevdf_world_serves count at r i j w w' earlier es before calls given answers ss a b run l seen room within si sj f g =
    let k = reached eevdf IsTimed eevdf_keeps count w earlier before given run in
    let p = running_at w at in
    let sound = sound_at eevdf IsTimed eevdf_keeps w at k.orderly k.sound in
    let new = history_new eevdf IsTimed eevdf_keeps count at w w' es calls answers ss k l seen in
    let law =
    eevdf_serves_throughout r p ss i j a b sound room (deadlines_at w at k.orderly k.sound) new
    (history_due at w w' es calls answers ss seen) within f g si sj in
    let rooms = each_has_room p room in
    let x = got_by eevdf p ss i a (well_formed p sound) new si (rooms i a f) f in
    let y = got_by eevdf p ss j b (well_formed p sound) new sj (rooms j b g) g in
    let end : running_at w' at ≡ after_steps eevdf p ss = history_is_steps eevdf at w w' es calls answers ss k.orderly (rw k.many l) seen in (
      x.0,
      y.0,
      ap (λ q. task_at i q) end ∙ x.1,
      ap (λ q. task_at j q) end ∙ y.1,
      apart_by (max a.v (b.v + vdelta_of b.slice b.weight)) a.v b.v _ _ x.0.v y.0.v (vdelta_of r a.weight) x.2 y.2 law,
    )
