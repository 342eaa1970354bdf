-- What each event makes of a tidy world: the same, whatever was settled.
use Rattle.std.proofs.Common.{◌≡◌, ◌≢◌, ℕ, ◌+◌, ◌<◌, true, false, List, [], ◌∷◌, ◌++◌, Option, Some, None, refl, sym, subst, ap, ◌∙◌, arith}
use Rattle.std.specs.Prelude.{◌==◌, is_some}
use Rattle.std.specs.Option.{option_map, option_to_list}
use Rattle.std.proofs.lemmas.List.{get_or-set_other, set_comm}
use Rattle.bq_disc.specs.Tasks.{Task, find_task}
use Rattle.bq_disc.specs.Discipline.{Discipline, left_at}
use Rattle.bq_disc.specs.OneProcessor.{Running, present_at, charge, marked, enter_all}
use Rattle.bq_parts.specs.declared.carried.Carried.{Carried}
use Rattle.bq_parts.specs.declared.lobby_entry.LobbyEntry.{LobbyEntry}
use Rattle.bq_parts.specs.declared.lobby_entry.LobbyEntry.TheVariants.{Absent, Sleeping, Away}
use Rattle.bq_parts.specs.Processors.{Processor, new_processor, count_of_id, in_hand}
use Rattle.bq_parts.specs.World.{World, processor_at, inbox, entry_of_id, with_processor, with_inbox}
use Rattle.bq_parts.specs.Refusals.{is_absent, is_away}
use Rattle.bq_disc.specs.Movable.{is_movable_to}
use Rattle.bq_installed.specs.Installed.{HooksFacts}
use Rattle.bq_hooks.specs.Contexts.{as_number}
use Rattle.bq_disc.specs.Masks.{allows}
use Rattle.bq_hooks.specs.OwnPlace.{HasPlace}
use Rattle.bq_hooks.specs.Permitted.{may_pull, task_numbered}
use Rattle.bq_parts.specs.Choices.{PolicySemantics, SettledChoice, decided_by}
use Rattle.bq_parts.specs.Moves.{after_leaving, as_it_leaves, taken_from, without_task, with_pulled, started_if_idle}
use Rattle.bq_parts.specs.Shares.{after_time}
use Rattle.bq_parts.proofs.TallyLemmas.{tally, tally-append, tally-charge, tally-decided, tally-enter_all, tally-without, tally-present}
use Rattle.bq_parts.proofs.CountLemmas.{keeps_charge}
use Rattle.bq_parts.proofs.OnceLemmas.{count_of-held_by}
use Rattle.bq_core.proofs.MoveLemmas.{tally-after_leaving, tally-without_task, tally-pulled}
use Rattle.bq_parts.proofs.PermittedLemmas.{may_pull_names, may_go}
use Rattle.bq_core.proofs.SuitableTaskLemmas.{unsuited, suits_of, of_suits}
use Rattle.bq_core.proofs.OnTheWayLemmas.{IsTidy, with_entry, with_processor_tidy, running_tidy, inbox_tidy, entry_tidy, leaves_lobby, enters_lobby}

-- the processor after its time has passed
abbrev pub charged_at : Discipline → World → ℕ → ℕ → Processor
charged_at d w processor now = after_time d now (processor_at w processor)

-- an absent entry is not away
absent_is_not_away : (s : LobbyEntry) → is_absent s ≡ true → as_number (is_away s) ≡ 0
absent_is_not_away Absent h = refl
absent_is_not_away (Sleeping t) h = cc
absent_is_not_away Away h = cc

-- a task is admitted to an entry that is absent
pub admit_tidy : (count : ℕ) (w : World) (id : ℕ) (new : Task)
    → IsTidy count [] w → is_absent (entry_of_id w id) ≡ true → new.id ≡ id → HasPlace count new
    → IsTidy count [] (with_entry w id (Sleeping new))
admit_tidy count w id new y a same place =
    entry_tidy count [] w id (Sleeping new) y (sym (absent_is_not_away (entry_of_id w id) a))
    (λ t e. let is : new ≡ t = cc in rw (← is) (same, place))

-- a task leaves an entry that is not away
pub retire_tidy : (count : ℕ) (w : World) (id : ℕ) → IsTidy count [] w → is_away (entry_of_id w id) ≡ false
    → IsTidy count [] (with_entry w id Absent)
retire_tidy count w id y a = entry_tidy count [] w id Absent y (sym (ap as_number a)) (λ t e. cc)

-- what is drawn moves no task
pub draw_tidy : (count : ℕ) (w : World) (n : ℕ) → IsTidy count [] w → IsTidy count [] (record w { drawn = n })
draw_tidy count w n y =
    record { many = y.many; boxes = y.boxes; away = y.away; blocked = y.blocked; hand = y.hand; present = y.present; placed = y.placed }

-- what is installed at the hooks moves no task
pub install_tidy : (count : ℕ) (w : World) (processor : ℕ) (hooks : HooksFacts)
    → IsTidy count [] w → processor < count
    → IsTidy count [] (with_processor w processor (record (processor_at w processor) { hooks = hooks }))
install_tidy count w processor hooks y l =
    running_tidy count [] [] w processor (record (processor_at w processor) { hooks = hooks }) y l refl (λ g. refl) refl

-- an empty hand has no task
no_hand : (o : Option Carried) → is_some o ≡ false → o ≡ None
no_hand None h = refl
no_hand (Some c) h = cc

-- a task goes from the lobby to an empty hand
pub begin_wake_tidy : (count : ℕ) (w : World) (processor id : ℕ) (t : Task) (loads : List ℕ)
    → IsTidy count [] w → processor < count → entry_of_id w id ≡ Sleeping t → is_some (processor_at w processor).hand ≡ false
    → IsTidy count [] (with_entry
    (with_processor w processor (record (processor_at w processor) { hand = Some (record { task = t; loads = loads }) })) id
    Away)
begin_wake_tidy count w processor id t loads y l e empty =
    let p : Processor = processor_at w processor in
    let c : Carried = record { task = t; loads = loads } in
    let q : Processor = record p { hand = Some c } in
    let none : (i : ℕ) → count_of_id i (in_hand p) ≡ 0 =
    λ i. ap (λ o. count_of_id i (option_to_list (option_map (λ (c : Carried). c.task) o))) (no_hand p.hand empty) in
    with_processor_tidy count (t ∷ []) [] (with_entry w id Away) processor q (leaves_lobby count w id t y e) l
    (λ i. omega (arith, count_of-held_by i p, count_of-held_by i q, none i))
    (λ d f. let is : c ≡ d = cc in rw (← is) ((y.blocked id t e).1))
    (y.present processor)

-- a task goes from the hand to an inbox that suits it
pub end_wake_tidy : (d : Discipline) (count : ℕ) (w : World) (processor now to : ℕ) (carried : Carried) (hooks : HooksFacts)
    → IsTidy count [] w → processor < count → (processor_at w processor).hand ≡ Some carried
    → to < count → allows carried.task.mask to ≡ true
    → IsTidy count [] (with_inbox (with_processor w processor (record (charged_at d w processor now) { hand = None; hooks = hooks }))
    to (inbox w to ++ carried.task ∷ []))
end_wake_tidy d count w processor now to carried hooks y l e k a =
    let p : Processor = processor_at w processor in
    let q : Processor = record (charged_at d w processor now) { hand = None; hooks = hooks } in
    let had : (i : ℕ) → count_of_id i (in_hand p) ≡ count_of_id i (carried.task ∷ []) =
    λ i. ap (λ o. count_of_id i (option_to_list (option_map (λ (c : Carried). c.task) o))) e in
    let place : HasPlace count carried.task = y.hand processor carried e in
    let free : IsTidy count (carried.task ∷ []) (with_processor w processor q) =
    with_processor_tidy count [] (carried.task ∷ []) w processor q y l
    (λ i. omega (arith, count_of-held_by i p, count_of-held_by i q, had i, keeps_charge i d p.running now))
    (λ c f. cc)
    (tally-charge (unsuited count processor) d p.running now ∙ y.present processor) in
    inbox_tidy count (carried.task ∷ []) [] (with_processor w processor q) to (inbox w to ++ carried.task ∷ []) free k
    (λ g. omega (arith, tally-append g (inbox w to) (carried.task ∷ [])))
    (omega (arith, of_suits count to carried.task a place))

-- it is decided who runs
pub tick_tidy : (s : PolicySemantics) (count : ℕ) (w : World) (processor now : ℕ) (settled : SettledChoice)
    → IsTidy count [] w → processor < count
    → IsTidy count [] (with_processor w processor (decided_by s (charged_at s.discipline w processor now) settled))
tick_tidy s count w processor now settled y l =
    let p : Processor = charged_at s.discipline w processor now in
    running_tidy count [] [] w processor (decided_by s p settled) y l refl
    (λ g. omega (
      arith,
      tally-decided g s.discipline p.running p.running.current (settled.choice == 1) refl,
      tally-charge g s.discipline (processor_at w processor).running now,
    )) refl

-- an inbox's tasks enter, and it is decided who runs
pub drain_tidy : (s : PolicySemantics) (count : ℕ) (w : World) (processor now : ℕ) (settled : SettledChoice)
    → IsTidy count [] w → processor < count
    → IsTidy count [] (with_inbox (with_processor w processor
    (decided_by s (record (charged_at s.discipline w processor now) {
      running = enter_all s.discipline (charged_at s.discipline w processor now).running (inbox w processor);
    }) settled)) processor [])
drain_tidy s count w processor now settled y l =
    let tasks : List Task = inbox w processor in
    let was : Running = charge s.discipline (processor_at w processor).running now in
    let entered : Running = enter_all s.discipline was tasks in
    let p : Processor = record (charged_at s.discipline w processor now) { running = entered } in
    let free : IsTidy count tasks (with_inbox w processor []) = inbox_tidy count [] tasks w processor [] y l (λ g. omega arith) refl in
    running_tidy count tasks [] (with_inbox w processor []) processor (decided_by s p settled) free l refl
    (λ g. omega (
      arith,
      tally-decided g s.discipline entered entered.current (settled.choice == 1) refl,
      tally-enter_all g s.discipline was tasks,
      tally-charge g s.discipline (processor_at w processor).running now,
    )) (y.placed processor)

-- the current task goes to the lobby
pub block_tidy : (d : Discipline) (count : ℕ) (w : World) (processor now : ℕ) (t : Task)
    → IsTidy count [] w → processor < count → (charged_at d w processor now).running.current ≡ Some t
    → IsTidy count [] (with_entry (with_processor w processor
    (record (charged_at d w processor now) { running = after_leaving d (charged_at d w processor now).running })) t.id
    (Sleeping (as_it_leaves (charged_at d w processor now).running processor t)))
block_tidy d count w processor now t y l e =
    let p : Processor = charged_at d w processor now in
    let q : Processor = record p { running = after_leaving d p.running } in
    let left : (g : ℕ → ℕ → ℕ)
    → tally g (present_at q.running) + tally g (t ∷ []) ≡ tally g (present_at (processor_at w processor).running) =
    λ g. tally-after_leaving g d p.running t e ∙ tally-charge g d (processor_at w processor).running now in
    let free : IsTidy count (t ∷ []) (with_processor w processor q) =
    running_tidy count [] (t ∷ []) w processor q y l refl (λ g. omega (arith, left g)) refl in
    let fits = suits_of count processor t (omega (arith, left (unsuited count processor), y.present processor)) in
    enters_lobby count (with_processor w processor q) t (as_it_leaves p.running processor t) free refl fits.place

-- the task of an id that may go to a processor, if the queue has it, suits that processor
taken_by_cases : (count processor from id : ℕ) (p : Running) (o : Option Task)
    → tally (unsuited count from) (present_at p) ≡ 0 → is_movable_to processor id p.queue ≡ true → find_task id p.queue ≡ o
    → tally (unsuited count processor) (option_to_list (option_map (left_at p.mark) o)) ≡ 0
taken_by_cases count processor from id p None fit may e = refl
taken_by_cases count processor from id p (Some t) fit may e =
    let left =
    suits_of count from t
    (omega (arith, fit, tally-present (unsuited count from) p.current [] p.queue, tally-without (unsuited count from) id p.queue t e)) in
    omega (arith, of_suits count processor (left_at p.mark t) (may_go processor id p.queue t may e) left.place)

-- a task that is pulled fits where it goes
taken_fits : (count processor from n : ℕ) (p : Running) (task : Option ℕ)
    → tally (unsuited count from) (present_at p) ≡ 0 → may_pull processor p.queue n ≡ true → task_numbered n ≡ task
    → tally (unsuited count processor) (option_to_list (taken_from p task)) ≡ 0
taken_fits count processor from n p None fit may e = refl
taken_fits count processor from n p (Some id) fit may e =
    taken_by_cases count processor from id p (find_task id p.queue) fit (may_pull_names processor p.queue n id may e) refl

-- a task goes from another processor's queue to this one's
pub pull_tidy : (d : Discipline) (count : ℕ) (w : World) (processor from now n : ℕ) (task : Option ℕ) (hooks : HooksFacts)
    → IsTidy count [] w → processor < count → from < count → processor ≢ from
    → may_pull processor (processor_at w from).running.queue n ≡ true → task_numbered n ≡ task
    → IsTidy count [] (with_processor
    (with_processor w processor (record (charged_at d w processor now) {
      running =
          started_if_idle d
          (with_pulled d (charged_at d w processor now).running (taken_from (marked d (processor_at w from).running) task))
          (charged_at d w processor now).running.current;
      hooks = hooks;
    })) from (record (processor_at w from) { running = without_task (marked d (processor_at w from).running) task }))
pull_tidy d count w processor from now n task hooks y l k apart may e =
    let p : Processor = charged_at d w processor now in
    let source : Running = marked d (processor_at w from).running in
    let taken : List Task = option_to_list (taken_from source task) in
    let here : Processor =
    record p { running = started_if_idle d (with_pulled d p.running (taken_from source task)) p.running.current; hooks = hooks } in
    let there : Processor = record (processor_at w from) { running = without_task source task } in
    let mid : World = with_processor w from there in
    let free : IsTidy count taken mid =
    running_tidy count [] taken w from there y k refl (λ g. omega (arith, tally-without_task g source task)) refl in
    let still : processor_at mid processor ≡ processor_at w processor = get_or-set_other w.processors from processor there new_processor apart in
    let done : IsTidy count [] (with_processor mid processor here) =
    running_tidy count taken [] mid processor here free l (sym (ap (λ (x : Processor). x.hand) still))
    (λ g. omega (
      arith,
      tally-pulled g d p.running (taken_from source task),
      tally-charge g d (processor_at w processor).running now,
      ap (λ (x : Processor). tally g (present_at x.running)) still,
    )) (taken_fits count processor from n source task (y.present from) may e) in
    subst (λ ps. IsTidy count [] (record w { processors = ps })) (sym (set_comm w.processors processor from here there apart)) done
