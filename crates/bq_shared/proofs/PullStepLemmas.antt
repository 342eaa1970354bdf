-- A pull is a move of the history: where a task goes from the one processor to the other, so do the loads that are kept.
use Rattle.std.proofs.Common.{◌≡◌, ◌≢◌, ℕ, ◌+◌, ◌<◌, true, false, List, [], ◌∷◌, length, Option, Some, None, refl, sym, ap, ◌∙◌, subst, arith, ne_eqb}
use Rattle.std.specs.Prelude.{Ok}
use Rattle.std.specs.Option.{option_map, option_map_or, option_to_list}
use Rattle.std.proofs.lemmas.List.{length-set, get_or-set_other, set_comm}
use Rattle.bq_disc.specs.Tasks.{Task, find_task}
use Rattle.bq_disc.specs.Queues.{can_use}
use Rattle.bq_disc.specs.Movable.{is_movable_to}
use Rattle.bq_disc.specs.Discipline.{Discipline, left_at}
use Rattle.bq_disc.specs.OneProcessor.{Running, present_at}
use Rattle.bq_bpf.specs.declared.board.CounterCall.{CounterCall}
use Rattle.bq_installed.specs.Installed.{HooksFacts}
use Rattle.bq_hooks.specs.declared.settled.By.{By}
use Rattle.bq_hooks.specs.Contexts.{or_nobody}
use Rattle.bq_hooks.specs.Permitted.{may_pull, task_numbered}
use Rattle.bq_parts.specs.declared.event.Event.TheVariants.{Pull}
use Rattle.bq_parts.specs.declared.reply.Reply.{Reply}
use Rattle.bq_parts.specs.declared.reply.Reply.TheVariants.{Pulled}
use Rattle.bq_parts.specs.Processors.{Processor, new_processor, size_of, HasEachOnce}
use Rattle.bq_parts.specs.World.{World, processor_at, count_in, with_processor}
use Rattle.bq_parts.specs.Choices.{SettledChoice, SettlesPull, by_programs, own_pull}
use Rattle.bq_parts.specs.Moves.{taken_from, without_task, with_pulled, started_if_idle}
use Rattle.bq_parts.specs.Shares.{after_time, mark_updated, Pulls}
use Rattle.bq_parts.proofs.CountLemmas.{each_once_queue}
use Rattle.bq_parts.proofs.OnceLemmas.{each_once_running, few_at}
use Rattle.bq_parts.proofs.PermittedLemmas.{settled_permitted, own_pull_permitted, may_pull_names}
use Rattle.bq_core.proofs.StepLemmas.{in_range_not_refused}
use Rattle.bq_core.proofs.MoveLemmas.{tally-pulled, tally-without_task}
use Rattle.bq_core.proofs.ShareStepLemmas.{pulls_step}
use Rattle.bq_shared.specs.declared.journal_state.JournalState.{JournalState}
use Rattle.bq_shared.specs.Parts.{cpu_part, journal_state_of, one_less, kept_by_pull}
use Rattle.bq_shared.proofs.ReachedLemmas.{IsSound}
use Rattle.bq_shared.proofs.ShapeLemmas.{MayCommitHere, moves_two_cpus}
use Rattle.bq_shared.proofs.CallStepLemmas.{one_for_each, length_is, time_size, kept_same, kept_less, kept_more}

-- the puller has one more, if a task is taken
puller_size : (d : Discipline) (now : ℕ) (p o : Processor) (task : Option ℕ) (hooks : HooksFacts)
    → let c = after_time d now p in
    let taken = taken_from (mark_updated d o).running task in
    size_of (record c { running = started_if_idle d (with_pulled d c.running taken) c.running.current; hooks = hooks })
    ≡ size_of p + length (option_to_list taken)
puller_size d now p o task hooks =
    let c = after_time d now p in
    let taken = taken_from (mark_updated d o).running task in
    omega (
      arith,
      length_is (present_at (started_if_idle d (with_pulled d c.running taken) c.running.current)),
      length_is (present_at c.running),
      length_is (option_to_list taken),
      tally-pulled one_for_each d c.running taken,
      time_size d now p,
    )

-- the source has one task less, if one is taken
source_size : (d : Discipline) (o : Processor) (task : Option ℕ) →
    let s = mark_updated d o in
    size_of (record s { running = without_task s.running task }) + length (option_to_list (taken_from s.running task)) ≡ size_of o
source_size d o task =
    let s = mark_updated d o in
    let same : length (present_at s.running) ≡ length (present_at o.running) = refl in
    omega (
      arith,
      length_is (present_at (without_task s.running task)),
      length_is (present_at s.running),
      length_is (option_to_list (taken_from s.running task)),
      tally-without_task one_for_each s.running task,
      same,
    )

-- if there is a task that may use the processor, one task is taken
one_by_case : (processor mark : ℕ) (o : Option Task) → option_map_or (can_use processor) o false ≡ true
    → length (option_to_list (option_map (left_at mark) o)) ≡ 1
one_by_case processor mark None h = absurd (let no : ⊥ = cc in no)
one_by_case processor mark (Some t) h = refl

-- a task that may move is there to be taken
taken_one : (processor id : ℕ) (s : Running) → is_movable_to processor id s.queue ≡ true
    → length (option_to_list (taken_from s (Some id))) ≡ 1
taken_one processor id s h = one_by_case processor s.mark (find_task id s.queue) h

-- a permitted choice is in the queue
chosen_there : (d : Discipline) (processor from now id : ℕ) (p o : Processor) (settled : SettledChoice)
    → HasEachOnce o.running.queue → SettlesPull (by_programs d) processor from (after_time d now p) (mark_updated d o) settled
    → task_numbered settled.choice ≡ Some id
    → length (option_to_list (taken_from (mark_updated d o).running (Some id))) ≡ 1
chosen_there d processor from now id p o settled once h e =
    let c = after_time d now p in
    let s = mark_updated d o in
    let may =
    settled_permitted (by_programs d) _ c.hooks.pull c.running.last processor (may_pull processor s.running.queue)
    (or_nobody (own_pull processor c s)) settled (own_pull_permitted processor c s once) h in
    taken_one processor id s.running (may_pull_names processor s.running.queue settled.choice id may e)

-- a processor is as before where another one was replaced
beside : (w : World) (c b : ℕ) (q o : Processor) → b ≢ c → processor_at w b ≡ o → processor_at (with_processor w c q) b ≡ o
beside w c b q o apart at = get_or-set_other w.processors c b q new_processor apart ∙ at

module _ (d : Discipline) (n : ℕ) where
  -- if the puller has t tasks more, the source t fewer, and t is 1 if one is taken, else 0, the journal keeps these loads
  kept_by_task : (w : World) (c b : ℕ) (p q o r : Processor) (k : JournalState) (task run : Option ℕ) (by : By) (steps t : ℕ)
      → IsSound n w → journal_state_of w ≡ k → c < count_in w → processor_at w c ≡ p → b < count_in w → processor_at w b ≡ o → c ≢ b
      → size_of q ≡ size_of p + t → size_of r + t ≡ size_of o → ((id : ℕ) → task ≡ Some id → t ≡ 1) → (task ≡ None → t ≡ 0)
      → journal_state_of (with_processor (with_processor w c q) b r) ≡ kept_by_pull c b (Pulled task run by steps) k
  kept_by_task w c b p q o r k None run by steps t s kw here at there at' apart more less some none =
      let zero : t ≡ 0 = none refl in
      kept_same d n (with_processor w c q) b o r k (kept_same d n w c p q k kw at (omega (arith, more, zero)))
      (beside w c b q o (λ e. apart (sym e)) at') (omega (arith, less, zero))
  kept_by_task w c b p q o r k (Some id) run by steps t s kw here at there at' apart more less some none =
      let one : t ≡ 1 = some id refl in
      let even : length w.inboxes ≡ length w.processors = s.boxes ∙ sym s.many in
      let long : length (with_processor w b r).processors ≡ length w.processors = length-set w.processors b r in
      let first = kept_less w b o r k even kw there at' (omega (arith, less, one)) in
      let few = few_at w c s.lobby s.orderly in
      ap (λ ps. journal_state_of (record w { processors = ps })) (set_comm w.processors c b q r apart)
      ∙ kept_more (with_processor w b r) c p q (one_less b k) (even ∙ sym long) first (omega (arith, here, long))
      (beside w b c r p apart at) (omega (arith, more, one)) (rw (← at) few)

  -- where no task is chosen, none is taken
  none_taken : (s : Running) (task : Option ℕ) → task ≡ None → length (option_to_list (taken_from s task)) ≡ 0
  none_taken s None e = refl
  none_taken s (Some id) e = absurd (let no : ⊥ = cc in no)

  -- after a pull the journal counts the tasks as they then stand
  pub pull_kept : (w : World) (c b now : ℕ) (p q o r : Processor) (calls : List CounterCall) (k : JournalState) (x : Reply)
      → IsSound n w → journal_state_of w ≡ k → c < count_in w → processor_at w c ≡ p → b < count_in w → processor_at w b ≡ o → c ≢ b
      → Pulls (by_programs d) c b now p o calls x q r
      → journal_state_of (with_processor (with_processor w c q) b r) ≡ kept_by_pull c b x k
  pull_kept w c b now p q o r calls k x s kw here at there at' apart u =
      let source = mark_updated d o in
      let task = task_numbered u.settled.choice in
      let taken = taken_from source.running task in
      let once : HasEachOnce o.running.queue =
      each_once_queue o.running (subst (λ (y : Processor). HasEachOnce (present_at y.running)) at' (each_once_running w b s.orderly)) in
      let some : (id : ℕ) → task ≡ Some id → length (option_to_list taken) ≡ 1 =
      λ id e.
      ap (λ (z : Option ℕ). length (option_to_list (taken_from source.running z))) e
      ∙ chosen_there d c b now id p o u.settled once u.settles e in
      rw u.replies (
      kept_by_task w c b p q o r k task _ u.settled.by u.settled.steps (length (option_to_list taken)) s kw here at there at' apart
      (ap size_of u.here ∙ puller_size d now p o task (record (after_time d now p).hooks { pull = u.settled.installed }))
      (ap (λ (y : Processor). size_of y + length (option_to_list taken)) u.there ∙ source_size d o task)
      some
      (λ e. none_taken source.running task e)
      )

  -- a pull may be committed: it moves the world as its step says
  pub pull_moves : (c b now : ℕ) (p q o r : Processor) (calls : List CounterCall) (k : JournalState) (x : Reply)
      → c ≢ b → Pulls (by_programs d) c b now p o calls x q r
      → MayCommitHere d n k (cpu_part c p ∷ cpu_part b o ∷ []) (record { event = Pull c b now; reply = Ok x; calls = calls })
      (kept_by_pull c b x k) (cpu_part c q ∷ cpu_part b r ∷ [])
  pull_moves c b now p q o r calls k x apart u =
      moves_two_cpus d n c b p q o r k (kept_by_pull c b x k)
      (record { event = Pull c b now; reply = Ok x; calls = calls }) apart (λ w s kw here at there at'. (
        (
          pulls_step d w c b now calls x q r here there apart (rw (at, at') u),
          rw (in_range_not_refused w c here, in_range_not_refused w b there, ne_eqb c b apart) refl,
          tt,
        ),
        pull_kept w c b now p q o r calls k x s kw here at there at' apart u,
      ))
