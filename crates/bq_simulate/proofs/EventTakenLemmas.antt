-- The events that a world takes, one by one: a tick, a block, a pull, a draw and an install.
use Rattle.std.proofs.Common.{◌≡◌, ◌≢◌, ℕ, ◌+◌, ◌-◌, ◌<◌, ◌≤◌, inl, inr, true, false, cond, List, [], ◌∷◌, length, Option, Some, None, refl, sym, subst, ap, ◌∙◌, arith}
use Rattle.std.specs.Prelude.{◌==◌, nat_le, nat_lt, Ok, is_none, slice_get, slice_set}
use Rattle.std.specs.Option.{option_map, option_map_or, option_to_list}
use Rattle.std.proofs.lemmas.Bool.{and_right, cases_lt, le-ltb, lt-leb, ne_eqb, or_from, true≢false}
use Rattle.std.proofs.lemmas.List.{get_or_past, length-set, set_comm}
use Rattle.std.proofs.lemmas.Option.{same_Some}
use Rattle.bq_bpf.specs.declared.board.CounterCall.{CounterCall}
use Rattle.bq_disc.specs.Tasks.{Task, id_of, find_task}
use Rattle.bq_disc.specs.Discipline.{Discipline, charged, left_at}
use Rattle.bq_disc.specs.OneProcessor.{Running, present_at, charge, reading}
use Rattle.bq_disc.specs.Queues.{can_use}
use Rattle.bq_hooks.specs.declared.hook.Hook.{Hook}
use Rattle.bq_hooks.specs.declared.hook.Hook.TheVariants as hooks
use Rattle.bq_hooks.specs.Contexts.{or_nobody}
use Rattle.bq_hooks.specs.Permitted.{may_pull, task_numbered}
use Rattle.bq_installed.specs.Installed.{at_hook}
use Rattle.bq_verify.specs.Accepted.{Accepted}
use Rattle.bq_parts.specs.declared.event.Event.TheVariants.{Block, Draw, Install, Pull, Tick}
use Rattle.bq_parts.specs.declared.lobby_entry.LobbyEntry.{LobbyEntry}
use Rattle.bq_parts.specs.declared.lobby_entry.LobbyEntry.TheVariants.{Absent, Sleeping}
use Rattle.bq_parts.specs.declared.reply.Reply.{Reply}
use Rattle.bq_parts.specs.declared.refusal.Refusal.TheVariants as no
use Rattle.bq_parts.specs.Processors.{Processor, HasEachOnce, size_of}
use Rattle.bq_parts.specs.World.{World, processor_at, entry_of_id, count_in, with_lobby, with_processor}
use Rattle.bq_disc.specs.Counts.{saturating_sum}
use Rattle.bq_parts.specs.Choices.{SettledChoice, decided_by, own_pull, by_programs}
use Rattle.bq_parts.specs.Moves.{after_leaving, as_it_leaves, taken_from, without_task}
use Rattle.bq_parts.specs.Refusals.{either_refusal, generation_refusal, is_away, same_hook}
use Rattle.bq_parts.specs.Shares.{after_time, mark_updated}
use Rattle.bq_parts.specs.Orderly.{IsOrderly}
use Rattle.bq_parts.specs.Steps.{WorldStep}
use Rattle.bq_parts.proofs.CountLemmas.{each_once_queue}
use Rattle.bq_parts.proofs.OnceLemmas.{each_once_running}
use Rattle.bq_parts.proofs.PermittedLemmas.{may_pull_names, own_pull_permitted, settled_permitted}
use Rattle.bq_parts.proofs.PullingLemmas.{current-without_task}
use Rattle.bq_parts.proofs.TallyLemmas.{tally, tally-charge}
use Rattle.bq_core.proofs.MoveLemmas.{tally-after_leaving, tally-pulled, tally-without_task}
use Rattle.bq_core.proofs.EachProcessorLemmas.{at_set_else}
use Rattle.bq_workload.specs.declared.progress.TaskState.{TaskState}
use Rattle.bq_workload.specs.declared.processor_state.ProcessorState.{ProcessorState}
use Rattle.bq_workload.specs.declared.periods.Periods.{Periods}
use Rattle.bq_workload.specs.Accounts.{Accounts, grown, left_by, accounts_passed, shrunk, accounts_switched}
use Rattle.bq_workload.proofs.ListLemmas.{changed_at-here, changed_at-others}
use Rattle.bq_simulate.specs.Agreement.{AgreesBut, AgreesWith, HaveProcessors, RunsAs, StandsAs, can_run, runner_at, state_at}
use Rattle.bq_simulate.specs.AgreementLaws.{BlocksAreTaken, DrawsAreTaken, InstallsAreTaken, PullsAreTaken, TicksAreTaken}
use Rattle.bq_simulate.specs.Drives.{runs_now, task_pulled}
use Rattle.bq_simulate.proofs.AccountsReadLemmas.{Reads, reads_grown, reads_join, reads_same, reads_shrunk, reads_switched}
use Rattle.bq_simulate.proofs.MirrorLemmas.{agree_after, each, homes_switched, runs_written, settled_written, size_decided, size_there, run_there, state_there, tally_length, tasks_kept, there}

-- Ticks

-- world and accounts agree after a tick that is done
tick_kept : (d : Discipline) (periods : Periods) (w v : World) (a : Accounts) (processor now : ℕ)
    (calls : List CounterCall) (r : Reply)
    → AgreesWith w a → processor < count_in w → WorldStep (by_programs d) w (Tick processor now) calls (Ok r) v
    → AgreesWith v (accounts_switched processor (runs_now r) now periods a)
tick_kept d periods w v a processor now calls r h low step =
    let k = step.1 in
    let p : Processor = processor_at w processor in
    let q : Processor = k.0 in
    let c : Processor = after_time d now p in
    let settled : SettledChoice = k.1.0 in
    let b : Accounts = accounts_switched processor (runs_now r) now periods a in
    let is : q ≡ decided_by (by_programs d) c settled = k.1.1.1 in
    let size : size_of q ≡ size_of p = ap size_of is ∙ size_decided d p.running now (settled.choice == 1) in
    let l = state_there w a processor h.mirrors.processors low in
    let reads : Reads processor (runs_now r) l.0.size a b = reads_switched processor (runs_now r) now periods a l.0 l.1 in
    agree_after (by_programs d) w (with_processor w processor q) v (Tick processor now) calls r b h.orderly step k.2 h.entries
    (settled_written w processor q h.settled (ap (λ (x : Processor). x.hand) is ∙ h.settled.hands processor))
    (record {
      tasks = tasks_kept w a b reads.states h.mirrors.tasks;
      processors =
          runs_written w a b processor q (runs_now r) l.0.size h.mirrors.processors low reads (ap runs_now k.1.3)
          (size_there w a processor l.0 h.mirrors.processors l.1 ∙ sym size);
    }) (homes_switched (count_in w) processor (runs_now r) now periods a low h.homes)

-- a world takes each tick that comes
pub ticks_are_taken : TicksAreTaken
ticks_are_taken d periods w a processor now h low = record {
  taken = ap (λ o. either_refusal o None) (there (count_in w) processor low);
  leaves = λ calls r v step. tick_kept d periods w v a processor now calls r h low step;
}

-- Blocks

-- time leaves the task that runs
pub current_id : (d : Discipline) (p : Running) (now : ℕ) → id_of (charge d p now).current ≡ id_of p.current
current_id d p now =
    let f : Task → Task = λ t. charged d t (reading p.last now - p.last) in
    let same : (o : Option Task) → id_of (option_map f o) ≡ id_of o = elim [ None ↦ refl | Some t ↦ refl ] in
    same p.current

-- a processor that runs a task is not idle
not_idle : (o : Option Task) (task : ℕ) → id_of o ≡ Some task → is_none o ≡ false
not_idle None task h = cc
not_idle (Some t) task h = refl

-- a task that sleeps stands in the lobby
sleeping_stands : (o : Option TaskState) (t : Task) → option_map_or can_run o true ≡ false → StandsAs o (Sleeping t)
sleeping_stands None t h = cc
sleeping_stands (Some task_state) t h = (refl, sym h)

-- an entry that is away is one of the lobby's
away_there : (w : World) (task : ℕ) → is_away (entry_of_id w task) ≡ true → task < length w.lobby
away_there w task h = elim (cases_lt task (length w.lobby))
    [ inl l ↦ l | inr g ↦ absurd (true≢false (sym h ∙ ap is_away (get_or_past w.lobby task Absent g))) ]

-- world and accounts agree after the block of a task that already sleeps by the accounts
block_kept : (d : Discipline) (periods : Periods) (w v : World) (a : Accounts) (processor task now : ℕ)
    (calls : List CounterCall) (r : Reply)
    → AgreesBut task w a → processor < count_in w → runner_at a.by_processor processor ≡ Some task
    → WorldStep (by_programs d) w (Block processor now) calls (Ok r) v
    → AgreesWith v (left_by processor (runs_now r) now periods a)
block_kept d periods w v a processor task now calls r h low runs step =
    let k = step.1 in
    let p : Processor = processor_at w processor in
    let q : Processor = k.0 in
    let c : Processor = after_time d now p in
    let x = k.2 in
    let t : Task = x.0 in
    let had : Option Task = c.running.current in
    let gone : Task = as_it_leaves c.running processor t in
    let run : Option ℕ = runs_now r in
    let b : Accounts = left_by processor run now periods a in
    let m = h.mirrors in
    let same : t.id ≡ task =
    same_Some t.id task (sym (ap id_of x.1.0) ∙ current_id d p.running now ∙ sym (m.processors.runs processor) ∙ runs) in
    let l = state_there w a processor m.processors low in
    let less : ProcessorState = record l.0 { size = l.0.size - 1 } in
    let at : slice_get (shrunk processor a).by_processor processor ≡ Some less =
    changed_at-here (λ (y : ProcessorState). record y { size = y.size - 1 }) a.by_processor processor l.0 l.1 in
    let reads : Reads processor run less.size a b =
    reads_join processor less.size less.size l.0.run run a (shrunk processor a) b (reads_shrunk processor a l.0 l.1)
    (reads_switched processor run now periods (shrunk processor a) less at) in
    let rest : Running = after_leaving d c.running in
    let left : tally each (present_at rest) + tally each (t ∷ []) ≡ tally each (present_at p.running) =
    tally-after_leaving each d c.running t x.1.0 ∙ tally-charge each d p.running now in
    let size : less.size ≡ size_of q = omega (
      arith,
      left,
      tally_length (present_at rest),
      tally_length (present_at p.running),
      ap size_of x.1.1,
      size_there w a processor l.0 m.processors l.1,
    ) in
    let lobby : List LobbyEntry = slice_set w.lobby task (Sleeping gone) in
    let form : World = with_lobby (with_processor w processor q) lobby in
    let is : v ≡ form = k.4 ∙ ap (with_lobby (with_processor w processor q)) (x.1.3 ∙ ap (λ n. slice_set w.lobby n (Sleeping gone)) same) in
    let settled = settled_written w processor q h.settled (ap (λ (y : Processor). y.hand) x.1.1 ∙ h.settled.hands processor) in
    let sleeps : option_map_or can_run (state_at b.by_task task) true ≡ false =
    ap (λ (o : Option TaskState). option_map_or can_run o true) (reads.states task) ∙ m.sleeps in
    let runs_as = runs_written w a b processor q run less.size m.processors low reads (ap runs_now x.1.2) size in
    agree_after (by_programs d) w form v (Block processor now) calls r b h.orderly step is
    (length-set w.lobby task (Sleeping gone) ∙ h.entries) (record { hands = settled.hands; inboxes = settled.inboxes })
    (record {
      tasks =
          at_set_else (λ n (s : LobbyEntry). StandsAs (state_at b.by_task n) s) w.lobby task
          (Sleeping gone) Absent (away_there w task m.away) (sleeping_stands (state_at b.by_task task) gone sleeps)
          (λ other apart. subst (λ s. StandsAs s (entry_of_id w other)) (sym (reads.states other)) (m.others other apart));
      processors = record { many = runs_as.many; runs = runs_as.runs; sizes = runs_as.sizes };
    }) (homes_switched (count_in w) processor run now periods (shrunk processor a) low h.homes)

-- a world takes each block that comes
pub blocks_are_taken : BlocksAreTaken
blocks_are_taken d periods w a processor task now h low runs = record {
  taken =
      let current = (processor_at w processor).running.current in
      ap (λ o. either_refusal o (cond (is_none current) (Some no.Idle) None)) (there (count_in w) processor low)
      ∙ ap (λ b. cond b (Some no.Idle) None) (not_idle current task (sym (h.mirrors.processors.runs processor) ∙ runs));
  leaves = λ calls r v step. block_kept d periods w v a processor task now calls r h low runs step;
}

-- Pulls

-- what is movable is one task
moved_one : (processor : ℕ) (f : Task → Task) (o : Option Task)
    → option_map_or (can_use processor) o false ≡ true → length (option_to_list (option_map f o)) ≡ 1
moved_one processor f None h = cc
moved_one processor f (Some t) h = refl

-- a pull takes one task from the queue if it names one, and otherwise takes no task
moved_by_case : (processor n : ℕ) (p : Running) (o : Option ℕ)
    → may_pull processor p.queue n ≡ true → task_numbered n ≡ o
    → length (option_to_list (taken_from p o)) ≡ option_map_or (λ _. 1) o 0
moved_by_case processor n p None may e = refl
moved_by_case processor n p (Some id) may e =
    moved_one processor (left_at p.mark) (find_task id p.queue) (may_pull_names processor p.queue n id may e)

-- both processors are as the accounts say, and the states are as they were
pub record Pulled (w : World) (a b : Accounts) : Type 0 where
  pub processors : RunsAs w b
  pub states : (task : ℕ) → state_at b.by_task task ≡ state_at a.by_task task

-- after a pull both processors are as the accounts say, whether it took a task or none
pulled_by_case : (task : Option ℕ) (periods : Periods) (w : World) (a : Accounts) (processor from now moved : ℕ)
    (run : Option ℕ) (here other : Processor)
    → RunsAs w a → processor < count_in w → from < count_in w → processor ≢ from → moved ≡ option_map_or (λ _. 1) task 0
    → size_of other + moved ≡ size_of (processor_at w from) → size_of here ≡ size_of (processor_at w processor) + moved
    → id_of other.running.current ≡ id_of (processor_at w from).running.current → run ≡ id_of here.running.current
    → Pulled (with_processor (with_processor w from other) processor here) a
    (accounts_switched processor run now periods (option_map_or (λ _. accounts_passed from processor a) task a))
pulled_by_case None periods w a processor from now moved run here other h low low' apart is gone come stays runs =
    let mid : World = with_processor w from other in
    let l = state_there w a processor h low in
    let k = state_there w a from h low' in
    let b : Accounts = accounts_switched processor run now periods a in
    let one : RunsAs mid a =
    runs_written w a a from other k.0.run k.0.size h low' (reads_same from a k.0 k.1)
    (run_there w a from k.0 h k.1 ∙ sym stays) (omega (arith, size_there w a from k.0 h k.1, is, gone)) in
    let reads : Reads processor run l.0.size a b = reads_switched processor run now periods a l.0 l.1 in
    record {
      processors =
          runs_written mid a b processor here run l.0.size one (omega (arith, low, length-set w.processors from other)) reads
          runs (omega (arith, size_there w a processor l.0 h l.1, is, come));
      states = reads.states;
    }
pulled_by_case (Some id) periods w a processor from now moved run here other h low low' apart is gone come stays runs =
    let mid : World = with_processor w from other in
    let l = state_there w a processor h low in
    let k = state_there w a from h low' in
    let f : ProcessorState → ProcessorState = λ y. record y { size = y.size - 1 } in
    let less : Accounts = shrunk from a in
    let more : Accounts = grown processor 1 less in
    let b : Accounts = accounts_switched processor run now periods more in
    let was : slice_get less.by_processor processor ≡ Some l.0 = changed_at-others f a.by_processor from processor apart ∙ l.1 in
    let next : ProcessorState = record l.0 { size = l.0.size + 1 } in
    let at : slice_get more.by_processor processor ≡ Some next =
    changed_at-here (λ (y : ProcessorState). record y { size = y.size + 1 }) less.by_processor processor l.0 was in
    let first = reads_shrunk from a k.0 k.1 in
    let one : RunsAs mid less =
    runs_written w a less from other k.0.run (k.0.size - 1) h low' first (run_there w a from k.0 h k.1 ∙ sym stays)
    (omega (arith, size_there w a from k.0 h k.1, is, gone)) in
    let reads : Reads processor run next.size less b =
    reads_join processor next.size next.size l.0.run run less more b (reads_grown processor 1 less l.0 was)
    (reads_switched processor run now periods more next at) in
    record {
      processors =
          runs_written mid less b processor here run next.size one (omega (arith, low, length-set w.processors from other))
          reads runs (omega (arith, size_there w a processor l.0 h l.1, is, come));
      states = λ task. reads.states task ∙ first.states task;
    }

-- each task was still last at one of the processors where one passes from queue to queue, or none does
homes_passed : (count processor from : ℕ) (task : Option ℕ) (a : Accounts)
    → HaveProcessors count a → HaveProcessors count (option_map_or (λ _. accounts_passed from processor a) task a)
homes_passed count processor from None a h = h
homes_passed count processor from (Some id) a h = h

-- a pull takes one task from a queue, or none, as its answer says
pull_takes : (d : Discipline) (w v : World) (processor from now : ℕ) (calls : List CounterCall) (r : Reply)
    → IsOrderly w → (step : WorldStep (by_programs d) w (Pull processor from now) calls (Ok r) v)
    → (let taken : List Task =
    option_to_list (taken_from (mark_updated d (processor_at w from)).running (task_numbered step.1.2.settled.choice)) in
    (length taken ≡ option_map_or (λ _. 1) (task_pulled r) 0)
    × (size_of step.1.1 + length taken ≡ size_of (processor_at w from)))
pull_takes d w v processor from now calls r orderly step =
    let k = step.1 in
    let p : Processor = after_time d now (processor_at w processor) in
    let source : Processor = mark_updated d (processor_at w from) in
    let x = k.2 in
    let settled : SettledChoice = x.settled in
    let n : ℕ = settled.choice in
    let once : HasEachOnce source.running.queue = each_once_queue (processor_at w from).running (each_once_running w from orderly) in
    let may =
    settled_permitted (by_programs d) _ p.hooks.pull p.running.last processor (may_pull processor source.running.queue)
    (or_nobody (own_pull processor p source)) settled (own_pull_permitted processor p source once) x.settles in
    let task : Option ℕ = task_numbered n in
    let stated : task_pulled r ≡ task = ap task_pulled x.replies in
    let rest : Running = without_task source.running task in (
      moved_by_case processor n source.running task may refl ∙ ap (λ (o : Option ℕ). option_map_or (λ _. 1) o 0) (sym stated),
      omega (
        arith,
        ap size_of x.there,
        tally-without_task each source.running task,
        tally_length (present_at rest),
        tally_length (option_to_list (taken_from source.running task)),
        tally_length (present_at source.running),
      ),
    )

-- a processor from which a task was pulled had one
pub pulled_from_some : (d : Discipline) (w v : World) (processor from now : ℕ) (calls : List CounterCall) (r : Reply)
    → IsOrderly w → task_pulled r ≢ None → WorldStep (by_programs d) w (Pull processor from now) calls (Ok r) v
    → 1 ≤ size_of (processor_at w from)
pulled_from_some d w v processor from now calls r orderly some step =
    let t = pull_takes d w v processor from now calls r orderly step in
    let one : (o : Option ℕ) → o ≢ None → 1 ≤ option_map_or (λ _. 1) o 0 = λ o there.
    elim o
    as (λ (x : Option ℕ). x ≢ None → 1 ≤ option_map_or (λ _. 1) x 0) [ None ↦ λ no. absurd (no refl) | Some id ↦ λ no. omega arith ]
    there in
    omega (arith, t.0, t.1, one (task_pulled r) some)

-- world and accounts agree after a pull that is done
pull_kept : (d : Discipline) (periods : Periods) (w v : World) (a : Accounts) (processor from now : ℕ)
    (calls : List CounterCall) (r : Reply)
    → AgreesWith w a → processor < count_in w → from < count_in w → processor ≢ from
    → WorldStep (by_programs d) w (Pull processor from now) calls (Ok r) v
    → AgreesWith v (accounts_switched processor (runs_now r) now periods (option_map_or (λ task. accounts_passed from processor a) (task_pulled r) a))
pull_kept d periods w v a processor from now calls r h low low' apart step =
    let k = step.1 in
    let p : Processor = after_time d now (processor_at w processor) in
    let source : Processor = mark_updated d (processor_at w from) in
    let q : Processor = k.0 in
    let other : Processor = k.1 in
    let x = k.2 in
    let settled : SettledChoice = x.settled in
    let n : ℕ = settled.choice in
    let task : Option ℕ = task_numbered n in
    let taken : List Task = option_to_list (taken_from source.running task) in
    let moved : ℕ = length taken in
    let t = pull_takes d w v processor from now calls r h.orderly step in
    let come : size_of q ≡ size_of (processor_at w processor) + moved =
    omega (
      arith,
      ap size_of x.here,
      tally-pulled each d p.running (taken_from source.running task),
      tally-charge each d (processor_at w processor).running now,
      tally_length (present_at q.running),
      tally_length taken,
      tally_length (present_at (processor_at w processor).running),
      ap (λ (y : Processor). tally each (present_at y.running)) x.here,
    ) in
    let stays : id_of other.running.current ≡ id_of (processor_at w from).running.current =
    ap (λ (y : Processor). id_of y.running.current) x.there ∙ ap id_of (current-without_task source.running task) in
    let form : World = with_processor (with_processor w from other) processor q in
    let is : v ≡ form = k.3 ∙ ap (λ ps. record w { processors = ps }) (set_comm w.processors processor from q other apart) in
    let b : Accounts = accounts_switched processor (runs_now r) now periods (option_map_or (λ _. accounts_passed from processor a) (task_pulled r) a) in
    let pulled : Pulled form a b =
    pulled_by_case (task_pulled r) periods w a processor from now moved (runs_now r) q other h.mirrors.processors low low'
    apart t.0 t.1 come stays (ap runs_now x.replies) in
    let first = settled_written w from other h.settled (ap (λ (y : Processor). y.hand) x.there ∙ h.settled.hands from) in
    let second =
    settled_written (with_processor w from other) processor q first
    (ap (λ (y : Processor). y.hand) x.here ∙ h.settled.hands processor) in
    agree_after (by_programs d) w form v (Pull processor from now) calls r b h.orderly step is h.entries second
    (record { tasks = tasks_kept w a b pulled.states h.mirrors.tasks; processors = pulled.processors })
    (homes_switched (count_in w) processor (runs_now r) now periods
    (option_map_or (λ _. accounts_passed from processor a) (task_pulled r) a) low
    (homes_passed (count_in w) processor from (task_pulled r) a h.homes))

-- a world takes each pull that comes
pub pulls_are_taken : PullsAreTaken
pulls_are_taken d periods w a processor from now h low low' apart = record {
  taken = rw (lt-leb (count_in w) processor low, lt-leb (count_in w) from low', ne_eqb processor from apart) refl;
  leaves = λ calls r v step. pull_kept d periods w v a processor from now calls r h low low' apart step;
}

-- Draws and installs

-- a world takes each draw that comes
pub draws_are_taken : DrawsAreTaken
draws_are_taken d periods w a h =
    let m = h.mirrors.processors in
    record {
      taken = refl;
      leaves = λ calls r v step.
          agree_after (by_programs d) w (record w { drawn = saturating_sum w.drawn 1 }) v Draw calls r a h.orderly step step.1.2 h.entries
          (record { hands = h.settled.hands; inboxes = h.settled.inboxes })
          (record { tasks = h.mirrors.tasks; processors = record { many = m.many; runs = m.runs; sizes = m.sizes } })
          h.homes;
    }

-- a hook is the same as itself
pub same_hook_itself : (hook : Hook) → same_hook hook hook ≡ true
same_hook_itself hooks.Place = refl
same_hook_itself hooks.Preempt = refl
same_hook_itself hooks.Pull = refl

-- a generation that was drawn, and is newer than that which stands there
newer_stands : (newest drawn g : ℕ) → newest < g → g ≤ drawn → generation_refusal newest drawn g ≡ None
newer_stands newest drawn g newer was =
    rw (
      and_right (nat_lt 0 newest) (nat_le g newest) (lt-leb g newest newer),
      or_from (g == 0) (nat_lt drawn g) (ne_eqb g 0 (λ e. omega arith)) (le-ltb drawn g was),
    ) refl

-- an install leaves them in agreement
pub install_kept : (d : Discipline) (w v : World) (a : Accounts) (processor generation : ℕ) (hook : Hook)
    (policy : Option Accepted) (calls : List CounterCall) (r : Reply)
    → AgreesWith w a → processor < count_in w
    → WorldStep (by_programs d) w (Install processor hook generation policy) calls (Ok r) v
    → AgreesWith v a
install_kept d w v a processor generation hook policy calls r h low step =
    let k = step.1 in
    let q : Processor = k.0 in
    let m = h.mirrors.processors in
    let l = state_there w a processor m low in
    let is = k.1.2 in
    agree_after (by_programs d) w (with_processor w processor q) v
    (Install processor hook generation policy) calls r a h.orderly step k.3 h.entries
    (settled_written w processor q h.settled (ap (λ (y : Processor). y.hand) is ∙ h.settled.hands processor))
    (record {
      tasks = h.mirrors.tasks;
      processors =
          runs_written w a a processor q l.0.run l.0.size m low (reads_same processor a l.0 l.1)
          (run_there w a processor l.0 m l.1 ∙ sym (ap (λ (y : Processor). id_of y.running.current) is))
          (size_there w a processor l.0 m l.1 ∙ sym (ap size_of is));
    }) h.homes

-- a world takes each install that comes
pub installs_are_taken : InstallsAreTaken
installs_are_taken d periods w a processor generation policy h low newer drawn = record {
  taken =
      rw (lt-leb (count_in w) processor low, same_hook_itself policy.hook)
      (newer_stands (at_hook policy.hook (processor_at w processor).hooks).generation w.drawn generation newer drawn);
  leaves = λ calls r v step. install_kept d w v a processor generation policy.hook (Some policy) calls r h low step;
}
