-- What each commit asks, from the share of its call.
use Rattle.std.proofs.Common.{◌≡◌, ℕ, ◌+◌, ◌-◌, ◌<◌, List, [], ◌∷◌, ◌++◌, length, Option, Some, None, ◌≤◌, refl, sym, ap, ◌∙◌, arith, get_or, set, ◌^◌, min, length-append}
use Rattle.std.specs.Prelude.{ℤ, Result, Ok, Err, ◌==◌}
use Rattle.std.proofs.lemmas.Bool.{lt-leb}
use Rattle.bq_disc.specs.Tasks.{Task}
use Rattle.bq_disc.specs.Discipline.{Discipline}
use Rattle.bq_disc.specs.OneProcessor.{present_at, charge, enter_all}
use Rattle.bq_bpf.specs.declared.board.CounterCall.{CounterCall}
use Rattle.bq_hooks.specs.declared.hook.Hook.{Hook}
use Rattle.bq_verify.specs.Accepted.{Accepted}
use Rattle.bq_installed.specs.Answers.{fresh_maps}
use Rattle.bq_installed.specs.Installed.{InstalledFacts}
use Rattle.bq_parts.specs.declared.event.Event.TheVariants.{Admit, Retire, Draw, Install, BeginWake, EndWake, Tick, Drain, Block}
use Rattle.bq_parts.specs.declared.reply.Reply.{Reply}
use Rattle.bq_parts.specs.declared.reply.Reply.TheVariants.{Drawn, Placed}
use Rattle.bq_parts.specs.declared.waking.Placement.{Placement}
use Rattle.bq_parts.specs.declared.refusal.Refusal.{Refusal}
use Rattle.bq_parts.specs.declared.lobby_entry.LobbyEntry.{LobbyEntry}
use Rattle.bq_parts.specs.Processors.{Processor, size_of, load_of}
use Rattle.bq_parts.specs.World.{World, processor_at, inbox, count_in, with_processor, with_inbox, loads_of}
use Rattle.bq_parts.specs.Refusals.{argument_refusal}
use Rattle.bq_parts.specs.Choices.{PolicySemantics, SettledChoice, by_programs, decided_by}
use Rattle.bq_parts.specs.Moves.{admitted, after_leaving}
use Rattle.bq_parts.specs.Steps.{WorldStep}
use Rattle.bq_parts.specs.Shares.{after_time, Admits, Retires, Ticks, Drains, Blocks, BeginsWake, Places, Installs}
use Rattle.bq_parts.proofs.OnceLemmas.{few_at}
use Rattle.bq_parts.proofs.TallyLemmas.{tally, tally-decided, tally-charge, tally-enter_all}
use Rattle.bq_core.proofs.StepLemmas.{in_range_not_refused}
use Rattle.bq_core.proofs.MoveLemmas.{tally-after_leaving}
use Rattle.bq_core.proofs.ShareStepLemmas.{admits_step, retires_step, ticks_step, drains_step, blocks_step, begins_step, places_step, installs_step}
use Rattle.bq_shared.specs.declared.journal_state.JournalState.{JournalState}
use Rattle.bq_shared.specs.Parts.{cpu_part, inbox_part, lobby_part, journal_state_of, one_less, with_one_more, kept_by_block}
use Rattle.bq_shared.proofs.ReachedLemmas.{IsSound}
use Rattle.bq_shared.proofs.WantLemmas.{admits_named, retires_named, blocks_named, begins_named, installs_named}
use Rattle.bq_shared.proofs.LoadLemmas.{loads_set, loads_same, loads_moved, load_kept, loads_box}
use Rattle.bq_shared.proofs.ShapeLemmas.{MayCommitHere, moves_none, moves_lobby, moves_cpu, moves_cpu_lobby, moves_cpu_inbox}

-- the tally in which each task counts once
abbrev pub one_for_each : ℕ → ℕ → ℕ
one_for_each i mask = 1

-- the length of a list of tasks is a tally in which each counts once
pub length_is : (xs : List Task) → length xs ≡ tally one_for_each xs
length_is [] = refl
length_is (x ∷ xs) = omega (arith, length_is xs)

-- a decision about who runs changes no size
decided_size : (s : PolicySemantics) (p : Processor) (settled : SettledChoice) → size_of (decided_by s p settled) ≡ size_of p
decided_size s p settled =
    omega (
      arith,
      length_is (present_at (decided_by s p settled).running),
      length_is (present_at p.running),
      tally-decided one_for_each s.discipline p.running p.running.current (settled.choice == 1) refl,
    )

-- the passing of time changes the size of no processor
pub time_size : (d : Discipline) (now : ℕ) (p : Processor) → size_of (after_time d now p) ≡ size_of p
time_size d now p =
    omega (arith, length_is (present_at (charge d p.running now)), length_is (present_at p.running), tally-charge one_for_each d p.running now)

-- the beginning of a wake changes no size
begin_size : (id : ℕ) (loads : List ℕ) (p : Processor) (l : List LobbyEntry) (r : Result Reply Refusal) (q : Processor)
    (m : List LobbyEntry)
    → BeginsWake id loads p l r q m → size_of q ≡ size_of p
begin_size id loads p l (Ok r) q m b = ap size_of b.in_hand
begin_size id loads p l (Err e) q m b = ap size_of b.1

-- where a processor has one task fewer, the journal keeps one less for it
pub kept_less : (w : World) (c : ℕ) (p q : Processor) (k : JournalState)
    → length w.inboxes ≡ length w.processors → journal_state_of w ≡ k → c < count_in w → processor_at w c ≡ p
    → size_of q + 1 ≡ size_of p
    → journal_state_of (with_processor w c q) ≡ one_less c k
kept_less w c p q k even kw there at e =
    let was : get_or (loads_of w.processors w.inboxes) c 0 ≡ load_of p (inbox w c) =
    load_kept w.processors w.inboxes c even there ∙ ap (λ (x : Processor). load_of x (inbox w c)) at in
    let is : load_of q (inbox w c) ≡ get_or (loads_of w.processors w.inboxes) c 0 - 1 = rw was (omega (arith, e)) in
    ap (λ (ls : List ℕ). record { drawn = w.drawn; loads = ls })
    (loads_set w.processors w.inboxes c q even ∙ ap (λ (x : ℕ). set (loads_of w.processors w.inboxes) c x) is)
    ∙ ap (one_less c) kw

-- where a processor has one task more, the journal keeps one more for it
pub kept_more : (w : World) (c : ℕ) (p q : Processor) (k : JournalState)
    → length w.inboxes ≡ length w.processors → journal_state_of w ≡ k → c < count_in w → processor_at w c ≡ p
    → size_of q ≡ size_of p + 1 → load_of p (inbox w c) ≤ 1024
    → journal_state_of (with_processor w c q) ≡ with_one_more c k
kept_more w c p q k even kw there at e few =
    let was : get_or (loads_of w.processors w.inboxes) c 0 ≡ load_of p (inbox w c) =
    load_kept w.processors w.inboxes c even there ∙ ap (λ (x : Processor). load_of x (inbox w c)) at in
    let is : load_of q (inbox w c) ≡ min (get_or (loads_of w.processors w.inboxes) c 0 + 1) (2 ^ 16 - 1) = rw was (omega (arith, e, few)) in
    ap (λ (ls : List ℕ). record { drawn = w.drawn; loads = ls })
    (loads_set w.processors w.inboxes c q even ∙ ap (λ (x : ℕ). set (loads_of w.processors w.inboxes) c x) is)
    ∙ ap (with_one_more c) kw

module _ (d : Discipline) (n : ℕ) where
  -- a processor of the same size
  pub kept_same : (w : World) (c : ℕ) (p q : Processor) (k : JournalState)
      → journal_state_of w ≡ k → processor_at w c ≡ p → size_of q ≡ size_of p → journal_state_of (with_processor w c q) ≡ k
  kept_same w c p q k kw at e =
      ap (λ (ls : List ℕ). record { drawn = w.drawn; loads = ls }) (loads_same w.processors w.inboxes c q (e ∙ sym (ap size_of at))) ∙ kw

  -- an admission may be committed: it moves the world as its step says, and keeps the journal's state
  pub admit_moves : (id : ℕ) (nice : ℤ) (mask slice : ℕ) (l m : List LobbyEntry) (k : JournalState) (r : Result Reply Refusal)
      → argument_refusal n (Admit id nice mask slice) ≡ None → Admits id (admitted n id nice mask slice) l r m
      → MayCommitHere d n k (lobby_part l ∷ []) (record { event = Admit id nice mask slice; reply = r; calls = [] }) k (lobby_part m ∷ [])
  admit_moves id nice mask slice l m k r fits share =
      moves_lobby d n l m k (record { event = Admit id nice mask slice; reply = r; calls = [] }) (λ w s is. (
        admits_step d w id nice mask slice r m (rw s.many fits) (rw (s.many, is) share),
        rw s.many fits,
        admits_named id (admitted n id nice mask slice) l r m share,
      ))

  -- a retirement may be committed
  pub retire_moves : (id : ℕ) (l m : List LobbyEntry) (k : JournalState) (r : Result Reply Refusal)
      → id < 1024 → argument_refusal n (Retire id) ≡ None → Retires id l r m
      → MayCommitHere d n k (lobby_part l ∷ []) (record { event = Retire id; reply = r; calls = [] }) k (lobby_part m ∷ [])
  retire_moves id l m k r bound fits share =
      moves_lobby d n l m k (record { event = Retire id; reply = r; calls = [] })
      (λ w s is. (retires_step d w id r m bound (rw is share), fits, retires_named id l r m share))

  -- a tick may be committed
  pub tick_moves : (c now : ℕ) (p q : Processor) (calls : List CounterCall) (k : JournalState) (r : Reply)
      → Ticks (by_programs d) c now p calls r q
      → MayCommitHere d n k (cpu_part c p ∷ []) (record { event = Tick c now; reply = Ok r; calls = calls }) k (cpu_part c q ∷ [])
  tick_moves c now p q calls k r t =
      let size : size_of q ≡ size_of p = ap size_of t.1.1 ∙ decided_size (by_programs d) (after_time d now p) t.0 ∙ time_size d now p in
      moves_cpu d n c p q k k (record { event = Tick c now; reply = Ok r; calls = calls }) (λ w s kw l at. (
        (ticks_step d w c now calls r q l (rw at t), rw (in_range_not_refused w c l) refl, tt),
        kept_same w c p q k kw at size,
      ))

  -- after a drain the processor has the load that it had together with its inbox
  drain_load : (c now : ℕ) (p q : Processor) (xs : List Task) (calls : List CounterCall) (r : Reply)
      → Drains (by_programs d) c now p xs calls r q → load_of q [] ≡ load_of p xs
  drain_load c now p q xs calls r t =
      let a = after_time d now p in
      let e : Processor = record a { running = enter_all d a.running xs } in
      let size : size_of q ≡ size_of e = ap size_of t.1.1 ∙ decided_size (by_programs d) e t.0 in
      omega (
        arith,
        size,
        time_size d now p,
        length_is (present_at (enter_all d a.running xs)),
        length_is (present_at a.running),
        length_is xs,
        tally-enter_all one_for_each d a.running xs,
      )

  -- so may a drain, after which the journal counts the tasks that entered
  pub drain_moves : (c now : ℕ) (p q : Processor) (xs : List Task) (calls : List CounterCall) (k : JournalState) (r : Reply)
      → Drains (by_programs d) c now p xs calls r q
      → MayCommitHere d n k (cpu_part c p ∷ inbox_part c xs ∷ [])
      (record { event = Drain c now; reply = Ok r; calls = calls }) k (cpu_part c q ∷ inbox_part c [] ∷ [])
  drain_moves c now p q xs calls k r t =
      moves_cpu_inbox d n c c p q xs [] k k (record { event = Drain c now; reply = Ok r; calls = calls })
      (λ w s kw l at m box. (
        (drains_step d w c now calls r q l (rw (at, box) t), rw (in_range_not_refused w c l) refl, tt),
        ap (λ (ls : List ℕ). record { drawn = w.drawn; loads = ls })
            (loads_moved w.processors w.inboxes c q [] l (s.boxes ∙ sym s.many)
            (drain_load c now p q xs calls r t ∙ sym (ap (λ (x : Processor). load_of x xs) at)
            ∙ sym (ap (λ (x : List Task). load_of (processor_at w c) x) box)))
            ∙ kw,
      ))

  -- a block that is not refused leaves the processor one task fewer
  block_load : (c now : ℕ) (p q : Processor) (l m : List LobbyEntry) (r : Reply) → Blocks d c now p l (Ok r) q m → size_of q + 1 ≡ size_of p
  block_load c now p q l m r b =
      let a = after_time d now p in
      omega (
        arith,
        ap size_of b.1.1,
        time_size d now p,
        length_is (present_at (record a { running = after_leaving d a.running }).running),
        length_is (present_at a.running),
        tally-after_leaving one_for_each d a.running b.0 b.1.0,
      )

  -- after a block the journal keeps the state of the new world, whether the block is refused or not
  block_kept : (w : World) (c now : ℕ) (p q : Processor) (l m : List LobbyEntry) (k : JournalState) (r : Result Reply Refusal)
      → IsSound n w → journal_state_of w ≡ k → c < count_in w → processor_at w c ≡ p → Blocks d c now p l r q m
      → journal_state_of (with_processor w c q) ≡ kept_by_block c r k
  block_kept w c now p q l m k (Err e) s kw there at b = kept_same w c p q k kw at (ap size_of b.2)
  block_kept w c now p q l m k (Ok r) s kw there at b =
      kept_less w c p q k (s.boxes ∙ sym s.many) kw there at (block_load c now p q l m r b)

  -- so may a block, after which the journal counts one task fewer
  pub block_moves : (c now : ℕ) (p q : Processor) (l m : List LobbyEntry) (k : JournalState) (r : Result Reply Refusal)
      → Blocks d c now p l r q m
      → MayCommitHere d n k (cpu_part c p ∷ lobby_part l ∷ []) (record { event = Block c now; reply = r; calls = [] })
      (kept_by_block c r k) (cpu_part c q ∷ lobby_part m ∷ [])
  block_moves c now p q l m k r b =
      moves_cpu_lobby d n c p q l m k (kept_by_block c r k) (record { event = Block c now; reply = r; calls = [] })
      (λ w s kw there at is. (
        (
          blocks_step d w c now r q m there (rw (at, is) b),
          rw (in_range_not_refused w c there) refl,
          blocks_named d c now p l r q m b,
        ),
        block_kept w c now p q l m k r s kw there at b,
      ))

  -- so may the first half of a wake
  pub begin_moves : (c id : ℕ) (p q : Processor) (l m : List LobbyEntry) (k : JournalState) (r : Result Reply Refusal)
      → id < 1024 → BeginsWake id k.loads p l r q m
      → MayCommitHere d n k (cpu_part c p ∷ lobby_part l ∷ []) (record { event = BeginWake c id; reply = r; calls = [] }) k
      (cpu_part c q ∷ lobby_part m ∷ [])
  begin_moves c id p q l m k r bound b =
      moves_cpu_lobby d n c p q l m k k (record { event = BeginWake c id; reply = r; calls = [] }) (λ w s kw there at is. (
        (
          begins_step d w c id r q m there bound (rw (at, is, ap (λ (x : JournalState). x.loads) kw) b),
          rw (in_range_not_refused w c there, lt-leb 1024 id bound) refl,
          begins_named id k.loads p l r q m b,
        ),
        kept_same w c p q k kw at (begin_size id k.loads p l r q m b),
      ))

  -- the end of a wake changes no size of the processor that places the task
  place_size : (c now : ℕ) (p q : Processor) (calls : List CounterCall) (x : Placement)
      → Places (by_programs d) n c now p calls (Some x) q → size_of q ≡ size_of p
  place_size c now p q calls x k = ap size_of k.here ∙ time_size d now p

  -- so may the second half of a wake, after which the journal counts the task where it was placed
  pub place_moves : (c now task : ℕ) (p q : Processor) (xs : List Task) (calls : List CounterCall)
      (k : JournalState) (x : Placement)
      → task ≡ x.task.id → Places (by_programs d) n c now p calls (Some x) q
      → MayCommitHere d n k (cpu_part c p ∷ inbox_part x.to xs ∷ [])
      (record { event = EndWake c now; reply = Ok (Placed task x.to x.by x.steps); calls = calls }) (with_one_more x.to k)
      (cpu_part c q ∷ inbox_part x.to (xs ++ x.task ∷ []) ∷ [])
  place_moves c now task p q xs calls k x own b =
      moves_cpu_inbox d n c x.to p q xs (xs ++ x.task ∷ []) k (with_one_more x.to k)
      (record { event = EndWake c now; reply = Ok (Placed task x.to x.by x.steps); calls = calls }) (λ w s kw l at m box.
      let step : WorldStep (by_programs d) w (EndWake c now) calls (Ok (Placed task x.to x.by x.steps))
      (with_inbox (with_processor w c q) x.to (xs ++ x.task ∷ [])) =
      rw (own, ← box) (places_step d w c now calls x q l (rw (s.many, at) b)) in
      ((step, rw (in_range_not_refused w c l) refl, tt), place_kept w c now p q xs calls k x s kw at m box b))
    where
      place_kept : (w : World) (c now : ℕ) (p q : Processor) (xs : List Task) (calls : List CounterCall)
          (k : JournalState) (x : Placement)
          → IsSound n w → journal_state_of w ≡ k → processor_at w c ≡ p → x.to < length w.inboxes → inbox w x.to ≡ xs
          → Places (by_programs d) n c now p calls (Some x) q
          → journal_state_of (with_inbox (with_processor w c q) x.to (xs ++ x.task ∷ [])) ≡ with_one_more x.to k
      place_kept w c now p q xs calls k x s kw at m box b =
          let even : length w.inboxes ≡ length w.processors = s.boxes ∙ sym s.many in
          let ys : List Task = xs ++ x.task ∷ [] in
          let one : loads_of (set w.processors c q) (set w.inboxes x.to ys) ≡ loads_of w.processors (set w.inboxes x.to ys) =
          loads_same w.processors (set w.inboxes x.to ys) c q (place_size c now p q calls x b ∙ sym (ap size_of at)) in
          let was : get_or (loads_of w.processors w.inboxes) x.to 0 ≡ load_of (processor_at w x.to) (inbox w x.to) =
          load_kept w.processors w.inboxes x.to even (omega arith) in
          let few = few_at w x.to s.lobby s.orderly in
          let is : load_of (processor_at w x.to) ys ≡ min (get_or (loads_of w.processors w.inboxes) x.to 0 + 1) (2 ^ 16 - 1) =
          rw (was, box) (omega (arith, length-append xs (x.task ∷ []), few, ap (λ (z : List Task). length z) box)) in
          ap (λ (ls : List ℕ). record { drawn = w.drawn; loads = ls })
          (one ∙ loads_box w.processors w.inboxes x.to ys even ∙ ap (λ (z : ℕ). set (loads_of w.processors w.inboxes) x.to z) is)
          ∙ ap (with_one_more x.to) kw

module _ (d : Discipline) (n : ℕ) where
  -- so may a drawing, after which the journal has one number more
  pub draw_moves : (k : JournalState)
      → MayCommitHere d n k [] (record { event = Draw; reply = Ok (Drawn (min (k.drawn + 1) (2 ^ 64 - 1))); calls = [] })
      (record k { drawn = min (k.drawn + 1) (2 ^ 64 - 1) }) []
  draw_moves k =
      let g = min (k.drawn + 1) (2 ^ 64 - 1) in
      moves_none d n g k (record k { drawn = g }) (record { event = Draw; reply = Ok (Drawn g); calls = [] })
      (λ w s kw. ((rw (← kw) (refl, (refl, refl, refl)), refl, tt), ap (λ (x : JournalState). record x { drawn = g }) kw))

  -- an installation changes no size
  install_size : (h : Hook) (drawn : ℕ) (p : Processor) (new : InstalledFacts) (r : Result Reply Refusal) (q : Processor)
      → Installs h drawn p new r q → size_of q ≡ size_of p
  install_size h drawn p new (Ok r) q i = ap size_of i.2
  install_size h drawn p new (Err e) q i = ap size_of i.1

  -- an installation may be committed
  pub install_moves : (c g : ℕ) (h : Hook) (o : Option Accepted) (p q : Processor) (k : JournalState)
      (r : Result Reply Refusal)
      → argument_refusal n (Install c h g o) ≡ None
      → Installs h k.drawn p (record { policy = o; generation = g; maps = fresh_maps o }) r q
      → MayCommitHere d n k (cpu_part c p ∷ []) (record { event = Install c h g o; reply = r; calls = [] }) k (cpu_part c q ∷ [])
  install_moves c g h o p q k r fits i =
      moves_cpu d n c p q k k (record { event = Install c h g o; reply = r; calls = [] }) (λ w s kw l at. (
        (
          installs_step d w c g h o r q (rw s.many fits) (rw (at, ap (λ (x : JournalState). x.drawn) kw) i),
          rw s.many fits,
          installs_named h k.drawn p (record { policy = o; generation = g; maps = fresh_maps o }) r q i,
        ),
        kept_same d n w c p q k kw at (install_size h k.drawn p (record { policy = o; generation = g; maps = fresh_maps o }) r q i),
      ))
