-- A share is its event's step in any world that has the parts.
use Rattle.std.proofs.Common.{◌≡◌, ◌≢◌, ℕ, ◌<◌, List, [], ◌∷◌, ◌++◌, Some, None, refl, sym, subst, ap, ◌∙◌, inl, Option, ne_eqb}
use Rattle.std.specs.Prelude.{ℤ, Result, Ok, Err, IfSome, slice_index_or, slice_set}
use Rattle.std.proofs.lemmas.List.{set-get_or}
use Rattle.std.proofs.lemmas.Bool.{lt-leb}
use Rattle.bq_disc.specs.Tasks.{Task}
use Rattle.bq_disc.specs.Discipline.{Discipline}
use Rattle.bq_bpf.specs.declared.board.CounterCall.{CounterCall}
use Rattle.bq_parts.specs.declared.event.Event.TheVariants.{Admit, Retire, Install, BeginWake, EndWake, Drain, Tick, Block, Pull}
use Rattle.bq_parts.specs.declared.reply.Reply.{Reply}
use Rattle.bq_parts.specs.declared.reply.Reply.TheVariants.{Placed}
use Rattle.bq_parts.specs.declared.refusal.Refusal.{Refusal}
use Rattle.bq_parts.specs.declared.refusal.Refusal.TheVariants as no
use Rattle.bq_parts.specs.declared.lobby_entry.LobbyEntry.{LobbyEntry}
use Rattle.bq_parts.specs.Processors.{Processor, new_processor}
use Rattle.bq_parts.specs.World.{World, processor_at, inbox, count_in, with_processor, with_inbox, with_lobby, loads_of}
use Rattle.bq_parts.specs.declared.waking.Placement.{Placement}
use Rattle.bq_parts.specs.declared.carried.Carried.{Carried}
use Rattle.bq_parts.specs.Refusals.{argument_refusal}
use Rattle.bq_parts.specs.Choices.{by_programs}
use Rattle.bq_parts.specs.Moves.{admitted}
use Rattle.bq_parts.specs.Steps.{WorldStep}
use Rattle.bq_parts.specs.Shares.{Admits, Retires, Ticks, Drains, Blocks, BeginsWake, Places, Installs, Pulls}
use Rattle.bq_hooks.specs.declared.hook.Hook.{Hook}
use Rattle.bq_verify.specs.Accepted.{Accepted}
use Rattle.bq_installed.specs.Answers.{fresh_maps}
use Rattle.bq_core.proofs.StepLemmas.{in_range_not_refused, still_runs, block_idle}

-- the lobby's share of an admission, done or refused, is the world's step, where no argument is refused
pub admits_step : (d : Discipline) (w : World) (id : ℕ) (nice : ℤ) (mask slice : ℕ) (r : Result Reply Refusal)
    (lobby : List LobbyEntry)
    → argument_refusal (count_in w) (Admit id nice mask slice) ≡ None
    → Admits id (admitted (count_in w) id nice mask slice) w.lobby r lobby
    → WorldStep (by_programs d) w (Admit id nice mask slice) [] r (with_lobby w lobby)
admits_step d w id nice mask slice (Ok r) lobby h a = (rw (h, a.0) refl, (lobby, a, refl, refl))
admits_step d w id nice mask slice (Err e) lobby h a = (refl, ap (with_lobby w) a.2, inl (rw (h, a.0, a.1) refl))

-- the lobby's share of a retirement, done or refused, is the world's step, where the id is that of an entry
pub retires_step : (d : Discipline) (w : World) (id : ℕ) (r : Result Reply Refusal) (lobby : List LobbyEntry)
    → id < 1024 → Retires id w.lobby r lobby
    → WorldStep (by_programs d) w (Retire id) [] r (with_lobby w lobby)
retires_step d w id (Ok r) lobby l b = (rw (lt-leb 1024 id l, b.0) refl, (lobby, b, refl, refl))
retires_step d w id (Err e) lobby l b = (refl, ap (with_lobby w) b.1, inl (rw (lt-leb 1024 id l, b.0) refl))

-- a processor's share of a tick is the world's step, where the world has that processor
pub ticks_step : (d : Discipline) (w : World) (processor now : ℕ) (calls : List CounterCall) (r : Reply) (q : Processor)
    → processor < count_in w → Ticks (by_programs d) processor now (processor_at w processor) calls r q
    → WorldStep (by_programs d) w (Tick processor now) calls (Ok r) (with_processor w processor q)
ticks_step d w processor now calls r q h t = (rw (in_range_not_refused w processor h) refl, (q, t, refl))

-- a processor's share of a drain is the world's step, which also empties its inbox
pub drains_step : (d : Discipline) (w : World) (processor now : ℕ) (calls : List CounterCall) (r : Reply) (q : Processor)
    → processor < count_in w → Drains (by_programs d) processor now (processor_at w processor) (inbox w processor) calls r q
    → WorldStep (by_programs d) w (Drain processor now) calls (Ok r) (with_inbox (with_processor w processor q) processor [])
drains_step d w processor now calls r q h t = (rw (in_range_not_refused w processor h) refl, (q, t, refl))

-- a processor that is as it was
same_processor : (w : World) (processor : ℕ) (q : Processor) → q ≡ processor_at w processor → with_processor w processor q ≡ w
same_processor w processor q e =
    ap (with_processor w processor) e
    ∙ ap (λ (x : List Processor). record w { processors = x }) (set-get_or w.processors processor new_processor)

-- a processor and a lobby that are as they were
same_lobby_too : (w : World) (processor : ℕ) (q : Processor) (lobby : List LobbyEntry)
    → q ≡ processor_at w processor → lobby ≡ w.lobby → with_lobby (with_processor w processor q) lobby ≡ w
same_lobby_too w processor q lobby e f = ap (with_lobby (with_processor w processor q)) f ∙ same_processor w processor q e

-- what a block makes of a processor and the lobby, done or refused, is the world's step
pub blocks_step : (d : Discipline) (w : World) (processor now : ℕ) (r : Result Reply Refusal)
    (q : Processor) (lobby : List LobbyEntry)
    → processor < count_in w → Blocks d processor now (processor_at w processor) w.lobby r q lobby
    → WorldStep (by_programs d) w (Block processor now) [] r (with_lobby (with_processor w processor q) lobby)
blocks_step d w processor now (Ok r) q lobby h b =
    (rw (in_range_not_refused w processor h, still_runs d w processor now b.0 (sym b.1.0)) refl, (q, lobby, b, refl, refl))
blocks_step d w processor now (Err e) q lobby h b =
    (refl, same_lobby_too w processor q lobby b.2 b.3, rw b.1 (block_idle d w processor now h b.0).2)

-- what a wake's beginning makes of the hand and the lobby is the world's step, done or refused, for an id of an entry
pub begins_step : (d : Discipline) (w : World) (processor id : ℕ) (r : Result Reply Refusal) (q : Processor)
    (lobby : List LobbyEntry)
    → processor < count_in w → id < 1024
    → BeginsWake id (loads_of w.processors w.inboxes) (processor_at w processor) w.lobby r q lobby
    → WorldStep (by_programs d) w (BeginWake processor id) [] r (with_lobby (with_processor w processor q) lobby)
begins_step d w processor id (Ok r) q lobby h l b =
    (rw (in_range_not_refused w processor h, lt-leb 1024 id l, b.not_refused) refl, (q, lobby, b, refl, refl))
begins_step d w processor id (Err e) q lobby h l b = (
  refl,
  same_lobby_too w processor q lobby b.1 b.2,
  inl (rw (in_range_not_refused w processor h, lt-leb 1024 id l, b.0) refl),
)

-- a processor's share of a wake's end is the world's step, which puts the task at the end of the chosen inbox
pub places_step : (d : Discipline) (w : World) (processor now : ℕ) (calls : List CounterCall) (x : Placement) (q : Processor)
    → processor < count_in w → Places (by_programs d) (count_in w) processor now (processor_at w processor) calls (Some x) q
    → WorldStep (by_programs d) w (EndWake processor now) calls (Ok (Placed x.task.id x.to x.by x.steps))
    (with_inbox (with_processor w processor q) x.to (inbox w x.to ++ x.task ∷ []))
places_step d w processor now calls x q h k = (rw (in_range_not_refused w processor h, k.in_hand) refl, (x, q, k, refl, refl))

-- a processor's share of a drain is the world's step, where the parts are known by equations
pub drains_at : (d : Discipline) (w w' : World) (processor now : ℕ) (calls : List CounterCall)
    (r : Reply) (q p : Processor) (xs : List Task)
    → processor < count_in w → p ≡ processor_at w processor → xs ≡ inbox w processor
    → Drains (by_programs d) processor now p xs calls r q → w' ≡ with_inbox (with_processor w processor q) processor []
    → WorldStep (by_programs d) w (Drain processor now) calls (Ok r) w'
drains_at d w w' processor now calls r q p xs h at box t e = rw e (drains_step d w processor now calls r q h (rw (← at, ← box) t))

-- a processor's share of a block is the world's step, where the parts are known by equations
pub blocks_at : (d : Discipline) (w w' : World) (processor now : ℕ) (r : Result Reply Refusal) (q p : Processor)
    (lobby lobby' : List LobbyEntry)
    → processor < count_in w → p ≡ processor_at w processor → lobby ≡ w.lobby → Blocks d processor now p lobby r q lobby'
    → w' ≡ with_lobby (with_processor w processor q) lobby'
    → WorldStep (by_programs d) w (Block processor now) [] r w'
blocks_at d w w' processor now r q p lobby lobby' h at is b e = rw e (blocks_step d w processor now r q lobby' h (rw (← at, ← is) b))

-- where no argument is refused, only the generation is
pub installs_step : (d : Discipline) (w : World) (processor g : ℕ) (h : Hook) (o : Option Accepted)
    (r : Result Reply Refusal) (q : Processor)
    → argument_refusal (count_in w) (Install processor h g o) ≡ None
    → Installs h w.drawn (processor_at w processor) (record { policy = o; generation = g; maps = fresh_maps o }) r q
    → WorldStep (by_programs d) w (Install processor h g o) [] r (with_processor w processor q)
installs_step d w processor g h o (Ok r) q l k = (rw (l, k.0) refl, (q, k, refl, refl))
installs_step d w processor g h o (Err e) q l k = (refl, same_processor w processor q k.1, inl (rw (l, k.0) refl))

-- what a pull makes of two processors that differ is the world's step
pub pulls_step : (d : Discipline) (w : World) (processor from now : ℕ) (calls : List CounterCall) (r : Reply)
    (q other : Processor)
    → processor < count_in w → from < count_in w → processor ≢ from
    → Pulls (by_programs d) processor from now (processor_at w processor) (processor_at w from) calls r q other
    → WorldStep (by_programs d) w (Pull processor from now) calls (Ok r) (with_processor (with_processor w processor q) from other)
pulls_step d w processor from now calls r q other h k n p = (
  rw (in_range_not_refused w processor h, in_range_not_refused w from k, ne_eqb processor from n) refl,
  (q, other, p, refl),
)

-- a processor's share of a wake's end is the world's step, where the parts are known by equations
pub places_at : (d : Discipline) (w w' : World) (processor now count task : ℕ) (calls : List CounterCall)
    (x : Placement) (q p : Processor) (xs : List Task)
    → processor < count_in w → p ≡ processor_at w processor → count ≡ count_in w → task ≡ x.task.id
    → xs ≡ inbox w x.to → Places (by_programs d) count processor now p calls (Some x) q
    → w' ≡ with_inbox (with_processor w processor q) x.to (xs ++ x.task ∷ [])
    → WorldStep (by_programs d) w (EndWake processor now) calls (Ok (Placed task x.to x.by x.steps)) w'
places_at d w w' processor now count task calls x q p xs h at many i box k e =
    rw (e, box, i) (places_step d w processor now calls x q h (rw (← many, ← at) k))

-- what every task in a hand meets, the one in it does
pub if_carried : (o : Option Carried) (P : Carried → Type 0) → ((c : Carried) → o ≡ Some c → P c) → IfSome o P
if_carried None P h = tt
if_carried (Some c) P h = h c refl

-- where the hand is empty nothing is placed
pub places_none : (d : Discipline) (w : World) (processor now : ℕ) (calls : List CounterCall) (q : Processor)
    → processor < count_in w → Places (by_programs d) (count_in w) processor now (processor_at w processor) calls None q
    → WorldStep (by_programs d) w (EndWake processor now) calls (Err no.NothingInHand) (with_processor w processor q)
places_none d w processor now calls q h k =
    (k.0, same_processor w processor q k.2, inl (rw (in_range_not_refused w processor h, k.1) refl))

-- where the hand is empty nothing is placed, and the parts are known by equations
pub places_none_at : (d : Discipline) (w w' : World) (processor now count : ℕ) (calls : List CounterCall) (q p : Processor)
    → processor < count_in w → p ≡ processor_at w processor → Places (by_programs d) count processor now p calls None q
    → w' ≡ with_processor w processor q
    → WorldStep (by_programs d) w (EndWake processor now) calls (Err no.NothingInHand) w'
places_none_at d w w' processor now count calls q p h at k e =
    rw e (places_none d w processor now calls q h (k.0, ap (λ (x : Processor). x.hand) (sym at) ∙ k.1, k.2 ∙ at))

-- the share of a wake's beginning is the world's step, where the parts are known by equations
pub begins_at : (d : Discipline) (w w' : World) (processor id : ℕ) (loads : List ℕ) (r : Result Reply Refusal)
    (q p : Processor) (lobby lobby' : List LobbyEntry)
    → processor < count_in w → id < 1024 → loads ≡ loads_of w.processors w.inboxes → p ≡ processor_at w processor
    → lobby ≡ w.lobby → BeginsWake id loads p lobby r q lobby' → w' ≡ with_lobby (with_processor w processor q) lobby'
    → WorldStep (by_programs d) w (BeginWake processor id) [] r w'
begins_at d w w' processor id loads r q p lobby lobby' h l count at is b e =
    let found = subst (λ (ns : List ℕ). BeginsWake id ns p lobby r q lobby') count b in
    let there = subst (λ (x : Processor). BeginsWake id (loads_of w.processors w.inboxes) x lobby r q lobby') at found in
    rw e (begins_step d w processor id r q lobby' h l
    (subst (λ (xs : List LobbyEntry). BeginsWake id (loads_of w.processors w.inboxes) (processor_at w processor) xs r q lobby') is there))

-- the share of a pull is the world's step, where the parts are known by equations
pub pulls_at : (d : Discipline) (w w' : World) (processor from now : ℕ) (calls : List CounterCall) (r : Reply)
    (ps qs : List Processor) (q other : Processor)
    → processor < count_in w → from < count_in w → processor ≢ from → ps ≡ w.processors
    → Pulls (by_programs d) processor from now (slice_index_or ps processor new_processor) (slice_index_or ps from new_processor) calls r q other
    → qs ≡ slice_set (slice_set ps processor q) from other → w' ≡ record w { processors = qs }
    → WorldStep (by_programs d) w (Pull processor from now) calls (Ok r) w'
pulls_at d w w' processor from now calls r ps qs q other h k n is p f e =
    let there =
    subst (λ (xs : List Processor).
    Pulls (by_programs d) processor from now (slice_index_or xs processor new_processor)
    (slice_index_or xs from new_processor) calls r q other) is p in
    rw (e, f, is) (pulls_step d w processor from now calls r q other h k n there)

-- the share of an admission is the world's step, where the parts are known by equations
pub admits_at : (d : Discipline) (w w' : World) (id : ℕ) (nice : ℤ) (mask slice : ℕ) (new : Task) (r : Result Reply Refusal)
    (old lobby : List LobbyEntry)
    → argument_refusal (count_in w) (Admit id nice mask slice) ≡ None → new ≡ admitted (count_in w) id nice mask slice
    → old ≡ w.lobby → Admits id new old r lobby → w' ≡ with_lobby w lobby
    → WorldStep (by_programs d) w (Admit id nice mask slice) [] r w'
admits_at d w w' id nice mask slice new r old lobby h made is a e =
    let there = subst (λ (t : Task). Admits id t old r lobby) made a in
    rw e (admits_step d w id nice mask slice r lobby h
    (subst (λ (xs : List LobbyEntry). Admits id (admitted (count_in w) id nice mask slice) xs r lobby) is there))
