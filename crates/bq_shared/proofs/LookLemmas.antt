-- What a look at parts tells: the world has them, and every world to which a history leads is sound.
use Rattle.std.proofs.Common.{◌≡◌, ◌≢◌, ℕ, ◌≤◌, List, ◌++◌, length, Option, Some, None, refl, ap, ◌∙◌, subst, arith}
use Rattle.std.specs.Prelude.{IfSome, slice_index_or}
use Rattle.bq_history.specs.History.{IsReached}
use Rattle.bq_disc.specs.Tasks.{Task}
use Rattle.bq_disc.specs.Discipline.{Discipline}
use Rattle.bq_disc.specs.OneProcessor.{present_at}
use Rattle.bq_hooks.specs.OwnPlace.{HasPlace}
use Rattle.bq_parts.specs.declared.carried.Carried.{Carried}
use Rattle.bq_parts.specs.declared.lobby_entry.LobbyEntry.{LobbyEntry}
use Rattle.bq_parts.specs.declared.lobby_entry.LobbyEntry.TheVariants.{Absent, Sleeping}
use Rattle.bq_parts.specs.Processors.{Processor, HasEachOnce, HasIdsBelowTasks}
use Rattle.bq_parts.specs.World.{World, opening_world, processor_at, inbox}
use Rattle.bq_parts.proofs.CountLemmas.{count_of-append}
use Rattle.bq_parts.proofs.OnceLemmas.{standing_once, held_two, count_of-held_by, each_once_running, each_once_runnable, none_beyond_at, few_at}
use Rattle.bq_shared.specs.Parts.{RecordStep, cpu_part, inbox_part, lobby_part, HasPart}
use Rattle.bq_shared.proofs.ReachedLemmas.{reached_sound}

-- a look at a processor
module _ (d : Discipline) (n c : ℕ) (p : Processor) where
  -- a world that can be reached has this processor
  abbrev pub Seen : Type 0
  Seen = (w : World) × IsReached (RecordStep d) (opening_world n) w × HasPart w (cpu_part c p)

  -- no task stands there twice
  pub seen_once : Seen → HasEachOnce (present_at p.running)
  seen_once k =
      subst (λ (x : Processor). HasEachOnce (present_at x.running)) k.2.1
      (each_once_running k.0 c (reached_sound d n k.0 k.1).orderly)

  -- each id there is one of the lobby
  pub seen_ids : Seen → HasIdsBelowTasks (present_at p.running)
  seen_ids k =
      let s = reached_sound d n k.0 k.1 in
      subst (λ (x : Processor). HasIdsBelowTasks (present_at x.running)) k.2.1 (λ id h.
      let p' = (processor_at k.0 c).running in
      omega (arith, none_beyond_at k.0 c id s.lobby s.orderly h, count_of-append id (present_at p') (inbox k.0 c)))

  -- if each task that may be in the hand has a processor that it may use, so has the one that is there, if any
  usable_by_case : (o : Option Carried) → ((x : Carried) → o ≡ Some x → HasPlace n x.task) → IfSome o (λ x. HasPlace n x.task)
  usable_by_case None h = tt
  usable_by_case (Some x) h = h x refl

  -- the task in the hand has a processor that it may use
  pub seen_usable : Seen → IfSome p.hand (λ x. HasPlace n x.task)
  seen_usable k =
      let s = reached_sound d n k.0 k.1 in
      usable_by_case p.hand
      (λ x e. subst (λ (m : ℕ). HasPlace m x.task) s.many (s.orderly.places.in_hand c x (ap (λ (y : Processor). y.hand) k.2.1 ∙ e)))

-- a look at an inbox
module _ (d : Discipline) (n c : ℕ) (xs : List Task) where
  -- a world that can be reached has this inbox
  abbrev pub SeenInbox : Type 0
  SeenInbox = (w : World) × IsReached (RecordStep d) (opening_world n) w × HasPart w (inbox_part c xs)

  -- the inbox has no more tasks than there may be
  pub seen_few : SeenInbox → length xs ≤ 1024
  seen_few k =
      let s = reached_sound d n k.0 k.1 in
      omega (arith, few_at k.0 c s.lobby s.orderly, ap (λ (ys : List Task). length ys) k.2.1)

-- a look at a processor and its inbox
module _ (d : Discipline) (n c : ℕ) (p : Processor) (xs : List Task) where
  -- a world that can be reached has this processor and this inbox
  abbrev pub SeenBoth : Type 0
  SeenBoth = (w : World) × IsReached (RecordStep d) (opening_world n) w × HasPart w (cpu_part c p) × HasPart w (inbox_part c xs)

  -- no task stands in both, nor twice in one
  pub both_once : SeenBoth → HasEachOnce (present_at p.running ++ xs)
  both_once k = rw (← k.2.1, ← k.3.1) (each_once_runnable k.0 c (reached_sound d n k.0 k.1).orderly)

  -- each id there is one of the lobby
  pub both_ids : SeenBoth → HasIdsBelowTasks (present_at p.running ++ xs)
  both_ids k = let s = reached_sound d n k.0 k.1 in rw (← k.2.1, ← k.3.1) (λ id h. none_beyond_at k.0 c id s.lobby s.orderly h)

-- a look at two processors
module _ (d : Discipline) (n c b : ℕ) (p q : Processor) (apart : c ≢ b) where
  -- a world that can be reached has these two processors
  abbrev pub SeenTwo : Type 0
  SeenTwo = (w : World) × IsReached (RecordStep d) (opening_world n) w × HasPart w (cpu_part c p) × HasPart w (cpu_part b q)

  -- no task stands at both, nor twice at one
  pub two_once : SeenTwo → HasEachOnce (present_at p.running ++ present_at q.running)
  two_once k =
      let s = reached_sound d n k.0 k.1 in
      let one = processor_at k.0 c in
      let other = processor_at k.0 b in
      let both : HasEachOnce (present_at one.running ++ present_at other.running) =
      λ id. omega (
        arith,
        standing_once k.0 id s.orderly,
        held_two id k.0.processors c b apart,
        count_of-held_by id one,
        count_of-held_by id other,
        count_of-append id (present_at one.running) (present_at other.running),
      ) in
      rw (← k.2.1, ← k.3.1) both

  -- each id at the two is one of the lobby
  pub two_ids : SeenTwo → HasIdsBelowTasks (present_at p.running ++ present_at q.running)
  two_ids k =
      let s = reached_sound d n k.0 k.1 in
      let one = (processor_at k.0 c).running in
      let other = (processor_at k.0 b).running in
      let both : HasIdsBelowTasks (present_at one ++ present_at other) =
      λ id h. omega (
        arith,
        none_beyond_at k.0 c id s.lobby s.orderly h,
        none_beyond_at k.0 b id s.lobby s.orderly h,
        count_of-append id (present_at one) (inbox k.0 c),
        count_of-append id (present_at other) (inbox k.0 b),
        count_of-append id (present_at one) (present_at other),
      ) in
      rw (← k.2.1, ← k.3.1) both

-- a look at the lobby
module _ (d : Discipline) (n : ℕ) (lobby : List LobbyEntry) where
  -- a world that can be reached has this lobby
  abbrev pub SeenLobby : Type 0
  SeenLobby = (w : World) × IsReached (RecordStep d) (opening_world n) w × HasPart w (lobby_part lobby)

  -- each task stands at its own id
  pub seen_own : SeenLobby → (id : ℕ) (t : Task) → slice_index_or lobby id Absent ≡ Sleeping t → t.id ≡ id
  seen_own k id t e =
      (reached_sound d n k.0 k.1).orderly.once.blocked id t (ap (λ (l : List LobbyEntry). slice_index_or l id Absent) k.2 ∙ e)
