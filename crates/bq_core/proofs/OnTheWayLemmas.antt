-- Order while some tasks are on their way: they stand nowhere, and are counted beside those that stand.
use Rattle.std.proofs.Common.{◌≡◌, ◌≢◌, ℕ, zero, suc, ◌+◌, ◌<◌, List, [], ◌∷◌, length, Some, None, refl, sym, subst, ap, ◌∙◌, arith, inl, inr, get_or, set}
use Rattle.std.specs.Prelude.{All, replicate}
use Rattle.std.specs.Option.{option_map, option_to_list}
use Rattle.std.proofs.lemmas.List.{length-set, length-replicate, get_or_past}
use Rattle.std.proofs.lemmas.Bool.{cases_lt}
use Rattle.std.proofs.lemmas.Bool.Decides.{nat_tests}
use Rattle.bq_disc.specs.Tasks.{Task}
use Rattle.bq_disc.specs.OneProcessor.{present_at}
use Rattle.bq_parts.specs.declared.carried.Carried.{Carried}
use Rattle.bq_parts.specs.declared.lobby_entry.LobbyEntry.{LobbyEntry}
use Rattle.bq_parts.specs.declared.lobby_entry.LobbyEntry.TheVariants.{Absent, Sleeping, Away}
use Rattle.bq_parts.specs.Processors.{Processor, new_processor, count_of_id, held_by, in_hand}
use Rattle.bq_parts.specs.World.{World, processor_at, inbox, entry_of_id, count_in, with_processor, with_inbox, with_lobby}
use Rattle.bq_parts.specs.Refusals.{is_away}
use Rattle.bq_hooks.specs.Contexts.{as_number}
use Rattle.bq_hooks.specs.OwnPlace.{HasPlace}
use Rattle.bq_parts.specs.Orderly.{held_count, placed_count, standing_count, runnable_at, IsOrderly}
use Rattle.bq_core.proofs.EachProcessorLemmas.{AllWell, at_set, at_set_else}
use Rattle.bq_core.proofs.SuitableTaskLemmas.{unsuited, Suits, none_unsuited, all_suit}
use Rattle.bq_parts.proofs.TallyLemmas.{tally, tally-append}
use Rattle.bq_parts.proofs.CountLemmas.{one, ones, one_self, count_of-tally}
use Rattle.bq_parts.proofs.OnceLemmas.{count_of-held_by, as_number_le}

-- a world in which one entry of the lobby is written
abbrev pub with_entry : World → ℕ → LobbyEntry → World
with_entry w id s = with_lobby w (set w.lobby id s)

-- order in a world of this many processors, with some tasks on their way
pub record IsTidy (count : ℕ) (floating : List Task) (w : World) : Type 0 where
  pub many : length w.processors ≡ count
  pub boxes : length w.inboxes ≡ count
  pub away : (id : ℕ) → standing_count id w + count_of_id id floating ≡ as_number (is_away (entry_of_id w id))
  pub blocked : (id : ℕ) (t : Task) → entry_of_id w id ≡ Sleeping t → (t.id ≡ id) × HasPlace count t
  pub hand : (processor : ℕ) (c : Carried) → (processor_at w processor).hand ≡ Some c → HasPlace count c.task
  pub present : (processor : ℕ) → tally (unsuited count processor) (present_at (processor_at w processor).running) ≡ 0
  pub placed : (processor : ℕ) → tally (unsuited count processor) (inbox w processor) ≡ 0

-- an orderly world is tidy with none on its way
pub tidy_of : (w : World) → IsOrderly w → IsTidy (count_in w) [] w
tidy_of w o =
    let none : (processor : ℕ) → tally (unsuited (count_in w) processor) (runnable_at w processor) ≡ 0 = λ processor.
    none_unsuited (count_in w) processor (runnable_at w processor) (o.once.allowed processor) (o.places.runnable processor) in
    let split : (processor : ℕ)
    → tally (unsuited (count_in w) processor) (runnable_at w processor)
    ≡ tally (unsuited (count_in w) processor) (present_at (processor_at w processor).running)
    + tally (unsuited (count_in w) processor) (inbox w processor) =
    λ processor. tally-append (unsuited (count_in w) processor) (present_at (processor_at w processor).running) (inbox w processor) in
    record {
      many = refl;
      boxes = o.an_inbox_each;
      away = λ id. omega (arith, o.once.away id);
      blocked = λ id t e. (o.once.blocked id t e, o.places.in_lobby id t e);
      hand = o.places.in_hand;
      present = λ processor. omega (arith, none processor, split processor);
      placed = λ processor. omega (arith, none processor, split processor);
    }

-- a world that is tidy with none on its way is orderly, where all processors are well
pub orderly_of : (w : World) → IsTidy (count_in w) [] w → AllWell w → IsOrderly w
orderly_of w y well =
    let all : (processor : ℕ) → All (Suits (count_in w) processor) (runnable_at w processor) =
    λ processor.
    all_suit (count_in w) processor (runnable_at w processor)
    (omega (
      arith,
      tally-append (unsuited (count_in w) processor) (present_at (processor_at w processor).running) (inbox w processor),
      y.present processor,
      y.placed processor,
    )) in
    record {
      once = record {
        away = λ id. omega (arith, y.away id);
        blocked = λ id t e. (y.blocked id t e).0;
        allowed = λ processor k d l. (all processor k d l).can;
      };
      places = record {
        in_lobby = λ id t e. (y.blocked id t e).1;
        in_hand = y.hand;
        runnable = λ processor k d l. (all processor k d l).place;
      };
      an_inbox_each = y.boxes;
      rising = λ processor. (well processor).rising;
      ready = λ processor. (well processor).ready;
    }

-- an orderly world's processors are well
pub well_of : (w : World) → IsOrderly w → AllWell w
well_of w o processor = record { rising = o.rising processor; ready = o.ready processor }

-- a processor's tasks leave the count, and those of the new one come
pub held_count-set : (id : ℕ) (ps : List Processor) (processor : ℕ) (q : Processor)
    → processor < length ps
    → held_count id (set ps processor q) + count_of_id id (held_by (get_or ps processor new_processor))
    ≡ held_count id ps + count_of_id id (held_by q)
held_count-set id [] processor q l = absurd (omega arith)
held_count-set id (p ∷ ps) zero q l = omega arith
held_count-set id (p ∷ ps) (suc processor) q l = omega (arith, held_count-set id ps processor q (omega arith))

-- an inbox's tasks leave the count, and those of the new one come
pub placed_count-set : (id : ℕ) (xss : List (List Task)) (processor : ℕ) (tasks : List Task)
    → processor < length xss
    → placed_count id (set xss processor tasks) + count_of_id id (get_or xss processor []) ≡ placed_count id xss + count_of_id id tasks
placed_count-set id [] processor tasks l = absurd (omega arith)
placed_count-set id (xs ∷ xss) zero tasks l = omega arith
placed_count-set id (xs ∷ xss) (suc processor) tasks l = omega (arith, placed_count-set id xss processor tasks (omega arith))

-- a processor is written: its tasks come from those that were there and those on their way
pub with_processor_tidy : (count : ℕ) (xs ys : List Task) (w : World) (processor : ℕ) (q : Processor)
    → IsTidy count xs w → processor < count
    → ((id : ℕ) → count_of_id id (held_by q) + count_of_id id ys ≡ count_of_id id (held_by (processor_at w processor)) + count_of_id id xs)
    → ((c : Carried) → q.hand ≡ Some c → HasPlace count c.task) → tally (unsuited count processor) (present_at q.running) ≡ 0
    → IsTidy count ys (with_processor w processor q)
with_processor_tidy count xs ys w processor q y l moved hand present =
    let l' : processor < length w.processors = omega (arith, y.many) in
    record {
      many = length-set w.processors processor q ∙ y.many;
      boxes = y.boxes;
      away = λ id. omega (arith, y.away id, moved id, held_count-set id w.processors processor q l');
      blocked = y.blocked;
      hand =
          at_set (λ n (p : Processor). (c : Carried) → p.hand ≡ Some c → HasPlace count c.task) w.processors processor q
          new_processor hand y.hand;
      present =
          at_set (λ n (p : Processor). tally (unsuited count n) (present_at p.running) ≡ 0) w.processors processor q
          new_processor present y.present;
      placed = y.placed;
    }

-- the tasks that run or wait there come from those and from those on their way, by every tally; the hand stays
pub running_tidy : (count : ℕ) (xs ys : List Task) (w : World) (processor : ℕ) (q : Processor)
    → IsTidy count xs w → processor < count → q.hand ≡ (processor_at w processor).hand
    → ((g : ℕ → ℕ → ℕ) → tally g (present_at q.running) + tally g ys ≡ tally g (present_at (processor_at w processor).running) + tally g xs)
    → tally (unsuited count processor) xs ≡ 0
    → IsTidy count ys (with_processor w processor q)
running_tidy count xs ys w processor q y l h moved fit =
    let p : Processor = processor_at w processor in
    let hands : (id : ℕ) → count_of_id id (in_hand q) ≡ count_of_id id (in_hand p) =
    λ id. ap (λ o. count_of_id id (option_to_list (option_map (λ (c : Carried). c.task) o))) h in
    with_processor_tidy count xs ys w processor q y l
    (λ id. omega (
      arith,
      count_of-held_by id q,
      count_of-held_by id p,
      hands id,
      count_of-tally id (present_at q.running),
      count_of-tally id (present_at p.running),
      count_of-tally id xs,
      count_of-tally id ys,
      moved (ones id),
    )) (λ c e. y.hand processor c (sym h ∙ e)) (omega (arith, moved (unsuited count processor), y.present processor, fit))

-- an inbox is written: its tasks come from those that were there and those on their way
pub inbox_tidy : (count : ℕ) (xs ys : List Task) (w : World) (processor : ℕ) (tasks : List Task)
    → IsTidy count xs w → processor < count → ((g : ℕ → ℕ → ℕ) → tally g tasks + tally g ys ≡ tally g (inbox w processor) + tally g xs)
    → tally (unsuited count processor) xs ≡ 0
    → IsTidy count ys (with_inbox w processor tasks)
inbox_tidy count xs ys w processor tasks y l moved fit =
    let l' : processor < length w.inboxes = omega (arith, y.boxes) in
    record {
      many = y.many;
      boxes = length-set w.inboxes processor tasks ∙ y.boxes;
      away = λ id. omega (
        arith,
        y.away id,
        placed_count-set id w.inboxes processor tasks l',
        count_of-tally id tasks,
        count_of-tally id (inbox w processor),
        count_of-tally id xs,
        count_of-tally id ys,
        moved (ones id),
      );
      blocked = y.blocked;
      hand = y.hand;
      present = y.present;
      placed =
          at_set (λ n (ts : List Task). tally (unsuited count n) ts ≡ 0) w.inboxes processor tasks []
          (omega (arith, moved (unsuited count processor), y.placed processor, fit)) y.placed;
    }

-- an entry is written, and is away afterwards if it was before
pub entry_tidy : (count : ℕ) (xs : List Task) (w : World) (id : ℕ) (s : LobbyEntry)
    → IsTidy count xs w → as_number (is_away s) ≡ as_number (is_away (entry_of_id w id))
    → ((t : Task) → s ≡ Sleeping t → (t.id ≡ id) × HasPlace count t)
    → IsTidy count xs (with_entry w id s)
entry_tidy count xs w id s y same blocked = record {
  many = y.many;
  boxes = y.boxes;
  away =
      at_set (λ j (x : LobbyEntry). standing_count j w + count_of_id j xs ≡ as_number (is_away x)) w.lobby id s Absent
      (y.away id ∙ sym same) y.away;
  blocked =
      at_set (λ j (x : LobbyEntry). (t : Task) → x ≡ Sleeping t → (t.id ≡ j) × HasPlace count t) w.lobby id s
      Absent blocked y.blocked;
  hand = y.hand;
  present = y.present;
  placed = y.placed;
}

-- a task has no other id than its own
other_id : (j : ℕ) (t : Task) → j ≢ t.id → one j t ≡ 0
other_id j t n = grind (arith, nat_tests)

-- an entry that is not absent is one of the lobby's
past_entry : (w : World) (id : ℕ) → entry_of_id w id ≢ Absent → id < length w.lobby
past_entry w id n = elim (cases_lt id (length w.lobby)) [ inl l ↦ l | inr g ↦ absurd (n (get_or_past w.lobby id Absent g)) ]

-- a task leaves the lobby
pub leaves_lobby : (count : ℕ) (w : World) (id : ℕ) (t : Task)
    → IsTidy count [] w → entry_of_id w id ≡ Sleeping t → IsTidy count (t ∷ []) (with_entry w id Away)
leaves_lobby count w id t y e =
    let same : t.id ≡ id = (y.blocked id t e).0 in
    let asleep : as_number (is_away (entry_of_id w id)) ≡ 0 = ap (λ s. as_number (is_away s)) e in
    let once : one id t ≡ 1 = subst (λ i. one i t ≡ 1) same (one_self t) in
    let apart : (j : ℕ) → j ≢ id → one j t ≡ 0 = λ j n. other_id j t (λ h. n (h ∙ same)) in
    record {
      many = y.many;
      boxes = y.boxes;
      away =
          at_set_else (λ j (x : LobbyEntry). standing_count j w + count_of_id j (t ∷ []) ≡ as_number (is_away x)) w.lobby id Away
          Absent (past_entry w id (λ h. cc)) (omega (arith, y.away id)) (λ j n. omega (arith, y.away j, apart j n));
      blocked =
          at_set (λ j (x : LobbyEntry). (t : Task) → x ≡ Sleeping t → (t.id ≡ j) × HasPlace count t) w.lobby id Away Absent
          (λ t e. cc) y.blocked;
      hand = y.hand;
      present = y.present;
      placed = y.placed;
    }

-- a task comes to the lobby
pub enters_lobby : (count : ℕ) (w : World) (t new : Task) → IsTidy count (t ∷ []) w → new.id ≡ t.id → HasPlace count new
    → IsTidy count [] (with_entry w t.id (Sleeping new))
enters_lobby count w t new y same place =
    let apart : (j : ℕ) → j ≢ t.id → one j t ≡ 0 = λ j n. other_id j t n in
    let there : t.id < length w.lobby =
    past_entry w t.id (λ h. absurd (omega (arith, y.away t.id, one_self t, ap (λ s. as_number (is_away s)) h))) in
    record {
      many = y.many;
      boxes = y.boxes;
      away =
          at_set_else (λ j (x : LobbyEntry). standing_count j w + 0 ≡ as_number (is_away x)) w.lobby t.id
          (Sleeping new) Absent there (omega (arith, y.away t.id, one_self t, as_number_le (is_away (entry_of_id w t.id))))
          (λ j n. omega (arith, y.away j, apart j n));
      blocked =
          at_set (λ j (x : LobbyEntry). (t : Task) → x ≡ Sleeping t → (t.id ≡ j) × HasPlace count t) w.lobby t.id
          (Sleeping new) Absent (λ u e. let is : new ≡ u = cc in rw (← is) (same, place)) y.blocked;
      hand = y.hand;
      present = y.present;
      placed = y.placed;
    }

-- at the opening no task stands anywhere
standing_nowhere : (id n : ℕ) → held_count id (replicate n new_processor) ≡ 0
standing_nowhere id zero = refl
standing_nowhere id (suc n) = omega (arith, standing_nowhere id n)

placed_nowhere : (id n : ℕ) → placed_count id (replicate n []) ≡ 0
placed_nowhere id zero = refl
placed_nowhere id (suc n) = omega (arith, placed_nowhere id n)

-- of equals each place has the same, and beyond them too
pub same_everywhere : {X : Type 0} (x : X) (n i : ℕ) → get_or (replicate n x) i x ≡ x
same_everywhere x zero i = refl
same_everywhere x (suc n) zero = refl
same_everywhere x (suc n) (suc i) = same_everywhere x n i

-- a world of this many lobby that opens is tidy
pub opening_tidy : (n many : ℕ)
    → IsTidy n [] (record { processors = replicate n new_processor; inboxes = replicate n []; lobby = replicate many Absent; drawn = 0 })
opening_tidy n many =
    let w : World = record { processors = replicate n new_processor; inboxes = replicate n []; lobby = replicate many Absent; drawn = 0 } in
    let empty : (id : ℕ) → entry_of_id w id ≡ Absent = λ id. same_everywhere Absent many id in
    let rests : (processor : ℕ) → processor_at w processor ≡ new_processor = λ processor. same_everywhere new_processor n processor in
    record {
      many = length-replicate n new_processor;
      boxes = length-replicate n [];
      away = λ id. omega (arith, standing_nowhere id n, placed_nowhere id n, ap (λ s. as_number (is_away s)) (empty id));
      blocked = λ id t e. let none : Absent ≡ Sleeping t = sym (empty id) ∙ e in cc;
      hand = λ processor c e. let none : None ≡ Some c = sym (ap (λ (p : Processor). p.hand) (rests processor)) ∙ e in cc;
      present = λ processor. ap (λ (p : Processor). tally (unsuited n processor) (present_at p.running)) (rests processor);
      placed = λ processor. ap (λ ts. tally (unsuited n processor) ts) (same_everywhere [] n processor);
    }
