-- What is known where one holder has all parts: they are the world to which the history leads.
use Rattle.std.proofs.Common.{◌≡◌, ℕ, ◌+◌, ◌≤◌, cond, eqb, List, [], ◌∷◌, ◌++◌, map, refl, sym, ap, ◌∙◌, subst, arith}
use Rattle.bq_history.specs.Whole.{count, Each}
use Rattle.bq_history.proofs.MoveLemmas.{count-append}
use Rattle.bq_history.specs.Items.{part_item, parts_of}
use Rattle.bq_history.specs.History.{IsHistory}
use Rattle.bq_history.specs.Places.{times}
use Rattle.bq_history.proofs.OrderedLemmas.{times_turned}
use Rattle.bq_parts.specs.Processors.{Processor, new_processor}
use Rattle.bq_parts.specs.World.{World, opening_world}
use Rattle.bq_disc.specs.Tasks.{Task}
use Rattle.bq_disc.specs.Discipline.{Discipline}
use Rattle.bq_parts.specs.declared.lobby_entry.LobbyEntry.{LobbyEntry}
use Rattle.bq_shared.specs.Opened.{ItemOf}
use Rattle.bq_recording.specs.AllParts.{all_parts}
use Rattle.bq_shared.specs.Parts.{cpu_part, inbox_part, lobby_part, same_part, HasPart, RecordStep, journal_state_of}
use Rattle.bq_shared.specs.declared.world_part.WorldPart.{WorldPart}
use Rattle.bq_shared.specs.declared.journal_state.JournalState.{JournalState}
use Rattle.bq_shared.specs.declared.record.Record.{Record}
use Rattle.bq_shared.proofs.ReachedLemmas.{IsSound, reached_sound}
use Rattle.bq_shared.specs.declared.world_part.WorldPart.TheVariants as part

-- the parts of the items of some parts
pub parts_back : (ps : List WorldPart) → let l : List ItemOf = map part_item ps in parts_of l ≡ ps
parts_back [] = refl
parts_back (p ∷ ps) = ap (λ xs. p ∷ xs) (parts_back ps)

module _ {A B : Type 0} (f : A → WorldPart) (h : B → WorldPart) where
  -- the items of some parts and then of others are the items of all of them in this order
  items_two : (xs : List A) (ys : List B)
      → let l : List ItemOf = map (λ x. part_item (f x)) xs in
      let m : List ItemOf = map (λ y. part_item (h y)) ys in l ++ m ≡ map part_item (map f xs ++ map h ys)
  items_two [] [] = refl
  items_two [] (y ∷ ys) = ap (λ (zs : List ItemOf). part_item (h y) ∷ zs) (items_two [] ys)
  items_two (x ∷ xs) ys = ap (λ (zs : List ItemOf). part_item (f x) ∷ zs) (items_two xs ys)

  -- what a holder of the lobby has that got the others in this order
  pub gathered : (s : List LobbyEntry) (v u t : List ItemOf) (xs : List A) (ys : List B)
      → t ≡ part_item (lobby_part s) ∷ [] → u ≡ t ++ map (λ x. part_item (f x)) xs → v ≡ u ++ map (λ y. part_item (h y)) ys
      → v ≡ map part_item (all_parts s xs ys f h)
  gathered s v u t xs ys first second third =
      third ∙ (ap (λ (zs : List ItemOf). zs ++ map (λ y. part_item (h y)) ys)
      (second ∙ ap (λ (zs : List ItemOf). zs ++ map (λ x. part_item (f x)) xs) first)
      ∙ ap (λ (zs : List ItemOf). part_item (lobby_part s) ∷ zs) (items_two xs ys))

module _ {A : Type 0} (P : WorldPart → Type 0) (f : A → WorldPart) where
  -- what holds of all parts holds of those in front, of those behind them, and of a list by itself:
  each_first : (xs : List A) (ps : List WorldPart) → Each P (map f xs ++ ps) → Each (λ (x : A). P (f x)) xs
  each_first [] ps h = tt
  each_first (x ∷ xs) ps h = (h.0, each_first xs ps h.1)

  each_rest : (xs : List A) (ps : List WorldPart) → Each P (map f xs ++ ps) → Each P ps
  each_rest [] ps h = h
  each_rest (x ∷ xs) ps h = each_rest xs ps h.1

  each_only : (xs : List A) → Each P (map f xs) → Each (λ (x : A). P (f x)) xs
  each_only [] h = tt
  each_only (x ∷ xs) h = (h.0, each_only xs h.1)

module _ {A : Type 0} (number : A → ℕ) where
  -- the place of a processor, or of an inbox, is counted as often as its number is:
  cpus_counted : (s : ℕ) (p : Processor) (state : A → Processor) (xs : List A)
      → count (same_part (part.Cpu s p)) (map (λ (x : A). cpu_part (number x) (state x)) xs) ≡ count (λ (x : A). eqb s (number x)) xs
  cpus_counted s p state [] = refl
  cpus_counted s p state (x ∷ xs) = ap (λ (n : ℕ). cond {A = ℕ} (eqb s (number x)) 1 0 + n) (cpus_counted s p state xs)

  inboxes_counted : (s : ℕ) (i : List Task) (tasks : A → List Task) (xs : List A)
      → count (same_part (part.Inbox s i)) (map (λ (x : A). inbox_part (number x) (tasks x)) xs) ≡ count (λ (x : A). eqb s (number x)) xs
  inboxes_counted s i tasks [] = refl
  inboxes_counted s i tasks (x ∷ xs) = ap (λ (n : ℕ). cond {A = ℕ} (eqb s (number x)) 1 0 + n) (inboxes_counted s i tasks xs)

module _ {A B : Type 0} (s : List LobbyEntry) (xs : List A) (ys : List B) (at : A → ℕ) (state : A → Processor)
    (place : B → ℕ) (tasks : B → List Task) where
  -- the part of a processor with its number, and that of an inbox with its number:
  abbrev as_cpu : A → WorldPart
  as_cpu x = cpu_part (at x) (state x)

  abbrev as_inbox : B → WorldPart
  as_inbox y = inbox_part (place y) (tasks y)

  -- all parts of the world: the lobby, the processors, the inboxes
  abbrev pub parts : List WorldPart
  parts = all_parts s xs ys as_cpu as_inbox

  -- the world has each processor at its number
  pub cpus_there : (w : World) → Each (HasPart w) parts → Each (λ (x : A). HasPart w (as_cpu x)) xs
  cpus_there w h = each_first (HasPart w) as_cpu xs (map as_inbox ys) h.1

  -- the world has each inbox at its number
  pub inboxes_there : (w : World) → Each (HasPart w) parts → Each (λ (y : B). HasPart w (as_inbox y)) ys
  inboxes_there w h = each_only (HasPart w) as_inbox ys (each_rest (HasPart w) as_cpu xs (map as_inbox ys) h.1)

  -- no number is that of two processors
  pub cpus_few : ((p : WorldPart) → count (same_part p) parts ≤ 1) → (n : ℕ) → times at n xs ≤ 1
  cpus_few once n =
      let o = once (part.Cpu n new_processor) in
      let a = count-append (same_part (part.Cpu n new_processor)) (map as_cpu xs) (map as_inbox ys) in
      let b = cpus_counted at n new_processor state xs in
      let c = times_turned at n xs in
      omega (arith, o, a, b, c)

  -- no number is that of two inboxes
  pub inboxes_few : ((p : WorldPart) → count (same_part p) parts ≤ 1) → (n : ℕ) → times place n ys ≤ 1
  inboxes_few once n =
      let o = once (part.Inbox n []) in
      let a = count-append (same_part (part.Inbox n [])) (map as_cpu xs) (map as_inbox ys) in
      let b = inboxes_counted place n [] tasks ys in
      let c = times_turned place n ys in
      omega (arith, o, a, b, c)

  -- the world is what its parts make
  pub is_world : (w : World) (cs : List Processor) (is : List (List Task)) (drawn : ℕ)
      → Each (HasPart w) parts → cs ≡ w.processors → is ≡ w.inboxes → w.drawn ≡ drawn
      → record { processors = cs; inboxes = is; lobby = s; drawn = drawn } ≡ w
  is_world w cs is drawn h processors inboxes last =
      λ i. record { processors = processors i; inboxes = inboxes i; lobby = sym h.0 i; drawn = sym last i }

-- a holder of the items of some parts has no other items
pub parts_are : (v : List ItemOf) (ps : List WorldPart) → v ≡ map part_item ps → parts_of v ≡ ps
parts_are v ps is = ap (λ (l : List ItemOf). parts_of l) is ∙ parts_back ps

-- where all items are those of parts, they are the items of the parts that they hold
pub only_parts : (v : List ItemOf) (ps : List WorldPart) → v ≡ map part_item ps → v ≡ map part_item (parts_of v)
only_parts v ps is = is ∙ ap (λ (l : List WorldPart). map part_item l) (sym (parts_are v ps is))

-- no place is that of two of them
pub once_known : (v : List ItemOf) (ps : List WorldPart) → v ≡ map part_item ps
    → ((p : WorldPart) → count (same_part p) (parts_of v) ≤ 1)
    → (p : WorldPart) → count (same_part p) ps ≤ 1
once_known v ps is once p = subst (λ (l : List WorldPart). count (same_part p) l ≤ 1) (parts_are v ps is) (once p)

-- the world to which a history leads is in order, and has the parts
pub world_has_parts : (d : Discipline) (n setup : ℕ) (log : List Record) (v : List ItemOf) (ps : List WorldPart)
    (kept : JournalState)
    → setup ≡ n → v ≡ map part_item ps
    → ((w : World) × IsHistory (RecordStep d) (opening_world setup) log w × (journal_state_of w ≡ kept) × Each (HasPart w) (parts_of v))
    → (w : World) × IsHistory (RecordStep d) (opening_world n) log w × IsSound n w × (w.drawn ≡ kept.drawn) × Each (HasPart w) ps
world_has_parts d n setup log v ps kept same is k =
    let leads : IsHistory (RecordStep d) (opening_world n) log k.0 =
    subst (λ (m : ℕ). IsHistory (RecordStep d) (opening_world m) log k.0) same k.1 in (
      k.0,
      leads,
      reached_sound d n k.0 (log, leads),
      ap (λ (x : JournalState). x.drawn) k.2,
      subst (λ (l : List WorldPart). Each (HasPart k.0) l) (parts_are v ps is) k.3,
    )
