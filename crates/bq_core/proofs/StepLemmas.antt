-- From what the code computes to steps of the world: the parts that it borrows and writes back.
use Rattle.std.proofs.Common.{◌≡◌, ℕ, ◌<◌, ◌++◌, false, List, [], length, get_or, take, drop, Option, Some, None, refl, ap, sym, ◌∙◌, append-nil, arith, inl}
use Rattle.std.specs.Prelude.{Err, nat_le, is_none}
use Rattle.std.specs.Option.{option_map}
use Rattle.std.proofs.lemmas.Bool.Decides.{nat_tests}
use Rattle.std.proofs.lemmas.List.{drop_all, get_or_read, take_all}
use Rattle.bq_disc.specs.Tasks.{Task}
use Rattle.bq_disc.specs.Discipline.{Discipline}
use Rattle.bq_parts.specs.declared.event.Event.TheVariants.{Block}
use Rattle.bq_parts.specs.declared.refusal.Refusal.TheVariants as no
use Rattle.bq_parts.specs.declared.lobby_entry.LobbyEntry.{LobbyEntry}
use Rattle.bq_parts.specs.Processors.{Processor, new_processor}
use Rattle.bq_parts.specs.World.{World, processor_at, inbox, count_in, with_processor, with_inbox, with_lobby}
use Rattle.bq_parts.specs.Choices.{by_programs}
use Rattle.bq_parts.specs.Shares.{after_time}
use Rattle.bq_parts.specs.Steps.{WorldStep}

-- what is borrowed of the parts of a world, which are v
module _ {v w : World} (view : v ≡ w) where
  -- a processor's number is in range of the parts
  pub in_range : {i processor len : ℕ} → i ≡ processor → len ≡ length v.processors → processor < count_in w → i < len
  in_range e f h = rw (e, f, ap (λ (u : World). length u.processors) view) h

  -- a processor's number is in range of the inboxes
  pub inbox_in_range : {i processor len : ℕ} → i ≡ processor → len ≡ length v.inboxes → length v.processors ≡ length v.inboxes
      → processor < count_in w
      → i < len
  inbox_in_range e f same h = rw (e, f, ← same, ap (λ (u : World). length u.processors) view) h

  -- a number of the parts' processors is that of the world's
  pub counted : {n : ℕ} → n ≡ length v.processors → n ≡ count_in w
  counted e = e ∙ ap (λ (u : World). length u.processors) view

  -- the processors that were lent
  pub lent : {ps : List Processor} → ps ≡ v.processors → ps ≡ w.processors
  lent e = e ∙ ap (λ (u : World). u.processors) view

  -- the processor that was borrowed by its number
  pub borrowed : {i processor : ℕ} {p : Processor} → i ≡ processor → processor < count_in w → p ≡ get_or v.processors i p
      → p ≡ processor_at w processor
  borrowed {i} {processor} {p} e inside at =
      get_or_read w.processors processor p inside
      (at ∙ ap (λ (u : World). get_or u.processors i p) view ∙ ap (λ (n : ℕ). get_or w.processors n p) e) new_processor

  -- an inbox is there where the processor is
  pub inbox_there : {to : ℕ} → length v.processors ≡ length v.inboxes → to < count_in w → to < length w.inboxes
  inbox_there same h = rw (sym (ap (λ (u : World). length u.inboxes) view) ∙ sym same ∙ ap (λ (u : World). length u.processors) view) h

  -- the inbox that was borrowed by its number is the world's
  pub borrowed_inbox : {i to : ℕ} {xs : List Task} → i ≡ to → to < length w.inboxes → xs ≡ get_or v.inboxes i xs → xs ≡ inbox w to
  borrowed_inbox {i} {to} {xs} e inside at =
      get_or_read w.inboxes to xs inside (at ∙ ap (λ (u : World). get_or u.inboxes i xs) view ∙ ap (λ (n : ℕ). get_or w.inboxes n xs) e) []

  -- the lobby has an entry for each id
  pub lobby_whole : length v.lobby ≡ 1024 → length w.lobby ≡ 1024
  lobby_whole h = ap (λ (u : World). length u.lobby) (sym view) ∙ h

-- a processor's number that is in range is not refused
pub in_range_not_refused : (w : World) (processor : ℕ) → processor < count_in w → nat_le (count_in w) processor ≡ false
in_range_not_refused w processor h = grind (arith, nat_tests)

-- a processor that was written back
pub write_back_processor : (v w : World) (i processor : ℕ) (q : Processor)
    → v ≡ w → i ≡ processor → with_processor v i q ≡ with_processor w processor q
write_back_processor v w i processor q e f = rw (e, f) refl

-- a list of as many items that is written over the whole of another one
pub written_over : {X : Type 0} (xs ys : List X) (n : ℕ) → n ≡ length xs → length ys ≡ length xs → take n (ys ++ drop (length ys) xs) ≡ ys
written_over xs ys n e f =
    let gone : drop (length ys) xs ≡ [] = drop_all (length ys) xs (omega arith) in
    rw (gone, append-nil) (take_all n ys (omega arith))

-- the processors that were all written back
pub write_back_processors : (v w : World) (n : ℕ) (ps qs : List Processor)
    → v ≡ w → n ≡ length ps → length qs ≡ length ps
    → record v { processors = take n (qs ++ drop (length qs) ps) } ≡ record w { processors = qs }
write_back_processors v w n ps qs e f h =
    ap (λ (u : World). record u { processors = take n (qs ++ drop (length qs) ps) }) e
    ∙ ap (λ (xs : List Processor). record w { processors = xs }) (written_over ps qs n f h)

-- a processor and its inbox that were written back
pub write_back_both : (v w : World) (i j processor : ℕ) (x q : Processor) (xs ys : List Task)
    → v ≡ w → i ≡ processor → j ≡ processor → x ≡ q → xs ≡ ys
    → with_inbox (with_processor v i x) j xs ≡ with_inbox (with_processor w processor q) processor ys
write_back_both v w i j processor x q xs ys e f h k l = rw (e, f, h, k, l) refl

-- a processor and the lobby that were written back
pub write_back_lobby : (v w : World) (i processor : ℕ) (q : Processor) (lobby : List LobbyEntry)
    → v ≡ w → i ≡ processor
    → with_lobby (with_processor v i q) lobby ≡ with_lobby (with_processor w processor q) lobby
write_back_lobby v w i processor q lobby e f = rw (e, f) refl

-- a processor and another's inbox that were written back
pub write_back_inbox : (v w : World) (i processor j to : ℕ) (x q : Processor) (xs ys : List Task)
    → v ≡ w → i ≡ processor → j ≡ to → x ≡ q → xs ≡ ys
    → with_inbox (with_processor v i x) j xs ≡ with_inbox (with_processor w processor q) to ys
write_back_inbox v w i processor j to x q xs ys e f h k l = rw (e, f, h, k, l) refl

-- a task runs after its time has passed exactly where one ran before
pub still_runs : (d : Discipline) (w : World) (processor now : ℕ) (t : Task)
    → Some t ≡ (after_time d now (processor_at w processor)).running.current
    → is_none (processor_at w processor).running.current ≡ false
still_runs d w processor now t h =
    let at : (o : Option Task) (f : Task → Task) → Some t ≡ option_map f o → is_none o ≡ false =
    elim [ None ↦ λ f k. (cc) | Some s ↦ λ f k. refl ] in
    at (processor_at w processor).running.current _ h

-- a block where nothing runs is refused, and the world stays as it was
pub block_idle : (d : Discipline) (w : World) (processor now : ℕ)
    → processor < count_in w → (processor_at w processor).running.current ≡ None
    → WorldStep (by_programs d) w (Block processor now) [] (Err no.Idle) w
block_idle d w processor now h e = (refl, refl, inl (rw (in_range_not_refused w processor h, e) refl))
