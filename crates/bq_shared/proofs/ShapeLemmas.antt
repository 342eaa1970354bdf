-- The share of an event in the parts that it touches is a step of the world, and leaves the other parts.
use Rattle.std.proofs.Common.{◌≡◌, ◌≢◌, ℕ, ◌<◌, List, [], ◌∷◌, length, Bool, true, cond, eqb, eq-eqb, refl, ap, ◌∙◌, arith}
use Rattle.std.proofs.lemmas.List.{length-set, get_or-set_same, get_or-set_other}
use Rattle.bq_history.specs.Whole.{count}
use Rattle.bq_history.specs.Items.{MayCommit}
use Rattle.bq_disc.specs.Tasks.{Task}
use Rattle.bq_disc.specs.Discipline.{Discipline}
use Rattle.bq_parts.specs.declared.lobby_entry.LobbyEntry.{LobbyEntry}
use Rattle.bq_parts.specs.Processors.{Processor, new_processor}
use Rattle.bq_parts.specs.World.{World, opening_world, processor_at, inbox, count_in, with_processor, with_inbox}
use Rattle.bq_shared.specs.declared.journal_state.JournalState.{JournalState}
use Rattle.bq_shared.specs.declared.world_part.WorldPart.{WorldPart}
use Rattle.bq_shared.specs.declared.world_part.WorldPart.TheVariants as part
use Rattle.bq_shared.specs.declared.record.Record.{Record}
use Rattle.bq_shared.specs.Parts.{RecordStep, cpu_part, inbox_part, lobby_part, same_part, HasPart, journal_state_of}
use Rattle.bq_shared.proofs.ReachedLemmas.{IsSound, reached_sound}

-- a part is at the same place as itself
same_self : (x : WorldPart) → same_part x x ≡ true
same_self (part.Cpu c p) = eq-eqb c c refl
same_self (part.Inbox c i) = eq-eqb c c refl
same_self (part.Lobby l) = refl

-- a number that is not counted as c is not c
apart : (d c : ℕ) → cond {A = ℕ} (eqb d c) 1 0 ≡ 0 → d ≢ c
apart d c none e = let one : cond {A = ℕ} (eqb d c) 1 0 ≡ 1 = ap (λ (b : Bool). cond {A = ℕ} b 1 0) (eq-eqb d c e) in omega arith

-- a processor that was written is there, and is what was written
pub written_is_there : (w : World) (c : ℕ) (q : Processor) → c < count_in w
    → (c < count_in (with_processor w c q)) × (processor_at (with_processor w c q) c ≡ q)
written_is_there w c q l = (rw length-set l, get_or-set_same w.processors c q new_processor l)

-- where another processor was written, a processor is there as before
pub others_are_as_before : (w : World) (c d : ℕ) (q r : Processor)
    → d ≢ c → (d < count_in w) × (processor_at w d ≡ r)
    → (d < count_in (with_processor w c q)) × (processor_at (with_processor w c q) d ≡ r)
others_are_as_before w c d q r n f = (rw length-set f.0, get_or-set_other w.processors c d q new_processor n ∙ f.1)

module _ (d : Discipline) (n : ℕ) where
  -- what a commit asks, of the world
  abbrev pub MayCommitHere : JournalState → List WorldPart → Record → JournalState → List WorldPart → Type 0
  MayCommitHere = MayCommit (RecordStep d) (opening_world n) journal_state_of same_part HasPart

  -- a step that moves no part may be committed, where it is a step of each world that can be reached
  pub moves_none : (g : ℕ) (k m : JournalState) (e : Record)
      → ((w : World) → IsSound n w → journal_state_of w ≡ k → RecordStep d w e (record w { drawn = g }) × (journal_state_of (record w { drawn = g }) ≡ m))
      → MayCommitHere k [] e m []
  moves_none g k m e steps = record {
    itself = same_self;
    as_many = λ x. refl;
    commits = λ w reached kw h.
        let s = steps w (reached_sound d n w reached) kw in
        (record w { drawn = g }, record { steps = s.0; keeps = s.1; has = tt; elsewhere = others w });
  }
    where
      others : (w : World) (x : WorldPart) → count (same_part x) [] ≡ 0 → HasPart w x → HasPart (record w { drawn = g }) x
      others w (part.Cpu b r) none f = f
      others w (part.Inbox b j) none f = f
      others w (part.Lobby o) none f = f

  -- so may a step that moves only the lobby
  pub moves_lobby : (l m : List LobbyEntry) (k : JournalState) (e : Record)
      → ((w : World) → IsSound n w → w.lobby ≡ l → RecordStep d w e (record w { lobby = m }))
      → MayCommitHere k (lobby_part l ∷ []) e k (lobby_part m ∷ [])
  moves_lobby l m k e steps = record {
    itself = same_self;
    as_many = counts;
    commits = λ w reached kw h. (
      record w { lobby = m },
      record { steps = steps w (reached_sound d n w reached) h.0; keeps = kw; has = (refl, tt); elsewhere = others w },
    );
  }
    where
      counts : (x : WorldPart) → count (same_part x) (lobby_part m ∷ []) ≡ count (same_part x) (lobby_part l ∷ [])
      counts (part.Cpu b r) = refl
      counts (part.Inbox b j) = refl
      counts (part.Lobby o) = refl

      others : (w : World) (x : WorldPart) → count (same_part x) (lobby_part l ∷ []) ≡ 0 → HasPart w x → HasPart (record w { lobby = m }) x
      others w (part.Cpu b r) none f = f
      others w (part.Inbox b j) none f = f
      others w (part.Lobby o) none f = absurd (omega arith)

  -- so may a step that moves only one processor
  pub moves_cpu : (c : ℕ) (p q : Processor) (k m : JournalState) (e : Record)
      → ((w : World) → IsSound n w → journal_state_of w ≡ k → c < count_in w → processor_at w c ≡ p →
      RecordStep d w e (with_processor w c q) × (journal_state_of (with_processor w c q) ≡ m))
      → MayCommitHere k (cpu_part c p ∷ []) e m (cpu_part c q ∷ [])
  moves_cpu c p q k m e steps = record {
    itself = same_self;
    as_many = counts;
    commits = λ w reached kw h.
        let s = steps w (reached_sound d n w reached) kw h.0.0 h.0.1 in
        (with_processor w c q, record { steps = s.0; keeps = s.1; has = (written_is_there w c q h.0.0, tt); elsewhere = others w });
  }
    where
      counts : (x : WorldPart) → count (same_part x) (cpu_part c q ∷ []) ≡ count (same_part x) (cpu_part c p ∷ [])
      counts (part.Cpu b r) = refl
      counts (part.Inbox b j) = refl
      counts (part.Lobby o) = refl

      others : (w : World) (x : WorldPart) → count (same_part x) (cpu_part c p ∷ []) ≡ 0 → HasPart w x → HasPart (with_processor w c q) x
      others w (part.Cpu b r) none f = others_are_as_before w c b q r (apart b c (omega arith)) f
      others w (part.Inbox b j) none f = f
      others w (part.Lobby o) none f = f

  -- so may a step that moves one processor and the lobby
  pub moves_cpu_lobby : (c : ℕ) (p q : Processor) (l o : List LobbyEntry) (k m : JournalState) (e : Record)
      → ((w : World) → IsSound n w → journal_state_of w ≡ k → c < count_in w → processor_at w c ≡ p → w.lobby ≡ l →
      RecordStep d w e (record (with_processor w c q) { lobby = o }) × (journal_state_of (with_processor w c q) ≡ m))
      → MayCommitHere k (cpu_part c p ∷ lobby_part l ∷ []) e m (cpu_part c q ∷ lobby_part o ∷ [])
  moves_cpu_lobby c p q l o k m e steps = record {
    itself = same_self;
    as_many = counts;
    commits = λ w reached kw h.
        let s = steps w (reached_sound d n w reached) kw h.0.0 h.0.1 h.1.0 in (
          record (with_processor w c q) { lobby = o },
          record { steps = s.0; keeps = s.1; has = (written_is_there w c q h.0.0, (refl, tt)); elsewhere = others w },
        );
  }
    where
      counts : (x : WorldPart)
          → count (same_part x) (cpu_part c q ∷ lobby_part o ∷ []) ≡ count (same_part x) (cpu_part c p ∷ lobby_part l ∷ [])
      counts (part.Cpu b r) = refl
      counts (part.Inbox b j) = refl
      counts (part.Lobby z) = refl

      others : (w : World) (x : WorldPart) → count (same_part x) (cpu_part c p ∷ lobby_part l ∷ []) ≡ 0 → HasPart w x
          → HasPart (record (with_processor w c q) { lobby = o }) x
      others w (part.Cpu b r) none f = others_are_as_before w c b q r (apart b c (omega arith)) f
      others w (part.Inbox b j) none f = f
      others w (part.Lobby z) none f = absurd (omega arith)

  -- so may a step that moves one processor and an inbox
  pub moves_cpu_inbox : (c b : ℕ) (p q : Processor) (xs ys : List Task) (k m : JournalState) (e : Record) →
      ((w : World) → IsSound n w → journal_state_of w ≡ k → c < count_in w → processor_at w c ≡ p → b < length w.inboxes → inbox w b ≡ xs →
      RecordStep d w e (with_inbox (with_processor w c q) b ys) × (journal_state_of (with_inbox (with_processor w c q) b ys) ≡ m)) →
      MayCommitHere k (cpu_part c p ∷ inbox_part b xs ∷ []) e m (cpu_part c q ∷ inbox_part b ys ∷ [])
  moves_cpu_inbox c b p q xs ys k m e steps = record {
    itself = same_self;
    as_many = counts;
    commits = λ w reached kw h.
        let s = steps w (reached_sound d n w reached) kw h.0.0 h.0.1 h.1.0.0 h.1.0.1 in (
          with_inbox (with_processor w c q) b ys,
          record {
            steps = s.0;
            keeps = s.1;
            has = (written_is_there w c q h.0.0, ((rw length-set h.1.0.0, get_or-set_same w.inboxes b ys [] h.1.0.0), tt));
            elsewhere = others w;
          },
        );
  }
    where
      counts : (x : WorldPart)
          → count (same_part x) (cpu_part c q ∷ inbox_part b ys ∷ []) ≡ count (same_part x) (cpu_part c p ∷ inbox_part b xs ∷ [])
      counts (part.Cpu a r) = refl
      counts (part.Inbox a j) = refl
      counts (part.Lobby z) = refl

      others : (w : World) (x : WorldPart) → count (same_part x) (cpu_part c p ∷ inbox_part b xs ∷ []) ≡ 0 → HasPart w x
          → HasPart (with_inbox (with_processor w c q) b ys) x
      others w (part.Cpu a r) none f = others_are_as_before w c a q r (apart a c (omega arith)) f
      others w (part.Inbox a j) none f = (rw length-set f.0, get_or-set_other w.inboxes b a ys [] (apart a b (omega arith)) ∙ f.1)
      others w (part.Lobby z) none f = f

  -- so may a step that moves two processors
  pub moves_two_cpus : (c b : ℕ) (p q o r : Processor) (k m : JournalState) (e : Record) → c ≢ b →
      ((w : World) → IsSound n w → journal_state_of w ≡ k → c < count_in w → processor_at w c ≡ p → b < count_in w → processor_at w b ≡ o →
      RecordStep d w e (with_processor (with_processor w c q) b r) × (journal_state_of (with_processor (with_processor w c q) b r) ≡ m)) →
      MayCommitHere k (cpu_part c p ∷ cpu_part b o ∷ []) e m (cpu_part c q ∷ cpu_part b r ∷ [])
  moves_two_cpus c b p q o r k m e two steps = record {
    itself = same_self;
    as_many = counts;
    commits = λ w reached kw h.
        let s = steps w (reached_sound d n w reached) kw h.0.0 h.0.1 h.1.0.0 h.1.0.1 in
        let u = with_processor w c q in
        let there : b < count_in u = rw length-set h.1.0.0 in (
          with_processor u b r,
          record {
            steps = s.0;
            keeps = s.1;
            has = (others_are_as_before u b c r q two (written_is_there w c q h.0.0), (written_is_there u b r there, tt));
            elsewhere = others w;
          },
        );
  }
    where
      counts : (x : WorldPart)
          → count (same_part x) (cpu_part c q ∷ cpu_part b r ∷ []) ≡ count (same_part x) (cpu_part c p ∷ cpu_part b o ∷ [])
      counts (part.Cpu a z) = refl
      counts (part.Inbox a j) = refl
      counts (part.Lobby z) = refl

      others : (w : World) (x : WorldPart) → count (same_part x) (cpu_part c p ∷ cpu_part b o ∷ []) ≡ 0 → HasPart w x
          → HasPart (with_processor (with_processor w c q) b r) x
      others w (part.Cpu a z) none f =
          others_are_as_before (with_processor w c q) b a r z (apart a b (omega arith))
          (others_are_as_before w c a q z (apart a c (omega arith)) f)
      others w (part.Inbox a j) none f = f
      others w (part.Lobby z) none f = f
