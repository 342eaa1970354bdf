-- One more word of those that make their steps one after another, and a word that makes no step.
use Rattle.std.proofs.Common.{◌≡◌, ℕ, zero, suc, ◌+◌, ◌<◌, ◌≤◌, List, [], ◌∷◌, length, get_or, drop, drop-cons, add-one, refl, sym, subst, ap, ◌∙◌, arith}
use Rattle.std.proofs.lemmas.List.{drop_all}
use Rattle.bq_console.specs.declared.fault.WordsFault.{WordsFault}
use Rattle.bq_console.specs.declared.fault.WordsFault.TheVariants.{Words, OutOfMemory}
use Rattle.bq_console.specs.Words.{GivesNone}
use Rattle.bq_policy_run.specs.Naming.{InTurn}

-- what is left leads on from there
abbrev pub LeadsOn : {W S : Type 0} → (W → S → S → Type 0) → List W → ℕ → S → S → Type 0
LeadsOn {W} {S} step words i first now = (last : S) → InTurn step (drop i words) now last → InTurn step words first last

-- where the next word makes its step, the words behind it lead on from there
pub turn_more : {W S : Type 0} (step : W → S → S → Type 0) (words : List W) (i : ℕ) (d : W) (first now next : S)
    → i < length words → step (get_or words i d) now next → LeadsOn step words i first now
    → LeadsOn step words (i + 1) first next
turn_more {W} {S} step words i d first now next h made all last rest =
    let cons : drop i words ≡ get_or words i d ∷ drop (i + 1) words =
    drop-cons words i d h ∙ ap (λ (k : ℕ). get_or words i d ∷ drop k words) (sym (add-one i)) in
    all last (subst (λ (ws : List W). InTurn step ws now last) (sym cons) (next, made, rest))

-- where no word is left all have made their steps
pub turn_all : {W S : Type 0} (step : W → S → S → Type 0) (words : List W) (i : ℕ) (first now : S)
    → length words ≤ i → LeadsOn step words i first now → InTurn step words first now
turn_all {W} {S} step words i first now h all =
    all now (subst (λ (ws : List W). InTurn step ws now now) (sym (drop_all i words h)) refl)

-- a step leaves what is seen of the state, and can be made wherever the same is seen
pub record IsSeen {W S V : Type 0} (step : W → S → S → Type 0) (seen : S → V) : Type 0 where
  pub keeps : (word : W) (before after : S) → step word before after → seen after ≡ seen before
  pub moves : (word : W) (before after other : S) → step word before after → seen other ≡ seen before → (next : S) × step word other next

-- steps by words one after another leave what is seen of the state, and can be made wherever the same is seen
pub turns_seen : {W S V : Type 0} (step : W → S → S → Type 0) (seen : S → V) → IsSeen step seen → IsSeen (InTurn step) seen
turns_seen {W} {S} step seen is = record { keeps = kept; moves = moved }
  where
    kept : (words : List W) (before after : S) → InTurn step words before after → seen after ≡ seen before
    kept [] before after same = ap seen same
    kept (word ∷ words) before after (between, made, rest) = kept words between after rest ∙ is.keeps word before between made

    moved : (words : List W) (before after other : S) → InTurn step words before after → seen other ≡ seen before
        → (next : S) × InTurn step words other next
    moved [] before after other same e = (other, refl)
    moved (word ∷ words) before after other (between, made, rest) e =
        let first = is.moves word before between other made e in
        let more =
        moved words between after first.0 rest
        (is.keeps word other first.0 first.1 ∙ e ∙ sym (is.keeps word before between made)) in
        (more.0, (first.0, first.1, more.1))

-- of words that make their steps each can make its own wherever the same is seen
pub turn_reached : {W S V : Type 0} (step : W → S → S → Type 0) (seen : S → V)
    → IsSeen step seen → (words : List W) (i : ℕ) (d : W) (first last now : S) → InTurn step words first last
    → i < length words → seen now ≡ seen first
    → (next : S) × step (get_or words i d) now next
turn_reached step seen is [] i d first last now turns h e = absurd (omega arith)
turn_reached step seen is (word ∷ words) zero d first last now (between, made, rest) h e = is.moves word first between now made e
turn_reached step seen is (word ∷ words) (suc i) d first last now (between, made, rest) h e =
    turn_reached step seen is words i d between last now rest (omega arith) (e ∙ sym (is.keeps word first between made))

-- where one of the words is refused, for it makes no step, they are refused in turn
pub turn_refused : {W S V : Type 0} (step : W → S → S → Type 0) (seen : S → V)
    → IsSeen step seen → (words : List W) (i : ℕ) (d : W) (first now : S) (e : WordsFault) → i < length words
    → seen now ≡ seen first → GivesNone (step (get_or words i d) now) e
    → GivesNone (InTurn step words first) e
turn_refused step seen is words i d first now (Words why) h same none =
    λ last turns. let reached = turn_reached step seen is words i d first last now turns h same in none reached.0 reached.1
turn_refused step seen is words i d first now OutOfMemory h same none = tt
