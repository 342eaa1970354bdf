-- Which places hold the same word. Places 0 to 10 are the registers; from 11 on they are the slots of eight bytes of the stack.
use Rattle.std.specs.Prelude.{◌≡◌, ◌≢◌, ℕ, ◌+◌, ◌*◌, ◌^◌, ◌<◌, ◌≤◌, ◌⊎◌, List, Option, Some, slice_index}
use Rattle.std.specs.Int.{byte_at}
use Rattle.bq_bpf.specs.Memory.{State}
use Rattle.bq_states.specs.declared.relations.Related.{Related}
use Rattle.bq_states.specs.Relations.{AreRelated}

-- the place holds the word
abbrev pub HasWord : State → ℕ → ℕ → Type 0
HasWord s p n = (p < 11 → s.register p ≡ Some n) × ((j : ℕ) → p ≡ 11 + j → (n < 2 ^ 64) × ((i : ℕ) → i < 8 → s.stack (8 * j + i) ≡ Some (byte_at i n)))

-- all places of a class other than 0 hold the word of their class
abbrev pub HaveWords : List ℕ → State → (ℕ → ℕ) → Type 0
HaveWords classes s word = (p : ℕ) → slice_index classes p ≢ 0 → HasWord s p (word (slice_index classes p))

-- there is a word for each class that all its places hold, and these words are related as the list says
abbrev pub AreCopies : List ℕ → List (Option Related) → State → Type 0
AreCopies classes related s = (word : ℕ → ℕ) × HaveWords classes s word × AreRelated word related

-- the classes and relations are right about the state, and the place holds the word of this class
abbrev pub HoldsClass : List ℕ → List (Option Related) → State → ℕ → ℕ → Type 0
HoldsClass classes related s place class = (copies : AreCopies classes related s) × HasWord s place (copies.0 class)

-- in each state about which the old classes and relations are right, and in which the place holds a word, the new ones
-- are right, the place holds the word of this class, and the word of class `beside` is as before
abbrev pub GivesClass : List ℕ → List (Option Related) → List ℕ → List (Option Related) → ℕ → ℕ → ℕ → Type 0
GivesClass old_classes old_related new_classes new_related place beside class =
    (s : State) (n : ℕ) (was : AreCopies old_classes old_related s) → HasWord s place n → (is : HoldsClass new_classes new_related s place class) × (is.0.0 beside ≡ was.0 beside)

-- the new classes and relations are right about each state about which the old ones are, if place `from` holds a word
-- there, and place `to` holds every word that `from` holds
abbrev pub LinksPlaces : List ℕ → List (Option Related) → List ℕ → List (Option Related) → ℕ → ℕ → Type 0
LinksPlaces old_classes old_related new_classes new_related to from =
    (s : State) (n : ℕ) → AreCopies old_classes old_related s → HasWord s from n → ((m : ℕ) → HasWord s from m → HasWord s to m) → AreCopies new_classes new_related s

-- each place keeps its class or has none now
abbrev pub KeepsClasses : List ℕ → List ℕ → Type 0
KeepsClasses old new = (p : ℕ) → slice_index new p ≢ 0 → slice_index new p ≡ slice_index old p

-- registers 0 to 5 have no class now, and every other place keeps its class or has none
abbrev pub ForgetsFirstClasses : List ℕ → List ℕ → Type 0
ForgetsFirstClasses old new = (p : ℕ) → slice_index new p ≢ 0 → (6 ≤ p) × (slice_index new p ≡ slice_index old p)

-- slots with a byte from `from` up to `to` have no class now, and every other place keeps its class or has none
abbrev pub ForgetsSlotClasses : List ℕ → List ℕ → ℕ → ℕ → Type 0
ForgetsSlotClasses old new from to = (p : ℕ) → slice_index new p ≢ 0 → (slice_index new p ≡ slice_index old p) × ((j : ℕ) → p ≡ 11 + j → (8 * j + 8 ≤ from) ⊎ (to ≤ 8 * j))
