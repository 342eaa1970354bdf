-- Places that hold one word stay so until they are written.
use Rattle.std.proofs.Common.{ap, ◌≡◌, ◌≢◌, ℕ, suc, ◌+◌, ◌*◌, ◌<◌, ◌≤◌, Bool, true, false, List, Option, Some, None, length, get_or, set, refl, sym, subst, arith, ◌∙◌, get_or-set_same, get_or-set_other, length-set, eqb, ◌⊎◌, inl, inr, cond, ◌^◌}
use Rattle.std.specs.Prelude.{slice_index, slice_set}
use Rattle.std.specs.Int.{byte_at as byte_of, bytes_low_first}
use Rattle.std.proofs.lemmas.Bool.{cases_lt}
use Rattle.std.proofs.lemmas.Bool.Decides.{eqb_tells, leb_tells}
use Rattle.std.proofs.lemmas.List.{get_or_past}
use Rattle.std.proofs.lemmas.Option.{same_Some}
use Rattle.bq_bpf.specs.Memory.{State, InStack, number_of, written}
use Rattle.bq_bpf.specs.Steps.{called, next, put}
use Rattle.bq_states.specs.declared.relations.Related.{Related}
use Rattle.bq_states.specs.Copies.{AreCopies, HasWord, HaveWords, HoldsClass, KeepsClasses, ForgetsFirstClasses, ForgetsSlotClasses}
use Rattle.bq_states.specs.Relations.{AreRelated}
use Rattle.bq_states.proofs.StoreLemmas.{apart_byte}

-- each place of a class in the one list and state is of it in the other, and holds what it held
abbrev Moves : List ℕ → List ℕ → State → State → Type 0
Moves old new s t = (p : ℕ) → slice_index new p ≢ 0 → (slice_index new p ≡ slice_index old p) × ((n : ℕ) → HasWord s p n → HasWord t p n)

-- the classes of places that keep their class and their word have their words as before
pub words_moved : (old new : List ℕ) (s t : State) (word : ℕ → ℕ) → Moves old new s t → HaveWords old s word → HaveWords new t word
words_moved old new s t word keeps have p some =
    let kept = keeps p some in
    let was : slice_index old p ≢ 0 = λ e. some (kept.0 ∙ e) in
    kept.1 (word (slice_index new p)) (subst (λ (k : ℕ). HasWord s p (word k)) (sym kept.0) (have p was))

-- places that keep their class and their word are copies as before
pub copies_moved : (old new : List ℕ) (related : List (Option Related)) (s t : State)
    → Moves old new s t → AreCopies old related s → AreCopies new related t
copies_moved old new related s t keeps copies = (copies.0, words_moved old new s t copies.0 keeps copies.1, copies.2)

-- if each place keeps its class or loses it, the places of a class are still copies
pub copies_kept : (old new : List ℕ) (related : List (Option Related)) (s : State)
    → KeepsClasses old new → AreCopies old related s → AreCopies new related s
copies_kept old new related s keeps copies = copies_moved old new related s s (λ p some. (keeps p some, λ n h. h)) copies

-- a place whose class was set to 0 has class 0, also past the end of the list
zero_at : (xs : List ℕ) (d : ℕ) → (d < length xs) ⊎ (length xs ≤ d) → get_or (set xs d 0) d 0 ≡ 0
zero_at xs d (inl lt) = get_or-set_same xs d 0 0 lt
zero_at xs d (inr past) = get_or_past (set xs d 0) d 0 (rw length-set past)

-- a place that has a class after place d lost its own is not d and keeps its class, by whether it is d
parted_by : (xs : List ℕ) (d p : ℕ) (b : Bool) → ((b ≡ true) × (p ≡ d)) ⊎ ((b ≡ false) × (p ≢ d))
    → get_or (set xs d 0) p 0 ≢ 0
    → (p ≢ d) × (get_or (set xs d 0) p 0 ≡ get_or xs p 0)
parted_by xs d p b (inl (_, same)) some =
    absurd (some (subst (λ (k : ℕ). get_or (set xs d 0) k 0 ≡ 0) (sym same) (zero_at xs d (cases_lt d (length xs)))))
parted_by xs d p b (inr (_, other)) some = (other, get_or-set_other xs d p 0 0 other)

-- a place that has a class after place d lost its own is not d, and keeps its class
pub written_has_no_class : (xs : List ℕ) (d p : ℕ) → slice_index (slice_set xs d 0) p ≢ 0
    → (p ≢ d) × (slice_index (slice_set xs d 0) p ≡ slice_index xs p)
written_has_no_class xs d p some = parted_by xs d p _ (eqb_tells p d) some

-- a write to register `d` leaves the words of other registers
pub register_put : (register : ℕ → Option ℕ) (p d v : ℕ) (b : Bool)
    → ((b ≡ true) × (p ≡ d)) ⊎ ((b ≡ false) × (p ≢ d)) → p ≢ d → cond b (Some v) (register p) ≡ register p
register_put register p d v b (inl (_, same)) other = absurd (other same)
register_put register p d v b (inr (e, _)) other = rw e refl

-- a register is written: the other places of the classes keep their words
pub words_put : (classes : List ℕ) (s : State) (slots d v : ℕ) (word : ℕ → ℕ)
    → HaveWords classes s word → HaveWords (slice_set classes d 0) (put s slots d v) word
words_put classes s slots d v word have =
    words_moved classes (slice_set classes d 0) s (put s slots d v) word
    (λ p some.
    let kept = written_has_no_class classes d p some in
    (kept.1, λ n h. (λ lt. register_put s.register p d v _ (eqb_tells p d) kept.0 ∙ h.0 lt, h.1))) have

-- a register is written: the places of the classes are still copies, and the classes related
pub copies_put : (classes : List ℕ) (related : List (Option Related)) (s : State) (slots d v : ℕ)
    → AreCopies classes related s → AreCopies (slice_set classes d 0) related (put s slots d v)
copies_put classes related s slots d v copies = (copies.0, words_put classes s slots d v copies.0 copies.1, copies.2)

-- a register of which more is known is counted as written
pub copies_learnt : (classes : List ℕ) (related : List (Option Related)) (s : State) (d : ℕ)
    → AreCopies classes related s → AreCopies (slice_set classes d 0) related s
copies_learnt classes related s d copies =
    copies_kept classes (slice_set classes d 0) related s (λ p some. (written_has_no_class classes d p some).1) copies

-- a register from 6 on keeps its word in a call, by the tests for register 0 and for those below 6
register_called : (register : ℕ → Option ℕ) (p answer : ℕ) (b c : Bool)
    → ((b ≡ true) × (p ≡ 0)) ⊎ ((b ≡ false) × (p ≢ 0)) → ((c ≡ true) × (suc p ≤ 6)) ⊎ ((c ≡ false) × (6 < suc p)) → 6 ≤ p
    → cond b (Some answer) (cond c None (register p)) ≡ register p
register_called register p answer b c (inl (_, same)) q above = absurd (omega arith)
register_called register p answer b c (inr (e, _)) (inl (_, low)) above = absurd (omega arith)
register_called register p answer b c (inr (e, _)) (inr (e', _)) above = rw (e, e') refl

-- after a call, places that kept their class are still copies, if places 0 to 5 lost theirs
pub copies_called : (old parts : List ℕ) (related : List (Option Related)) (s : State) (answer : ℕ)
    → ForgetsFirstClasses old parts → AreCopies old related s
    → AreCopies (slice_set parts 0 0) related (called s answer)
copies_called old parts related s answer first copies =
    copies_moved old (slice_set parts 0 0) related s (called s answer)
    (λ p some.
    let kept = written_has_no_class parts 0 p some in
    let before = first p (λ e. some (kept.1 ∙ e)) in (
      kept.1 ∙ before.1,
      λ n h. (λ lt. register_called s.register p answer _ _ (eqb_tells p 0) (leb_tells (suc p) 6) before.0 ∙ h.0 lt, h.1),
    )) copies

-- after a write of bytes on the stack, places are still copies, if the slots that were hit lost their class
pub copies_written : (old new : List ℕ) (related : List (Option Related)) (s : State) (at : ℕ) (bytes : List ℕ)
    → ForgetsSlotClasses old new at (at + length bytes) → AreCopies old related s
    → AreCopies new related (next (written s InStack at bytes))
copies_written old new related s at bytes parts copies =
    copies_moved old new related s (next (written s InStack at bytes))
    (λ p some.
    let kept = parts p some in
    (kept.0, λ n h. (h.0, λ j is. let word = h.1 j is in (word.0, λ i lt. apart_byte s.stack at bytes j i (kept.1 j is) lt ∙ word.1 i lt))))
    copies

-- if slots with a byte of a span of the stack lost their class, so did those with a byte of a smaller span
pub parts_less : (old new : List ℕ) (from to o e : ℕ) → from ≤ o → e ≤ to → ForgetsSlotClasses old new from to
    → ForgetsSlotClasses old new o e
parts_less old new from to o e low high parts p some = let kept = parts p some in (kept.0, λ j is. less j (kept.1 j is))
  where
    less : (j : ℕ) → (8 * j + 8 ≤ from) ⊎ (to ≤ 8 * j) → (8 * j + 8 ≤ o) ⊎ (e ≤ 8 * j)
    less j (inl below) = inl (omega arith)
    less j (inr above) = inr (omega arith)

-- the words of classes, with word n for class own
abbrev with_word : (ℕ → ℕ) → ℕ → ℕ → ℕ → ℕ
with_word word own n k = cond (eqb k own) n (word k)

-- the word that is put in for a class is the word of this class, and other classes keep theirs, by cases:
own_by : (word : ℕ → ℕ) (own n k : ℕ) (b : Bool) → ((b ≡ true) × (k ≡ own)) ⊎ ((b ≡ false) × (k ≢ own)) → k ≡ own → n ≡ cond b n (word k)
own_by word own n k b (inl (e, _)) same = rw e refl
own_by word own n k b (inr (_, other)) same = absurd (other same)

other_by : (word : ℕ → ℕ) (own n k : ℕ) (b : Bool) → ((b ≡ true) × (k ≡ own)) ⊎ ((b ≡ false) × (k ≢ own)) → k ≢ own
    → word k ≡ cond b n (word k)
other_by word own n k b (inl (_, same)) other = absurd (other same)
other_by word own n k b (inr (e, _)) other = rw e refl

-- a place of no class gets one that no place has, and that is not related to any; that other class keeps its word
pub class_given : (old retired : List ℕ) (before related : List (Option Related)) (place own beside n : ℕ) (s : State)
    → place < length retired → KeepsClasses old retired → ((p : ℕ) → slice_index retired p ≢ own) → own ≢ beside
    → ((word other : ℕ → ℕ) → ((k : ℕ) → k ≢ own → other k ≡ word k) → AreRelated word before → AreRelated other related)
    → (copies : AreCopies old before s) → HasWord s place n
    → (is : HoldsClass (slice_set retired place own) related s place own) × (is.0.0 beside ≡ copies.0 beside)
class_given old retired before related place own beside n s there keeps gone apart_is unrelated copies has = (
  (
    (with_word copies.0 own n, λ p some. at p _ (eqb_tells p place) some, unrelated copies.0 (with_word copies.0 own n) other copies.2),
    subst (λ (k : ℕ). HasWord s place k) (own_by copies.0 own n own _ (eqb_tells own own) refl) has,
  ),
  other beside (λ e. apart_is (sym e)),
)
  where
    other : (k : ℕ) → k ≢ own → with_word copies.0 own n k ≡ copies.0 k
    other k apart = sym (other_by copies.0 own n k _ (eqb_tells k own) apart)

    at : (p : ℕ) (b : Bool) → ((b ≡ true) × (p ≡ place)) ⊎ ((b ≡ false) × (p ≢ place))
        → get_or (set retired place own) p 0 ≢ 0
        → HasWord s p (with_word copies.0 own n (get_or (set retired place own) p 0))
    at p b (inl (_, same)) some =
        let is : get_or (set retired place own) p 0 ≡ own = rw (same, get_or-set_same retired place own 0 there) refl in
        let word = own_by copies.0 own n (get_or (set retired place own) p 0) _ (eqb_tells (get_or (set retired place own) p 0) own) is in
        subst (λ (k : ℕ). HasWord s p k) word (subst (λ (q : ℕ). HasWord s q n) (sym same) has)
    at p b (inr (_, elsewhere)) some =
        let is : get_or (set retired place own) p 0 ≡ get_or retired p 0 = get_or-set_other retired place p own 0 elsewhere in
        let kept : get_or retired p 0 ≡ get_or old p 0 = keeps p (λ e. some (is ∙ e)) in
        let apart : get_or (set retired place own) p 0 ≢ own = λ e. gone p (sym is ∙ e) in
        let word =
        other_by copies.0 own n (get_or (set retired place own) p 0) _
        (eqb_tells (get_or (set retired place own) p 0) own) apart in
        let before = copies.1 p (λ e. some (is ∙ kept ∙ e)) in
        subst (λ (k : ℕ). HasWord s p k) word (subst (λ (k : ℕ). HasWord s p (copies.0 k)) (sym (is ∙ kept)) before)

-- a place that holds each word of another place may be put into the class of that place
pub copies_linked : (classes : List ℕ) (related : List (Option Related)) (to from class : ℕ) (s : State) (word : ℕ → ℕ)
    → to < length classes → HasWord s from (word class) → HaveWords classes s word → AreRelated word related
    → ((m : ℕ) → HasWord s from m → HasWord s to m)
    → AreCopies (slice_set classes to class) related s
copies_linked classes related to from class s word there has all so copy = (word, λ p some. at p _ (eqb_tells p to) some, so)
  where
    at : (p : ℕ) (b : Bool) → ((b ≡ true) × (p ≡ to)) ⊎ ((b ≡ false) × (p ≢ to)) → get_or (set classes to class) p 0 ≢ 0
        → HasWord s p (word (get_or (set classes to class) p 0))
    at p b (inl (_, same)) some =
        let is : get_or (set classes to class) p 0 ≡ class = rw (same, get_or-set_same classes to class 0 there) refl in
        subst (λ (k : ℕ). HasWord s p (word k)) (sym is) (subst (λ (q : ℕ). HasWord s q (word class)) (sym same) (copy (word class) has))
    at p b (inr (_, other)) some =
        let is : get_or (set classes to class) p 0 ≡ get_or classes p 0 = get_or-set_other classes to p class 0 other in
        subst (λ (k : ℕ). HasWord s p (word k)) (sym is) (all p (λ e. some (is ∙ e)))

-- a register that is written has the written word, by the test of its number
put_by : (register : ℕ → Option ℕ) (d v : ℕ) (b : Bool) → ((b ≡ true) × (d ≡ d)) ⊎ ((b ≡ false) × (d ≢ d))
    → cond b (Some v) (register d) ≡ Some v
put_by register d v b (inl (e, _)) = rw e refl
put_by register d v b (inr (_, other)) = absurd (other refl)

-- a register that is written holds the written word
pub put_here : (s : State) (slots d v : ℕ) → (put s slots d v).register d ≡ Some v
put_here s slots d v = put_by s.register d v _ (eqb_tells d d)

-- a register other than the one that is written keeps its word
pub put_there : (s : State) (slots d v r n : ℕ) → r ≢ d → s.register r ≡ Some n → (put s slots d v).register r ≡ Some n
put_there s slots d v r n other is = register_put s.register r d v _ (eqb_tells r d) other ∙ is

-- a register stays as it is if register d is written with the word that d holds, by whether it is d
same_by : (register : ℕ → Option ℕ) (p d n : ℕ) (b : Bool) → ((b ≡ true) × (p ≡ d)) ⊎ ((b ≡ false) × (p ≢ d))
    → register d ≡ Some n
    → cond b (Some n) (register p) ≡ register p
same_by register p d n b (inl (e, same)) is = rw (e, same) (sym is)
same_by register p d n b (inr (e, _)) is = rw e refl

-- if a register is written with the word that it holds, every register stays as it is
pub put_same : (s : State) (slots d n : ℕ) → s.register d ≡ Some n → (p : ℕ) → (put s slots d n).register p ≡ s.register p
put_same s slots d n is p = same_by s.register p d n _ (eqb_tells p d) is

-- if a register is written with the word that it holds, the places of each class are still copies
pub copies_same : (classes : List ℕ) (related : List (Option Related)) (s : State) (slots d n : ℕ)
    → s.register d ≡ Some n → AreCopies classes related s → AreCopies classes related (put s slots d n)
copies_same classes related s slots d n is copies =
    copies_moved classes classes related s (put s slots d n)
    (λ p some. (refl, λ m h. (λ lt. put_same s slots d n is p ∙ h.0 lt, h.1))) copies

-- a register that is set to a word holds it as a place
pub register_word : (s : State) (r n : ℕ) → r < 11 → s.register r ≡ Some n → HasWord s r n
register_word s r n low is = (λ lt. is, λ j e. absurd (let no : ⊥ = omega (arith, e, low) in no))

-- a register that has the word of another one has each word that the other one is known to have
pub register_copy : (s : State) (to from n m : ℕ) → to < 11 → from < 11 → s.register from ≡ Some n
    → s.register to ≡ Some n → HasWord s from m
    → HasWord s to m
register_copy s to from n m low low' is to_is has =
    let same : n ≡ m = same_Some n m (sym is ∙ has.0 low') in
    register_word s to m low (to_is ∙ ap (λ (k : ℕ). Some k) same)

-- words with the same eight bytes have the same list of bytes
same_bytes : (n m : ℕ) → ((i : ℕ) → i < 8 → byte_of i n ≡ byte_of i m) → bytes_low_first 0 8 n ≡ bytes_low_first 0 8 m
same_bytes n m each =
    rw (
      each 0 (omega arith),
      each 1 (omega arith),
      each 2 (omega arith),
      each 3 (omega arith),
      each 4 (omega arith),
      each 5 (omega arith),
      each 6 (omega arith),
      each 7 (omega arith),
    ) refl

-- a 64-bit word is the number of its own eight bytes
pub number_of_word : (n : ℕ) → n < 2 ^ 64 → number_of (bytes_low_first 0 8 n) ≡ n
number_of_word n small = omega arith

-- a slot of the stack holds one word
pub one_word : (s : State) (slot n m : ℕ) → HasWord s (11 + slot) n → HasWord s (11 + slot) m → n ≡ m
one_word s slot n m first second =
    let a = first.1 slot refl in
    let b = second.1 slot refl in
    let same : bytes_low_first 0 8 n ≡ bytes_low_first 0 8 m =
    same_bytes n m (λ i lt. same_Some (byte_of i n) (byte_of i m) (sym (a.1 i lt) ∙ b.1 i lt)) in
    sym (number_of_word n a.0) ∙ ap number_of same ∙ number_of_word m b.0

-- a slot that holds the word of a register holds each word that the register is known to have
pub slot_copy : (s : State) (slot from n m : ℕ) → from < 11 → s.register from ≡ Some n
    → HasWord s (11 + slot) n → HasWord s from m
    → HasWord s (11 + slot) m
slot_copy s slot from n m low is there has =
    let same : n ≡ m = same_Some n m (sym is ∙ has.0 low) in
    subst (λ (k : ℕ). HasWord s (11 + slot) k) same there

-- a register that holds the word of a slot holds each word that the slot is known to have
pub loaded_copy : (s : State) (to slot n m : ℕ) → to < 11 → s.register to ≡ Some n → HasWord s (11 + slot) n
    → HasWord s (11 + slot) m
    → HasWord s to m
loaded_copy s to slot n m low is there has =
    let same : n ≡ m = one_word s slot n m there has in
    register_word s to m low (is ∙ ap (λ (k : ℕ). Some k) same)
