-- What a pull context shows is the rule's.
use Rattle.std.proofs.Common.{◌≡◌, ℕ, zero, suc, ◌+◌, ◌*◌, ◌<◌, ◌≤◌, ◌^◌, List, [], ◌∷◌, length, take, map, Bool, true, false, cond, Option, refl, sym, ap, ◌∙◌, subst, arith}
use Rattle.std.specs.Prelude.{◌==◌, ◌||◌, min, nat_lt, slice_get}
use Rattle.std.specs.List.{range_with_len, list_any}
use Rattle.std.specs.Option.{option_map_or}
use Rattle.std.proofs.lemmas.List.{take_all, length-map}
use Rattle.std.proofs.lemmas.Bool.Decides.{nat_tests}
use Rattle.byteorder.specs.Endian.{little_number}
use Rattle.byteorder.specs.Numbers.{little_number-reads_back}
use Rattle.bq_disc.specs.Tasks.{Task}
use Rattle.bq_disc.specs.Movable.{ids, is_movable_to}
use Rattle.bq_hooks.specs.Contexts.{PullFacts, pull_header, pull_bytes, nobody}
use Rattle.bq_hooks.specs.Permitted.{may_pull}
use Rattle.bq_policy_run.specs.declared.permitted.Permission.{Permission}
use Rattle.bq_policy_run.specs.declared.permitted.Permission.TheVariants.{Permitted, NotPermitted, NotShown}
use Rattle.bq_policy_run.specs.PermittingLaw.{IsPermissionOn, IsPullFrom}
use Rattle.bq_policy_run.specs.Permitting.{context_number, shown_ids, shows_task, hides_tasks, pull_permission}
use Rattle.bq_policy_run.proofs.MovableIdLemmas.{any_movable, movable_small, AreSmall}
use Rattle.bq_policy_run.proofs.PieceLemmas.{tasks_hold}

-- it tells how many tasks are movable
movable_shown : (f : PullFacts) → length f.movable < 2 ^ 32 → context_number (pull_bytes f) 16 ≡ length f.movable
unfolding pull_bytes pull_header
movable_shown f h = little_number-reads_back 4 (length f.movable) [] h

-- the context tells how many of the movable tasks are shown
count_shown : (f : PullFacts) → context_number (pull_bytes f) 20 ≡ min (length f.movable) 8
unfolding pull_bytes pull_header
count_shown f = little_number-reads_back 4 (min (length f.movable) 8) [] (omega arith)

-- the id of the task, 0 for no task
abbrev id_or_0 : Option Task → ℕ
id_or_0 o = option_map_or (λ (t : Task). t.id) o 0

-- the number at the place of a task is its id
id_shown : (f : PullFacts) (k : ℕ) → k < 8 → id_or_0 (slice_get f.movable k) < 2 ^ 16
    → context_number (pull_bytes f) (32 + 16 * k) ≡ id_or_0 (slice_get f.movable k)
id_shown f k h small =
    let id : ℕ = id_or_0 (slice_get f.movable k) in
    let here : 32 + 16 * k ≡ 32 + k * 16 = omega arith in
    ap (context_number (pull_bytes f)) here ∙ ap (little_number 4) (tasks_hold f k h).0 ∙ little_number-reads_back 4 id [] (omega (arith, small))

-- the numbers at the places of the first tasks are their ids
ids_read : (number : ℕ → ℕ) (a n : ℕ) (xs : List Task) → ((k : ℕ) → k < n → number (a + k) ≡ id_or_0 (slice_get xs k))
    → map number (range_with_len a (min (length xs) n)) ≡ take n (ids xs)
ids_read number a zero xs h = ap (λ m. map number (range_with_len a m)) (let e : min (length xs) 0 ≡ 0 = omega arith in e)
ids_read number a (suc n) [] h = ap (λ m. map number (range_with_len a m)) (let e : min 0 (suc n) ≡ 0 = omega arith in e)
ids_read number a (suc n) (x ∷ xs) h =
    let one : min (length (x ∷ xs)) (suc n) ≡ suc (min (length xs) n) = omega arith in
    let first : number a ≡ x.id = ap number (let e : a ≡ a + 0 = omega arith in e) ∙ h 0 (omega arith) in
    let rest =
    ids_read number (a + 1) n xs (λ k l. ap number (let e : a + 1 + k ≡ a + suc k = omega arith in e) ∙ h (suc k) (omega arith)) in
    ap (λ m. map number (range_with_len a m)) one ∙ (λ i. first i ∷ rest i)

-- the id of a task at any place fits 16 bits, and where there is no task the number is 0
small_at : (xs : List Task) (k : ℕ) → AreSmall xs → id_or_0 (slice_get xs k) < 2 ^ 16
small_at [] k h = omega arith
small_at (x ∷ xs) zero h = h.0
small_at (x ∷ xs) (suc k) h = small_at xs k h.1

-- the ids that are shown are those of the first eight
shown_are : (f : PullFacts) → AreSmall f.movable → shown_ids (pull_bytes f) ≡ take 8 (ids f.movable)
shown_are f small =
    let number : ℕ → ℕ = λ k. context_number (pull_bytes f) (32 + 16 * k) in
    let shown : min (context_number (pull_bytes f) 20) 8 ≡ min (length f.movable) 8 =
    ap (λ n. min n 8) (count_shown f) ∙ (let e : min (min (length f.movable) 8) 8 ≡ min (length f.movable) 8 = omega arith in e) in
    ap (λ n. map number (range_with_len 0 n)) shown
    ∙ ids_read number 0 8 f.movable (λ k l. ap number (let e : 0 + k ≡ k = omega arith in e) ∙ id_shown f k l (small_at f.movable k small))

-- a pull context hides tasks exactly when it shows fewer of them than there are
hidden_are : (f : PullFacts) → length f.movable < 2 ^ 32 → hides_tasks (pull_bytes f) ≡ nat_lt (min (length f.movable) 8) (length f.movable)
hidden_are f h = λ i. nat_lt (count_shown f i) (movable_shown f h i)

-- where one of the first numbers passes a test, one of all numbers does
any_take : (p : ℕ → Bool) (n : ℕ) (xs : List ℕ) → list_any p (take n xs) ≡ true → list_any p xs ≡ true
any_take p zero xs h = cc
any_take p (suc n) [] h = h
any_take p (suc n) (x ∷ xs) h = go (p x) (any_take p n xs) h
  where
    go : (b : Bool) → (list_any p (take n xs) ≡ true → list_any p xs ≡ true) → (b || list_any p (take n xs)) ≡ true
        → (b || list_any p xs) ≡ true
    go true more k = refl
    go false more k = more k

-- the word on a pull: permitted if the answer is no task or a shown one; else not shown if tasks are hidden, or not permitted
abbrev word_by : Bool → Bool → Bool → Permission
word_by none shown hides = cond (none || shown) Permitted (cond hides NotShown NotPermitted)

-- by whether the answer is nobody, one of the first eight, and whether there are more
word_is_rules : (none shown hides : Bool) (r0 : ℕ) (xs : List ℕ)
    → (r0 == nobody) ≡ none → list_any (λ id. id == r0) (take 8 xs) ≡ shown → nat_lt (min (length xs) 8) (length xs) ≡ hides
    → IsPermissionOn (none || list_any (λ id. id == r0) xs) (word_by none shown hides)
word_is_rules true shown hides r0 xs n s h = refl
word_is_rules false true hides r0 xs n s h = any_take (λ id. id == r0) 8 xs s
word_is_rules false false true r0 xs n s h = tt
word_is_rules false false false r0 xs n s h =
    let few : length xs ≤ 8 = grind (arith, nat_tests) in
    ap (list_any (λ id. id == r0)) (sym (take_all 8 xs few)) ∙ s

-- the word on a pull is the rule's, or that the task is not shown
pub pull_is_rules : (queue : List Task) (f : PullFacts) (r0 : ℕ)
    → IsPullFrom queue f → IsPermissionOn (may_pull f.puller queue r0) (pull_permission (pull_bytes f) r0)
pull_is_rules queue f r0 h =
    let small : AreSmall f.movable = subst AreSmall (sym h.movable) (movable_small f.puller queue h.small) in
    let may : list_any (λ id. id == r0) (ids f.movable) ≡ is_movable_to f.puller r0 queue =
    ap (λ xs. list_any (λ id. id == r0) (ids xs)) h.movable ∙ any_movable f.puller r0 queue h.distinct in
    let long : length (ids f.movable) ≡ length f.movable = length-map f.movable (λ (t : Task). t.id) in
    let shown : list_any (λ id. id == r0) (take 8 (ids f.movable)) ≡ shows_task (pull_bytes f) r0 =
    ap (list_any (λ id. id == r0)) (sym (shown_are f small)) in
    let hides : nat_lt (min (length (ids f.movable)) 8) (length (ids f.movable)) ≡ hides_tasks (pull_bytes f) =
    ap (λ n. nat_lt (min n 8) n) long ∙ sym (hidden_are f h.few) in
    subst (λ b. IsPermissionOn ((r0 == nobody) || b) (pull_permission (pull_bytes f) r0)) may
    (word_is_rules (r0 == nobody) (shows_task (pull_bytes f) r0) (hides_tasks (pull_bytes f)) r0 (ids f.movable) refl shown hides)

-- the word is that the task is not shown only where tasks are hidden
is_not_shown : (none shown hides : Bool) → word_by none shown hides ≡ NotShown → hides ≡ true
is_not_shown true shown hides h = cc
is_not_shown false true hides h = cc
is_not_shown false false true h = refl
is_not_shown false false false h = cc

-- a task is said not to be shown only where more than eight may go
pub not_shown : (queue : List Task) (f : PullFacts) (r0 : ℕ) → IsPullFrom queue f → pull_permission (pull_bytes f) r0 ≡ NotShown
    → 8 < length f.movable
not_shown queue f r0 h e =
    let hides : nat_lt (min (length f.movable) 8) (length f.movable) ≡ true =
    sym (hidden_are f h.few) ∙ is_not_shown (r0 == nobody) (shows_task (pull_bytes f) r0) (hides_tasks (pull_bytes f)) e in
    grind (arith, nat_tests)
