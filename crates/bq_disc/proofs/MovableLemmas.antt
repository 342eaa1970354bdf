-- Which tasks of a queue may go to a processor, of two parts of the queue one after the other: the later part comes first.
use Rattle.std.proofs.Common.{◌≡◌, ℕ, zero, suc, ◌+◌, ◌≤◌, Bool, true, false, cond, List, [], ◌∷◌, ◌++◌, length, take, filter, reverse, length-append, append_assoc, refl, ap, sym, ◌∙◌, arith}
use Rattle.std.proofs.lemmas.List.{length-reverse, reverse-append, map-append, take-append-le}
use Rattle.std.proofs.lemmas.List.Elements.{filter-append}
use Rattle.bq_disc.specs.Tasks.{Task}
use Rattle.bq_disc.specs.Queues.{can_use}
use Rattle.bq_disc.specs.Movable.{movable_to, ids, AddsMovable}
use Rattle.bq_disc.specs.declared.movable.Movable.{Movable}

-- of two parts of a queue, the tasks that may go are those of the later part, then those of the earlier one
movable_to-append : (processor : ℕ) (xs ys : List Task)
    → movable_to processor (xs ++ ys) ≡ movable_to processor ys ++ movable_to processor xs
movable_to-append processor xs ys =
    ap reverse (filter-append (can_use processor) xs ys)
    ∙ reverse-append (filter (can_use processor) xs) (filter (can_use processor) ys)

-- the first n of a list that was already cut to n, with more behind it, are the first n of the whole
take_again : (n : ℕ) (xs ys : List ℕ) → take n (take n xs ++ ys) ≡ take n (xs ++ ys)
take_again zero xs ys = refl
take_again (suc n) [] ys = refl
take_again (suc n) (x ∷ xs) ys = ap (λ l. x ∷ l) (take_again n xs ys)

-- the first n of a list no longer than n are all of it
take_short : (n : ℕ) (xs : List ℕ) → length xs ≤ n → take n xs ≡ xs
take_short zero [] h = refl
take_short zero (x ∷ xs) h = absurd (omega arith)
take_short (suc n) [] h = refl
take_short (suc n) (x ∷ xs) h = ap (λ l. x ∷ l) (take_short n xs (omega arith))

-- a task that may go is only counted, where eight ids are kept
pub Adds-full : (processor : ℕ) (t : Task) (a b : Movable) → can_use processor t ≡ true → b.count ≡ a.count + 1
    → b.first.items ≡ a.first.items → length a.first.items ≡ 8
    → AddsMovable processor (t ∷ []) a b
Adds-full processor t a b e count first h =
    let one : movable_to processor (t ∷ []) ≡ t ∷ [] = rw e refl in
    record {
      count = omega (arith, ap length one);
      first = rw one (first ∙ sym (take-append-le 8 a.first.items (t.id ∷ []) (omega arith) ∙ take_short 8 a.first.items (omega arith)));
      fits = rw first (omega arith);
    }

-- the later part is looked at first
pub Adds-append : (processor : ℕ) (xs ys : List Task) (a b c : Movable)
    → AddsMovable processor ys a b → AddsMovable processor xs b c → AddsMovable processor (xs ++ ys) a c
Adds-append processor xs ys a b c h k =
    let both = movable_to-append processor xs ys in
    let many = length-append (movable_to processor ys) (movable_to processor xs) in
    let split = ap ids both ∙ map-append (λ (t : Task). t.id) (movable_to processor ys) (movable_to processor xs) in
    let join =
    ap (λ l. take 8 (l ++ ids (movable_to processor xs))) h.first
    ∙ take_again 8 (a.first.items ++ ids (movable_to processor ys)) (ids (movable_to processor xs)) in
    let regroup = ap (λ l. take 8 l) (append_assoc a.first.items (ids (movable_to processor ys)) (ids (movable_to processor xs))) in
    record {
      count = omega (arith, h.count, k.count, ap length both);
      first = k.first ∙ join ∙ regroup ∙ sym (ap (λ l. take 8 (a.first.items ++ l)) split);
      fits = k.fits;
    }

-- no more tasks pass a test than there are, by cases: one task, a list
kept_by_test : (b : Bool) (x : Task) (xs ys : List Task) → length ys ≤ length xs → length (cond b (x ∷ ys) ys) ≤ length (x ∷ xs)
kept_by_test true x xs ys h = omega arith
kept_by_test false x xs ys h = omega arith

fewer : (p : Task → Bool) (xs : List Task) → length (filter p xs) ≤ length xs
fewer p [] = omega arith
fewer p (x ∷ xs) = kept_by_test (p x) x xs (filter p xs) (fewer p xs)

-- no more tasks may go to a processor than there are
pub few_movable : (processor : ℕ) (xs : List Task) → length (movable_to processor xs) ≤ length xs
few_movable processor xs = omega (arith, length-reverse (filter (can_use processor) xs), fewer (can_use processor) xs)
