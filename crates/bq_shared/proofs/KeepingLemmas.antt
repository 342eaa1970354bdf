-- Steps, cuts and joins keep the sums.
use Rattle.std.proofs.Common.{◌≡◌, ◌≢◌, ℕ, zero, suc, ◌+◌, ◌%◌, ◌^◌, ◌<◌, ◌≤◌, Bool, true, false, cond, List, [], ◌∷◌, ◌++◌, length, get_or, set, refl, sym, ap, ◌∙◌, subst, ◌⊎◌, inl, inr, ⊎_elim, arith, length-set, get_or-set_same, get_or-set_other}
use Rattle.std.specs.Prelude.{slice_index, slice_set, replicate}
use mathlib.Core.Option.{some, some-ne-none, some-injective}
use lib.ListN.{get_elem?}
use Rattle.std.proofs.lemmas.Bool.Decides.{eqb_tells}
use Rattle.atomic_table.proofs.Lists.{at_set, at_snoc, set_else}
use Rattle.bq_bpf.specs.declared.board.CounterCall.{CounterCall}
use Rattle.bq_bpf.specs.declared.board.CounterCall.TheVariants.{Add, Read}
use Rattle.bq_bpf.specs.Counters.{counter_added, sum_of}
use Rattle.bq_history.specs.Whole.{total}
use Rattle.bq_history.proofs.MoveLemmas.{total_set, total_snoc, total_at}
use Rattle.bq_shared.specs.declared.account.Account.{Account}
use Rattle.bq_shared.specs.Sums.{AreSums, AreSumsOf, seatless_account, fresh_account, account_called, joined_accounts, without_one}

-- the sum over two lists of calls joined
pub sum-append : (i : ℕ) (v w : List CounterCall) → sum_of i (v ++ w) ≡ sum_of i v + sum_of i w
sum-append i [] w = omega arith
sum-append i (c ∷ cs) w = let h = sum-append i cs w in omega arith

-- how many seats an account has, and what its calls add to a counter:
abbrev seats_of : Account → ℕ
seats_of a = a.seats

abbrev sums_of : ℕ → Account → ℕ
sums_of i a = sum_of i a.calls

-- a step on one word by one account
module _ (seats : ℕ) (words : List ℕ) (accounts : List Account) (id : ℕ) (v w : Account) (i k x : ℕ)
    (rule : AreSums seats words accounts) (at : get_elem? accounts id ≡ some v) (low : i < 64) where
  -- after such a step each word is the sum of what all accounts add to its counter, with the new account
  word_at : (j : ℕ) (b : Bool) → j < 64 → x ≡ (slice_index words i + k) % 2 ^ 64
      → ((j : ℕ) → j ≡ i → sum_of j w.calls ≡ sum_of j v.calls + k) → ((j : ℕ) → j ≢ i → sum_of j w.calls ≡ sum_of j v.calls)
      → ((b ≡ true) × (j ≡ i)) ⊎ ((b ≡ false) × (j ≢ i))
      → get_or (set words i x) j 0 ≡ total (sums_of j) (set accounts id w) % 2 ^ 64
  word_at j b lt is here there (inl (e, same)) =
      let changed = total_set (sums_of j) accounts id v w at in
      let more = here j same in
      let was : slice_index words i ≡ total (sums_of j) accounts % 2 ^ 64 = rw same (rule.sums i low) in
      let in_range : i < length words = omega (arith, rule.many) in
      let reads : get_or (set words i x) j 0 ≡ x = rw same (get_or-set_same words i x 0 in_range) in
      let sum : x ≡ total (sums_of j) (set accounts id w) % 2 ^ 64 = omega (arith, is, changed, more, was) in
      reads ∙ sum
  word_at j b lt is here there (inr (e, other)) =
      let changed = total_set (sums_of j) accounts id v w at in
      let none = there j other in
      let same : total (sums_of j) (set accounts id w) ≡ total (sums_of j) accounts = omega (arith, changed, none) in
      rw (get_or-set_other words i j x 0 other, same) (rule.sums j lt)

  -- a step that adds k to a word and to its account keeps the rule
  pub steps : x ≡ (slice_index words i + k) % 2 ^ 64 → w.seats ≡ v.seats → (w.seats ≡ 0 → w.calls ≡ [])
      → ((j : ℕ) → j ≡ i → sum_of j w.calls ≡ sum_of j v.calls + k) → ((j : ℕ) → j ≢ i → sum_of j w.calls ≡ sum_of j v.calls)
      → AreSums seats (slice_set words i x) (slice_set accounts id w)
  steps is keeps blank here there = record {
    many = rw length-set rule.many;
    whole = let h = total_set seats_of accounts id v w at in let e = rule.whole in omega (arith, h, e, keeps);
    blank = λ by a e zero_seats. ⊎_elim
        (λ (y : (by ≡ id) × (w ≡ a)). subst (λ (u : Account). u.calls ≡ []) y.1 (blank (ap seats_of y.1 ∙ zero_seats)))
        (λ (y : (by ≢ id) × (get_elem? accounts by ≡ some a)). rule.blank by a y.1 zero_seats)
        (at_set accounts id by w a e);
    sums = λ j lt. word_at j _ lt is here there (eqb_tells j i);
  }

-- an add of k adds k to its own counter and nothing to any other, by cases:
added_same : (i j k : ℕ) (b : Bool) → ((b ≡ true) × (i ≡ j)) ⊎ ((b ≡ false) × (i ≢ j)) → j ≡ i → cond {A = ℕ} b k 0 ≡ k
added_same i j k b (inl (e, same)) is = rw e refl
added_same i j k b (inr (e, other)) is = absurd (other (sym is))

added_other : (i j k : ℕ) (b : Bool) → ((b ≡ true) × (i ≡ j)) ⊎ ((b ≡ false) × (i ≢ j)) → j ≢ i → cond {A = ℕ} b k 0 ≡ 0
added_other i j k b (inl (e, same)) is = absurd (is (sym same))
added_other i j k b (inr (e, other)) is = rw e refl

-- an add to a word, and to an account with a seat, keeps the sums
pub sums_after_add : (seats : ℕ) (words : List ℕ) (accounts : List Account) (id i k : ℕ) (v : Account)
    → AreSums seats words accounts → get_elem? accounts id ≡ some v → i < 64 → 1 ≤ v.seats
    → AreSums seats (slice_set words i ((slice_index words i + k) % 2 ^ 64))
    (slice_set accounts id (account_called v (Add i k (slice_index words i))))
sums_after_add seats words accounts id i k v rule at low some_seat =
    steps seats words accounts id v (account_called v (Add i k (slice_index words i))) i k ((slice_index words i + k) % 2 ^ 64) rule
    at low refl refl (λ none. absurd (omega arith))
    (λ j same.
    let h = sum-append j v.calls (Add i k (slice_index words i) ∷ []) in
    let one : counter_added j (Add i k (slice_index words i)) ≡ k = added_same i j k _ (eqb_tells i j) same in
    omega (arith, h, one)) (λ j other.
    let h = sum-append j v.calls (Add i k (slice_index words i) ∷ []) in
    let none : counter_added j (Add i k (slice_index words i)) ≡ 0 = added_other i j k _ (eqb_tells i j) other in
    omega (arith, h, none))

-- a read of a word, which an account with a seat gets, keeps the sums
pub sums_after_read : (seats : ℕ) (words : List ℕ) (accounts : List Account) (id i : ℕ) (v : Account)
    → AreSums seats words accounts → get_elem? accounts id ≡ some v → i < 64 → 1 ≤ v.seats → slice_index words i < 2 ^ 64
    → AreSums seats (slice_set words i (slice_index words i)) (slice_set accounts id (account_called v (Read i (slice_index words i))))
sums_after_read seats words accounts id i v rule at low some_seat fits =
    steps seats words accounts id v (account_called v (Read i (slice_index words i))) i 0 (slice_index words i) rule at low (omega arith) refl
    (λ none. absurd (omega arith))
    (λ j same. let h = sum-append j v.calls (Read i (slice_index words i) ∷ []) in omega (arith, h))
    (λ j other. let h = sum-append j v.calls (Read i (slice_index words i) ∷ []) in omega (arith, h))

-- a read of a word, which no account gets, keeps the sums
pub sums_after_unrecorded_read : (seats : ℕ) (words : List ℕ) (accounts : List Account) (id i : ℕ) (v : Account)
    → AreSums seats words accounts → get_elem? accounts id ≡ some v → i < 64 → slice_index words i < 2 ^ 64
    → AreSums seats (slice_set words i (slice_index words i)) (slice_set accounts id v)
sums_after_unrecorded_read seats words accounts id i v rule at low fits =
    steps seats words accounts id v v i 0 (slice_index words i) rule at low (omega arith) refl (rule.blank id v at)
    (λ j same. omega arith) (λ j other. refl)

module _ (seats : ℕ) (words : List ℕ) (accounts : List Account) (id : ℕ) (v : Account) (rule : AreSums seats words accounts)
    (at : get_elem? accounts id ≡ some v) where
  -- an account that is cut in two keeps the sums
  pub cuts : (left right : Account) → left.seats + right.seats ≡ v.seats
      → ((i : ℕ) → sum_of i left.calls + sum_of i right.calls ≡ sum_of i v.calls) → (left.seats ≡ 0 → left.calls ≡ [])
      → (right.seats ≡ 0 → right.calls ≡ [])
      → AreSums seats words (slice_set accounts id left ++ right ∷ [])
  cuts left right whole sums blank_left blank_right = record {
    many = rule.many;
    whole =
        let a = total_set seats_of accounts id v left at in
        let b = total_snoc seats_of (set accounts id left) right in
        let e = rule.whole in
        omega (arith, a, b, e, whole);
    blank = λ by a e zero_seats. ⊎_elim
        (λ (was : get_elem? (set accounts id left) by ≡ some a). ⊎_elim
        (λ (y : (by ≡ id) × (left ≡ a)). subst (λ (u : Account). u.calls ≡ []) y.1 (blank_left (ap seats_of y.1 ∙ zero_seats)))
        (λ (y : (by ≢ id) × (get_elem? accounts by ≡ some a)). rule.blank by a y.1 zero_seats)
        (at_set accounts id by left a was))
        (λ (new : right ≡ a). subst (λ (u : Account). u.calls ≡ []) new (blank_right (ap seats_of new ∙ zero_seats)))
        (at_snoc (set accounts id left) right a by e);
    sums = λ i lt.
        let a = total_set (sums_of i) accounts id v left at in
        let b = total_snoc (sums_of i) (set accounts id left) right in
        let c = sums i in
        let same : total (sums_of i) (set accounts id left ++ right ∷ []) ≡ total (sums_of i) accounts = omega (arith, a, b, c) in
        rw same (rule.sums i lt);
  }

  -- one seat that leaves an account without calls and gets its own keeps the sums
  pub parts : 1 ≤ v.seats → v.calls ≡ [] → AreSums seats words (slice_set accounts id (without_one v) ++ fresh_account 1 ∷ [])
  parts some_seat none = cuts (without_one v) (fresh_account 1) (omega arith) (λ i. omega arith) (λ z. none) (λ z. refl)

  -- an account that goes to another seat of the table keeps the sums
  pub takes : AreSums seats words (slice_set accounts id seatless_account ++ v ∷ [])
  takes = cuts seatless_account v (omega arith) (λ i. omega arith) (λ z. refl) (rule.blank id v at)

  -- two accounts that become one keep the sums
  pub joins : (other : ℕ) (w : Account) → ¬ (other ≡ id)
      → get_elem? (slice_set accounts id (joined_accounts v w)) other ≡ some w
      → AreSums seats words (slice_set (slice_set accounts id (joined_accounts v w)) other seatless_account)
  joins other w apart there =
      let theirs : get_elem? accounts other ≡ some w = sym (set_else accounts id other (joined_accounts v w) apart) ∙ there in
      record {
        many = rule.many;
        whole =
            let a = total_set seats_of accounts id v (joined_accounts v w) at in
            let b = total_set seats_of (set accounts id (joined_accounts v w)) other w seatless_account there in
            let e = rule.whole in
            omega (arith, a, b, e);
        blank = λ by a e zero_seats.
            ⊎_elim (λ (y : (by ≡ other) × (seatless_account ≡ a)). subst (λ (u : Account). u.calls ≡ []) y.1 refl)
            (λ (y : (by ≢ other) × (get_elem? (set accounts id (joined_accounts v w)) by ≡ some a)).
            ⊎_elim (λ (z : (by ≡ id) × (joined_accounts v w ≡ a)).
            let none : v.seats + w.seats ≡ 0 = ap seats_of z.1 ∙ zero_seats in
            subst (λ (u : Account). u.calls ≡ []) z.1
            (rw (rule.blank id v at (omega (arith, none)), rule.blank other w theirs (omega (arith, none))) refl))
            (λ (z : (by ≢ id) × (get_elem? accounts by ≡ some a)). rule.blank by a z.1 zero_seats)
            (at_set accounts id by (joined_accounts v w) a y.1))
            (at_set (set accounts id (joined_accounts v w)) other by seatless_account a e);
        sums = λ i lt.
            let a = total_set (sums_of i) accounts id v (joined_accounts v w) at in
            let b = total_set (sums_of i) (set accounts id (joined_accounts v w)) other w seatless_account there in
            let c = sum-append i v.calls w.calls in
            let same : total (sums_of i) (set (set accounts id (joined_accounts v w)) other seatless_account)
            ≡ total (sums_of i) accounts = omega (arith, a, b, c) in
            rw same (rule.sums i lt);
      }

-- one more account, of no seat, keeps the sums
pub sums_with_one_more : (seats : ℕ) (words : List ℕ) (accounts : List Account)
    → AreSums seats words accounts → AreSums seats words (accounts ++ seatless_account ∷ [])
sums_with_one_more seats words accounts rule = record {
  many = rule.many;
  whole = let a = total_snoc seats_of accounts seatless_account in let e = rule.whole in omega (arith, a, e);
  blank = λ by a e zero_seats. ⊎_elim
      (λ (was : get_elem? accounts by ≡ some a). rule.blank by a was zero_seats)
      (λ (new : seatless_account ≡ a). subst (λ (u : Account). u.calls ≡ []) new refl)
      (at_snoc accounts seatless_account a by e);
  sums = λ i lt.
      let a = total_snoc (sums_of i) accounts seatless_account in
      let same : total (sums_of i) (accounts ++ seatless_account ∷ []) ≡ total (sums_of i) accounts = omega (arith, a) in
      rw same (rule.sums i lt);
}

-- where no account has a seat, nothing was added to any counter
total_none : (i : ℕ) (accounts : List Account)
    → ((by : ℕ) (a : Account) → get_elem? accounts by ≡ some a → a.seats ≡ 0 → a.calls ≡ []) → total seats_of accounts ≡ 0
    → total (sums_of i) accounts ≡ 0
total_none i [] blank e = refl
total_none i (a ∷ rest) blank e =
    let h = total_none i rest (λ by b. blank (suc by) b) (omega (arith, e)) in
    let none : sum_of i a.calls ≡ 0 = rw (blank 0 a refl (omega (arith, e))) refl in
    omega (arith, h, none)

-- an account of all seats has all that was added
total_alone : (i : ℕ) (accounts : List Account) (id : ℕ) (v : Account)
    → ((by : ℕ) (a : Account) → get_elem? accounts by ≡ some a → a.seats ≡ 0 → a.calls ≡ []) → get_elem? accounts id ≡ some v
    → total seats_of accounts ≡ v.seats
    → total (sums_of i) accounts ≡ sum_of i v.calls
total_alone i [] id v blank at e = absurd (some-ne-none v (sym at))
total_alone i (a ∷ rest) zero v blank at e =
    let is : a ≡ v = some-injective a v at in
    let seats_same : a.seats ≡ v.seats = ap seats_of is in
    let sums_same : sum_of i a.calls ≡ sum_of i v.calls = ap (sums_of i) is in
    let h = total_none i rest (λ by b. blank (suc by) b) (omega (arith, e, seats_same)) in
    omega (arith, h, sums_same)
total_alone i (a ∷ rest) (suc id) v blank at e =
    let most = total_at seats_of rest id v at in
    let none : sum_of i a.calls ≡ 0 = rw (blank 0 a refl (omega (arith, e, most))) refl in
    let h = total_alone i rest id v (λ by b. blank (suc by) b) at (omega (arith, e, most)) in
    omega (arith, h, none)

-- n words, each of which is 0:
abbrev zeros : ℕ → List ℕ
zeros n = replicate n 0

zero_at : (n i : ℕ) → get_or (zeros n) i 0 ≡ 0
zero_at zero i = refl
zero_at (suc n) zero = refl
zero_at (suc n) (suc i) = zero_at n i

-- at the start all words are 0, and one account has all seats and no calls
pub sums_at_start : (seats : ℕ) → AreSums seats (zeros 64) (fresh_account seats ∷ [])
sums_at_start seats = record {
  many = refl;
  whole = omega arith;
  blank = one;
  sums = λ i lt. zero_at 64 i;
}
  where
    one : (by : ℕ) (a : Account) → get_elem? (fresh_account seats ∷ []) by ≡ some a → a.seats ≡ 0 → a.calls ≡ []
    one zero a e z = subst (λ (u : Account). u.calls ≡ []) (some-injective (fresh_account seats) a e) refl
    one (suc by) a e z = absurd (some-ne-none a (sym e))

-- a word that was read
pub index_at : (words : List ℕ) (i x : ℕ) → get_elem? words i ≡ some x → get_or words i 0 ≡ x
index_at [] i x e = absurd (some-ne-none x (sym e))
index_at (w ∷ ws) zero x e = some-injective w x e
index_at (w ∷ ws) (suc i) x e = index_at ws i x e

-- once item i is written at its place, each word up to it is the item at its place
more_at : (words items : List ℕ) (i x k : ℕ) (b : Bool) → i < length words
    → ((k : ℕ) → k < i → get_elem? items k ≡ some (slice_index words k)) → get_elem? items i ≡ some x → k < i + 1
    → ((b ≡ true) × (k ≡ i)) ⊎ ((b ≡ false) × (k ≢ i))
    → get_elem? items k ≡ some (get_or (set words i x) k 0)
more_at words items i x k b there before at lt (inl (e, same)) = rw (same, get_or-set_same words i x 0 there) at
more_at words items i x k b there before at lt (inr (e, other)) = rw (get_or-set_other words i k x 0 other) (before k (omega arith))

-- one more word that was read is at its place, and so are those before it
pub one_more : (words items : List ℕ) (i x : ℕ) → i < length words
    → ((k : ℕ) → k < i → get_elem? items k ≡ some (slice_index words k)) → get_elem? items i ≡ some x → (k : ℕ) → k < i + 1
    → get_elem? items k ≡ some (slice_index (slice_set words i x) k)
one_more words items i x there before at k lt = more_at words items i x k _ there before at lt (eqb_tells k i)

-- the account of all seats has all that was added
pub sums_at_end : (words : List ℕ) (accounts : List Account) (id : ℕ) (v : Account) (seats : ℕ)
    → AreSums seats words accounts → get_elem? accounts id ≡ some v → v.seats ≡ seats
    → AreSumsOf v.calls words
sums_at_end words accounts id v seats rule at all i lt =
    let same = total_alone i accounts id v rule.blank at (rule.whole ∙ sym all) in
    rw same at (rule.sums i lt)
