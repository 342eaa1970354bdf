-- Accounts of calls, and what records and receipts tell.
use Rattle.std.proofs.Common.{◌≡◌, ℕ, ◌+◌, List, [], ◌∷◌, ◌++◌, length, map, refl, sym, ap, ◌∙◌, arith, append-nil, append_assoc, length-append}
use Rattle.bq_bpf.specs.declared.board.CounterCall.{CounterCall}
use Rattle.bq_bpf.specs.Counters.{sum_of, Through}
use Rattle.bq_history.specs.Whole.{total}
use Rattle.bq_history.specs.declared.shared_state.Receipt.{Receipt}
use Rattle.bq_history.specs.History.{SharesOutAmong, EachOnce}
use Rattle.bq_history.proofs.CallerLemmas.{callers_total}
use Rattle.bq_history.proofs.SharingLemmas.{receipts_from}
use Rattle.bq_shared.specs.declared.account.Account.{Account}
use Rattle.bq_shared.specs.Sums.{AreSumsOf, joined_accounts, account_called}
use Rattle.bq_shared.proofs.KeepingLemmas.{sum-append}
use Rattle.bq_shared.specs.Calls.{account_of, account_by, ahead, calls_by, calls_in, calls_of}

-- one more at the end of a list whose items were taken over
pub mapped_more : {A B : Type 0} (f : A → B) (v p : List B) (ys : List A) (x y : A)
    → v ≡ p ++ map f ys → y ≡ x → v ++ f y ∷ [] ≡ p ++ map f (ys ++ x ∷ [])
mapped_more f v p ys x y e same =
    ap (λ w. w ++ f y ∷ []) e ∙ (append_assoc p (map f ys) (f y ∷ []) ∙ ap (λ w. p ++ w) (ap (λ z. map f ys ++ f z ∷ []) same ∙ mapped ys))
  where
    mapped : (zs : List _) → map f zs ++ f x ∷ [] ≡ map f (zs ++ x ∷ [])
    mapped [] = refl
    mapped (z ∷ zs) = ap (λ w. f z ∷ w) (mapped zs)

-- what a board went through is in its account
pub through_calling : {B : Type 0} (account : B → Account) (b : B) (made : List CounterCall) (d : B)
    → Through (λ (old : B) (c : CounterCall) (new : B). account new ≡ account_called (account old) c) b made d
    → account d ≡ record { seats = (account b).seats; calls = (account b).calls ++ made }
through_calling account b [] d same =
    ap account same
    ∙ ap (λ (cs : List CounterCall). record { seats = (account b).seats; calls = cs }) (sym (append-nil (account b).calls))
through_calling account b (c ∷ cs) d (m, step, rest) =
    let h = through_calling account m cs d rest in
    h ∙ (ap (λ (a : Account). record { seats = a.seats; calls = a.calls ++ cs }) step
    ∙ ap (λ (x : List CounterCall). record { seats = (account b).seats; calls = x }) (append_assoc (account b).calls (c ∷ []) cs))

module _ {R : Type 0} (calls : R → List CounterCall) where
  -- an account that is ahead by some calls has the calls of its receipts, and then these
  ahead_is : (xs : List (Receipt R)) (made : List CounterCall)
      → ahead calls xs made ≡ record { seats = 1; calls = calls_of calls xs ++ made }
  ahead_is xs [] = ap (λ (cs : List CounterCall). record { seats = 1; calls = cs }) (sym (append-nil (calls_of calls xs)))
  ahead_is xs (c ∷ cs) = refl

  -- after a run on a counter board the account is ahead by the calls of the run
  pub goes_ahead : {B : Type 0} (account : B → Account) (b d : B) (xs : List (Receipt R)) (made : List CounterCall)
      → account b ≡ account_of calls xs
      → Through (λ (old : B) (c : CounterCall) (new : B). account new ≡ account_called (account old) c) b made d
      → account d ≡ ahead calls xs made
  goes_ahead account b d xs made e t =
      through_calling account b made d t
      ∙ (ap (λ (a : Account). record { seats = a.seats; calls = a.calls ++ made }) e ∙ sym (ahead_is xs made))

  -- one more receipt brings its calls behind those of the others
  calls_more : (l : List (Receipt R)) (x : Receipt R) → calls_of calls (l ++ x ∷ []) ≡ calls_of calls l ++ calls x.entry
  calls_more [] x = append-nil (calls x.entry)
  calls_more (y ∷ ys) x =
      ap (λ (cs : List CounterCall). calls y.entry ++ cs) (calls_more ys x)
      ∙ sym (append_assoc (calls y.entry) (calls_of calls ys) (calls x.entry))

  -- one more receipt, which tells the calls by which the account was ahead
  pub catches_up : (l m : List (Receipt R)) (x : Receipt R) (entry : R) (a : Account)
      → a ≡ ahead calls l (calls entry) → x.entry ≡ entry → m ≡ l ++ x ∷ [] → a ≡ account_of calls m
  catches_up l m x entry a is same e =
      let reported : calls x.entry ≡ calls entry = ap calls same in
      is ∙ (ahead_is l (calls entry)
      ∙ (ap (λ (cs : List CounterCall). record { seats = 1; calls = calls_of calls l ++ cs }) (sym reported)
      ∙ (ap (λ (cs : List CounterCall). record { seats = 1; calls = cs }) (sym (calls_more l x))
      ∙ ap (λ (k : List (Receipt R)). account_of calls k) (sym e))))

  -- one more caller brings the calls of its receipts behind those of the others
  calls_by_more : (cs : List (ℕ × List (Receipt R))) (c : ℕ × List (Receipt R))
      → calls_by calls (cs ++ c ∷ []) ≡ calls_by calls cs ++ calls_of calls c.1
  calls_by_more [] c = append-nil (calls_of calls c.1)
  calls_by_more (x ∷ xs) c =
      ap (λ (y : List CounterCall). calls_of calls x.1 ++ y) (calls_by_more xs c)
      ∙ sym (append_assoc (calls_of calls x.1) (calls_by calls xs) (calls_of calls c.1))

  -- the account of some callers, joined with that of one more seat, is the account of all of them
  pub accounts_more : (cs : List (ℕ × List (Receipt R))) (c : ℕ × List (Receipt R)) (a b : Account)
      → a ≡ account_by calls cs → b ≡ account_of calls c.1
      → joined_accounts a b ≡ account_by calls (cs ++ c ∷ [])
  accounts_more cs c a b is is' =
      let long : length cs + 1 ≡ length (cs ++ c ∷ []) = omega (arith, length-append cs (c ∷ [])) in
      ap (λ (x : Account). joined_accounts x b) is
      ∙ (ap (λ (x : Account). joined_accounts (account_by calls cs) x) is'
      ∙ (ap (λ (n : ℕ). record { seats = n; calls = calls_by calls cs ++ calls_of calls c.1 }) long
      ∙ ap (λ (y : List CounterCall). record { seats = length (cs ++ c ∷ []); calls = y }) (sym (calls_by_more cs c))))

  -- what the calls of a seat add to a counter is the sum over its receipts
  sum_list : (i : ℕ) (l : List (Receipt R)) → sum_of i (calls_of calls l) ≡ total (λ (x : Receipt R). sum_of i (calls x.entry)) l
  sum_list i [] = refl
  sum_list i (x ∷ xs) = let h = sum_list i xs in let e = sum-append i (calls x.entry) (calls_of calls xs) in omega (arith, h, e)

  -- what the calls of all callers add to a counter is the sum over their receipts, caller by caller
  sum_callers : (i : ℕ) (callers : List (ℕ × List (Receipt R)))
      → sum_of i (calls_by calls callers)
      ≡ total (λ (c : ℕ × List (Receipt R)). total (λ (x : Receipt R). sum_of i (calls x.entry)) c.1) callers
  sum_callers i [] = refl
  sum_callers i (c ∷ cs) =
      let h = sum_callers i cs in
      let e = sum-append i (calls_of calls c.1) (calls_by calls cs) in let k = sum_list i c.1 in omega (arith, h, e, k)

  -- what the calls in records add to a counter is the sum over the receipts of these records
  sum_reported : (i n : ℕ) (log : List R)
      → sum_of i (calls_in calls log) ≡ total (λ (x : Receipt R). sum_of i (calls x.entry)) (receipts_from n log)
  sum_reported i n [] = refl
  sum_reported i n (r ∷ rs) = let h = sum_reported i (n + 1) rs in let e = sum-append i (calls r) (calls_in calls rs) in omega (arith, h, e)

  -- where the words are the sums of the callers' calls, they are those of the history
  pub sums_of_history : (log : List R) (n : ℕ) (callers : List (ℕ × List (Receipt R))) (words : List ℕ)
      → SharesOutAmong log n callers → EachOnce n callers → AreSumsOf (calls_by calls callers) words
      → AreSumsOf (calls_in calls log) words
  sums_of_history log n callers words shares all sums i lt =
      let same : sum_of i (calls_by calls callers) ≡ sum_of i (calls_in calls log) =
      sum_callers i callers
      ∙ (callers_total (λ (x : Receipt R). sum_of i (calls x.entry)) log n callers shares all ∙ sym (sum_reported i 0 log)) in
      rw (← same) (sums i lt)
