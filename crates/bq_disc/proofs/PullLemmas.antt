-- The task that is pulled, as a queue names it, and the laws of pulling.
use Rattle.std.proofs.Common.{◌≡◌, ◌≢◌, ℕ, ◌+◌, ◌-◌, ◌≤◌, Bool, true, false, List, [], ◌∷◌, take, Option, Some, None, refl, ap, arith}
use Rattle.std.specs.Prelude.{Contains, IfSome, nat_le, if◌then◌else◌}
use Rattle.std.specs.List.{slice_get}
use Rattle.std.proofs.lemmas.Bool.Decides.{nat_tests}
use Rattle.bq_disc.specs.Tasks.{Task, id_of, first_by, runs_before}
use Rattle.bq_disc.specs.Queues.{can_use}
use Rattle.bq_disc.specs.Rising.{IsRising}
use Rattle.bq_disc.specs.Movable.{movable_to, ids}
use Rattle.bq_disc.specs.Orders.{first_by-member, first_by-exists}
use Rattle.bq_disc.specs.Pulls.{pulled_before, movable, pull_of, IsLawfulPull}
use Rattle.bq_disc.proofs.SetLemmas.{IsOrder, first_by-same, first_by-least, IfSome-weaker}
use Rattle.bq_disc.proofs.SameSumLemmas.{HasDistinctIds-filter, Contains-filter, filter-Contains, SameSet-filter}
use Rattle.bq_disc.proofs.GreatestLemmas.{greatest_named}

-- the test whether the source has at least two tasks more than the puller, both ways
two_more : (puller_size source_size : ℕ) → puller_size + 2 ≤ source_size → nat_le (puller_size + 2) source_size ≡ true
two_more puller_size source_size l = grind (arith, nat_tests)

are_two_more : (puller_size source_size : ℕ) → nat_le (puller_size + 2) source_size ≡ true → puller_size + 2 ≤ source_size
are_two_more puller_size source_size e = grind (arith, nat_tests)

-- where the difference is two at least, it is the first that a queue names
pub pulls_first_named : (processor puller_size source_size : ℕ) (queue : List Task) (named : List ℕ)
    → 2 ≤ source_size - puller_size → IsRising queue → named ≡ take 8 (ids (movable_to processor queue))
    → slice_get named 0 ≡ id_of (pull_of processor puller_size source_size queue)
pulls_first_named processor puller_size source_size queue named l h e =
    rw (two_more puller_size source_size (omega (arith, l))) (greatest_named processor queue named h e)

-- to compare tasks by greatest (v, id) first is an order
pulled_before-IsOrder : IsOrder pulled_before
pulled_before-IsOrder = record {
  one_way = λ a b h. grind (arith, nat_tests);
  passes_on = λ a b c h k. grind (arith, nat_tests);
  apart = λ a b h k. grind (arith, nat_tests);
}

-- a list that contains a task is not empty
not_empty : (xs : List Task) (t : Task) → Contains xs t → xs ≢ []
not_empty [] t c e = omega (arith, c.1)
not_empty (x ∷ xs) t c e = cc

-- what holds of the first holds of it where it is pulled
if_pulled : (b : Bool) (o : Option Task) (P : Task → Type 0) → IfSome o P → IfSome (if b then o else None) P
if_pulled true o P h = h
if_pulled false o P h = tt

-- a task is pulled only if the source has at least two tasks more than the puller
if_enough : (b : Bool) (puller_size source_size : ℕ) (o : Option Task) → nat_le (puller_size + 2) source_size ≡ b
    → IfSome (if b then o else None) (λ t. puller_size + 2 ≤ source_size)
if_enough true puller_size source_size None e = tt
if_enough true puller_size source_size (Some t) e = are_two_more puller_size source_size e
if_enough false puller_size source_size o e = tt

-- the first movable task to be pulled is one of the queue and may use the processor
first_movable : (processor : ℕ) (queue : List Task)
    → IfSome (first_by pulled_before (movable processor queue)) (λ t. Contains queue t × (can_use processor t ≡ true))
first_movable processor queue =
    IfSome-weaker (first_by pulled_before (movable processor queue)) (Contains (movable processor queue))
    (λ t. Contains queue t × (can_use processor t ≡ true)) (Contains-filter (can_use processor) queue)
    (first_by-member pulled_before (movable processor queue))

-- no movable task of the queue has a greater (v, id) than the first to be pulled
none_greater : (processor : ℕ) (queue : List Task)
    → IfSome (first_by pulled_before (movable processor queue))
    (λ t. (u : Task) → Contains queue u → can_use processor u ≡ true → runs_before t u ≡ false)
none_greater processor queue =
    IfSome-weaker (first_by pulled_before (movable processor queue))
    (λ t. (u : Task) → Contains (movable processor queue) u → pulled_before u t ≡ false)
    (λ t. (u : Task) → Contains queue u → can_use processor u ≡ true → runs_before t u ≡ false)
    (λ t h u c k. h u (filter-Contains (can_use processor) queue u c.0 c.1 c.2 k))
    (first_by-least pulled_before pulled_before-IsOrder (movable processor queue))

-- the rule by which a task is pulled meets the laws of pulling
pub pull_is_lawful : IsLawfulPull pull_of
pull_is_lawful = record {
  exists = λ processor puller_size source_size queue t l c k.
      rw (two_more puller_size source_size l) (first_by-exists pulled_before (movable processor queue)
      (not_empty (movable processor queue) t (filter-Contains (can_use processor) queue t c.0 c.1 c.2 k)));
  fewer = λ processor puller_size source_size queue. if_enough (nat_le (puller_size + 2) source_size) puller_size source_size (first_by pulled_before (movable processor queue)) refl;
  member = λ processor puller_size source_size queue.
      if_pulled (nat_le (puller_size + 2) source_size) (first_by pulled_before (movable processor queue)) _ (first_movable processor queue);
  greatest = λ processor puller_size source_size queue.
      if_pulled (nat_le (puller_size + 2) source_size) (first_by pulled_before (movable processor queue)) _ (none_greater processor queue);
  same = λ processor puller_size source_size xs ys dx dy s.
      ap (λ o. if nat_le (puller_size + 2) source_size then o else None)
      (first_by-same pulled_before pulled_before-IsOrder (movable processor xs) (movable processor ys)
      (HasDistinctIds-filter (can_use processor) xs dx) (HasDistinctIds-filter (can_use processor) ys dy)
      (SameSet-filter (can_use processor) xs ys s));
}
