-- A root that no longer counts a task that has left one of its sides: its totals, its earliest deadline and its tasks.
use Rattle.std.proofs.Common.{◌≡◌, ℕ, ◌*◌, ◌≤◌, true, false, List, ◌∷◌, ◌++◌, append_assoc, length, length-append, Option, Some, None, Box, Global, ap, sym, ◌∙◌, subst, arith}
use Rattle.std.specs.Box.{with_value}
use Rattle.bq_disc.specs.Tasks.{Task}
use Rattle.bq_disc.specs.Queues.{comes_after}
use Rattle.bq_disc.specs.Totals.{sums_of, added}
use Rattle.bq_disc.specs.Dues.{due_of, first_due}
use Rattle.bq_disc.specs.Rising.{IsRising}
use Rattle.bq_tree.specs.Trees.{Knowledge, IsTree, in_order, in_order_behind, StillCounts, KeepsSides, hanging}
use Rattle.bq_disc.specs.declared.node.Node.{Node, out-Node, roll-Node}
use Rattle.bq_disc.specs.declared.totals.Totals.{Totals}
use Rattle.bq_tree.specs.Knowing.{knows_sums}
use Rattle.bq_tree.specs.Taking.{is_task_at, IsAbsent, TakesOut}
use Rattle.bq_tree.proofs.OrderLemmas.{Takes-left, Takes-right}
use Rattle.bq_tree.proofs.NodeLemmas.{IsRootBehind, root_of, on_left, on_right, on_left-same, on_right-same, hanging-made, in_order-hanging}
use Rattle.bq_tree.proofs.TotalsLemmas.{sums_of-cut, added-cancel, first_due-cut, is_same_due, other_is_first}

-- its totals are those of what is left, and of the task
pub totals_with : (n : Node) (t : Task) → StillCounts knows_sums n t → (out-Node n).totals ≡ added (sums_of (hanging n)) t
totals_with n t s = s.3.1 ∙ sums_of-cut s.0 t s.1 ∙ ap (λ xs. added (sums_of xs) t) (sym s.2)

-- the totals are large enough to take a task away
pub record CanRemove (s : Totals) (t : Task) : Type 0 where
  pub count : 1 ≤ s.count
  pub weight : t.weight ≤ s.weight
  pub moment : t.weight * t.v ≤ s.moment

-- the totals of a root that still counts a task are large enough to take it away
pub can_remove : (n : Node) (t : Task) → StillCounts knows_sums n t → CanRemove (out-Node n).totals t
can_remove n t s =
    let e = totals_with n t s in
    record {
      count = omega (arith, ap (λ (r : Totals). r.count) e);
      weight = omega (arith, ap (λ (r : Totals). r.weight) e);
      moment = omega (arith, ap (λ (r : Totals). r.moment) e);
    }

-- totals that become the root's with the task added, where the root still counts it, are those of what is left
pub totals_without : (n : Node) (t : Task) (new : Totals) → StillCounts knows_sums n t → added new t ≡ (out-Node n).totals
    → new ≡ sums_of (hanging n)
totals_without n t new s e = added-cancel new (sums_of (hanging n)) t (e ∙ totals_with n t s)

-- the first that is due stays so, if it is another
pub due_without : (n : Node) (t : Task) → StillCounts knows_sums n t → is_same_due (out-Node n).due (due_of t) ≡ false
    → first_due (hanging n) ≡ Some (out-Node n).due
due_without n t s other =
    ap first_due s.2 ∙ other_is_first (due_of t) (out-Node n).due (first_due (s.0 ++ s.1)) (sym (first_due-cut s.0 t s.1) ∙ s.3.0) other

-- a task left the left side: the root still counts it
pub still_left : (knows : Knowledge) (n : Node) (t : Task) (new : Option (Box Node Global)) (before after : List Task)
    → IsTree knows n → in_order_behind (out-Node n).left ≡ before ++ t ∷ after → in_order_behind new ≡ before ++ after
    → StillCounts knows (on_left n new) t
unfolding out-Node roll-Node denote.Hole.Carrier.out denote.Hole.Carrier.roll
still_left knows n t new before after tree old left =
    let r = root_of knows n tree in
    let e = (out-Node n).entity in
    let right = in_order_behind (out-Node n).right in
    let all : in_order_behind (out-Node n).left ++ e ∷ right ≡ before ++ t ∷ (after ++ e ∷ right) =
    ap (λ xs. xs ++ e ∷ right) old ∙ append_assoc before (t ∷ after) (e ∷ right) in (
      before,
      after ++ e ∷ right,
      hanging-made e new (out-Node n).right (out-Node n).due (out-Node n).totals (out-Node n).height
          ∙ ap (λ xs. xs ++ e ∷ right) left ∙ append_assoc before after (e ∷ right),
      subst (λ xs. knows xs (out-Node n).due (out-Node n).totals) all r.known,
    )

-- a task left the right side: the root still counts it
pub still_right : (knows : Knowledge) (n : Node) (t : Task) (new : Option (Box Node Global)) (before after : List Task)
    → IsTree knows n → in_order_behind (out-Node n).right ≡ before ++ t ∷ after → in_order_behind new ≡ before ++ after
    → StillCounts knows (on_right n new) t
unfolding out-Node roll-Node denote.Hole.Carrier.out denote.Hole.Carrier.roll
still_right knows n t new before after tree old right =
    let r = root_of knows n tree in
    let e = (out-Node n).entity in
    let left = in_order_behind (out-Node n).left in
    let all : left ++ e ∷ in_order_behind (out-Node n).right ≡ (left ++ e ∷ before) ++ t ∷ after =
    ap (λ xs. left ++ e ∷ xs) old ∙ sym (append_assoc left (e ∷ before) (t ∷ after)) in (
      left ++ e ∷ before,
      after,
      hanging-made e (out-Node n).left new (out-Node n).due (out-Node n).totals (out-Node n).height
          ∙ ap (λ xs. left ++ e ∷ xs) right ∙ sym (append_assoc left (e ∷ before) after),
      subst (λ xs. knows xs (out-Node n).due (out-Node n).totals) all r.known,
    )

-- what is left behind a link once a task has left
pub record Loses (link : Option (Box Node Global)) (k : Node) (v id : ℕ) (t : Task) : Type 0 where
  pub taken : TakesOut v id (in_order_behind link) (Some t) (in_order k)
  pub few : length (in_order k) ≤ length (in_order_behind link)

-- what remains of a list when a task is taken out is no longer than the list
fewer : (v id : ℕ) (all : List Task) (t : Task) (rest : List Task) → TakesOut v id all (Some t) rest → length rest ≤ length all
fewer v id all t rest h = omega (arith, ap length h.4, ap length h.5, length-append h.0 (t ∷ h.1), length-append h.0 h.1)

-- if a task is taken out of what hangs from the root, it is taken out of all that is behind the link
loses : (knows : Knowledge) (link : Option (Box Node Global)) (n k : Node) (v id : ℕ) (t : Task) (rest : List Task)
    → IsRootBehind knows link n → hanging k ≡ rest → TakesOut v id (hanging n) (Some t) rest
    → Loses link k v id t
loses knows link n k v id t rest root left taken =
    let whole = root.order ∙ in_order-hanging n in
    let h : TakesOut v id (in_order_behind link) (Some t) (in_order k) = rw (whole, in_order-hanging k, left) taken in
    record { taken = h; few = fewer v id (in_order_behind link) t (in_order k) h }

-- a root that keeps its task and its sides keeps all that hangs from it
hanging-kept : (m k : Node) → KeepsSides m k → hanging k ≡ hanging m
hanging-kept m k h =
    ap (λ o. in_order_behind o ++ (out-Node k).entity ∷ in_order_behind (out-Node k).right) h.left
    ∙ ap (λ e. in_order_behind (out-Node m).left ++ e ∷ in_order_behind (out-Node k).right) h.task
    ∙ ap (λ o. in_order_behind (out-Node m).left ++ (out-Node m).entity ∷ in_order_behind o) h.right

-- where the root comes after (v, id), a task that was taken out of its left side is taken out of the whole
pub loses_left : (knows : Knowledge) (link : Option (Box Node Global)) (n k : Node) (new : Option (Box Node Global))
    (v id : ℕ) (t : Task)
    → IsRootBehind knows link n → IsRising (in_order_behind link) → comes_after v id (out-Node n).entity ≡ true
    → TakesOut v id (in_order_behind (out-Node n).left) (Some t) (in_order_behind new) → KeepsSides (on_left n new) k
    → Loses link k v id t
loses_left knows link n k new v id t root rising after taken kept =
    let e = (out-Node n).entity in
    let right = in_order_behind (out-Node n).right in
    let rises = subst IsRising (root.order ∙ in_order-hanging n) rising in
    let left =
    hanging-kept (on_left n new) k kept
    ∙ hanging-made e new (out-Node n).right (out-Node n).due (out-Node n).totals (out-Node n).height in
    loses knows link n k v id t (in_order_behind new ++ e ∷ right) root left
    (Takes-left v id (in_order_behind (out-Node n).left) e right (Some t) (in_order_behind new) rises after taken)

-- where the root comes before (v, id), a task that was taken out of its right side is taken out of the whole
pub loses_right : (knows : Knowledge) (link : Option (Box Node Global)) (n k : Node) (new : Option (Box Node Global))
    (v id : ℕ) (t : Task)
    → IsRootBehind knows link n → IsRising (in_order_behind link) → comes_after v id (out-Node n).entity ≡ false
    → is_task_at v id (out-Node n).entity ≡ false → TakesOut v id (in_order_behind (out-Node n).right) (Some t) (in_order_behind new)
    → KeepsSides (on_right n new) k
    → Loses link k v id t
loses_right knows link n k new v id t root rising after other taken kept =
    let e = (out-Node n).entity in
    let left = in_order_behind (out-Node n).left in
    let rises = subst IsRising (root.order ∙ in_order-hanging n) rising in
    let rest =
    hanging-kept (on_right n new) k kept
    ∙ hanging-made e (out-Node n).left new (out-Node n).due (out-Node n).totals (out-Node n).height in
    loses knows link n k v id t (left ++ e ∷ in_order_behind new) root rest
    (Takes-right v id left e (in_order_behind (out-Node n).right) (Some t) (in_order_behind new) rises after other taken)

-- what is behind a link where no task was there to take
pub record Keeps (link : Option (Box Node Global)) (b : Box Node Global) (m : Node) (v id : ℕ) : Type 0 where
  pub same : Some (with_value b m) ≡ link
  pub taken : TakesOut v id (in_order_behind link) None (in_order m)

-- if the root stays as it is and no task is at (v, id), the link stays and nothing is taken
keeps : (knows : Knowledge) (link : Option (Box Node Global)) (b : Box Node Global) (n m : Node) (v id : ℕ)
    → link ≡ Some b → n ≡ b.value → IsRootBehind knows link n → m ≡ n → IsAbsent v id (hanging n)
    → Keeps link b m v id
keeps knows link b n m v id e f root same absent =
    let whole = root.order ∙ in_order-hanging n in
    record {
      same = ap (λ x. Some (with_value b x)) (same ∙ f) ∙ sym e;
      taken = (subst (IsAbsent v id) (sym whole) absent, ap in_order same ∙ sym root.order);
    }

-- where the root comes after (v, id) and its left side has no task there, the link stays and the whole has none there
pub keeps_left : (knows : Knowledge) (link : Option (Box Node Global)) (b : Box Node Global) (n : Node)
    (new : Option (Box Node Global)) (v id : ℕ)
    → link ≡ Some b → n ≡ b.value → IsRootBehind knows link n → IsRising (in_order_behind link)
    → comes_after v id (out-Node n).entity ≡ true → new ≡ (out-Node n).left
    → TakesOut v id (in_order_behind (out-Node n).left) None (in_order_behind new)
    → Keeps link b (on_left n new) v id
keeps_left knows link b n new v id e f root rising after same taken =
    let x = (out-Node n).entity in
    let rises = subst IsRising (root.order ∙ in_order-hanging n) rising in
    let whole =
    Takes-left v id (in_order_behind (out-Node n).left) x (in_order_behind (out-Node n).right) None
    (in_order_behind new) rises after taken in
    keeps knows link b n (on_left n new) v id e f root (ap (λ o. on_left n o) same ∙ on_left-same n) whole.0

-- where the root comes before (v, id) and its right side has no task there, the link stays and the whole has none there
pub keeps_right : (knows : Knowledge) (link : Option (Box Node Global)) (b : Box Node Global) (n : Node)
    (new : Option (Box Node Global)) (v id : ℕ)
    → link ≡ Some b → n ≡ b.value → IsRootBehind knows link n → IsRising (in_order_behind link)
    → comes_after v id (out-Node n).entity ≡ false → is_task_at v id (out-Node n).entity ≡ false → new ≡ (out-Node n).right
    → TakesOut v id (in_order_behind (out-Node n).right) None (in_order_behind new)
    → Keeps link b (on_right n new) v id
keeps_right knows link b n new v id e f root rising after other same taken =
    let x = (out-Node n).entity in
    let rises = subst IsRising (root.order ∙ in_order-hanging n) rising in
    let whole =
    Takes-right v id (in_order_behind (out-Node n).left) x (in_order_behind (out-Node n).right) None
    (in_order_behind new) rises after other taken in
    keeps knows link b n (on_right n new) v id e f root (ap (λ o. on_right n o) same ∙ on_right-same n) whole.0
