-- A root one of whose sides took one more task: its order, its totals and its height.
use Rattle.std.proofs.Common.{◌≡◌, ℕ, ◌+◌, ◌≤◌, max, Bool, true, false, nat_le, nat_lt, refl, List, ◌∷◌, ◌++◌, length, Option, Some, Box, Global, ap, sym, ◌∙◌, subst, arith}
use Rattle.std.proofs.lemmas.Bool.Decides.{nat_tests}
use Rattle.bq_disc.specs.Tasks.{Task, inserted, runs_before}
use Rattle.bq_disc.specs.Totals.{sums_of, added, IsBounded}
use Rattle.bq_disc.specs.Dues.{due_of, first_due, earlier_of, earliest_of}
use Rattle.bq_disc.specs.Rising.{IsRising}
use Rattle.bq_tree.specs.Trees.{Knowledge, IsTree, IsFork, IsTreeBehind, in_order, in_order_behind, height_of, height_behind, left_height, right_height, DifferByAtMost, CountsIn, KeepsSides}
use Rattle.bq_disc.specs.declared.node.Node.{Node, out-Node}
use Rattle.bq_disc.proofs.QueueLemmas.{length-inserted}
use Rattle.bq_tree.proofs.OrderLemmas.{IsRising-before, inserted-left, inserted-right}
use Rattle.bq_tree.specs.Knowing.{knows_sums}
use Rattle.bq_tree.proofs.TotalsLemmas.{first_due-inserted, sums_of-inserted}
use Rattle.bq_tree.proofs.NodeLemmas.{on_left, on_right, root_of, in_order-made, left_height-made, right_height-made, height-made, height_of-field, IsFork-made, IsTree-fork, IsRootBehind}

-- a root whose sums count one more task
pub counts_one_more : (n k : Node) (t : Task) → IsTree knows_sums n → KeepsSides n k
    → (out-Node k).due ≡ earlier_of (due_of t) (out-Node n).due → (out-Node k).totals ≡ added (out-Node n).totals t
    → CountsIn knows_sums n k t
counts_one_more n k t tree keeps due totals =
    let r = root_of knows_sums n tree in
    let known = ap first_due r.order ∙ r.known.0 in
    let sums = r.known.1 ∙ ap sums_of (sym r.order) in
    record {
      task = keeps.task;
      left = keeps.left;
      right = keeps.right;
      height = keeps.height;
      counts = (
        first_due-inserted t (in_order n) ∙ ap (λ o. Some (earliest_of (due_of t) o)) known ∙ ap (λ d. Some d) (sym due),
        totals ∙ ap (λ s. added s t) sums ∙ sym (sums_of-inserted t (in_order n)),
      );
    }

-- a task in its place in one side is in its place in the whole, by cases: left, where it runs before the root's; right
left_side : (knows : Knowledge) (n k : Node) (t : Task) (new : List Task)
    → IsTree knows n → CountsIn knows n k t → new ≡ inserted t (in_order_behind (out-Node k).left)
    → runs_before t (out-Node k).entity ≡ true
    → new ++ (out-Node k).entity ∷ in_order_behind (out-Node k).right ≡ inserted t (in_order n)
left_side knows n k t new tree c e b =
    let r = root_of knows n tree in
    let l = in_order_behind (out-Node n).left in
    let x = (out-Node n).entity in
    let here : runs_before t x ≡ true = ap (λ y. runs_before t y) (sym c.task) ∙ b in
    ap (λ xs. xs ++ (out-Node k).entity ∷ in_order_behind (out-Node k).right) (e ∙ ap (λ o. inserted t (in_order_behind o)) c.left)
    ∙ ap (λ y. inserted t l ++ y ∷ in_order_behind (out-Node k).right) c.task
    ∙ ap (λ o. inserted t l ++ x ∷ in_order_behind o) c.right
    ∙ sym (inserted-left t l x (in_order_behind (out-Node n).right) here)
    ∙ ap (λ xs. inserted t xs) (sym r.order)

right_side : (knows : Knowledge) (n k : Node) (t : Task) (new : List Task)
    → IsTree knows n → IsRising (in_order n) → CountsIn knows n k t → new ≡ inserted t (in_order_behind (out-Node k).right)
    → runs_before t (out-Node k).entity ≡ false
    → in_order_behind (out-Node k).left ++ (out-Node k).entity ∷ new ≡ inserted t (in_order n)
right_side knows n k t new tree rising c e b =
    let r = root_of knows n tree in
    let l = in_order_behind (out-Node n).left in
    let x = (out-Node n).entity in
    let q = in_order_behind (out-Node n).right in
    let here : runs_before t x ≡ false = ap (λ y. runs_before t y) (sym c.task) ∙ b in
    let rises = subst IsRising r.order rising in
    ap (λ xs. in_order_behind (out-Node k).left ++ (out-Node k).entity ∷ xs) (e ∙ ap (λ o. inserted t (in_order_behind o)) c.right)
    ∙ ap (λ y. in_order_behind (out-Node k).left ++ y ∷ inserted t q) c.task
    ∙ ap (λ o. in_order_behind o ++ x ∷ inserted t q) c.left
    ∙ sym (inserted-right t l x q here (IsRising-before l x q rises))
    ∙ ap (λ xs. inserted t xs) (sym r.order)

-- a side that may have grown by one, beside the other
record Heights (l r h side : ℕ) : Type 0 where
  pub near : DifferByAtMost 2 side r
  pub low : max side r ≤ h
  pub rises : (new : ℕ) → max side r ≤ new → new ≤ max side r + 1 → (DifferByAtMost 1 side r → new ≡ max side r + 1)
      → (h ≤ new) × (new ≤ h + 1)

-- if the sides were balanced and one rose by one level at most, so does the whole
rises_by_test : (l r side new : ℕ) (b : Bool) → nat_le side (r + 1) ≡ b → DifferByAtMost 1 l r → l ≤ side → side ≤ l + 1
    → max side r ≤ new → new ≤ max side r + 1 → (DifferByAtMost 1 side r → new ≡ max side r + 1)
    → (max l r + 1 ≤ new) × (new ≤ max l r + 2)
rises_by_test l r side new true e d low high more less same =
    let test : side ≤ r + 1 = grind (arith, nat_tests) in
    let is = same (test, omega (arith, d.1)) in
    (omega (arith, d.0, d.1), omega (arith, d.0, d.1))
rises_by_test l r side new false e d low high more less same =
    let test : r + 2 ≤ side = grind (arith, nat_tests) in
    (omega (arith, d.0, d.1), omega (arith, d.0, d.1))

-- two balanced sides of which one rose by one level at most differ by two at most, and the whole rises by one at most
heights : (l r h side : ℕ) → DifferByAtMost 1 l r → h ≡ max l r + 1 → l ≤ side → side ≤ l + 1 → Heights l r h side
heights l r h side d e low high = record {
  near = (omega (arith, d.0, d.1), omega (arith, d.0, d.1));
  low = omega (arith, d.0, d.1);
  rises = λ new more less same.
      let both = rises_by_test l r side new (nat_le side (r + 1)) refl d low high more less same in
      (omega (arith, both.0), omega (arith, both.1));
}

-- the root with its new side, of all that is behind a link
pub record Grows (knows : Knowledge) (link : Option (Box Node Global)) (m : Node) (t : Task) : Type 0 where
  pub fork : IsFork knows m
  pub order : in_order m ≡ inserted t (in_order_behind link)
  pub few : length (in_order m) ≡ length (in_order_behind link) + 1

-- a fork with the root's tasks and one more in its place has all that is behind the link and that task
grown : (knows : Knowledge) (link : Option (Box Node Global)) (n m : Node) (t : Task)
    → IsRootBehind knows link n → IsFork knows m → in_order m ≡ inserted t (in_order n) → Grows knows link m t
grown knows link n m t r fork order =
    let all = order ∙ ap (λ xs. inserted t xs) (sym r.order) in
    record { fork = fork; order = all; few = ap length all ∙ length-inserted t (in_order_behind link) }

-- how high the root may be with its new side
pub record Rises (link : Option (Box Node Global)) (m : Node) : Type 0 where
  pub near : DifferByAtMost 2 (left_height m) (right_height m)
  pub low : max (left_height m) (right_height m) ≤ height_behind link
  pub rises : (new : ℕ) → max (left_height m) (right_height m) ≤ new → new ≤ max (left_height m) (right_height m) + 1
      → (DifferByAtMost 1 (left_height m) (right_height m) → new ≡ max (left_height m) (right_height m) + 1)
      → (height_behind link ≤ new) × (new ≤ height_behind link + 1)

max-comm : (a b : ℕ) → max a b ≡ max b a
max-comm a b = omega arith

-- where a task that runs before the root's came to the left side, the root with that side has all tasks and this one
pub grows_left : (knows : Knowledge) (link : Option (Box Node Global)) (n k : Node) (t : Task)
    (new : Option (Box Node Global))
    → IsRootBehind knows link n → CountsIn knows n k t → IsTreeBehind knows new
    → in_order_behind new ≡ inserted t (in_order_behind (out-Node k).left) → runs_before t (out-Node k).entity ≡ true
    → Grows knows link (on_left k new) t
grows_left knows link n k t new behind c side e b =
    let r = root_of knows n behind.tree in
    let all = left_side knows n k t (in_order_behind new) behind.tree c e b in
    let known = subst (λ xs. knows xs (out-Node k).due (out-Node k).totals) (sym all) c.counts in
    let fork =
    IsFork-made knows (out-Node k).entity new (out-Node k).right (out-Node k).due (out-Node k).totals (out-Node k).height side
    (subst (IsTreeBehind knows) (sym c.right) r.right) (subst IsBounded (sym c.task) r.bounded) known in
    grown knows link n (on_left k new) t behind fork
    (in_order-made (out-Node k).entity new (out-Node k).right (out-Node k).due (out-Node k).totals (out-Node k).height ∙ all)

-- where a task that does not run before the root's came to the right side, the root with that side has all and this one
pub grows_right : (knows : Knowledge) (link : Option (Box Node Global)) (n k : Node) (t : Task)
    (new : Option (Box Node Global))
    → IsRootBehind knows link n → IsRising (in_order_behind link) → CountsIn knows n k t → IsTreeBehind knows new
    → in_order_behind new ≡ inserted t (in_order_behind (out-Node k).right) → runs_before t (out-Node k).entity ≡ false
    → Grows knows link (on_right k new) t
grows_right knows link n k t new behind rising c side e b =
    let r = root_of knows n behind.tree in
    let all = right_side knows n k t (in_order_behind new) behind.tree (subst IsRising behind.order rising) c e b in
    let known = subst (λ xs. knows xs (out-Node k).due (out-Node k).totals) (sym all) c.counts in
    let fork =
    IsFork-made knows (out-Node k).entity (out-Node k).left new (out-Node k).due (out-Node k).totals (out-Node k).height
    (subst (IsTreeBehind knows) (sym c.left) r.left) side (subst IsBounded (sym c.task) r.bounded) known in
    grown knows link n (on_right k new) t behind fork
    (in_order-made (out-Node k).entity (out-Node k).left new (out-Node k).due (out-Node k).totals (out-Node k).height ∙ all)

-- where the left side rose by one level at most, so does the root, once it is balanced
pub rises_left : (knows : Knowledge) (link : Option (Box Node Global)) (n k : Node) (t : Task)
    (new : Option (Box Node Global))
    → IsRootBehind knows link n → CountsIn knows n k t → height_behind (out-Node k).left ≤ height_behind new
    → height_behind new ≤ height_behind (out-Node k).left + 1
    → Rises link (on_left k new)
rises_left knows link n k t new behind c low high =
    let r = root_of knows n behind.tree in
    let a = ap height_behind c.left in
    let h =
    heights (height_behind (out-Node n).left) (height_behind (out-Node n).right) (height_behind link)
    (height_behind new) r.balanced (behind.height ∙ r.height) (omega (arith, a)) (omega (arith, a)) in
    let left = left_height-made (out-Node k).entity new (out-Node k).right (out-Node k).due (out-Node k).totals (out-Node k).height in
    let right =
    right_height-made (out-Node k).entity new (out-Node k).right (out-Node k).due (out-Node k).totals (out-Node k).height
    ∙ ap height_behind c.right in
    record {
      near = rw (left, right) h.near;
      low = rw (left, right) h.low;
      rises = rw (left, right) h.rises;
    }

-- where the right side rose by one level at most, so does the root, once it is balanced
pub rises_right : (knows : Knowledge) (link : Option (Box Node Global)) (n k : Node) (t : Task)
    (new : Option (Box Node Global))
    → IsRootBehind knows link n → CountsIn knows n k t → height_behind (out-Node k).right ≤ height_behind new
    → height_behind new ≤ height_behind (out-Node k).right + 1
    → Rises link (on_right k new)
rises_right knows link n k t new behind c low high =
    let r = root_of knows n behind.tree in
    let a = ap height_behind c.right in
    let x = height_behind (out-Node n).left in
    let h =
    heights (height_behind (out-Node n).right) x (height_behind link) (height_behind new) (r.balanced.1, r.balanced.0)
    (behind.height ∙ r.height ∙ ap (λ m. m + 1) (max-comm x (height_behind (out-Node n).right)))
    (omega (arith, a)) (omega (arith, a)) in
    let left =
    left_height-made (out-Node k).entity (out-Node k).left new (out-Node k).due (out-Node k).totals (out-Node k).height
    ∙ ap height_behind c.left in
    let right = right_height-made (out-Node k).entity (out-Node k).left new (out-Node k).due (out-Node k).totals (out-Node k).height in
    let turn = max-comm x (height_behind new) in
    record {
      near = rw (left, right) (h.near.1, h.near.0);
      low = rw (left, right, turn) h.low;
      rises = rw (left, right, turn) (λ high more less same. h.rises high more less (λ d. same (d.1, d.0)));
    }

-- a height that is not below another, nor above it by the test, is equal to it
not_grown : (a b : ℕ) → a ≤ b → nat_lt a b ≡ false → b ≡ a
not_grown a b l e = grind (arith, nat_tests)

-- of two heights that are equal the one is not below the other, by the test
pub not_below_from_equal : (a b : ℕ) → b ≡ a → false ≡ nat_lt a b
not_below_from_equal a b e = grind (arith, nat_tests)

-- a root whose side has one more task and the same height
pub record Stays (knows : Knowledge) (link : Option (Box Node Global)) (m : Node) : Type 0 where
  pub tree : IsTree knows m
  pub height : height_of m ≡ height_behind link

-- where the left side did not rise, the root with it is a tree as high as before
pub stays_left : (knows : Knowledge) (link : Option (Box Node Global)) (n k : Node) (t : Task)
    (new : Option (Box Node Global))
    → IsRootBehind knows link n → CountsIn knows n k t → IsFork knows (on_left k new)
    → height_behind (out-Node k).left ≤ height_behind new
    → nat_lt (height_behind (out-Node k).left) (height_behind new) ≡ false
    → Stays knows link (on_left k new)
stays_left knows link n k t new behind c fork low test =
    let r = root_of knows n behind.tree in
    let same = not_grown (height_behind (out-Node k).left) (height_behind new) low test in
    let left = ap height_behind c.left in
    let right = ap height_behind c.right in
    record {
      tree =
          IsTree-fork knows (out-Node k).entity new (out-Node k).right (out-Node k).due (out-Node k).totals
          (out-Node k).height fork (omega (arith, r.balanced.0), omega (arith, r.balanced.1))
          (omega (arith, r.height, c.height));
      height =
          height_of-field (on_left k new)
          ∙ height-made (out-Node k).entity new (out-Node k).right (out-Node k).due (out-Node k).totals (out-Node k).height
          ∙ c.height ∙ sym behind.height;
    }

-- where the right side did not rise, the root with it is a tree as high as before
pub stays_right : (knows : Knowledge) (link : Option (Box Node Global)) (n k : Node) (t : Task)
    (new : Option (Box Node Global))
    → IsRootBehind knows link n → CountsIn knows n k t → IsFork knows (on_right k new)
    → height_behind (out-Node k).right ≤ height_behind new
    → nat_lt (height_behind (out-Node k).right) (height_behind new) ≡ false
    → Stays knows link (on_right k new)
stays_right knows link n k t new behind c fork low test =
    let r = root_of knows n behind.tree in
    let same = not_grown (height_behind (out-Node k).right) (height_behind new) low test in
    let left = ap height_behind c.left in
    let right = ap height_behind c.right in
    record {
      tree =
          IsTree-fork knows (out-Node k).entity (out-Node k).left new (out-Node k).due (out-Node k).totals (out-Node k).height
          fork (omega (arith, r.balanced.0), omega (arith, r.balanced.1)) (omega (arith, r.height, c.height));
      height =
          height_of-field (on_right k new)
          ∙ height-made (out-Node k).entity (out-Node k).left new (out-Node k).due (out-Node k).totals (out-Node k).height
          ∙ c.height ∙ sym behind.height;
    }
