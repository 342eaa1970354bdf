-- How high a balanced tree is, at most: 14 for 1,024 nodes, 22 for 65,536.
use Rattle.std.proofs.Common.{◌≡◌, ℕ, zero, suc, ◌+◌, ◌-◌, ◌*◌, ◌<◌, ◌≤◌, ◌^◌, max, Bool, true, false, nat_lt, nat_le, ◌∷◌, length, length-append, Option, Some, None, Box, Global, refl, arith}
use Rattle.std.proofs.Math.Pow.{pow_mono}
use Rattle.std.proofs.Math.Nat.{pow-suc}
use Rattle.std.proofs.lemmas.Bool.Decides.{nat_tests}
use Rattle.bq_tree.specs.Trees.{Knowledge, IsTree, IsTreeHeld, IsTreeBehind, in_order, in_order_held, in_order_behind, height_of, height_held, height_behind, DifferByAtMost}
use Rattle.bq_disc.specs.declared.node.Node.{Node, Node', Held-Node-left, None', Some'}

-- the fewest nodes of a balanced tree of some height, and of the next height
abbrev fewest_two : ℕ → ℕ × ℕ
fewest_two zero = (0, 1)
fewest_two (suc n) = let p = fewest_two n in (p.1, p.0 + p.1 + 1)

-- the fewest nodes of a balanced tree of some height
abbrev pub fewest : ℕ → ℕ
fewest n = (fewest_two n).0

-- the fewest nodes rise with the height, but to no more than twice as many and one, by cases: one level, any number of levels
rises : (n : ℕ) → ((fewest_two n).0 ≤ (fewest_two n).1) × ((fewest_two n).1 ≤ 2 * (fewest_two n).0 + 1)
rises zero = (omega arith, omega arith)
rises (suc n) = let h = rises n in (omega arith, omega arith)

mono : (k a b : ℕ) → b ≡ k + a → fewest a ≤ fewest b
mono zero a b e = let f : b ≡ a = omega arith in rw f (omega arith)
mono (suc k) a b e =
    let f : b ≡ suc (k + a) = omega arith in
    rw f (omega (arith, mono k a (k + a) refl, rises (k + a)))

-- if two balanced sides have at least the fewest nodes of their heights, so has the node above them
fork_by_tests : (a b k l : ℕ) (p q : Bool) → nat_lt a b ≡ p → nat_lt b a ≡ q → DifferByAtMost 1 a b
    → fewest a ≤ k → fewest b ≤ l
    → fewest (max a b + 1) ≤ k + l + 1
fork_by_tests a b k l true q e f d h i =
    let b_is : b ≡ suc a = grind (arith, nat_tests) in
    let top : max a b + 1 ≡ suc (suc a) = omega arith in
    let j = rw b_is at i in
    rw top (omega arith)
fork_by_tests a b k l false true e f d h i =
    let a_is : a ≡ suc b = grind (arith, nat_tests) in
    let top : max a b + 1 ≡ suc (suc b) = omega arith in
    let j = rw a_is at h in
    rw top (omega arith)
fork_by_tests a b k l false false e f d h i =
    let same : b ≡ a = grind (arith, nat_tests) in
    let top : max a b + 1 ≡ suc a = omega arith in
    let j = rw same at i in
    let r = rises a in
    rw top (omega arith)

mutual
  fewest_node : (knows : Knowledge) (n : Node) → IsTree knows n → fewest (height_of n) ≤ length (in_order n)
  fewest_node knows (Node' entity left right due totals height) h =
      let a = fewest_held knows left h.0 in
      let b = fewest_held knows right h.1 in
      let both =
      fork_by_tests (height_held left) (height_held right) (length (in_order_held left)) (length (in_order_held right))
      (nat_lt (height_held left) (height_held right)) (nat_lt (height_held right) (height_held left)) refl refl h.2 a b in
      let count = length-append (in_order_held left) (entity ∷ in_order_held right) in
      rw h.3 (omega (arith, both, count))

  fewest_held : (knows : Knowledge) (n : Held-Node-left) → IsTreeHeld knows n → fewest (height_held n) ≤ length (in_order_held n)
  fewest_held knows None' h = omega arith
  fewest_held knows (Some' p n) h = fewest_node knows n h

-- a tree has at least the fewest nodes that one of its height may have
pub fewest_behind : (knows : Knowledge) (o : Option (Box Node Global))
    → IsTreeBehind knows o → fewest (height_behind o) ≤ length (in_order_behind o)
fewest_behind knows None h = omega arith
fewest_behind knows (Some b) h = fewest_node knows b.value h

-- n nodes that are fewer than the fewest of height m + 1 have height at most m
low_by_test : (m h n : ℕ) (b : Bool) → nat_le h m ≡ b → fewest h ≤ n → n < fewest (m + 1) → h ≤ m
low_by_test m h n true e f l = grind (arith, nat_tests)
low_by_test m h n false e f l =
    let above : m + 1 ≤ h = grind (arith, nat_tests) in
    absurd (omega (arith, mono (h - (m + 1)) (m + 1) h (omega arith)))

-- at most 1,024 nodes have height at most 14
pub low_of_few : (knows : Knowledge) (o : Option (Box Node Global))
    → IsTreeBehind knows o → length (in_order_behind o) ≤ 1024 → height_behind o ≤ 14
low_of_few knows o h l =
    let top : fewest 15 ≡ 1596 = refl in
    low_by_test 14 (height_behind o) (length (in_order_behind o)) (nat_le (height_behind o) 14) refl
    (fewest_behind knows o h) (omega (arith, top))

-- at most 65,536 nodes have height at most 22
pub low_of_many : (knows : Knowledge) (o : Option (Box Node Global))
    → IsTreeBehind knows o → length (in_order_behind o) ≤ 2 ^ 16 → height_behind o ≤ 22
low_of_many knows o h l =
    let top : fewest 23 ≡ 75024 = refl in
    low_by_test 22 (height_behind o) (length (in_order_behind o)) (nat_le (height_behind o) 22) refl
    (fewest_behind knows o h) (omega (arith, top))

-- a node whose sides have fewer nodes than levels allow has itself fewer than its levels allow
full_by : (a b m k l : ℕ) → a ≤ m → b ≤ m → k < 2 ^ a → l < 2 ^ b → k + l + 1 < 2 ^ (m + 1)
full_by a b m k l p q h i =
    let x : 2 ^ a ≤ 2 ^ m = pow_mono p in
    let y : 2 ^ b ≤ 2 ^ m = pow_mono q in
    let z : 2 ^ suc m ≡ 2 ^ m * 2 = pow-suc 2 m in
    let e : m + 1 ≡ suc m = omega arith in
    rw (e, z) (omega arith)

mutual
  full_node : (knows : Knowledge) (n : Node) → IsTree knows n → length (in_order n) < 2 ^ height_of n
  full_node knows (Node' entity left right due totals height) h =
      let a = full_held knows left h.0 in
      let b = full_held knows right h.1 in
      let both =
      full_by (height_held left) (height_held right) (max (height_held left) (height_held right))
      (length (in_order_held left)) (length (in_order_held right)) (omega arith) (omega arith) a b in
      let count = length-append (in_order_held left) (entity ∷ in_order_held right) in
      rw h.3 (omega (arith, both, count))

  full_held : (knows : Knowledge) (n : Held-Node-left) → IsTreeHeld knows n → length (in_order_held n) < 2 ^ height_held n
  full_held knows None' h = omega arith
  full_held knows (Some' p n) h = full_node knows n h

-- a tree of some height has no more nodes than levels allow
pub full_behind : (knows : Knowledge) (o : Option (Box Node Global))
    → IsTreeBehind knows o → length (in_order_behind o) < 2 ^ height_behind o
full_behind knows None h = omega arith
full_behind knows (Some b) h = full_node knows b.value h
