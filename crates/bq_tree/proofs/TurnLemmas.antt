-- What hangs from a root that makes way for a node of its higher side, and how high that is.
use Rattle.std.proofs.Common.{◌≡◌, ℕ, ◌+◌, ◌<◌, ◌≤◌, ◌^◌, max, List, Option, Box, Global, ◌∷◌, ◌++◌, length, length-append, subst, sym, ap, ◌∙◌, append_assoc, arith}
use Rattle.bq_disc.specs.Tasks.{Task}
use Rattle.bq_disc.specs.declared.node.Node.{Node, out-Node}
use Rattle.bq_tree.specs.Trees.{Knowledge, in_order_behind}

-- a left side in front of its root: the order as it hangs from the side's own root
pub order_from_left : (all a b c : List Task) (side top : Option (Box Node Global)) (x y : Task)
    → all ≡ in_order_behind side ++ y ∷ c → side ≡ top → in_order_behind top ≡ a ++ x ∷ b
    → all ≡ a ++ x ∷ (b ++ y ∷ c)
order_from_left all a b c side top x y e is f =
    e ∙ ap (λ l. l ++ y ∷ c) (ap in_order_behind is ∙ f) ∙ append_assoc a (x ∷ b) (y ∷ c)

-- a right side behind its root, likewise
pub order_from_right : (all a b c : List Task) (side top : Option (Box Node Global)) (x y : Task)
    → all ≡ a ++ x ∷ in_order_behind side → side ≡ top → in_order_behind top ≡ b ++ y ∷ c
    → all ≡ a ++ x ∷ (b ++ y ∷ c)
order_from_right all a b c side top x y e is f = e ∙ ap (λ l. a ++ x ∷ l) (ap in_order_behind is ∙ f)

-- of three lists with a task between each, the two first taken together
pub order_of_left : (all a b c : List Task) (x y : Task) → all ≡ a ++ x ∷ (b ++ y ∷ c) → all ≡ (a ++ x ∷ b) ++ y ∷ c
order_of_left all a b c x y e = e ∙ sym (append_assoc a (x ∷ b) (y ∷ c))

-- what lies between two tasks, cut at a task of its own
pub order_from_middle : (all a b c d : List Task) (side middle : Option (Box Node Global)) (x m y : Task)
    → all ≡ a ++ x ∷ (in_order_behind side ++ y ∷ d) → side ≡ middle → in_order_behind middle ≡ b ++ m ∷ c
    → all ≡ (a ++ x ∷ b) ++ m ∷ (c ++ y ∷ d)
order_from_middle all a b c d side middle x m y e is f =
    e ∙ ap (λ l. a ++ x ∷ (l ++ y ∷ d)) (ap in_order_behind is ∙ f) ∙ ap (λ l. a ++ x ∷ l) (append_assoc b (m ∷ c) (y ∷ d))
    ∙ sym (append_assoc a (x ∷ b) (m ∷ (c ++ y ∷ d)))

-- of three lists with a task between each, the two first have fewer tasks than all, and the two last too
pub few_of_three : (all a b c : List Task) (x y : Task) → all ≡ a ++ x ∷ (b ++ y ∷ c) → length all ≤ 2 ^ 16
    → (length a + length b < 2 ^ 16) × (length b + length c < 2 ^ 16)
few_of_three all a b c x y e h =
    let n = ap length e in
    let k = length-append a (x ∷ (b ++ y ∷ c)) in
    let l = length-append b (y ∷ c) in
    (omega arith, omega arith)

-- of two pairs of lists with a task between each, each pair has fewer tasks than all
pub few_of_pairs : (all a b c d : List Task) (x m y : Task) → all ≡ (a ++ x ∷ b) ++ m ∷ (c ++ y ∷ d) → length all ≤ 2 ^ 16
    → (length a + length b < 2 ^ 16) × (length c + length d < 2 ^ 16)
few_of_pairs all a b c d x m y e h =
    let n = ap length e in
    let k = length-append (a ++ x ∷ b) (m ∷ (c ++ y ∷ d)) in
    let l = length-append a (x ∷ b) in
    let j = length-append c (y ∷ d) in
    (omega arith, omega arith)

-- what is known of a list by a node, at the same node and the same list
pub knows_same : (knows : Knowledge) (xs ys : List Task) (n m : Node)
    → knows xs (out-Node n).due (out-Node n).totals → m ≡ n → xs ≡ ys
    → knows ys (out-Node m).due (out-Node m).totals
knows_same knows xs ys n m h e f =
    subst (λ (k : Node). knows ys (out-Node k).due (out-Node k).totals) (sym e)
    (subst (λ l. knows l (out-Node n).due (out-Node n).totals) f h)

-- lists that are the same around the same task
pub same_around : (all a b c d : List Task) (x y : Task) → all ≡ a ++ x ∷ b → y ≡ x → c ≡ a → d ≡ b → all ≡ c ++ y ∷ d
same_around all a b c d x y e f g h = e ∙ sym (λ i. g i ++ f i ∷ h i)

-- a side that is higher than another is not empty
pub higher_side : (high low side : ℕ) → high ≡ low + 2 → side ≡ high → side ≡ 0 → ⊥
higher_side high low side a b c = omega arith

-- the inner side of a top whose outer side is lower is not empty
pub higher_inner : (outer inner left right : ℕ) → left ≡ outer → right ≡ inner → left < right → inner ≡ 0 → ⊥
higher_inner outer inner left right a b c d = omega arith

-- a root is as high whichever of its sides is named first
pub same_height_swapped : (a b : ℕ) → max a b + 1 ≡ max b a + 1
same_height_swapped a b = omega arith

-- where the outer side of the top is as high as the inner one, all becomes as high as the higher side was, or one higher
pub single_height : (high low top outer inner left right other below crown : ℕ)
    → high ≡ low + 2 → top ≡ high → other ≡ low → top ≡ max outer inner + 1 → left ≡ outer → right ≡ inner → right ≤ left
    → outer ≤ inner + 1 → below ≡ max inner other + 1 → crown ≡ max outer below + 1
    → (high ≤ crown) × (crown ≤ high + 1)
single_height high low top outer inner left right other below crown a b o c k l d e f g =
    (omega arith, omega arith)

-- where its inner side is higher than the outer one, all becomes as high as the higher side was
pub double_height : (high low top outer inner left right near far other before after crown : ℕ)
    → high ≡ low + 2 → top ≡ high → other ≡ low → top ≡ max outer inner + 1 → left ≡ outer → right ≡ inner → left < right
    → inner ≤ outer + 1 → inner ≡ max near far + 1 → before ≡ max outer near + 1 → after ≡ max far other + 1
    → crown ≡ max before after + 1
    → (high ≤ crown) × (crown ≤ high + 1)
double_height high low top outer inner left right near far other before after crown a b o c k l d e f g h i =
    let inner_is : inner ≡ low + 1 = omega arith in
    let outer_is : outer ≡ low = omega arith in
    let before_is : before ≡ low + 1 = omega arith in
    let after_is : after ≡ low + 1 = omega arith in
    (omega arith, omega arith)
