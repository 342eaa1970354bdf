-- The tree, its first key and its table of times stay sound when a task comes or goes.
use Rattle.std.proofs.Common.{◌≡◌, ◌≢◌, ℕ, ◌+◌, ◌<◌, ◌≤◌, ◌^◌, true, false, cond, eqb, List, [], ◌∷◌, ◌++◌, length, length-append, IfSome, ap, sym, ◌∙◌, Option, Some, None, Box, Global, refl, slice_index, slice_set, get_or-set_other, arith}
use Rattle.std.specs.Option.{option_map_or}
use Rattle.std.proofs.lemmas.Bool.Decides.{nat_tests}
use Rattle.bq_disc.specs.Tasks.{Task, find_task, inserted, runs_before}
use Rattle.bq_disc.specs.Queues.{HasDistinctIds, HasSmallIds, key_of}
use Rattle.bq_tree.specs.Trees.{Knowledge, IsTreeBehind, in_order_behind}
use Rattle.bq_disc.specs.declared.node.Node.{Node}
use Rattle.bq_disc.proofs.QueueLemmas.{length-few, length-inserted, HasDistinctIds-inserted, HasSmallIds-inserted, HasDistinctIds-without, HasSmallIds-without}
use Rattle.bq_tree.specs.Taking.{TakesOut}
use Rattle.bq_tree.specs.Sound.{Knows, IsSound, first_key, lesser_of}
use Rattle.bq_disc.proofs.RisingLemmas.{IsRising-inserted}
use Rattle.bq_tree.proofs.OrderLemmas.{IsRising-drop}
use Rattle.bq_tree.proofs.SoundLemmas.{Knows-inserted, Knows-drop, without-amid}

-- an id that fails the test for equality with another is not the same
apart_by : (i id k : ℕ) → i ≡ id → eqb k id ≡ false → k ≢ i
apart_by i id k same e = λ q. grind (arith, nat_tests)

-- a time written at one id leaves what the table has at another
pub set_apart : (xs : List ℕ) (i id k v : ℕ) → i ≡ id → eqb k id ≡ false → slice_index (slice_set xs i v) k ≡ slice_index xs k
set_apart xs i id k v same e = let ne = apart_by i id k same e in rw get_or-set_other refl

-- with one more task there is room for it
pub room_for_one_more : (t : Task) (xs : List Task) → HasDistinctIds xs → HasSmallIds xs
    → find_task t.id xs ≡ None → t.id < 2 ^ 16
    → length xs < 2 ^ 16
room_for_one_more t xs d s n l =
    let few = length-few (inserted t xs) (HasDistinctIds-inserted t xs n d) (HasSmallIds-inserted t xs l s) in
    omega (arith, length-inserted t xs, few)

-- when a task comes, the first key is the lesser of its key and the old first key
first_placed : (t : Task) (xs : List Task) → Some (lesser_of (key_of t) (first_key xs)) ≡ first_key (inserted t xs)
first_placed t [] = refl
first_placed t (x ∷ xs) =
    elim (runs_before t x) as (λ b. Some (cond b (key_of t) (key_of x)) ≡ first_key (cond b (t ∷ x ∷ xs) (x ∷ inserted t xs))) [
      | true ↦ refl
      | false ↦ refl
    ]

-- with a task of a new id in its place a tree is sound again, if its first key and its table were renewed for that task
pub sound_inserted : (knows : Knowledge) (len : ℕ) (old new : Option (Box Node Global)) (least : Option (ℕ × ℕ))
    (key : ℕ × ℕ) (times later : List ℕ) (t : Task)
    → IsSound knows old len least times → key ≡ lesser_of (key_of t) least → key.0 ≤ 2 ^ 62 → IsTreeBehind knows new
    → in_order_behind new ≡ inserted t (in_order_behind old) → find_task t.id (in_order_behind old) ≡ None
    → t.id < 2 ^ 16 → ((xs : List Task) → find_task t.id xs ≡ None → Knows times xs → Knows later xs)
    → (t.id < 1024 → slice_index later t.id ≡ t.v)
    → IsSound knows new (len + 1) (Some key) later
sound_inserted knows len old new least key times later t s lesser high tree e n l others here =
    let xs = in_order_behind old in
    record {
      tree = tree;
      len_is = omega (arith, s.len_is, ap length e, length-inserted t xs);
      rising = rw e (IsRising-inserted t xs s.rising);
      distinct = rw e (HasDistinctIds-inserted t xs n s.distinct);
      small = rw e (HasSmallIds-inserted t xs l s.small);
      leads = ap (λ k. Some k) (lesser ∙ ap (λ o. lesser_of (key_of t) o) s.leads) ∙ first_placed t xs ∙ ap first_key (sym e);
      high = high;
      knows = rw e (Knows-inserted later t xs here (others xs n s.knows));
    }

-- the first key stays when a task leaves that is not the first
first_by_test : (xs : List Task) (t : Task) (ys : List Task) (least : Option (ℕ × ℕ))
    → least ≡ first_key (xs ++ t ∷ ys) → option_map_or (λ (k : ℕ × ℕ). eqb k.1 t.id) least false ≡ false
    → least ≡ first_key (xs ++ ys)
first_by_test [] t ys least e n =
    let here = ap (λ o. option_map_or (λ (k : ℕ × ℕ). eqb k.1 t.id) o false) e in
    let same : eqb t.id t.id ≡ true = grind (arith, nat_tests) in
    cc
first_by_test (x ∷ xs) t ys least e n = e

-- the tree stays sound when a task goes, with the key of the task that is now the first
pub sound_taken : (knows : Knowledge) (len left : ℕ) (old new : Option (Box Node Global)) (was least : Option (ℕ × ℕ))
    (times : List ℕ) (v id : ℕ) (t : Task)
    → IsSound knows old len was times → len ≡ left + 1 → IsTreeBehind knows new
    → TakesOut v id (in_order_behind old) (Some t) (in_order_behind new) → least ≡ first_key (in_order_behind new)
    → IfSome least (λ key. key.0 ≤ 2 ^ 62)
    → IsSound knows new left least times
sound_taken knows len left old new was least times v id x s one tree t leads high =
    let distinct = rw t.4 at s.distinct in
    let out = without-amid t.0 x t.1 distinct in
    record {
      tree = tree;
      len_is = omega (arith, s.len_is, one, ap length t.4, ap length t.5, length-append t.0 (x ∷ t.1), length-append t.0 t.1);
      rising = rw t.5 (IsRising-drop t.0 x t.1 (rw t.4 at s.rising));
      distinct = rw (t.5, ← out) (HasDistinctIds-without x.id (t.0 ++ x ∷ t.1) distinct);
      small = rw (t.5, ← out) (HasSmallIds-without x.id (t.0 ++ x ∷ t.1) (rw t.4 at s.small));
      leads = leads;
      high = high;
      knows = rw t.5 (Knows-drop times t.0 x t.1 (rw t.4 at s.knows));
    }

-- the first task stays the first when another goes
pub leads_on : (all : List Task) (rest : List Task) (least : Option (ℕ × ℕ)) (v id : ℕ) (t : Task)
    → least ≡ first_key all → TakesOut v id all (Some t) rest → option_map_or (λ (k : ℕ × ℕ). eqb k.1 id) least false ≡ false
    → least ≡ first_key rest
leads_on all rest least v id x e t n =
    first_by_test t.0 x t.1 least (e ∙ ap first_key t.4) (rw t.3 n) ∙ ap first_key (sym t.5)
