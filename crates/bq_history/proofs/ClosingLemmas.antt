-- What is known of the whole where one holder has the parts, the journal and the callers.
use Rattle.std.proofs.Common.{◌≡◌, ℕ, List, [], ◌∷◌, ◌≤◌, ◌++◌, Bool, map, refl, sym, ap, subst, ◌∙◌, arith}
use Rattle.bq_history.specs.Whole.{count, Each, Has}
use Rattle.bq_history.specs.History.{IsHistory, SharesOut, SharesOutAmong}
use Rattle.bq_history.specs.Items.{part_item, journal_item, caller_of, parts_of, callers_of, IsGood, fits_item, same_item}
use Rattle.bq_history.specs.declared.shared_state.Receipt.{Receipt}
use Rattle.bq_history.specs.declared.shared_state.SharedState.{SharedState}
use Rattle.bq_history.specs.declared.shared_state.Item.{Item}
use Rattle.bq_history.specs.declared.shared_state.Item.TheVariants.{Part}
use Rattle.bq_history.proofs.MoveLemmas.{count-append}
use Rattle.bq_history.proofs.RecordingLemmas.{count_parts, has_parts}
use lib.ListN.{get_elem?}
use mathlib.Core.Option.{some}

-- a map that changes nothing
pub map_self : {A : Type 0} (xs : List A) → map (λ (x : A). x) xs ≡ xs
map_self [] = refl
map_self (x ∷ xs) = ap (λ ys. x ∷ ys) (map_self xs)

module _ {A : Type 0} (P : A → Type 0) where
  each_front : (xs ys : List A) → Each P (xs ++ ys) → Each P xs
  each_front [] ys h = tt
  each_front (x ∷ xs) ys h = (h.0, each_front xs ys h.1)

  each_back : (xs ys : List A) → Each P (xs ++ ys) → Each P ys
  each_back [] ys h = h
  each_back (x ∷ xs) ys h = each_back xs ys h.1

module _ {R : Type 0} (P : Type 0) (D : Type 0) where
  parts_none : (cs : List (ℕ × List (Receipt R))) → parts_of {R = R} {P = P} {D = D} (map caller_of cs) ≡ []
  parts_none [] = refl
  parts_none (c ∷ cs) = parts_none cs

  parts_there : (ps : List P) (cs : List (ℕ × List (Receipt R))) → parts_of {D = D} (map part_item ps ++ map caller_of cs) ≡ ps
  parts_there [] cs = parts_none cs
  parts_there (p ∷ ps) cs = ap (λ (x : List P). p ∷ x) (parts_there ps cs)

  callers_all : (cs : List (ℕ × List (Receipt R))) → callers_of {P = P} {D = D} (map caller_of cs) ≡ cs
  callers_all [] = refl
  callers_all (c ∷ cs) = ap (λ (x : List (ℕ × List (Receipt R))). c ∷ x) (callers_all cs)

  callers_there : (ps : List P) (cs : List (ℕ × List (Receipt R))) → callers_of {D = D} (map part_item ps ++ map caller_of cs) ≡ cs
  callers_there [] cs = callers_all cs
  callers_there (p ∷ ps) cs = callers_there ps cs

module _ {R P D : Type 0} where
  -- what parts and callers joined are made of
  pub parts_joined : (v : List (Item R P D)) (ps : List P) (cs : List (ℕ × List (Receipt R)))
      → v ≡ map part_item ps ++ map caller_of cs → parts_of v ≡ ps
  parts_joined v ps cs is = ap (λ (x : List (Item R P D)). parts_of x) is ∙ parts_there P D ps cs

  -- the callers among the joined items
  pub callers_joined : (v : List (Item R P D)) (ps : List P) (cs : List (ℕ × List (Receipt R)))
      → v ≡ map part_item ps ++ map caller_of cs → callers_of v ≡ cs
  callers_joined v ps cs is = ap (λ (x : List (Item R P D)). callers_of x) is ∙ callers_there P D ps cs

  -- the joined items are their parts and then their callers
  pub joined : (v : List (Item R P D)) (ps : List P) (cs : List (ℕ × List (Receipt R)))
      → v ≡ map part_item ps ++ map caller_of cs
      → v ≡ map part_item (parts_of v) ++ map caller_of (callers_of v)
  joined v ps cs is = rw (parts_joined v ps cs is, callers_joined v ps cs is) is

module _ {R P D W : Type 0} (step : W → R → W → Type 0) (kept : W → D) (same : P → P → Bool) (fits : W → P → Type 0) where
  lists_of_callers : (t : SharedState R W) (cs : List (ℕ × List (Receipt R)))
      → Each (fits_item {P = P} kept fits t) (map caller_of cs)
      → Each (λ (c : ℕ × List (Receipt R)). get_elem? t.lists c.0 ≡ some c.1) cs
  lists_of_callers t [] h = tt
  lists_of_callers t (c ∷ cs) h = (h.0, lists_of_callers t cs h.1)

  -- the history, the world that it leaves, that no part is there twice, and the receipts
  abbrev pub Known : W → ℕ → List P → List R → D → List (ℕ × List (Receipt R)) → Type 0
  Known opening n ps log d cs =
      ((w : W) × IsHistory step opening log w × (kept w ≡ d) × Each (fits w) ps) × ((p : P) → count (same p) ps ≤ 1)
      × SharesOutAmong log n cs

  knows : (opening : W) (n : ℕ) (ps : List P) (log : List R) (d : D) (cs : List (ℕ × List (Receipt R)))
      → Has (same_item same) (IsGood step opening n) (fits_item kept fits)
      ((map part_item ps ++ map caller_of cs) ++ journal_item log d ∷ [])
      → Known opening n ps log d cs
  knows opening n ps log d cs e =
      let t = e.0 in
      let first : Each (fits_item kept fits t) (map part_item ps ++ map caller_of cs) =
      each_front (fits_item kept fits t) (map part_item ps ++ map caller_of cs) (journal_item log d ∷ []) e.3 in
      let j = each_back (fits_item kept fits t) (map part_item ps ++ map caller_of cs) (journal_item log d ∷ []) e.3 in
      let same_log : t.log ≡ log = sym j.0.0 in (
        (
          t.world,
          subst (λ (k : List R). IsHistory step opening k t.world) same_log e.1.0,
          sym j.0.1,
          has_parts kept fits t ps (each_front (fits_item kept fits t) (map part_item ps) (map caller_of cs) first),
        ),
        (λ p.
            let l = e.2 (Part p) in
            let a =
            count-append (same_item {R = R} {D = D} same (Part p)) (map part_item ps ++ map caller_of cs)
            (journal_item log d ∷ []) in
            let b = count-append (same_item {R = R} {D = D} same (Part p)) (map part_item ps) (map caller_of cs) in
            let k = count_parts R D same p ps in
            omega arith),
        record {
          lists = t.lists;
          many = e.1.1;
          share_out = subst (λ (k : List R). SharesOut k t.lists) same_log e.1.2;
          theirs = lists_of_callers t cs (each_back (fits_item kept fits t) (map part_item ps) (map caller_of cs) first);
        },
      )

  -- the history, its world, the parts and the receipts, where the items are known by an equation
  pub knows_at : (opening : W) (n : ℕ) (ps : List P) (log : List R) (d : D) (cs : List (ℕ × List (Receipt R)))
      (v : List (Item R P D))
      → v ≡ (map part_item ps ++ map caller_of cs) ++ journal_item log d ∷ []
      → Has (same_item same) (IsGood step opening n) (fits_item kept fits) v
      → Known opening n ps log d cs
  knows_at opening n ps log d cs v is e =
      knows opening n ps log d cs (subst (Has (same_item same) (IsGood step opening n) (fits_item kept fits)) is e)
