-- The names of tasks, as a map keeps them.
use Rattle.std.proofs.Common.{◌≡◌, ◌≢◌, ℕ, Bool, true, false, cond, List, [], ◌∷◌, map, Option, Some, Result, Ok, Err, OnErr, String, string_bytes, BTreeMap, refl, sym, ap, ◌∙◌, subst, arith}
use Rattle.std.specs.BTreeMap.{get, is_at, IsUnchanged}
use Rattle.std.specs.Map.{lookup}
use Rattle.std.specs.Option.{option_map}
use Rattle.std.specs.Ordering.{nat_cmp}
use Rattle.std.proofs.lemmas.Bool.Decides.{nat_tests}
use Rattle.bq_report.specs.Names.{NamedTasks, IsNaming, Learns, name_of}
use Rattle.bq_report.proofs.NamingLemmas.{one_naming}

-- a key is found at an equal number
pub is_at-equal : (a b : ℕ) → a ≡ b → is_at (nat_cmp a) b ≡ true
is_at-equal a b is = grind (arith, nat_tests)

-- a key is found at no other number
pub is_at-other : (a b : ℕ) → a ≢ b → is_at (nat_cmp a) b ≡ false
is_at-other a b not = grind (arith, nat_tests)

-- a result that is no error owes nothing of one
pub where_err : {B E : Type 0} (r : Result B E) (P : Type 0) → P → OnErr r P
where_err (Ok x) P p = tt
where_err (Err e) P p = p

module _ {A : Type 0} where
  -- the names of a map
  abbrev pub names_in : BTreeMap ℕ (String A) → NamedTasks
  names_in m = map (λ e. (e.0, string_bytes e.1)) m.entries

  first : (e : ℕ × String A) (reported : Option (List ℕ)) (rest : Option (String A)) → reported ≡ option_map string_bytes rest → (b : Bool)
      → cond b (Some (string_bytes e.1)) reported ≡ option_map string_bytes (cond b (Some e.1) rest)
  first e reported rest same true = refl
  first e reported rest same false = same

  read : (test : ℕ → Bool) (es : List (ℕ × String A))
      → lookup test (map (λ e. (e.0, string_bytes e.1)) es) ≡ option_map string_bytes (lookup test es)
  read test [] = refl
  read test (e ∷ es) = first e _ _ (read test es) (test e.0)

  -- the name of a task is the text that the map has for it
  pub name_in : (m : BTreeMap ℕ (String A)) (task : ℕ) → name_of (names_in m) task ≡ option_map string_bytes (get nat_cmp m task)
  name_in m task = read (is_at (nat_cmp task)) m.entries

  -- a map with the same entries has the same names
  pub same_names : (old new : BTreeMap ℕ (String A)) → IsUnchanged old new
      → (task : ℕ) → name_of (names_in new) task ≡ name_of (names_in old) task
  same_names old new is task = ap (λ es. name_of (map (λ e. (e.0, string_bytes e.1)) es) task) is

  given : (b : Bool) (s : String A) (o : Option (String A))
      → option_map string_bytes (cond b (Some s) o) ≡ cond b (Some (string_bytes s)) (option_map string_bytes o)
  given true s o = refl
  given false s o = refl

  -- a map that has the name under its task has learnt it, and nothing else
  pub learns : (comment name : List ℕ) (task : ℕ) (old new : BTreeMap ℕ (String A)) (s : String A)
      → ((q : ℕ) → get nat_cmp new q ≡ cond (is_at (nat_cmp task) q) (Some s) (get nat_cmp old q)) → string_bytes s ≡ name
      → IsNaming comment task name → Learns comment (names_in old) (names_in new)
  learns comment name task old new s sets is n = record {
    named = λ t a m.
        let same = one_naming comment task t name a n m in
        now t ∙ ap (λ b. cond b (Some (string_bytes s)) (name_of (names_in old) t)) (is_at-equal task t same.0) ∙ ap Some (is ∙ same.1);
    others = λ t none.
        let other : task ≢ t = λ same. none name (subst (λ u. IsNaming comment u name) same n) in
        now t ∙ ap (λ b. cond b (Some (string_bytes s)) (name_of (names_in old) t)) (is_at-other task t other);
  }
    where
      now : (q : ℕ) → name_of (names_in new) q ≡ cond (is_at (nat_cmp task) q) (Some (string_bytes s)) (name_of (names_in old) q)
      now q = name_in new q ∙ ap (option_map string_bytes) (sets q) ∙ given (is_at (nat_cmp task) q) s (get nat_cmp old q)
          ∙ ap (cond (is_at (nat_cmp task) q) (Some (string_bytes s))) (sym (name_in old q))

-- a comment that names no task teaches nothing
pub learns_nothing : (comment : List ℕ) (names : NamedTasks) → ((task : ℕ) (name : List ℕ) → IsNaming comment task name → ⊥)
    → Learns comment names names
learns_nothing comment names none = record { named = λ t a n. absurd (none t a n); others = λ t same. refl }
