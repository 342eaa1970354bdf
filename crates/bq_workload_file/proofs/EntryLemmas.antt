-- The entries of a table as members.
use Rattle.std.proofs.Common.{◌≡◌, ◌≢◌, ℕ, ◌+◌, ◌<◌, List, [], ◌∷◌, ◌++◌, length, get_or, drop, option_and_then, ◌∙◌, Some, None, string_bytes, String, Global, slice_get, refl, ap, sym, subst, append_assoc, append-nil, arith}
use Rattle.toml.specs.declared.value.Value.{Value}
use Rattle.toml.specs.Data.{Members, as_table}
use Rattle.toml.specs.View.{view, items_view, members_view}
use Rattle.toml.proofs.Views.{Entry, items_view-drop}
use Rattle.bq_workload.specs.declared.action.Action.{Action}
use Rattle.bq_workload_file.specs.Actions.{action_of, actions_with, named_at}
use Rattle.bq_workload_file.specs.Lengths.{ends_of}
use Rattle.bq_workload.specs.declared.workload.TaskKind.{TaskKind}
use Rattle.bq_workload_file.specs.Tables.{only_of}
use Rattle.bq_workload_file.specs.Workloads.{AreKinds, AreTableNames, AreOthers, IsKind, name_in_table}

-- where there is no one entry
pub only-none : (es : List Entry) → length es ≢ 1 → None ≡ only_of (members_view es)
only-none [] h = refl
only-none (e ∷ []) h = absurd (h refl)
only-none (e ∷ f ∷ es) h = refl

-- where there is one entry it is the only one
pub only-one : (es : List Entry) (k : String Global) (v : Value)
    → length es ≡ 1 → slice_get es 0 ≡ Some (k, v)
    → Some (string_bytes k, view v) ≡ only_of (members_view es)
only-one [] k v h e = cc
only-one (x ∷ []) k v h e = let same : x ≡ (k, v) = cc in ap (λ (y : Entry). Some (string_bytes y.0, view y.1)) (sym same)
only-one (x ∷ y ∷ es) k v h e = absurd (omega (arith, h))

-- a list of values that are not two has no two ends
pub ends-none : (vs : List Value) → length vs ≢ 2 → None ≡ ends_of (items_view vs)
ends-none [] h = refl
ends-none (v ∷ []) h = refl
ends-none (v ∷ w ∷ []) h = absurd (h refl)
ends-none (v ∷ w ∷ x ∷ vs) h = refl

-- the next value of a list is an action, and the others are read behind it
pub actions-more : (names : List (String Global)) (acts : List Action) (vs : List Value) (i : ℕ) (v : Value) (a : Action)
    → i < length vs → v ≡ get_or vs i v → Some a ≡ action_of names (view v)
    → actions_with names acts (items_view (drop i vs)) ≡ actions_with names (acts ++ a ∷ []) (items_view (drop (i + 1) vs))
actions-more names acts vs i v a h e f =
    ap (actions_with names acts) (items_view-drop vs i v h)
    ∙ ap (option_and_then (λ (b : Action). actions_with names (acts ++ b ∷ []) (items_view (drop (i + 1) vs))))
    (ap (λ (w : Value). action_of names (view w)) (sym e) ∙ sym f)

-- some values that are kinds of tasks, and one more, are the kinds and one more
pub AreKinds-more : (names : List (String Global)) (all : ℕ) (vs : List Value) (ks : List TaskKind) (v : Value) (k : TaskKind)
    → AreKinds names all (items_view vs) ks → (ms : Members) → as_table (view v) ≡ Some ms → IsKind names all ms k
    → AreKinds names all (items_view (vs ++ v ∷ [])) (ks ++ k ∷ [])
AreKinds-more names all [] [] v k h ms t d = ((ms, t, d), tt)
AreKinds-more names all [] (l ∷ ks) v k h ms t d = absurd h
AreKinds-more names all (w ∷ vs) [] v k h ms t d = absurd h
AreKinds-more names all (w ∷ vs) (l ∷ ks) v k h ms t d = (h.0, AreKinds-more names all vs ks v k h.1 ms t d)

-- some values that are kinds of tasks, at least one, are one kind at least
pub some-kinds : (names : List (String Global)) (all : ℕ) (vs : List Value) (ks : List TaskKind)
    → AreKinds names all (items_view vs) ks → 0 < length vs → 0 < length ks
some-kinds names all [] ks h some = absurd (omega (arith, some))
some-kinds names all (v ∷ vs) [] h some = absurd h
some-kinds names all (v ∷ vs) (k ∷ ks) h some = omega arith

-- some values that are names, and one more, are the names and one more
pub AreNames-more : (vs : List Value) (ns : List (String Global)) (v : Value) (n : String Global)
    → AreTableNames (items_view vs) ns → name_in_table (view v) ≡ Some (string_bytes n)
    → AreTableNames (items_view (vs ++ v ∷ [])) (ns ++ n ∷ [])
AreNames-more [] [] v n h e = (e, tt)
AreNames-more [] (m ∷ ns) v n h e = absurd h
AreNames-more (w ∷ vs) [] v n h e = absurd h
AreNames-more (w ∷ vs) (m ∷ ns) v n h e = (h.0, AreNames-more vs ns v n h.1 e)

-- names that are new each, to those before and to one another, stay so with a new name at their end
pub AreOthers-more : (before names : List (String Global)) (n : String Global)
    → AreOthers before names → named_at (before ++ names) (string_bytes n) ≡ None
    → AreOthers before (names ++ n ∷ [])
AreOthers-more before [] n h new =
    (subst (λ (all : List (String Global)). named_at all (string_bytes n) ≡ None) (append-nil before) new, tt)
AreOthers-more before (x ∷ names) n h new = (
  h.0,
  AreOthers-more (before ++ x ∷ []) names n h.1
      (subst (λ (all : List (String Global)). named_at all (string_bytes n) ≡ None) (sym (append_assoc before (x ∷ []) names)) new),
)
