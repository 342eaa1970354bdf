-- The columns of a map: how long runs, in the order in which they begin, last between two moments.
use Rattle.std.proofs.Common.{◌≡◌, ◌∙◌, ℕ, suc, ◌+◌, ◌<◌, ◌≤◌, Bool, true, false, List, [], ◌∷◌, ◌++◌, length, get_or, take, drop, refl, sym, ap, add-one, arith, subst, inl, inr, ◌*◌}
use Rattle.std.specs.Prelude.{if◌then◌else◌, nat_le, nat_lt, sum_by}
use Rattle.std.specs.List.{prefix_len}
use Rattle.std.specs.List.Sorted.{IsNonDecreasingBy, IsPermutation}
use Rattle.std.proofs.Math.Nat.{suc-mul}
use Rattle.std.proofs.lemmas.Bool.{cases_lt}
use Rattle.std.proofs.lemmas.Bool.Decides.{nat_tests}
use Rattle.std.proofs.lemmas.List.{get_or-drop, get_or-take, get_or_push, get_or_append_left, length-drop, length-take, length_push}
use Rattle.std.proofs.lemmas.List.Sorted.{sum_by-IsPermutation}
use Rattle.std.proofs.lemmas.List.Sums.{prefix_len_passes, prefix_len_stops, prefix_len-le-length, sum_by-cons, sum_by-take-drop}
use Rattle.bq_schedule.specs.declared.slice.Slice.{Slice}
use Rattle.bq_report.specs.declared.map_row.Column.{Column}
use Rattle.bq_report.specs.declared.map_row.Column.TheVariants.{Task, Hidden, Idle}
use Rattle.bq_report.specs.Longest.{IsLongest, LastAsLong, time_between}
use Rattle.bq_report.specs.declared.grid.Grid.{Grid}
use Rattle.bq_report.specs.Maps.{AreColumns, IsColumn, RunsNone, idle_between, moment_at}
use Rattle.bq_report.proofs.LongestLemmas.{share}

-- runs in the order in which they begin
abbrev pub InOrder : List Slice → Type 0
InOrder runs = IsNonDecreasingBy (λ (run : Slice). run.from) runs

-- what counts nothing adds nothing, on a condition or in a sum:
if_zero : (b : Bool) (n : ℕ) → n ≡ 0 → (if b then n else 0) ≡ 0
if_zero true n h = h
if_zero false n h = refl

all_zero : (f : Slice → ℕ) (runs : List Slice) → ((k : ℕ) (d : Slice) → k < length runs → f (get_or runs k d) ≡ 0) → sum_by f runs ≡ 0
all_zero f [] h = refl
all_zero f (run ∷ runs) h =
    let here : f run ≡ 0 = h 0 run (omega arith) in
    let rest : sum_by f runs ≡ 0 = all_zero f runs (λ k d lt. h (suc k) d (omega arith)) in
    omega (arith, sum_by-cons f run runs, here, rest)

-- a number that is not less than another is no less, and one that a test finds to be at most another is:
lt_false : (x y : ℕ) → nat_lt x y ≡ false → y ≤ x
lt_false x y h = grind (arith, nat_tests)

le_true : (x y : ℕ) → nat_le x y ≡ true → x ≤ y
le_true x y h = grind (arith, nat_tests)

-- a run that begins no earlier than the second of two moments, or is over by the first, lasts no time between them:
later_zero : (from to : ℕ) (run : Slice) → to ≤ run.from → time_between from to run ≡ 0
later_zero from to run h = omega arith

over_zero : (from to : ℕ) (run : Slice) → run.to ≤ from → time_between from to run ≡ 0
over_zero from to run h = omega arith

-- of runs in order those that begin before a moment count as all do, where one that begins later counts for nothing
begun_sum : (count : Slice → ℕ) (runs : List Slice) (to n : ℕ) → n ≡ prefix_len (λ (run : Slice). nat_lt run.from to) runs → InOrder runs
    → ((run : Slice) → to ≤ run.from → count run ≡ 0) → sum_by count (take n runs) ≡ sum_by count runs
begun_sum count runs to n is order none =
    let later : (k : ℕ) (d : Slice) → k < length (drop n runs) → count (get_or (drop n runs) k d) ≡ 0 = λ k d lt.
    let there : n + k < length runs = omega (arith, lt, length-drop n runs) in
    let first : n < length runs = omega (arith, there) in
    let stops : to ≤ (get_or runs n d).from = lt_false _ to (subst (λ m. nat_lt (get_or runs m d).from to ≡ false) (sym is)
    (prefix_len_stops (λ (run : Slice). nat_lt run.from to) runs d (subst (λ m. m < length runs) is first))) in
    let behind : (get_or runs n d).from ≤ (get_or runs (n + k) d).from = order n (n + k) d (omega arith) there in
    rw (get_or-drop n runs k d) (none (get_or runs (n + k) d) (omega (arith, stops, behind))) in
    omega (arith, sum_by-take-drop count runs n, all_zero count (drop n runs) later)

-- of runs in order those that begin before a moment last as long as all do, up to that moment
pub begun_times : (runs : List Slice) (to n : ℕ) → n ≡ prefix_len (λ (run : Slice). nat_lt run.from to) runs → InOrder runs
    → (from : ℕ) → LastAsLong from to (take n runs) runs
begun_times runs to n is order from = record {
  each = λ task. begun_sum (share from to task) runs to n is order (λ run h. if_zero _ _ (later_zero from to run h));
  all = begun_sum (time_between from to) runs to n is order (later_zero from to);
}

-- runs at the head that are over at a moment count for nothing, where one that is over then does not
left_sum : (count : Slice → ℕ) (runs : List Slice) (at n : ℕ) → n ≡ prefix_len (λ (run : Slice). nat_le run.to at) runs
    → ((run : Slice) → run.to ≤ at → count run ≡ 0) → sum_by count (drop n runs) ≡ sum_by count runs
left_sum count runs at n is none =
    let past : (k : ℕ) (d : Slice) → k < length (take n runs) → count (get_or (take n runs) k d) ≡ 0 = λ k d lt.
    let under : k < n = omega (arith, lt, length-take n runs) in
    let ends : (get_or runs k d).to ≤ at =
    le_true _ at (prefix_len_passes (λ (run : Slice). nat_le run.to at) runs k d (subst (λ m. k < m) is under)) in
    rw (get_or-take n runs k d under) (none (get_or runs k d) ends) in
    omega (arith, sum_by-take-drop count runs n, all_zero count (take n runs) past)

-- runs without those at the head that are over at a moment last as long after it
pub left_times : (runs : List Slice) (at n : ℕ) → n ≡ prefix_len (λ (run : Slice). nat_le run.to at) runs
    → (from to : ℕ) → at ≤ from → LastAsLong from to (drop n runs) runs
left_times runs at n is from to after = record {
  each = λ task. left_sum (share from to task) runs at n is (λ run h. if_zero _ _ (over_zero from to run (omega (arith, h, after))));
  all = left_sum (time_between from to) runs at n is (λ run h. over_zero from to run (omega (arith, h, after)));
}

-- no more runs are over than there are
pub within_runs : (runs : List Slice) (at n : ℕ) → n ≡ prefix_len (λ (run : Slice). nat_le run.to at) runs → n ≤ length runs
within_runs runs at n is = omega (arith, prefix_len-le-length (λ (run : Slice). nat_le run.to at) runs, is)

-- what is left of runs in order is in order
pub left_order : (runs : List Slice) (n : ℕ) → InOrder runs → InOrder (drop n runs)
left_order runs n order i j d le lt =
    rw (get_or-drop n runs i d, get_or-drop n runs j d) (order (n + i) (n + j) d (omega arith) (omega (arith, lt, length-drop n runs)))

-- the order of runs makes no time longer
pub sorted_times : (old new : List Slice) → IsPermutation old new → (from to : ℕ) → LastAsLong from to new old
sorted_times old new same from to = record {
  each = λ task. sum_by-IsPermutation (share from to task) old new same;
  all = sum_by-IsPermutation (time_between from to) old new same;
}

-- by runs that last as long the same task runs longest, and none runs where none did:
longest_as : (from to : ℕ) (a b : List Slice) (task : ℕ) → LastAsLong from to a b → IsLongest from to a task → IsLongest from to b task
longest_as from to a b task same l = record {
  there = l.there;
  some = omega (arith, same.each task, l.some);
  most = λ other h. omega (arith, same.each task, same.each other, l.most other h);
  first = λ other h. omega (arith, same.each task, same.each other, l.first other h);
}

none_as : (from to : ℕ) (a b : List Slice) → LastAsLong from to a b → RunsNone from to a → RunsNone from to b
none_as from to a b same none task h = sym (same.each task) ∙ none task h

-- runs that last as long as runs that last as long
last_through : (from to : ℕ) (a b c : List Slice) → LastAsLong from to a b → LastAsLong from to b c → LastAsLong from to a c
last_through from to a b c one two = record { each = λ task. one.each task ∙ two.each task; all = one.all ∙ two.all }

-- if some runs last as long as others, the others last as long as they
last_turned : (from to : ℕ) (a b : List Slice) → LastAsLong from to a b → LastAsLong from to b a
last_turned from to a b same = record { each = λ task. sym (same.each task); all = sym same.all }

-- nothing runs for as long
idle_as : (from to : ℕ) (a b a' b' : List Slice) → LastAsLong from to a a' → LastAsLong from to b b'
    → idle_between from to (record { shown = a; hidden = b }) ≡ idle_between from to (record { shown = a'; hidden = b' })
idle_as from to a b a' b' shown hidden = omega (arith, shown.all, hidden.all)

-- a column is the same by runs that last as long
pub column_as : (from to : ℕ) (a b a' b' : List Slice) (c : Column) → LastAsLong from to a a' → LastAsLong from to b b'
    → IsColumn (record { shown = a; hidden = b }) from to c → IsColumn (record { shown = a'; hidden = b' }) from to c
column_as from to a b a' b' (Task task) shown hidden is = (
  longest_as from to a a' task shown is.0,
  omega (arith, is.1, idle_as from to a b a' b' shown hidden, shown.each task),
)
column_as from to a b a' b' Hidden shown hidden is =
    (none_as from to a a' shown is.0, omega (arith, is.1, idle_as from to a b a' b' shown hidden, hidden.all))
column_as from to a b a' b' Idle shown hidden is = (
  λ task h. omega (arith, is.0 task h, idle_as from to a b a' b' shown hidden, shown.each task),
  λ none. omega (
    arith,
    is.1 (none_as from to a' a (last_turned from to a a' shown) none),
    idle_as from to a b a' b' shown hidden,
    hidden.all,
  ),
)

-- one more column stands behind those before it
pub each_more : (Is : ℕ → Column → Type 0) (columns : List Column) (number : ℕ) (c : Column) → length columns ≡ number
    → ((n : ℕ) → n < number → Is n (get_or columns n Idle)) → Is number c
    → (n : ℕ) → n < number + 1 → Is n (get_or (columns ++ (c ∷ [])) n Idle)
each_more Is columns number c count each is n lt = elim (cases_lt n number) [
  | inl h ↦ subst (Is n) (sym (get_or_append_left columns (c ∷ []) Idle n (omega (arith, h, count)))) (each n h)
  | inr h ↦
      let same : n ≡ number = omega (arith, h, lt) in
      subst (λ m. Is m (get_or (columns ++ (c ∷ [])) m Idle)) (sym same)
      (subst (Is number) (sym (get_or_push columns c Idle number count)) is)
]

-- a column begins no earlier than the one before it
moments_rise : (g : Grid) (n : ℕ) → moment_at g n ≤ moment_at g (n + 1)
moments_rise g n =
    let more : (n + 1) * g.step ≡ n * g.step + g.step = ap (λ m. m * g.step) (add-one n) ∙ suc-mul n g.step in
    omega (arith, more)

-- runs that are left in order, and last as long as all of them between two moments of which the first is no earlier than this one
pub record IsLeft (at : ℕ) (all left : List Slice) : Type 0 where
  pub order : InOrder left
  pub times : (from to : ℕ) → at ≤ from → LastAsLong from to left all

-- fewer are left at a later column
pub left_fewer : (g : Grid) (n at : ℕ) (all left next : List Slice) → at ≡ moment_at g (n + 1) → IsLeft (moment_at g n) all left
    → InOrder next → ((from to : ℕ) → at ≤ from → LastAsLong from to next left)
    → IsLeft (moment_at g (n + 1)) all next
left_fewer g n at all left next is are order fewer = record {
  order = order;
  times = λ from to h. last_through from to next left all (fewer from to (omega (arith, h, is)))
      (are.times from to (omega (arith, h, moments_rise g n)));
}

-- the columns before this one
pub record ColumnsBelow (shown hidden : List Slice) (g : Grid) (number : ℕ) (columns : List Column) : Type 0 where
  pub count : length columns ≡ number
  pub each : (n : ℕ) → n < number
      → IsColumn (record { shown = shown; hidden = hidden }) (moment_at g n) (moment_at g (n + 1)) (get_or columns n Idle)

-- a column by the runs that are left is one by all of them
pub below_more : (shown hidden : List Slice) (g : Grid) (number from to : ℕ) (columns next : List Column) (left others : List Slice) (c : Column)
    → ColumnsBelow shown hidden g number columns → IsLeft (moment_at g number) shown left → IsLeft (moment_at g number) hidden others
    → from ≡ moment_at g number → to ≡ moment_at g (number + 1) → IsColumn (record { shown = left; hidden = others }) from to c
    → next ≡ columns ++ (c ∷ []) → ColumnsBelow shown hidden g (number + 1) next
below_more shown hidden g number from to columns next left others c below one two begins ends is more =
    let all : IsColumn (record { shown = shown; hidden = hidden }) from to c
    = column_as from to left others shown hidden c (one.times from to (omega (arith, begins))) (two.times from to (omega (arith, begins))) is in
    subst (λ cs. ColumnsBelow shown hidden g (number + 1) cs) (sym more) (record {
      count = length_push columns c ∙ ap (λ n. n + 1) below.count;
      each =
          each_more (λ n column. IsColumn (record { shown = shown; hidden = hidden }) (moment_at g n) (moment_at g (n + 1)) column)
          columns number c below.count below.each
          (subst (λ m. IsColumn (record { shown = shown; hidden = hidden }) (moment_at g number) m c) ends
          (subst (λ m. IsColumn (record { shown = shown; hidden = hidden }) m to c) begins all));
    })

-- the columns of runs in another order are those of the runs as they came
columns_sorted : (shown hidden shown' hidden' : List Slice) (g : Grid) (columns : List Column)
    → IsPermutation shown shown' → IsPermutation hidden hidden'
    → AreColumns (record { shown = shown'; hidden = hidden' }) g columns
    → AreColumns (record { shown = shown; hidden = hidden }) g columns
columns_sorted shown hidden shown' hidden' g columns one two are = record {
  count = are.count;
  each = λ n lt.
      column_as (moment_at g n) (moment_at g (n + 1)) shown' hidden' shown hidden
      (get_or columns n Idle) (sorted_times shown shown' one (moment_at g n) (moment_at g (n + 1)))
      (sorted_times hidden hidden' two (moment_at g n) (moment_at g (n + 1))) (are.each n lt);
}

-- the columns of sorted runs are those of the runs as they came
pub columns_as_sorted : (shown hidden shown' hidden' a b : List Slice) (g : Grid) (columns : List Column)
    → IsPermutation shown shown' → IsPermutation hidden hidden' → a ≡ shown' → b ≡ hidden'
    → AreColumns (record { shown = a; hidden = b }) g columns
    → AreColumns (record { shown = shown; hidden = hidden }) g columns
columns_as_sorted shown hidden shown' hidden' a b g columns one two ea eb are =
    columns_sorted shown hidden a b g columns (subst (λ l. IsPermutation shown l) (sym ea) one)
    (subst (λ l. IsPermutation hidden l) (sym eb) two) are
