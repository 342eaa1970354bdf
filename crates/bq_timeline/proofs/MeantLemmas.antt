-- The nearest name, task after task.
use Rattle.std.proofs.Common.{◌≡◌, ◌+◌, ℕ, List, Bool, true, false, cond, Option, Some, None, ap, sym, refl, ◌∙◌, add-one}
use Rattle.bq_report.specs.Names.{NamedTasks, name_of}
use Rattle.bq_words.specs.Nearness.{edits_before}
use Rattle.bq_timeline.specs.Meant.{edits_after, edits_below, is_nearer, nearest_below}

-- before the first task only the word's length counts
pub edits_none : (named : NamedTasks) (name : List ℕ) → edits_below named name 0 ≡ edits_before name
unfolding edits_below
edits_none named name = refl

-- the fewest edits go on by one more task
pub edits_more : (named : NamedTasks) (name : List ℕ) (task : ℕ)
    → edits_below named name (task + 1) ≡ edits_after (edits_below named name task) name (name_of named task)
unfolding edits_below
edits_more named name task = ap (λ (n : ℕ). edits_below named name n) (add-one task)

-- no task stands before the first
pub nearest_none : (named : NamedTasks) (name : List ℕ) → nearest_below named name 0 ≡ None
unfolding nearest_below
nearest_none named name = refl

-- a task whose name is nearer is the nearest
pub nearest_on : (named : NamedTasks) (name : List ℕ) (before task : ℕ)
    → before ≡ edits_below named name task → is_nearer before name (name_of named task) ≡ true
    → nearest_below named name (task + 1) ≡ Some task
unfolding nearest_below
nearest_on named name before task so_far nearer =
    ap (λ (n : ℕ). nearest_below named name n) (add-one task)
    ∙ ap (λ (b : Bool). cond b (Some task) (nearest_below named name task))
    (ap (λ (e : ℕ). is_nearer e name (name_of named task)) (sym so_far) ∙ nearer)

-- a task whose name is not nearer changes nothing
pub nearest_off : (named : NamedTasks) (name : List ℕ) (before task : ℕ)
    → before ≡ edits_below named name task → is_nearer before name (name_of named task) ≡ false
    → nearest_below named name (task + 1) ≡ nearest_below named name task
unfolding nearest_below
nearest_off named name before task so_far further =
    ap (λ (n : ℕ). nearest_below named name n) (add-one task)
    ∙ ap (λ (b : Bool). cond b (Some task) (nearest_below named name task))
    (ap (λ (e : ℕ). is_nearer e name (name_of named task)) (sym so_far) ∙ further)
