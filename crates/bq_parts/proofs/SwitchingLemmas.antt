-- Whom the current task gives way to, as the queue answers it.
use Rattle.std.proofs.Common.{◌≡◌, ℕ, Bool, true, false, cond, eqb, Some, None, List, refl, arith}
use Rattle.std.proofs.lemmas.Bool.Decides.{nat_tests}
use Rattle.bq_disc.specs.Tasks.{Task}
use Rattle.bq_disc.specs.Discipline.{Discipline, next_of, next_other}

-- if none other than the current task is next, the current one is; if another is, that one is the next
none_by_test : (b : Bool) (n i : ℕ) → eqb n i ≡ b → None ≡ cond b None (Some n) → i ≡ n
none_by_test true n i e h = grind (arith, nat_tests)
none_by_test false n i e h = cc

some_by_test : (b : Bool) (n j : ℕ) → Some j ≡ cond b None (Some n) → j ≡ n
some_by_test true n j h = cc
some_by_test false n j h = cc

-- nobody else is next: the current task itself is
pub next_is_current : (d : Discipline) (t : Task) (queue : List Task) → None ≡ next_other d t queue → t.id ≡ next_of d t queue
next_is_current d t queue h = none_by_test (eqb (next_of d t queue) t.id) (next_of d t queue) t.id refl h

-- a task other than the current one is next
pub next_is_other : (d : Discipline) (t : Task) (queue : List Task) (id : ℕ) → Some id ≡ next_other d t queue → id ≡ next_of d t queue
next_is_other d t queue id h = some_by_test (eqb (next_of d t queue) t.id) (next_of d t queue) id h
