-- What a pull sees, and which part of the rule decides it.
use Rattle.std.specs.Prelude.{◌≡◌, ◌≤◌, ◌+◌, ◌==◌, nat_le, ℕ, if◌then◌else◌, length, take}
use Rattle.bq_disc.specs.declared.limits.TheConstants.{TASKS}
use Rattle.bq_disc.specs.OneProcessor.{Running, present_at}
use Rattle.bq_disc.specs.Movable.{movable_to, ids}
use Rattle.bq_why.specs.declared.pull_facts.PullFacts.{PullFacts}
use Rattle.bq_why.specs.declared.pull_facts.OwnPull.{OwnPull}
use Rattle.bq_why.specs.declared.pull_facts.OwnPull.TheVariants.{TooFew, NoneMayGo, Greatest}
use Rattle.bq_disc.specs.declared.movable.TheConstants.{MOST_NAMED}

-- a pull sees how many tasks run or wait at both processors, how many of the other processor's queue may go, and the first eight of
-- these by falling (v, id)
pub record Sees (puller : ℕ) (here there : Running) (facts : PullFacts) : Type 0 where
  pub size : length (present_at here) ≤ TASKS → facts.size ≡ length (present_at here)
  pub other_size : length (present_at there) ≤ TASKS → facts.other_size ≡ length (present_at there)
  pub count : length there.queue ≤ TASKS → facts.movable.count ≡ length (movable_to puller there.queue)
  pub first : length there.queue ≤ TASKS → facts.movable.first.items ≡ take MOST_NAMED (ids (movable_to puller there.queue))

-- why the discipline takes a task or none, by the sizes of both processors and by how many tasks may go: the other processor's size
-- must be greater by at least two
abbrev pub own_pull_of : ℕ → ℕ → ℕ → OwnPull
own_pull_of size other count = if nat_le (size + 2) other then (if count == 0 then NoneMayGo else Greatest) else TooFew
