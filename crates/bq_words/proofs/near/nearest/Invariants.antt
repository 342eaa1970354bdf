use Rattle.std.proofs.Common.{◌≡◌}
use Rattle.bq_words.specs.Nearness.{after_words}
use Rattle.bq_words.proofs.near.nearest.Given as goal

-- the nearest of the words so far, and how many edits a nearer one may not need
abbrev pub invariant-loop-word : goal.invariant-loop-word
invariant-loop-word g l =
    (l.near ≡ (after_words l.meant l.yielded).0) × (l.best ≡ (after_words l.meant l.yielded).1)
