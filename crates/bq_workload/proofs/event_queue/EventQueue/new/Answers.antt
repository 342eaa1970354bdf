use Rattle.std.proofs.Common.{◌≡◌, ap, ◌∙◌, replicate, inl, length, rules}
use Rattle.std.proofs.lemmas.List.{length-replicate}
use Rattle.bq_workload.specs.Minima.{never_due}
use Rattle.bq_workload.proofs.TreeLemmas.{never-minima, never-ranks}
use Rattle.bq_workload.proofs.event_queue.EventQueue.new.Goals as goal

pub invariant_of-result : goal.invariant_of-result
invariant_of-result c =
    let is : c.in_ok-vec.field-0.items ≡ replicate 4096 never_due = c.in_ok-vec.ensures.items_if_clones_equal (search rules) in (
      ap length is ∙ length-replicate 4096 never_due,
      never-minima _ is,
      (λ rank h. inl (never-ranks _ is rank h)),
      λ rank _ h. never-ranks _ is rank h,
    )

pub returns : goal.returns
returns c = never-ranks _ (c.in_ok-vec.ensures.items_if_clones_equal (search rules))
