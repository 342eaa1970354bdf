use Rattle.std.proofs.Common.{ap, sym, ◌∙◌}
use Rattle.bq_recording.proofs.opening.Opening.with_queues.Goals as goal

pub part_locks-requires-clause-items : goal.part_locks-requires-clause-items
part_locks-requires-clause-items g c = (c.args.prepared.1.callers, c.recorder_at_start-recorder.ensures.items)

pub seats-requires-clause-all : goal.seats-requires-clause-all
seats-requires-clause-all g c =
    c.in_ok-locks.ensures.rest c.args.seat_count (rw c.requires.counts.1 at c.recorder_at_start-recorder.ensures.items)

pub invariant_of-opening : goal.invariant_of-opening
invariant_of-opening g c =
    let of = c.recorder_at_start-recorder.ensures.history in
    record {
      setup = ap (λ s. s.setup) of ∙ c.requires.counts.0;
      counted = c.in_ok-locks.ensures.cpus;
      one_each = c.in_ok-locks.ensures.inboxes;
      few = c.requires.few;
      seated = sym (ap (λ s. s.callers) of ∙ c.requires.counts.1);
    }
