use Rattle.std.proofs.Common.{◌≡◌, ◌*◌, ℕ, length, rules, arith, sym, ap, subst, ◌∙◌}
use Rattle.std.specs.List.{sum_by}
use Rattle.bq_history.specs.History.{EachOnce, IsRecorded, PlacesRise}
use Rattle.bq_history.proofs.RecordingLemmas.{each_map}
use Rattle.bq_par.specs.Shifts.{IsShift}
use Rattle.bq_par.specs.Ticks.{one_tick}
use Rattle.bq_par.proofs.CountLemmas.{all_items, same_many, total_times}
use Rattle.bq_par.proofs.ShiftLemmas.{shift_counts, ticks_of}
use Rattle.bq_par.proofs.summary.finish.Goals as goal

pub close-history-requires : goal.close-history-requires
close-history-requires g c =
    let owned : EachOnce c.args.machine.recorder.history.callers c.in_ok-seats.field-0.seats.items =
    rw (← c.deref.ensures.value) (c.owns.ensures.0 c.if-not-owns.false) in
    (search rules, (omega arith, owned))

pub counted-requires : goal.counted-requires
counted-requires g c =
    let back = c.in_ok-seats.field-0 in
    let r = c.close-history.ensures.receipts in
    let many = same_many (λ s. s.1) (λ v. v.items) back.seats.items back.lists.items back.same in
    record {
      stand =
          rw c.deref-2.ensures.value (all_items (λ s. s.1) (λ v. v.items) (IsRecorded c.close-history.result.history)
          (λ s. PlacesRise 0 s.1) back.seats.items back.lists.items back.same r.stand);
      few = rw c.deref-2.ensures.value (omega (arith, many, r.many, c.len-events.ensures, c.len-events.type_inv));
    }

pub returns : goal.returns
returns g c =
    let back = c.in_ok-seats.field-0 in
    let stated = c.in_ok-seats.ensures in
    let r = c.close-history.ensures.receipts in
    let many : length back.seats.items ≡ g.row.P = stated.many ∙ c.requires.many in
    let owned : EachOnce c.args.machine.recorder.history.callers back.seats.items =
    rw (← c.deref.ensures.value) (c.owns.ensures.0 c.if-not-owns.false) in
    let each =
    each_map (λ s. IsShift s.0 c.args.ticks s.1) (λ s. ticks_of s.1 ≡ c.args.ticks) back.seats.items
    (λ s shift. shift_counts s.0 c.args.ticks s.1 shift) stated.shifts in
    record {
      world = c.close-history.result.core;
      callers = back.seats.items;
      is_history = c.close-history.ensures.history;
      receipts = r;
      many = many;
      numbers = subst (λ (n : ℕ). EachOnce n back.seats.items) c.requires.callers owned;
      shifts = stated.shifts;
      events = c.len-events.ensures;
      ticked = c.in_ok-ticks.ensures.ticks;
      asked =
          c.in_ok-ticks.ensures.ticks
          ∙ (sym (r.counts one_tick)
          ∙ (total_times (λ s. ticks_of s.1) c.args.ticks back.seats.items each ∙ ap (λ (n : ℕ). n * c.args.ticks) many));
      confirmed =
          c.in_ok-ticks.ensures.confirmed
          ∙ (ap (λ vs. sum_by (λ v. length v.items) vs) c.deref-2.ensures.value
          ∙ same_many (λ s. s.1) (λ v. v.items) back.seats.items back.lists.items back.same);
    }
