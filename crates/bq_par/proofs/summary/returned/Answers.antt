use Rattle.std.proofs.Common.{◌≡◌, ◌<◌, ◌-◌, ap, sym, ◌∙◌, arith, rules, IfOk, length, vec_len, slice_index_or}
use Rattle.std.specs.Prelude.{unwrap_or}
use Rattle.std.proofs.lemmas.List.Elements.{All-take}
use Rattle.bq_history.proofs.RecordingLemmas.{each_more}
use Rattle.bq_par.specs.Shifts.{IsShift}
use Rattle.bq_par.proofs.CountLemmas.{same_more}
use Rattle.bq_par.proofs.summary.returned.Goals as goal

pub loop-one-preserved : goal.loop-one-preserved
loop-one-preserved g c =
    let was = c.loop-one.invariant in
    let n = vec_len c.loop-one.done in
    let full : 0 < n = search rules in
    let there : n - 1 < length c.loop-one.done.items = omega (arith, full, c.loop-one.done.ok.0) in
    let d = c.in-Some.one in
    let last : d ≡ slice_index_or c.loop-one.done.items (n - 1) d =
    ap (λ o. unwrap_or o d) (sym c.in-Some.is ∙ c.pop.ensures.value d full) in
    let stated : IfOk d (λ e. IsShift e.seat.0 c.args.ticks e.seat.1) = rw (← last) at (was.left (n - 1) d there) in
    let each = rw c.in-Ok.is at stated in
    let one = c.in-Ok.field-0 in
    record {
      many = search rules;
      left =
          rw c.pop.ensures.rest
          (All-take (λ r. IfOk r (λ e. IsShift e.seat.0 c.args.ticks e.seat.1)) (n - 1) c.loop-one.done.items was.left);
      same =
          rw (c.in_ok-push-2.ensures.items, c.in_ok-push.ensures.items)
          (same_more (λ s. s.1) (λ v. v.items) c.loop-one.seats.items c.loop-one.lists.items one.seat one.receipts
          was.same (sym one.held));
      shifts =
          rw c.in_ok-push.ensures.items
          (each_more (λ s. IsShift s.0 c.args.ticks s.1) c.loop-one.seats.items one.seat was.shifts each);
    }
