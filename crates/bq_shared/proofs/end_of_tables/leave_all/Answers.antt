use Rattle.std.proofs.Common.{◌≡◌, refl, sym, ◌∙◌}
use Rattle.std.proofs.lemmas.Iterator.Adapters.{YieldsList-from_vec}
use Rattle.std.proofs.lemmas.Iterator.Consumers.{YieldsList-end}
use Rattle.bq_history.specs.Items.{caller_of}
use Rattle.bq_history.proofs.ClosingLemmas.{map_self}
use Rattle.bq_shared.specs.Calls.{account_of}
use Rattle.bq_shared.proofs.AccountLemmas.{accounts_more, mapped_more}
use Rattle.bq_shared.proofs.end_of_tables.leave_all.Goals as goal

pub loop-seat-preserved : goal.loop-seat-preserved
loop-seat-preserved g c =
    let l = c.loop-seat in
    let s = c.in-Some.seat in
    record {
      items = c.leave.ensures.caller ∙ mapped_more caller_of l.all c.args.all.now l.yielded s s l.invariant.items refl;
      account =
          c.leave.ensures.total
          ∙ accounts_more g.R.ReportsCalls.calls l.yielded s l.account (account_of g.R.ReportsCalls.calls s.1) l.invariant.account refl;
    }

pub returns-clause-items : goal.returns-clause-items
returns-clause-items g c =
    let e =
    YieldsList-from_vec {s = c.into_iter-seat-iterator.result} c.args.seats.items c.into_iter-seat-iterator.ensures.into_iter_gives.0
    (c.into_iter-seat-iterator.ensures.into_iter_gives.1 ∙ c.args.seats.ok.0) in
    let t =
    YieldsList-end e c.loop-seat.yielded c.loop-seat.seat-iterator c.loop-seat.yielded_by c.next.result
    c.next.new.self c.in-None.is c.next.ensures.steps in
    let whole : c.loop-seat.yielded ≡ c.args.seats.items = sym (map_self c.loop-seat.yielded) ∙ t.0 in
    rw (← whole) c.loop-seat.invariant.items

pub returns-clause-account : goal.returns-clause-account
returns-clause-account g c =
    let e =
    YieldsList-from_vec {s = c.into_iter-seat-iterator.result} c.args.seats.items c.into_iter-seat-iterator.ensures.into_iter_gives.0
    (c.into_iter-seat-iterator.ensures.into_iter_gives.1 ∙ c.args.seats.ok.0) in
    let t =
    YieldsList-end e c.loop-seat.yielded c.loop-seat.seat-iterator c.loop-seat.yielded_by c.next.result
    c.next.new.self c.in-None.is c.next.ensures.steps in
    let whole : c.loop-seat.yielded ≡ c.args.seats.items = sym (map_self c.loop-seat.yielded) ∙ t.0 in
    rw (← whole) c.loop-seat.invariant.account
