use Rattle.std.proofs.Common.{◌≡◌, ◌++◌, map, sym, ap, subst, ◌∙◌}
use Rattle.bq_history.specs.Items.{part_item, parts_of, caller_of}
use Rattle.bq_history.proofs.CallerLemmas.{are_receipts, many_callers}
use Rattle.bq_history.proofs.ClosingLemmas.{joined, parts_joined, callers_joined}
use Rattle.bq_shared.specs.declared.account.Account.{Account}
use Rattle.bq_shared.specs.Sums.{AreSumsOf}
use Rattle.bq_shared.proofs.AccountLemmas.{sums_of_history}
use Rattle.bq_shared.proofs.end_of_tables.close.Goals as goal

pub finish-log-requires : goal.finish-log-requires
finish-log-requires g c =
    let l = c.leave_all-account in
    let is : l.new.all ≡ map part_item (parts_of c.args.parts) ++ map caller_of c.args.seats.items =
    rw (← c.requires.parts) l.ensures.items in
    record { held = joined l.new.all (parts_of c.args.parts) c.args.seats.items is }

pub close-words-requires : goal.close-words-requires
close-words-requires g c =
    let l = c.leave_all-account in
    let is : l.new.all ≡ map part_item (parts_of c.args.parts) ++ map caller_of c.args.seats.items =
    rw (← c.requires.parts) l.ensures.items in
    let many =
    many_callers c.finish-log.result c.args.history.callers c.args.seats.items
    (rw (← callers_joined l.new.all (parts_of c.args.parts) c.args.seats.items is) c.finish-log.ensures.receipts)
    c.requires.seats in
    record { whole = ap (λ (a : Account). a.seats) l.ensures.account ∙ (many ∙ sym c.requires.same) }

pub returns-clause-world : goal.returns-clause-world
returns-clause-world g c =
    let l = c.leave_all-account in
    let is : l.new.all ≡ map part_item (parts_of c.args.parts) ++ map caller_of c.args.seats.items =
    rw (← c.requires.parts) l.ensures.items in
    let k = c.finish-log.ensures.world in
    (k.0, k.1, k.2, rw (← parts_joined l.new.all (parts_of c.args.parts) c.args.seats.items is) k.3)

pub returns-clause-once : goal.returns-clause-once
returns-clause-once g c = λ p.
    let l = c.leave_all-account in
    let is : l.new.all ≡ map part_item (parts_of c.args.parts) ++ map caller_of c.args.seats.items =
    rw (← c.requires.parts) l.ensures.items in
    rw (← parts_joined l.new.all (parts_of c.args.parts) c.args.seats.items is) (c.finish-log.ensures.once p)

pub returns-clause-receipts : goal.returns-clause-receipts
returns-clause-receipts g c =
    let l = c.leave_all-account in
    let is : l.new.all ≡ map part_item (parts_of c.args.parts) ++ map caller_of c.args.seats.items =
    rw (← c.requires.parts) l.ensures.items in
    are_receipts c.finish-log.result c.args.history.callers c.args.seats.items
    (rw (← callers_joined l.new.all (parts_of c.args.parts) c.args.seats.items is) c.finish-log.ensures.receipts)
    c.requires.seats

pub returns-clause-counters : goal.returns-clause-counters
returns-clause-counters g c =
    let l = c.leave_all-account in
    let is : l.new.all ≡ map part_item (parts_of c.args.parts) ++ map caller_of c.args.seats.items =
    rw (← c.requires.parts) l.ensures.items in
    sums_of_history g.R.ReportsCalls.calls c.finish-log.result c.args.history.callers c.args.seats.items c.close-words.result
    (rw (← callers_joined l.new.all (parts_of c.args.parts) c.args.seats.items is) c.finish-log.ensures.receipts)
    c.requires.seats (subst (λ (a : Account). AreSumsOf a.calls c.close-words.result) l.ensures.account c.close-words.ensures)
