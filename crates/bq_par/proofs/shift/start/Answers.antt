-- The receipts of the beginning are what they are to be.
use Rattle.std.proofs.Common.{◌≡◌, ◌-◌, ◌^◌, pos, ap, ◌∙◌, rules}
use Rattle.std.proofs.lemmas.Result.{on_ok_weaker}
use Rattle.bq_parts.specs.declared.event.Event.TheVariants.{Admit, BeginWake}
use Rattle.bq_par.proofs.ShiftLemmas.{start_is, woken_there}
use Rattle.bq_par.proofs.shift.start.Goals as goal

pub returns-clause-start : goal.returns-clause-start
returns-clause-start g c =
    let p = c.args.processor in
    let woken = c.in_ok-woken.woken in
    let drained = c.in_ok-drained.ensures.event in
    let same : c.from-task.result ≡ p = search rules in
    on_ok_weaker c.push_receipt-2.result (λ last.
    start_is p _ _ _ _ c.in_ok-admitted.admitted woken.begin c.in_ok-drained.drained
    woken.end c.requires.none c.in_ok-push_receipt.ensures c.in_ok-push_wake_receipts.ensures last
    (c.in_ok-admitted.ensures.event ∙ ap (λ t. Admit t (pos 0) (2 ^ 64 - 1) 3000000) same)
    (c.in_ok-woken.ensures.wake.begin ∙ ap (λ t. BeginWake p t) same)
    (woken_there p _ woken.end c.in_ok-woken.ensures.wake.end) c.in_ok-woken.ensures.wake.ended (drained.0, drained.2))
    c.push_receipt-2.ensures
