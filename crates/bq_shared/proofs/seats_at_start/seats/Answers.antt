use Rattle.std.proofs.Common.{◌≡◌, ◌++◌, ◌<◌, ◌+◌, ℕ, suc, ◌∷◌, [], sym, ap, ◌∙◌, arith}
use Rattle.bq_history.specs.Whole.{first_item, others_of}
use Rattle.bq_shared.specs.Sums.{without_one}
use Rattle.bq_shared.specs.Calls.{fresh_callers}
use Rattle.bq_shared.proofs.SeatLemmas.{caller_turn, account_turn, fresh_more}
use Rattle.bq_shared.proofs.seats_at_start.seats.Goals as goal

pub next_seat-requires-clause-first : goal.next_seat-requires-clause-first
next_seat-requires-clause-first g c =
    let b : c.loop-number.number < c.args.count = omega arith in
    ap first_item (c.loop-number.invariant.callers ∙ caller_turn c.loop-number.number c.args.count b)

pub loop-number-preserved : goal.loop-number-preserved
loop-number-preserved g c =
    let b : c.loop-number.number < c.args.count = omega arith in
    let zero_more : c.loop-number.number ≡ 0 + c.loop-number.number = omega arith in
    let one_more : suc c.loop-number.number ≡ c.loop-number.number + 1 = omega arith in
    record {
      made =
          c.in_ok-push.ensures.items
          ∙ ap (λ ys. ys ++ c.next_seat.result ∷ []) c.loop-number.invariant.made
          ∙ ap (λ y. fresh_callers 0 c.loop-number.number ++ y ∷ []) (c.next_seat.ensures.seat ∙ ap (λ (k : ℕ). (k, [])) zero_more)
          ∙ sym (fresh_more 0 c.loop-number.number)
          ∙ ap (fresh_callers 0) one_more;
      callers =
          c.next_seat.ensures.callers
          ∙ ap others_of (c.loop-number.invariant.callers ∙ caller_turn c.loop-number.number c.args.count b);
      account =
          c.next_seat.ensures.account ∙ ap without_one c.loop-number.invariant.account
          ∙ account_turn c.loop-number.number c.args.count b;
    }
