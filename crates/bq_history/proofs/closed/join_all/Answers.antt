use Rattle.std.proofs.Common.{◌≡◌, sym, ◌∙◌}
use Rattle.std.proofs.lemmas.Iterator.Adapters.{YieldsList-from_vec}
use Rattle.std.proofs.lemmas.Iterator.Consumers.{YieldsList-end}
use Rattle.bq_history.proofs.ClosingLemmas.{map_self}
use Rattle.bq_history.proofs.closed.join_all.Goals as goal

pub returns : goal.returns
returns g c =
    let e =
    YieldsList-from_vec {s = c.into_iter-caller-iterator.result}
    c.args.callers.items c.into_iter-caller-iterator.ensures.into_iter_gives.0
    (c.into_iter-caller-iterator.ensures.into_iter_gives.1 ∙ c.args.callers.ok.0) in
    let t =
    YieldsList-end e c.loop-caller.yielded c.loop-caller.caller-iterator c.loop-caller.yielded_by c.next.result
    c.next.new.self c.in-None.is c.next.ensures.steps in
    let whole : c.loop-caller.yielded ≡ c.args.callers.items = sym (map_self c.loop-caller.yielded) ∙ t.0 in
    rw (← whole) c.loop-caller.invariant
