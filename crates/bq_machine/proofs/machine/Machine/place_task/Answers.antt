use Rattle.std.proofs.Common.{◌∙◌, ap}
use Rattle.bq_machine.proofs.AheadLemmas.{ahead_of}
use Rattle.bq_machine.proofs.machine.Machine.place_task.Goals as goal

pub returns-clause-account : goal.returns-clause-account
returns-clause-account g c =
    let t = c.end_wake-placement in
    ahead_of (λ x. x.account) c.open_board-counter_board.result t.new.board c.args.working.now.caller.1
    c.close_board.new.self.caller.1 t.new.scratch c.close_board.new.self.account
    (c.open_board-counter_board.ensures.counter_board ∙ c.requires.account) t.ensures.board c.close_board.ensures.account
    (ap (λ x. x.1) (c.close_board.ensures.caller ∙ c.open_board-counter_board.ensures.caller))
