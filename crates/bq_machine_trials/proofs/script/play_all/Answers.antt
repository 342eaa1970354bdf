use Rattle.std.proofs.Common.{rules, arith}
use Rattle.bq_history.specs.History.{EachOnce}
use Rattle.bq_machine_trials.proofs.script.play_all.Goals as goal

pub close-closed-requires : goal.close-closed-requires
close-closed-requires g c =
    let owned : EachOnce c.expect-machine.result.0.recorder.history.callers c.play_script-seats.result.seats.items =
    rw (← c.deref.ensures.value) (c.owns.ensures.0 c.if-not-owns.false) in
    (search rules, (omega arith, owned))
