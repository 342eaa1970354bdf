use Rattle.bq_verify.proofs.checks.is_faulty.Goals as goal

pub returns-in-Jump : goal.returns-in-Jump
returns-in-Jump c = rw c.in-Jump.is c.is_bad_jump.ensures

pub returns-in-NoExit : goal.returns-in-NoExit
returns-in-NoExit c = rw c.in-NoExit.is c.runs_out.ensures

pub returns-in-Unreached : goal.returns-in-Unreached
returns-in-Unreached c = rw c.in-Unreached.is c.is_unreached.ensures

pub returns-in-Frame : goal.returns-in-Frame
returns-in-Frame c = rw c.in-Frame.is c.writes_frame.ensures

pub returns-in-Helper : goal.returns-in-Helper
returns-in-Helper c = rw c.in-Helper.is c.calls_unknown.ensures

pub returns-in-Counters : goal.returns-in-Counters
returns-in-Counters c = rw c.in-Counters.is c.is_late_call.ensures

pub is_unreached-requires-clause-most : goal.is_unreached-requires-clause-most
is_unreached-requires-clause-most c = c.requires.most (rw c.in-Unreached.is tt) c.args.slot

pub is_late_call-requires-clause-most : goal.is_late_call-requires-clause-most
is_late_call-requires-clause-most c = c.requires.most (rw c.in-Counters.is tt) c.args.slot
