use Rattle.std.proofs.Common.{sym}
use Rattle.bq_explain.proofs.ExplainLemmas.{finds_state}
use Rattle.bq_explain.proofs.refusal.finding_of.Goals as goal

pub returns-in-Some : goal.returns-in-Some
returns-in-Some c =
    finds_state c.args.policy.now c.args.place.slot c.args.place.insn c.args.cause c.need_of.result c.in-Some.known.now c.requires.of_state
    (c.requires.known.contains c.args.place.slot c.in-Some.known.now (sym c.in-Some.ensures)) c.need_of.ensures
