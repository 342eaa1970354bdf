use Rattle.std.proofs.Common.{sym}
use Rattle.bq_import.proofs.BudgetLemmas.{missing_way}
use Rattle.bq_import.proofs.search.Search.advance.Goals as goal

pub enter-requires-clause-way : goal.enter-requires-clause-way
enter-requires-clause-way c =
    missing_way c.args.old.now c.args.self.now.places.items c.args.slot c.in-Some.insn c.find_targets-targets.result
    c.in-Some-missing.to (sym c.in-Some.ensures) c.find_targets-targets.ensures c.in-Some-missing.ensures.some
