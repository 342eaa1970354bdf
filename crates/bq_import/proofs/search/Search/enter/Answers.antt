use Rattle.std.proofs.Common.{inl, inr}
use Rattle.std.proofs.lemmas.Result.{on_ok_weaker}
use Rattle.bq_import.proofs.StackLemmas.{comes_next}
use Rattle.bq_import.proofs.search.Search.enter.Goals as goal

pub returns-clause-within : goal.returns-clause-within
returns-clause-within c = elim c.requires.way [
  | inl landing ↦ on_ok_weaker c.open.result (λ stays. stays landing) c.open.ensures.landing
  | inr last ↦ on_ok_weaker c.open.result (λ stays. stays c.args.from c.requires.top last) c.open.ensures.next
]

pub open-requires-clause-reached : goal.open-requires-clause-reached
open-requires-clause-reached c =
    comes_next c.args.old.now c.args.self.now.stack.items c.args.from c.args.to c.requires.at.comes
    c.requires.top c.requires.edge
