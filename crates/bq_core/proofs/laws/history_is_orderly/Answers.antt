use Rattle.bq_core.proofs.OrderLemmas as Order
use Rattle.bq_core.proofs.laws.history_is_orderly.Goals as goal

pub returns : goal.returns
returns c = Order.history_is_orderly
