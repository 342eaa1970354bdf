use Rattle.bq_core.proofs.OrderLemmas as Order
use Rattle.bq_core.proofs.laws.run_keeps_order.Goals as goal

pub returns : goal.returns
returns c = Order.run_keeps_order
