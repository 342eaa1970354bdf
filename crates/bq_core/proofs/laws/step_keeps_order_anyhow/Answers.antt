use Rattle.bq_core.proofs.OrderLemmas as Order
use Rattle.bq_core.proofs.laws.step_keeps_order_anyhow.Goals as goal

pub returns : goal.returns
returns c = Order.step_keeps_order_anyhow
