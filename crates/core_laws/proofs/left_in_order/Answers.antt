use Rattle.core_laws.proofs.LeftOrder.{left_in_order}
use Rattle.core_laws.proofs.left_in_order.Goals as goal

pub returns : goal.returns
returns c = λ p ns limit. left_in_order c.keeps.ensures c.works_stand_by_key.ensures p ns limit (c.in_serial_order.ensures p ns limit)
