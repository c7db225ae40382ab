use Rattle.written_order.proofs.Written.{orders-number}
use Rattle.written_order.proofs.laws.orders_number.Goals as goal

pub returns : goal.returns
returns c = orders-number c.roots_are_written.ensures c.fewest.ensures
