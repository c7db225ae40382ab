use Rattle.written_history.proofs.OnceLaws.{order-once}
use Rattle.written_history.proofs.laws.orders_list_once.Goals as goal

pub returns : goal.returns
returns c = λ words root order table places ordered.
    order-once c.args.pool.now c.roots_are_written.ensures words root order table places ordered
