-- The order has each node once.
use Rattle.step_rows.proofs.histories.add_history.Goals as goal

pub history_in_numbers-requires-clause-once : goal.history_in_numbers-requires-clause-once
history_in_numbers-requires-clause-once c =
    c.orders_list_once.ensures c.args.words.now c.args.made.now.root.id.0 c.in_ok-order.order.numbers c.len.ensures.table
    c.requires.places c.in_ok-order.ensures
