-- The first key that is equal to it.
use Rattle.reshape.proofs.MemoLaws.{placed-some, placed-none}
use Rattle.reshape.proofs.memo.place_among.Goals as goal

pub returns-clause-some : goal.returns-clause-some
returns-clause-some c = placed-some c.get_index_of.result c.args.keys.now.keys c.args.key c.get_index_of.ensures.index

pub returns-clause-none : goal.returns-clause-none
returns-clause-none c = placed-none c.get_index_of.result c.args.keys.now.keys c.args.key c.get_index_of.ensures.index
