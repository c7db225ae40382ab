-- Among the keys one is equal to it.
use Rattle.reshape.proofs.MemoLaws.{among-tells}
use Rattle.reshape.proofs.memo.is_among.Goals as goal

pub returns : goal.returns
returns c = among-tells c.contains.result c.args.keys.now.keys c.args.key c.contains.ensures
