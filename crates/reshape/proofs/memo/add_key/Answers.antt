-- The key goes last, where no key is equal to it.
use Rattle.reshape.proofs.MemoLaws.{added}
use Rattle.reshape.proofs.memo.add_key.Goals as goal

pub returns : goal.returns
returns c = added c.args.keys.now.keys c.insert.new.self.keys c.args.key c.in_ok-insert.ensures.keys
