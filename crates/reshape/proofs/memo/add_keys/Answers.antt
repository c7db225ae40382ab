-- One key more.
use Rattle.std.proofs.lemmas.Option.{slice_get-get_or}
use Rattle.reshape.proofs.MemoLaws.{joined-none, joined-next, joined-all}
use Rattle.reshape.proofs.memo.add_keys.Goals as goal

pub loop-key-init : goal.loop-key-init
loop-key-init c = joined-none c.args.keys.now.keys

pub loop-key-preserved : goal.loop-key-preserved
loop-key-preserved c =
    joined-next c.args.own.now c.loop-key.key-index _ c.args.keys.now.keys c.loop-key.keys.keys c.add_key.new.keys.keys
    (slice_get-get_or c.args.own.now c.loop-key.key-index _ c.loop-key-test.true) c.loop-key.invariant
    c.in_ok-add_key.ensures

pub returns : goal.returns
returns c =
    joined-all c.args.own.now c.loop-key.key-index c.args.keys.now.keys c.loop-key.keys.keys c.loop-key-test.false
    c.loop-key.invariant
