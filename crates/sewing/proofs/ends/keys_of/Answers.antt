-- One key more; and all of them.
use Rattle.std.proofs.Common.{◌∙◌, ◌++◌, ◌∷◌, [], ap, sym, arith}
use Rattle.std.proofs.lemmas.Simd.{map-map}
use Rattle.shape_pool.specs.Rows.{uses_at}
use Rattle.sewing.specs.Asked.{turned}
use Rattle.sewing.specs.Keys.{key_of}
use Rattle.sewing.proofs.MemberLemmas.{mapped-more, mapped-all}
use Rattle.sewing.proofs.ends.keys_of.Goals as goal

pub loop-at-preserved : goal.loop-at-preserved
loop-at-preserved c =
    mapped-more (λ u. key_of (turned c.args.sign u)) (uses_at c.args.pool.now c.args.id.0) c.loop-at.at
    c.use_of-one.result c.loop-at.keys.items c.push.new.self.items c.use_of-one.ensures c.loop-at.invariant
    (c.in_ok-push.ensures.items ∙ ap (λ k. c.loop-at.keys.items ++ k ∷ []) c.key.ensures)

pub returns : goal.returns
returns c =
    let us = uses_at c.args.pool.now c.args.id.0 in
    mapped-all (λ u. key_of (turned c.args.sign u)) us c.loop-at.at c.loop-at.keys.items
    (omega (arith, c.use_count-at-end.ensures, c.loop-at-test.false)) c.loop-at.invariant
    ∙ sym (map-map key_of (turned c.args.sign) us)
