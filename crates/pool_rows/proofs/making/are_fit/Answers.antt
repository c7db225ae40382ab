-- One use more may stand in a node of the kind.
use Rattle.std.proofs.Common.{◌<◌, All, List, arith, length, refl, subst}
use Rattle.std.proofs.lemmas.List.{take_all}
use Rattle.orientation.specs.Kinds.{IsBelow}
use Rattle.shape_pool.specs.Rows.{kind_at}
use Rattle.shape_pool.specs.declared.node.UseOf.{UseOf}
use Rattle.pool_rows.proofs.Uses.{all-more}
use Rattle.pool_rows.proofs.making.are_fit.Goals as goal

pub loop-one-preserved : goal.loop-one-preserved
loop-one-preserved c =
    let i = c.loop-one.one-index in
    let uses = c.args.uses.now in
    let rows = c.args.pool.now in (
      all-more (λ (u : UseOf). u.id.0 < length rows) uses i _ (omega arith) c.loop-one.invariant.0
          (c.if-not-fits.ensures.held refl),
      all-more (λ (u : UseOf). IsBelow (kind_at rows u.id.0) c.args.kind) uses i _ (omega arith) c.loop-one.invariant.1
          (c.if-not-fits.ensures.below refl),
      all-more (λ (u : UseOf). u.place.0 < length c.args.words.now) uses i _ (omega arith) c.loop-one.invariant.2
          (c.if-not-fits.ensures.place refl),
    )

pub returns-clause-held : goal.returns-clause-held
returns-clause-held c = λ t.
    subst (λ (l : List UseOf). All (λ (u : UseOf). u.id.0 < length c.args.pool.now) l)
    (take_all c.loop-one.one-index c.args.uses.now (omega arith)) c.loop-one.invariant.0

pub returns-clause-below : goal.returns-clause-below
returns-clause-below c = λ t.
    subst (λ (l : List UseOf). All (λ (u : UseOf). IsBelow (kind_at c.args.pool.now u.id.0) c.args.kind) l)
    (take_all c.loop-one.one-index c.args.uses.now (omega arith)) c.loop-one.invariant.1

pub returns-clause-placed : goal.returns-clause-placed
returns-clause-placed c = λ t.
    subst (λ (l : List UseOf). All (λ (u : UseOf). u.place.0 < length c.args.words.now) l)
    (take_all c.loop-one.one-index c.args.uses.now (omega arith)) c.loop-one.invariant.2
