-- Rebuilt over the nodes of parts.
use Rattle.std.proofs.Common.{◌∙◌, List, sym, subst}
use Rattle.std.proofs.lemmas.Result.{err_from_is_err_and}
use Rattle.shape_pool.specs.declared.node.UseOf.{UseOf}
use Rattle.shape_pool.specs.Rows.{kind_at, origin_at, AllBelow, AllHeld, AllPlaced}
use Rattle.shape_pool.specs.Calls.{IsRefused, IsTreeOver}
use Rattle.key_results.specs.Grown.{node_uses, Extends}
use Rattle.key_results.proofs.GrownFaults.{node-refused}
use Rattle.key_results.proofs.GrownTurns.{extends-none, keeps-none, loaded-none}
use Rattle.key_results.proofs.HandingTurns.{handed-extends, handed-more}
use Rattle.key_results.proofs.NewRoot.{uses-held, uses-placed}
use Rattle.key_results.proofs.rebuild.rebuilt.Goals as goal

pub uses_of-requires : goal.uses_of-requires
uses_of-requires g c = c.requires.parts

pub returns-in_err-uses-clause-places : goal.returns-in_err-uses-clause-places
returns-in_err-uses-clause-places g c = λ n old placed. old

pub rebuild-requires-clause-id : goal.rebuild-requires-clause-id
rebuild-requires-clause-id g c = c.requires.id

pub rebuild-requires-clause-held : goal.rebuild-requires-clause-held
rebuild-requires-clause-held g c =
    subst (AllHeld c.args.pool.now) (sym (c.as_slice.ensures.value ∙ c.in_ok-uses.ensures c.args.id))
    (uses-held c.args.pool.now c.args.id c.args.nodes.now c.args.parts.now c.requires.nodes c.requires.parts)

pub rebuild-requires-clause-below : goal.rebuild-requires-clause-below
rebuild-requires-clause-below g c =
    subst (AllBelow c.args.pool.now (kind_at c.args.pool.now c.args.id.0))
    (sym (c.as_slice.ensures.value ∙ c.in_ok-uses.ensures c.args.id)) c.requires.below

pub returns-clause-held : goal.returns-clause-held
returns-clause-held g c = c.in_ok-made.ensures.held

pub returns-clause-kind : goal.returns-clause-kind
returns-clause-kind g c = c.in_ok-made.ensures.node.kind

pub returns-clause-tree : goal.returns-clause-tree
returns-clause-tree g c =
    subst
    (λ (us : List UseOf). IsTreeOver c.args.pool.now (origin_at c.args.pool.now c.args.id.0) us c.rebuild.new.self
    c.in_ok-made.made.0)
    (c.as_slice.ensures.value ∙ c.in_ok-uses.ensures c.args.id) c.in_ok-made.ensures.tree

pub returns-clause-more : goal.returns-clause-more
returns-clause-more g c =
    handed-more c.args.pool.now _ _ _ c.rebuild.new.self c.in_ok-made.made.0 c.in_ok-made.ensures.handed

pub returns-clause-extends : goal.returns-clause-extends
returns-clause-extends g c =
    handed-extends c.args.pool.now _ _ _ c.rebuild.new.self c.in_ok-made.made.0 c.in_ok-made.ensures.handed

pub returns-clause-places : goal.returns-clause-places
returns-clause-places g c = λ n old placed.
    c.in_ok-made.ensures.places n old
    (subst (AllPlaced n) (sym (c.as_slice.ensures.value ∙ c.in_ok-uses.ensures c.args.id))
    (uses-placed n c.args.id c.args.nodes.now c.args.parts.now placed))

pub returns-in_err-made-clause-extends : goal.returns-in_err-made-clause-extends
returns-in_err-made-clause-extends g c =
    subst (Extends c.args.pool.now) (sym c.in_err-made.ensures.err) (extends-none c.args.pool.now)

pub returns-in_err-made-clause-places : goal.returns-in_err-made-clause-places
returns-in_err-made-clause-places g c = λ n old placed.
    c.in_err-made.ensures.places n old
    (subst (AllPlaced n) (sym (c.as_slice.ensures.value ∙ c.in_ok-uses.ensures c.args.id))
    (uses-placed n c.args.id c.args.nodes.now c.args.parts.now placed))

pub returns-in_err-made-clause-refused : goal.returns-in_err-made-clause-refused
returns-in_err-made-clause-refused g c =
    let p = err_from_is_err_and c.from_residual-in_err-made.result c.from_residual-in_err-made.ensures.1 in
    rw (p.1, p.2) (node-refused c.args.pool.now (origin_at c.args.pool.now c.args.id.0)
    (node_uses c.args.id c.args.nodes.now c.args.parts.now)
    c.in_err-made.field-0.0
    (subst
    (λ (us : List UseOf). IsRefused c.args.pool.now (origin_at c.args.pool.now c.args.id.0) us
    c.in_err-made.field-0.0)
    (c.as_slice.ensures.value ∙ c.in_ok-uses.ensures c.args.id) c.in_err-made.ensures.refused))

pub returns-in_err-uses-clause-extends : goal.returns-in_err-uses-clause-extends
returns-in_err-uses-clause-extends g c = extends-none c.args.pool.now

pub returns-in_err-uses-clause-kept : goal.returns-in_err-uses-clause-kept
returns-in_err-uses-clause-kept g c = keeps-none c.args.pool.now

pub returns-in_err-uses-clause-loaded : goal.returns-in_err-uses-clause-loaded
returns-in_err-uses-clause-loaded g c = loaded-none c.args.pool.now

pub returns-in_err-uses-clause-refused : goal.returns-in_err-uses-clause-refused
returns-in_err-uses-clause-refused g c =
    let p = err_from_is_err_and c.from_residual.result c.from_residual.ensures.1 in rw (p.1, p.2) tt
