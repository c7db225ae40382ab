-- A number that is noted for an origin is its first, if its node has the origin still.
use Rattle.std.proofs.Common.{◌∙◌, sym, ap, subst, arith, List, true≢false, slice_get}
use Rattle.std.specs.Option.{is_some}
use Rattle.lists.proofs.Places.{given-item, given-none}
use Rattle.shape_pool.specs.declared.node.NodeId.{NodeId}
use Rattle.shape_pool.specs.declared.held.Held.{Held}
use Rattle.shape_pool.specs.Held.{rows_of}
use Rattle.shape_pool.proofs.LoadedLaws.{IsNoted, noted-none, noted-some, noted-stale}
use Rattle.shape_pool.proofs.stock.Stock.named.Goals as goal

pub returns-in-Some-clause-some : goal.returns-in-Some-clause-some
returns-in-Some-clause-some c =
    let items : List NodeId = c.self.inside.loaded.items in
    let id : NodeId = c.in-Some.id.now in
    let noted : IsNoted (rows_of c.args.self.now) (slice_get items) =
    subst (λ (hs : List Held). IsNoted (rows_of hs) (slice_get items)) c.self.view_is c.self.invariant.named in
    noted-some (rows_of c.args.self.now) (slice_get items) noted c.args.origin id
    (given-item c.deref.result.now items c.args.origin id c.deref.ensures.value c.in-Some.ensures.lookup.0
    c.in-Some.ensures.lookup.1)
    (omega (arith, c.if-origin-eq0.false)) (c.is_of.ensures.0 c.if-is_of.true)

pub returns-in_default-clause-none : goal.returns-in_default-clause-none
returns-in_default-clause-none c =
    let items : List NodeId = c.self.inside.loaded.items in
    let id : NodeId = c.in-Some.id.now in
    let noted : IsNoted (rows_of c.args.self.now) (slice_get items) =
    subst (λ (hs : List Held). IsNoted (rows_of hs) (slice_get items)) c.self.view_is c.self.invariant.named in
    noted-stale (rows_of c.args.self.now) (slice_get items) noted c.args.origin id
    (given-item c.deref.result.now items c.args.origin id c.deref.ensures.value c.in-Some.ensures.lookup.0
    c.in-Some.ensures.lookup.1)
    (λ is. true≢false (sym (c.is_of.ensures.1 is) ∙ c.if-is_of.false))

pub returns-in_default-2-clause-none : goal.returns-in_default-2-clause-none
returns-in_default-2-clause-none c =
    let items : List NodeId = c.self.inside.loaded.items in
    let noted : IsNoted (rows_of c.args.self.now) (slice_get items) =
    subst (λ (hs : List Held). IsNoted (rows_of hs) (slice_get items)) c.self.view_is c.self.invariant.named in
    noted-none (rows_of c.args.self.now) (slice_get items) noted c.args.origin
    (given-none c.deref.result.now items c.args.origin c.deref.ensures.value
    (sym (ap is_some c.in_default.is) ∙ c.get.ensures.lookup.0))
