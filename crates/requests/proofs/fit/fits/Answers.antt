-- A higher kind and a use are seen.
use Rattle.std.proofs.Common.{◌≡◌, ◌<◌, ◌↔◌, subst, arith, All, length}
use Rattle.std.specs.Prelude.{IsTrue}
use Rattle.std.proofs.lemmas.Bool.{ltb-true}
use Rattle.orientation.specs.declared.kind.Kind.{Kind}
use Rattle.orientation.specs.Kinds.{rank_of}
use Rattle.shape_pool.specs.Rows.{kind_at}
use Rattle.shape_pool.specs.Laws.{ids_used}
use Rattle.requests.proofs.FitLaws.{fit-is}
use Rattle.requests.proofs.fit.fits.Goals as goal

pub returns : goal.returns
returns c =
    let higher : rank_of (kind_at c.args.pool.now c.args.source.0) < rank_of (kind_at c.args.pool.now c.args.target.0) =
    ltb-true (rank_of (kind_at c.args.pool.now c.args.source.0)) (rank_of (kind_at c.args.pool.now c.args.target.0))
    (cc) in
    let some : 0 < length (ids_used c.args.pool.now c.args.target.0) = omega arith in
    fit-is c.args.pool.now c.args.source.0 c.args.target.0 c.are_of.result higher some
    (subst
    (λ (k : Kind). IsTrue c.are_of.result ↔ All (λ j. kind_at c.args.pool.now j ≡ k)
    (ids_used c.args.pool.now c.args.target.0)) c.kind-kind.ensures c.are_of.ensures)
