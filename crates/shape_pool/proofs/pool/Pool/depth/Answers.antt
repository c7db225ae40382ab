-- The stored depth is that of the tree, and no word changes it.
use Rattle.std.proofs.Common.{◌≡◌, ◌<◌, ◌∙◌, sym, ap, subst, List, length}
use Rattle.expansion_laws.specs.Measures.{depth as depth_of}
use Rattle.shape_pool.specs.declared.held.Held.{Held}
use Rattle.shape_pool.specs.Rows.{Row, depth_at, tree_at}
use Rattle.shape_pool.specs.Held.{stored_depth}
use Rattle.shape_pool.proofs.DepthLaws.{same-depths}
use Rattle.shape_pool.proofs.HandingLaws.{few-held}
use Rattle.shape_pool.proofs.pool.Pool.depth.Goals as goal

pub returns-clause-depth : goal.returns-clause-depth
returns-clause-depth c =
    let held : List Held = c.self.inside.stock in
    let within : c.args.id.0 < length held = subst (λ n. c.args.id.0 < n) (few-held held c.args.self.now c.self.view_is)
    c.requires in
    c.depth.ensures ∙ ap (λ (hs : List Held). stored_depth hs c.args.id.0) c.held.ensures ∙
    c.self.invariant.depths c.args.id.0 within ∙
    ap (λ (rs : List Row). depth_at rs c.args.id.0) c.self.view_is

pub returns-clause-tree : goal.returns-clause-tree
returns-clause-tree c = λ word.
    subst (λ (rows : List Row). depth_of (tree_at word rows c.args.id.0) ≡ depth_at rows c.args.id.0) c.self.view_is
    (same-depths _ c.self.invariant.rows.before word c.args.id.0) ∙
    sym (returns-clause-depth c)
