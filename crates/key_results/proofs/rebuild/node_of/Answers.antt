-- The node stays, or is rebuilt over the nodes of its parts.
use Rattle.std.proofs.Common.{arith, ◌≡◌, ◌≤◌, ◌<◌, ◌∙◌, ℕ, true, false, List, All, sym, subst, length}
use Rattle.std.proofs.lemmas.Result.{IfOk-weaker}
use Rattle.shape_pool.specs.Rows.{kind_at, origin_at, AllBelow}
use Rattle.shape_pool.specs.Calls.{IsTreeOver}
use Rattle.key_results.specs.declared.derive.Outcome.TheVariants.{Stays, Rebuilt}
use Rattle.key_results.specs.declared.parts.Part.{Part}
use Rattle.key_results.specs.Grown.{node_uses, IsNodeRefused}
use Rattle.key_results.proofs.PartOwn.{ok-all, err-so}
use Rattle.key_results.proofs.GrownTurns.{extends-none, keeps-none, loaded-none}
use Rattle.key_results.proofs.rebuild.node_of.Goals as goal

pub rebuilt-requires-clause-parts : goal.rebuilt-requires-clause-parts
rebuilt-requires-clause-parts g c =
    subst (λ (ps : List Part). All (λ (p : Part). p.of < length c.args.nodes.now) ps) (sym c.as_slice.ensures.value)
    c.requires.parts

pub rebuilt-requires-clause-below : goal.rebuilt-requires-clause-below
rebuilt-requires-clause-below g c =
    subst
    (λ (ps : List Part). AllBelow c.args.pool.now (kind_at c.args.pool.now c.args.visit.now.id.0)
    (node_uses c.args.visit.now.id c.args.nodes.now ps))
    (sym c.as_slice.ensures.value) (c.requires.below (c.is_made.ensures.0 c.if-is_made.true).1)

pub returns-then-is_made-clause-stays : goal.returns-then-is_made-clause-stays
returns-then-is_made-clause-stays g c =
    ok-all (λ made. c.args.visit.now.outcome ≡ Stays → made ≡ c.args.visit.now.id) c.rebuilt.result
    (λ made e. let wrong : Stays ≡ Rebuilt = sym e ∙ (c.is_made.ensures.0 c.if-is_made.true).1 in absurd cc)

pub returns-then-is_made-clause-tree : goal.returns-then-is_made-clause-tree
returns-then-is_made-clause-tree g c =
    let d = c.args.visit.now.id in
    IfOk-weaker c.rebuilt.result
    (λ made. IsTreeOver c.args.pool.now (origin_at c.args.pool.now d.0)
    (node_uses d c.args.nodes.now c.as_slice.result.now) c.rebuilt.new.pool made.0)
    (λ made. c.args.visit.now.outcome ≡ Rebuilt → c.args.outgrowth.now.own ≡ true →
    IsTreeOver c.args.pool.now (origin_at c.args.pool.now d.0)
    (node_uses d c.args.nodes.now c.args.outgrowth.now.parts.items) c.rebuilt.new.pool made.0)
    (λ made t e own.
    subst
    (λ (ps : List Part). IsTreeOver c.args.pool.now (origin_at c.args.pool.now d.0)
    (node_uses d c.args.nodes.now ps) c.rebuilt.new.pool made.0)
    c.as_slice.ensures.value t) c.rebuilt.ensures.tree

pub returns-then-is_made-clause-more : goal.returns-then-is_made-clause-more
returns-then-is_made-clause-more g c =
    IfOk-weaker c.rebuilt.result
    (λ made. (i : ℕ) → length c.args.pool.now ≤ i → i < length c.rebuilt.new.pool → i ≡ made.0)
    (λ made. (i : ℕ) → length c.args.pool.now ≤ i → i < length c.rebuilt.new.pool →
    (i ≡ made.0) × (c.args.outgrowth.now.own ≡ true))
    (λ made m i a b. (m i a b, (c.is_made.ensures.0 c.if-is_made.true).0)) c.rebuilt.ensures.more

pub returns-then-is_made-clause-places : goal.returns-then-is_made-clause-places
returns-then-is_made-clause-places g c = λ n old placed.
    c.rebuilt.ensures.places n old (subst (λ (ps : List Part). All (λ (p : Part). p.place.0 < n) ps)
    (sym c.as_slice.ensures.value) placed)

pub returns-then-is_made-clause-refused : goal.returns-then-is_made-clause-refused
returns-then-is_made-clause-refused g c =
    let d = c.args.visit.now.id in
    let made = c.is_made.ensures.0 c.if-is_made.true in
    err-so c.rebuilt.result (λ fault h. (
      made.0,
      made.1,
      subst
          (λ (ps : List Part). IsNodeRefused c.args.pool.now (origin_at c.args.pool.now d.0)
          (node_uses d c.args.nodes.now ps) fault)
          c.as_slice.ensures.value h,
    )) c.rebuilt.ensures.refused

pub returns-clause-tree : goal.returns-clause-tree
returns-clause-tree g c =
    λ e own. let wrong : true ≡ false = sym (c.is_made.ensures.1 (own, e)) ∙ c.if-is_made.false in absurd cc

pub returns-clause-more : goal.returns-clause-more
returns-clause-more g c = λ i a b. absurd (omega (arith, a, b))

pub returns-clause-extends : goal.returns-clause-extends
returns-clause-extends g c = extends-none c.args.pool.now

pub returns-clause-kept : goal.returns-clause-kept
returns-clause-kept g c = keeps-none c.args.pool.now

pub returns-clause-loaded : goal.returns-clause-loaded
returns-clause-loaded g c = loaded-none c.args.pool.now

pub returns-clause-places : goal.returns-clause-places
returns-clause-places g c = λ n old placed. old
