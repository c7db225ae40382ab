-- The nodes, then the new root, then the pairs.
use Rattle.std.proofs.Common.{arith, ◌<◌, ◌∙◌, List, All, length, refl, sym, ap, subst, inl, inr}
use Rattle.std.proofs.lemmas.List.Elements.{All-weaker}
use Rattle.lists.proofs.Errors.{IfErr-on}
use Rattle.shape_pool.specs.declared.node.NodeId.{NodeId}
use Rattle.shape_pool.specs.declared.node.UseOf.{UseOf}
use Rattle.shape_pool.specs.Rows.{tree_at, use_by}
use Rattle.key_results.specs.declared.fault.ApplyFault.TheVariants.{NoMemory}
use Rattle.key_results.specs.declared.parts.Part.{Part}
use Rattle.reshape.specs.Making.{AreMadeNodes}
use Rattle.reshape.proofs.MakeTurns.{extends-on, keeps-on, loaded-on, nodes-held, visits-held-more}
use Rattle.reshape.proofs.making.carry_out.Goals as goal

pub returns-in_err-nodes-clause-refused : goal.returns-in_err-nodes-clause-refused
returns-in_err-nodes-clause-refused g c =
    IfErr-on c.from_residual.result c.in_err-nodes.field-0.0 _ c.from_residual.ensures.1
    (inr (inl c.in_err-nodes.ensures.refused))

pub returns-in_err-nodes-clause-places : goal.returns-in_err-nodes-clause-places
returns-in_err-nodes-clause-places g c = λ n places held of. c.in_err-nodes.ensures.places n places held

pub new_root-requires-clause-parts : goal.new_root-requires-clause-parts
new_root-requires-clause-parts g c =
    let a = c.requires.long in
    let b = c.in_ok-nodes.ensures.long in
    let d = ap (λ (l : List NodeId). length l) c.as_slice-all.ensures.value in
    All-weaker (λ (p : Part). p.of < length c.args.outgrowths.now)
    (λ (p : Part). p.of < length c.as_slice-all.result.now) (λ p h. omega (arith, h, a, b, d))
    c.args.parts.now c.requires.of

pub new_root-requires-clause-nodes : goal.new_root-requires-clause-nodes
new_root-requires-clause-nodes g c =
    subst (λ (l : List NodeId). All (λ (n : NodeId). n.0 < length c.nodes_of.new.pool) l)
    (sym c.as_slice-all.ensures.value)
    (nodes-held c.args.pool.now c.nodes_of.new.pool c.args.visits.now c.in_ok-nodes.nodes.items
    c.in_ok-nodes.ensures.long c.in_ok-nodes.ensures.kinds)

pub returns-in_err-root-clause-refused : goal.returns-in_err-root-clause-refused
returns-in_err-root-clause-refused g c =
    IfErr-on c.from_residual-in_err-root.result c.in_err-root.field-0.0 _ c.from_residual-in_err-root.ensures.1
    (inr (inr (record {
      mid = c.nodes_of.new.pool;
      nodes = c.as_slice-all.result.now;
      are =
          subst
          (λ (l : List NodeId). AreMadeNodes c.args.pool.now c.nodes_of.new.pool c.args.visits.now
          c.args.outgrowths.now l) (sym c.as_slice-all.ensures.value)
          (record {
            long = c.in_ok-nodes.ensures.long;
            kinds = c.in_ok-nodes.ensures.kinds;
            stand = c.in_ok-nodes.ensures.stand;
            more = c.in_ok-nodes.ensures.more;
            kept = c.in_ok-nodes.ensures.kept;
          });
      places = c.in_ok-nodes.ensures.places;
      why = c.in_err-root.ensures.refused;
    })))

pub returns-in_err-root-clause-extends : goal.returns-in_err-root-clause-extends
returns-in_err-root-clause-extends g c =
    extends-on c.args.pool.now c.nodes_of.new.pool c.new_root.new.pool c.in_ok-nodes.ensures.extends
    c.in_err-root.ensures.extends

pub returns-in_err-root-clause-kept : goal.returns-in_err-root-clause-kept
returns-in_err-root-clause-kept g c =
    keeps-on c.args.pool.now c.nodes_of.new.pool c.new_root.new.pool c.in_ok-nodes.ensures.kept
    c.in_err-root.ensures.kept

pub returns-in_err-root-clause-loaded : goal.returns-in_err-root-clause-loaded
returns-in_err-root-clause-loaded g c =
    loaded-on c.args.pool.now c.nodes_of.new.pool c.new_root.new.pool c.in_ok-nodes.ensures.loaded
    c.in_err-root.ensures.loaded

pub returns-in_err-root-clause-places : goal.returns-in_err-root-clause-places
returns-in_err-root-clause-places g c =
    λ n places held of. c.in_err-root.ensures.places n (c.in_ok-nodes.ensures.places n places held) of

pub answer_of-requires-clause-held : goal.answer_of-requires-clause-held
answer_of-requires-clause-held g c =
    visits-held-more c.args.pool.now c.new_root.new.pool c.args.visits.now
    (keeps-on c.args.pool.now c.nodes_of.new.pool c.new_root.new.pool c.in_ok-nodes.ensures.kept
    c.in_ok-root.ensures.kept) c.requires.held

pub answer_of-requires-clause-nodes : goal.answer_of-requires-clause-nodes
answer_of-requires-clause-nodes g c =
    ap (λ (l : List NodeId). length l) c.as_slice-all.ensures.value ∙ c.in_ok-nodes.ensures.long

pub returns-in_err-answer-clause-refused : goal.returns-in_err-answer-clause-refused
returns-in_err-answer-clause-refused g c =
    IfErr-on c.from_residual-in_err-answer.result NoMemory _ c.from_residual-in_err-answer.ensures.1 (inl refl)

pub returns-in_err-answer-clause-extends : goal.returns-in_err-answer-clause-extends
returns-in_err-answer-clause-extends g c =
    extends-on c.args.pool.now c.nodes_of.new.pool c.new_root.new.pool c.in_ok-nodes.ensures.extends
    c.in_ok-root.ensures.extends

pub returns-in_err-answer-clause-kept : goal.returns-in_err-answer-clause-kept
returns-in_err-answer-clause-kept g c =
    keeps-on c.args.pool.now c.nodes_of.new.pool c.new_root.new.pool c.in_ok-nodes.ensures.kept
    c.in_ok-root.ensures.kept

pub returns-in_err-answer-clause-loaded : goal.returns-in_err-answer-clause-loaded
returns-in_err-answer-clause-loaded g c =
    loaded-on c.args.pool.now c.nodes_of.new.pool c.new_root.new.pool c.in_ok-nodes.ensures.loaded
    c.in_ok-root.ensures.loaded

pub returns-in_err-answer-clause-places : goal.returns-in_err-answer-clause-places
returns-in_err-answer-clause-places g c =
    λ n places held of. c.in_ok-root.ensures.places n (c.in_ok-nodes.ensures.places n places held) of

pub returns-clause-made : goal.returns-clause-made
returns-clause-made g c = record {
  mid = c.nodes_of.new.pool;
  nodes = c.as_slice-all.result.now;
  are =
      subst
      (λ (l : List NodeId). AreMadeNodes c.args.pool.now c.nodes_of.new.pool c.args.visits.now c.args.outgrowths.now
      l) (sym c.as_slice-all.ensures.value)
      (record {
        long = c.in_ok-nodes.ensures.long;
        kinds = c.in_ok-nodes.ensures.kinds;
        stand = c.in_ok-nodes.ensures.stand;
        more = c.in_ok-nodes.ensures.more;
        kept = c.in_ok-nodes.ensures.kept;
      });
  kept = c.in_ok-root.ensures.kept;
  root_is =
      λ word own e stand. ap (λ (u : UseOf). use_by word (tree_at word c.new_root.new.pool) u)
      c.in_ok-answer.ensures.root ∙ c.in_ok-root.ensures.root word own e stand;
  root_held =
      subst (λ (u : UseOf). u.id.0 < length c.new_root.new.pool) (sym c.in_ok-answer.ensures.root)
      c.in_ok-root.ensures.held;
  root_place =
      λ n some all. subst (λ (u : UseOf). u.place.0 < n) (sym c.in_ok-answer.ensures.root)
      (c.in_ok-root.ensures.place n some all);
  root_more =
      λ i le lt. c.in_ok-root.ensures.more i le lt ∙ ap (λ (u : UseOf). u.id.0) (sym c.in_ok-answer.ensures.root);
  images_are = c.in_ok-answer.ensures.images;
  replaced_are = c.in_ok-answer.ensures.replaced;
  images_ascend = c.in_ok-answer.ensures.images_ascend;
  replaced_ascend = c.in_ok-answer.ensures.replaced_ascend;
}

pub returns-clause-extends : goal.returns-clause-extends
returns-clause-extends g c =
    extends-on c.args.pool.now c.nodes_of.new.pool c.new_root.new.pool c.in_ok-nodes.ensures.extends
    c.in_ok-root.ensures.extends

pub returns-clause-kept : goal.returns-clause-kept
returns-clause-kept g c =
    keeps-on c.args.pool.now c.nodes_of.new.pool c.new_root.new.pool c.in_ok-nodes.ensures.kept
    c.in_ok-root.ensures.kept

pub returns-clause-loaded : goal.returns-clause-loaded
returns-clause-loaded g c =
    loaded-on c.args.pool.now c.nodes_of.new.pool c.new_root.new.pool c.in_ok-nodes.ensures.loaded
    c.in_ok-root.ensures.loaded

pub returns-clause-places : goal.returns-clause-places
returns-clause-places g c =
    λ n places held of. c.in_ok-root.ensures.places n (c.in_ok-nodes.ensures.places n places held) of
