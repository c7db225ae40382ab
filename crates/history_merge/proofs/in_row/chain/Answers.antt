-- The lists are those of the chain by numbers, and so among trees.
use Rattle.std.proofs.Common.{subst, List}
use Rattle.std.specs.Prelude.{Contains, ◌↔◌, ◌⊎◌}
use Rattle.shape_pool.specs.declared.node.NodeId.{NodeId}
use Rattle.step_history.specs.declared.history.StepHistory.{StepHistory}
use Rattle.step_history.specs.Numbered.{AreGone, IsHeld}
use Rattle.history_merge.specs.Chain.{IsChainAt}
use Rattle.history_merge.specs.Joined.{IsJoined}
use Rattle.history_merge.proofs.ChainLaws.{chain-held, chain-tells}
use Rattle.history_merge.proofs.in_row.chain.Goals as goal

pub removed_of-requires : goal.removed_of-requires
removed_of-requires c = c.in_ok-input.ensures.held

pub returns : goal.returns
returns c =
    let a : StepHistory = c.args.h12.now in
    let b : StepHistory = c.args.h23.now in
    let h : StepHistory = record { images = c.in_ok-images.images; generated = c.in_ok-generated.generated; removed = c.in_ok-removed.removed } in
    let images = subst (λ (l : List (NodeId × NodeId)). (y : NodeId × NodeId) → Contains c.in_ok-images.images y ↔ IsJoined l b.images y) c.as_slice-a_images.ensures
    (subst (λ (l : List (NodeId × NodeId)). (y : NodeId × NodeId) → Contains c.in_ok-images.images y ↔ IsJoined c.as_slice-a_images.result.now l y) c.as_slice-b_images.ensures c.in_ok-images.ensures.pairs) in
    let generated = subst (λ (l : List (NodeId × NodeId)). (y : NodeId × NodeId) → Contains c.in_ok-generated.generated y ↔
    (IsJoined l b.generated y ⊎ (IsJoined a.generated b.images y ⊎ IsJoined a.generated b.generated y))) c.as_slice-a_images.ensures
    (subst (λ (l : List (NodeId × NodeId)). (y : NodeId × NodeId) → Contains c.in_ok-generated.generated y ↔
    (IsJoined c.as_slice-a_images.result.now b.generated y ⊎ (IsJoined l b.images y ⊎ IsJoined l b.generated y))) c.as_slice-a_generated.ensures
    (subst (λ (l : List (NodeId × NodeId)). (y : NodeId × NodeId) → Contains c.in_ok-generated.generated y ↔
    (IsJoined c.as_slice-a_images.result.now b.generated y ⊎ (IsJoined c.as_slice-a_generated.result.now l y ⊎ IsJoined c.as_slice-a_generated.result.now b.generated y))) c.as_slice-b_images.ensures
    (subst (λ (l : List (NodeId × NodeId)). (y : NodeId × NodeId) → Contains c.in_ok-generated.generated y ↔
    (IsJoined c.as_slice-a_images.result.now l y ⊎ (IsJoined c.as_slice-a_generated.result.now c.as_slice-b_images.result.now y ⊎ IsJoined c.as_slice-a_generated.result.now l y))) c.as_slice-b_generated.ensures
    c.in_ok-generated.ensures.pairs))) in
    let is : IsChainAt c.args.pool.now c.args.first.0 c.args.last.0 a b h = record {
      images = images;
      generated = generated;
      removed = subst (λ (l : List (NodeId × NodeId)). AreGone c.args.pool.now c.args.first.0 c.args.last.0 l h.removed) c.as_slice-pairs.ensures
          (c.in_ok-removed.ensures.gone c.args.first.0 c.args.last.0 c.in_ok-input.ensures.below c.in_ok-output.ensures.below);
    } in
    let held : IsHeld c.args.pool.now h = chain-held c.args.pool.now c.laws.ensures c.args.first.0 c.args.last.0 a b h c.requires.first c.requires.earlier c.requires.later is in
    record {
      told = chain-tells c.args.pool.now c.laws.ensures c.args.first.0 c.args.last.0 a b h c.requires.first c.requires.last c.requires.earlier c.requires.later held is;
      listed = is;
      order = record { images = c.in_ok-images.ensures.order; generated = c.in_ok-generated.ensures.order; removed = c.in_ok-removed.ensures.order };
      held = held;
    }
