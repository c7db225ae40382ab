-- One shape more is of the kind, or isn't.
use Rattle.std.proofs.Common.{◌∙◌, ◌++◌, ◌∷◌, [], ap, sym}
use Rattle.lists.proofs.Places.{Contains-at}
use Rattle.subshape_maps.specs.declared.shape.ShapeAt.{ShapeAt}
use Rattle.std.specs.Prelude.{List}
use Rattle.subshape_maps.specs.Numbered.{is_asked_at}
use Rattle.subshape_maps.proofs.ListLemmas.{one-kept, one-dropped}
use Rattle.subshape_maps.proofs.listing.of_kind.Goals as goal
use Rattle.subshape_maps.proofs.listing.of_kind.Goals.{then-is_asked+in_ok-push, else-is_asked}

pub is_asked-requires : goal.is_asked-requires
is_asked-requires c = c.requires c.index-at.result.now (Contains-at c.args.seen.now.keys c.loop-i.i c.index-at.result.now c.index-at.ensures)

pub loop-i-preserved : goal.loop-i-preserved
loop-i-preserved c = elim c.if-is_asked.branch [
  | then-is_asked+in_ok-push w ↦
      (let e = one-kept (is_asked_at c.args.pool.now c.args.kind) c.args.seen.now.keys c.loop-i.i c.index-at.result.now c.index-at.ensures (sym c.is_asked.ensures ∙ w.if-is_asked.true) in
      w.shapes-is ∙ w.in_ok-push.ensures.ok ∙ ap (λ (l : List ShapeAt). l ++ c.index-at.result.now ∷ []) c.loop-i.invariant ∙ sym e)
  | else-is_asked w ↦
      (let e = one-dropped (is_asked_at c.args.pool.now c.args.kind) c.args.seen.now.keys c.loop-i.i c.index-at.result.now c.index-at.ensures (sym c.is_asked.ensures ∙ w.if-is_asked.false) in
      w.shapes-is ∙ c.loop-i.invariant ∙ sym e)
]
