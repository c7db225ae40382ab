-- The walk from the node on.
use Rattle.std.proofs.Common.{◌≡◌, ap, ℕ, ◌++◌, ◌∷◌, [], ◌+◌, arith, slice_index_or, take, Vec, Global}
use Rattle.std.proofs.lemmas.List.{map_more, take_all}
use Rattle.graph_walks.specs.declared.depth_first.Frame.{Frame}
use Rattle.graph_walks.specs.Search.{path_of}
use Rattle.graph_walks.proofs.Closing.{later, first, not_yet, last}
use Rattle.graph_walks.proofs.depth_first.closed.Goals.{then-met+in_ok-push, else-met+then-f-end+in_ok-push-2}
use Rattle.graph_walks.proofs.depth_first.closed.Goals.{else-met+else-f-end}
use Rattle.graph_walks.proofs.depth_first.closed.Goals as goal

abbrev no_frame : Frame
no_frame = record { node = 0; next = 0 }

pub loop-f-preserved : goal.loop-f-preserved
loop-f-preserved c =
    let x : Frame = slice_index_or c.args.path.now c.loop-f.f-index no_frame in
    let more : path_of (take (c.loop-f.f-index + 1) c.args.path.now) ≡
    path_of (take c.loop-f.f-index c.args.path.now) ++ x.node ∷ [] =
    map_more (λ (f : Frame). f.node) c.args.path.now c.loop-f.f-index no_frame c.loop-f-test.true in
    elim c.if-met.branch [
      | then-met+in_ok-push w ↦ later c.loop-f.met c.if-met.met c.loop-f.walk.items c.if-met.walk.items _ _ c.args.end
          x.node c.loop-f.invariant w.if-met.true w.met-is
          (let a = w.in_ok-push.ensures.items in let b = w.walk-is in cc)
          more
      | else-met+then-f-end+in_ok-push-2 w ↦
          first c.loop-f.met c.if-met.met c.loop-f.walk.items c.if-met.walk.items _ _ c.args.end x.node
          c.loop-f.invariant w.if-met.false w.met-is w.if-f-end.true
          (let a = w.in_ok-push-2.ensures.items in let b = w.walk-is in cc) more
      | else-met+else-f-end w ↦ not_yet c.loop-f.met c.if-met.met c.loop-f.walk.items c.if-met.walk.items _ _ c.args.end
          x.node c.loop-f.invariant w.if-met.false w.met-is w.if-f-end.false
          (ap (λ (v : Vec ℕ Global). v.items) w.walk-is) more
    ]

pub returns : goal.returns
returns c = last c.loop-f.met c.loop-f.walk.items c.push-2.new.self.items _
    (path_of c.args.path.now) c.args.end c.loop-f.invariant c.requires
    (ap path_of (take_all c.loop-f.f-index c.args.path.now (omega (arith, c.loop-f-test.false))))
    c.in_ok-push-3.ensures.items
