-- Each turn of the loop by its law.
use Rattle.std.proofs.Common.{◌≡◌, sym, ◌∙◌, ap, subst, arith, reverse, ◌++◌, ◌∷◌, [], slice_set, Contains}
use Rattle.std.proofs.lemmas.List.{nil_from_length}
use Rattle.std.specs.Prelude.{replicate}
use Rattle.lists.proofs.Places.{slice_get-none}
use Rattle.graph_walks.specs.declared.depth_first.Mark.TheVariants.{New, OnPath, Done}
use Rattle.graph_walks.specs.Search.{IsSearch, path_of}
use Rattle.graph_walks.proofs.SearchLaws.{next-edge, on_path, at-node, at-mark, leave, pass, enter}
use Rattle.graph_walks.proofs.WorkLaws.{work-leave, work-pass, work-enter}
use Rattle.graph_walks.proofs.Turns.{mark-at, next-within, at-top, pushed, pushed-two}
use Rattle.graph_walks.proofs.Turns.{listed, stands, cycle-found, cycle-from, starts, ends}
use Rattle.graph_walks.proofs.depth_first.search.Goals as goal

pub loop-top-init : goal.loop-top-init
loop-top-init c =
    let start = starts c.args.graph.now c.args.root c.len.result (omega (arith, c.len.ensures, c.requires.root))
    c.len.ensures in
    let marks = ap (λ l. slice_set l c.args.root OnPath) c.in_ok-marks.ensures in
    let path : reverse c.push.new.self.items ≡ record { node = c.args.root; next = 0 } ∷ [] =
    ap reverse (c.in_ok-push.ensures.items ∙ ap (λ l. l ++ record { node = c.args.root; next = 0 } ∷ [])
    c.new-path.ensures.items) in
    let order : reverse c.new-order.result.items ≡ [] = ap reverse c.new-order.ensures.items in
    subst
    (λ m. IsSearch c.args.graph.now c.args.root m (reverse c.new-order.result.items) (reverse c.push.new.self.items))
    (sym marks)
    (subst (λ o. IsSearch c.args.graph.now c.args.root (slice_set (replicate c.len.result New) c.args.root OnPath) o
    (reverse c.push.new.self.items))
    (sym order)
    (subst (λ p. IsSearch c.args.graph.now c.args.root (slice_set (replicate c.len.result New) c.args.root OnPath) [] p)
    (sym path) start))

pub next_end-requires : goal.next_end-requires
next_end-requires c =
    let at = at-top c.loop-top.path.items c.pop.new.self.items c.in-Some.top c.in-Some.ensures.items
    c.loop-top.invariant in
    at-node at

pub index_mut-requires-in_default-next_end : goal.index_mut-requires-in_default-next_end
index_mut-requires-in_default-next_end c =
    let at = at-top c.loop-top.path.items c.pop.new.self.items c.in-Some.top c.in-Some.ensures.items
    c.loop-top.invariant in
    let held = at-mark at in
    let long = c.loop-top.marks.ok.0 in
    omega (arith, held, long)

pub loop-top-smaller-in_default-next_end : goal.loop-top-smaller-in_default-next_end
loop-top-smaller-in_default-next_end c =
    let at = at-top c.loop-top.path.items c.pop.new.self.items c.in-Some.top c.in-Some.ensures.items
    c.loop-top.invariant in
    work-leave c.args.graph.now c.loop-top.marks.items c.loop-top.path.items c.pop.new.self.items c.in-Some.top
    c.in-Some.ensures.items
    (on_path at)

pub loop-top-preserved-in_default-next_end : goal.loop-top-preserved-in_default-next_end
loop-top-preserved-in_default-next_end c =
    let at = at-top c.loop-top.path.items c.pop.new.self.items c.in-Some.top c.in-Some.ensures.items
    c.loop-top.invariant in
    listed c.loop-top.order.items c.push-in_default-next_end.new.self.items c.in-Some.top.node
    c.in_ok-push-2.ensures.items
    (leave at (slice_get-none _ c.in-Some.top.next (sym c.next_end.ensures.end ∙ c.in_default-next_end.is)))

pub index-requires : goal.index-requires
index-requires c =
    let next = next-edge c.args.graph.now c.in-Some.top c.in-Some-next_end.end (sym c.in-Some-next_end.ensures.end) in
    let held = next-within c.args.graph.now c.in-Some.top c.in-Some-next_end.end c.requires.ends next in
    let long = c.loop-top.marks.ok.0 in
    omega (arith, held, long, c.loop-top.invariant.long)

pub loop-top-smaller-in_ok-push-in-Done : goal.loop-top-smaller-in_ok-push-in-Done
loop-top-smaller-in_ok-push-in-Done c =
    let next = next-edge c.args.graph.now c.in-Some.top c.in-Some-next_end.end (sym c.in-Some-next_end.ensures.end) in
    work-pass c.args.graph.now c.loop-top.marks.items c.loop-top.path.items c.pop.new.self.items c.in-Some.top
    c.in-Some.ensures.items
    c.push-in-Done.new.self.items c.in_ok-push-in-Done.ensures.items next.within

pub loop-top-preserved-in_ok-push-in-Done : goal.loop-top-preserved-in_ok-push-in-Done
loop-top-preserved-in_ok-push-in-Done c =
    let at = at-top c.loop-top.path.items c.pop.new.self.items c.in-Some.top c.in-Some.ensures.items
    c.loop-top.invariant in
    let next = next-edge c.args.graph.now c.in-Some.top c.in-Some-next_end.end (sym c.in-Some-next_end.ensures.end) in
    let held = next-within c.args.graph.now c.in-Some.top c.in-Some-next_end.end c.requires.ends next in
    let marked = mark-at c.loop-top.marks.items c.in-Some-next_end.end Done c.index.result.now
    (omega (arith, held, c.loop-top.invariant.long))
    (sym c.index.ensures ∙ c.in-Done.is) in
    pushed c.pop.new.self.items c.push-in-Done.new.self.items _ c.in_ok-push-in-Done.ensures.items (pass at next marked)

pub closed-requires : goal.closed-requires
closed-requires c =
    let at = at-top c.loop-top.path.items c.pop.new.self.items c.in-Some.top c.in-Some.ensures.items
    c.loop-top.invariant in
    let next = next-edge c.args.graph.now c.in-Some.top c.in-Some-next_end.end (sym c.in-Some-next_end.ensures.end) in
    let held = next-within c.args.graph.now c.in-Some.top c.in-Some-next_end.end c.requires.ends next in
    let marked = mark-at c.loop-top.marks.items c.in-Some-next_end.end OnPath c.index.result.now
    (omega (arith, held, c.loop-top.invariant.long))
    (sym c.index.ensures ∙ c.in-OnPath.is) in
    let on = stands c.pop.new.self.items c.push-in-OnPath.new.self.items c.in-Some.top
    c.in_ok-push-in-OnPath.ensures.items at c.in-Some-next_end.end marked in
    subst (λ l. Contains (path_of l) c.in-Some-next_end.end) (sym c.as_slice.ensures.value) on

pub returns-in-OnPath : goal.returns-in-OnPath
returns-in-OnPath c =
    let at = at-top c.loop-top.path.items c.pop.new.self.items c.in-Some.top c.in-Some.ensures.items
    c.loop-top.invariant in
    let next = next-edge c.args.graph.now c.in-Some.top c.in-Some-next_end.end (sym c.in-Some-next_end.ensures.end) in
    let parts = c.in_ok-closed-in-OnPath.ensures in
    cycle-from c.args.graph.now c.args.root c.in_ok-closed-in-OnPath.field-0.items c.requires.ends c.requires.root
    (cycle-found c.pop.new.self.items c.push-in-OnPath.new.self.items c.in-Some.top c.in_ok-push-in-OnPath.ensures.items
    at
    c.in-Some-next_end.end parts.0 parts.1 c.in_ok-closed-in-OnPath.field-0.items next
    (ap path_of (sym c.as_slice.ensures.value) ∙ parts.2) parts.3)

pub index_mut-requires-in-New : goal.index_mut-requires-in-New
index_mut-requires-in-New c =
    let next = next-edge c.args.graph.now c.in-Some.top c.in-Some-next_end.end (sym c.in-Some-next_end.ensures.end) in
    let held = next-within c.args.graph.now c.in-Some.top c.in-Some-next_end.end c.requires.ends next in
    let long = c.loop-top.marks.ok.0 in
    omega (arith, held, long, c.loop-top.invariant.long)

pub loop-top-smaller : goal.loop-top-smaller
loop-top-smaller c =
    let next = next-edge c.args.graph.now c.in-Some.top c.in-Some-next_end.end (sym c.in-Some-next_end.ensures.end) in
    let held = next-within c.args.graph.now c.in-Some.top c.in-Some-next_end.end c.requires.ends next in
    let marked = mark-at c.loop-top.marks.items c.in-Some-next_end.end New c.index.result.now
    (omega (arith, held, c.loop-top.invariant.long))
    (sym c.index.ensures ∙ c.in-New.is) in
    work-enter c.args.graph.now c.loop-top.marks.items c.loop-top.path.items c.pop.new.self.items c.in-Some.top
    c.in-Some.ensures.items c.push-in-New.new.self.items
    c.push-in-New-2.new.self.items c.in-Some-next_end.end c.in_ok-push-in-New.ensures.items
    c.in_ok-push-in-New-2.ensures.items marked c.loop-top.invariant.long

pub loop-top-preserved : goal.loop-top-preserved
loop-top-preserved c =
    let at = at-top c.loop-top.path.items c.pop.new.self.items c.in-Some.top c.in-Some.ensures.items
    c.loop-top.invariant in
    let next = next-edge c.args.graph.now c.in-Some.top c.in-Some-next_end.end (sym c.in-Some-next_end.ensures.end) in
    let held = next-within c.args.graph.now c.in-Some.top c.in-Some-next_end.end c.requires.ends next in
    let marked = mark-at c.loop-top.marks.items c.in-Some-next_end.end New c.index.result.now
    (omega (arith, held, c.loop-top.invariant.long))
    (sym c.index.ensures ∙ c.in-New.is) in
    pushed-two c.pop.new.self.items c.push-in-New.new.self.items c.push-in-New-2.new.self.items c.in-Some.top _
    c.in_ok-push-in-New.ensures.items
    c.in_ok-push-in-New-2.ensures.items (enter at next marked)

pub returns : goal.returns
returns c =
    let none = nil_from_length c.loop-top.path.items
    (let long = c.loop-top.path.ok.0 in omega (arith, long, c.in_default.ensures.cases.0)) in
    ends c.args.graph.now c.args.root c.loop-top.marks.items c.loop-top.order.items
    (subst (λ l. IsSearch c.args.graph.now c.args.root c.loop-top.marks.items (reverse c.loop-top.order.items)
    (reverse l)) none c.loop-top.invariant)
