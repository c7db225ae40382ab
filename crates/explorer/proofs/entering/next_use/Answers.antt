-- A use of the innermost node comes next, or the node is left; at last there is the root.
use Rattle.std.proofs.Common.{◌∙◌, sym, arith}
use Rattle.explorer.proofs.NextLemmas.{last-in-pool, last-marked, next-found, next-way, left-same, left-way}
use Rattle.explorer.proofs.entering.next_use.Goals as goal

pub next_marked-requires-clause-id : goal.next_marked-requires-clause-id
next_marked-requires-clause-id c =
    last-in-pool c.args.pool.now c.args.marks.now c.args.start.now c.loop-id.trail c.loop-id.invariant.way
    c.in-Some.id c.in-Some.at
    c.in-Some.ensures.some

pub next_marked-requires-clause-marks : goal.next_marked-requires-clause-marks
next_marked-requires-clause-marks c =
    let a = last-marked c.args.pool.now c.args.marks.now c.args.start.now c.loop-id.trail c.loop-id.invariant.way
    c.in-Some.id c.in-Some.at
    c.in-Some.ensures.some in
    omega (arith, a)

pub use_of-requires-clause-id : goal.use_of-requires-clause-id
use_of-requires-clause-id c =
    last-in-pool c.args.pool.now c.args.marks.now c.args.start.now c.loop-id.trail c.loop-id.invariant.way
    c.in-Some.id c.in-Some.at
    c.in-Some.ensures.some

pub returns-in-Some-next_marked-clause-some : goal.returns-in-Some-next_marked-clause-some
returns-in-Some-next_marked-clause-some c =
    next-found c.args.pool.now c.args.marks.now c.args.start.now c.loop-id.trail c.loop-id.invariant.way
    c.in-Some.id c.in-Some.at
    c.in-Some.ensures.some
    c.pass.new.self c.in-Some-next_marked.i c.pass.ensures.levels c.pass.ensures.deep c.laws.ensures c.args.trail.now
    c.loop-id.invariant.same c.use_of.result c.use_of.ensures c.in-Some-next_marked.ensures.some

pub returns-in-Some-next_marked-clause-way : goal.returns-in-Some-next_marked-clause-way
returns-in-Some-next_marked-clause-way c =
    next-way c.args.pool.now c.args.marks.now c.args.start.now c.loop-id.trail c.loop-id.invariant.way c.in-Some.id
    c.in-Some.at
    c.in-Some.ensures.some
    c.pass.new.self c.in-Some-next_marked.i c.pass.ensures.levels c.pass.ensures.deep

pub loop-id-preserved : goal.loop-id-preserved
loop-id-preserved c = record {
  same =
      c.loop-id.invariant.same ∙
      left-same c.args.pool.now c.args.marks.now c.args.start.now c.loop-id.trail c.loop-id.invariant.way
      c.in-Some.id c.in-Some.at
      c.in-Some.ensures.some
      c.leave.new.self c.leave.ensures.levels c.leave.ensures.deep c.in_default-next_marked.ensures.none;
  way =
      left-way c.args.pool.now c.args.marks.now c.args.start.now c.loop-id.trail c.loop-id.invariant.way
      c.in-Some.id c.in-Some.at
      c.in-Some.ensures.some
      c.leave.new.self c.leave.ensures.levels c.leave.ensures.deep;
  deep = c.leave.ensures.deep ∙ c.loop-id.invariant.deep;
}

pub bounds-marks-root : goal.bounds-marks-root
bounds-marks-root c = (c.loop-id.invariant.way.root c.in_ok-root.root (sym c.in_ok-root.ensures.value)).0
