use Rattle.std.proofs.Common.{◌<◌, ◌≤◌, arith, length}
use Rattle.std.proofs.lemmas.List.Elements.{All-contains}
use Rattle.lists.proofs.Members.{Contains-map}
use Rattle.lists.proofs.Places.{Contains-at}
use Rattle.shape_pool.specs.declared.node.UseOf.{UseOf}
use Rattle.shape_pool.specs.Rows.{uses_at}
use Rattle.byte_sink.proofs.Joining.{as_text, each_all, each_more}
use Rattle.written_layout.specs.Layout.{spaced_use}
use Rattle.brep_writer.specs.Plans.{use_in_file}
use Rattle.brep_writer.proofs.Adding.{place-below}
use Rattle.brep_writer.proofs.Plans.{held}
use Rattle.brep_writer.proofs.Texts.{item-is, uses-text}
use Rattle.brep_writer.proofs.plan.WritePlan.put_uses.Goals as goal

pub use_count-at-end-requires : goal.use_count-at-end-requires
use_count-at-end-requires g c = held c.args.self.now c.requires.plan c.args.id.0 c.requires.written

pub use_at-requires-clause-id : goal.use_at-requires-clause-id
use_at-requires-clause-id g c = held c.args.self.now c.requires.plan c.args.id.0 c.requires.written

pub put_use-requires-clause-id : goal.put_use-requires-clause-id
put_use-requires-clause-id g c =
    let p = c.args.self.now in
    let lt = held p c.requires.plan c.args.id.0 c.requires.written in
    let us = uses_at p.source.pool.now c.args.id.0 in
    let below =
    All-contains (λ (u : UseOf). u.id.0 < c.args.id.0) us c.use_at.result
    (c.laws.ensures.uses_are_earlier c.args.id.0 lt) (Contains-at us c.uses.at c.use_at.result c.use_at.ensures) in
    omega (arith, below, lt)

pub put_use-requires-clause-place : goal.put_use-requires-clause-place
put_use-requires-clause-place g c =
    let p = c.args.self.now in
    place-below p.source c.requires.plan.source c.args.id.0 c.uses.at c.use_at.result
    (held p c.requires.plan c.args.id.0 c.requires.written) c.use_at.ensures

pub put_use-requires-clause-added : goal.put_use-requires-clause-added
put_use-requires-clause-added g c =
    let us = uses_at c.args.self.now.source.pool.now c.args.id.0 in
    c.requires.plan.located.used c.args.id.0 c.use_at.result.place.0 c.requires.written
    (Contains-map (λ (u : UseOf). u.place.0) c.use_at.result us (Contains-at us c.uses.at c.use_at.result
    c.use_at.ensures))

pub uses-init : goal.uses-init
uses-init g c = g.met.B.TakesBytes.joins.none _

pub uses-preserved : goal.uses-preserved
uses-preserved g c =
    let p = c.args.self.now in
    let us = uses_at p.source.pool.now c.args.id.0 in
    let count = c.use_count-at-end.ensures in
    let lt : c.uses.at < length us = omega (arith, count, c.uses-test.true) in
    each_more g.met.B.TakesBytes.joins (λ (u : UseOf). spaced_use (use_in_file p u)) us c.uses.at c.use_at.result _ _ _
    lt (item-is us c.uses.at c.use_at.result lt c.use_at.ensures) c.uses.invariant c.put_use.ensures

pub returns : goal.returns
returns g c =
    let p = c.args.self.now in
    let joins = g.met.B.TakesBytes.joins in
    let us = uses_at p.source.pool.now c.args.id.0 in
    let count = c.use_count-at-end.ensures in
    let long : length us ≤ c.uses.at = omega (arith, count, c.uses-test.false) in
    as_text joins _ _ _ _
    (each_all joins (λ (u : UseOf). spaced_use (use_in_file p u)) us c.uses.at _ _ long c.uses.invariant)
    (uses-text p c.requires.plan c.laws.ensures c.args.id.0 (held p c.requires.plan c.args.id.0 c.requires.written))
