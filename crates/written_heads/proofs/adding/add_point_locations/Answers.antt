use Rattle.std.proofs.Common.{◌≤◌, [], sym, subst}
use Rattle.std.specs.Prelude.{All, length}
use Rattle.tshape_data.specs.declared.reps.PointRep.{PointRep}
use Rattle.written_locations.specs.Added.{Adds}
use Rattle.written_heads.specs.Named.{point_locations}
use Rattle.written_heads.proofs.LocationLemmas.{first, adds_more}
use Rattle.written_heads.proofs.adding.add_point_locations.Goals as goal

pub add-requires-clause-place : goal.add-requires-clause-place
add-requires-clause-place c =
    let s = c.args.locations.now in
    let point = c.point-item.result in
    let here = subst (λ (p : PointRep). All (λ place. place ≤ length s.section.now) (point_locations p))
    (sym c.point-item.is)
    (c.requires.named c.loop-point.point-index point c.loop-point-test.true) in
    subst (λ l. c.point_location.result ≤ length l) (sym c.loop-point.invariant.section)
    (first (λ place. place ≤ length s.section.now) c.point_location.result []
    (subst (All (λ place. place ≤ length s.section.now)) c.point_location.ensures here))

pub loop-point-preserved : goal.loop-point-preserved
loop-point-preserved c =
    adds_more c.added_parts_join.ensures point_locations c.args.points.now c.loop-point.point-index c.point-item.result
    c.args.locations.now c.loop-point.locations c.add.new.self c.loop-point-test.true c.point-item.is
    c.loop-point.invariant (subst (λ l. Adds l c.loop-point.locations c.add.new.self) (sym c.point_location.ensures)
    c.in_ok-add.ensures)
