use Rattle.std.proofs.Common.{◌≤◌, [], ◌∷◌, refl, sym, ap, subst}
use Rattle.std.specs.Prelude.{length}
use Rattle.written_locations.specs.Added.{Adds}
use Rattle.written_heads.specs.Named.{edge_locations}
use Rattle.written_heads.proofs.LocationLemmas.{named, named_second, on_ok}
use Rattle.written_heads.proofs.adding.add_edge_rep_locations.Goals as goal

pub add-requires-clause-place : goal.add-requires-clause-place
add-requires-clause-place c = named (λ place. place ≤ length c.args.locations.now.section.now) _ _ c.in-Curve.location
    [] c.in-Curve.is refl c.requires.named

pub add-requires-in-Curve2-clause-place : goal.add-requires-in-Curve2-clause-place
add-requires-in-Curve2-clause-place c =
    named (λ place. place ≤ length c.args.locations.now.section.now) _ _ c.in-Curve2.location [] c.in-Curve2.is refl
    c.requires.named

pub add-requires-in-Seam-clause-place : goal.add-requires-in-Seam-clause-place
add-requires-in-Seam-clause-place c =
    named (λ place. place ≤ length c.args.locations.now.section.now) _ _ c.in-Seam.location [] c.in-Seam.is refl
    c.requires.named

pub add-requires-in-Joint-clause-place : goal.add-requires-in-Joint-clause-place
add-requires-in-Joint-clause-place c =
    named (λ place. place ≤ length c.args.locations.now.section.now) _ _ c.in-Joint.first_location
    (c.in-Joint.second_location ∷ []) c.in-Joint.is refl c.requires.named

pub add-requires-in-Joint-2-clause-place : goal.add-requires-in-Joint-2-clause-place
add-requires-in-Joint-2-clause-place c =
    subst (λ l. c.in-Joint.second_location ≤ length l) (sym c.in_ok-add-in-Joint.ensures.section)
    (named_second (λ place. place ≤ length c.args.locations.now.section.now) _ _ c.in-Joint.first_location
    c.in-Joint.second_location [] c.in-Joint.is refl c.requires.named)

pub add-requires-in-Polygon-clause-place : goal.add-requires-in-Polygon-clause-place
add-requires-in-Polygon-clause-place c =
    named (λ place. place ≤ length c.args.locations.now.section.now) _ _ c.in-Polygon.location [] c.in-Polygon.is refl
    c.requires.named

pub add-requires-in-PolygonOn-clause-place : goal.add-requires-in-PolygonOn-clause-place
add-requires-in-PolygonOn-clause-place c =
    named (λ place. place ≤ length c.args.locations.now.section.now) _ _ c.in-PolygonOn.location [] c.in-PolygonOn.is
    refl c.requires.named

pub add-requires-in-SeamPolygons-clause-place : goal.add-requires-in-SeamPolygons-clause-place
add-requires-in-SeamPolygons-clause-place c =
    named (λ place. place ≤ length c.args.locations.now.section.now) _ _ c.in-SeamPolygons.location []
    c.in-SeamPolygons.is refl c.requires.named

pub returns-in_ok-add-in-Joint : goal.returns-in_ok-add-in-Joint
returns-in_ok-add-in-Joint c =
    on_ok c.add-in-Joint-2.result
    (λ m. subst (λ l. Adds l c.args.locations.now c.add-in-Joint-2.new.self) (sym (ap edge_locations c.in-Joint.is))
    (c.added_parts_join.ensures.joined (c.in-Joint.first_location ∷ []) (c.in-Joint.second_location ∷ [])
    c.args.locations.now c.add-in-Joint.new.self c.add-in-Joint-2.new.self c.in_ok-add-in-Joint.ensures m))
    c.add-in-Joint-2.ensures
