use Rattle.std.proofs.Common.{◌≤◌, [], sym, ◌∙◌, ap, subst}
use Rattle.std.specs.Prelude.{ℕ, List, All, length}
use Rattle.std.specs.List.{flat_map}
use Rattle.tshape_data.specs.Locations.{data_locations}
use Rattle.tshape_data.specs.declared.reps.EdgeRep.{EdgeRep}
use Rattle.tshape_data.specs.declared.reps.PointRep.{PointRep}
use Rattle.written_locations.specs.Added.{Adds}
use Rattle.written_heads.specs.Named.{edge_locations, point_locations}
use Rattle.written_heads.proofs.LocationLemmas.{all_within, first, in_edge, in_face, in_vertex, on_ok}
use Rattle.written_heads.proofs.adding.add_head_locations.Goals as goal

pub add_point_locations-requires-clause-named : goal.add_point_locations-requires-clause-named
add_point_locations-requires-clause-named c =
    let P : ℕ → Type 0 = λ place. place ≤ length c.args.locations.now.section.now in
    let d = c.in-Vertex.vertex in
    let version = c.requires.named.0 in
    subst (λ (points : List PointRep). All (λ (p : PointRep). All P (point_locations p)) points)
    (sym c.as_slice.ensures)
    (all_within P point_locations d.points
    (subst (All P) (ap (data_locations version) c.in-Vertex.is ∙ in_vertex version d) c.requires.named.1))

pub add_edge_reps_locations-requires-clause-named : goal.add_edge_reps_locations-requires-clause-named
add_edge_reps_locations-requires-clause-named c =
    let P : ℕ → Type 0 = λ place. place ≤ length c.args.locations.now.section.now in
    let d = c.in-Edge.edge in
    let version = c.requires.named.0 in
    subst (λ (reps : List EdgeRep). All (λ (r : EdgeRep). All P (edge_locations r)) reps)
    (sym c.as_slice-in-Edge.ensures)
    (all_within P edge_locations d.reps (subst (All P) (ap (data_locations version) c.in-Edge.is ∙ in_edge version d)
    c.requires.named.1))

pub add-requires-clause-place : goal.add-requires-clause-place
add-requires-clause-place c =
    let P : ℕ → Type 0 = λ place. place ≤ length c.args.locations.now.section.now in
    let d = c.in-Face.face in
    let version = c.requires.named.0 in
    first P d.location [] (subst (All P) (ap (data_locations version) c.in-Face.is ∙ in_face version d)
    c.requires.named.1)

pub returns-in-Vertex : goal.returns-in-Vertex
returns-in-Vertex c =
    on_ok c.add_point_locations.result
    (λ m version. subst (λ l. Adds l c.args.locations.now c.add_point_locations.new.locations)
    (sym (ap (data_locations version) c.in-Vertex.is ∙ in_vertex version c.in-Vertex.vertex
    ∙ ap (flat_map point_locations) (sym c.as_slice.ensures))) m)
    c.add_point_locations.ensures

pub returns-in-Edge : goal.returns-in-Edge
returns-in-Edge c =
    on_ok c.add_edge_reps_locations.result
    (λ m version. subst (λ l. Adds l c.args.locations.now c.add_edge_reps_locations.new.locations)
    (sym (ap (data_locations version) c.in-Edge.is ∙ in_edge version c.in-Edge.edge ∙ ap (flat_map edge_locations)
    (sym c.as_slice-in-Edge.ensures))) m)
    c.add_edge_reps_locations.ensures

pub returns-in-Face : goal.returns-in-Face
returns-in-Face c =
    on_ok c.add.result
    (λ m version. subst (λ l. Adds l c.args.locations.now c.add.new.self)
    (sym (ap (data_locations version) c.in-Face.is ∙ in_face version c.in-Face.face)) m)
    c.add.ensures
