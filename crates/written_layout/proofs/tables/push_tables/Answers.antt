use Rattle.std.proofs.Common.{ap}
use Rattle.std.specs.Prelude.{codes}
use Rattle.curve_tables.specs.Shapes.{CanSpell2, CanSpell3}
use Rattle.curve_tables.specs.Sound.{IsSound2, IsSound3}
use Rattle.curve_tables.specs.Spelling.{spelling2, spelling3}
use Rattle.mesh_tables.specs.Sound.{CanSpellMesh, CanSpellPolygon, CanSpellPolygonOn}
use Rattle.mesh_tables.specs.Sound.{IsSoundMesh, IsSoundPolygon, IsSoundPolygonOn}
use Rattle.mesh_tables.specs.Spelling.{spell_mesh, spell_polygon, spell_polygon_on}
use Rattle.surface_tables.specs.Shapes.{CanSpellSurface}
use Rattle.surface_tables.specs.Sound.{IsSoundSurface}
use Rattle.surface_tables.specs.Spelling.{spell_surface}
use Rattle.byte_sink.proofs.Joining.{as_text}
use Rattle.written_layout.specs.Layout.{section_lines, section_text}
use Rattle.written_layout.proofs.TableLines.{can-all, short-table, six}
use Rattle.written_layout.proofs.tables.push_tables.Goals as goal

pub push_section-requires : goal.push_section-requires
push_section-requires g c =
    can-all IsSound2 CanSpell2 spelling2 c.curves_are_exact.ensures.spells2 c.args.file.now.curve2s
    c.as_slice.result.now c.as_slice.ensures
    c.requires.tables.curve2s.entries (short-table c.args.file.now c.requires).curve2s

pub push_section-requires-2 : goal.push_section-requires-2
push_section-requires-2 g c =
    can-all (IsSound3 0) CanSpell3 spelling3 (c.curves_are_exact.ensures.spells3 0) c.args.file.now.curves
    c.as_slice-2.result.now c.as_slice-2.ensures
    c.requires.tables.curves.entries (short-table c.args.file.now c.requires).curves

pub push_section-requires-3 : goal.push_section-requires-3
push_section-requires-3 g c =
    can-all IsSoundPolygon CanSpellPolygon spell_polygon c.meshes_can_be_spelled.ensures.polygon
    c.args.file.now.polygons c.as_slice-3.result.now c.as_slice-3.ensures
    c.requires.tables.polygons.entries (short-table c.args.file.now c.requires).polygons

pub push_section-requires-4 : goal.push_section-requires-4
push_section-requires-4 g c =
    can-all IsSoundPolygonOn CanSpellPolygonOn spell_polygon_on c.meshes_can_be_spelled.ensures.polygon_on
    c.args.file.now.polygons_on c.as_slice-4.result.now c.as_slice-4.ensures
    c.requires.tables.polygons_on.entries (short-table c.args.file.now c.requires).polygons_on

pub push_section-requires-5 : goal.push_section-requires-5
push_section-requires-5 g c =
    can-all IsSoundSurface CanSpellSurface spell_surface c.surfaces_are_exact.ensures.spells c.args.file.now.surfaces
    c.as_slice-5.result.now c.as_slice-5.ensures
    c.requires.tables.surfaces.entries (short-table c.args.file.now c.requires).surfaces

pub push_section-requires-6 : goal.push_section-requires-6
push_section-requires-6 g c =
    can-all IsSoundMesh CanSpellMesh spell_mesh c.meshes_can_be_spelled.ensures.mesh c.args.file.now.meshes
    c.as_slice-6.result.now c.as_slice-6.ensures
    c.requires.tables.meshes.entries (short-table c.args.file.now c.requires).meshes

pub returns : goal.returns
returns g c =
    let f = c.args.file.now in
    let joins = g.met.B.TakesBytes.joins in
    as_text joins _ _ _ _
    (joins.joined _ _ _ _ _
    (as_text joins _ _ _ _
    c.push_section.ensures
    (ap (section_text (codes "Curve2ds") spelling2) c.as_slice.ensures))
    (joins.joined _ _ _ _ _
    (as_text joins _ _ _ _
    c.push_section-2.ensures
    (ap (section_text (codes "Curves") spelling3) c.as_slice-2.ensures))
    (joins.joined _ _ _ _ _
    (as_text joins _ _ _ _
    c.push_section-3.ensures
    (ap (section_text (codes "Polygon3D") spell_polygon) c.as_slice-3.ensures))
    (joins.joined _ _ _ _ _
    (as_text joins _ _ _ _
    c.push_section-4.ensures
    (ap (section_text (codes "PolygonOnTriangulations") spell_polygon_on) c.as_slice-4.ensures))
    (joins.joined _ _ _ _ _
    (as_text joins _ _ _ _
    c.push_section-5.ensures
    (ap (section_text (codes "Surfaces") spell_surface) c.as_slice-5.ensures))
    (as_text joins _ _ _ _
    c.push_section-6.ensures
    (ap (section_text (codes "Triangulations") spell_mesh) c.as_slice-6.ensures)))))))
    (six (section_lines (codes "Curve2ds") spelling2 f.curve2s) (section_lines (codes "Curves") spelling3 f.curves)
    (section_lines (codes "Polygon3D") spell_polygon f.polygons)
    (section_lines (codes "PolygonOnTriangulations") spell_polygon_on f.polygons_on)
    (section_lines (codes "Surfaces") spell_surface f.surfaces)
    (section_lines (codes "Triangulations") spell_mesh f.meshes))
