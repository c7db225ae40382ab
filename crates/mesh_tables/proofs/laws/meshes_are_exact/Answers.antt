-- By the laws of the fields and of the forms of tokens.
use Rattle.mesh_tables.proofs.MeshLaws.{mesh_again, mesh_forms, mesh_takes}
use Rattle.mesh_tables.proofs.PolygonLaws.{polygon_again, polygon_forms, polygon_takes}
use Rattle.mesh_tables.proofs.PolygonOnLaws.{polygon_on_again, polygon_on_forms, polygon_on_takes}
use Rattle.mesh_tables.proofs.laws.meshes_are_exact.Goals as goal

pub returns : goal.returns
returns c =
    let fields = c.fields_are_exact.ensures in
    let forms = c.forms_are_exact.ensures in
    record {
      polygon = record { takes = polygon_takes fields; again = polygon_again fields };
      polygon_on = record { takes = polygon_on_takes fields; again = polygon_on_again fields };
      mesh = record { takes = mesh_takes fields; again = mesh_again fields };
      polygon_forms = polygon_forms forms;
      polygon_on_forms = polygon_on_forms forms;
      mesh_forms = mesh_forms forms;
    }
