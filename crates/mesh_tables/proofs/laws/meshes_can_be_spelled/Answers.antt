-- The decimals are among the tokens.
use Rattle.mesh_tables.proofs.Shortness.{can_be_spelled}
use Rattle.mesh_tables.proofs.laws.meshes_can_be_spelled.Goals as goal

pub returns : goal.returns
returns c = can_be_spelled
