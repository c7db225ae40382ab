-- A head stands on few lines, by how many representations it has.
use Rattle.std.proofs.Common.{◌≤◌, arith}
use Rattle.std.specs.Prelude.{ℕ, ◌+◌, ◌*◌, Option, Some, None, List, [], ◌∷◌, length, drop, map, codes}
use Rattle.std.specs.List.{flat_map}
use Rattle.std.proofs.lemmas.List.{length-append, length-map}
use Rattle.tshape_data.specs.Flags.{spell_flags}
use Rattle.tshape_data.specs.Lines.{edge_rep_lines, head_lines, mesh_lines, payload_lines, point_line, uv_lines}
use Rattle.tshape_data.specs.Parts.{texts_in}
use Rattle.tshape_data.specs.Sound.{rep_count}
use Rattle.tshape_data.specs.declared.reps.EdgeRep.{EdgeRep}
use Rattle.tshape_data.specs.declared.head.Payload.{Payload}
use Rattle.tshape_data.specs.declared.head.Payload.TheVariants.{Vertex, Edge, Face, Nothing}
use Rattle.tshape_data.specs.declared.head.Head.{Head}

uv-lines : (texts : List (List ℕ)) → length (uv_lines texts) ≤ 1
uv-lines [] = omega arith
uv-lines (x ∷ xs) = omega arith

reps-lines : (version : ℕ) (reps : List EdgeRep) → length (flat_map (edge_rep_lines version) reps) ≤ 2 * length reps
reps-lines version [] = omega arith
reps-lines version (r ∷ reps) =
    let size = length-append (edge_rep_lines version r) (flat_map (edge_rep_lines version) reps) in
    let uv = uv-lines (drop 2 (texts_in version r)) in let rest = reps-lines version reps in
    omega (arith, size, uv, rest)

mesh-lines : (mesh : Option ℕ) → length (mesh_lines mesh) ≤ 1
mesh-lines None = omega arith
mesh-lines (Some n) = omega arith

payload-lines : (version : ℕ) (p : Payload) → length (payload_lines version p) ≤ 3 + 2 * rep_count p
payload-lines version (Vertex d) =
    let size = length-append (map point_line d.points) ((codes "0" ∷ codes "0" ∷ []) ∷ []) in
    let points = length-map d.points point_line in
    omega (arith, size, points)
payload-lines version (Edge d) =
    let size = length-append (flat_map (edge_rep_lines version) d.reps) ((codes "0" ∷ []) ∷ []) in
    let reps = reps-lines version d.reps in
    omega (arith, size, reps)
payload-lines version (Face d) = (let mesh = mesh-lines d.mesh in omega (arith, mesh))
payload-lines version Nothing = omega arith

pub head-lines : (version : ℕ) (h : Head) → length (head_lines version h) ≤ 6 + 2 * rep_count h.payload
head-lines version h =
    let size = length-append (payload_lines version h.payload) ([] ∷ (spell_flags h.flags ∷ []) ∷ []) in
    let data_lines = payload-lines version h.payload in
    omega (arith, size, data_lines)
