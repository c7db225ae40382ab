use Rattle.std.proofs.Common.{ℕ, List, ◌++◌, ◌∷◌, [], ap}
use Rattle.byte_sink.proofs.Joining.{as_text}
use Rattle.written_locations.specs.Added.{location_number}
use Rattle.written_heads.proofs.PieceLemmas.{face_text}
use Rattle.written_heads.proofs.heads.push_face.Goals as goal

pub returns : goal.returns
returns g c =
    let joins = g.met.B.TakesBytes.joins in
    let flag = as_text joins _ _ _ _
    c.push_byte.ensures
    (ap (λ (b : ℕ). b ∷ []) c.flag_digit.ensures) in
    as_text joins _ _ _ _
    (joins.joined _ _ _ _ _ flag
    (joins.joined _ _ _ _ _ c.push_byte-2.ensures
    (joins.joined _ _ _ _ _ c.push_text.ensures
    (joins.joined _ _ _ _ _ c.push_number.ensures
    (joins.joined _ _ _ _ _ c.push_location.ensures
    (joins.joined _ _ _ _ _ c.push_byte-3.ensures c.push_mesh.ensures))))))
    (face_text (location_number c.args.locations.now) c.args.face.now c.requires.tolerance)
