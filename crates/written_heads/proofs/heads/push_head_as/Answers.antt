use Rattle.std.proofs.Common.{ℕ, List, ◌++◌, ◌∷◌, [], ap}
use Rattle.byte_sink.proofs.Joining.{as_text}
use Rattle.written_locations.specs.Added.{location_number}
use Rattle.written_heads.proofs.PieceLemmas.{head_text}
use Rattle.written_heads.proofs.Writable.{writable}
use Rattle.written_heads.proofs.heads.push_head_as.Goals as goal

pub push_payload-requires-clause-writable : goal.push_payload-requires-clause-writable
push_payload-requires-clause-writable g c =
    let sound = c.requires.sound in
    writable sound.sizes sound.own c.args.version sound.output c.args.locations.now c.args.head.now.kind
    c.args.head.now.payload sound.sound c.requires.within c.requires.added

pub returns : goal.returns
returns g c =
    let joins = g.met.B.TakesBytes.joins in
    let kind = as_text joins _ _ _ _
    c.push_line.ensures
    (ap (λ (t : List ℕ). t ++ 10 ∷ []) c.kind_name.ensures) in
    let flags = as_text joins _ _ _ _
    c.push_line-2.ensures
    (ap (λ (t : List ℕ). t ++ 10 ∷ []) c.flag_digits.ensures) in
    as_text joins _ _ _ _
    (joins.joined _ _ _ _ _ kind
    (joins.joined _ _ _ _ _ c.push_payload.ensures (joins.joined _ _ _ _ _ c.push_byte.ensures flags)))
    (head_text (location_number c.args.locations.now) c.args.version
    (record c.args.head.now { flags = c.args.flags.now }))
