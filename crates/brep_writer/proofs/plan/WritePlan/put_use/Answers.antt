use Rattle.std.proofs.Common.{◌∙◌, ◌∷◌, ◌++◌, [], ap, arith, length}
use Rattle.std.specs.List.{join_with_byte}
use Rattle.brep_file.specs.Spelling.{spell_use}
use Rattle.byte_sink.proofs.Joining.{as_text}
use Rattle.brep_writer.proofs.Plans.{number-or-none, use-is}
use Rattle.brep_writer.proofs.plan.WritePlan.put_use.Goals as goal

pub number_of-location-requires-clause-numbering : goal.number_of-location-requires-clause-numbering
number_of-location-requires-clause-numbering g c = c.requires.plan.located.numbering

pub number_of-location-requires-clause-id : goal.number_of-location-requires-clause-id
number_of-location-requires-clause-id g c =
    let below = c.requires.place in
    let same = ap length c.requires.plan.located.over.table in
    omega (arith, below, same)

pub returns : goal.returns
returns g c =
    as_text g.met.B.TakesBytes.joins _ _ _ _
    c.push_use.ensures
    (ap (λ u. join_with_byte 32 (spell_use u) ++ c.args.end ∷ [])
    (use-is c.args.self.now c.requires.plan c.args.used _ _
    (c.unwrap_or-number.ensures
    ∙ number-or-none c.equal_trees_tell.ensures c.args.self.now c.args.used.id.0 c.number.result
    c.number.ensures.some c.number.ensures.none)
    c.number_of-location.ensures))
