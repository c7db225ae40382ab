use Rattle.byte_sink.proofs.Joining.{in_three}
use Rattle.brep_writer.proofs.Texts.{record-text}
use Rattle.brep_writer.proofs.plan.WritePlan.put_record.Goals as goal

pub returns : goal.returns
returns g c =
    in_three g.met.B.TakesBytes.joins _ _ _ _ _ _ _ _
    c.put_head.ensures c.put_uses.ensures c.push.ensures
    (record-text c.args.self.now c.requires.plan c.texts_have_parts.ensures c.args.id.0)
