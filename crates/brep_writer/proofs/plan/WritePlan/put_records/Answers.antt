use Rattle.std.proofs.lemmas.List.{get_or_default}
use Rattle.brep_tokens.specs.Written.{lines_text}
use Rattle.shape_pool.specs.declared.node.NodeId.{NodeId}
use Rattle.byte_sink.proofs.Joining.{as_text, each_all, each_more}
use Rattle.written_layout.specs.Layout.{record_lines}
use Rattle.brep_writer.specs.Plans.{record_in}
use Rattle.brep_writer.proofs.Adding.{item-there}
use Rattle.brep_writer.proofs.Texts.{records-text}
use Rattle.brep_writer.proofs.plan.WritePlan.put_records.Goals as goal

pub put_record-requires-clause-written : goal.put_record-requires-clause-written
put_record-requires-clause-written g c =
    item-there c.ids-id-items.result.now c.args.self.now.order.numbers c.loop-id.id-index _ c.loop-id-test.true
    c.ids-id-items.ensures

pub loop-id-init : goal.loop-id-init
loop-id-init g c = g.met.B.TakesBytes.joins.none _

pub loop-id-preserved : goal.loop-id-preserved
loop-id-preserved g c =
    let p = c.args.self.now in
    let ids = c.ids-id-items.result.now in
    each_more g.met.B.TakesBytes.joins (λ (n : NodeId). lines_text (record_lines p.version (record_in p n.0))) ids
    c.loop-id.id-index _ _ _ _ c.loop-id-test.true (get_or_default ids c.loop-id.id-index _ _ c.loop-id-test.true)
    c.loop-id.invariant c.put_record.ensures

pub returns : goal.returns
returns g c =
    let p = c.args.self.now in
    let ids = c.ids-id-items.result.now in
    as_text g.met.B.TakesBytes.joins _ _ _ _
    (each_all g.met.B.TakesBytes.joins (λ (n : NodeId). lines_text (record_lines p.version (record_in p n.0))) ids
    c.loop-id.id-index _ _ c.loop-id-test.false c.loop-id.invariant)
    (records-text p c.requires ids c.ids-id-items.ensures)
