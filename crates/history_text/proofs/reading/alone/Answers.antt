use Rattle.history_text.proofs.PartSteps.{more_follows, nothing_follows, part_stops}
use Rattle.history_text.proofs.reading.alone.Goals as goal

pub returns-in_err-history : goal.returns-in_err-history
returns-in_err-history c =
    part_stops c.args.bytes.now c.of-lines.result c.of-lines.ensures c.history.new.lines c.in_err-history.field-0.0 c.from_residual.result c.from_residual.ensures.1 c.in_err-history.ensures

pub returns-in_err-end : goal.returns-in_err-end
returns-in_err-end c =
    more_follows c.args.bytes.now c.of-lines.result c.of-lines.ensures c.in_ok-history.history c.history.new.lines c.in_ok-history.ensures
    c.in_err-end.field-0.0 c.from_residual-in_err-end.result c.from_residual-in_err-end.ensures.1 c.in_err-end.ensures

pub returns : goal.returns
returns c =
    nothing_follows c.args.bytes.now c.of-lines.result c.of-lines.ensures c.in_ok-history.history c.history.new.lines c.in_ok-history.ensures c.in_ok-end.ensures
