use Rattle.history_text.proofs.PartSteps.{end_stops, generated_stops, history_read, modified_stops}
use Rattle.history_text.proofs.reading.history.Goals as goal

pub returns-in_err-modified : goal.returns-in_err-modified
returns-in_err-modified c =
    modified_stops c.args.lines.now c.text.new.self c.origins.new.lines c.in_ok-text.field-0 c.in_ok-origins.origins c.len-written.result
    c.in_ok-text.ensures c.in_ok-origins.ensures c.len-written.ensures
    c.pairs.new.lines c.from_residual-in_err-modified.result c.in_err-modified.field-0.0 c.from_residual-in_err-modified.ensures.1 c.in_err-modified.ensures

pub returns-in_err-generated : goal.returns-in_err-generated
returns-in_err-generated c =
    generated_stops c.args.lines.now c.text.new.self c.origins.new.lines c.in_ok-text.field-0 c.in_ok-origins.origins c.len-written.result
    c.in_ok-text.ensures c.in_ok-origins.ensures c.len-written.ensures c.pairs.new.lines c.in_ok-modified.modified c.in_ok-modified.ensures
    c.pairs-2.new.lines c.from_residual-in_err-generated.result c.in_err-generated.field-0.0 c.from_residual-in_err-generated.ensures.1 c.in_err-generated.ensures

pub returns-in_err-text-2 : goal.returns-in_err-text-2
returns-in_err-text-2 c =
    end_stops c.args.lines.now c.text.new.self c.origins.new.lines c.in_ok-text.field-0 c.in_ok-origins.origins c.len-written.result
    c.in_ok-text.ensures c.in_ok-origins.ensures c.len-written.ensures c.pairs.new.lines c.in_ok-modified.modified c.in_ok-modified.ensures
    c.pairs-2.new.lines c.removed.new.lines c.in_ok-generated.generated c.in_ok-removed.removed c.in_ok-generated.ensures c.in_ok-removed.ensures
    c.text-2.new.self c.from_residual-in_err-text-2.result c.in_err-text-2.field-0.0 c.from_residual-in_err-text-2.ensures.1 c.in_err-text-2.ensures

pub returns : goal.returns
returns c =
    history_read c.args.lines.now c.text.new.self c.origins.new.lines c.in_ok-text.field-0 c.in_ok-origins.origins c.len-written.result
    c.in_ok-text.ensures c.in_ok-origins.ensures c.len-written.ensures c.pairs.new.lines c.in_ok-modified.modified c.in_ok-modified.ensures
    c.pairs-2.new.lines c.removed.new.lines c.in_ok-generated.generated c.in_ok-removed.removed c.in_ok-generated.ensures c.in_ok-removed.ensures
    c.text-2.new.self c.in_ok-text-2.field-0 c.in_ok-text-2.ensures
