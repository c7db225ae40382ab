use Rattle.std.proofs.Common.{◌∷◌, sym, ◌∙◌}
use Rattle.tshape_data.specs.RepReading.{edge_form_at, edge_rep_at}
use Rattle.tshape_data.proofs.RepLoops.{loop_one}
use Rattle.tshape_data.proofs.edge_reps_reader.EdgeRepsReader.take_form.Goals as goal

pub returns-in-Ok-Some-clause-step : goal.returns-in-Ok-Some-clause-step
returns-in-Ok-Some-clause-step c rest =
    let r = c.args.self.now in
    let lt = rw c.in-Ok-Some.field-0-is at c.in-Ok-Some.ensures.open in
    let answer = rw c.in-Ok-Some.field-0-is at c.in-Ok-Some.ensures.answer in
    c.begin.ensures.left rest
    ∙ sym (loop_one edge_form_at (edge_rep_at r.bounds r.version) r.room r.reps c.in-Ok-Some.form
    (c.args.t.now ∷ rest) rest lt (answer rest))
