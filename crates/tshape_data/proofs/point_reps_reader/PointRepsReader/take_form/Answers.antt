use Rattle.std.proofs.Common.{◌∷◌, sym, ◌∙◌}
use Rattle.tshape_data.proofs.PointSteps.{form_one}
use Rattle.tshape_data.proofs.point_reps_reader.PointRepsReader.take_form.Goals as goal

pub returns-in-Ok-clause-step : goal.returns-in-Ok-clause-step
returns-in-Ok-clause-step c rest =
    let lt = rw c.in-Ok-Some.field-0-is at c.in-Ok-Some.ensures.open in
    let answer = rw c.in-Ok-Some.field-0-is at c.in-Ok-Some.ensures.answer in
    c.in-Ok.ensures.left rest
    ∙ sym (form_one c.args.self.now c.in-Ok-Some.form (c.args.t.now ∷ rest) rest lt (answer rest))
