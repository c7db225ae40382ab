use Rattle.std.proofs.Common.{◌≡◌, arith}
use Rattle.tshape_data.proofs.PointSteps.{fresh_columns, texts_past}
use Rattle.tshape_data.proofs.point_reps_reader.PointRepsReader.past_texts.Goals as goal

pub returns-else-self-gt0 : goal.returns-else-self-gt0
returns-else-self-gt0 c =
    let none : c.args.self.now.texts.due ≡ 0 = omega (arith, c.if-self-gt0.false) in
    let made = c.new-self.ensures in (
      λ rest. texts_past c.args.self.now c.args.form c.new-self.result none made.left rest,
      fresh_columns c.args.form c.new-self.result made.len made.numbers,
    )
