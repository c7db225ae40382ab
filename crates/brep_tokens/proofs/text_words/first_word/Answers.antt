use Rattle.std.proofs.Common.{◌<◌, length, arith, sym, ◌∙◌}
use Rattle.brep_tokens.proofs.Runs.{first-plain, first-joined, moved, longer}
use Rattle.brep_tokens.proofs.text_words.first_word.Goals as goal

pub returns-then-joined : goal.returns-then-joined
returns-then-joined c =
    let joined = sym c.joined.ensures ∙ c.if-joined.true in
    let long = longer c.args.bytes.now c.white_end-start.result c.dark_end-end.result c.dark_end-end.ensures.range.1
    joined in
    let lt : c.white_end-start.result < c.dark_end-end.result = omega (arith, long) in (
      omega (arith, long),
      omega (arith, c.dark_end-end.ensures.range.1),
      first-joined c.args.bytes.now c.args.at c.white_end-start.result c.dark_end-end.result
          c.white_end-start.ensures.same lt c.dark_end-end.ensures.range.1 c.dark_end-end.ensures.dark
          c.dark_end-end.ensures.stops joined,
    )

pub returns-else-joined : goal.returns-else-joined
returns-else-joined c =
    let inside : c.white_end-start.result < length c.args.bytes.now = omega (arith, c.white_end-start.ensures.range) in
    let lt = moved c.args.bytes.now c.white_end-start.result c.dark_end-end.result c.dark_end-end.ensures.range.0 inside
    (c.white_end-start.ensures.stops inside) c.dark_end-end.ensures.stops in (
      lt,
      c.dark_end-end.ensures.range.1,
      first-plain c.args.bytes.now c.args.at c.white_end-start.result
          c.dark_end-end.result c.white_end-start.ensures.same lt c.dark_end-end.ensures.range.1
          c.dark_end-end.ensures.dark c.dark_end-end.ensures.stops (sym c.joined.ensures ∙ c.if-joined.false),
    )
