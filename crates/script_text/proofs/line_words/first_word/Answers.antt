use Rattle.std.proofs.Common.{◌<◌, length, arith}
use Rattle.std.proofs.lemmas.Bool.Decides.{nat_tests}
use Rattle.script_text.proofs.WordLemmas.{first_word_of}
use Rattle.script_text.proofs.line_words.first_word.Goals as goal

pub returns : goal.returns
returns c =
    let some : 0 < length c.past_blanks-dark.result.now = grind (arith, nat_tests) in
    first_word_of c.args.line.now c.past_blanks-dark.result.now _ _ c.size_of_word-size.result
    c.past_blanks-dark.ensures.same c.past_blanks-dark.ensures.short (c.past_blanks-dark.ensures.dark some)
    c.size_of_word-size.ensures.size c.size_of_word-size.ensures.fits c.split_at.ensures.front
    c.split_at.ensures.back
