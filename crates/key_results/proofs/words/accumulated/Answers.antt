-- Without a mover the product is one of two words.
use Rattle.std.proofs.Common.{sym, ap}
use Rattle.location_words.specs.Pairs.{mul}
use Rattle.key_results.specs.Words.{moved_word}
use Rattle.key_results.proofs.WordLaws.{numbers-as, faults-as, idle-word}
use Rattle.key_results.proofs.words.accumulated.Goals as goal

pub returns-then-is_idle-clause-number : goal.returns-then-is_idle-clause-number
returns-then-is_idle-clause-number c =
    let no = c.is_idle.ensures.0 c.if-is_idle.true in
    numbers-as c.times.new.words _ (λ k. k.0) (λ word. mul (word c.args.here.0) (word c.args.own.0))
    (λ word. mul (word c.args.here.0) (moved_word word c.args.mover c.args.own.0)) c.times.result
    (λ word r.
    ap (mul (word c.args.here.0))
    (sym (idle-word c.words_are_a_group.ensures c.times.new.words c.times.ensures.grows.table c.args.mover no.0 no.1
    word r c.args.own.0)))
    c.times.ensures.number

pub returns-then-is_idle-clause-refused : goal.returns-then-is_idle-clause-refused
returns-then-is_idle-clause-refused c =
    let no = c.is_idle.ensures.0 c.if-is_idle.true in
    faults-as c.times.new.words (λ word. mul (word c.args.here.0) (word c.args.own.0))
    (λ word. mul (word c.args.here.0) (moved_word word c.args.mover c.args.own.0)) c.times.result
    (λ word r.
    ap (mul (word c.args.here.0))
    (sym (idle-word c.words_are_a_group.ensures c.times.new.words c.times.ensures.grows.table c.args.mover no.0 no.1
    word r c.args.own.0)))
    c.times.ensures.refused
