-- Without a mover the product is one of two words, and else it is bracketed otherwise.
use Rattle.std.proofs.Common.{sym, ap}
use Rattle.location_words.specs.Pairs.{mul}
use Rattle.key_results.specs.Words.{moved_word}
use Rattle.key_results.proofs.WordLaws.{numbers-as, faults-as, idle-word, moved-inner}
use Rattle.key_results.proofs.words.carried.Goals as goal

pub returns-then-is_idle-clause-number : goal.returns-then-is_idle-clause-number
returns-then-is_idle-clause-number c =
    let no = c.is_idle.ensures.0 c.if-is_idle.true in
    numbers-as c.times.new.words _ (λ k. k.0) (λ word. mul (word c.args.own.0) (word c.args.inner.0))
    (λ word. mul (moved_word word c.args.mover c.args.own.0) (word c.args.inner.0)) c.times.result
    (λ word r. ap (λ w. mul w (word c.args.inner.0))
    (sym (idle-word c.words_are_a_group.ensures c.times.new.words c.times.ensures.grows.table c.args.mover no.0 no.1
    word r c.args.own.0)))
    c.times.ensures.number

pub returns-then-is_idle-clause-refused : goal.returns-then-is_idle-clause-refused
returns-then-is_idle-clause-refused c =
    let no = c.is_idle.ensures.0 c.if-is_idle.true in
    faults-as c.times.new.words (λ word. mul (word c.args.own.0) (word c.args.inner.0))
    (λ word. mul (moved_word word c.args.mover c.args.own.0) (word c.args.inner.0)) c.times.result
    (λ word r. ap (λ w. mul w (word c.args.inner.0))
    (sym (idle-word c.words_are_a_group.ensures c.times.new.words c.times.ensures.grows.table c.args.mover no.0 no.1
    word r c.args.own.0)))
    c.times.ensures.refused

pub returns-clause-number : goal.returns-clause-number
returns-clause-number c =
    numbers-as c.times_all.new.words _ (λ k. k.0)
    (λ word.
    mul (word c.args.mover.back.0) (mul (word c.args.mover.by.0) (mul (word c.args.own.0) (word c.args.inner.0))))
    (λ word. mul (moved_word word c.args.mover c.args.own.0) (word c.args.inner.0)) c.times_all.result
    (λ word r. moved-inner c.words_are_a_group.ensures word c.args.mover c.args.own.0 (word c.args.inner.0))
    c.times_all.ensures.number

pub returns-clause-refused : goal.returns-clause-refused
returns-clause-refused c =
    faults-as c.times_all.new.words
    (λ word.
    mul (word c.args.mover.back.0) (mul (word c.args.mover.by.0) (mul (word c.args.own.0) (word c.args.inner.0))))
    (λ word. mul (moved_word word c.args.mover c.args.own.0) (word c.args.inner.0)) c.times_all.result
    (λ word r. moved-inner c.words_are_a_group.ensures word c.args.mover c.args.own.0 (word c.args.inner.0))
    c.times_all.ensures.refused
