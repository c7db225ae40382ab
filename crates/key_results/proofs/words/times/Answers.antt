-- The product of two held words.
use Rattle.std.proofs.Common.{rules, ◌∙◌, sym}
use Rattle.location_words.specs.Pairs.{mul}
use Rattle.key_results.specs.Words.{IsDueAt}
use Rattle.key_results.proofs.WordLaws.{reads-old, numbers-as, due-here}
use Rattle.key_results.proofs.words.times.Goals as goal

pub returns-clause-number : goal.returns-clause-number
returns-clause-number c =
    numbers-as c.entered.new.words _ (λ k. k.0) (λ _. c.in_ok-word.word)
    (λ word. mul (word c.args.outer.0) (word c.args.inner.0)) c.entered.result
    (λ word r. let old = reads-old c.args.words.now c.entered.new.words word c.entered.ensures.grows r in
    c.in_ok-word.ensures.ok ∙
    (λ i. mul (sym (old.held c.args.outer.0 c.word.result.now c.word.ensures.word) i)
    (sym (old.held c.args.inner.0 c.word-2.result.now c.word-2.ensures.word) i)))
    c.entered.ensures.number

pub returns-in_err-word-clause-refused : goal.returns-in_err-word-clause-refused
returns-in_err-word-clause-refused c =
    let due : IsDueAt c.args.words.now (λ word. mul (word c.args.outer.0) (word c.args.inner.0))
    c.in_err-word.field-0.0 =
    due-here c.args.words.now (λ word. mul (word c.args.outer.0) (word c.args.inner.0))
    (mul c.word.result.now c.word-2.result.now) c.in_err-word.field-0.0
    (λ word r i. mul (sym (r.held c.args.outer.0 c.word.result.now c.word.ensures.word) i)
    (sym (r.held c.args.inner.0 c.word-2.result.now c.word-2.ensures.word) i))
    c.in_err-word.ensures.refused in search rules
