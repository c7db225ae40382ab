-- The product of four held words.
use Rattle.std.proofs.Common.{rules, ◌≡◌, ◌∙◌, sym, ap, ℕ, List, []}
use Rattle.location_words.specs.declared.pair.Pair.{Pair}
use Rattle.location_words.specs.Pairs.{mul}
use Rattle.location_words.specs.Laws.{WordsAreAGroup}
use Rattle.key_results.specs.Words.{ReadsWords, IsDueAt}
use Rattle.key_results.proofs.WordLaws.{reads-old, numbers-as, due-here}
use Rattle.key_results.proofs.words.times_all.Goals as goal

four : (group : WordsAreAGroup) (word : ℕ → List Pair) (table : List (List Pair)) (r : ReadsWords word table)
    (i j k l : ℕ) (a b c d : List Pair) →
    a ≡ word i → b ≡ word j → c ≡ word k → d ≡ word l →
    mul a (mul b (mul c (mul d []))) ≡ mul (word i) (mul (word j) (mul (word k) (word l)))
four group word table r i j k l a b c d ea eb ec ed =
    (λ z. mul (ea z) (mul (eb z) (mul (ec z) (mul (ed z) [])))) ∙
    ap (λ w. mul (word i) (mul (word j) (mul (word k) w))) (group.identity_inner (word l) (r.words l))

pub returns-clause-number : goal.returns-clause-number
returns-clause-number c =
    numbers-as c.entered.new.words _ (λ k. k.0) (λ _. c.in_ok-word.word)
    (λ word. mul (word c.args.first.0) (mul (word c.args.second.0) (mul (word c.args.third.0) (word c.args.last.0))))
    c.entered.result
    (λ word r. let old = reads-old c.args.words.now c.entered.new.words word c.entered.ensures.grows r in
    c.in_ok-word.ensures.ok ∙
    four c.words_are_a_group.ensures word c.args.words.now old c.args.first.0 c.args.second.0 c.args.third.0
    c.args.last.0
    c.word.result.now c.word-2.result.now c.word-3.result.now c.word-4.result.now
    (sym (old.held c.args.first.0 c.word.result.now c.word.ensures.word))
    (sym (old.held c.args.second.0 c.word-2.result.now c.word-2.ensures.word))
    (sym (old.held c.args.third.0 c.word-3.result.now c.word-3.ensures.word))
    (sym (old.held c.args.last.0 c.word-4.result.now c.word-4.ensures.word)))
    c.entered.ensures.number

pub returns-in_err-word-clause-refused : goal.returns-in_err-word-clause-refused
returns-in_err-word-clause-refused c =
    let due : IsDueAt c.args.words.now
    (λ word. mul (word c.args.first.0) (mul (word c.args.second.0) (mul (word c.args.third.0) (word c.args.last.0))))
    c.in_err-word.field-0.0 =
    due-here c.args.words.now
    (λ word. mul (word c.args.first.0) (mul (word c.args.second.0) (mul (word c.args.third.0) (word c.args.last.0))))
    (mul c.word.result.now (mul c.word-2.result.now (mul c.word-3.result.now (mul c.word-4.result.now []))))
    c.in_err-word.field-0.0
    (λ word r. four c.words_are_a_group.ensures word c.args.words.now r c.args.first.0 c.args.second.0 c.args.third.0
    c.args.last.0
    c.word.result.now c.word-2.result.now c.word-3.result.now c.word-4.result.now
    (sym (r.held c.args.first.0 c.word.result.now c.word.ensures.word))
    (sym (r.held c.args.second.0 c.word-2.result.now c.word-2.ensures.word))
    (sym (r.held c.args.third.0 c.word-3.result.now c.word-3.ensures.word))
    (sym (r.held c.args.last.0 c.word-4.result.now c.word-4.ensures.word)))
    c.in_err-word.ensures.refused in search rules
