-- The product of the words, where the node's keys hold one.
use Rattle.lists.proofs.Errors.{IfErr-on}
use Rattle.std.proofs.Common.{◌∙◌, sym, ap, [], Some, None, Bool}
use Rattle.std.specs.Prelude.{if◌then◌else◌}
use Rattle.std.proofs.lemmas.Option.{slice_get_within}
use Rattle.location_words.specs.Pairs.{mul}
use Rattle.key_results.specs.Words.{moved_word}
use Rattle.reshape.proofs.TableLaws.{grows-none}
use Rattle.reshape.proofs.keying.word_held.Goals as goal

pub returns-then-not-reaches_place-clause-word : goal.returns-then-not-reaches_place-clause-word
returns-then-not-reaches_place-clause-word c = λ p word e r.
    sym
    (ap
    (λ (b : Bool). if b then Some (mul (word c.args.here.0) (moved_word word c.args.mover c.args.own.0)) else None)
    (sym (c.reaches_place.ensures p e) ∙ c.if-not-reaches_place.true))

pub returns-then-not-reaches_place-clause-held : goal.returns-then-not-reaches_place-clause-held
returns-then-not-reaches_place-clause-held c = slice_get_within c.args.words.now 0 [] c.len.ensures.table.identity

pub returns-then-not-reaches_place-clause-grows : goal.returns-then-not-reaches_place-clause-grows
returns-then-not-reaches_place-clause-grows c = grows-none c.args.words.now c.len.ensures.table

pub returns-in_err-word-clause-refused : goal.returns-in_err-word-clause-refused
returns-in_err-word-clause-refused c =
    IfErr-on c.from_residual.result c.in_err-word.field-0.0 _ c.from_residual.ensures.1
    (λ p e. (sym (c.reaches_place.ensures p e) ∙ c.if-not-reaches_place.false, c.in_err-word.ensures.refused))

pub returns-clause-word : goal.returns-clause-word
returns-clause-word c = λ p word e r.
    ap Some (c.in_ok-word.ensures.number.1 word r) ∙
    sym
    (ap
    (λ (b : Bool). if b then Some (mul (word c.args.here.0) (moved_word word c.args.mover c.args.own.0)) else None)
    (sym (c.reaches_place.ensures p e) ∙ c.if-not-reaches_place.false))
