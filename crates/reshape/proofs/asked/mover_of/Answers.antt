-- The identity, or the inverse of the context's word.
use Rattle.std.proofs.Common.{◌∙◌, sym, ap, ℕ, [], Option}
use Rattle.std.specs.Prelude.{is_some}
use Rattle.std.proofs.lemmas.Option.{slice_get_within}
use Rattle.location_words.specs.declared.table.WordId.{WordId}
use Rattle.location_words.specs.Pairs.{inverse}
use Rattle.key_results.specs.Memos.{place_here}
use Rattle.reshape.proofs.TableLaws.{reads-zero, grows-none}
use Rattle.reshape.specs.Asking.{back_word}
use Rattle.reshape.proofs.asked.mover_of.Goals as goal

pub returns-in-None-clause-back : goal.returns-in-None-clause-back
returns-in-None-clause-back c = (
  slice_get_within c.args.words.now 0 [] c.len.ensures.table.identity,
  λ word r. reads-zero c.args.words.now word c.len.ensures.table r ∙
      ap (λ (o : Option WordId). back_word word (place_here c.args.key) (is_some o)) (sym c.in-None.is),
)

pub returns-in-None-clause-grows : goal.returns-in-None-clause-grows
returns-in-None-clause-grows c = grows-none c.args.words.now c.len.ensures.table

pub returns-in_ok-back-in-Some-clause-back : goal.returns-in_ok-back-in-Some-clause-back
returns-in_ok-back-in-Some-clause-back c = (
  c.in_ok-back-in-Some.ensures.number.0,
  λ word r. c.in_ok-back-in-Some.ensures.number.1 word r ∙ ap (λ (n : ℕ). inverse (word n)) c.word_here.ensures ∙
      ap (λ (o : Option WordId). back_word word (place_here c.args.key) (is_some o)) (sym c.in-Some.is),
)
