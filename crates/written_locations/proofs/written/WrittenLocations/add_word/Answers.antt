use Rattle.std.proofs.Common.{◌≡◌, ◌∙◌, arith, ap, sym, subst, inl, inr}
use Rattle.std.specs.Prelude.{List, Option, Some, slice_get, unwrap_or, []}
use Rattle.std.proofs.lemmas.Grind.{get_or_default_zero}
use Rattle.location_words.specs.declared.pair.Pair.{Pair}
use Rattle.written_locations.specs.Added.{number_at, word_of_id, Enters}
use Rattle.written_locations.proofs.Adding.{word-adds, word-stays}
use Rattle.written_locations.proofs.written.WrittenLocations.add_word.Goals as goal

pub returns-in_ok-number : goal.returns-in_ok-number
returns-in_ok-number c =
    let word : c.word.result.now ≡ word_of_id c.args.self.now c.args.id.0 =
    sym (ap (λ (o : Option (List Pair)). unwrap_or o []) c.word.ensures.word) in
    word-adds c.args.self.now c.number_for.new.self c.args.id.0 c.in_ok-number.number c.requires.id
    (subst (λ w. Enters w c.args.self.now c.number_for.new.self) word c.in_ok-number.ensures.enters)
    (c.in_ok-number.ensures.number ∙ ap (number_at c.number_for.new.self) word)

pub returns-else-index-eq0 : goal.returns-else-index-eq0
returns-else-index-eq0 c = elim (c.requires.numbering.known_words c.args.id.0 c.requires.id) [
  | inl zero_yet ↦ absurd (c.if-index-eq0.false
      (c.index.ensures ∙ get_or_default_zero c.args.self.now.of_words.items c.args.id.0 c.index.result.now (let long =
      c.requires.numbering.table_size in let lt = c.requires.id in omega (arith, long, lt)) ∙ zero_yet))
  | inr h ↦ word-stays c.args.self.now c.requires.numbering c.args.id.0 h
]
