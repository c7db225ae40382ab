use Rattle.std.proofs.Common.{◌≡◌, ◌∙◌, arith, ap, sym, subst, inl, inr}
use Rattle.std.proofs.lemmas.Grind.{get_or_default_zero}
use Rattle.written_locations.specs.Added.{number_at, Enters}
use Rattle.written_locations.proofs.Adding.{place-adds, place-stays}
use Rattle.written_locations.proofs.written.WrittenLocations.add.Goals as goal

pub returns-in_ok-number : goal.returns-in_ok-number
returns-in_ok-number c =
    place-adds c.args.self.now c.number_for.new.self c.args.place c.in_ok-number.number c.requires.place
    (subst (λ w. Enters w c.args.self.now c.number_for.new.self) c.word.ensures.word c.in_ok-number.ensures.enters)
    (c.in_ok-number.ensures.number ∙ ap (number_at c.number_for.new.self) c.word.ensures.word)

pub returns-else-index-eq0 : goal.returns-else-index-eq0
returns-else-index-eq0 c = elim (c.requires.numbering.known c.args.place c.requires.place) [
  | inl zero_yet ↦ absurd (c.if-index-eq0.false
      (c.index.ensures ∙ get_or_default_zero c.args.self.now.of_places.items c.args.place c.index.result.now (let long =
      c.requires.numbering.size in let le = c.requires.place in omega (arith, long, le)) ∙ zero_yet))
  | inr h ↦ place-stays c.args.self.now c.requires.numbering c.args.place h
]
