-- The next decimal of the range, and the others.
use Rattle.std.proofs.Common.{◌≡◌, ◌+◌, ◌<◌, ℕ, zero, suc, List, [], ◌∷◌, drop, take, Some, ap, arith, sym, ◌∙◌}
use Rattle.std.specs.Prelude.{slice_get}
use Rattle.entry_readers.specs.Spelled.{AreShort, IsShort}
use Rattle.lists.proofs.Iterators.{first_of_all, next_item, progress, rest_of_all}
use Rattle.tshape_data.specs.SpellLeft.{range_left}
use Rattle.tshape_data.proofs.ranges.RangeSpellIterator.next.Goals as goal

taken_item : (xs : List (List ℕ)) (i end : ℕ) (x : List ℕ) → slice_get xs i ≡ Some x → i < end
    → slice_get (take end xs) i ≡ Some x
taken_item [] i end x e lt = absurd cc
taken_item (y ∷ ys) zero zero x e lt = absurd (omega (arith, lt))
taken_item (y ∷ ys) zero (suc end) x e lt = e
taken_item (y ∷ ys) (suc i) zero x e lt = absurd (omega (arith, lt))
taken_item (y ∷ ys) (suc i) (suc end) x e lt = taken_item ys i end x e (omega (arith, lt))

pub of-requires : goal.of-requires
of-requires c =
    let s = c.args.self.now in
    first_of_all IsShort (take s.end s.texts.now) s.at c.in-Some.x.now
    (taken_item s.texts.now s.at s.end c.in-Some.x.now c.in-Some.ensures.some c.if-self.false) c.requires

pub returns-in-Some-clause-steps : goal.returns-in-Some-clause-steps
returns-in-Some-clause-steps c =
    let s = c.args.self.now in
    next_item (take s.end s.texts.now) s.at c.in-Some.x.now
    (taken_item s.texts.now s.at s.end c.in-Some.x.now c.in-Some.ensures.some c.if-self.false)
    ∙ ap (λ z. z ∷ drop (s.at + 1) (take s.end s.texts.now)) (sym c.of.ensures)

pub returns-in-Some-clause-goes : goal.returns-in-Some-clause-goes
returns-in-Some-clause-goes c =
    let s = c.args.self.now in
    progress (λ r. AreShort (range_left r)) range_left s c.of.result _ (returns-in-Some-clause-steps c)
    (rest_of_all IsShort (take s.end s.texts.now) s.at c.in-Some.x.now
    (taken_item s.texts.now s.at s.end c.in-Some.x.now c.in-Some.ensures.some c.if-self.false) c.requires)
