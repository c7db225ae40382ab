use Rattle.std.proofs.Common.{◌∷◌, ap, ◌∙◌, sym}
use Rattle.brep_tokens.specs.Spaced.{texts}
use Rattle.entry_readers.specs.Spelled.{texts_left, AreShort}
use Rattle.lists.proofs.Iterators.{progress}
use Rattle.entry_readers.proofs.Spelling.{first_short}
use Rattle.entry_readers.proofs.spell.DecimalsSpellIterator.next.Goals as goal

pub of-requires : goal.of-requires
of-requires c = (first_short _ _ _ c.in-Some.ensures.some c.requires).0

pub returns-in-Some-clause-steps : goal.returns-in-Some-clause-steps
returns-in-Some-clause-steps c = c.in-Some.ensures.some ∙ ap (λ z. z ∷ texts c.in-Some.rest.now) (sym c.of.ensures)

pub returns-in-Some-clause-goes : goal.returns-in-Some-clause-goes
returns-in-Some-clause-goes c =
    progress (λ s. AreShort (texts_left s)) texts_left c.args.self.now c.of.result _ (returns-in-Some-clause-steps c)
    (first_short _ _ _ c.in-Some.ensures.some c.requires).1
