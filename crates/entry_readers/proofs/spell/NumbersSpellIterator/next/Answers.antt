-- The next number's text, and the others.
use Rattle.entry_readers.specs.Spelled.{numbers_left}
use Rattle.lists.proofs.Iterators.{progress}
use Rattle.entry_readers.proofs.Spelling.{next_number}
use Rattle.entry_readers.proofs.spell.NumbersSpellIterator.next.Goals as goal

pub returns-in-Some-clause-steps : goal.returns-in-Some-clause-steps
returns-in-Some-clause-steps c =
    rw (c.number_text.ensures, c.in-Some.n-is)
    (next_number c.args.self.now.numbers.now c.args.self.now.at c.in-Some.n.now c.in-Some.ensures.some)

pub returns-in-Some-clause-goes : goal.returns-in-Some-clause-goes
returns-in-Some-clause-goes c = progress _ numbers_left c.args.self.now c.number_text.result _
    (returns-in-Some-clause-steps c) tt
