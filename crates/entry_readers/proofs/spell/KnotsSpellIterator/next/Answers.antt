use Rattle.brep_tokens.specs.Spaced.{texts}
use Rattle.entry_readers.specs.Spelled.{pairs_left, CanPair}
use Rattle.lists.proofs.Iterators.{progress}
use Rattle.entry_readers.proofs.Spelling.{even_after, first_short, half_step, text_step}
use Rattle.entry_readers.proofs.spell.KnotsSpellIterator.next.Goals as goal

pub returns-in-Some-first_text-clause-steps : goal.returns-in-Some-first_text-clause-steps
returns-in-Some-first_text-clause-steps c =
    rw (c.if-self.true, c.number_text.ensures, c.in-Some.n-is)
    (half_step c.args.self.now.counts.now _ _ _ c.in-Some-first_text.ensures.some c.args.self.now.at
    c.in-Some.n.now c.in-Some.ensures.some)

pub returns-in-Some-first_text-clause-goes : goal.returns-in-Some-first_text-clause-goes
returns-in-Some-first_text-clause-goes c = progress CanPair pairs_left c.args.self.now c.number_text.result _
    (returns-in-Some-first_text-clause-steps c)
    (record {
      even =
          even_after c.args.self.now.counts.now _ _ _ c.in-Some-first_text.ensures.some c.args.self.now.at
          c.in-Some.n.now c.in-Some.ensures.some c.requires.even;
      short = (first_short _ _ _ c.in-Some-first_text.ensures.some c.requires.short).1;
    })
