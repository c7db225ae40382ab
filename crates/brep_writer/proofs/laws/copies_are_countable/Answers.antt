-- By the laws of the layers below.
use Rattle.brep_writer.proofs.CopySizes.{copies-countable}
use Rattle.brep_writer.proofs.laws.copies_are_countable.Goals as goal

pub returns : goal.returns
returns c =
    copies-countable c.roots_are_written.ensures c.records_are_trees.ensures c.sound_files_have_trees.ensures
    c.fewest.ensures
    c.head_lines_are_exact.ensures c.written_is_held.ensures c.places_have_words.ensures
    c.renumbering_keeps_parts.ensures
    (record {
      subtrees = c.subtrees_stand.ensures;
      sections = c.sections_hold.ensures;
      further =
          c.further_words_are_due.ensures;
      numbers = c.numbers_are_places.ensures;
    })
