-- By the laws of the layers below.
use Rattle.brep_writer.proofs.TextLemmas.{texts-stand}
use Rattle.brep_writer.proofs.laws.texts_stand_for_roots.Goals as goal

pub returns : goal.returns
returns c =
    texts-stand c.roots_are_written.ensures c.records_are_trees.ensures c.sound_files_have_trees.ensures
    c.fewest.ensures c.layouts_spell.ensures
    c.reading_is_exact.ensures
    c.written_is_held.ensures c.places_have_words.ensures c.renumbering_keeps_parts.ensures
    (record {
      subtrees = c.subtrees_stand.ensures;
      sections = c.sections_hold.ensures;
      further =
          c.further_words_are_due.ensures;
      numbers = c.numbers_are_places.ensures;
    })
    c.locations_stay.ensures
