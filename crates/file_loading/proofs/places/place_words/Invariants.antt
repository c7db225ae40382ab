use Rattle.std.proofs.Common.{◌+◌}
use Rattle.location_words.specs.Tables.{IsTable}
use Rattle.file_loading.specs.Places.{HoldWordsTo, KeepsWords}
use Rattle.file_loading.proofs.places.place_words.Given as goal

abbrev pub invariant-places : goal.invariant-places
invariant-places l = record {
  held : HoldWordsTo l.section l.words l.ids.items (l.place + 1);
  kept : KeepsWords l.fn.words l.words;
  table : IsTable l.words;
}
