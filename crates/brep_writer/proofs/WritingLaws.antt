-- The laws of written words and of trees by which what is written is proved.
use Rattle.expansion_laws.specs.Subtrees.{SubtreesStand}
use Rattle.written_locations.specs.Laws.{FurtherWordsAreDue, NumbersArePlaces, SectionsHold}

pub record WritingLaws : Type 0 where
  pub subtrees : SubtreesStand
  pub sections : SectionsHold
  pub further : FurtherWordsAreDue
  pub numbers : NumbersArePlaces
