-- The texts that an iterator over the tokens of fields has still to give.
use Rattle.std.specs.Prelude.{◌≡◌, ◌≤◌, ℕ, if◌then◌else◌, List, [], ◌∷◌, length, map, drop, take}
use Rattle.std.specs.List.{AllByRecursion}
use Rattle.std.specs.Fmt.{decimal}
use Rattle.brep_tokens.specs.Spaced.{texts}
use Rattle.entry_readers.specs.Begins.{zipped}
use Rattle.entry_readers.specs.declared.spell.HeaderSpell.{HeaderSpell}
use Rattle.entry_readers.specs.declared.spell.DecimalsSpell.{DecimalsSpell}
use Rattle.entry_readers.specs.declared.spell.KnotsSpell.{KnotsSpell}
use Rattle.entry_readers.specs.declared.spell.NumbersSpell.{NumbersSpell}

abbrev pub header_left : HeaderSpell → List (List ℕ)
header_left s = map decimal (drop s.at (take s.len s.numbers))

abbrev pub texts_left : DecimalsSpell → List (List ℕ)
texts_left s = texts s.run.now

abbrev pub numbers_left : NumbersSpell → List (List ℕ)
numbers_left s = map decimal (drop s.at s.numbers.now)

-- at most 128 bytes, so that it is a token
abbrev pub IsShort : List ℕ → Type 0
IsShort text = length text ≤ 128

abbrev pub AreShort : List (List ℕ) → Type 0
AreShort texts = AllByRecursion IsShort texts

-- the number in front, where its text was given
abbrev pub count_then : List (List ℕ) → List ℕ → List (List ℕ)
count_then xs [] = []
count_then [] (n ∷ ns) = []
count_then (x ∷ xs) (n ∷ ns) = decimal n ∷ zipped xs ns

-- the run stands at the text of the number that is due
abbrev pub pairs_left : KnotsSpell → List (List ℕ)
pairs_left s = if s.half then count_then (texts s.run.now) (drop s.at s.counts.now)
    else zipped (texts s.run.now) (drop s.at s.counts.now)

pub record CanPair (s : KnotsSpell) : Type 0 where
  pub even : length (texts s.run.now) ≡ length (drop s.at s.counts.now)
  pub short : AreShort (texts s.run.now)
