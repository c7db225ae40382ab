-- What the reader of a representation's numbers has still to read.
use Rattle.std.specs.Prelude.{ℕ, ◌≡◌, ◌<◌, ◌≤◌, List, [], ◌∷◌, Result, length, take, drop}
use Rattle.brep_tokens.specs.declared.fault.ReadStop.{ReadStop}
use Rattle.brep_tokens.specs.declared.text.Token.{Token}
use Rattle.entry_readers.specs.Reading.{Read}
use Rattle.entry_readers.specs.Takes.{StepsOn}
use Rattle.tshape_data.specs.RepReading.{columns_at, columns_from}
use Rattle.tshape_data.specs.declared.head_bounds.HeadBounds.{HeadBounds}
use Rattle.tshape_data.specs.declared.columns.Column.{Column}
use Rattle.tshape_data.specs.declared.columns.Column.TheVariants.{Entry, Location, Continuity}
use Rattle.tshape_data.specs.declared.columns_due.ColumnsDue.{ColumnsDue}

-- the place of a continuity word is a byte
abbrev pub FitsColumn : Column → ℕ → Type 0
FitsColumn (Entry table) n = Unit {0}
FitsColumn Location n = Unit {0}
FitsColumn Continuity n = n < 256

-- each number that was read fits its column
abbrev pub FitColumns : List Column → List ℕ → Type 0
FitColumns cs [] = Unit {0}
FitColumns [] (n ∷ ns) = Unit {0}
FitColumns (c ∷ cs) (n ∷ ns) = FitsColumn c n × FitColumns cs ns

-- the numbers that were read
abbrev pub numbers_of : ColumnsDue → List ℕ
numbers_of r = take r.len r.numbers

-- What is left to read of the numbers for these columns.
abbrev pub columns_left : HeadBounds → List Column → ColumnsDue → List Token → Read (List ℕ)
columns_left b cs r ts = columns_from b (numbers_of r) (drop r.len cs) ts

-- whatever the columns are, all of their numbers are left
abbrev pub AllAreLeft : ColumnsDue → Type 0
AllAreLeft r = (b : HeadBounds) (cs : List Column) (ts : List Token) → columns_left b cs r ts ≡ columns_at b cs ts

-- the next number for these columns was taken
abbrev pub TakesNumber : HeadBounds → List Column → ColumnsDue → Token → ColumnsDue
    → Result (Unit {0}) ReadStop → Type 0
TakesNumber b cs old t new result = StepsOn (columns_left b cs old) t (columns_left b cs new) result

-- a number is due, and there is room for it
pub record IsNumberDue (cs : List Column) (r : ColumnsDue) : Type 0 where
  pub due : r.len < length cs
  pub few : length cs ≤ 5
  pub fit : FitColumns cs (numbers_of r)

-- some were read, or all
pub record HasSomeNumbers (cs : List Column) (r : ColumnsDue) : Type 0 where
  pub len : r.len ≤ length cs
  pub fit : FitColumns cs (numbers_of r)

-- all were read
pub record HasNumbers (cs : List Column) (r : ColumnsDue) : Type 0 where
  pub len : r.len ≡ length cs
  pub fit : FitColumns cs (numbers_of r)
