-- What the reader of the section has still to read.
use Rattle.std.specs.Prelude.{◌≡◌, ◌≤◌, ◌<◌, ◌+◌, List, length, Result}
use Rattle.brep_tokens.specs.declared.text.Token.{Token}
use Rattle.brep_tokens.specs.declared.fault.Progress.{Progress}
use Rattle.brep_tokens.specs.declared.fault.ReadStop.{ReadStop}
use Rattle.entry_readers.specs.Reading.{Read}
use Rattle.entry_readers.specs.Takes.{Takes}
use Rattle.location_table.specs.declared.entry.LocationEntry.{LocationEntry}
use Rattle.location_table.specs.declared.section_reader.LocationsReader.{LocationsReader}
use Rattle.location_table.specs.Held.{most_entries}
use Rattle.location_table.specs.Left.{location_left, IsWaiting}
use Rattle.location_table.specs.Sections.{begun_from}

abbrev pub locations_left : LocationsReader → List Token → Read (List LocationEntry)
locations_left r ts = begun_from (location_left r.section r.reader) r.section r.due ts

-- entries are due, and there is room for them
pub record IsReading (r : LocationsReader) : Type 0 where
  pub due : 0 < r.due
  pub room : length r.section + r.due ≤ most_entries
  pub waits : IsWaiting r.section r.reader

-- A reader of the section took a token: entries are due, or none is any more.
abbrev pub TakesLocations : LocationsReader → Token → LocationsReader → Result Progress ReadStop → Type 0
TakesLocations old t new result = Takes (locations_left old) t (locations_left new) (IsReading new) (new.due ≡ 0) result
