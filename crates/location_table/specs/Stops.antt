-- Why a reader stops at a power.
use Rattle.std.specs.Prelude.{◌≡◌, Option, Some}
use Rattle.brep_tokens.specs.declared.text.Token.{Token}
use Rattle.brep_tokens.specs.declared.fault.ReadStop.{ReadStop}
use Rattle.brep_tokens.specs.declared.fault.ReadStop.TheVariants as stops
use Rattle.location_words.specs.declared.fault.WordFault.{WordFault}
use Rattle.location_words.specs.declared.fault.WordFault.TheVariants.{Pairs, Power, NoMemory}
use Rattle.location_table.specs.Limits.{Passed, limit_of}
use Rattle.location_table.specs.Locations.{limit_fault}

abbrev pub stop_of : Token → WordFault → ReadStop
stop_of t (Pairs n) = stops.Fault (limit_fault t (limit_of (Pairs n)))
stop_of t (Power n) = stops.Fault (limit_fault t (limit_of (Power n)))
stop_of t NoMemory = stops.NoMemory

-- a reader that stops stops at the limit that is passed, unless it wants memory
abbrev pub IsDueStop : Token → Option Passed → ReadStop → Type 0
IsDueStop t due (stops.Fault f) = (l : Passed) × (due ≡ Some l) × (f ≡ limit_fault t l)
IsDueStop t due stops.NoMemory = Unit {0}
