-- What single calls on the lines that are left answer.
use Rattle.std.specs.Prelude.{◌≡◌, ◌+◌, length, Some, None, Result, Ok, Err}
use Rattle.history_text.specs.LineForms.{cut_at}
use Rattle.history_text.specs.Reading.{Left}
use Rattle.history_text.specs.declared.fault.HistoryFault.{HistoryFault}
use Rattle.history_text.specs.declared.fault.HistoryFault.TheVariants.{NotHistory, NoMemory}
use Rattle.history_text.specs.declared.lines_left.TakenLine.{TakenLine}

-- The line was cut off at its byte 10, and what follows is left; or there is no byte 10.
abbrev pub IsFirstLine : Left → Left → Result TakenLine HistoryFault → Type 0
IsFirstLine old new (Ok line) =
    (cut_at 10 old.bytes ≡ Some (line.text.now, new.bytes)) × (line.number ≡ old.number) × (new.number ≡ old.number + 1)
IsFirstLine old new (Err (NotHistory n)) = (cut_at 10 old.bytes ≡ None) × (n ≡ old.number)
IsFirstLine old new (Err NoMemory) = ⊥

-- nothing is left
abbrev pub IsAtEnd : Left → Result (Unit {0}) HistoryFault → Type 0
IsAtEnd left (Ok u) = length left.bytes ≡ 0
IsAtEnd left (Err (NotHistory n)) = ((length left.bytes ≡ 0) → ⊥) × (n ≡ left.number)
IsAtEnd left (Err NoMemory) = ⊥
