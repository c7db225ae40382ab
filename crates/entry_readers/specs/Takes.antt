-- What it means that a reader takes one token.
use Rattle.std.specs.Prelude.{List, [], ◌∷◌, Result, Ok, Err, ◌≡◌}
use Rattle.entry_readers.specs.Reading.{Read, more, fault}
use Rattle.brep_tokens.specs.declared.text.Token.{Token}
use Rattle.brep_tokens.specs.declared.fault.ReadFault.{ReadFault}
use Rattle.brep_tokens.specs.declared.fault.ReadStop.{ReadStop}
use Rattle.brep_tokens.specs.declared.fault.ReadStop.TheVariants as stops
use Rattle.brep_tokens.specs.declared.fault.Progress.{Progress}
use Rattle.brep_tokens.specs.declared.fault.Progress.TheVariants as progress

-- the token alone is read, or it is refused, whatever follows it
abbrev pub Answers : {A : Type 0} → (List Token → Read A) → Token → Result A ReadFault → Type 0
Answers read t (Ok x) = (rest : List Token) → read (t ∷ rest) ≡ Ok (x, rest)
Answers read t (Err f) = (rest : List Token) → read (t ∷ rest) ≡ Err (fault f)

-- what is left to read is what was left after the token
abbrev pub GoesOn : {A : Type 0} → (List Token → Read A) → Token → (List Token → Read A) → Type 0
GoesOn old t new = (rest : List Token) → new rest ≡ old (t ∷ rest)

-- the token is the first one that isn't accepted, whatever follows it
abbrev pub Stops : {A : Type 0} → (List Token → Read A) → Token → ReadStop → Type 0
Stops old t stops.NoMemory = Unit {0}
Stops old t (stops.Fault f) = (rest : List Token) → old (t ∷ rest) ≡ Err (fault f)

abbrev pub IsOpen : {A : Type 0} → (List Token → Read A) → Type 0
IsOpen left = left [] ≡ Err more

-- A reader that had `old` to read took a token, and has `new` to read: it waits for more, or is done.
abbrev pub Takes : {A : Type 0} → (List Token → Read A) → Token → (List Token → Read A) → Type 0 → Type 0
    → Result Progress ReadStop → Type 0
Takes old t new waits done (Ok progress.More) = GoesOn old t new × IsOpen new × waits
Takes old t new waits done (Ok progress.Whole) = GoesOn old t new × done
Takes old t new waits done (Err e) = Stops old t e

-- the same without saying whether more is due
abbrev pub StepsOn : {A : Type 0} → (List Token → Read A) → Token → (List Token → Read A)
    → Result (Unit {0}) ReadStop → Type 0
StepsOn old t new (Ok u) = GoesOn old t new
StepsOn old t new (Err e) = Stops old t e

-- the token is accepted with this value, or refused, whatever follows it
abbrev pub Accepts : {A : Type 0} → (List Token → Read A) → Token → A → Result (Unit {0}) ReadFault → Type 0
Accepts read t x (Ok u) = (rest : List Token) → read (t ∷ rest) ≡ Ok (x, rest)
Accepts read t x (Err f) = (rest : List Token) → read (t ∷ rest) ≡ Err (fault f)

-- nothing is left to read: the value is whole, whatever follows
abbrev pub HasRead : {A : Type 0} → (List Token → Read A) → A → Type 0
HasRead left x = (rest : List Token) → left rest ≡ Ok (x, rest)

-- what is left to read is read as `read` does
abbrev pub ReadsAs : {A : Type 0} → (List Token → Read A) → (List Token → Read A) → Type 0
ReadsAs left read = (ts : List Token) → left ts ≡ read ts
