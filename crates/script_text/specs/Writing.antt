-- The line that writes a command, and the commands that a line can give.
use Rattle.std.specs.Prelude.{◌≡◌, ◌≢◌, ◌⊎◌, ℕ, ◌≤◌, ◌==◌, if◌then◌else◌, codes, unwrap_or, List, [], ◌∷◌, length, map}
use Rattle.std.specs.Prelude.{Option, Some, None, AllPairs}
use Rattle.std.specs.List.{AllByRecursion, flat_map, join_with_byte}
use Rattle.orientation.specs.declared.turn.Turn.{Turn}
use Rattle.orientation.specs.declared.turn.Turn.TheVariants.{Forward, Reversed, Internal, External}
use Rattle.script_text.specs.Spelling.{spell_mention, spell_number, spelling}
use Rattle.script_text.specs.declared.command.Command.{Command}
use Rattle.script_text.specs.declared.command.Command.TheVariants as commands
use Rattle.script_text.specs.declared.command.Sel.{Sel}
use Rattle.script_text.specs.declared.command.SignedName.{SignedName}
use Rattle.script_text.specs.declared.command.Tgt.{Tgt}
use Rattle.script_text.specs.declared.phrase.Mention.{Mention}
use Rattle.script_text.specs.declared.phrase.Phrase.{Phrase}
use Rattle.script_text.specs.declared.phrase.Phrase.TheVariants.{Replace, Remove, Merge, Sew, Apply, Undo, Until, Prune}
use Rattle.script_text.specs.declared.phrase.Phrase.TheVariants.{OutputFirst}

-- ---- the line of a command

-- no sign is written for `+`
abbrev pub sign_for : Turn → Option Turn
sign_for Forward = None
sign_for Reversed = Some Reversed
sign_for Internal = Some Internal
sign_for External = Some External

abbrev pub mention_for : ℕ → Option Turn → Mention
mention_for name sign = record { sign = sign; number = name }

abbrev pub bare_mention : ℕ → Mention
bare_mention name = mention_for name None

abbrev pub sewn_mention : SignedName → Mention
sewn_mention s = mention_for s.name (sign_for s.turn)

-- no location is written where it is the one that is meant without it
abbrev pub location_for : Option ℕ → ℕ → Option ℕ
location_for place location = if location == unwrap_or place 0 then None else Some location

-- the words of a source, perhaps with its place
abbrev pub source_words : Sel → List (List ℕ)
source_words sel = spell_mention (mention_for sel.name sel.turn) ∷ spell_number (codes "at") sel.place

-- the words of a target, perhaps with its location, where the source has this place
abbrev pub target_words : Option ℕ → Tgt → List (List ℕ)
target_words place tgt = spell_mention (mention_for tgt.name (sign_for tgt.turn))
    ∷ spell_number (codes "loc") (location_for place tgt.location)

-- the words of names
abbrev pub name_words : List ℕ → List (List ℕ)
name_words names = map spell_mention (map bare_mention names)

-- the words of names that are sewn
abbrev pub sewn_words : List SignedName → List (List ℕ)
sewn_words names = map spell_mention (map sewn_mention names)

-- what is written for a command: no sign and no location that is meant without it
abbrev pub phrase_for : Command → Phrase
phrase_for (commands.Replace sel tgt) =
    Replace (mention_for sel.name sel.turn) sel.place (mention_for tgt.name (sign_for tgt.turn))
    (location_for sel.place tgt.location)
phrase_for (commands.Remove sel) = Remove (mention_for sel.name sel.turn) sel.place
phrase_for (commands.Merge names) = Merge (map bare_mention names)
phrase_for (commands.Sew names) = Sew (map sewn_mention names)
phrase_for commands.Apply = Apply
phrase_for commands.Undo = Undo
phrase_for (commands.Until kind) = Until kind
phrase_for commands.Prune = Prune
phrase_for commands.OutputFirst = OutputFirst

-- The line of a command: its words with one space between neighbours.
abbrev pub line_of_command : Command → List ℕ
line_of_command c = join_with_byte 32 (spelling (phrase_for c))

-- each word after a space
abbrev pub after_spaces : List (List ℕ) → List ℕ
after_spaces words = flat_map (λ w. 32 ∷ w) words

-- ---- the commands of lines, over so many records and locations

-- the numbers of records run from 1
abbrev pub IsShape : ℕ → ℕ → Type 0
IsShape shapes n = (1 ≤ n) × (n ≤ shapes)

-- a place, if one is asked for, is a location
abbrev pub MayBePlace : ℕ → Option ℕ → Type 0
MayBePlace locations None = Unit {0}
MayBePlace locations (Some n) = n ≤ locations

abbrev pub IsSelection : ℕ → ℕ → Sel → Type 0
IsSelection shapes locations s = IsShape shapes s.name × MayBePlace locations s.place

abbrev pub IsTarget : ℕ → ℕ → Tgt → Type 0
IsTarget shapes locations t = IsShape shapes t.name × (t.location ≤ locations)

abbrev pub name_of : SignedName → ℕ
name_of s = s.name

-- forward or reversed
abbrev pub IsSide : SignedName → Type 0
IsSide s = (s.turn ≡ Forward) ⊎ (s.turn ≡ Reversed)

-- the first is forward, and each other one forward or reversed
abbrev pub AreSides : List SignedName → Type 0
AreSides [] = Unit {0}
AreSides (s ∷ ss) = (s.turn ≡ Forward) × AllByRecursion IsSide ss

-- two records or more, none of them twice
pub record AreShapes (shapes : ℕ) (names : List ℕ) : Type 0 where
  pub are_shapes : AllByRecursion (IsShape shapes) names
  pub some : 2 ≤ length names
  pub distinct : AllPairs (λ x y. x ≢ y) names

-- The command has a line.
abbrev pub HasLine : ℕ → ℕ → Command → Type 0
HasLine shapes locations (commands.Replace sel tgt) = IsSelection shapes locations sel × IsTarget shapes locations tgt
HasLine shapes locations (commands.Remove sel) = IsSelection shapes locations sel
HasLine shapes locations (commands.Merge names) = AreShapes shapes names
HasLine shapes locations (commands.Sew names) = AreShapes shapes (map name_of names) × AreSides names
HasLine shapes locations commands.Apply = Unit {0}
HasLine shapes locations commands.Undo = Unit {0}
HasLine shapes locations (commands.Until kind) = Unit {0}
HasLine shapes locations commands.Prune = Unit {0}
HasLine shapes locations commands.OutputFirst = Unit {0}
