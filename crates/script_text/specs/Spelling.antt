-- Which words spell which command.
use Rattle.std.specs.Prelude.{◌≡◌, ◌≢◌, ◌⊎◌, ℕ, ◌^◌, ◌<◌, ◌≤◌, List, [], ◌∷◌, ◌++◌, length, map, codes, Option, Some}
use Rattle.std.specs.Prelude.{None, AllPairs}
use Rattle.std.specs.List.{AllByRecursion}
use Rattle.std.specs.Fmt.{decimal}
use Rattle.orientation.specs.Kinds.{name_of}
use Rattle.orientation.specs.Turns.{sign_of}
use Rattle.orientation.specs.declared.turn.Turn.{Turn}
use Rattle.orientation.specs.declared.turn.Turn.TheVariants as turns
use Rattle.script_text.specs.declared.phrase.Mention.{Mention}
use Rattle.script_text.specs.declared.phrase.Phrase.{Phrase}
use Rattle.script_text.specs.declared.phrase.Phrase.TheVariants.{Replace, Remove, Merge, Sew, Apply, Undo, Until, Prune}
use Rattle.script_text.specs.declared.phrase.Phrase.TheVariants.{OutputFirst}

abbrev pub spell_sign : Option Turn → List ℕ
spell_sign None = []
spell_sign (Some t) = sign_of t ∷ []

-- a number, perhaps with a sign joined before it
abbrev pub spell_mention : Mention → List ℕ
spell_mention m = spell_sign m.sign ++ decimal m.number

-- a word with a number after it, where there is a number
abbrev pub spell_number : List ℕ → Option ℕ → List (List ℕ)
spell_number word None = []
spell_number word (Some n) = word ∷ decimal n ∷ []

-- `replace S by T`, `replace S at L by T`, both perhaps with `loc N`; `remove S`, `remove S at L`; `merge K K ..`; `sew
-- K M ..`; `apply`; `undo`; `until KIND`; `prune`; `output version 1`
abbrev pub spelling : Phrase → List (List ℕ)
spelling (Replace source place target location) =
    codes "replace" ∷ spell_mention source
    ∷ (spell_number (codes "at") place ++ (codes "by" ∷ spell_mention target ∷ spell_number (codes "loc") location))
spelling (Remove source place) = codes "remove" ∷ spell_mention source ∷ spell_number (codes "at") place
spelling (Merge mentions) = codes "merge" ∷ map spell_mention mentions
spelling (Sew mentions) = codes "sew" ∷ map spell_mention mentions
spelling Apply = codes "apply" ∷ []
spelling Undo = codes "undo" ∷ []
spelling (Until kind) = codes "until" ∷ name_of kind ∷ []
spelling Prune = codes "prune" ∷ []
spelling OutputFirst = codes "output" ∷ codes "version" ∷ codes "1" ∷ []

-- a number of at most 18 digits
abbrev pub IsShort : ℕ → Type 0
IsShort n = n < 10 ^ 18

abbrev pub IsShortMention : Mention → Type 0
IsShortMention m = IsShort m.number

-- a number, if there is one, has at most 18 digits
abbrev pub MayBeShort : Option ℕ → Type 0
MayBeShort None = Unit {0}
MayBeShort (Some n) = IsShort n

-- no sign
abbrev pub IsBare : Mention → Type 0
IsBare m = m.sign ≡ None

-- no sign, or `+` or `-`
abbrev pub IsSided : Mention → Type 0
IsSided m = IsBare m ⊎ ((m.sign ≡ Some turns.Forward) ⊎ (m.sign ≡ Some turns.Reversed))

-- the first has no sign, and each other one none, `+` or `-`
abbrev pub AreSewn : List Mention → Type 0
AreSewn [] = Unit {0}
AreSewn (m ∷ ms) = IsBare m × AllByRecursion IsSided ms

-- two or more, with numbers of at most 18 digits, and no number stands twice
pub record AreNamed (ms : List Mention) : Type 0 where
  pub short : AllByRecursion IsShortMention ms
  pub some : 2 ≤ length ms
  pub distinct : AllPairs (λ x y. x ≢ y) (map (λ m. m.number) ms)

-- what a phrase that stands in a script keeps to
abbrev pub IsLegal : Phrase → Type 0
IsLegal (Replace source place target location) = IsShortMention source
    × (MayBeShort place × (IsShortMention target × MayBeShort location))
IsLegal (Remove source place) = IsShortMention source × MayBeShort place
IsLegal (Merge ms) = AreNamed ms × AllByRecursion IsBare ms
IsLegal (Sew ms) = AreNamed ms × AreSewn ms
IsLegal Apply = Unit {0}
IsLegal Undo = Unit {0}
IsLegal (Until kind) = Unit {0}
IsLegal Prune = Unit {0}
IsLegal OutputFirst = Unit {0}

-- The words of a line spell a command.
pub record Spells (words : List (List ℕ)) (p : Phrase) : Type 0 where
  pub spelled : words ≡ spelling p
  pub legal : IsLegal p
