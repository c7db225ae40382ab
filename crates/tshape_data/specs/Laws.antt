-- What is read is spelled so, what is written is spelled so, and which locations stand in it.
use Rattle.std.specs.Prelude.{◌≡◌, ◌<◌, ◌≤◌, ◌^◌, ℕ, All, List, map}
use Rattle.std.specs.List.{AllByRecursion, flat_map}
use Rattle.brep_tokens.specs.Written.{IsDarkWord, split_word}
use Rattle.brep_tokens.specs.declared.text.Token.{Token}
use Rattle.entry_readers.specs.Begins.{Begins, IsExact}
use Rattle.entry_readers.specs.Spelled.{AreShort}
use Rattle.tshape_data.specs.HeadReading.{head_at}
use Rattle.tshape_data.specs.Lines.{head_lines}
use Rattle.tshape_data.specs.Parts.{payload_parts}
use Rattle.tshape_data.specs.Locations.{renumbered_head, renumbered_part, renumbered_payload, data_locations}
use Rattle.tshape_data.specs.RepReading.{most_reps}
use Rattle.tshape_data.specs.Short.{IsShortPayload}
use Rattle.tshape_data.specs.Sound.{Fits, IsSoundHead, rep_count, sizes}
use Rattle.tshape_data.specs.Spelling.{spell_head}
use Rattle.tshape_data.specs.declared.head_bounds.HeadBounds.{HeadBounds}
use Rattle.tshape_data.specs.declared.head.Payload.{Payload}
use Rattle.tshape_data.specs.declared.head.Head.{Head}

-- A head is read exactly as it is spelled, where those before it don't have too many representations.
abbrev pub HeadsAreExact : Type 0
HeadsAreExact = (b : HeadBounds) (version : ℕ) → b.reps ≤ most_reps
    → IsExact (head_at b version) (spell_head version) (Fits b version)

-- Tokens spell one head at most, also where it has more representations than are read.
abbrev pub headed : Head → List Token → Head × List Token
headed h rest = (h, rest)

abbrev pub HeadsTell : Type 0
HeadsTell = (b : HeadBounds) (version : ℕ) (h g : Head) (ts rest other : List Token) → IsSoundHead (sizes b) version h
    → IsSoundHead (sizes b) version g
    → Begins ts (spell_head version h) rest → Begins ts (spell_head version g) other → headed h rest ≡ headed g other

-- The lines of a sound head have the tokens that it is spelled by.
pub record AreLinesOf (version : ℕ) (h : Head) : Type 0 where
  pub dark : AllByRecursion (AllByRecursion IsDarkWord) (head_lines version h)
  pub tokens : flat_map (flat_map split_word) (head_lines version h) ≡ spell_head version h

abbrev pub LinesAreExact : Type 0
LinesAreExact = (b : HeadBounds) (version : ℕ) (h : Head) → IsSoundHead b version h → AreLinesOf version h

-- these bounds with so many locations
abbrev pub with_locations : ℕ → HeadBounds → HeadBounds
with_locations n b = record b { locations = n }

pub record RenumberingKeepsParts : Type 0 where
  -- a sound head names locations of the file
  pub within : (b : HeadBounds) (version : ℕ) (h : Head) → IsSoundHead b version h
      → All (λ n. n ≤ b.locations) (data_locations version h.payload)
  -- with other numbers, which are in range, it is sound
  pub sound : (b : HeadBounds) (version : ℕ) (h : Head) (renumber : ℕ → ℕ) (n : ℕ)
      → IsSoundHead b version h → n < 10 ^ 18
      → All (λ location. renumber location ≤ n) (data_locations version h.payload)
      → IsSoundHead (with_locations n b) version (renumbered_head renumber h)
  -- and its parts are the same but for its locations
  pub parts : (version : ℕ) (renumber : ℕ → ℕ) (p : Payload)
      → payload_parts version (renumbered_payload renumber p) ≡ map (renumbered_part renumber) (payload_parts version p)
  pub count : (renumber : ℕ → ℕ) (p : Payload) → rep_count (renumbered_payload renumber p) ≡ rep_count p

-- A sound head whose tokens have at most 128 bytes can be spelled; so can it with other locations.
pub record HeadsCanBeSpelled : Type 0 where
  pub sound : (b : HeadBounds) (version : ℕ) (h : Head) → IsSoundHead b version h → AreShort (spell_head version h)
      → IsShortPayload h.payload
  pub renumbered : (renumber : ℕ → ℕ) (p : Payload) → IsShortPayload p → IsShortPayload (renumbered_payload renumber p)
