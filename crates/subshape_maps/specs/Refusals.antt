-- Why a map of shapes is refused.
use Rattle.std.specs.Prelude.{◌≡◌, ℕ, ◌+◌, ◌<◌, ◌≤◌, List, [], ◌∷◌, ◌++◌}
use Rattle.std.specs.Prelude.{length, Contains, Option, None, Some}
use Rattle.location_words.specs.declared.fault.WordFault.{WordFault}
use Rattle.location_words.specs.Faults.{fault_of}
use Rattle.subshape_maps.specs.declared.fault.MapFault.{MapFault}
use Rattle.subshape_maps.specs.declared.fault.MapFault.TheVariants.{Word, Keys, Pairs, NoMemory}
use Rattle.subshape_maps.specs.Shapes.{Shape, shape_eq, first_places_after}

-- the greatest number of shapes of any kind
abbrev pub most_shapes : ℕ
most_shapes = 1048576

-- a word is refused as it is due, unless memory is wanting
abbrev pub IsDueWord : Option WordFault → MapFault → Type 0
IsDueWord due (Word f) = due ≡ Some f
IsDueWord due (Keys n) = ⊥
IsDueWord due (Pairs n) = ⊥
IsDueWord due NoMemory = Unit {0}

-- so many shapes are too many, unless memory is wanting
abbrev pub IsOneTooMany : ℕ → MapFault → Type 0
IsOneTooMany shapes (Word f) = ⊥
IsOneTooMany shapes (Keys n) = (most_shapes < shapes) × (n ≡ most_shapes + 1)
IsOneTooMany shapes (Pairs n) = ⊥
IsOneTooMany shapes NoMemory = Unit {0}

-- After shapes that are met, more are met within the limits: their words are, and so is the number of all, each once.
pub record AreMet (met more : List Shape) : Type 0 where
  pub words : (s : Shape) → Contains more s → fault_of s.word ≡ None
  pub few : length (first_places_after shape_eq met more) ≤ most_shapes

-- After shapes that are met, those of more that come before this one are within the limits.
pub record IsFirstPast (met more before : List Shape) (s : Shape) (after : List Shape) : Type 0 where
  pub parts : more ≡ before ++ s ∷ after
  pub within : AreMet met before

-- Why more shapes are refused, after shapes that are met: at each first its word is tested, then the number of all so
-- far.
abbrev pub IsDue : List Shape → List Shape → MapFault → Type 0
IsDue met more (Word f) =
    (before : List Shape) × (s : Shape) × (after : List Shape) × IsFirstPast met more before s after ×
    (fault_of s.word ≡ Some f)
IsDue met more (Keys n) =
    (before : List Shape) × (s : Shape) × (after : List Shape) × IsFirstPast met more before s after ×
    (fault_of s.word ≡ None) × (most_shapes < length (first_places_after shape_eq met (before ++ s ∷ []))) ×
    (n ≡ most_shapes + 1)
IsDue met more (Pairs n) = ⊥
IsDue met more NoMemory = Unit {0}
