-- The line of a shape: the number of its record, and its accumulated word.
use Rattle.std.specs.Prelude.{ℕ, List, [], ◌∷◌, ◌++◌, codes}
use Rattle.std.specs.List.{flat_map}
use Rattle.std.specs.Fmt.{decimal, signed_decimal}
use Rattle.orientation.specs.Turns.{sign_of}
use Rattle.location_words.specs.declared.pair.Pair.{Pair}
use Rattle.expansion_laws.specs.Trees.{origin}
use Rattle.subshape_maps.specs.Shapes.{Shape, a_shape}
use Rattle.subshape_maps.specs.Above.{Above}
use Rattle.explorer.specs.Walks.{Occurrence}

-- a power of a datum, after a space
abbrev pub factor_text : Pair → List ℕ
factor_text p = codes " " ++ (decimal p.datum ++ (codes "^" ++ signed_decimal p.power))

-- a number, the factors of a word, innermost first, and the end of the line
abbrev pub line_of : ℕ → List Pair → List ℕ
line_of number w = decimal number ++ (flat_map factor_text w ++ 10 ∷ [])

-- the line of a shape
abbrev pub shape_line : Shape → List ℕ
shape_line s = line_of (origin s.tree) s.word

-- the line of a shape above another: after two spaces
abbrev pub high_line : Shape → List ℕ
high_line s = codes "  " ++ shape_line s

-- the line of a shape, and those of the shapes above it
abbrev pub above_lines : Above → List ℕ
above_lines a = shape_line a.low ++ flat_map high_line a.high

-- the line of an occurrence: the sign of its accumulated turn joined to the line of its shape
abbrev pub occurrence_line : Occurrence → List ℕ
occurrence_line o = sign_of o.here.turn ∷ shape_line (a_shape o.tree o.here.word)
