-- A file of shared shapes that are drawn, and a script for it.
use Rattle.std.specs.Prelude.{ℕ, zero, suc, ◌+◌, ◌-◌, ◌*◌, ◌%◌, ◌==◌, if◌then◌else◌, List, [], ◌∷◌, ◌++◌, codes}
use Rattle.std.specs.Fmt.{decimal}
use Rattle.brep_tokens.specs.Tokens.{version_line}
use Rattle.brep_tokens.specs.Written.{lines_text}
use Rattle.brep_gen.specs.Draws.{draw, state_at}

-- the words of a line
abbrev pub Line : Type 0
Line = List (List ℕ)

-- what is given for 0, 1 and so on below a number, joined in order
unfoldable pub in_turn : {A : Type 0} → ℕ → (ℕ → List A) → List A
in_turn zero given = []
in_turn (suc n) given = in_turn n given ++ given n

abbrev pub nought : List ℕ
nought = codes "0"

abbrev pub unit : List ℕ
unit = codes "1"

-- ---- the records, those of a row of 1,024 counted from 0

-- the vertex at x = j
abbrev pub vertex_lines : ℕ → List Line
vertex_lines j =
    (codes "Ve" ∷ []) ∷ (codes "1e-07" ∷ []) ∷ (decimal j ∷ nought ∷ nought ∷ []) ∷ (nought ∷ nought ∷ []) ∷ []
    ∷ (codes "0101101" ∷ []) ∷ (codes "*" ∷ []) ∷ []

-- a use of the record with a number, under a sign, at a location
abbrev pub use_words : ℕ → ℕ → ℕ → Line
use_words sign number location = (sign ∷ decimal number) ∷ decimal location ∷ []

abbrev pub forward : ℕ
forward = 43

abbrev pub reversed : ℕ
reversed = 45

-- a compound with these uses
abbrev pub compound_lines : Line → List Line
compound_lines uses = (codes "Co" ∷ []) ∷ [] ∷ (codes "0101000" ∷ []) ∷ (uses ++ codes "*" ∷ []) ∷ []

-- In a file of n records the record at a place, counted from 0 in file order, has the number n less the place. The
-- vertices stand at the places from 0 on, the edges from 1,024 on, and each level of compounds after the row before it.
module _ (n : ℕ) where
  -- the edge from a vertex to the next one, and at last to the first
  abbrev pub edge_lines : ℕ → List Line
  edge_lines j =
      (codes "Ed" ∷ []) ∷ (codes "1e-07" ∷ unit ∷ unit ∷ nought ∷ []) ∷ (nought ∷ []) ∷ [] ∷ (codes "0101000" ∷ [])
      ∷ (use_words forward (n - j) 0 ++ (use_words reversed (n - (j + 1) % 1024) 0 ++ codes "*" ∷ [])) ∷ []

  -- a use of one of the 1,024 records from a place on, by three draws: its place, its turn and its location
  abbrev pub drawn_use : ℕ → ℕ → Line
  drawn_use first x =
      use_words (if draw x 1 % 2 == 0 then forward else reversed) (n - (first + draw x 0 % 1024)) (draw x 2 % 4)

  -- a compound of four such uses
  abbrev pub drawn_compound : ℕ → ℕ → List Line
  drawn_compound first x = compound_lines (in_turn 4 (λ k. drawn_use first (state_at x (3 * k))))

  -- a level: 1,024 such compounds
  abbrev pub drawn_level : ℕ → ℕ → List Line
  drawn_level first x = in_turn 1024 (λ k. drawn_compound first (state_at x (12 * k)))

  -- so many levels, each over the row before it
  abbrev pub drawn_levels : ℕ → ℕ → List Line
  drawn_levels levels x = in_turn levels (λ k. drawn_level (1024 * (k + 1)) (state_at x (12288 * k)))

  -- a compound of all 1,024 records from a place on
  abbrev pub whole : ℕ → List Line
  whole first = compound_lines (in_turn 1024 (λ k. use_words forward (n - (first + k)) 0))

-- ---- the file

-- how many records there are
abbrev pub record_count : ℕ → ℕ
record_count levels = 2049 + 1024 * levels

-- the datum that moves by these coordinates
abbrev pub move : List ℕ → List ℕ → List ℕ → Line
move x y z =
    unit ∷ unit ∷ nought ∷ nought ∷ x ∷ nought ∷ unit ∷ nought ∷ y ∷ nought ∷ nought ∷ unit ∷ z ∷ []

abbrev pub heading : List ℕ → List ℕ → Line
heading word count = word ∷ count ∷ []

-- three datums, and no other table entry
abbrev pub table_lines : List Line
table_lines =
    heading (codes "Locations") (codes "3")
    ∷ move unit nought nought ∷ move nought unit nought ∷ move nought nought unit
    ∷ heading (codes "Curve2ds") nought ∷ heading (codes "Curves") nought ∷ heading (codes "Polygon3D") nought
    ∷ heading (codes "PolygonOnTriangulations") nought ∷ heading (codes "Surfaces") nought
    ∷ heading (codes "Triangulations") nought ∷ []

-- the vertices, the edges, the levels, and a compound of the last level
abbrev pub record_lines : ℕ → ℕ → List Line
record_lines seed levels =
    in_turn 1024 vertex_lines
    ++ (in_turn 1024 (edge_lines (record_count levels))
    ++ (drawn_levels (record_count levels) levels seed
    ++ whole (record_count levels) (1024 * (levels + 1))))

abbrev pub file_lines : ℕ → ℕ → List Line
file_lines seed levels =
    table_lines
    ++ (heading (codes "TShapes") (decimal (record_count levels))
    ∷ (record_lines seed levels ++ (codes "+1" ∷ nought ∷ []) ∷ []))

abbrev pub file_text : ℕ → ℕ → List ℕ
file_text seed levels = version_line 1 ++ 10 ∷ lines_text (file_lines seed levels)

-- ---- the script: the first two vertices are made one, then the sixth edge goes
abbrev pub script_text : ℕ → List ℕ
script_text levels =
    lines_text
    ((codes "merge" ∷ decimal (record_count levels) ∷ decimal (record_count levels - 1) ∷ [])
    ∷ (codes "apply" ∷ []) ∷ (codes "remove" ∷ decimal (record_count levels - 1029) ∷ []) ∷ (codes "apply" ∷ []) ∷ [])
