-- What an iterator over the tokens of a head has still to give.
use Rattle.std.specs.Prelude.{◌≡◌, ◌<◌, ℕ, List, [], ◌∷◌, ◌++◌, map, length, take, drop, codes, Option, Some, None}
use Rattle.std.specs.Fmt.{decimal}
use Rattle.std.specs.List.{AllByRecursion, flat_map}
use Rattle.brep_tokens.specs.Forms.{flag_text}
use Rattle.entry_readers.specs.Spelled.{AreShort}
use Rattle.orientation.specs.Kinds.{name_of}
use Rattle.tshape_data.specs.Flags.{spell_flags}
use Rattle.tshape_data.specs.Columns.{edge_columns, edge_number, point_columns, point_number}
use Rattle.tshape_data.specs.Parts.{column_parts, continuity_text, edge_rep_parts, mesh_parts, point_parts}
use Rattle.tshape_data.specs.Reps.{form_of_edge, form_of_point, numbers_of_edge, numbers_of_point, texts_of_point}
use Rattle.tshape_data.specs.Short.{IsShortEdgeRep, IsShortPoint}
use Rattle.tshape_data.specs.Spelling.{part_text}
use Rattle.tshape_data.specs.declared.head.FaceData.{FaceData}
use Rattle.tshape_data.specs.declared.head.Flags.{Flags}
use Rattle.tshape_data.specs.declared.reps.PointRep.{PointRep}
use Rattle.tshape_data.specs.declared.reps.EdgeRep.{EdgeRep}
use Rattle.tshape_data.specs.declared.spell.HeadSpell.{HeadSpell}
use Rattle.tshape_data.specs.declared.spell.Stage.{Stage}
use Rattle.tshape_data.specs.declared.spell.Stage.TheVariants as stages
use Rattle.tshape_data.specs.declared.chunks.ChunkSpell.{ChunkSpell}
use Rattle.tshape_data.specs.declared.head_words.Word.{Word}
use Rattle.tshape_data.specs.declared.head_words.Word.TheVariants as words
use Rattle.tshape_data.specs.declared.word_lists.Words.{Words}
use Rattle.tshape_data.specs.declared.word_lists.WordsSpell.{WordsSpell}
use Rattle.tshape_data.specs.declared.ranges.RangeSpell.{RangeSpell}

-- ---- words and decimals

abbrev pub word_text : Word → List ℕ
word_text (words.Name k) = name_of k
word_text (words.Number n) = decimal n
word_text (words.Continuity n) = continuity_text n
word_text (words.Flag b) = flag_text b
word_text words.End = codes "0"
word_text words.Meshed = codes "2"
word_text (words.Flags f) = spell_flags f

abbrev pub words_of : Words → List (List ℕ)
words_of w = map word_text (take w.len w.words)

abbrev pub words_left : WordsSpell → List (List ℕ)
words_left s = map word_text (drop s.at (take s.words.len s.words.words))

abbrev pub range_left : RangeSpell → List (List ℕ)
range_left s = drop s.at (take s.end s.texts.now)

-- ---- pieces

abbrev pub range_of : Option RangeSpell → List (List ℕ)
range_of None = []
range_of (Some s) = range_left s

abbrev pub CanGiveRange : Option RangeSpell → Type 0
CanGiveRange None = Unit {0}
CanGiveRange (Some s) = AreShort (range_left s)

abbrev pub chunk_left : ChunkSpell → List (List ℕ)
chunk_left c = words_left c.before ++ (range_of c.texts ++ words_left c.after)

abbrev pub CanGiveChunk : ChunkSpell → Type 0
CanGiveChunk c = CanGiveRange c.texts

-- ---- numbers

-- a representation of a vertex: its numbers but that of its form
abbrev pub point_number_texts : PointRep → List (List ℕ)
point_number_texts p = map part_text (column_parts (point_columns (form_of_point p)) (numbers_of_point p))

-- a representation of an edge: the number of its form, and its other numbers
abbrev pub edge_number_texts : EdgeRep → List (List ℕ)
edge_number_texts r =
    decimal (edge_number (form_of_edge r)) ∷ map part_text
    (column_parts (edge_columns (form_of_edge r)) (numbers_of_edge r))

-- a face: its surface, its location, and its triangulation, if it has one
abbrev pub face_number_texts : FaceData → List (List ℕ)
face_number_texts d = decimal d.surface ∷ decimal d.location ∷ map part_text (mesh_parts d.mesh)

-- ---- the whole

-- the tokens of a representation of a vertex up to the number of its form
abbrev pub first_texts : PointRep → List (List ℕ)
first_texts p = take 1 (texts_of_point p) ++ decimal (point_number (form_of_point p)) ∷ []

-- and those behind it
abbrev pub rest_texts : PointRep → List (List ℕ)
rest_texts p = drop 1 (texts_of_point p) ++ point_number_texts p

-- representations of a vertex, and what stands behind them
abbrev pub points_left : Flags → List PointRep → List (List ℕ)
points_left flags points = flat_map (λ p. map part_text (point_parts p)) points ++ codes "0" ∷ codes "0"
    ∷ spell_flags flags ∷ []

-- the same of an edge
abbrev pub edges_left : ℕ → Flags → List EdgeRep → List (List ℕ)
edges_left version flags reps = flat_map (λ r. map part_text (edge_rep_parts version r)) reps ++ codes "0"
    ∷ spell_flags flags ∷ []

-- what stands behind a piece
abbrev pub stage_left : ℕ → Flags → Stage → List (List ℕ)
stage_left version flags (stages.Points points) = points_left flags points.now
stage_left version flags (stages.PointRest point points) = rest_texts point.now ++ points_left flags points.now
stage_left version flags (stages.Edges reps) = edges_left version flags reps.now
stage_left version flags stages.Flags = spell_flags flags ∷ []
stage_left version flags stages.Done = []

abbrev pub CanGiveStage : Stage → Type 0
CanGiveStage (stages.Points points) = AllByRecursion IsShortPoint points.now
CanGiveStage (stages.PointRest point points) = IsShortPoint point.now × AllByRecursion IsShortPoint points.now
CanGiveStage (stages.Edges reps) = AllByRecursion IsShortEdgeRep reps.now
CanGiveStage stages.Flags = Unit {0}
CanGiveStage stages.Done = Unit {0}

abbrev pub tokens_left : HeadSpell → List (List ℕ)
tokens_left s = chunk_left s.chunk ++ stage_left s.version s.flags s.stage

pub record CanGiveHead (s : HeadSpell) : Type 0 where
  pub chunk_can : CanGiveChunk s.chunk
  pub stage_can : CanGiveStage s.stage

-- it has these texts to give, the first of them in its piece
pub record IsBegun (texts : List (List ℕ)) (s : HeadSpell) : Type 0 where
  pub left : tokens_left s ≡ texts
  pub can : CanGiveHead s
  pub first : 0 < length (chunk_left s.chunk)
