-- Which heads a file can hold.
use Rattle.std.specs.Prelude.{◌+◌, ◌<◌, ◌≤◌, ℕ, List, [], ◌∷◌, length, Option, Some, None}
use Rattle.std.specs.List.{AllByRecursion}
use Rattle.entry_readers.specs.Begins.{AreDecimals, IsRanged}
use Rattle.orientation.specs.declared.kind.Kind.{Kind}
use Rattle.orientation.specs.declared.kind.Kind.TheVariants.{Ve, Ed, Wi, Fa, Sh, So, CS, Co}
use Rattle.tshape_data.specs.Columns.{edge_columns, edge_texts, point_columns, second_texts}
use Rattle.tshape_data.specs.RepReading.{most_reps, size_of}
use Rattle.tshape_data.specs.Reps.{form_of_edge, form_of_point, numbers_of_edge, numbers_of_point, texts_of_edge}
use Rattle.tshape_data.specs.Reps.{texts_of_point}
use Rattle.tshape_data.specs.declared.head_bounds.HeadBounds.{HeadBounds}
use Rattle.tshape_data.specs.declared.columns.Column.{Column}
use Rattle.tshape_data.specs.declared.columns.Column.TheVariants.{Entry, Location, Continuity}
use Rattle.tshape_data.specs.declared.reps.PointRep.{PointRep}
use Rattle.tshape_data.specs.declared.reps.EdgeRep.{EdgeRep}
use Rattle.tshape_data.specs.declared.head.VertexData.{VertexData}
use Rattle.tshape_data.specs.declared.head.EdgeData.{EdgeData}
use Rattle.tshape_data.specs.declared.head.FaceData.{FaceData}
use Rattle.tshape_data.specs.declared.head.Payload.{Payload}
use Rattle.tshape_data.specs.declared.head.Payload.TheVariants.{Vertex, Edge, Face, Nothing}
use Rattle.tshape_data.specs.declared.head.Head.{Head}

-- ---- numbers within bounds: those of entries from 1, those of locations from 0, and the place of a continuity word

module _ (b : HeadBounds) where
  abbrev pub IsInColumn : Column → ℕ → Type 0
  IsInColumn (Entry table) n = IsRanged 1 (size_of b table) n
  IsInColumn Location n = IsRanged 0 b.locations n
  IsInColumn Continuity n = n < 7

  -- one number for each column
  abbrev pub AreInColumns : List Column → List ℕ → Type 0
  AreInColumns [] [] = Unit {0}
  AreInColumns [] (n ∷ ns) = ⊥
  AreInColumns (c ∷ cs) [] = ⊥
  AreInColumns (c ∷ cs) (n ∷ ns) = IsInColumn c n × AreInColumns cs ns

  -- ---- data

  pub record IsSoundPoint (p : PointRep) : Type 0 where
    pub numbers : AreInColumns (point_columns (form_of_point p)) (numbers_of_point p)
    pub decimals : AreDecimals (1 + second_texts (form_of_point p)) (texts_of_point p)

  pub record IsSoundVertex (d : VertexData) : Type 0 where
    pub decimals : AreDecimals 4 d.texts
    pub points : AllByRecursion IsSoundPoint d.points

  abbrev pub IsMesh : Option ℕ → Type 0
  IsMesh None = Unit {0}
  IsMesh (Some mesh) = IsRanged 1 b.meshes mesh

  pub record IsSoundFace (d : FaceData) : Type 0 where
    pub decimals : AreDecimals 1 d.tolerance
    pub surface : IsRanged 0 b.surfaces d.surface
    pub location : IsRanged 0 b.locations d.location
    pub mesh : IsMesh d.mesh

  module _ (version : ℕ) where
    pub record IsSoundEdgeRep (r : EdgeRep) : Type 0 where
      pub numbers : AreInColumns (edge_columns (form_of_edge r)) (numbers_of_edge r)
      pub decimals : AreDecimals (edge_texts version (form_of_edge r)) (texts_of_edge r)

    pub record IsSoundEdge (d : EdgeData) : Type 0 where
      pub decimals : AreDecimals 1 d.tolerance
      pub reps : AllByRecursion IsSoundEdgeRep d.reps

    -- the data are those of the kind
    abbrev pub IsSoundPayload : Kind → Payload → Type 0
    IsSoundPayload Ve (Vertex d) = IsSoundVertex d
    IsSoundPayload Ed (Edge d) = IsSoundEdge d
    IsSoundPayload Fa (Face d) = IsSoundFace d
    IsSoundPayload Wi Nothing = Unit {0}
    IsSoundPayload Sh Nothing = Unit {0}
    IsSoundPayload So Nothing = Unit {0}
    IsSoundPayload CS Nothing = Unit {0}
    IsSoundPayload Co Nothing = Unit {0}
    IsSoundPayload _ _ = ⊥

    -- A file of this version with tables of these sizes can hold the head.
    abbrev pub IsSoundHead : Head → Type 0
    IsSoundHead h = IsSoundPayload h.kind h.payload

-- how many representations stand in the data
abbrev pub rep_count : Payload → ℕ
rep_count (Vertex d) = length d.points
rep_count (Edge d) = length d.reps
rep_count (Face d) = 0
rep_count Nothing = 0

-- the sizes of the tables alone
abbrev pub sizes : HeadBounds → HeadBounds
sizes b = record b { reps = 0 }

-- The head is sound, and with those before it there aren't too many representations.
pub record Fits (b : HeadBounds) (version : ℕ) (h : Head) : Type 0 where
  pub sound : IsSoundHead (sizes b) version h
  pub few : b.reps + rep_count h.payload ≤ most_reps
