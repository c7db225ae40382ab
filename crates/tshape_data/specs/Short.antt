-- Heads whose decimals fit tokens: each has at most 128 bytes.
use Rattle.std.specs.List.{AllByRecursion}
use Rattle.entry_readers.specs.Spelled.{AreShort}
use Rattle.tshape_data.specs.Reps.{texts_of_edge, texts_of_point}
use Rattle.tshape_data.specs.declared.reps.PointRep.{PointRep}
use Rattle.tshape_data.specs.declared.reps.EdgeRep.{EdgeRep}
use Rattle.tshape_data.specs.declared.head.Payload.{Payload}
use Rattle.tshape_data.specs.declared.head.Payload.TheVariants.{Vertex, Edge, Face, Nothing}

abbrev pub IsShortPoint : PointRep → Type 0
IsShortPoint p = AreShort (texts_of_point p)

abbrev pub IsShortEdgeRep : EdgeRep → Type 0
IsShortEdgeRep r = AreShort (texts_of_edge r)

-- each decimal of the data
abbrev pub IsShortPayload : Payload → Type 0
IsShortPayload (Vertex d) = AreShort d.texts × AllByRecursion IsShortPoint d.points
IsShortPayload (Edge d) = AreShort d.tolerance × AllByRecursion IsShortEdgeRep d.reps
IsShortPayload (Face d) = AreShort d.tolerance
IsShortPayload Nothing = Unit {0}
