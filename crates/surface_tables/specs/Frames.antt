-- A surface in the trimmed and offset surfaces around it.
use Rattle.std.specs.Prelude.{ℕ, List, [], ◌∷◌}
use Rattle.surface_tables.specs.declared.parts.Frame.{Frame}
use Rattle.surface_tables.specs.declared.parts.Wrap.{Wrap}
use Rattle.surface_tables.specs.declared.parts.Wrap.TheVariants.{Trimmed, Offset}
use Rattle.surface_tables.specs.declared.surface.Surface.{Surface}
use Rattle.surface_tables.specs.declared.surface.Surface.TheVariants as surfaces

abbrev pub wrapped : Wrap → List (List ℕ) → Surface → Surface
wrapped Trimmed texts s = surfaces.Trimmed texts s
wrapped Offset texts s = surfaces.Offset texts s

abbrev pub framed_by : Frame → Surface → Surface
framed_by f s = wrapped f.wrap f.texts s

-- the first frame is the outermost
abbrev pub framed : List Frame → Surface → Surface
framed [] s = s
framed (f ∷ fs) s = framed_by f (framed fs s)
