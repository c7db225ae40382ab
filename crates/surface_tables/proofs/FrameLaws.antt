-- The innermost frame is the last.
use Rattle.std.proofs.Common.{◌≡◌, List, [], ◌∷◌, ◌++◌, refl, ap}
use Rattle.surface_tables.specs.Frames.{framed, framed_by}
use Rattle.surface_tables.specs.declared.parts.Frame.{Frame}
use Rattle.surface_tables.specs.declared.surface.Surface.{Surface}

pub framed_last : (fs : List Frame) (f : Frame) (s : Surface) → framed (fs ++ f ∷ []) s ≡ framed fs (framed_by f s)
framed_last [] f s = refl
framed_last (g ∷ fs) f s = ap (framed_by g) (framed_last fs f s)
