-- The innermost frame is the last.
use Rattle.std.proofs.Common.{◌≡◌, List, [], ◌∷◌, ◌++◌, refl, ap}
use Rattle.curve_tables.specs.Curves.{framed2, framed3, wrapped2, wrapped3}
use Rattle.curve_tables.specs.declared.parts.Frame.{Frame}
use Rattle.curve_tables.specs.declared.curve2.Curve2.{Curve2}
use Rattle.curve_tables.specs.declared.curve3.Curve3.{Curve3}

pub framed2_last : (fs : List Frame) (f : Frame) (c : Curve2)
    → framed2 (fs ++ f ∷ []) c ≡ framed2 fs (wrapped2 f.wrap f.texts c)
framed2_last [] f c = refl
framed2_last (g ∷ fs) f c = ap (wrapped2 g.wrap g.texts) (framed2_last fs f c)

pub framed3_last : (fs : List Frame) (f : Frame) (c : Curve3)
    → framed3 (fs ++ f ∷ []) c ≡ framed3 fs (wrapped3 f.wrap f.texts c)
framed3_last [] f c = refl
framed3_last (g ∷ fs) f c = ap (wrapped3 g.wrap g.texts) (framed3_last fs f c)
