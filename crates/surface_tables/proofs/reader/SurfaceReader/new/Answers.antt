-- No code is open yet, and no frame.
use Rattle.std.proofs.Common.{ap, ◌∙◌, arith}
use Rattle.surface_tables.specs.Left.{in_frames}
use Rattle.surface_tables.specs.Surfaces.{surface_in}
use Rattle.surface_tables.proofs.Nesting.{begun, no_frames}
use Rattle.surface_tables.proofs.reader.SurfaceReader.new.Goals as goal

pub returns-clause-left : goal.returns-clause-left
returns-clause-left c ts =
    begun c.new-2.result 0 (omega arith) c.new-2.ensures.nest c.new-2.ensures.left c.new.result ts
    ∙ ap (λ fs. in_frames fs (surface_in 64 ts)) c.new.ensures ∙ no_frames (surface_in 64 ts)
