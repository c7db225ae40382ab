-- The frame is the innermost, and a code is due in it.
use Rattle.std.proofs.Common.{◌+◌, ◌-◌, ◌≤◌, ap, sym, ◌∙◌, [], arith}
use Rattle.surface_tables.specs.Left.{in_frames, rest_of_surface}
use Rattle.surface_tables.specs.Surfaces.{surface_in}
use Rattle.surface_tables.proofs.Nesting.{begun, deeper, none_read}
use Rattle.surface_tables.proofs.Waiting.{waits_open}
use Rattle.surface_tables.proofs.reader.SurfaceReader.enter.Goals as goal

pub returns : goal.returns
returns c =
    let le : c.args.self.now.part.nest + 1 ≤ 64 = omega (arith, c.requires.nested) in (
      λ rest. ap (λ w. rest_of_surface w c.push.new.self c.new.result rest) c.requires.none
          ∙ begun c.new.result (c.args.self.now.part.nest + 1) le c.new.ensures.nest c.new.ensures.left
          c.push.new.self rest
          ∙ ap (λ fs. in_frames fs (surface_in (64 - (c.args.self.now.part.nest + 1)) rest)) c.in_ok-push.ensures.ok
          ∙ sym (deeper c.args.self.now.frames c.args.frame (surface_in (64 - (c.args.self.now.part.nest + 1)) rest)),
      ap (λ w. rest_of_surface w c.push.new.self c.new.result []) c.requires.none
          ∙ none_read c.new.result (waits_open c.new.result c.new.ensures.waits) c.push.new.self,
      record { none = c.requires.none; waits = c.new.ensures.waits },
    )
