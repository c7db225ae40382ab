use Rattle.std.proofs.Common.{◌∙◌, ap, subst, sym}
use Rattle.std.specs.Prelude.{OnOk}
use Rattle.tshape_data.specs.declared.head.Head.{Head}
use Rattle.written_heads.specs.Named.{AddsLocationsOf}
use Rattle.brep_writer.specs.Sources.{head_by, IsSoundNodeHead}
use Rattle.brep_writer.proofs.Adding.{within-section}
use Rattle.brep_writer.proofs.locations.add_data.Goals as goal

pub add_head_locations-requires-clause-named : goal.add_head_locations-requires-clause-named
add_head_locations-requires-clause-named c = (
  c.args.source.now.file.now.version,
  within-section c.renumbering_keeps_parts.ensures c.args.source.now c.args.locations.now c.in-AsLoaded.head.now
      c.args.source.now.file.now.version c.requires.over
      (subst (IsSoundNodeHead c.args.source.now.file.now) c.in-AsLoaded.is c.head.ensures.sound),
)

pub add_head_locations-requires-in-Rebuilt-clause-named : goal.add_head_locations-requires-in-Rebuilt-clause-named
add_head_locations-requires-in-Rebuilt-clause-named c = (
  c.args.source.now.file.now.version,
  within-section c.renumbering_keeps_parts.ensures c.args.source.now c.args.locations.now c.in-Rebuilt.head.now
      c.args.source.now.file.now.version c.requires.over
      (subst (IsSoundNodeHead c.args.source.now.file.now) c.in-Rebuilt.is c.head.ensures.sound),
)

pub returns-in-Made : goal.returns-in-Made
returns-in-Made c =
    subst (λ (h : Head). AddsLocationsOf h.payload c.args.locations.now c.args.locations.now)
    (sym (ap head_by c.in-Made.is) ∙ c.head.ensures.head)
    (λ version. c.added_parts_join.ensures.none c.args.locations.now c.requires.numbering)

pub returns-in-AsLoaded : goal.returns-in-AsLoaded
returns-in-AsLoaded c =
    subst (λ (h : Head). OnOk c.add_head_locations.result
    (AddsLocationsOf h.payload c.args.locations.now c.add_head_locations.new.locations))
    (sym (ap head_by c.in-AsLoaded.is) ∙ c.head.ensures.head) c.add_head_locations.ensures

pub returns-in-Rebuilt : goal.returns-in-Rebuilt
returns-in-Rebuilt c =
    subst (λ (h : Head). OnOk c.add_head_locations-in-Rebuilt.result
    (AddsLocationsOf h.payload c.args.locations.now c.add_head_locations-in-Rebuilt.new.locations))
    (sym (ap head_by c.in-Rebuilt.is) ∙ c.head.ensures.head) c.add_head_locations-in-Rebuilt.ensures
