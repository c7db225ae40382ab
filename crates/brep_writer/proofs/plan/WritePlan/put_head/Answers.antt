use Rattle.std.proofs.Common.{◌∙◌, ap, subst, sym}
use Rattle.tshape_data.specs.declared.head.Flags.{Flags}
use Rattle.tshape_data.specs.declared.head.Head.{Head}
use Rattle.byte_sink.proofs.Joining.{as_text}
use Rattle.brep_file.specs.Sound.{sizes_of}
use Rattle.written_heads.specs.Words.{written_head}
use Rattle.brep_writer.specs.Sources.{head_by, IsSoundNodeHead}
use Rattle.brep_writer.proofs.Adding.{within-section}
use Rattle.brep_writer.proofs.Plans.{held, origin-held}
use Rattle.brep_writer.proofs.Texts.{data-added, data-within, made-text}
use Rattle.brep_writer.proofs.plan.WritePlan.put_head.Goals as goal

pub head-requires-clause-loaded : goal.head-requires-clause-loaded
head-requires-clause-loaded g c = c.requires.plan.source

pub head-requires-clause-id : goal.head-requires-clause-id
head-requires-clause-id g c = held c.args.self.now c.requires.plan c.args.id.0 c.requires.written

pub head-requires-clause-origin : goal.head-requires-clause-origin
head-requires-clause-origin g c = origin-held c.args.self.now c.requires.plan c.args.id.0 c.requires.written

pub push_head-requires-clause-sound : goal.push_head-requires-clause-sound
push_head-requires-clause-sound g c = record {
  sizes = sizes_of c.args.self.now.source.file.now;
  own = c.args.self.now.source.file.now.version;
  sound = subst (IsSoundNodeHead c.args.self.now.source.file.now) c.in-AsLoaded.is c.head.ensures.sound;
  output = c.requires.plan.version;
}

pub push_head-requires-clause-numbering : goal.push_head-requires-clause-numbering
push_head-requires-clause-numbering g c = c.requires.plan.located.numbering

pub push_head-requires-clause-within : goal.push_head-requires-clause-within
push_head-requires-clause-within g c =
    let p = c.args.self.now in
    data-within p c.requires.plan c.locations_stay.ensures c.in-AsLoaded.head.now
    (within-section c.renumbering_keeps_parts.ensures p.source p.locations c.in-AsLoaded.head.now
    p.source.file.now.version c.requires.plan.located.over
    (subst (IsSoundNodeHead p.source.file.now) c.in-AsLoaded.is c.head.ensures.sound))

pub push_head-requires-clause-added : goal.push_head-requires-clause-added
push_head-requires-clause-added g c =
    data-added c.args.self.now c.requires.plan c.locations_stay.ensures c.args.id.0 c.requires.written
    c.in-AsLoaded.head.now (ap (λ (h : Head). h.payload) (sym (ap head_by c.in-AsLoaded.is) ∙ c.head.ensures.head))

pub push_head_as-requires-clause-sound : goal.push_head_as-requires-clause-sound
push_head_as-requires-clause-sound g c = record {
  sizes = sizes_of c.args.self.now.source.file.now;
  own = c.args.self.now.source.file.now.version;
  sound = subst (IsSoundNodeHead c.args.self.now.source.file.now) c.in-Rebuilt.is c.head.ensures.sound;
  output = c.requires.plan.version;
}

pub push_head_as-requires-clause-numbering : goal.push_head_as-requires-clause-numbering
push_head_as-requires-clause-numbering g c = c.requires.plan.located.numbering

pub push_head_as-requires-clause-within : goal.push_head_as-requires-clause-within
push_head_as-requires-clause-within g c =
    let p = c.args.self.now in
    data-within p c.requires.plan c.locations_stay.ensures c.in-Rebuilt.head.now
    (within-section c.renumbering_keeps_parts.ensures p.source p.locations c.in-Rebuilt.head.now
    p.source.file.now.version c.requires.plan.located.over
    (subst (IsSoundNodeHead p.source.file.now) c.in-Rebuilt.is c.head.ensures.sound))

pub push_head_as-requires-clause-added : goal.push_head_as-requires-clause-added
push_head_as-requires-clause-added g c =
    data-added c.args.self.now c.requires.plan c.locations_stay.ensures c.args.id.0 c.requires.written
    c.in-Rebuilt.head.now (ap (λ (h : Head). h.payload) (sym (ap head_by c.in-Rebuilt.is) ∙ c.head.ensures.head))

pub returns-in-Made : goal.returns-in-Made
returns-in-Made g c =
    let p = c.args.self.now in
    as_text g.met.B.TakesBytes.joins _ _ _ _
    c.push.ensures
    (made-text p.locations p.version
    ∙ ap (written_head p.locations p.version) (sym (ap head_by c.in-Made.is) ∙ c.head.ensures.head))

pub returns-in-AsLoaded : goal.returns-in-AsLoaded
returns-in-AsLoaded g c =
    let p = c.args.self.now in
    as_text g.met.B.TakesBytes.joins _ _ _ _
    c.push_head.ensures
    (ap (written_head p.locations p.version) (sym (ap head_by c.in-AsLoaded.is) ∙ c.head.ensures.head))

pub returns-in-Rebuilt : goal.returns-in-Rebuilt
returns-in-Rebuilt g c =
    let p = c.args.self.now in
    as_text g.met.B.TakesBytes.joins _ _ _ _
    c.push_head_as.ensures
    (ap (λ (f : Flags). written_head p.locations p.version (record c.in-Rebuilt.head.now { flags = f }))
    c.rebuilt-flags.ensures
    ∙ ap (written_head p.locations p.version) (sym (ap head_by c.in-Rebuilt.is) ∙ c.head.ensures.head))
