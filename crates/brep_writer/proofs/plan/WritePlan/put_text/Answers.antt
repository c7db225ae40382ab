use Rattle.byte_sink.proofs.Joining.{as_text}
use Rattle.brep_writer.proofs.Texts.{version-is, whole-text}
use Rattle.brep_writer.proofs.plan.WritePlan.put_text.Goals as goal

pub push_beginning-requires-clause-sound : goal.push_beginning-requires-clause-sound
push_beginning-requires-clause-sound g c = c.requires.source.sound

pub push_beginning-requires-clause-version : goal.push_beginning-requires-clause-version
push_beginning-requires-clause-version g c =
    version-is c.args.self.now.source.file.now c.args.self.now.version c.requires.source.sound c.requires.version

pub push_beginning-requires-clause-numbering : goal.push_beginning-requires-clause-numbering
push_beginning-requires-clause-numbering g c = c.requires.located.numbering

pub push_beginning-requires-clause-section : goal.push_beginning-requires-clause-section
push_beginning-requires-clause-section g c = c.requires.located.over.section

pub put_use-requires-clause-id : goal.put_use-requires-clause-id
put_use-requires-clause-id g c = c.requires.held

pub put_use-requires-clause-place : goal.put_use-requires-clause-place
put_use-requires-clause-place g c = c.requires.place

pub put_use-requires-clause-added : goal.put_use-requires-clause-added
put_use-requires-clause-added g c = c.requires.located.root_added

pub returns : goal.returns
returns g c =
    let joins = g.met.B.TakesBytes.joins in
    as_text joins _ _ _ _
    (joins.joined _ _ _ _ _ c.push_beginning.ensures
    (joins.joined _ _ _ _ _ c.push_heading.ensures
    (joins.joined _ _ _ _ _ c.put_records.ensures c.put_use.ensures)))
    (whole-text c.args.self.now c.requires c.texts_have_parts.ensures c.ids.result.now c.ids.ensures)
