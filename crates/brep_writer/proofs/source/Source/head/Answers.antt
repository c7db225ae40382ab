use Rattle.std.proofs.Common.{◌∙◌, sym}
use Rattle.brep_writer.proofs.Heads.{loaded-is, made-is, number-is, rebuilt-is, record-head}
use Rattle.brep_writer.proofs.source.Source.head.Goals as goal

pub entry-requires : goal.entry-requires
entry-requires c =
    number-is c.args.self.now c.args.id.0 c.origin-origin.result c.origin-origin.ensures c.if-origin-eq0.false
    c.requires.origin

pub is_as_loaded-requires-clause-number : goal.is_as_loaded-requires-clause-number
is_as_loaded-requires-clause-number c =
    number-is c.args.self.now c.args.id.0 c.origin-origin.result c.origin-origin.ensures c.if-origin-eq0.false
    c.requires.origin

pub returns-then-origin-eq0-clause-head : goal.returns-then-origin-eq0-clause-head
returns-then-origin-eq0-clause-head c =
    made-is c.args.self.now c.laws.ensures c.args.id.0 c.requires.id
    (sym c.origin-origin.ensures ∙ c.if-origin-eq0.true)

pub returns-then-is_as_loaded-clause-head : goal.returns-then-is_as_loaded-clause-head
returns-then-is_as_loaded-clause-head c =
    loaded-is c.args.self.now c.laws.ensures c.args.id.0 c.requires.id c.origin-origin.result c.entry.result.now
    c.origin-origin.ensures c.entry.ensures (sym c.is_as_loaded.ensures ∙ c.if-is_as_loaded.true)

pub returns-then-is_as_loaded-clause-sound : goal.returns-then-is_as_loaded-clause-sound
returns-then-is_as_loaded-clause-sound c =
    record-head c.args.self.now c.requires.loaded c.origin-origin.result c.entry.result.now
    (number-is c.args.self.now c.args.id.0 c.origin-origin.result c.origin-origin.ensures c.if-origin-eq0.false
    c.requires.origin)
    c.entry.ensures

pub returns-else-is_as_loaded-clause-head : goal.returns-else-is_as_loaded-clause-head
returns-else-is_as_loaded-clause-head c =
    rebuilt-is c.args.self.now c.laws.ensures c.args.id.0 c.requires.id c.origin-origin.result c.entry.result.now
    c.origin-origin.ensures c.entry.ensures (sym c.is_as_loaded.ensures ∙ c.if-is_as_loaded.false)

pub returns-else-is_as_loaded-clause-sound : goal.returns-else-is_as_loaded-clause-sound
returns-else-is_as_loaded-clause-sound c =
    record-head c.args.self.now c.requires.loaded c.origin-origin.result c.entry.result.now
    (number-is c.args.self.now c.args.id.0 c.origin-origin.result c.origin-origin.ensures c.if-origin-eq0.false
    c.requires.origin)
    c.entry.ensures
