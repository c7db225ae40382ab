use Rattle.brep_writer.proofs.Heads.{loaded-first}
use Rattle.brep_writer.proofs.source.Source.is_as_loaded.Goals as goal

pub returns : goal.returns
returns c =
    loaded-first c.args.self.now c.laws.ensures c.args.id.0 c.requires.id c.equal_trees_tell.ensures c.requires.loaded
    c.args.origin c.in-Some.first.0 c.requires.number c.in-Some.ensures.some
