use Rattle.std.proofs.Common.{take}
use Rattle.written_locations.specs.Added.{AddsWords}
use Rattle.brep_writer.specs.Sources.{words_in}
use Rattle.brep_writer.proofs.locations.add_uses.Given as goal

abbrev pub invariant-uses : goal.invariant-uses
invariant-uses l = AddsWords (take l.at (words_in l.source l.id.0)) l.initial.locations l.locations
