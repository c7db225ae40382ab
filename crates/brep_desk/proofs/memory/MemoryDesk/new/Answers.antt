use Rattle.std.proofs.Common.{List, length, refl, ap}
use Rattle.brep_desk.specs.declared.outputs.Output.{Output}
use Rattle.brep_desk.specs.declared.channels.Channel.{Channel}
use Rattle.brep_desk.specs.Kept.{written_in, ended_in, state_in}
use Rattle.brep_desk.proofs.Files.{held_in-file, held_in-none}
use Rattle.brep_desk.proofs.memory.MemoryDesk.new.Goals as goal

pub returns : goal.returns
returns c = record {
  held = refl;
  each_held = λ distinct i file is. held_in-file _ distinct i file is;
  no_other = λ name none. held_in-none _ name none;
  written = λ name. ap (λ (os : List Output). written_in os name) c.new.ensures.items;
  ended = λ name. ap (λ (os : List Output). ended_in os name) c.new.ensures.items;
  opened = λ k. ap (λ (cs : List Channel). state_in cs k) c.new-2.ensures.items;
  strays = refl;
  writing_calls = refl;
  channels = ap length c.new-2.ensures.items;
  calls = refl;
  faults = refl;
  short = refl;
  failing = refl;
  piece = refl;
}
