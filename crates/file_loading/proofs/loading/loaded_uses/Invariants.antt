use Rattle.std.proofs.Common.{take}
use Rattle.file_loading.specs.Loading.{AreLoadedUses}
use Rattle.file_loading.proofs.loading.loaded_uses.Given as goal

abbrev pub invariant-uses : goal.invariant-uses
invariant-uses l = AreLoadedUses l.records l.ids (take l.used-index l.uses) l.loaded.items
