use Rattle.std.proofs.Common.{◌+◌, [], subst, sym, take}
use Rattle.std.specs.Prelude.{List}
use Rattle.shape_pool.specs.declared.node.UseOf.{UseOf}
use Rattle.file_loading.specs.Loading.{AreLoadedUses}
use Rattle.file_loading.proofs.UseLaws.{no_uses, uses_more}
use Rattle.file_loading.proofs.loading.loaded_uses.Goals as goal

pub uses-init : goal.uses-init
uses-init c =
    subst (λ (vs : List UseOf). AreLoadedUses c.args.records c.args.ids.now [] vs) (sym c.new-loaded.ensures.items)
    (no_uses c.args.records c.args.ids.now)

pub uses-preserved : goal.uses-preserved
uses-preserved c =
    subst (λ (vs : List UseOf). AreLoadedUses c.args.records c.args.ids.now
    (take (c.uses.used-index + 1) c.args.uses.now) vs) (sym c.in_ok-push.ensures.items)
    (uses_more c.args.records c.args.ids.now c.args.uses.now c.uses.loaded.items c.uses.used-index _
    c.loaded_use.result c.uses-test.true c.uses.invariant c.loaded_use.ensures)
