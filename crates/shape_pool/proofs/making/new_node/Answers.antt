-- The node made has the fields that it was made of.
use Rattle.std.proofs.Common.{refl, sym, subst}
use Rattle.shape_pool.specs.Held.{IsNext}
use Rattle.shape_pool.proofs.MakingLaws.{node-next}
use Rattle.shape_pool.proofs.making.new_node.Goals as goal

pub returns : goal.returns
returns c = subst (IsNext c.args.held.now c.args.kind c.args.origin c.args.uses.now) (sym c.in_ok-new.ensures.ok)
    (node-next c.args.held.now c.args.kind c.args.origin c.args.uses.now
    (record {
      id = record { 0 = c.len.result };
      kind = c.args.kind;
      origin = c.args.origin;
      uses = c.in_ok-shared_uses.field-0;
    })
    c.len.ensures refl refl c.in_ok-shared_uses.ensures)
