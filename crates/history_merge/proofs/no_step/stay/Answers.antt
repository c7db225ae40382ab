-- The pair is added where histories speak of the kind.
use Rattle.std.proofs.Common.{◌∙◌, refl, sym, subst}
use Rattle.step_history.specs.History.{IsSupported}
use Rattle.history_merge.specs.Merged.{Stays}
use Rattle.lists.proofs.Gathering.{adds-nothing, adds-one, refused}
use Rattle.history_merge.proofs.GatherLaws.{id_of, named_by}
use Rattle.history_merge.proofs.no_step.stay.Goals as goal

pub returns-then-not-is_spoken_of : goal.returns-then-not-is_spoken_of
returns-then-not-is_spoken_of c =
    adds-nothing (Stays c.args.pool.now c.args.id) c.args.pairs.now.items
    (λ y p. refused c.is_spoken_of.ensures c.if-not-is_spoken_of.true (subst IsSupported (sym c.kind.ensures) p.2))

pub returns : goal.returns
returns c =
    let h = subst IsSupported c.kind.ensures (c.is_spoken_of.ensures.0 c.if-not-is_spoken_of.false) in
    adds-one (Stays c.args.pool.now c.args.id) c.args.pairs.now.items c.push.new.self.items (id_of c.args.id, id_of c.args.id) c.in_ok-push.ensures.items
    (refl, refl, h)
    (λ y q. let a = named_by (id_of c.args.id) y.0 q.0 in let b = a ∙ q.1 in (λ i. (a i, b i)))
