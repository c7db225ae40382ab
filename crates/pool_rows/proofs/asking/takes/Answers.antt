-- One request more that names held nodes.
use Rattle.std.proofs.Common.{sym, subst}
use Rattle.std.proofs.lemmas.List.Elements.{All-push}
use Rattle.requests.specs.Numbered.{Table, AreHeldIn, IsHeldIn}
use Rattle.pool_rows.proofs.asking.takes.Goals as goal

pub returns-in-Ok : goal.returns-in-Ok
returns-in-Ok c =
    subst (λ (t : Table). AreHeldIn c.args.pool.now t.requests) (sym c.in-Ok.ensures.ok)
    (All-push (IsHeldIn c.args.pool.now) c.args.table.now.requests _ c.requires.held c.requires.one)
