-- A number is found where it is one of those met.
use Rattle.std.proofs.Common.{◌∙◌, ap, sym, nat_eq}
use Rattle.std.specs.Prelude.{ℕ, List}
use Rattle.std.specs.List.{list_any}
use Rattle.step_history.proofs.MetLaws.{found-met, met-found}
use Rattle.step_history.proofs.met.Met.has.Goals as goal

pub returns : goal.returns
returns c =
    let same = c.contains.ensures ∙ ap (λ (l : List ℕ). list_any (nat_eq c.args.id) l) c.self.view_is in
    ((λ t. found-met c.args.self.now c.args.id (sym same ∙ t)), (λ m. same ∙ met-found c.args.self.now c.args.id m))
