-- One level more than the budget has all that is needed.
use Rattle.std.proofs.Common.{◌<◌, sym, ◌∙◌, arith, map}
use Rattle.std.specs.Prelude.{suc}
use Rattle.orientation.specs.declared.turn.Turn.TheVariants.{Forward}
use Rattle.expansion_laws.specs.Rewriting.{results_within}
use Rattle.expansion_laws.specs.Plain.{shown_use}
use Rattle.expansion_laws.specs.SlowRewriting.{slow_step}
use Rattle.expansion_laws.proofs.rewriting.rewrite_slow.Goals as goal

pub returns-in-Ok-new_root-clause-ok : goal.returns-in-Ok-new_root-clause-ok
returns-in-Ok-new_root-clause-ok c =
    let more : c.args.budget < suc c.args.budget = omega arith in
    let found = c.in_ok-rewritten.ensures.ok.results (suc c.args.budget) more in (
      map shown_use c.in_ok-rewritten.rewritten.results.items,
      (
        suc c.args.budget,
        (λ i. results_within (slow_step c.args.requests.now c.args.kinds.now c.args.rule) (suc c.args.budget)
            (record { turn = Forward; word = sym c.identity.ensures i }) (sym c.in-Ok.ensures i)) ∙ found,
      ),
      c.in-Ok-new_root.ensures,
    )
