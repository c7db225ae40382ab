-- By whether the kinds differ.
use Rattle.std.proofs.Common.{rules, sym, ◌∙◌, subst}
use Rattle.expansion_laws.specs.Plain.{shown_tree}
use Rattle.expansion_laws.specs.SlowRewriting.{later_words}
use Rattle.expansion_laws.specs.SlowParts.{seen_use, step_by, Fail, Pass}
use Rattle.expansion_laws.proofs.MovingLemmas.{later-differ}
use Rattle.expansion_laws.proofs.moving.onward.Goals as goal

pub returns-in_err-carried-clause-refused : goal.returns-in_err-carried-clause-refused
returns-in_err-carried-clause-refused c =
    let due : Fail (later_words (step_by c.args.rules.now) (shown_tree c.args.source.now) (seen_use c.args.new.now))
    c.in_err-carried.field-0.0 =
    subst (λ ws. Fail ws c.in_err-carried.field-0.0)
    (later-differ (step_by c.args.rules.now) (shown_tree c.args.source.now) (seen_use c.args.new.now)
    (sym c.same_kind-same.ensures ∙ c.if-not-same.true))
    c.in_err-carried.ensures.refused in
    search rules

pub returns-then-not-same-clause-within : goal.returns-then-not-same-clause-within
returns-then-not-same-clause-within c =
    subst Pass
    (later-differ (step_by c.args.rules.now) (shown_tree c.args.source.now) (seen_use c.args.new.now)
    (sym c.same_kind-same.ensures ∙ c.if-not-same.true))
    c.in_ok-carried.ensures.within
