-- One use more is of the kind.
use Rattle.std.proofs.Common.{rules, ◌≡◌, ◌∙◌, sym, subst, arith, All, List, ℕ, refl}
use Rattle.std.proofs.lemmas.List.{take_all}
use denote.Enum.Bare.{same_true}
use Rattle.orientation.specs.contracts.kind.Kind.{the_type}
use Rattle.shape_pool.specs.Rows.{kind_at}
use Rattle.shape_pool.specs.Laws.{ids_used}
use Rattle.lists.proofs.Entries.{All-more}
use Rattle.requests.proofs.FitLaws.{not-false}
use Rattle.requests.proofs.fit.are_of.Goals as goal

pub loop-at-preserved : goal.loop-at-preserved
loop-at-preserved c =
    All-more (λ j. kind_at c.args.pool.now j ≡ c.args.kind) (ids_used c.args.pool.now c.args.id.0) c.loop-at.at
    c.used_at.result.0 c.loop-at.invariant
    c.used_at.ensures.id
    (sym c.kind.ensures ∙ same_true the_type (search rules) _ _ (not-false _ (sym c.ne.ensures ∙ c.if-ne.false)))

pub returns : goal.returns
returns c =
    let ids : List ℕ = ids_used c.args.pool.now c.args.id.0 in
    let all : All (λ j. kind_at c.args.pool.now j ≡ c.args.kind) ids =
    subst (λ l. All (λ j. kind_at c.args.pool.now j ≡ c.args.kind) l)
    (take_all c.loop-at.at ids (omega (arith, c.use_count-at-end.ensures, c.loop-at-test.false)))
    c.loop-at.invariant in
    (λ t. all, λ h. refl)
