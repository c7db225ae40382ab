-- A node that is neither avoided nor sought has one to give where a use's node has.
use Rattle.std.proofs.Common.{◌≡◌, ◌∙◌, ◌&&◌, ◌||◌, not, false, sym, ap}
use Rattle.std.specs.List.{list_any}
use Rattle.shape_pool.specs.Rows.{kind_at, uses_at}
use Rattle.explorer.specs.Walks.{is_avoided, is_sought}
use Rattle.explorer.specs.Levels.{is_marked}
use Rattle.explorer.proofs.MarkLemmas.{has-one}
use Rattle.explorer.proofs.giving.has_one.Goals as goal

pub returns-else-is_sought : goal.returns-else-is_sought
returns-else-is_sought c = λ word kind kinds.
    let a : is_avoided c.args.avoid (kind_at c.args.pool.now c.args.id.0) ≡ false =
    ap (is_avoided c.args.avoid) (sym c.kind-kind.ensures) ∙ sym c.is_avoided.ensures ∙ c.if-is_avoided.false in
    let b : is_sought c.args.find (kind_at c.args.pool.now c.args.id.0) ≡ false =
    ap (is_sought c.args.find) (sym c.kind-kind.ensures) ∙ sym c.is_sought.ensures ∙ c.if-is_sought.false in
    let any = list_any (is_marked c.args.marks.now) (uses_at c.args.pool.now c.args.id.0) in
    c.any_marked.ensures ∙
    sym (has-one c.args.pool.now c.laws.ensures c.args.find c.args.avoid c.args.marks.now c.requires.marks word kind
    kinds c.args.id.0 c.requires.id c.requires.before ∙ (λ j. not (a j) && (b j || any)))
