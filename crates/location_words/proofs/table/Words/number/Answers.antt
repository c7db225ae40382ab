-- The place at which a word is found.
use Rattle.std.proofs.Common.{◌≡◌, ◌∙◌, sym, ap, subst, Some, slice_get, true≢false}
use Rattle.std.specs.List.{list_any}
use Rattle.location_words.specs.Pairs.{pairs_eq}
use Rattle.location_words.proofs.TableLemmas.{Table, found-at, position-at}
use Rattle.location_words.proofs.table.Words.number.Goals as goal

pub returns-in_err-index-clause-none : goal.returns-in_err-index-clause-none
returns-in_err-index-clause-none c = rw c.from_residual.ensures
    (λ i h.
    true≢false (sym (found-at c.args.self.now c.args.w.now i h) ∙
    ap (λ (l : Table). list_any (pairs_eq c.args.w.now) l) (sym c.self.view_is) ∙ sym c.in_err-index.ensures.found))

pub returns-clause-found : goal.returns-clause-found
returns-clause-found c =
    subst (λ (l : Table). slice_get l c.in_ok-index.index ≡ Some c.args.w.now) c.self.view_is
    (position-at c.self.inside.words.keys c.args.w.now c.in_ok-index.index (sym c.in_ok-index.ensures.index))
