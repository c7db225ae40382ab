-- The table after a word is entered.
use Rattle.std.proofs.Common.{◌≡◌, ◌∙◌, sym, ap, subst, Some, slice_get, true≢false}
use Rattle.std.specs.List.{list_any}
use Rattle.location_words.specs.Pairs.{pairs_eq, IsHeldWord}
use Rattle.location_words.specs.Equal.{pairs_decide}
use Rattle.location_words.proofs.TableLemmas.{Table, entered-table, entered-kept, same-number, found-contained}
use Rattle.location_words.proofs.table.Words.intern.Goals as goal

pub returns-in_err-index-clause-known : goal.returns-in_err-index-clause-known
returns-in_err-index-clause-known c =
    λ k.
    absurd
    (true≢false (sym (found-contained c.args.self.now c.args.w k) ∙
    ap (λ (l : Table). list_any (pairs_eq c.args.w) l) (sym c.self.view_is) ∙ c.in_err-index.ensures.absent))

pub invariant_of-self-2 : goal.invariant_of-self-2
invariant_of-self-2 c =
    entered-table c.self.inside.words.keys c.insert_full.new.self.keys c.args.w c.in_ok-index.ensures.keys
    c.self.invariant (subst IsHeldWord c.w.view_is c.w.invariant) c.insert_full.ensures.unique

pub returns-clause-table : goal.returns-clause-table
returns-clause-table c = invariant_of-self-2 c

pub returns-clause-held : goal.returns-clause-held
returns-clause-held c =
    let s = c.in_ok-index.ensures.stored in
    s.1 ∙ ap Some (sym ((pairs_decide c.args.w s.0).0 s.2))

pub returns-clause-same : goal.returns-clause-same
returns-clause-same c =
    same-number c.insert_full.new.self.keys c.args.w c.in_ok-index.index (returns-clause-held c)
    c.insert_full.ensures.unique

pub returns-clause-kept : goal.returns-clause-kept
returns-clause-kept c = λ i v h.
    subst (λ (l : Table). slice_get l i ≡ Some v) (sym c.in_ok-index.ensures.keys)
    (entered-kept c.self.inside.words.keys c.args.w v i (ap (λ (l : Table). slice_get l i) c.self.view_is ∙ h))
