-- What is left at the beginning is the walk.
use Rattle.std.proofs.Common.{subst, ◌≡◌}
use Rattle.std.specs.Prelude.{ℕ, List, Option, None, OnOk, IfErr}
use Rattle.shape_listing.specs.declared.fault.ListingFault.{ListingFault}
use Rattle.shape_listing.specs.Causes.{IsDue}
use Rattle.shape_listing.proofs.WalkSteps.{due-begin, lines-begin}
use Rattle.shape_listing.proofs.walk.push_walk.Goals as goal

pub push_next-requires : goal.push_next-requires
push_next-requires g c = record {
  rows_are = c.in_ok-explorer.ensures.of.rows_are;
  unlimited = c.in_ok-explorer.ensures.limit;
}

pub returns-clause-text : goal.returns-clause-text
returns-clause-text g c kind are =
    subst (λ (l : List ℕ). OnOk c.push_next.result (g.B.TakesBytes.gives c.args.text.now l c.push_next.new.text))
    (lines-begin c.args.words.now c.args.pool.now c.args.root c.args.asked _ c.in_ok-explorer.ensures.of
    c.in_ok-explorer.ensures.left kind are c.args.count c.walk_is_entered.ensures)
    (c.push_next.ensures.text kind are)

pub returns-clause-within : goal.returns-clause-within
returns-clause-within g c kind are =
    subst (λ (d : Option ListingFault). OnOk c.push_next.result (d ≡ None))
    (due-begin c.args.words.now c.args.pool.now c.args.root c.args.asked _ c.in_ok-explorer.ensures.of
    c.in_ok-explorer.ensures.left kind are c.args.count)
    (c.push_next.ensures.within kind are)

pub returns-clause-refused : goal.returns-clause-refused
returns-clause-refused g c kind are =
    subst (λ (d : Option ListingFault). IfErr c.push_next.result (IsDue d))
    (due-begin c.args.words.now c.args.pool.now c.args.root c.args.asked _ c.in_ok-explorer.ensures.of
    c.in_ok-explorer.ensures.left kind are c.args.count)
    (c.push_next.ensures.refused kind are)
