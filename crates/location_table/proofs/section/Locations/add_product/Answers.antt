-- The section with one more product.
use Rattle.std.proofs.Common.{◌≡◌, ◌<◌, length, sym, subst}
use Rattle.location_table.specs.Held.{most_entries}
use Rattle.location_table.specs.Words.{word_of_factors, words_of}
use Rattle.location_table.proofs.Places.{with_product}
use Rattle.location_table.proofs.section.Locations.add_product.Goals as goal

pub invariant_of-self-2 : goal.invariant_of-self-2
invariant_of-self-2 c =
    let room = subst (λ es. length es < most_entries) (sym c.self.view_is) c.requires.room in
    let word = subst (λ es. c.args.word ≡ word_of_factors (words_of es) c.args.factors)
    (sym c.self.view_is) c.requires.word in
    rw (c.in_ok-push.ensures.entries, c.in_ok-push.ensures.words)
    (with_product c.self.inside.identity c.self.inside.held.entries.items c.self.inside.held.words.items
    c.self.inside.datums.items c.self.invariant room c.args.factors c.args.word word)
