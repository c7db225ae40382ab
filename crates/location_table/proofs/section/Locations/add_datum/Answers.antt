-- The section with one more datum.
use Rattle.std.proofs.Common.{◌<◌, ◌+◌, length, sym, subst, ◌∙◌, ap}
use Rattle.location_table.specs.Held.{most_entries}
use Rattle.location_table.specs.Words.{datum_word, datums_of}
use Rattle.location_table.proofs.Places.{with_datum}
use Rattle.location_table.proofs.section.Locations.add_datum.Goals as goal

pub invariant_of-self-in-Ok : goal.invariant_of-self-in-Ok
invariant_of-self-in-Ok c =
    let room = subst (λ es. length es < most_entries) (sym c.self.view_is) c.requires in
    let number = ap (λ es. length (datums_of es) + 1) (sym c.self.view_is) in
    let place = c.len-place.ensures.len ∙ ap length (sym c.self.view_is) in
    rw (c.in-Ok.ensures.entries, c.in-Ok.ensures.words, c.in_ok-append.ensures.ok)
    (with_datum c.self.inside.identity c.self.inside.held.entries.items c.self.inside.held.words.items
    c.self.inside.datums.items c.self.invariant room c.args.texts c.in_ok-word.word
    (length (datums_of c.args.self.now) + 1) _ number place
    (c.in_ok-word.ensures ∙ ap (λ n. datum_word (n + 1)) c.datums.ensures))
