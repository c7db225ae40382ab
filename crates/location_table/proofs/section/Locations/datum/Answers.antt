-- The place of a datum holds it.
use Rattle.std.proofs.Common.{◌≡◌, ℕ, List, ◌-◌, ◌≤◌, length, Some, sym, ap, subst, ◌∙◌, slice_index_or, ◌<◌, arith}
use Rattle.std.specs.Prelude.{slice_get}
use Rattle.std.proofs.lemmas.Option.{slice_get_within}
use Rattle.location_words.specs.declared.pair.Pair.{Pair}
use Rattle.location_table.specs.declared.entry.LocationEntry.{LocationEntry}
use Rattle.location_table.specs.declared.entry.LocationEntry.TheVariants.{Datum}
use Rattle.location_table.specs.Held.{IsSection}
use Rattle.location_table.specs.Words.{datums_of}
use Rattle.location_table.proofs.Places.{datum_place, datum_there, no_product, one_datum}
use Rattle.location_table.proofs.section.Locations.datum.Goals as goal

found : (identity : List Pair) (entries shown : List LocationEntry) (words : List (List Pair)) (places : List ℕ)
    → entries ≡ shown → IsSection identity entries words places → (d p : ℕ) → (1 ≤ d) × (d ≤ length (datums_of shown))
    → p ≡ slice_index_or places (d - 1) p → (texts : List (List ℕ)) × (slice_get (datums_of shown) (d - 1) ≡ Some texts)
    × (slice_get entries p ≡ Some (Datum texts))
found identity entries shown words places e is d p within at =
    let place = datum_place identity entries words places is d p within.0
    (subst (λ es. d ≤ length (datums_of es)) (sym e) within.1) at in
    (place.0, subst (λ es. slice_get (datums_of es) (d - 1) ≡ Some place.0) e place.1, place.2)

pub index-requires-2 : goal.index-requires-2
index-requires-2 c =
    let at = found c.self.inside.identity c.self.inside.held.entries.items c.args.self.now
    c.self.inside.held.words.items c.self.inside.datums.items c.self.view_is c.self.invariant c.args.d
    c.index.result.now c.requires c.index.ensures in
    let lt : c.index.result.now < length c.self.inside.held.entries.items =
    slice_get_within c.self.inside.held.entries.items c.index.result.now _ at.2 in
    omega (arith, lt)

pub unreachable-requires : goal.unreachable-requires
unreachable-requires c =
    let at = found c.self.inside.identity c.self.inside.held.entries.items c.args.self.now
    c.self.inside.held.words.items c.self.inside.datums.items c.self.view_is c.self.invariant c.args.d
    c.index.result.now c.requires c.index.ensures in
    no_product c.index-2.result.now at.0 c.in-Product.field-0
    (datum_there c.self.inside.held.entries.items c.index.result.now c.index-2.result.now at.0 c.index-2.ensures
    at.2) c.in-Product.is

pub returns : goal.returns
returns c =
    let at = found c.self.inside.identity c.self.inside.held.entries.items c.args.self.now
    c.self.inside.held.words.items c.self.inside.datums.items c.self.view_is c.self.invariant c.args.d
    c.index.result.now c.requires c.index.ensures in
    at.1 ∙ ap Some (one_datum c.index-2.result.now at.0 c.in-Datum.texts
    (datum_there c.self.inside.held.entries.items c.index.result.now c.index-2.result.now at.0 c.index-2.ensures
    at.2) c.in-Datum.is)
