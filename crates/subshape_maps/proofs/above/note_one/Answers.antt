-- The low shape's place is the only one with its numbers.
use Rattle.std.proofs.Common.{◌≡◌, ◌∙◌, ◌<◌, sym, ap, subst, arith, refl, true≢false, length, slice_set}
use Rattle.std.specs.Prelude.{List, Contains, false, Some, slice_get}
use Rattle.std.specs.List.{list_any}
use Rattle.std.proofs.lemmas.List.{length-map}
use Rattle.std.proofs.lemmas.Option.{slice_get_read}
use Rattle.lists.specs.Distinct.{IsDistinct}
use Rattle.lists.proofs.Tests.{list_any-contains}
use Rattle.subshape_maps.specs.declared.shape.ShapeAt.{ShapeAt}
use Rattle.subshape_maps.specs.declared.above.AboveOne.{AboveOne}
use Rattle.subshape_maps.specs.Numbered.{at_eq}
use Rattle.subshape_maps.specs.Above.{a_row, counted}
use Rattle.subshape_maps.proofs.AboveLemmas.{none-noted, noted-at, counted-at, place-is, same-at}
use Rattle.subshape_maps.proofs.above.note_one.Goals as goal

pub returns-in_default-clause-rows : goal.returns-in_default-clause-rows
returns-in_default-clause-rows c =
    let f : false ≡ list_any (at_eq c.args.at) c.args.index.now.keys = c.in_default.ensures.found in
    sym (none-noted c.args.at c.args.high c.args.rows.now.items (λ m.
    let k : Contains c.args.index.now.keys c.args.at = subst (λ l. Contains l c.args.at) c.requires.lows.lows_are m in
    true≢false (sym (list_any-contains (at_eq c.args.at) c.args.at c.args.index.now.keys k (same-at c.args.at c.args.at refl)) ∙ sym f)))

pub returns-then-pairs-gt-MOST_ABOVE-clause-refused : goal.returns-then-pairs-gt-MOST_ABOVE-clause-refused
returns-then-pairs-gt-MOST_ABOVE-clause-refused c =
    let rows : List AboveOne = c.args.rows.now.items in
    let r : AboveOne = c.index_mut.result.now in
    let long = length-map rows (λ (q : AboveOne). q.low) in
    let same = ap length c.requires.lows.lows_are in
    let within : c.in-Some.place < length rows = omega (arith, long, same, c.in-Some.ensures.within) in
    let at : slice_get rows c.in-Some.place ≡ Some r = slice_get_read rows (length rows) c.in-Some.place r refl within c.index_mut.ensures.value in
    let is = place-is rows c.args.index.now.keys c.args.at c.in-Some.place r c.requires.lows.lows_are (sym c.in-Some.ensures.index) at in
    let once = subst (λ l. IsDistinct l) (sym c.requires.lows.lows_are) c.requires.lows.once in
    let e = ap counted (noted-at c.args.at c.args.high rows c.in-Some.place r once at is) in
    let n = counted-at c.args.high rows c.in-Some.place r at in
    let past = c.if-pairs-gt-MOST_ABOVE.true in
    let before = c.requires.counted in
    (omega (arith, e, n, past, before), refl)

pub returns-clause-rows : goal.returns-clause-rows
returns-clause-rows c =
    let rows : List AboveOne = c.args.rows.now.items in
    let r : AboveOne = c.index_mut.result.now in
    let long = length-map rows (λ (q : AboveOne). q.low) in
    let same = ap length c.requires.lows.lows_are in
    let within : c.in-Some.place < length rows = omega (arith, long, same, c.in-Some.ensures.within) in
    let at : slice_get rows c.in-Some.place ≡ Some r = slice_get_read rows (length rows) c.in-Some.place r refl within c.index_mut.ensures.value in
    let is = place-is rows c.args.index.now.keys c.args.at c.in-Some.place r c.requires.lows.lows_are (sym c.in-Some.ensures.index) at in
    let once = subst (λ l. IsDistinct l) (sym c.requires.lows.lows_are) c.requires.lows.once in
    ap (λ (hs : List ShapeAt). slice_set rows c.in-Some.place (a_row r.low hs)) c.in-Ok.ensures.ok ∙
    noted-at c.args.at c.args.high rows c.in-Some.place r once at is
