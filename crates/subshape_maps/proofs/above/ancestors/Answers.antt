-- The rows stand for the high shapes above each low one.
use Rattle.std.proofs.Common.{◌∙◌, sym, subst}
use Rattle.std.specs.Prelude.{List, Some}
use Rattle.lists.specs.Distinct.{IsDistinct}
use Rattle.lists.proofs.Distinct.{IsDistinct-filter}
use Rattle.lists.proofs.Errors.{IfErr-on}
use Rattle.subshape_maps.specs.declared.shape.ShapeAt.{ShapeAt}
use Rattle.subshape_maps.specs.Numbered.{is_asked_at, occurrences_by, root_at, IsMap}
use Rattle.subshape_maps.specs.Above.{counted, rows_of, pairs_by, IsDueAncestors}
use Rattle.subshape_maps.proofs.MetLemmas.{ShapesAreTold}
use Rattle.subshape_maps.proofs.NumberLemmas.{shapes-told, places-stay, still-held}
use Rattle.subshape_maps.proofs.ListLemmas.{map-is}
use Rattle.subshape_maps.proofs.AboveLemmas.{kept-held, due-above, pairs-are, ancestors-are}
use Rattle.subshape_maps.proofs.above.ancestors.Goals as goal

pub all_above-requires-clause-lows : goal.all_above-requires-clause-lows
all_above-requires-clause-lows c =
    kept-held c.all_shapes.new.words c.args.pool.now (is_asked_at c.args.pool.now (Some c.args.low)) c.in_ok-seen.seen.keys c.in_ok-lows.lows c.in_ok-seen.ensures.met.held c.in_ok-lows.ensures

pub all_above-requires-clause-highs : goal.all_above-requires-clause-highs
all_above-requires-clause-highs c =
    kept-held c.all_shapes.new.words c.args.pool.now (is_asked_at c.args.pool.now (Some c.args.high)) c.in_ok-seen.seen.keys c.in_ok-highs.highs c.in_ok-seen.ensures.met.held c.in_ok-highs.ensures

pub all_above-requires-clause-once : goal.all_above-requires-clause-once
all_above-requires-clause-once c =
    subst (λ (l : List ShapeAt). IsDistinct l) (sym c.in_ok-lows.ensures) (IsDistinct-filter (is_asked_at c.args.pool.now (Some c.args.low)) c.in_ok-seen.seen.keys c.in_ok-seen.ensures.once)

pub all_above-requires-clause-places : goal.all_above-requires-clause-places
all_above-requires-clause-places c = places-stay c.args.words.now c.all_shapes.new.words c.in_ok-seen.ensures.grows c.args.pool.now c.requires.places

pub returns-in_err-rows-clause-refused : goal.returns-in_err-rows-clause-refused
returns-in_err-rows-clause-refused c =
    let told : ShapesAreTold = shapes-told c.equal_trees_tell.ensures c.test_tells.ensures in
    let old = c.args.words.now in
    let mid = c.all_shapes.new.words in
    let rows = c.args.pool.now in
    let lows : IsMap mid rows c.args.root (Some c.args.low) c.in_ok-lows.lows =
    map-is rows c.laws.ensures told mid old c.in_ok-seen.ensures.grows c.requires.places c.args.root c.requires.root c.requires.place (Some c.args.low) c.in_ok-seen.seen.keys c.in_ok-lows.lows c.in_ok-seen.ensures.met c.in_ok-lows.ensures in
    let highs : IsMap mid rows c.args.root (Some c.args.high) c.in_ok-highs.highs =
    map-is rows c.laws.ensures told mid old c.in_ok-seen.ensures.grows c.requires.places c.args.root c.requires.root c.requires.place (Some c.args.high) c.in_ok-seen.seen.keys c.in_ok-highs.highs c.in_ok-seen.ensures.met c.in_ok-highs.ensures in
    IfErr-on c.from_residual-in_err-rows.result c.in_err-rows.field-0.0 (IsDueAncestors old rows c.args.root c.args.low c.args.high)
    c.from_residual-in_err-rows.ensures.1
    (λ kind kinds. due-above (occurrences_by old rows (root_at c.args.root)) (counted (rows_of mid rows c.in_ok-lows.lows c.in_ok-highs.highs)) (pairs_by old rows c.args.root kind c.args.low c.args.high) c.in_err-rows.field-0.0
    c.in_ok-seen.ensures.met.within
    (pairs-are rows c.laws.ensures mid mid (λ i w e. e) (places-stay old mid c.in_ok-seen.ensures.grows rows c.requires.places) c.args.root c.args.low c.args.high c.in_ok-lows.lows c.in_ok-highs.highs lows highs
    old c.in_ok-seen.ensures.grows c.requires.places (c.requires.root, c.requires.place) kind kinds)
    c.in_err-rows.ensures.refused)

pub returns-in_err-rows-clause-grows : goal.returns-in_err-rows-clause-grows
returns-in_err-rows-clause-grows c = λ i w e. c.in_err-rows.ensures.grows i w (c.in_ok-seen.ensures.grows i w e)

pub returns-clause-grows : goal.returns-clause-grows
returns-clause-grows c = λ i w e. c.in_ok-rows.ensures.grows i w (c.in_ok-seen.ensures.grows i w e)

pub returns-clause-above : goal.returns-clause-above
returns-clause-above c =
    let told : ShapesAreTold = shapes-told c.equal_trees_tell.ensures c.test_tells.ensures in
    let old = c.args.words.now in
    let mid = c.all_shapes.new.words in
    let rows = c.args.pool.now in
    let lows : IsMap mid rows c.args.root (Some c.args.low) c.in_ok-lows.lows =
    map-is rows c.laws.ensures told mid old c.in_ok-seen.ensures.grows c.requires.places c.args.root c.requires.root c.requires.place (Some c.args.low) c.in_ok-seen.seen.keys c.in_ok-lows.lows c.in_ok-seen.ensures.met c.in_ok-lows.ensures in
    let highs : IsMap mid rows c.args.root (Some c.args.high) c.in_ok-highs.highs =
    map-is rows c.laws.ensures told mid old c.in_ok-seen.ensures.grows c.requires.places c.args.root c.requires.root c.requires.place (Some c.args.high) c.in_ok-seen.seen.keys c.in_ok-highs.highs c.in_ok-seen.ensures.met c.in_ok-highs.ensures in
    ancestors-are rows c.laws.ensures mid c.all_above.new.words c.in_ok-rows.ensures.grows (places-stay old mid c.in_ok-seen.ensures.grows rows c.requires.places) c.args.root c.args.low c.args.high
    c.in_ok-lows.lows c.in_ok-highs.highs lows highs c.from_vec.result (c.requires.root, still-held old mid c.in_ok-seen.ensures.grows c.args.root.place.0 c.requires.place) (c.from_vec.ensures ∙ c.in_ok-rows.ensures.rows)
