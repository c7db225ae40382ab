-- One high shape more.
use Rattle.std.proofs.Common.{rules, ◌≡◌, ◌∙◌, ◌≤◌, ◌+◌, sym, ap, subst, arith}
use Rattle.std.specs.Prelude.{List, take, map}
use Rattle.lists.proofs.Places.{Contains-at}
use Rattle.lists.specs.Distinct.{IsDistinct}
use Rattle.subshape_maps.specs.declared.shape.ShapeAt.{ShapeAt}
use Rattle.subshape_maps.specs.declared.above.AboveOne.{AboveOne}
use Rattle.subshape_maps.specs.Numbered.{IsHeldAt}
use Rattle.subshape_maps.specs.Above.{all_noted, counted, rows_of, IsPastPairs}
use Rattle.subshape_maps.proofs.MetLemmas.{ShapesAreTold}
use Rattle.subshape_maps.proofs.NumberLemmas.{shapes-told, still-held, places-stay}
use Rattle.subshape_maps.proofs.AboveLemmas.{indexed-is, rows-lows, counted-none, counted-taken, high-noted, past-more}
use Rattle.subshape_maps.proofs.above.all_above.Goals as goal

pub loop-i-init : goal.loop-i-init
loop-i-init c = record {
  table = c.len.ensures.table;
  grows = λ i w e. e;
  rows = c.in_ok-rows.ensures;
  counted = counted-none c.args.words.now c.args.pool.now c.args.lows.now ∙ ap counted (sym c.in_ok-rows.ensures);
  few = omega arith;
}

pub all_shapes-requires-clause-held : goal.all_shapes-requires-clause-held
all_shapes-requires-clause-held c =
    let h : IsHeldAt c.args.words.now c.args.pool.now c.shape_at-high.result = c.requires.highs c.shape_at-high.result (Contains-at c.args.highs.now c.loop-i.i c.shape_at-high.result c.shape_at-high.ensures) in
    (h.0, still-held c.args.words.now c.loop-i.words c.loop-i.invariant.grows c.shape_at-high.result.word.0 h.1)

pub all_shapes-requires-clause-places : goal.all_shapes-requires-clause-places
all_shapes-requires-clause-places c = places-stay c.args.words.now c.loop-i.words c.loop-i.invariant.grows c.args.pool.now c.requires.places

pub note_all-requires-clause-lows : goal.note_all-requires-clause-lows
note_all-requires-clause-lows c =
    let keys = c.in_ok-index.ensures ∙ indexed-is c.args.lows.now c.requires.once in
    record {
      lows_are = ap (map (λ (r : AboveOne). r.low)) c.loop-i.invariant.rows ∙ rows-lows c.args.words.now c.args.pool.now c.args.lows.now (take c.loop-i.i c.args.highs.now) ∙ sym keys;
      once = subst (λ (l : List ShapeAt). IsDistinct l) (sym keys) c.requires.once;
    }

pub returns-in_err-note_all-clause-refused : goal.returns-in_err-note_all-clause-refused
returns-in_err-note_all-clause-refused c =
    let told : ShapesAreTold = shapes-told c.equal_trees_tell.ensures c.test_tells.ensures in
    let t0 = c.args.words.now in
    let rows = c.args.pool.now in
    let e : all_noted c.in-Ok.below.keys c.shape_at-high.result c.loop-i.rows.items ≡ rows_of t0 rows c.args.lows.now (take (c.loop-i.i + 1) c.args.highs.now) =
    ap (all_noted c.in-Ok.below.keys c.shape_at-high.result) c.loop-i.invariant.rows ∙
    high-noted rows c.laws.ensures told t0 c.len.ensures.table c.requires.places c.loop-i.words c.all_shapes.new.words c.args.lows.now c.args.highs.now c.loop-i.i c.shape_at-high.result c.in-Ok.below.keys
    c.loop-i.invariant.grows c.in-Ok.ensures.grows c.in-Ok.ensures.table c.requires.lows c.requires.highs c.shape_at-high.ensures c.in-Ok.ensures.met in
    let less : counted (all_noted c.in-Ok.below.keys c.shape_at-high.result c.loop-i.rows.items) ≤ counted (rows_of t0 rows c.args.lows.now c.args.highs.now) =
    subst (λ (l : List AboveOne). counted l ≤ counted (rows_of t0 rows c.args.lows.now c.args.highs.now)) (sym e) (counted-taken t0 rows c.args.lows.now c.args.highs.now (c.loop-i.i + 1)) in
    let due : IsPastPairs (counted (rows_of t0 rows c.args.lows.now c.args.highs.now)) c.in_err-note_all.field-0.0 =
    past-more (counted (all_noted c.in-Ok.below.keys c.shape_at-high.result c.loop-i.rows.items)) (counted (rows_of t0 rows c.args.lows.now c.args.highs.now)) c.in_err-note_all.field-0.0 less
    c.in_err-note_all.ensures.refused in
    search rules

pub loop-i-preserved : goal.loop-i-preserved
loop-i-preserved c =
    let told : ShapesAreTold = shapes-told c.equal_trees_tell.ensures c.test_tells.ensures in
    let t0 = c.args.words.now in
    record {
      table = c.in-Ok.ensures.table;
      grows = λ i w e. c.in-Ok.ensures.grows i w (c.loop-i.invariant.grows i w e);
      rows = c.in_ok-note_all.ensures.rows ∙ ap (all_noted c.in-Ok.below.keys c.shape_at-high.result) c.loop-i.invariant.rows ∙
          high-noted c.args.pool.now c.laws.ensures told t0 c.len.ensures.table c.requires.places c.loop-i.words c.all_shapes.new.words c.args.lows.now c.args.highs.now c.loop-i.i c.shape_at-high.result c.in-Ok.below.keys
          c.loop-i.invariant.grows c.in-Ok.ensures.grows c.in-Ok.ensures.table c.requires.lows c.requires.highs c.shape_at-high.ensures c.in-Ok.ensures.met;
      counted = c.in_ok-note_all.ensures.counted;
      few = c.in_ok-note_all.ensures.few;
    }
