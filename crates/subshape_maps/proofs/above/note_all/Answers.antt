-- One key more.
use Rattle.std.proofs.Common.{rules, ◌≡◌, ◌∙◌, ◌≤◌, ◌+◌, sym, ap, subst}
use Rattle.std.specs.Prelude.{List, take}
use Rattle.subshape_maps.specs.declared.shape.ShapeAt.{ShapeAt}
use Rattle.subshape_maps.specs.declared.above.AboveOne.{AboveOne}
use Rattle.subshape_maps.specs.Above.{all_noted, noted, counted, HaveLows, IsPastPairs}
use Rattle.subshape_maps.proofs.AboveLemmas.{none-among, still-lows, more-noted, same-noted, counted-whole, past-more, differ, alike}
use Rattle.subshape_maps.proofs.above.note_all.Goals as goal
use Rattle.subshape_maps.proofs.above.note_all.Goals.{then-ne+in_ok-note_one, else-ne}

pub loop-i-init : goal.loop-i-init
loop-i-init c = record { rows = none-among c.args.high c.args.rows.now.items; counted = c.requires.counted; few = c.requires.few }

pub note_one-requires-clause-lows : goal.note_one-requires-clause-lows
note_one-requires-clause-lows c =
    subst (λ (l : List AboveOne). HaveLows c.args.index.now.keys l) (sym c.loop-i.invariant.rows)
    (still-lows (take c.loop-i.i c.args.below.now.keys) c.args.high c.args.index.now.keys c.args.rows.now.items c.requires.lows)

pub returns-in_err-note_one-clause-refused : goal.returns-in_err-note_one-clause-refused
returns-in_err-note_one-clause-refused c =
    let keys : List ShapeAt = c.args.below.now.keys in
    let e : noted c.index.result.now c.args.high c.loop-i.rows.items ≡ all_noted (take (c.loop-i.i + 1) keys) c.args.high c.args.rows.now.items =
    ap (noted c.index.result.now c.args.high) c.loop-i.invariant.rows ∙
    more-noted keys c.loop-i.i c.index.result.now c.args.high c.args.rows.now.items c.requires.below c.index.ensures (differ c.index.result.now c.args.high c.ne.result c.ne.ensures c.if-ne.true) in
    let due : IsPastPairs (counted (all_noted keys c.args.high c.args.rows.now.items)) c.in_err-note_one.field-0.0 =
    past-more (counted (noted c.index.result.now c.args.high c.loop-i.rows.items)) (counted (all_noted keys c.args.high c.args.rows.now.items)) c.in_err-note_one.field-0.0
    (subst (λ (l : List AboveOne). counted l ≤ counted (all_noted keys c.args.high c.args.rows.now.items)) (sym e) (counted-whole keys c.loop-i.i c.index.result.now c.args.high c.args.rows.now.items c.index.ensures))
    c.in_err-note_one.ensures.refused in
    search rules

pub loop-i-preserved : goal.loop-i-preserved
loop-i-preserved c = elim c.if-ne.branch [
  | then-ne+in_ok-note_one w ↦ record {
    rows = ap (λ v. v.items) w.rows-is ∙ w.in_ok-note_one.ensures.rows ∙ ap (noted c.index.result.now c.args.high) c.loop-i.invariant.rows ∙
        more-noted c.args.below.now.keys c.loop-i.i c.index.result.now c.args.high c.args.rows.now.items c.requires.below c.index.ensures
        (differ c.index.result.now c.args.high c.ne.result c.ne.ensures w.if-ne.true);
    counted = w.pairs-is ∙ w.in_ok-note_one.ensures.counted ∙ ap (λ v. counted v.items) (sym w.rows-is);
    few = subst (λ n. n ≤ 16777216) (sym w.pairs-is) w.in_ok-note_one.ensures.few;
  }
  | else-ne w ↦ record {
    rows = ap (λ v. v.items) w.rows-is ∙ c.loop-i.invariant.rows ∙
        same-noted c.args.below.now.keys c.loop-i.i c.index.result.now c.args.high c.args.rows.now.items c.index.ensures
        (alike c.index.result.now c.args.high c.ne.result c.ne.ensures w.if-ne.false);
    counted = w.pairs-is ∙ c.loop-i.invariant.counted ∙ ap (λ v. counted v.items) (sym w.rows-is);
    few = subst (λ n. n ≤ 16777216) (sym w.pairs-is) c.loop-i.invariant.few;
  }
]
