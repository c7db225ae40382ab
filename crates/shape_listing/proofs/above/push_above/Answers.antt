-- The lines are those of the shapes and of the ones above them.
use Rattle.std.proofs.Common.{◌∙◌, ap, subst, sym}
use Rattle.std.specs.Prelude.{List, []}
use Rattle.std.specs.Option.{option_or}
use Rattle.byte_sink.proofs.Joining.{as_text}
use Rattle.lists.proofs.Errors.{IfErr-on}
use Rattle.subshape_maps.specs.declared.above.AboveOne.{AboveOne}
use Rattle.subshape_maps.specs.Above.{pairs_by}
use Rattle.subshape_maps.specs.Numbered.{occurrences_by, root_at}
use Rattle.shape_listing.specs.ByNumber.{rows_lines_at, AreRowsHeld}
use Rattle.shape_listing.specs.Causes.{meeting_due, of_map, pairs_due, IsDue}
use Rattle.shape_listing.proofs.CauseLaws.{above-refused, few-pairs, none-due}
use Rattle.shape_listing.proofs.MapLaws.{above-lines, few-above}
use Rattle.shape_listing.proofs.above.push_above.Goals as goal

pub push_rows-requires : goal.push_rows-requires
push_rows-requires g c =
    subst (λ (l : List AboveOne). AreRowsHeld c.ancestors.new.words c.args.pool.now l) (sym c.as_slice.ensures)
    (record { lows = c.in_ok-above.ensures.above.lows_held; highs = c.in_ok-above.ensures.above.highs_held })

pub returns-clause-text : goal.returns-clause-text
returns-clause-text g c kind are =
    as_text g.met.B.TakesBytes.joins _ _ _ _
    c.push_rows.ensures
    (ap (rows_lines_at c.ancestors.new.words c.args.pool.now) c.as_slice.ensures
    ∙ above-lines c.args.pool.now c.laws.ensures c.args.words.now c.ancestors.new.words c.in_ok-above.ensures.grows
    c.requires.places c.args.root c.requires.root c.requires.place c.args.low c.args.high _
    c.in_ok-above.ensures.above kind are)

pub returns-clause-within : goal.returns-clause-within
returns-clause-within g c kind are =
    few-pairs _ _ (none-due _ _ c.in_ok-above.ensures.within)
    (few-above c.args.pool.now c.laws.ensures c.args.words.now c.ancestors.new.words c.in_ok-above.ensures.grows
    c.requires.places c.args.root c.requires.root c.requires.place c.args.low c.args.high _
    c.in_ok-above.ensures.above kind are c.in_ok-above.ensures.few)

pub returns-in_err-above-clause-refused : goal.returns-in_err-above-clause-refused
returns-in_err-above-clause-refused g c kind are =
    let shapes = occurrences_by c.args.words.now c.args.pool.now (root_at c.args.root) in
    let pairs = pairs_by c.args.words.now c.args.pool.now c.args.root kind c.args.low c.args.high in
    IfErr-on c.from_residual.result (of_map c.in_err-above.field-0.0)
    (IsDue (option_or (meeting_due [] shapes) (pairs_due pairs))) c.from_residual.ensures.1
    (above-refused shapes pairs c.in_err-above.field-0.0 (c.in_err-above.ensures.refused kind are))
