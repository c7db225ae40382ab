use Rattle.std.proofs.Common.{◌++◌, ap, sym}
use Rattle.std.proofs.lemmas.List.Folds.{flat_map-map}
use Rattle.brep_tokens.specs.Written.{line_text}
use Rattle.std.specs.Prelude.{length}
use Rattle.written_layout.specs.Layout.{heading}
use Rattle.byte_sink.proofs.Joining.{each_all, each_more, in_two}
use Rattle.written_layout.proofs.tables.push_section.Goals as goal

pub loop-entry-init : goal.loop-entry-init
loop-entry-init g c = g.met.B.TakesBytes.joins.none _

pub loop-entry-preserved : goal.loop-entry-preserved
loop-entry-preserved g c =
    each_more g.met.B.TakesBytes.joins (λ e. line_text (g.T.TableEntry.spelling e)) c.args.entries.now
    c.loop-entry.entry-index c.entry-item.result _ _ _ c.loop-entry-test.true c.entry-item.is c.loop-entry.invariant
    c.push_to.ensures

pub returns : goal.returns
returns g c =
    in_two g.met.B.TakesBytes.joins _ _ _ _ _ _
    c.push_heading.ensures
    (each_all g.met.B.TakesBytes.joins (λ e. line_text (g.T.TableEntry.spelling e)) c.args.entries.now
    c.loop-entry.entry-index _ _ c.loop-entry-test.false c.loop-entry.invariant)
    (ap (λ t. line_text (heading c.args.word.now (length c.args.entries.now)) ++ t)
    (sym (flat_map-map line_text g.T.TableEntry.spelling c.args.entries.now)))
