use Rattle.std.proofs.Common.{◌∙◌, arith, ap, length, subst, take_all}
use Rattle.std.proofs.lemmas.List.{length-map}
use Rattle.shape_pool.specs.declared.node.UseOf.{UseOf}
use Rattle.shape_pool.specs.Rows.{uses_at}
use Rattle.written_locations.specs.Added.{AddsWords}
use Rattle.brep_writer.specs.Sources.{words_in}
use Rattle.brep_writer.proofs.Adding.{adds-word, place-below, use-word}
use Rattle.brep_writer.proofs.locations.add_uses.Goals as goal

pub uses-init : goal.uses-init
uses-init c = c.added_parts_join.ensures.none c.args.locations.now c.requires.numbering

pub add_word-requires-clause-numbering : goal.add_word-requires-clause-numbering
add_word-requires-clause-numbering c = c.uses.invariant.numbering

pub add_word-requires-clause-id : goal.add_word-requires-clause-id
add_word-requires-clause-id c =
    let below = place-below c.args.source.now c.requires.loaded c.args.id.0 c.uses.at c.use_at.result c.requires.id
    c.use_at.ensures in
    let same = ap length (c.uses.invariant.table ∙ c.requires.over.table) in
    omega (arith, below, same)

pub uses-preserved : goal.uses-preserved
uses-preserved c =
    adds-word c.added_parts_join.ensures (words_in c.args.source.now c.args.id.0) c.uses.at c.use_at.result.place.0
    c.args.locations.now c.uses.locations c.add_word.new.self
    (use-word c.args.source.now c.args.id.0 c.uses.at c.use_at.result c.use_at.ensures) c.uses.invariant
    c.in_ok-add_word.ensures

pub returns : goal.returns
returns c =
    let count = c.use_count-at-end.ensures in
    let long = length-map (uses_at c.args.source.now.pool.now c.args.id.0) (λ (v : UseOf). v.place.0) in
    subst (λ ws. AddsWords ws c.args.locations.now c.uses.locations)
    (take_all c.uses.at (words_in c.args.source.now c.args.id.0) (omega (arith, count, long, c.uses-test.false)))
    c.uses.invariant
