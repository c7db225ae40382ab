-- The shape is noted, and then gone into use by use.
use Rattle.std.proofs.Common.{rules, ◌≡◌, ◌<◌, ◌≤◌, arith}
use Rattle.std.specs.Prelude.{length}
use Rattle.shape_pool.specs.Rows.{uses_at}
use Rattle.subshape_maps.specs.Numbered.{occurrences_by, shapes_by}
use Rattle.subshape_maps.specs.Refusals.{IsDue}
use Rattle.subshape_maps.proofs.MetLemmas.{ShapesAreTold}
use Rattle.subshape_maps.proofs.NumberLemmas.{shapes-told, still-held}
use Rattle.subshape_maps.proofs.EnterLemmas.{entered, skipped, too-many, used-less, used-placed, due-of-word, child-ready, due-of-child, child-entered, left}
use Rattle.subshape_maps.proofs.meeting.+meet.Goals as goal

pub returns-in_err-note-clause-refused : goal.returns-in_err-note-clause-refused
returns-in_err-note-clause-refused t c =
    let told : ShapesAreTold = shapes-told c.equal_trees_tell.ensures c.test_tells.ensures in
    let due : IsDue (shapes_by c.args.words.now c.args.pool.now c.args.seen.now.keys) (occurrences_by c.args.words.now c.args.pool.now c.args.at) c.in_err-note.field-0.0 =
    too-many c.args.pool.now c.laws.ensures told c.limits_tell.ensures c.args.words.now c.args.seen.now.keys c.args.at c.requires c.in_err-note.field-0.0 c.in_err-note.ensures.refused in
    search rules

pub returns-then-not-branch-clause-met : goal.returns-then-not-branch-clause-met
returns-then-not-branch-clause-met t c =
    let told : ShapesAreTold = shapes-told c.equal_trees_tell.ensures c.test_tells.ensures in
    skipped c.args.pool.now c.laws.ensures told c.limits_tell.ensures c.args.words.now c.args.seen.now.keys c.args.at c.requires c.note.new.seen.keys c.in_ok-note.field-0
    c.in_ok-note.ensures.keys c.in_ok-note.ensures.new c.if-not-branch.true

pub uses-init : goal.uses-init
uses-init t c =
    let told : ShapesAreTold = shapes-told c.equal_trees_tell.ensures c.test_tells.ensures in
    entered c.args.pool.now c.laws.ensures told c.limits_tell.ensures c.args.words.now c.args.seen.now.keys c.args.at c.requires c.note.new.seen.keys c.in_ok-note.field-0
    c.in_ok-note.ensures.keys c.in_ok-note.ensures.new c.if-not-branch.false c.in_ok-note.ensures.few

pub joined-requires-clause-above : goal.joined-requires-clause-above
joined-requires-clause-above t c = still-held c.args.words.now c.uses.words c.uses.invariant.grows c.args.at.word.0 c.requires.at_held.1

pub joined-requires-clause-place : goal.joined-requires-clause-place
joined-requires-clause-place t c =
    let told : ShapesAreTold = shapes-told c.equal_trees_tell.ensures c.test_tells.ensures in
    still-held c.args.words.now c.uses.words c.uses.invariant.grows c.use_of-one.result.place.0
    (used-placed c.args.pool.now c.laws.ensures told c.limits_tell.ensures c.args.words.now c.args.seen.now.keys c.args.at c.requires c.uses.i c.use_of-one.result c.use_of-one.ensures)

pub returns-in_err-word-clause-refused : goal.returns-in_err-word-clause-refused
returns-in_err-word-clause-refused t c =
    let told : ShapesAreTold = shapes-told c.equal_trees_tell.ensures c.test_tells.ensures in
    let due : IsDue (shapes_by c.args.words.now c.args.pool.now c.args.seen.now.keys) (occurrences_by c.args.words.now c.args.pool.now c.args.at) c.in_err-word.field-0.0 =
    due-of-word c.args.pool.now c.laws.ensures told c.limits_tell.ensures c.args.words.now c.args.seen.now.keys c.args.at c.requires c.uses.i c.use_of-one.result c.use_of-one.ensures
    c.uses.words c.uses.seen.keys c.uses.invariant c.in_err-word.field-0.0 c.in_err-word.ensures.refused in
    search rules

pub meet-requires : goal.meet-requires
meet-requires t c =
    let told : ShapesAreTold = shapes-told c.equal_trees_tell.ensures c.test_tells.ensures in
    let measure : c.args.at.id.0 ≡ t = c.decreases in
    let less = used-less c.args.pool.now c.laws.ensures told c.limits_tell.ensures c.args.words.now c.args.seen.now.keys c.args.at c.requires c.uses.i c.use_of-one.result c.use_of-one.ensures in
    let falls : c.use_of-one.result.id.0 < t = omega (arith, measure, less) in (
      falls,
      child-ready c.args.pool.now c.laws.ensures told c.limits_tell.ensures c.args.words.now c.args.seen.now.keys c.args.at c.requires c.uses.i c.use_of-one.result c.use_of-one.ensures
          c.uses.words c.uses.seen.keys c.uses.invariant c.joined.new.words c.in_ok-word.ensures.grows c.in_ok-word.ensures.table (record { id = c.use_of-one.result.id; word = c.in_ok-word.word }) (λ k. c.use_of-one.result.id) c.in_ok-word.ensures.ok,
    )

pub returns-in_err-meet-clause-refused : goal.returns-in_err-meet-clause-refused
returns-in_err-meet-clause-refused t c =
    let told : ShapesAreTold = shapes-told c.equal_trees_tell.ensures c.test_tells.ensures in
    let due : IsDue (shapes_by c.args.words.now c.args.pool.now c.args.seen.now.keys) (occurrences_by c.args.words.now c.args.pool.now c.args.at) c.in_err-meet.field-0.0 =
    due-of-child c.args.pool.now c.laws.ensures told c.limits_tell.ensures c.args.words.now c.args.seen.now.keys c.args.at c.requires c.uses.i c.use_of-one.result c.use_of-one.ensures
    c.uses.words c.uses.seen.keys c.uses.invariant c.joined.new.words c.in_ok-word.ensures.grows c.in_ok-word.ensures.table (record { id = c.use_of-one.result.id; word = c.in_ok-word.word }) (λ k. c.use_of-one.result.id) c.in_ok-word.ensures.ok
    c.in_err-meet.field-0.0 c.in_err-meet.ensures.refused in
    search rules

pub uses-preserved : goal.uses-preserved
uses-preserved t c =
    let told : ShapesAreTold = shapes-told c.equal_trees_tell.ensures c.test_tells.ensures in
    child-entered c.args.pool.now c.laws.ensures told c.limits_tell.ensures c.args.words.now c.args.seen.now.keys c.args.at c.requires c.uses.i c.use_of-one.result c.use_of-one.ensures
    c.uses.words c.uses.seen.keys c.uses.invariant c.joined.new.words c.in_ok-word.ensures.grows c.in_ok-word.ensures.table (record { id = c.use_of-one.result.id; word = c.in_ok-word.word }) (λ k. c.use_of-one.result.id) c.in_ok-word.ensures.ok
    c.meet.new.words c.meet.new.seen.keys c.in_ok-meet.ensures.grows c.in_ok-meet.ensures.table c.in_ok-meet.ensures.met

pub returns-clause-met : goal.returns-clause-met
returns-clause-met t c =
    let told : ShapesAreTold = shapes-told c.equal_trees_tell.ensures c.test_tells.ensures in
    let long : length (uses_at c.args.pool.now c.args.at.id.0) ≤ c.uses.i = omega (arith, c.use_count-i-end.ensures, c.uses-test.false) in
    left c.args.pool.now c.laws.ensures told c.limits_tell.ensures c.args.words.now c.args.seen.now.keys c.args.at c.requires c.uses.i c.uses.words c.uses.seen.keys long c.uses.invariant
