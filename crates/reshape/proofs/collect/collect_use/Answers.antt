-- The key is noted at its place; a use that is asked for has one.
use Rattle.std.proofs.Common.{arith, ◌∙◌, sym, ap, length, Some}
use Rattle.lists.proofs.Errors.{IfErr-on}
use Rattle.shape_pool.specs.declared.node.NodeId.{NodeId}
use Rattle.key_results.specs.Faults.{of_word}
use Rattle.reshape.proofs.TableLaws.{grows-none}
use Rattle.reshape.proofs.FindLaws.{node-within}
use Rattle.reshape.proofs.NoteLaws.{found-noted, found-wider, noted-more}
use Rattle.reshape.proofs.UseLaws.{key-held, never-missing, due-of-word, due-of-key, use-collected}
use Rattle.reshape.proofs.collect.collect_use.Goals as goal

pub returns-in_default-clause-collects : goal.returns-in_default-clause-collects
returns-in_default-clause-collects c = λ root s word it demanded.
    let words = c.args.words.now in
    absurd (never-missing c.args.pool.now c.laws.ensures (length words) root c.args.plan.now words s word it
    c.len.ensures.table (omega arith) c.requires.places
    (c.demands_are_edges.ensures s) (c.keys_stand_for_visits.ensures s) c.args.from c.args.mover c.args.u c.requires.id
    demanded c.requires.planned
    c.in_default.ensures.none)

pub returns-in_default-clause-grows : goal.returns-in_default-clause-grows
returns-in_default-clause-grows c = grows-none c.args.words.now c.len.ensures.table

pub returns-in_err-key-clause-refused : goal.returns-in_err-key-clause-refused
returns-in_err-key-clause-refused c =
    let grows = c.in_err-key.ensures.grows in
    IfErr-on c.from_residual.result (of_word c.in_err-key.field-0.0) _ c.from_residual.ensures.1
    (λ root s word it demanded r all of-step. due-of-word c.args.pool.now c.laws.ensures (length c.args.words.now) root
    c.args.plan.now c.key_of_use.new.words
    s word it grows.table grows.grows c.requires.places (c.demands_are_edges.ensures s)
    (c.keys_stand_for_visits.ensures s) c.args.from c.args.mover c.args.u
    c.requires.id demanded r c.in_err-key.field-0.0 of-step (c.in_err-key.ensures.refused root s word it))

pub note-requires-clause-place : goal.note-requires-clause-place
note-requires-clause-place c =
    let within = node-within c.args.plan.now.nodes c.in-Some.place c.args.u.id.0 c.in-Some.ensures.some in
    let long = c.requires.found.long in
    omega (arith, within, long)

pub note-requires-clause-counted : goal.note-requires-clause-counted
note-requires-clause-counted c = c.requires.found.counted

pub note-requires-clause-few : goal.note-requires-clause-few
note-requires-clause-few c = c.requires.found.few

pub returns-in_err-note-clause-refused : goal.returns-in_err-note-clause-refused
returns-in_err-note-clause-refused c =
    let grows = c.in_ok-key.ensures.grows in
    IfErr-on c.from_residual-in_err-note.result c.in_err-note.field-0.0 _ c.from_residual-in_err-note.ensures.1
    (λ root s word it demanded r all of-step.
    due-of-key c.args.pool.now c.laws.ensures (length c.args.words.now) root c.args.plan.now c.key_of_use.new.words
    s word it grows.table grows.grows c.requires.places (c.demands_are_edges.ensures s)
    (c.keys_stand_for_visits.ensures s) c.args.from c.args.mover c.args.u
    c.requires.id demanded r c.args.found.now.keys.keys c.args.found.now.at.items c.args.found.now.worded
    c.in_ok-key.key c.in_err-note.field-0.0 all of-step
    c.requires.found (key-held c.args.pool.now (length c.key_of_use.new.words) c.in_ok-key.key c.args.u
    c.in_ok-key.ensures.id c.requires.id c.in_ok-key.ensures.held)
    (c.in_ok-key.ensures.key root s word it) c.in_err-note.ensures.refused)

pub returns-clause-found : goal.returns-clause-found
returns-clause-found c =
    let grows = c.in_ok-key.ensures.grows in
    let new = length c.key_of_use.new.words in
    let held = key-held c.args.pool.now new c.in_ok-key.key c.args.u c.in_ok-key.ensures.id c.requires.id
    c.in_ok-key.ensures.held in
    let at = c.in-Some.ensures.some ∙ ap (λ (i : NodeId). Some i.0) (sym c.in_ok-key.ensures.id) in
    found-noted c.args.pool.now new c.args.plan.now.nodes c.in-Some.place c.in_ok-key.key c.args.found.now.keys.keys
    c.args.found.now.at.items
    c.args.found.now.worded c.note.new.found.keys.keys c.note.new.found.at.items c.note.new.found.worded
    (found-wider c.args.pool.now (length c.args.words.now) new c.args.plan.now.nodes c.args.found.now.keys.keys
    c.args.found.now.at.items
    c.args.found.now.worded grows.grows c.requires.found) c.in_ok-note.ensures.noted held at
    c.in_ok-note.ensures.counted c.in_ok-note.ensures.few

pub returns-clause-more : goal.returns-clause-more
returns-clause-more c =
    let grows = c.in_ok-key.ensures.grows in
    let new = length c.key_of_use.new.words in
    let held = key-held c.args.pool.now new c.in_ok-key.key c.args.u c.in_ok-key.ensures.id c.requires.id
    c.in_ok-key.ensures.held in
    let at = c.in-Some.ensures.some ∙ ap (λ (i : NodeId). Some i.0) (sym c.in_ok-key.ensures.id) in
    noted-more c.args.pool.now new c.args.plan.now.nodes c.in-Some.place c.in_ok-key.key c.args.found.now.keys.keys
    c.args.found.now.at.items
    c.args.found.now.worded c.note.new.found.keys.keys c.note.new.found.at.items c.note.new.found.worded
    (found-wider c.args.pool.now (length c.args.words.now) new c.args.plan.now.nodes c.args.found.now.keys.keys
    c.args.found.now.at.items
    c.args.found.now.worded grows.grows c.requires.found) c.in_ok-note.ensures.noted held at

pub returns-clause-collects : goal.returns-clause-collects
returns-clause-collects c = λ root s word it demanded.
    let grows = c.in_ok-key.ensures.grows in
    let new = length c.key_of_use.new.words in
    let held = key-held c.args.pool.now new c.in_ok-key.key c.args.u c.in_ok-key.ensures.id c.requires.id
    c.in_ok-key.ensures.held in
    use-collected c.args.pool.now c.laws.ensures (length c.args.words.now) root c.args.plan.now c.key_of_use.new.words
    s word it grows.table grows.grows c.requires.places (c.demands_are_edges.ensures s)
    (c.keys_stand_for_visits.ensures s) c.args.from c.args.mover c.args.u
    c.requires.id demanded c.in-Some.place c.in_ok-key.key c.args.found.now.keys.keys c.args.found.now.at.items
    c.args.found.now.worded c.note.new.found.keys.keys c.note.new.found.at.items c.note.new.found.worded
    (found-wider c.args.pool.now (length c.args.words.now) new c.args.plan.now.nodes c.args.found.now.keys.keys
    c.args.found.now.at.items
    c.args.found.now.worded grows.grows c.requires.found) c.in_ok-note.ensures.noted held c.in-Some.ensures.some
    c.in_ok-key.ensures.id
    (c.in_ok-key.ensures.key root s word it)
