-- The derivation, then what is made of it.
use Rattle.std.proofs.Common.{arith, ◌<◌, length}
use Rattle.std.proofs.lemmas.List.Elements.{All-weaker}
use Rattle.lists.proofs.Errors.{IfErr-on}
use Rattle.shape_pool.specs.Rows.{tree_at, trees_of, use_by}
use Rattle.requests.specs.Readings.{step_by}
use Rattle.key_results.specs.declared.parts.Part.{Part}
use Rattle.key_results.specs.Parts.{IsHeldPart}
use Rattle.reshape.proofs.AnswerTurns.{first-due, refused-turn, rewritten-turn}
use Rattle.reshape.proofs.AnswerTurns.{rises-turn, step-of, still-rises, within-turn}
use Rattle.reshape.proofs.HeldAnswers.{held-answer}
use Rattle.reshape.proofs.MakeTurns.{keeps-none, loaded-none}
use Rattle.reshape.proofs.UseLaws.{wider-places}
use Rattle.reshape.proofs.step.apply.Goals as goal

-- ---- a derivation that is refused
pub returns-in_err-derived-clause-refused : goal.returns-in_err-derived-clause-refused
returns-in_err-derived-clause-refused g c =
    let rows = c.args.pool.now in
    let n = length c.args.words.now in
    let plan = c.args.plan.now in
    let u = c.args.root in
    let new = c.derive_step.new.words in
    IfErr-on c.from_residual.result c.in_err-derived.field-0.0 _ c.from_residual.ensures.1
    (λ t kind word carried reads.
    let s = step_by word rows kind t in
    first-due s (use_by word (tree_at word rows) u) (trees_of word rows) c.in_err-derived.field-0.0
    (c.in_err-derived.ensures.refused s word (step-of rows n u.id.0 plan new t kind word carried reads)))

pub returns-in_err-derived-clause-steps : goal.returns-in_err-derived-clause-steps
returns-in_err-derived-clause-steps g c = λ t kind word carried reads n count. still-rises c.args.steps.now n

pub returns-in_err-derived-clause-kept : goal.returns-in_err-derived-clause-kept
returns-in_err-derived-clause-kept g c = keeps-none c.args.pool.now

pub returns-in_err-derived-clause-loaded : goal.returns-in_err-derived-clause-loaded
returns-in_err-derived-clause-loaded g c = loaded-none c.args.pool.now

pub returns-in_err-derived-clause-places : goal.returns-in_err-derived-clause-places
returns-in_err-derived-clause-places g c =
    wider-places c.args.pool.now (length c.args.words.now) (length c.derive_step.new.words)
    c.in_err-derived.ensures.grows.grows c.requires.places

-- ---- what the derivation gives
pub make-requires-clause-parts : goal.make-requires-clause-parts
make-requires-clause-parts g c = (length c.derive_step.new.words, c.in_ok-derived.ensures.parts)

pub make-requires-clause-of : goal.make-requires-clause-of
make-requires-clause-of g c =
    All-weaker (IsHeldPart (length c.in_ok-derived.derived.outgrowths.items) (length c.derive_step.new.words))
    (λ (p : Part). p.of < length c.in_ok-derived.derived.outgrowths.items) (λ p h. h.0)
    c.in_ok-derived.derived.root.items c.in_ok-derived.ensures.root_parts

-- ---- nodes that aren't made
pub returns-in_err-made-clause-refused : goal.returns-in_err-made-clause-refused
returns-in_err-made-clause-refused g c =
    let rows = c.args.pool.now in
    let n = length c.args.words.now in
    let plan = c.args.plan.now in
    let u = c.args.root in
    let new = c.derive_step.new.words in
    let grows = c.in_ok-derived.ensures.grows in
    let derived = c.in_ok-derived.derived in
    IfErr-on c.from_residual-in_err-made.result c.in_err-made.field-0.0 _ c.from_residual-in_err-made.ensures.1
    (λ t kind word carried reads.
    let s = step_by word rows kind t in
    let it = step-of rows n u.id.0 plan new t kind word carried reads in
    refused-turn rows n plan new u s word it grows.table grows.grows c.requires.places (c.steps_have_laws.ensures s)
    derived.visits.items derived.outgrowths.items
    derived.root.items (c.in_ok-derived.ensures.derived s word it) c.in_ok-derived.ensures.linked
    (c.outgrowths_give_results.ensures word (tree_at word rows) s.rule.prune derived.visits.items
    derived.outgrowths.items) c.subtrees_stand.ensures
    c.in_ok-derived.ensures.root_own c.in_ok-derived.ensures.parts
    (All-weaker (IsHeldPart (length derived.outgrowths.items) (length new)) (λ (p : Part). p.place.0 < length new)
    (λ p h. h.1) derived.root.items
    c.in_ok-derived.ensures.root_parts)
    c.in_err-made.field-0.0 c.in_err-made.ensures.refused)

pub returns-in_err-made-clause-steps : goal.returns-in_err-made-clause-steps
returns-in_err-made-clause-steps g c = λ t kind word carried reads.
    let rows = c.args.pool.now in
    let n = length c.args.words.now in
    let plan = c.args.plan.now in
    let u = c.args.root in
    let new = c.derive_step.new.words in
    let grows = c.in_ok-derived.ensures.grows in
    let derived = c.in_ok-derived.derived in
    let s = step_by word rows kind t in
    let it = step-of rows n u.id.0 plan new t kind word carried reads in
    rises-turn rows n plan new u s word it grows.table grows.grows c.requires.places (c.steps_have_laws.ensures s)
    derived.visits.items derived.outgrowths.items
    derived.root.items (c.in_ok-derived.ensures.derived s word it) c.in_ok-derived.ensures.linked
    (c.outgrowths_give_results.ensures word (tree_at word rows) s.rule.prune derived.visits.items
    derived.outgrowths.items) c.subtrees_stand.ensures
    c.in_ok-derived.ensures.root_own c.args.steps.now c.make.new.steps c.in_err-made.ensures.steps.1

pub returns-in_err-made-clause-places : goal.returns-in_err-made-clause-places
returns-in_err-made-clause-places g c =
    let new = c.derive_step.new.words in
    let derived = c.in_ok-derived.derived in
    c.in_err-made.ensures.places (length new)
    (wider-places c.args.pool.now (length c.args.words.now) (length new) c.in_ok-derived.ensures.grows.grows
    c.requires.places) c.in_ok-derived.ensures.parts
    (All-weaker (IsHeldPart (length derived.outgrowths.items) (length new)) (λ (p : Part). p.place.0 < length new)
    (λ p h. h.1) derived.root.items
    c.in_ok-derived.ensures.root_parts)

pub returns-in_err-made-clause-words : goal.returns-in_err-made-clause-words
returns-in_err-made-clause-words g c = c.in_ok-derived.ensures.grows

-- ---- a step that is carried out
pub returns-clause-rewritten : goal.returns-clause-rewritten
returns-clause-rewritten g c = λ t kind word carried reads.
    let rows = c.args.pool.now in
    let n = length c.args.words.now in
    let plan = c.args.plan.now in
    let u = c.args.root in
    let new = c.derive_step.new.words in
    let grows = c.in_ok-derived.ensures.grows in
    let derived = c.in_ok-derived.derived in
    let s = step_by word rows kind t in
    let it = step-of rows n u.id.0 plan new t kind word carried reads in
    rewritten-turn rows n plan new u s word it grows.table grows.grows c.requires.places (c.steps_have_laws.ensures s)
    derived.visits.items
    derived.outgrowths.items derived.root.items (c.in_ok-derived.ensures.derived s word it)
    c.in_ok-derived.ensures.linked
    (c.outgrowths_give_results.ensures word (tree_at word rows) s.rule.prune derived.visits.items
    derived.outgrowths.items) c.subtrees_stand.ensures
    c.in_ok-derived.ensures.root_own c.make.new.pool c.laws.ensures c.in_ok-derived.ensures.held
    c.in_ok-derived.ensures.own c.in_ok-made.made
    c.in_ok-made.ensures.made
    (c.nodes_stand_for_results.ensures rows c.make.new.pool word s.rule.prune derived.visits.items
    derived.outgrowths.items c.in_ok-made.ensures.made.nodes)

pub returns-clause-within : goal.returns-clause-within
returns-clause-within g c = λ t kind word carried reads.
    let rows = c.args.pool.now in
    let n = length c.args.words.now in
    let plan = c.args.plan.now in
    let u = c.args.root in
    let new = c.derive_step.new.words in
    let grows = c.in_ok-derived.ensures.grows in
    let derived = c.in_ok-derived.derived in
    let s = step_by word rows kind t in
    let it = step-of rows n u.id.0 plan new t kind word carried reads in
    within-turn rows n plan new u s word it grows.table grows.grows c.requires.places (c.steps_have_laws.ensures s)
    derived.visits.items
    derived.outgrowths.items derived.root.items (c.in_ok-derived.ensures.derived s word it)
    c.in_ok-derived.ensures.linked
    (c.outgrowths_give_results.ensures word (tree_at word rows) s.rule.prune derived.visits.items
    derived.outgrowths.items) c.subtrees_stand.ensures
    c.in_ok-derived.ensures.root_own c.make.new.pool c.laws.ensures c.in_ok-derived.ensures.held
    c.in_ok-derived.ensures.own c.in_ok-made.made
    c.in_ok-made.ensures.made
    (c.nodes_stand_for_results.ensures rows c.make.new.pool word s.rule.prune derived.visits.items
    derived.outgrowths.items c.in_ok-made.ensures.made.nodes)

pub returns-clause-order : goal.returns-clause-order
returns-clause-order g c =
    record { images = c.in_ok-made.ensures.made.images_ascend; replaced = c.in_ok-made.ensures.made.replaced_ascend }

pub returns-clause-held : goal.returns-clause-held
returns-clause-held g c =
    let new = c.derive_step.new.words in
    let derived = c.in_ok-derived.derived in
    held-answer c.args.pool.now c.make.new.pool c.laws.ensures derived.visits.items derived.outgrowths.items
    derived.root.items c.in_ok-made.made
    c.in_ok-made.ensures.made c.in_ok-derived.ensures.held (length new)
    (let a = c.requires.place in let b = c.in_ok-derived.ensures.grows.grows in omega (arith, a, b))
    (All-weaker (IsHeldPart (length derived.outgrowths.items) (length new)) (λ (p : Part). p.place.0 < length new)
    (λ p h. h.1) derived.root.items
    c.in_ok-derived.ensures.root_parts)

pub returns-clause-steps : goal.returns-clause-steps
returns-clause-steps g c = λ t kind word carried reads.
    let rows = c.args.pool.now in
    let n = length c.args.words.now in
    let plan = c.args.plan.now in
    let u = c.args.root in
    let new = c.derive_step.new.words in
    let grows = c.in_ok-derived.ensures.grows in
    let derived = c.in_ok-derived.derived in
    let s = step_by word rows kind t in
    let it = step-of rows n u.id.0 plan new t kind word carried reads in
    rises-turn rows n plan new u s word it grows.table grows.grows c.requires.places (c.steps_have_laws.ensures s)
    derived.visits.items derived.outgrowths.items
    derived.root.items (c.in_ok-derived.ensures.derived s word it) c.in_ok-derived.ensures.linked
    (c.outgrowths_give_results.ensures word (tree_at word rows) s.rule.prune derived.visits.items
    derived.outgrowths.items) c.subtrees_stand.ensures
    c.in_ok-derived.ensures.root_own c.args.steps.now c.make.new.steps c.in_ok-made.ensures.steps.1

pub returns-clause-places : goal.returns-clause-places
returns-clause-places g c =
    let new = c.derive_step.new.words in
    let derived = c.in_ok-derived.derived in
    c.in_ok-made.ensures.places (length new)
    (wider-places c.args.pool.now (length c.args.words.now) (length new) c.in_ok-derived.ensures.grows.grows
    c.requires.places) c.in_ok-derived.ensures.parts
    (All-weaker (IsHeldPart (length derived.outgrowths.items) (length new)) (λ (p : Part). p.place.0 < length new)
    (λ p h. h.1) derived.root.items
    c.in_ok-derived.ensures.root_parts)

pub returns-clause-words : goal.returns-clause-words
returns-clause-words g c = c.in_ok-derived.ensures.grows
