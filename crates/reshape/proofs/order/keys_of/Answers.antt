-- The keys that were found are those of the step.
use Rattle.std.proofs.Common.{arith, ◌≤◌, refl, length}
use Rattle.lists.proofs.Errors.{IfErr-on}
use Rattle.shape_pool.specs.Rows.{tree_at, use_by}
use Rattle.key_results.specs.declared.fault.ApplyFault.TheVariants.{NoMemory}
use Rattle.reshape.proofs.StepLaws.{planned, ranked, tells-words, zero-word}
use Rattle.reshape.proofs.UseLaws.{wider-places}
use Rattle.reshape.proofs.OrderLaws.{are-keys-of, keys-held, keys-planned}
use Rattle.reshape.proofs.order.keys_of.Goals as goal

pub returns-in_err-found-clause-refused : goal.returns-in_err-found-clause-refused
returns-in_err-found-clause-refused c =
    IfErr-on c.from_residual.result c.in_err-found.field-0.0 _ c.from_residual.ensures.1 c.in_err-found.ensures.refused

pub returns-in_err-keys-clause-refused : goal.returns-in_err-keys-clause-refused
returns-in_err-keys-clause-refused c =
    IfErr-on c.from_residual-in_err-keys.result NoMemory _ c.from_residual-in_err-keys.ensures.1 (λ s word it. tt)

pub returns-clause-keys : goal.returns-clause-keys
returns-clause-keys c = λ s word it.
    let rows = c.args.pool.now in
    let n = length c.args.words.now in
    let plan = c.args.plan.now in
    let root = c.args.root.id.0 in
    let new = c.collect.new.words in
    let found = c.in_ok-found.found in
    let grows = c.in_ok-found.ensures.grows in
    let same : length new ≤ length new = omega arith in
    are-keys-of rows (length new) plan.nodes found.keys.keys found.at.items found.worded c.in_ok-keys.keys.keys
    c.in_ok-found.ensures.found c.in_ok-keys.ensures
    c.laws.ensures s word (use_by word (tree_at word rows) c.args.root) root
    (wider-places rows n (length new) grows.grows c.requires.places)
    (tells-words new word (length new) grows.table it.reads.told same)
    (planned rows n root plan new s word it grows.table grows.grows c.requires.places)
    it.carried.planned.held (c.demands_are_edges.ensures s) (c.keys_stand_for_visits.ensures s)
    (zero-word rows n root plan new s word it grows.table grows.grows c.requires.places)
    (ranked rows n root plan new s word it grows.table grows.grows c.requires.places).no_cycle refl c.requires.root
    (c.in_ok-found.ensures.collected s word it)
    c.limits_tell.ensures new grows.table it.reads.told same

pub returns-clause-held : goal.returns-clause-held
returns-clause-held c =
    keys-held c.args.pool.now (length c.collect.new.words) c.args.plan.now.nodes c.in_ok-found.found.keys.keys
    c.in_ok-found.found.at.items
    c.in_ok-found.found.worded c.in_ok-keys.keys.keys c.in_ok-found.ensures.found c.in_ok-keys.ensures

pub returns-clause-once : goal.returns-clause-once
returns-clause-once c = c.in_ok-keys.ensures.distinct

pub returns-clause-planned : goal.returns-clause-planned
returns-clause-planned c =
    keys-planned c.args.pool.now (length c.collect.new.words) c.args.plan.now.nodes c.in_ok-found.found.keys.keys
    c.in_ok-found.found.at.items
    c.in_ok-found.found.worded c.in_ok-keys.keys.keys c.in_ok-found.ensures.found c.in_ok-keys.ensures
