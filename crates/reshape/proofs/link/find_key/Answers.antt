-- The key of the use is the one that the keys have.
use Rattle.std.proofs.Common.{arith, ◌≤◌, length}
use Rattle.lists.proofs.Errors.{IfErr-on}
use Rattle.reshape.proofs.TableLaws.{grows-none}
use Rattle.reshape.proofs.StepLaws.{tells-words}
use Rattle.reshape.proofs.LinkLaws.{found-fault, found-key, keys-wider}
use Rattle.reshape.proofs.UseLaws.{key-held, never-missing, wider-places}
use Rattle.reshape.proofs.link.find_key.Goals as goal

pub returns-in_default-clause-found : goal.returns-in_default-clause-found
returns-in_default-clause-found c = λ root s word it demanded has.
    let words = c.args.words.now in
    absurd (never-missing c.args.pool.now c.laws.ensures (length words) root c.args.plan.now words s word it
    c.len.ensures.table (omega arith) c.requires.places
    (c.demands_are_edges.ensures s) (c.keys_stand_for_visits.ensures s) c.args.from c.args.mover c.args.u c.requires.id
    demanded c.requires.planned
    c.in_default.ensures.none)

pub returns-in_default-clause-grows : goal.returns-in_default-clause-grows
returns-in_default-clause-grows c = grows-none c.args.words.now c.len.ensures.table

pub returns-in_err-key-clause-refused : goal.returns-in_err-key-clause-refused
returns-in_err-key-clause-refused c =
    let rows = c.args.pool.now in
    let n = length c.args.words.now in
    let new = c.key_of_use.new.words in
    let grows = c.in_err-key.ensures.grows in
    let same : length new ≤ length new = omega arith in
    IfErr-on c.from_residual.result c.in_err-key.field-0.0 _ c.from_residual.ensures.1
    (λ root s word it has. found-fault rows c.laws.ensures (length new) word
    (wider-places rows n (length new) grows.grows c.requires.places)
    (tells-words new word (length new) grows.table it.reads.told same) s c.args.keys.now.keys
    (keys-wider rows n (length new) c.args.keys.now.keys grows.grows c.requires.held) c.args.from c.args.mover c.args.u
    c.limits_tell.ensures new grows.table it.reads.told same c.in_err-key.field-0.0
    (c.in_err-key.ensures.refused root s word it) has)

pub returns-clause-found : goal.returns-clause-found
returns-clause-found c = λ root s word it demanded has.
    let rows = c.args.pool.now in
    let n = length c.args.words.now in
    let new = c.key_of_use.new.words in
    let grows = c.in_ok-key.ensures.grows in
    let same : length new ≤ length new = omega arith in
    found-key rows c.laws.ensures (length new) word (wider-places rows n (length new) grows.grows c.requires.places)
    (tells-words new word (length new) grows.table it.reads.told same) s c.args.keys.now.keys
    (keys-wider rows n (length new) c.args.keys.now.keys grows.grows c.requires.held) c.args.from c.args.mover c.args.u
    c.in_ok-key.key c.place_among.result c.in_ok-key.ensures.id
    (key-held rows (length new) c.in_ok-key.key c.args.u c.in_ok-key.ensures.id c.requires.id c.in_ok-key.ensures.held)
    (c.in_ok-key.ensures.key root s word it) has c.place_among.ensures.some c.place_among.ensures.none
