-- The visit is what the links and what the key asks for make of it.
use Rattle.std.proofs.Common.{arith, ◌≤◌, refl, length}
use Rattle.lists.proofs.Errors.{IfErr-on}
use Rattle.lists.proofs.Places.{Contains-at}
use Rattle.requests.specs.Plans.{ids_of}
use Rattle.key_results.specs.declared.fault.ApplyFault.TheVariants.{NoMemory}
use Rattle.reshape.proofs.TableLaws.{grows-on}
use Rattle.reshape.proofs.StepLaws.{older, tells-words, wider}
use Rattle.reshape.proofs.LinkLaws.{have-keys, keys-wider, visit-is}
use Rattle.reshape.proofs.UseLaws.{wider-places}
use Rattle.reshape.proofs.link.visit_of.Goals as goal

pub returns-in_err-asked-clause-refused : goal.returns-in_err-asked-clause-refused
returns-in_err-asked-clause-refused c =
    IfErr-on c.from_residual.result NoMemory _ c.from_residual.ensures.1 (λ root s word it i before. refl)

pub links_of-requires-clause-places : goal.links_of-requires-clause-places
links_of-requires-clause-places c =
    wider-places c.args.pool.now (length c.args.words.now) (length c.asked_of.new.words)
    c.in_ok-asked.ensures.grows.grows c.requires.places

pub links_of-requires-clause-held : goal.links_of-requires-clause-held
links_of-requires-clause-held c =
    keys-wider c.args.pool.now (length c.args.words.now) (length c.asked_of.new.words) c.args.keys.now.keys
    c.in_ok-asked.ensures.grows.grows c.requires.held

pub links_of-requires-clause-from : goal.links_of-requires-clause-from
links_of-requires-clause-from c =
    let a = c.requires.key.1 in let b = c.in_ok-asked.ensures.grows.grows in omega (arith, a, b)

pub links_of-requires-clause-asked : goal.links_of-requires-clause-asked
links_of-requires-clause-asked c = c.in_ok-asked.ensures.held

pub links_of-requires-clause-planned : goal.links_of-requires-clause-planned
links_of-requires-clause-planned c = Contains-at (ids_of c.args.plan.now.nodes) c.args.at c.args.key.id.0 c.requires.at

pub returns-in_err-links-clause-refused : goal.returns-in_err-links-clause-refused
returns-in_err-links-clause-refused c =
    let rows = c.args.pool.now in
    let n = length c.args.words.now in
    let plan = c.args.plan.now in
    let mid = c.asked_of.new.words in
    let new = c.links_of.new.words in
    IfErr-on c.from_residual-in_err-links.result c.in_err-links.field-0.0 _ c.from_residual-in_err-links.ensures.1
    (λ root s word it i before. c.in_err-links.ensures.refused root s word
    (wider rows n (length mid) root plan new s word c.in_ok-asked.ensures.grows.grows it)
    (have-keys rows s word c.args.keys.now.keys i c.args.key c.in_ok-asked.asked
    (c.in_ok-asked.ensures.asks root s word (older rows n root plan mid new s word c.in_err-links.ensures.grows it))
    before))

pub returns-in_err-links-clause-grows : goal.returns-in_err-links-clause-grows
returns-in_err-links-clause-grows c =
    grows-on c.args.words.now c.asked_of.new.words c.links_of.new.words c.in_ok-asked.ensures.grows
    c.in_err-links.ensures.grows

pub returns-clause-placed : goal.returns-clause-placed
returns-clause-placed c =
    let h = c.in_ok-asked.ensures.held.mover in
    let b = c.in_ok-links.ensures.grows.grows in
    (((let x = h.0 in omega (arith, x, b)), (let x = h.1 in omega (arith, x, b))), c.in_ok-links.ensures.placed)

pub returns-clause-visit : goal.returns-clause-visit
returns-clause-visit c = λ root s word it i before.
    let rows = c.args.pool.now in
    let n = length c.args.words.now in
    let plan = c.args.plan.now in
    let keys = c.args.keys.now.keys in
    let mid = c.asked_of.new.words in
    let new = c.links_of.new.words in
    let grows = grows-on c.args.words.now mid new c.in_ok-asked.ensures.grows c.in_ok-links.ensures.grows in
    let same : length new ≤ length new = omega arith in
    let asks = c.in_ok-asked.ensures.asks root s word
    (older rows n root plan mid new s word c.in_ok-links.ensures.grows it) in
    let have = have-keys rows s word keys i c.args.key c.in_ok-asked.asked asks before in
    visit-is rows c.laws.ensures (length new) word (wider-places rows n (length new) grows.grows c.requires.places)
    (tells-words new word (length new) grows.table it.reads.told same) s keys
    (keys-wider rows n (length new) keys grows.grows c.requires.held) c.requires.once
    c.args.key c.in_ok-asked.asked
    (record {
      id = c.args.key.id;
      outcome = c.in_ok-asked.asked.outcome;
      mover = c.in_ok-asked.asked.mover;
      links = c.in_ok-links.links;
    }) i asks before
    (c.in_ok-links.ensures.links root s word (wider rows n (length mid) root plan new s word
    c.in_ok-asked.ensures.grows.grows it) have) refl refl refl

pub returns-clause-grows : goal.returns-clause-grows
returns-clause-grows c =
    grows-on c.args.words.now c.asked_of.new.words c.links_of.new.words c.in_ok-asked.ensures.grows
    c.in_ok-links.ensures.grows
