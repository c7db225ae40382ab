-- One use more, and then all that the key asks for is found.
use Rattle.std.proofs.Common.{arith, ◌<◌, ◌≤◌, length, Contains}
use Rattle.std.proofs.lemmas.List.Elements.{All-contains}
use Rattle.lists.proofs.Entries.{All-place}
use Rattle.lists.proofs.Errors.{IfErr-on}
use Rattle.lists.proofs.Places.{Contains-at}
use Rattle.expansion_laws.specs.Keys.{IsKeyOfStep}
use Rattle.shape_pool.specs.declared.node.UseOf.{UseOf}
use Rattle.requests.specs.Plans.{ids_of}
use Rattle.key_results.specs.declared.fault.ApplyFault.TheVariants.{NoMemory}
use Rattle.key_results.specs.declared.key.Key.{Key}
use Rattle.key_results.specs.Memos.{key_by, IsHeldKey}
use Rattle.reshape.proofs.TableLaws.{grows-none, grows-on}
use Rattle.reshape.specs.Collecting.{IsDemanded}
use Rattle.reshape.proofs.StepLaws.{a-step, older, wider}
use Rattle.reshape.proofs.NoteLaws.{found-wider}
use Rattle.reshape.proofs.TurnLaws.{asked-demanded, collected-none, collected-next, collected-all, has-asked}
use Rattle.reshape.proofs.UseLaws.{wider-places}
use Rattle.reshape.proofs.collect.collect_from.Goals as goal

pub returns-in_err-asked-clause-refused : goal.returns-in_err-asked-clause-refused
returns-in_err-asked-clause-refused c =
    IfErr-on c.from_residual.result NoMemory _ c.from_residual.ensures.1 (λ root s word it r all. tt)

pub loop-i-init : goal.loop-i-init
loop-i-init c =
    let grows = c.in_ok-asked.ensures.grows in
    record {
      found = found-wider c.args.pool.now (length c.args.words.now) (length c.asked_of.new.words) c.args.plan.now.nodes
          c.args.found.now.keys.keys c.args.found.now.at.items c.args.found.now.worded grows.grows c.requires.found;
      more = λ k m. m;
      grows = grows-none c.asked_of.new.words grows.table;
      collects = λ root s word it demanded.
          collected-none c.args.pool.now s word c.args.plan.now.nodes c.args.key c.in_ok-asked.asked.mover
          c.args.found.now.keys.keys c.args.found.now.at.items;
    }

pub collect_use-requires-clause-places : goal.collect_use-requires-clause-places
collect_use-requires-clause-places c =
    let a = c.in_ok-asked.ensures.grows.grows in
    let b = c.loop-i.invariant.grows.grows in
    wider-places c.args.pool.now (length c.args.words.now) (length c.loop-i.words) (omega (arith, a, b))
    c.requires.places

pub collect_use-requires-clause-from : goal.collect_use-requires-clause-from
collect_use-requires-clause-from c =
    All-contains (IsHeldKey c.args.pool.now (length c.loop-i.words)) c.loop-i.found.keys.keys c.args.key
    c.loop-i.invariant.found.held
    (c.loop-i.invariant.more c.args.key c.requires.key)

pub collect_use-requires-clause-mover : goal.collect_use-requires-clause-mover
collect_use-requires-clause-mover c =
    let h = c.in_ok-asked.ensures.held.mover in
    let b = c.loop-i.invariant.grows.grows in
    ((let x = h.0 in omega (arith, x, b)), (let x = h.1 in omega (arith, x, b)))

pub collect_use-requires-clause-id : goal.collect_use-requires-clause-id
collect_use-requires-clause-id c =
    (All-place (λ (u : UseOf). (u.id.0 < length c.args.pool.now) × (u.place.0 < length c.asked_of.new.words))
    c.in_ok-asked.asked.uses.items c.loop-i.i
    c.asked_at-u.result c.in_ok-asked.ensures.held.uses c.asked_at-u.ensures).0

pub collect_use-requires-clause-own : goal.collect_use-requires-clause-own
collect_use-requires-clause-own c =
    let h =
    (All-place (λ (u : UseOf). (u.id.0 < length c.args.pool.now) × (u.place.0 < length c.asked_of.new.words))
    c.in_ok-asked.asked.uses.items c.loop-i.i
    c.asked_at-u.result c.in_ok-asked.ensures.held.uses c.asked_at-u.ensures).1 in
    let b = c.loop-i.invariant.grows.grows in
    omega (arith, h, b)

pub collect_use-requires-clause-planned : goal.collect_use-requires-clause-planned
collect_use-requires-clause-planned c =
    Contains-at (ids_of c.args.plan.now.nodes) c.args.at c.args.key.id.0 c.requires.at

pub collect_use-requires-clause-found : goal.collect_use-requires-clause-found
collect_use-requires-clause-found c = c.loop-i.invariant.found

pub returns-in_err-collect_use-clause-refused : goal.returns-in_err-collect_use-clause-refused
returns-in_err-collect_use-clause-refused c =
    let rows = c.args.pool.now in
    let n = length c.args.words.now in
    let plan = c.args.plan.now in
    let key = c.args.key in
    let asked = c.in_ok-asked.asked in
    let mid = c.loop-i.words in
    let new = c.collect_use.new.words in
    let grows = c.in_err-collect_use.ensures.grows in
    let a = c.in_ok-asked.ensures.grows.grows in
    let b = c.loop-i.invariant.grows.grows in
    let le : n ≤ length mid = omega (arith, a, b) in
    IfErr-on c.from_residual-in_err-collect_use.result c.in_err-collect_use.field-0.0 _
    c.from_residual-in_err-collect_use.ensures.1 (λ root s word it r all.
    let asks = c.in_ok-asked.ensures.asks root s word
    (older rows n root plan c.asked_of.new.words new s word
    (grows-on c.asked_of.new.words mid new c.loop-i.invariant.grows grows) it) in
    let demanded : (u : UseOf) → Contains asked.uses.items u → IsDemanded rows s word key asked.mover u =
    asked-demanded rows s word key asked asks in
    let so-far = c.loop-i.invariant.collects root s word (older rows n root plan mid new s word grows it) demanded in
    let of-step = All-contains (λ (k : Key). IsKeyOfStep s r (key_by word rows k)) c.args.found.now.keys.keys key all
    c.requires.key in
    c.in_err-collect_use.ensures.refused root s word (wider rows n (length mid) root plan new s word le it)
    (demanded c.asked_at-u.result (Contains-at asked.uses.items c.loop-i.i c.asked_at-u.result c.asked_at-u.ensures)) r
    (so-far.sound r all of-step) of-step)

pub loop-i-preserved : goal.loop-i-preserved
loop-i-preserved c =
    let rows = c.args.pool.now in
    let n = length c.args.words.now in
    let plan = c.args.plan.now in
    let key = c.args.key in
    let asked = c.in_ok-asked.asked in
    let mid = c.loop-i.words in
    let new = c.collect_use.new.words in
    let grows = c.in_ok-collect_use.ensures.grows in
    let a = c.in_ok-asked.ensures.grows.grows in
    let b = c.loop-i.invariant.grows.grows in
    let le : n ≤ length mid = omega (arith, a, b) in
    record {
      found = c.in_ok-collect_use.ensures.found;
      more = λ k m. c.in_ok-collect_use.ensures.more k (c.loop-i.invariant.more k m);
      grows = grows-on c.asked_of.new.words mid new c.loop-i.invariant.grows grows;
      collects = λ root s word it demanded.
          collected-next rows s word plan.nodes key asked.mover asked.uses.items c.loop-i.i c.asked_at-u.result
          c.args.found.now.keys.keys c.loop-i.found.keys.keys c.collect_use.new.found.keys.keys
          c.args.found.now.at.items c.loop-i.found.at.items c.collect_use.new.found.at.items c.asked_at-u.ensures
          c.in_ok-collect_use.ensures.more
          (c.loop-i.invariant.collects root s word (older rows n root plan mid new s word grows it) demanded)
          (c.in_ok-collect_use.ensures.collects root s word (wider rows n (length mid) root plan new s word le it)
          (demanded c.asked_at-u.result (Contains-at asked.uses.items c.loop-i.i c.asked_at-u.result
          c.asked_at-u.ensures)));
    }

pub returns-clause-found : goal.returns-clause-found
returns-clause-found c = c.loop-i.invariant.found

pub returns-clause-more : goal.returns-clause-more
returns-clause-more c = c.loop-i.invariant.more

pub returns-clause-later : goal.returns-clause-later
returns-clause-later c = λ q le.
    let rows = c.args.pool.now in
    let n = length c.args.words.now in
    let plan = c.args.plan.now in
    let words = c.loop-i.words in
    let some = a-step rows n plan words c.laws.ensures c.loop-i.invariant.grows.table c.requires.table in
    let asks = c.in_ok-asked.ensures.asks some.0 some.1 some.2
    (older rows n some.0 plan c.asked_of.new.words words some.1 some.2 c.loop-i.invariant.grows some.3) in
    (c.loop-i.invariant.collects some.0 some.1 some.2 some.3
    (asked-demanded rows some.1 some.2 c.args.key c.in_ok-asked.asked asks)).earlier c.args.at q c.requires.at le

pub returns-clause-has : goal.returns-clause-has
returns-clause-has c = λ root s word it.
    let rows = c.args.pool.now in
    let n = length c.args.words.now in
    let plan = c.args.plan.now in
    let asked = c.in_ok-asked.asked in
    let words = c.loop-i.words in
    let asks = c.in_ok-asked.ensures.asks root s word
    (older rows n root plan c.asked_of.new.words words s word c.loop-i.invariant.grows it) in
    let all = c.loop-i.invariant.collects root s word it (asked-demanded rows s word c.args.key asked asks) in
    has-asked rows s word plan.nodes c.args.key asked c.args.found.now.keys.keys c.loop-i.found.keys.keys
    c.args.found.now.at.items c.loop-i.found.at.items asks
    (collected-all rows s word plan.nodes c.args.key asked.mover asked.uses.items c.loop-i.i c.args.found.now.keys.keys
    c.loop-i.found.keys.keys
    c.args.found.now.at.items c.loop-i.found.at.items (omega arith) all)

pub returns-clause-sound : goal.returns-clause-sound
returns-clause-sound c = λ root s word it r all.
    let rows = c.args.pool.now in
    let n = length c.args.words.now in
    let plan = c.args.plan.now in
    let words = c.loop-i.words in
    let asks = c.in_ok-asked.ensures.asks root s word
    (older rows n root plan c.asked_of.new.words words s word c.loop-i.invariant.grows it) in
    (c.loop-i.invariant.collects root s word it (asked-demanded rows s word c.args.key c.in_ok-asked.asked asks)).sound
    r all
    (All-contains (λ (k : Key). IsKeyOfStep s r (key_by word rows k)) c.args.found.now.keys.keys c.args.key all
    c.requires.key)

pub returns-clause-grows : goal.returns-clause-grows
returns-clause-grows c =
    grows-on c.args.words.now c.asked_of.new.words c.loop-i.words c.in_ok-asked.ensures.grows c.loop-i.invariant.grows

pub returns-in_err-collect_use-clause-grows : goal.returns-in_err-collect_use-clause-grows
returns-in_err-collect_use-clause-grows c =
    grows-on c.args.words.now c.asked_of.new.words c.collect_use.new.words c.in_ok-asked.ensures.grows
    (grows-on c.asked_of.new.words c.loop-i.words c.collect_use.new.words c.loop-i.invariant.grows
    c.in_err-collect_use.ensures.grows)

pub asked_of-requires-clause-key : goal.asked_of-requires-clause-key
asked_of-requires-clause-key c =
    All-contains (IsHeldKey c.args.pool.now (length c.args.words.now)) c.args.found.now.keys.keys c.args.key
    c.requires.found.held c.requires.key
