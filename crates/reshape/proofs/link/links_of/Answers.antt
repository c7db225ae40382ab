-- One link more.
use Rattle.std.proofs.Common.{arith, ◌<◌, [], List, All, length, sym, subst}
use Rattle.std.proofs.lemmas.List.Elements.{All-nil, All-weaker}
use Rattle.lists.proofs.Entries.{All-place}
use Rattle.lists.proofs.Errors.{IfErr-on}
use Rattle.lists.proofs.Places.{Contains-at}
use Rattle.key_results.specs.declared.derive.Link.{Link}
use Rattle.shape_pool.specs.declared.node.UseOf.{UseOf}
use Rattle.reshape.proofs.TableLaws.{grows-none, grows-on}
use Rattle.reshape.specs.Collecting.{AreLinksTo}
use Rattle.reshape.proofs.StepLaws.{older, wider}
use Rattle.reshape.proofs.LinkLaws.{keys-wider, links-all, links-next, links-none}
use Rattle.reshape.proofs.UseLaws.{wider-places}
use Rattle.reshape.proofs.link.links_of.Goals as goal

pub loop-i-init : goal.loop-i-init
loop-i-init c = record {
  grows = grows-none c.args.words.now c.len.ensures.table;
  links = λ root s word it have.
      subst (AreLinksTo c.args.pool.now s word c.args.keys.now.keys c.args.from c.args.asked.now.mover [])
      (sym c.new-links.ensures.items)
      (links-none c.args.pool.now s word c.args.keys.now.keys c.args.from c.args.asked.now.mover);
  placed =
      subst (λ (l : List Link). All (λ (k : Link). k.place.0 < length c.args.words.now) l)
      (sym c.new-links.ensures.items)
      (All-nil (λ (k : Link). k.place.0 < length c.args.words.now));
}

pub link_use-requires-clause-places : goal.link_use-requires-clause-places
link_use-requires-clause-places c =
    wider-places c.args.pool.now (length c.args.words.now) (length c.loop-i.words) c.loop-i.invariant.grows.grows
    c.requires.places

pub link_use-requires-clause-held : goal.link_use-requires-clause-held
link_use-requires-clause-held c =
    keys-wider c.args.pool.now (length c.args.words.now) (length c.loop-i.words) c.args.keys.now.keys
    c.loop-i.invariant.grows.grows c.requires.held

pub link_use-requires-clause-from : goal.link_use-requires-clause-from
link_use-requires-clause-from c =
    let a = c.requires.from in let b = c.loop-i.invariant.grows.grows in omega (arith, a, b)

pub link_use-requires-clause-mover : goal.link_use-requires-clause-mover
link_use-requires-clause-mover c =
    let h = c.requires.asked.mover in
    let b = c.loop-i.invariant.grows.grows in
    ((let x = h.0 in omega (arith, x, b)), (let x = h.1 in omega (arith, x, b)))

pub link_use-requires-clause-id : goal.link_use-requires-clause-id
link_use-requires-clause-id c =
    (All-place (λ (u : UseOf). (u.id.0 < length c.args.pool.now) × (u.place.0 < length c.args.words.now))
    c.args.asked.now.uses.items c.loop-i.i
    c.asked_at-u.result c.requires.asked.uses c.asked_at-u.ensures).0

pub link_use-requires-clause-own : goal.link_use-requires-clause-own
link_use-requires-clause-own c =
    let h =
    (All-place (λ (u : UseOf). (u.id.0 < length c.args.pool.now) × (u.place.0 < length c.args.words.now))
    c.args.asked.now.uses.items c.loop-i.i
    c.asked_at-u.result c.requires.asked.uses c.asked_at-u.ensures).1 in
    let b = c.loop-i.invariant.grows.grows in
    omega (arith, h, b)

pub link_use-requires-clause-planned : goal.link_use-requires-clause-planned
link_use-requires-clause-planned c = c.requires.planned

pub returns-in_err-link_use-clause-refused : goal.returns-in_err-link_use-clause-refused
returns-in_err-link_use-clause-refused c =
    let rows = c.args.pool.now in
    let n = length c.args.words.now in
    let plan = c.args.plan.now in
    let mid = c.loop-i.words in
    let new = c.link_use.new.words in
    IfErr-on c.from_residual.result c.in_err-link_use.field-0.0 _ c.from_residual.ensures.1
    (λ root s word it have. c.in_err-link_use.ensures.refused root s word
    (wider rows n (length mid) root plan new s word c.loop-i.invariant.grows.grows it)
    (have c.asked_at-u.result (Contains-at c.args.asked.now.uses.items c.loop-i.i c.asked_at-u.result
    c.asked_at-u.ensures)).1)

pub returns-in_err-link_use-clause-grows : goal.returns-in_err-link_use-clause-grows
returns-in_err-link_use-clause-grows c =
    grows-on c.args.words.now c.loop-i.words c.link_use.new.words c.loop-i.invariant.grows
    c.in_err-link_use.ensures.grows

pub loop-i-preserved : goal.loop-i-preserved
loop-i-preserved c =
    let rows = c.args.pool.now in
    let n = length c.args.words.now in
    let plan = c.args.plan.now in
    let keys = c.args.keys.now.keys in
    let asked = c.args.asked.now in
    let mid = c.loop-i.words in
    let new = c.link_use.new.words in
    let grows = c.in_ok-link_use.ensures.grows in
    record {
      grows = grows-on c.args.words.now mid new c.loop-i.invariant.grows grows;
      links = λ root s word it have.
          let h =
          have c.asked_at-u.result (Contains-at asked.uses.items c.loop-i.i c.asked_at-u.result
          c.asked_at-u.ensures) in
          let l = c.in_ok-link_use.ensures.links root s word
          (wider rows n (length mid) root plan new s word c.loop-i.invariant.grows.grows it) h.0 h.1 in
          links-next rows s word keys c.args.from asked.mover asked.uses.items c.loop-i.i c.asked_at-u.result
          c.loop-i.links.items c.link_use.new.links.items
          l.0 c.asked_at-u.ensures l.1 l.2 (c.loop-i.invariant.links root s word
          (older rows n root plan mid new s word grows it) have);
      placed = c.in_ok-link_use.ensures.placed n
          (All-place (λ (u : UseOf). (u.id.0 < length rows) × (u.place.0 < n)) asked.uses.items c.loop-i.i
          c.asked_at-u.result c.requires.asked.uses c.asked_at-u.ensures).1 c.loop-i.invariant.placed;
    }

pub returns-clause-links : goal.returns-clause-links
returns-clause-links c = λ root s word it have.
    links-all c.args.pool.now s word c.args.keys.now.keys c.args.from c.args.asked.now.mover c.args.asked.now.uses.items
    c.loop-i.i c.loop-i.links.items
    (omega arith) (c.loop-i.invariant.links root s word it have)

pub returns-clause-placed : goal.returns-clause-placed
returns-clause-placed c =
    let b = c.loop-i.invariant.grows.grows in
    All-weaker (λ (l : Link). l.place.0 < length c.args.words.now) (λ (l : Link). l.place.0 < length c.loop-i.words)
    (λ l h. omega (arith, h, b))
    c.loop-i.links.items c.loop-i.invariant.placed

pub returns-clause-grows : goal.returns-clause-grows
returns-clause-grows c = c.loop-i.invariant.grows
