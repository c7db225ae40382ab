-- One key more.
use Rattle.std.proofs.Common.{arith, ◌≡◌, ◌≤◌, ◌<◌, ◌∙◌, ◌++◌, ◌∷◌, [], List}
use Rattle.std.proofs.Common.{All, refl, sym, ap, subst, length, slice_get, Some}
use Rattle.std.proofs.lemmas.List.{length-append}
use Rattle.std.proofs.lemmas.Option.{slice_get_within}
use Rattle.std.proofs.lemmas.Result.{err_from_is_err_and}
use Rattle.lists.proofs.Entries.{All-place}
use Rattle.shape_pool.specs.declared.node.NodeId.{NodeId}
use Rattle.shape_pool.specs.Rows.{kind_at, origin_at, AllBelow}
use Rattle.shape_pool.specs.Calls.{IsTreeOver}
use Rattle.key_results.specs.declared.derive.Visit.{Visit}
use Rattle.key_results.specs.declared.parts.Part.{Part}
use Rattle.key_results.specs.Grown.{node_uses, AreNewOwn, IsNodeRefused, KeepKinds, StandForOwn}
use Rattle.key_results.proofs.LinkTurns.{read-at}
use Rattle.key_results.proofs.GrownOwn.{own-over}
use Rattle.key_results.proofs.GrownTurns.{keeps-none, keeps-on, loaded-none, loaded-on, extends-none, extends-on}
use Rattle.key_results.proofs.GrownTurns.{nodes-held, parts-below, parts-within}
use Rattle.key_results.proofs.GrownTurns.{parts-placed-at, kinds-next, news-next, stands-next}
use Rattle.key_results.proofs.GrownFaults.{making-refused}
use Rattle.key_results.proofs.OwnerLaws.{owners-at}
use Rattle.key_results.proofs.NewRoot.{uses-held, uses-placed}
use Rattle.key_results.proofs.rebuild.nodes_of.Goals as goal

pub loop-k-init : goal.loop-k-init
loop-k-init g c =
    let n = ap length c.new-nodes.ensures.items in
    record {
      long = n;
      within = omega arith;
      kinds = λ k v w a b. let lt = slice_get_within c.new-nodes.result.items k w b in absurd (omega (arith, lt, n));
      stand = λ word k o w prune are a b own. let lt = slice_get_within c.new-nodes.result.items k w b in
          absurd (omega (arith, lt, n));
      more = λ i a b. absurd (omega (arith, a, b));
      extends = extends-none c.args.pool.now;
      kept = keeps-none c.args.pool.now;
      loaded = loaded-none c.args.pool.now;
      places = λ n old held. old;
      rise = omega arith;
      most = omega arith;
    }

pub bounds-outgrowths-k : goal.bounds-outgrowths-k
bounds-outgrowths-k g c = omega (arith, c.loop-k-test.true, c.requires.long)

pub node_of-requires-clause-id : goal.node_of-requires-clause-id
node_of-requires-clause-id g c =
    let old = c.args.pool.now in
    let cur = c.loop-k.pool in
    let visits = c.args.visits.now in
    let outgrowths = c.args.outgrowths.now in
    let nodes = c.loop-k.nodes.items in
    let inv = c.loop-k.invariant in
    let k = c.loop-k.k in
    let lt = c.loop-k-test.true in
    let v = c.index-visits-k.result in
    let o = c.index-outgrowths-k.result in
    let long = inv.long in
    let le : length nodes ≤ length visits = omega (arith, long, lt) in
    let at-k = read-at visits k v lt c.index-visits-k.is in
    let has-k = read-at outgrowths k o (omega (arith, lt, c.requires.long)) c.index-outgrowths-k.is in
    let at : slice_get visits (length nodes) ≡ Some v = ap (slice_get visits) long ∙ at-k in
    let has : slice_get outgrowths (length nodes) ≡ Some o = ap (slice_get outgrowths) long ∙ has-k in
    let within : v.id.0 < length old = All-place (λ (v : Visit). v.id.0 < length old) visits k v c.requires.held at-k in
    let earlier : All (λ (p : Part). p.of < length nodes) o.parts.items =
    parts-within c.requires.parts.0 outgrowths (length nodes) o c.requires.parts.1 has in
    let grows = inv.kept.grows in
    omega (arith, within, grows)

pub node_of-requires-clause-parts : goal.node_of-requires-clause-parts
node_of-requires-clause-parts g c =
    let old = c.args.pool.now in
    let cur = c.loop-k.pool in
    let visits = c.args.visits.now in
    let outgrowths = c.args.outgrowths.now in
    let nodes = c.loop-k.nodes.items in
    let inv = c.loop-k.invariant in
    let k = c.loop-k.k in
    let lt = c.loop-k-test.true in
    let v = c.index-visits-k.result in
    let o = c.index-outgrowths-k.result in
    let long = inv.long in
    let le : length nodes ≤ length visits = omega (arith, long, lt) in
    let at-k = read-at visits k v lt c.index-visits-k.is in
    let has-k = read-at outgrowths k o (omega (arith, lt, c.requires.long)) c.index-outgrowths-k.is in
    let at : slice_get visits (length nodes) ≡ Some v = ap (slice_get visits) long ∙ at-k in
    let has : slice_get outgrowths (length nodes) ≡ Some o = ap (slice_get outgrowths) long ∙ has-k in
    let within : v.id.0 < length old = All-place (λ (v : Visit). v.id.0 < length old) visits k v c.requires.held at-k in
    let earlier : All (λ (p : Part). p.of < length nodes) o.parts.items =
    parts-within c.requires.parts.0 outgrowths (length nodes) o c.requires.parts.1 has in
    subst (λ (ns : List NodeId). All (λ (p : Part). p.of < length ns) o.parts.items) (sym c.as_slice.ensures.value)
    earlier

pub node_of-requires-clause-nodes : goal.node_of-requires-clause-nodes
node_of-requires-clause-nodes g c =
    let old = c.args.pool.now in
    let cur = c.loop-k.pool in
    let visits = c.args.visits.now in
    let outgrowths = c.args.outgrowths.now in
    let nodes = c.loop-k.nodes.items in
    let inv = c.loop-k.invariant in
    let k = c.loop-k.k in
    let lt = c.loop-k-test.true in
    let v = c.index-visits-k.result in
    let o = c.index-outgrowths-k.result in
    let long = inv.long in
    let le : length nodes ≤ length visits = omega (arith, long, lt) in
    let at-k = read-at visits k v lt c.index-visits-k.is in
    let has-k = read-at outgrowths k o (omega (arith, lt, c.requires.long)) c.index-outgrowths-k.is in
    let at : slice_get visits (length nodes) ≡ Some v = ap (slice_get visits) long ∙ at-k in
    let has : slice_get outgrowths (length nodes) ≡ Some o = ap (slice_get outgrowths) long ∙ has-k in
    let within : v.id.0 < length old = All-place (λ (v : Visit). v.id.0 < length old) visits k v c.requires.held at-k in
    let earlier : All (λ (p : Part). p.of < length nodes) o.parts.items =
    parts-within c.requires.parts.0 outgrowths (length nodes) o c.requires.parts.1 has in
    subst (λ (ns : List NodeId). All (λ (n : NodeId). n.0 < length cur) ns) (sym c.as_slice.ensures.value)
    (nodes-held old cur visits nodes inv.kinds le)

pub node_of-requires-clause-below : goal.node_of-requires-clause-below
node_of-requires-clause-below g c =
    let old = c.args.pool.now in
    let cur = c.loop-k.pool in
    let visits = c.args.visits.now in
    let outgrowths = c.args.outgrowths.now in
    let nodes = c.loop-k.nodes.items in
    let inv = c.loop-k.invariant in
    let k = c.loop-k.k in
    let lt = c.loop-k-test.true in
    let v = c.index-visits-k.result in
    let o = c.index-outgrowths-k.result in
    let long = inv.long in
    let le : length nodes ≤ length visits = omega (arith, long, lt) in
    let at-k = read-at visits k v lt c.index-visits-k.is in
    let has-k = read-at outgrowths k o (omega (arith, lt, c.requires.long)) c.index-outgrowths-k.is in
    let at : slice_get visits (length nodes) ≡ Some v = ap (slice_get visits) long ∙ at-k in
    let has : slice_get outgrowths (length nodes) ≡ Some o = ap (slice_get outgrowths) long ∙ has-k in
    let within : v.id.0 < length old = All-place (λ (v : Visit). v.id.0 < length old) visits k v c.requires.held at-k in
    let earlier : All (λ (p : Part). p.of < length nodes) o.parts.items =
    parts-within c.requires.parts.0 outgrowths (length nodes) o c.requires.parts.1 has in
    λ e. subst (λ (ns : List NodeId). AllBelow cur (kind_at cur v.id.0) (node_uses v.id ns o.parts.items))
    (sym c.as_slice.ensures.value)
    (parts-below old cur visits nodes inv.kinds outgrowths v.id v o le inv.kept within c.requires.order at has earlier
    e)

pub loop-k-preserved : goal.loop-k-preserved
loop-k-preserved g c =
    let old = c.args.pool.now in
    let cur = c.loop-k.pool in
    let visits = c.args.visits.now in
    let outgrowths = c.args.outgrowths.now in
    let nodes = c.loop-k.nodes.items in
    let inv = c.loop-k.invariant in
    let k = c.loop-k.k in
    let lt = c.loop-k-test.true in
    let v = c.index-visits-k.result in
    let o = c.index-outgrowths-k.result in
    let long = inv.long in
    let le : length nodes ≤ length visits = omega (arith, long, lt) in
    let at-k = read-at visits k v lt c.index-visits-k.is in
    let has-k = read-at outgrowths k o (omega (arith, lt, c.requires.long)) c.index-outgrowths-k.is in
    let at : slice_get visits (length nodes) ≡ Some v = ap (slice_get visits) long ∙ at-k in
    let has : slice_get outgrowths (length nodes) ≡ Some o = ap (slice_get outgrowths) long ∙ has-k in
    let within : v.id.0 < length old = All-place (λ (v : Visit). v.id.0 < length old) visits k v c.requires.held at-k in
    let earlier : All (λ (p : Part). p.of < length nodes) o.parts.items =
    parts-within c.requires.parts.0 outgrowths (length nodes) o c.requires.parts.1 has in
    let ok = c.if-is_err.ensures.negation in
    let new = c.node_of.new.pool in
    let made = c.in_ok-id.id in
    let pushed : c.push.new.self.items ≡ nodes ++ made ∷ [] = c.push.ensures.items ∙ rw ok refl in
    let grown = c.in_ok-id.ensures.kept in
    let a = ap length pushed in
    let b = length-append nodes (made ∷ []) in
    let rise = inv.rise in
    let most = inv.most in
    let once = c.in_ok-id.ensures.steps.1 in
    let up = c.in_ok-id.ensures.steps.0 in
    record {
      long = omega (arith, a, b, long);
      within = omega (arith, lt);
      kinds = subst (KeepKinds old new visits) (sym pushed)
          (kinds-next old cur new visits outgrowths nodes v o made at has within inv.kept grown inv.kinds le
          c.in_ok-id.ensures.held c.in_ok-id.ensures.kind);
      stand = subst (StandForOwn old new visits outgrowths) (sym pushed)
          (stands-next old cur new visits outgrowths nodes v o made at has within inv.kept grown inv.kinds le
          c.laws.ensures c.requires.linked c.requires.own
          earlier inv.stand c.in_ok-id.ensures.stays
          (λ e own.
          subst
          (λ (ns : List NodeId). IsTreeOver cur (origin_at cur v.id.0) (node_uses v.id ns o.parts.items) new made.0)
          c.as_slice.ensures.value
          (c.in_ok-id.ensures.tree e own)));
      more = subst (AreNewOwn old new outgrowths) (sym pushed)
          (news-next old cur new visits outgrowths nodes v o made at has within inv.kept grown inv.kinds le inv.more
          c.in_ok-id.ensures.more);
      extends = extends-on old cur new inv.extends c.in_ok-id.ensures.extends;
      kept = keeps-on old cur new inv.kept grown;
      loaded = loaded-on old cur new inv.loaded c.in_ok-id.ensures.loaded;
      places =
          λ n first held. c.in_ok-id.ensures.places n (inv.places n first held)
          (parts-placed-at n outgrowths k o held has-k);
      rise = omega (arith, rise, up);
      most = omega (arith, most, once);
    }

pub returns-in_err-id-clause-refused : goal.returns-in_err-id-clause-refused
returns-in_err-id-clause-refused g c =
    let old = c.args.pool.now in
    let cur = c.loop-k.pool in
    let visits = c.args.visits.now in
    let outgrowths = c.args.outgrowths.now in
    let nodes = c.loop-k.nodes.items in
    let inv = c.loop-k.invariant in
    let k = c.loop-k.k in
    let lt = c.loop-k-test.true in
    let v = c.index-visits-k.result in
    let o = c.index-outgrowths-k.result in
    let long = inv.long in
    let le : length nodes ≤ length visits = omega (arith, long, lt) in
    let at-k = read-at visits k v lt c.index-visits-k.is in
    let has-k = read-at outgrowths k o (omega (arith, lt, c.requires.long)) c.index-outgrowths-k.is in
    let at : slice_get visits (length nodes) ≡ Some v = ap (slice_get visits) long ∙ at-k in
    let has : slice_get outgrowths (length nodes) ≡ Some o = ap (slice_get outgrowths) long ∙ has-k in
    let within : v.id.0 < length old = All-place (λ (v : Visit). v.id.0 < length old) visits k v c.requires.held at-k in
    let earlier : All (λ (p : Part). p.of < length nodes) o.parts.items =
    parts-within c.requires.parts.0 outgrowths (length nodes) o c.requires.parts.1 has in
    let h = c.in_err-id.ensures.refused in
    let fault = c.in_err-id.field-0.0 in
    let all-held = nodes-held old cur visits nodes inv.kinds le in
    let p = err_from_is_err_and c.from_residual.result c.from_residual.ensures.1 in
    rw (p.1, p.2) (λ word prune n tells first held are.
    making-refused old cur inv.kept c.laws.ensures visits outgrowths nodes inv.stand inv.more word prune n tells
    (inv.places n first held) are
    (length nodes) (origin_at cur v.id.0) o (node_uses v.id nodes o.parts.items) fault has h.0
    (own-over old cur inv.kept c.laws.ensures visits c.requires.linked outgrowths nodes inv.stand word prune are
    (length nodes) v o at has h.0 within v.id
    (owners-at outgrowths k o has-k c.requires.own) earlier h.1)
    (uses-held cur v.id nodes o.parts.items all-held earlier)
    (uses-placed n v.id nodes o.parts.items (parts-placed-at n outgrowths k o held has-k))
    (subst (λ (ns : List NodeId). IsNodeRefused cur (origin_at cur v.id.0) (node_uses v.id ns o.parts.items) fault)
    c.as_slice.ensures.value h.2))

pub returns-in_err-id-clause-extends : goal.returns-in_err-id-clause-extends
returns-in_err-id-clause-extends g c =
    extends-on c.args.pool.now c.loop-k.pool c.node_of.new.pool c.loop-k.invariant.extends c.in_err-id.ensures.extends

pub returns-in_err-id-clause-kept : goal.returns-in_err-id-clause-kept
returns-in_err-id-clause-kept g c =
    keeps-on c.args.pool.now c.loop-k.pool c.node_of.new.pool c.loop-k.invariant.kept c.in_err-id.ensures.kept

pub returns-in_err-id-clause-loaded : goal.returns-in_err-id-clause-loaded
returns-in_err-id-clause-loaded g c =
    loaded-on c.args.pool.now c.loop-k.pool c.node_of.new.pool c.loop-k.invariant.loaded c.in_err-id.ensures.loaded

pub returns-in_err-id-clause-places : goal.returns-in_err-id-clause-places
returns-in_err-id-clause-places g c = λ n first held.
    c.in_err-id.ensures.places n (c.loop-k.invariant.places n first held)
    (parts-placed-at n c.args.outgrowths.now c.loop-k.k c.index-outgrowths-k.result held
    (read-at c.args.outgrowths.now c.loop-k.k c.index-outgrowths-k.result
    (omega (arith, c.loop-k-test.true, c.requires.long)) c.index-outgrowths-k.is))

pub returns-in_err-id-clause-steps : goal.returns-in_err-id-clause-steps
returns-in_err-id-clause-steps g c =
    let rise = c.loop-k.invariant.rise in
    let most = c.loop-k.invariant.most in
    let lt = c.loop-k-test.true in
    let up = c.in_err-id.ensures.steps.0 in
    let once = c.in_err-id.ensures.steps.1 in
    (omega (arith, rise, up), omega (arith, most, once, lt))

pub returns-then-is_err-clause-extends : goal.returns-then-is_err-clause-extends
returns-then-is_err-clause-extends g c =
    extends-on c.args.pool.now c.loop-k.pool c.node_of.new.pool c.loop-k.invariant.extends c.in_ok-id.ensures.extends

pub returns-then-is_err-clause-kept : goal.returns-then-is_err-clause-kept
returns-then-is_err-clause-kept g c =
    keeps-on c.args.pool.now c.loop-k.pool c.node_of.new.pool c.loop-k.invariant.kept c.in_ok-id.ensures.kept

pub returns-then-is_err-clause-loaded : goal.returns-then-is_err-clause-loaded
returns-then-is_err-clause-loaded g c =
    loaded-on c.args.pool.now c.loop-k.pool c.node_of.new.pool c.loop-k.invariant.loaded c.in_ok-id.ensures.loaded

pub returns-then-is_err-clause-places : goal.returns-then-is_err-clause-places
returns-then-is_err-clause-places g c = λ n first held.
    c.in_ok-id.ensures.places n (c.loop-k.invariant.places n first held)
    (parts-placed-at n c.args.outgrowths.now c.loop-k.k c.index-outgrowths-k.result held
    (read-at c.args.outgrowths.now c.loop-k.k c.index-outgrowths-k.result
    (omega (arith, c.loop-k-test.true, c.requires.long)) c.index-outgrowths-k.is))

pub returns-then-is_err-clause-steps : goal.returns-then-is_err-clause-steps
returns-then-is_err-clause-steps g c =
    let rise = c.loop-k.invariant.rise in
    let most = c.loop-k.invariant.most in
    let lt = c.loop-k-test.true in
    let up = c.in_ok-id.ensures.steps.0 in
    let once = c.in_ok-id.ensures.steps.1 in
    (omega (arith, rise, up), omega (arith, most, once, lt))

pub returns-then-is_err-clause-refused : goal.returns-then-is_err-clause-refused
returns-then-is_err-clause-refused g c = λ word prune n tells first held are. tt

pub returns-clause-kinds : goal.returns-clause-kinds
returns-clause-kinds g c = c.loop-k.invariant.kinds

pub returns-clause-stand : goal.returns-clause-stand
returns-clause-stand g c = c.loop-k.invariant.stand

pub returns-clause-more : goal.returns-clause-more
returns-clause-more g c = c.loop-k.invariant.more

pub returns-clause-extends : goal.returns-clause-extends
returns-clause-extends g c = c.loop-k.invariant.extends

pub returns-clause-kept : goal.returns-clause-kept
returns-clause-kept g c = c.loop-k.invariant.kept

pub returns-clause-loaded : goal.returns-clause-loaded
returns-clause-loaded g c = c.loop-k.invariant.loaded

pub returns-clause-places : goal.returns-clause-places
returns-clause-places g c = c.loop-k.invariant.places

pub returns-clause-long : goal.returns-clause-long
returns-clause-long g c =
    let long = c.loop-k.invariant.long in
    let within = c.loop-k.invariant.within in
    let past = c.loop-k-test.false in
    omega (arith, long, within, past)

pub returns-clause-steps : goal.returns-clause-steps
returns-clause-steps g c =
    let rise = c.loop-k.invariant.rise in
    let most = c.loop-k.invariant.most in
    let within = c.loop-k.invariant.within in
    (omega (arith, rise), omega (arith, most, within))
