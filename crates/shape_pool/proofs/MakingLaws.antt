-- Nodes over held ones.
use Rattle.std.proofs.Common.{◌≡◌, ◌<◌, ◌+◌, ℕ, List, map, take, ◌++◌, ◌∷◌, [], length}
use Rattle.std.proofs.Common.{arith, sym, ◌∙◌, ap, subst, slice_get, slice_index_or, Some}
use Rattle.std.specs.Prelude.{max}
use Rattle.std.specs.Option.{option_map, option_map_or}
use Rattle.std.proofs.lemmas.List.{map-append, take_more}
use Rattle.std.proofs.lemmas.List.Elements.{All-push}
use Rattle.std.proofs.lemmas.Option.{slice_get-map}
use Rattle.std.specs.declared.alloc.Global.{Global}
use Rattle.std.specs.declared.rc.Rc.{Rc}
use Rattle.shape_pool.specs.declared.node.UseOf.{UseOf}
use Rattle.shape_pool.specs.declared.node.Node.{Node, Node-F, out-Node, roll-Node, out-roll-Node}
use Rattle.shape_pool.specs.declared.node.NodeUse.{NodeUse, NodeUse-F, roll-NodeUse, out-roll-NodeUse}
use Rattle.shape_pool.specs.declared.held.Held.{Held}
use Rattle.shape_pool.specs.Nodes.{by_number, node_id, node_kind, node_origin, node_uses}
use Rattle.shape_pool.specs.Rows.{Row, greatest, kind_at, origin_at}
use Rattle.shape_pool.specs.Held.{AreUses, HaveIds, IsNext, IsShared, row_of}
use Rattle.shape_pool.proofs.HeldOfLaws.{node-at}
use Rattle.orientation.specs.declared.kind.Kind.TheVariants.{Co}
use Rattle.orientation.specs.declared.kind.Kind.{Kind}
use Rattle.orientation.specs.declared.turn.Turn.TheVariants.{Forward}

greatest-push : (size : ℕ → ℕ) (us : List UseOf) (u : UseOf) →
    greatest size (us ++ u ∷ []) ≡ max (greatest size us) (size u.id.0)
greatest-push size [] u = omega arith
greatest-push size (v ∷ us) u = let h = greatest-push size us u in omega (arith, h)

-- one more use
pub greatest-more : (size : ℕ → ℕ) (uses : List UseOf) (i : ℕ) (d : UseOf) (deepest new : ℕ) → i < length uses →
    deepest ≡ greatest size (take i uses) → new ≡ max deepest (size (slice_index_or uses i d).id.0) →
    new ≡ greatest size (take (i + 1) uses)
greatest-more size uses i d deepest new lt is n =
    n ∙ ap (λ k. max k (size (slice_index_or uses i d).id.0)) is ∙
    sym (greatest-push size (take i uses) (slice_index_or uses i d)) ∙ ap (greatest size) (sym (take_more uses i d lt))

-- a use made of a copy of a held node
pub use-made : (held : List Held) → HaveIds held → (u : UseOf) (m copy : Rc Node Global) →
    option_map (λ (h : Held). h.node) (slice_get held u.id.0) ≡ Some m → copy.value ≡ m.value →
    (by_number (roll-NodeUse (record { turn = u.turn; place = u.place; node = copy })) ≡ u) ×
    IsShared held (roll-NodeUse (record { turn = u.turn; place = u.place; node = copy }))
use-made held ids u m copy e is =
    let q = node-at held u.id.0 m e in
    let same : copy.value ≡ q.0.node.value = is ∙ ap (λ (x : Rc Node Global). x.value) (sym q.2) in
    let id : node_id copy.value ≡ u.id.0 = ap node_id same ∙ ids u.id.0 q.0 q.1 in
    let fields = out-roll-NodeUse (record { turn = u.turn; place = u.place; node = copy }) in
    let number : NodeUse-F Node NodeUse → UseOf =
    λ n. record { turn = n.turn; place = n.place; id = (out-Node n.node.value).id } in
    let named : (out-Node copy.value).id ≡ u.id = (λ j. record { 0 = id j }) in (
      ap number fields ∙ (λ j. record { turn = u.turn; place = u.place; id = named j }),
      (
        q.0,
        ap (λ (n : NodeUse-F Node NodeUse). slice_get held (node_id n.node.value)) fields ∙ ap (slice_get held) id ∙
            q.1,
        ap (λ (n : NodeUse-F Node NodeUse). n.node.value) fields ∙ same,
      ),
    )

pub uses-more : (held : List Held) (uses : List UseOf) (made new : List NodeUse) (child : NodeUse) (i : ℕ) (d : UseOf) →
    i < length uses → new ≡ made ++ child ∷ [] →
    by_number child ≡ slice_index_or uses i d → IsShared held child → AreUses held (take i uses) made →
    AreUses held (take (i + 1) uses) new
uses-more held uses made new child i d lt n is shared h = rw n (
  map-append by_number made (child ∷ []) ∙ (λ j. h.0 j ++ is j ∷ []) ∙ sym (take_more uses i d lt),
  All-push (IsShared held) made child h.1 shared,
)

-- a new node of these fields
pub node-next : (held : List Held) (k : Kind) (o : ℕ) (us : List UseOf) (n : Node-F Node NodeUse) →
    n.id.0 ≡ length held → n.kind ≡ k → n.origin ≡ o → AreUses held us n.uses.items → IsNext held k o us (roll-Node n)
node-next held k o us n id kind origin uses = record {
  id = ap (λ (m : Node-F Node NodeUse). m.id.0) (out-roll-Node n) ∙ id;
  kind = ap (λ (m : Node-F Node NodeUse). m.kind) (out-roll-Node n) ∙ kind;
  origin = ap (λ (m : Node-F Node NodeUse). m.origin) (out-roll-Node n) ∙ origin;
  uses = subst (λ (m : Node-F Node NodeUse). AreUses held us m.uses.items) (sym (out-roll-Node n)) uses;
}

-- a use of no meaning, for places past the end
abbrev pub any_use : UseOf
any_use = record { turn = Forward; place = record { 0 = 0 }; id = record { 0 = 0 } }

-- a held node's kind and origin over other uses
pub changed-next : (held : List Held) (i : ℕ) (m : Rc Node Global) (us : List UseOf) (n : Node) →
    option_map (λ (h : Held). h.node) (slice_get held i) ≡ Some m →
    node_id n ≡ length held → node_kind n ≡ node_kind m.value → node_origin n ≡ node_origin m.value →
    AreUses held us (node_uses n) →
    IsNext held (kind_at (map row_of held) i) (origin_at (map row_of held) i) us n
changed-next held i m us n e id kind origin uses =
    let q = node-at held i m e in
    let at : slice_get (map row_of held) i ≡ Some (row_of q.0) =
    slice_get-map row_of held i ∙ ap (option_map row_of) q.1 in
    let same : m.value ≡ q.0.node.value = ap (λ (x : Rc Node Global). x.value) (sym q.2) in
    record {
      id = id;
      kind = kind ∙ ap node_kind same ∙ ap (λ o. option_map_or (λ (r : Row). r.kind) o Co) (sym at);
      origin = origin ∙ ap node_origin same ∙ ap (λ o. option_map_or (λ (r : Row). r.origin) o 0) (sym at);
      uses = uses;
    }
