-- One made node more.
use Rattle.std.proofs.Common.{◌≡◌, ◌∙◌, sym, ap, subst, List, ◌++◌, ◌∷◌, [], ℕ, length, slice_get, Option, IfOk}
use Rattle.indexmap.specs.IndexSet.{insert_key}
use Rattle.shape_pool.specs.declared.held.Held.{Held}
use Rattle.shape_pool.specs.declared.held.Made.{Made}
use Rattle.shape_pool.specs.declared.node.Node.{Node}
use Rattle.shape_pool.specs.declared.node.NodeId.{NodeId}
use Rattle.shape_pool.specs.Nodes.{node_origin}
use Rattle.shape_pool.specs.Held.{made_eq, rows_of, HasNone, IsKnown, IsStock}
use Rattle.shape_pool.proofs.StockLaws.{made-inserted, made-more}
use Rattle.shape_pool.proofs.stock.Stock.add_made.Goals as goal

pub invariant_of-self : goal.invariant_of-self
invariant_of-self c =
    subst (λ (ms : List Made). IsStock c.self.inside.held ms (slice_get c.self.inside.loaded.items))
    (sym c.in_err-reserve.ensures.keys) c.self.invariant

pub invariant_of-self-2 : goal.invariant_of-self-2
invariant_of-self-2 c =
    let held : List Held = c.self.inside.held in
    let made : List Made = c.self.inside.made.keys in
    let key : Made = c.args.key in
    let noted : ℕ → Option NodeId = slice_get c.self.inside.loaded.items in
    let none : HasNone held key.node.value =
    subst (λ (hs : List Held). HasNone hs key.node.value) (sym c.self.view_is)
    (subst (λ (n : Node). HasNone c.args.self.now n) (sym c.requires.key) c.requires.new) in
    let known = subst (λ (hs : List Held). IsKnown (rows_of hs) (node_origin c.args.node.node.value))
    (sym c.self.view_is) c.requires.known in
    let put : c.insert.new.self.keys ≡ insert_key made_eq c.reserve.new.self.keys key =
    subst (λ r. IfOk r (λ b. c.insert.new.self.keys ≡ insert_key made_eq c.reserve.new.self.keys key)) c.unwrap.ensures
    c.insert.ensures.keys in
    let keys = made-inserted held made c.insert.new.self.keys c.self.invariant.found key none
    (put ∙ ap (λ (ms : List Made). insert_key made_eq ms key) c.in_ok-reserve.ensures.keys) in
    subst (λ (hs : List Held). IsStock hs c.insert.new.self.keys noted) (sym c.in_ok-push.ensures.ok)
    (subst (λ (ms : List Made). IsStock (held ++ c.args.node ∷ []) ms noted) (sym keys)
    (made-more held made c.args.node key c.requires.key (c.requires.id ∙ ap length (sym c.self.view_is)) known noted
    c.self.invariant))
