-- Why nodes aren't made.
use Rattle.std.proofs.Common.{◌≡◌, ◌<◌, ◌⊎◌, ℕ, Bool, true, List, map, [], Contains, length}
use Rattle.std.proofs.Common.{arith, sym, ◌∙◌, ap, subst, slice_get, Some, inl, inr}
use Rattle.std.specs.Prelude.{nat_lt, unwrap_or}
use Rattle.std.proofs.lemmas.Bool.{ltb-true, ltb-false}
use Rattle.lists.proofs.Cases.{by_test}
use Rattle.lists.proofs.Places.{at_place, Contains-at}
use Rattle.location_words.specs.declared.pair.Pair.{Pair}
use Rattle.expansion_laws.specs.Trees.{Use, tree_of}
use Rattle.shape_pool.specs.declared.node.NodeId.{NodeId}
use Rattle.shape_pool.specs.declared.node.UseOf.{UseOf}
use Rattle.shape_pool.specs.declared.fault.PoolFault.{PoolFault}
use Rattle.shape_pool.specs.declared.fault.PoolFault.TheVariants.{TooMany, TooDeep, NoMemory as NoMemoryForNode}
use Rattle.shape_pool.specs.Rows.{Row, use_by, tree_at, trees_of, most_depth, AllHeld, AllPlaced, HasPlaces}
use Rattle.shape_pool.specs.Calls.{IsRefused, Keeps}
use Rattle.shape_pool.specs.Laws.{IsSound, TellsBelow}
use Rattle.key_results.specs.declared.derive.Visit.{Visit}
use Rattle.key_results.specs.declared.fault.ApplyFault.{ApplyFault}
use Rattle.key_results.specs.declared.fault.ApplyFault.TheVariants.{Limit, NoMemory}
use Rattle.key_results.specs.declared.fault.LimitKind.TheVariants.{FileBytes, ScriptBytes, ScriptLines}
use Rattle.key_results.specs.declared.fault.LimitKind.TheVariants.{Steps, Rank, Keys, WordPairs}
use Rattle.key_results.specs.declared.fault.LimitKind.TheVariants.{WordPower, Uses, Depth, Nodes, Pairs}
use Rattle.key_results.specs.declared.parts.Outgrowth.{Outgrowth}
use Rattle.key_results.specs.Faults.{of_node}
use Rattle.key_results.specs.Derivations.{results_of}
use Rattle.key_results.specs.Parts.{own_at, AreOutgrowths}
use Rattle.key_results.specs.Grown.{AreNewOwn, IsMakingRefused, IsNodeRefused, IsOwn, StandForOwn}
use Rattle.key_results.proofs.GrownLaws.{length-trees, depth-of-over, one-too-many}
use Rattle.key_results.proofs.OwnerLaws.{own-place}

pub node-refused : (rows : List Row) (o : ℕ) (us : List UseOf) (f : PoolFault) → IsRefused rows o us f →
    IsNodeRefused rows o us (of_node f)
node-refused rows o us (TooMany n) h = h
node-refused rows o us (TooDeep n) h = h
node-refused rows o us NoMemoryForNode h = tt

-- a held tree stands in the list of trees
pub tree-listed : (word : ℕ → List Pair) (rows : List Row) (i : ℕ) → i < length rows →
    Contains (trees_of word rows) (tree_at word rows i)
tree-listed word rows i lt =
    let long = length-trees word rows in
    let p = at_place (trees_of word rows) i (omega (arith, lt, long)) in
    subst (Contains (trees_of word rows)) (sym (ap (λ o. unwrap_or o (tree_of 0 [])) p.1))
    (Contains-at (trees_of word rows) i p.0 p.1)

module _ (old cur : List Row) (keeps : Keeps old cur) (sound : IsSound cur) (visits : List Visit)
    (outgrowths : List Outgrowth) (nodes : List NodeId) (stand : StandForOwn old cur visits outgrowths nodes)
    (news : AreNewOwn old cur outgrowths nodes) (word : ℕ → List Pair) (prune : Bool) (n : ℕ)
    (tells : TellsBelow n word) (places : HasPlaces cur n)
    (are : AreOutgrowths word (results_of word (tree_at word old) prune visits) prune visits outgrowths) where
  abbrev R : List (List Use)
  R = results_of word (tree_at word old) prune visits

  -- a tree that is held by now was held, or is one of its own that comes of some key
  pub held-so-far : (i : ℕ) → i < length cur →
      Contains (trees_of word old) (tree_at word cur i) ⊎
      IsOwn word (tree_at word old) prune visits outgrowths (tree_at word cur i)
  held-so-far i lt =
      by_test (nat_lt i (length old))
      (λ e. let a = ltb-true i (length old) e in inl
      (subst (Contains (trees_of word old)) (sym (keeps.trees word i a)) (tree-listed word old i a)))
      (λ e. let a = ltb-false i (length old) e in
      let h = news i (omega (arith, a)) lt in
      let q = own-place outgrowths h.0 h.4 in
      inr (h.0, q.0, q.1, q.2, sym (stand word h.0 q.0 h.1 prune are q.1 h.2 q.2) ∙ ap (tree_at word cur) h.3))

  -- the fault of a rebuild is that of a tree of its own
  pub making-refused : (k o : ℕ) (q : Outgrowth) (us : List UseOf) (fault : ApplyFault) →
      slice_get outgrowths k ≡ Some q → q.own ≡ true →
      own_at R k ≡ tree_of o (map (use_by word (tree_at word cur)) us) → AllHeld cur us → AllPlaced n us →
      IsNodeRefused cur o us fault →
      IsMakingRefused old visits outgrowths fault word prune
  making-refused k o q us (Limit Nodes m) has own is held placed h = (
    one-too-many cur sound n word places tells (λ x.
        Contains (trees_of word old) x ⊎ IsOwn word (tree_at word old) prune visits outgrowths x) o us held placed
        h.1 h.2 held-so-far (inr (k, q, has, own, is)),
    h.3,
  )
  making-refused k o q us (Limit Depth m) has own is held placed h =
      let deep = depth-of-over cur sound word o us in (
        tree_of o (map (use_by word (tree_at word cur)) us),
        (k, q, has, own, is),
        subst (λ (d : ℕ). most_depth < d) (sym deep) h.0,
        h.1 ∙ sym deep,
      )
  making-refused k o q us (Limit FileBytes m) has own is held placed h = h
  making-refused k o q us (Limit ScriptBytes m) has own is held placed h = h
  making-refused k o q us (Limit ScriptLines m) has own is held placed h = h
  making-refused k o q us (Limit Steps m) has own is held placed h = h
  making-refused k o q us (Limit Rank m) has own is held placed h = h
  making-refused k o q us (Limit Keys m) has own is held placed h = h
  making-refused k o q us (Limit WordPairs m) has own is held placed h = h
  making-refused k o q us (Limit WordPower m) has own is held placed h = h
  making-refused k o q us (Limit Uses m) has own is held placed h = h
  making-refused k o q us (Limit Pairs m) has own is held placed h = h
  making-refused k o q us NoMemory has own is held placed h = tt
