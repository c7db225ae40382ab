-- One visit more.
use Rattle.std.proofs.Common.{arith, ◌≡◌, ◌≤◌, ◌<◌, ◌+◌, [], ◌∙◌, sym, ap, subst}
use Rattle.std.proofs.Common.{refl, ℕ, List, All, map, take, length, slice_get, Some}
use Rattle.std.proofs.lemmas.Option.{slice_get-get_or}
use Rattle.location_words.specs.declared.pair.Pair.{Pair}
use Rattle.shape_pool.specs.Rows.{tree_at}
use Rattle.key_results.specs.declared.derive.Link.{Link}
use Rattle.key_results.specs.declared.weighing.Weight.{Weight}
use Rattle.key_results.specs.Derivations.{results_of, results_over, joined_by}
use Rattle.key_results.specs.Weights.{weight}
use Rattle.key_results.proofs.ResultLaws.{results-none, sizes-none}
use Rattle.key_results.proofs.WeighTurns.{weighed-long, weighed-next, sized-next, depths-next}
use Rattle.key_results.proofs.weighing.weigh.Goals as goal

pub loop-visit-init : goal.loop-visit-init
loop-visit-init c = (
  λ word. c.new-of_keys.ensures.items ∙ ap (map weight)
      (sym (results-none word (tree_at word c.args.pool.now) c.args.prune)),
  λ word. let z = sizes-none word (tree_at word c.args.pool.now) c.args.prune in omega (arith, z),
  λ k d lt. let n = ap length c.new-of_keys.ensures.items in omega (arith, lt, n),
)

pub joined-below-requires : goal.joined-below-requires
joined-below-requires c =
    let i = c.loop-visit.visit-index in
    let lt = c.loop-visit-test.true in
    let e = c.visit-item.is ∙ refl in
    let at : slice_get c.args.visits.now i ≡ Some c.visit-item.result =
    slice_get-get_or c.args.visits.now i c.visit-item.result lt ∙ ap Some (sym c.visit-item.is) in
    let long = weighed-long (λ _. []) (tree_at (λ _. []) c.args.pool.now) c.args.prune c.args.visits.now i
    c.loop-visit.of_keys.items (omega (arith, lt)) (c.loop-visit.invariant.0 (λ _. [])) in
    let within : (n : ℕ) → i ≡ n → All (λ (l : Link). l.key < n) c.visit-item.result.links.items =
    (λ n en. subst (λ n. All (λ (l : Link). l.key < n) c.visit-item.result.links.items) en
    (c.requires.linked i c.visit-item.result at)) in
    subst (λ (ls : List Link). All (λ (l : Link). l.key < length c.as_slice.result.now) ls)
    (sym c.as_slice-in-loop-visit.ensures.value)
    (within (length c.as_slice.result.now) (sym (ap length c.as_slice.ensures.value ∙ long)))

pub weight_of-own-requires-clause-depth : goal.weight_of-own-requires-clause-depth
weight_of-own-requires-clause-depth c =
    let all : All (λ (w : Weight). w.depth ≤ 512 + c.loop-visit.visit-index) c.as_slice.result.now =
    subst (λ (ws : List Weight). All (λ (w : Weight). w.depth ≤ 512 + c.loop-visit.visit-index) ws)
    (sym c.as_slice.ensures.value) c.loop-visit.invariant.2 in
    let le = c.joined-below.ensures.depth (512 + c.loop-visit.visit-index) all in
    let lt = c.loop-visit-test.true in
    let long = weighed-long (λ _. []) (tree_at (λ _. []) c.args.pool.now) c.args.prune c.args.visits.now
    c.loop-visit.visit-index c.loop-visit.of_keys.items
    (omega (arith, lt)) (c.loop-visit.invariant.0 (λ _. [])) in
    let same = ap length c.as_slice.ensures.value in
    let few = c.as_slice.type_inv.0 in
    omega (arith, le, long, same, few)

pub loop-visit-preserved : goal.loop-visit-preserved
loop-visit-preserved c =
    let i = c.loop-visit.visit-index in
    let v = c.visit-item.result in
    let rows = c.args.pool.now in
    let visits = c.args.visits.now in
    let at : slice_get visits i ≡ Some v = slice_get-get_or visits i v c.loop-visit-test.true ∙
    ap Some (sym c.visit-item.is) in
    let pushed = c.in_ok-push.ensures.items in
    let below : (word : ℕ → List Pair) → c.joined-below.result ≡
    weight (joined_by word v.mover (results_of word (tree_at word rows) c.args.prune (take i visits)) v.links.items) =
    (λ word. c.joined-below.ensures.weight (results_of word (tree_at word rows) c.args.prune (take i visits)) word
    v.mover
    (c.as_slice.ensures.value ∙ c.loop-visit.invariant.0 word) ∙
    ap (λ ls. weight (joined_by word v.mover (results_of word (tree_at word rows) c.args.prune (take i visits)) ls))
    c.as_slice-in-loop-visit.ensures.value) in
    let own : (word : ℕ → List Pair) → c.weight_of-own.result ≡
    weight (results_over word (tree_at word rows) c.args.prune
    (results_of word (tree_at word rows) c.args.prune (take i visits)) v) =
    (λ word.
    c.weight_of-own.ensures.weight word (joined_by word v.mover
    (results_of word (tree_at word rows) c.args.prune (take i visits)) v.links.items) (below word)) in
    let all : All (λ (w : Weight). w.depth ≤ 512 + i) c.as_slice.result.now =
    subst (λ (ws : List Weight). All (λ (w : Weight). w.depth ≤ 512 + i) ws) (sym c.as_slice.ensures.value)
    c.loop-visit.invariant.2 in
    let deep = c.weight_of-own.ensures.depth (512 + i) (omega arith) (c.joined-below.ensures.depth (512 + i) all) in
    let depths : All (λ (w : Weight). w.depth ≤ 512 + i + 1) c.push.new.self.items =
    depths-next c.loop-visit.of_keys.items c.push.new.self.items c.weight_of-own.result (512 + i) pushed
    c.loop-visit.invariant.2 deep in (
      λ word. weighed-next word (tree_at word rows) c.args.prune visits i v c.loop-visit.of_keys.items
          c.push.new.self.items c.weight_of-own.result at
          (c.loop-visit.invariant.0 word) (own word) pushed,
      λ word. sized-next word (tree_at word rows) c.args.prune visits i v c.loop-visit.uses c.size_of.result
          c.saturating_add-uses.result at (c.loop-visit.invariant.1 word)
          (c.size_of.ensures c.args.prune (tree_at word rows v.id.0)
          (joined_by word v.mover (results_of word (tree_at word rows) c.args.prune (take i visits)) v.links.items)
          (below word) (own word))
          c.saturating_add-uses.ensures,
      λ k d lt. let h = depths k d lt in omega (arith, h),
    )

pub returns-clause-deep : goal.returns-clause-deep
returns-clause-deep c = λ k d lt.
    let h = c.loop-visit.invariant.2 k d lt in
    let e = c.loop-visit.auto.visit-index-end in
    omega (arith, h, e)
