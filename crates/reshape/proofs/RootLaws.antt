-- The new root by the results of its key.
use Rattle.std.proofs.Common.{◌≡◌, ℕ, List, [], map, refl, sym, ap, subst}
use Rattle.location_words.specs.declared.pair.Pair.{Pair}
use Rattle.location_words.specs.Pairs.{IsWord}
use Rattle.expansion_laws.specs.Trees.{Use}
use Rattle.expansion_laws.specs.Contexts.{at_root, inside, carried}
use Rattle.expansion_laws.specs.Steps.{Step}
use Rattle.expansion_laws.specs.Rewriting.{RelativeResults, Rewrites}
use Rattle.expansion_laws.specs.RewritingLaws.{ResultsAreCarried, KeysStandForVisits}
use Rattle.expansion_laws.specs.Keys.{IsKey, Key as TreeKey, context_of}
use Rattle.shape_pool.specs.Rows.{Row, tree_at}
use Rattle.key_results.specs.declared.key.Key.{Key}
use Rattle.key_results.specs.Memos.{key_by, context_by}
use Rattle.reshape.proofs.CollectLaws.{context-by}

pub root-rewrites : (s : Step) (word : ℕ → List Pair) (rows : List Row) → KeysStandForVisits s → ResultsAreCarried s →
    word 0 ≡ [] →
    (root : Use) (key : Key) (parts : List Use) → IsWord root.word →
    IsKey s root.tree (inside at_root root) (key_by word rows key) →
    RelativeResults s (tree_at word rows key.id.0) (context_by word key) parts →
    Rewrites s at_root root (map (carried root.turn root.word) parts)
root-rewrites s word rows stand carry identity root key parts is-word is-key told =
    let same-tree : tree_at word rows key.id.0 ≡ root.tree = ap (λ (q : TreeKey). q.tree) is-key.4 in
    let there : RelativeResults s root.tree (context_of (key_by word rows key)) parts =
    subst (λ c. RelativeResults s root.tree c parts) (sym (context-by word rows key identity))
    (subst (λ x. RelativeResults s x (context_by word key) parts) same-tree told) in
    let here = (stand.same_results root.tree (inside at_root root) (key_by word rows key) parts is-key).1 there in
    (carry at_root root (map (carried root.turn root.word) parts) refl is-word).1 (parts, here, refl)
