-- An order's numbers are those with which trees are written.
use Rattle.std.proofs.Common.{◌≡◌, ◌<◌, ◌-◌, ◌∙◌, ap, arith, subst, sym}
use Rattle.std.specs.Prelude.{ℕ, List, [], Contains, length, map, slice_get}
use Rattle.std.proofs.lemmas.List.{length-map}
use Rattle.std.proofs.lemmas.List.Elements.{All-contains}
use Rattle.lists.proofs.Members.{Contains-map_cases}
use Rattle.orientation.specs.declared.turn.Turn.TheVariants.{Forward}
use Rattle.expansion_laws.specs.Expansion.{IsNumberOf}
use Rattle.expansion_laws.specs.Fewest.{NoFileHasFewer}
use Rattle.expansion_laws.specs.Trees.{Tree, Use, a_single}
use Rattle.expansion_laws.specs.Written.{IsWritten, ListsSubtrees, flat, number_in}
use Rattle.shape_pool.specs.Laws.{word_in}
use Rattle.shape_pool.specs.Rows.{tree_at}
use Rattle.written_order.specs.Orders.{OrdersNumber}
use Rattle.written_order.specs.Placed.{IsNumbered}
use Rattle.lists.proofs.Entries.{slice_get-mapped}

-- the number of a tree among the trees of numbers
number-of : (tree : ℕ → Tree) (root : Tree) (numbers : List ℕ) (i n : ℕ) → ListsSubtrees root (map tree numbers)
    → IsNumbered numbers i n → number_in (map tree numbers) (tree i) ≡ n
number-of tree root numbers i n l at =
    let long : length (map tree numbers) ≡ length numbers = length-map numbers tree in
    l.once n (tree i) (subst (λ m. IsNumberOf m n) (sym long) at.within)
    (ap (λ m. slice_get (map tree numbers) (m - n)) long
    ∙ slice_get-mapped tree numbers (length numbers - n) i at.at)

pub orders-number : ((root : Use) → IsWritten root (flat root.tree)) → ((root : Use) → NoFileHasFewer root)
    → OrdersNumber
orders-number written fewest rows table sound is places = record {
  number = λ root i n numbers order at.
      let tree : ℕ → Tree = tree_at (word_in table) rows in
      let trees : map tree numbers ≡ flat (tree root) = order.trees table is places in
      let l : ListsSubtrees (tree root) (flat (tree root)) = (written (a_single Forward [] (tree root))).lists in
      subst (λ (ts : List Tree). number_in ts (tree i) ≡ n) trees
      (number-of tree (tree root) numbers i n
      (subst (λ (ts : List Tree). ListsSubtrees (tree root) ts) (sym trees) l) at);
  none = λ root i numbers order held new there.
      let tree : ℕ → Tree = tree_at (word_in table) rows in
      let trees : map tree numbers ≡ flat (tree root) = order.trees table is places in
      let at = Contains-map_cases tree (tree i) numbers
      (subst (λ (ts : List Tree). Contains ts (tree i)) (sym trees) there) in
      new (subst (λ m. Contains numbers m)
      ((sound.ids_tell_trees_by table is places at.0 i
      (All-contains (λ m. m < length rows) numbers at.0 order.held at.1) held).1 at.2) at.1);
  fewest = λ root numbers at order same records file_root origin_of file e.
      let tree : ℕ → Tree = tree_at (word_in table) rows in
      let trees : map tree numbers ≡ flat at.tree = order.trees table is places ∙ ap flat (sym same) in
      let few = fewest at records file_root origin_of file e in
      let long = length-map numbers tree in
      let all = ap length trees in
      omega (arith, few, long, all);
}
