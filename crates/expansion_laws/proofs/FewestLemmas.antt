-- The distinct subtrees of a root are among the relabelled trees of each file that expands to it.
use Rattle.std.proofs.Common.{◌≡◌, ◌-◌, sym, ◌∙◌, ap, subst, arith}
use Rattle.std.specs.Prelude.{ℕ, List, [], map, length, Contains, unwrap_or}
use Rattle.std.proofs.lemmas.List.{length-map}
use Rattle.lists.proofs.Places.{Contains-at, at_place}
use Rattle.lists.proofs.Members.{Contains-map, Contains-map_cases, Contains-none}
use Rattle.lists.proofs.Distinct.{length-le_from_distinct}
use Rattle.expansion_laws.specs.Trees.{Tree, Use, uses, origin, tree_of}
use Rattle.expansion_laws.specs.Expansion.{NumberedUse, trees_of_file, tree_of_number, IsNumberOf, IsFile}
use Rattle.expansion_laws.specs.Sharing.{relabelled_use, with_origins}
use Rattle.expansion_laws.specs.Written.{flat}
use Rattle.expansion_laws.specs.Fewest.{NoFileHasFewer}
use Rattle.expansion_laws.proofs.Subtrees.{subtrees-use, subtrees-itself}
use Rattle.expansion_laws.proofs.FileTrees.{length-trees_of_file, subtree-of_number}
use Rattle.expansion_laws.proofs.Relabelling.{uses-relabelled}
use Rattle.expansion_laws.proofs.FlatLemmas.{all_completed, flat-once}

module _ (records : List (List NumberedUse)) (file_root : NumberedUse) (origin_of : ℕ → ℕ)
    (file : IsFile records file_root) where
  -- the tree of one of the file's records, with its origins put in
  abbrev IsOfFile : Tree → Type 0
  IsOfFile x = (k : ℕ) × IsNumberOf (length records) k × (with_origins origin_of (tree_of_number records k) ≡ x)

  of_file-uses : (x : Tree) → IsOfFile x → (u : Use) → Contains (uses x) u → IsOfFile u.tree
  of_file-uses x of u m =
      let in_record : Contains (map (relabelled_use (λ y. origin_of (origin y))) (uses (tree_of_number records of.0)))
      u =
      subst (λ l. Contains l u) (uses-relabelled (λ y. origin_of (origin y)) (tree_of_number records of.0))
      (subst (λ z. Contains (uses z) u) (sym of.2) m) in
      let from = Contains-map_cases (relabelled_use (λ y. origin_of (origin y))) u (uses (tree_of_number records of.0))
      in_record in
      let stands = subtree-of_number records file.names_above of.0 of.1 from.0.tree
      (subtrees-use (tree_of_number records of.0) from.0 from.0.tree from.1 (subtrees-itself from.0.tree)) in
      (origin from.0.tree, stands.0, ap (with_origins origin_of) (sym stands.1) ∙ ap (λ (v : Use). v.tree) from.2)

  of_file-contains : (x : Tree) → IsOfFile x → Contains (map (with_origins origin_of) (trees_of_file records)) x
  of_file-contains x of =
      let low = of.1.0 in let high = of.1.1 in let long = length-trees_of_file records in
      let at = at_place (trees_of_file records) (of.0 - 1) (omega (arith, low, high, long)) in
      let same : tree_of_number records of.0 ≡ at.0 = ap (λ o. unwrap_or o (tree_of 0 [])) at.1 in
      subst (λ z. Contains (map (with_origins origin_of) (trees_of_file records)) z)
      (ap (with_origins origin_of) (sym same) ∙ of.2)
      (Contains-map (with_origins origin_of) at.0 (trees_of_file records)
      (Contains-at (trees_of_file records) (of.0 - 1) at.0 at.1))

pub no_file_has_fewer : (root : Use) → NoFileHasFewer root
no_file_has_fewer root records file_root origin_of file e =
    let root_of_file : IsOfFile records file_root origin_of file root.tree =
    (file_root.number, file.names_root, ap (λ (u : Use). u.tree) e) in
    let all = all_completed (IsOfFile records file_root origin_of file) (of_file-uses records file_root origin_of file)
    root.tree [] root_of_file (λ y m. absurd (Contains-none y m)) in
    let count = length-le_from_distinct (flat root.tree) (map (with_origins origin_of) (trees_of_file records))
    (flat-once root.tree)
    (λ x m. of_file-contains records file_root origin_of file x (all x m)) in
    let size = length-map (trees_of_file records) (with_origins origin_of) in
    let long = length-trees_of_file records in
    omega (arith, count, size, long)
