-- The records of a root's distinct subtrees expand to the root again.
use Rattle.std.proofs.Common.{◌≡◌, ◌<◌, ◌≤◌, ◌+◌, ◌-◌, refl, sym, ◌∙◌, ap, subst, arith}
use Rattle.std.specs.Prelude.{ℕ, suc, Some, List, [], ◌∷◌, map, length, reverse, Contains, slice_get, unwrap_or}
use Rattle.std.proofs.lemmas.List.{length-reverse, length-map}
use Rattle.std.proofs.lemmas.Option.{slice_get_within, slice_get-map}
use Rattle.std.specs.Option.{option_map}
use Rattle.lists.proofs.Each.{All-from_members}
use Rattle.lists.proofs.Places.{Contains-at, at_place, map-at, place_of, slice_get-reverse}
use Rattle.lists.proofs.Members.{Contains-here, Contains-map_cases, Contains-reverse}
use Rattle.lists.proofs.Members.{Contains-reversed, Contains-there, map-reverse, reverse-push}
use Rattle.expansion_laws.specs.Trees.{Tree, Use, Uses, node, no_use, a_use, a_single}
use Rattle.expansion_laws.specs.Trees.{list_of, uses_of, uses, origin, tree_of}
use Rattle.expansion_laws.specs.Measures.{depth, subtrees}
use Rattle.expansion_laws.specs.Expansion.{NumberedUse, expanded, trees_from, trees_of_file}
use Rattle.expansion_laws.specs.Expansion.{tree_of_number, expansion, NamesAbove, IsNumberOf, IsFile}
use Rattle.expansion_laws.specs.Sharing.{relabelled_uses, with_origins, use_with_origins}
use Rattle.expansion_laws.specs.Written.{completed_uses, flat, number_in, numbered}
use Rattle.expansion_laws.specs.Written.{records_of, origins_of, ListsSubtrees, IsWritten}
use Rattle.expansion_laws.proofs.Subtrees.{depth-subtree, subtrees-itself}
use Rattle.expansion_laws.proofs.FileTrees.{subtree-is-record}
use Rattle.expansion_laws.proofs.Relabelling.{depth-relabelled, subtrees-relabelled}
use Rattle.expansion_laws.proofs.FlatLemmas.{UsesFollow, flat-once, flat-stand, flat-all, flat-follow}
use Rattle.expansion_laws.proofs.NumberLemmas.{number_in-has, number_in-at}

-- trees, numbered among all that are written, and given in the order of their numbers from `first` on
module _ (trees : List Tree) (origin_of : ℕ → ℕ) where
  abbrev record_of : Tree → List NumberedUse
  record_of x = map (numbered trees) (uses x)

  -- each has the number of its place, and that number has its origin
  record IsPlaced (first : ℕ) (given : List Tree) : Type 0 where
    pub numbers : (i : ℕ) (y : Tree) → slice_get given i ≡ Some y → number_in trees y ≡ first + i
    pub origins : (i : ℕ) (y : Tree) → slice_get given i ≡ Some y → origin_of (first + i) ≡ origin y

  placed-rest : (first : ℕ) (x : Tree) (rest : List Tree) → IsPlaced first (x ∷ rest) → IsPlaced (suc first) rest
  placed-rest first x rest p = record {
    numbers = λ i y e. (let there : first + suc i ≡ suc first + i = omega arith in p.numbers (suc i) y e ∙ there);
    origins =
        λ i y e.
        (let there : suc first + i ≡ first + suc i = omega arith in ap origin_of there ∙ p.origins (suc i) y e);
  }

  -- the number of a later tree is greater, and finds it
  placed-later : (first : ℕ) (x : Tree) (rest : List Tree) → IsPlaced first (x ∷ rest) → (y : Tree) → Contains rest y →
      (first < number_in trees y) × (number_in trees y ≤ first + length rest) ×
      (slice_get rest (number_in trees y - suc first) ≡ Some y)
  placed-later first x rest p y m =
      let place = place_of rest y m in
      let number = p.numbers (suc place.0) y place.1 in
      let within = slice_get_within rest place.0 y place.1 in
      let back : number_in trees y - suc first ≡ place.0 = omega (arith, number) in
      (omega (arith, number), omega (arith, number, within), ap (slice_get rest) back ∙ place.1)

  restored-uses : (first : ℕ) (later : List Tree) (us : Uses) →
      ((u : Use) → Contains (list_of us) u → slice_get (map (with_origins origin_of) later)
      (number_in trees u.tree - suc first) ≡ Some u.tree) →
      relabelled_uses (λ y. origin_of (origin y)) (uses_of
      (map (expanded (suc first) later) (map (numbered trees) (list_of us)))) ≡ us
  restored-uses first later no_use h = refl
  restored-uses first later (a_use t w x others) h =
      λ i. a_use t w
      (map-at (with_origins origin_of) later (number_in trees x - suc first) (tree_of 0 []) x
      (h (a_single t w x) (Contains-here (a_single t w x) (list_of others))) i)
      (restored-uses first later others (λ u m. h u (Contains-there (a_single t w x) u (list_of others) m)) i)

  restored-first : (first : ℕ) (later : List Tree) (x : Tree) → origin_of first ≡ origin x →
      ((u : Use) → Contains (uses x) u → slice_get (map (with_origins origin_of) later)
      (number_in trees u.tree - suc first) ≡ Some u.tree) →
      with_origins origin_of (tree_of first (map (expanded (suc first) later) (record_of x))) ≡ x
  restored-first first later (node k us) e h = λ i. node (e i) (restored-uses first later us h i)

  -- the trees of the records, with their origins put back, are the trees again
  restored : (first : ℕ) (given : List Tree) → UsesFollow given → IsPlaced first given →
      map (with_origins origin_of) (trees_from first (map record_of given)) ≡ given
  restored first [] follow p = refl
  restored first (x ∷ rest) follow p =
      let later : List Tree = trees_from (suc first) (map record_of rest) in
      let again : map (with_origins origin_of) later ≡ rest =
      restored (suc first) rest follow.1 (placed-rest first x rest p) in
      let here : first ≡ first + 0 = omega arith in
      λ i. restored-first first later x (ap origin_of here ∙ p.origins 0 x refl)
      (λ u m. ap (λ l. slice_get l (number_in trees u.tree - suc first)) again ∙
      (placed-later first x rest p u.tree (follow.0 u m)).2) i
      ∷ again i

  -- each use names a record above
  names-above : (first : ℕ) (given : List Tree) → UsesFollow given → IsPlaced first given →
      NamesAbove first (map record_of given)
  names-above first [] follow p = tt
  names-above first (x ∷ rest) follow p = (
    All-from_members (λ (u : NumberedUse). (first < u.number) × (u.number ≤ first + length (map record_of rest)))
        (record_of x)
        (λ v m.
        let named = Contains-map_cases (numbered trees) v (uses x) m in
        let bounds = placed-later first x rest p named.0.tree (follow.0 named.0 named.1) in
        let low = bounds.0 in let high = bounds.1 in let long = length-map rest record_of in
        let same : number_in trees named.0.tree ≡ v.number = ap (λ (u : NumberedUse). u.number) named.2 in
        (omega (arith, low, same), omega (arith, high, same, long))),
    names-above (suc first) rest follow.1 (placed-rest first x rest p),
  )

-- ---- the list of a root's distinct subtrees
root-first : (x : Tree) → slice_get (reverse (flat x)) 0 ≡ Some x
root-first (node k us) = ap (λ l. slice_get l 0) (reverse-push (completed_uses us []) (node k us))

module _ (x : Tree) where
  flat-placed : IsPlaced (flat x) (origins_of (flat x)) 1 (reverse (flat x))
  flat-placed = record {
    numbers = λ i y e.
        (let within = slice_get_within (reverse (flat x)) i y e in let long = length-reverse (flat x) in
        let there : suc i ≡ 1 + i = omega arith in
        number_in-at (flat x) (flat-once x) (suc i) y (omega arith, omega (arith, within, long))
        (sym (slice_get-reverse (flat x) i (omega (arith, within, long))) ∙ e) ∙ there);
    origins = λ i y e.
        (let back : (1 + i) - 1 ≡ i = omega arith in
        ap (λ o. unwrap_or o 0)
        (ap (slice_get (reverse (map origin (flat x)))) back
        ∙ ap (λ l. slice_get l i) (sym (map-reverse origin (flat x)))
        ∙ slice_get-map origin (reverse (flat x)) i
        ∙ ap (option_map origin) e));
  }

  flat-restored : map (with_origins (origins_of (flat x))) (trees_of_file (records_of (flat x))) ≡ reverse (flat x)
  flat-restored =
      ap (λ records. map (with_origins (origins_of (flat x))) (trees_from 1 records))
      (sym (map-reverse (record_of (flat x) (origins_of (flat x))) (flat x)))
      ∙ restored (flat x) (origins_of (flat x)) 1 (reverse (flat x)) (flat-follow x) flat-placed

  -- the tree that a number stands for
  number-restored : (k : ℕ) (y : Tree) → slice_get (reverse (flat x)) (k - 1) ≡ Some y →
      with_origins (origins_of (flat x)) (tree_of_number (records_of (flat x)) k) ≡ y
  number-restored k y e =
      map-at (with_origins (origins_of (flat x))) (trees_of_file (records_of (flat x))) (k - 1) (tree_of 0 []) y
      (ap (λ l. slice_get l (k - 1)) flat-restored ∙ e)

  -- each number of the list stands for one of its trees
  number-stands : (k : ℕ) → IsNumberOf (length (flat x)) k →
      (y : Tree) × Contains (flat x) y × (number_in (flat x) y ≡ k) ×
      (with_origins (origins_of (flat x)) (tree_of_number (records_of (flat x)) k) ≡ y)
  number-stands k n =
      let low = n.0 in let high = n.1 in let long = length-reverse (flat x) in
      let at = at_place (reverse (flat x)) (k - 1) (omega (arith, low, high, long)) in
      let there : 1 + (k - 1) ≡ k = omega (arith, low) in (
        at.0,
        Contains-reversed at.0 (flat x) (Contains-at (reverse (flat x)) (k - 1) at.0 at.1),
        flat-placed.numbers (k - 1) at.0 at.1 ∙ there,
        number-restored k at.0 at.1,
      )

  -- and each of its trees is what its number stands for
  tree-stands : (y : Tree) → Contains (flat x) y →
      with_origins (origins_of (flat x)) (tree_of_number (records_of (flat x)) (number_in (flat x) y)) ≡ y
  tree-stands y m =
      let place = place_of (reverse (flat x)) y (Contains-reverse y (flat x) m) in
      let number = flat-placed.numbers place.0 y place.1 in
      let back : number_in (flat x) y - 1 ≡ place.0 = omega (arith, number) in
      number-restored (number_in (flat x) y) y (ap (slice_get (reverse (flat x))) back ∙ place.1)

  pub flat-lists : ListsSubtrees x (flat x)
  flat-lists = record {
    stand = flat-stand x;
    all = flat-all x;
    numbers = λ y m. (number_in-has (flat x) y m).0;
    places = λ y m. (number_in-has (flat x) y m).1;
    once = number_in-at (flat x) (flat-once x);
    last = flat-placed.numbers 0 x (root-first x);
  }

-- ---- the file that they make
module _ (root : Use) where
  flat-file : IsFile (records_of (flat root.tree)) (numbered (flat root.tree) root)
  flat-file = record {
    names_above =
        subst (NamesAbove 1) (map-reverse (record_of (flat root.tree) (origins_of (flat root.tree))) (flat root.tree))
        (names-above (flat root.tree) (origins_of (flat root.tree)) 1 (reverse (flat root.tree)) (flat-follow root.tree)
        (flat-placed root.tree));
    names_root =
        (let n =
        (number_in-has (flat root.tree) root.tree (flat-all root.tree root.tree (subtrees-itself root.tree))).0 in
        let low = n.0 in let high = n.1 in
        let long = length-map (flat root.tree) (record_of (flat root.tree) (origins_of (flat root.tree))) in
        (low, omega (arith, high, long)));
  }

  flat-expands : use_with_origins (origins_of (flat root.tree))
      (expansion (records_of (flat root.tree)) (numbered (flat root.tree) root)) ≡ root
  flat-expands =
      λ i.
      a_single root.turn root.word (tree-stands root.tree root.tree
      (flat-all root.tree root.tree (subtrees-itself root.tree)) i)

  flat-depths : (k : ℕ) → IsNumberOf (length (flat root.tree)) k →
      depth (tree_of_number (records_of (flat root.tree)) k) ≤ depth root.tree
  flat-depths k n =
      let s = number-stands root.tree k n in
      let same =
      sym (depth-relabelled (λ y. origins_of (flat root.tree) (origin y))
      (tree_of_number (records_of (flat root.tree)) k)) ∙ ap depth s.3 in
      let low = depth-subtree root.tree s.0 (flat-stand root.tree s.0 s.1) in
      omega (arith, same, low)

  -- a number of the records is one of the list
  number-of-records : (k : ℕ) → IsNumberOf (length (records_of (flat root.tree))) k →
      IsNumberOf (length (flat root.tree)) k
  number-of-records k n =
      let low = n.0 in let high = n.1 in
      let long = length-map (flat root.tree) (record_of (flat root.tree) (origins_of (flat root.tree))) in
      (low, omega (arith, high, long))

  flat-apart : (j k : ℕ) → IsNumberOf (length (records_of (flat root.tree))) j →
      IsNumberOf (length (records_of (flat root.tree))) k →
      with_origins (origins_of (flat root.tree)) (tree_of_number (records_of (flat root.tree)) j) ≡
      with_origins (origins_of (flat root.tree)) (tree_of_number (records_of (flat root.tree)) k) → j ≡ k
  flat-apart j k m n e =
      let s = number-stands root.tree j (number-of-records j m) in
      let t = number-stands root.tree k (number-of-records k n) in
      sym s.2 ∙ ap (number_in (flat root.tree)) (sym s.3 ∙ e ∙ t.3) ∙ t.2

  -- each record stands at or below the root: its tree is a subtree of the root, so it comes from one of the expansion,
  -- which is a record's tree, and no two records have one tree
  flat-stands : (k : ℕ) → IsNumberOf (length (records_of (flat root.tree))) k →
      Contains (subtrees (expansion (records_of (flat root.tree)) (numbered (flat root.tree) root)).tree)
      (tree_of_number (records_of (flat root.tree)) k)
  flat-stands k n =
      let records : List (List NumberedUse) = records_of (flat root.tree) in
      let file_root : NumberedUse = numbered (flat root.tree) root in
      let restore : Tree → Tree = with_origins (origins_of (flat root.tree)) in
      let s = number-stands root.tree k (number-of-records k n) in
      let below : Contains (map restore (subtrees (expansion records file_root).tree)) s.0 =
      subst (λ l. Contains l s.0) (subtrees-relabelled (λ y. origins_of (flat root.tree) (origin y))
      (expansion records file_root).tree)
      (subst (λ (u : Use). Contains (subtrees u.tree) s.0) (sym flat-expands) (flat-stand root.tree s.0 s.1)) in
      let from = Contains-map_cases restore s.0 (subtrees (expansion records file_root).tree) below in
      let stands = subtree-is-record records file_root flat-file from.0 from.1 in
      let same : origin from.0 ≡ k = flat-apart (origin from.0) k stands.0 n
      (ap restore (sym stands.1) ∙ from.2 ∙ sym s.3) in
      subst (λ z. Contains (subtrees (expansion records file_root).tree) z)
      (stands.1 ∙ ap (tree_of_number records) same) from.1

  pub flat-written : IsWritten root (flat root.tree)
  flat-written = record {
    lists = flat-lists root.tree;
    file = flat-file;
    expands = flat-expands;
    stands_for = tree-stands root.tree;
    depths = flat-depths;
    shared = record { stands = flat-stands; apart = flat-apart };
  }
