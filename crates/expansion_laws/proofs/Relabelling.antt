-- Trees with their labels replaced: twice, by functions that agree, and what stays.
use Rattle.std.proofs.Common.{◌≡◌, refl, sym, ◌∙◌, ap}
use Rattle.std.specs.Prelude.{suc, max, List, [], ◌∷◌, ◌++◌, map, Contains}
use Rattle.std.proofs.lemmas.List.{map-append}
use Rattle.std.proofs.lemmas.List.Elements.{Contains-append_left, Contains-append_right}
use Rattle.lists.proofs.Members.{Contains-here, Contains-there}
use Rattle.expansion_laws.specs.Trees.{LabelledTree, LabelledUses, LabelledUse, node, no_use}
use Rattle.expansion_laws.specs.Trees.{a_use, a_single, list_of, uses_of, uses, label_of}
use Rattle.expansion_laws.specs.Measures.{depth, uses_depth, subtrees, subtrees_below}
use Rattle.expansion_laws.specs.Sharing.{relabelled, relabelled_uses, relabelled_use}
-- the trees of files: what stands in an expansion
pub use Rattle.expansion_laws.proofs.FileTrees.{subtree-is-record}

-- relabelling twice is relabelling once by both
module _ {L M N : Type 0} (f : LabelledTree L → M) (g : LabelledTree M → N) where
  mutual
    pub relabelled-twice : (x : LabelledTree L) → relabelled g (relabelled f x) ≡ relabelled (λ y. g (relabelled f y)) x
    relabelled-twice (node k us) = ap (λ l. node (g (relabelled f (node k us))) l) (relabelled_uses-twice us)

    pub relabelled_uses-twice : (us : LabelledUses L) →
        relabelled_uses g (relabelled_uses f us) ≡ relabelled_uses (λ y. g (relabelled f y)) us
    relabelled_uses-twice no_use = refl
    relabelled_uses-twice (a_use t w x others) = λ i. a_use t w (relabelled-twice x i) (relabelled_uses-twice others i)

module _ {L M : Type 0} where
  -- labels that agree on each subtree make one tree
  module _ (f g : LabelledTree L → M) where
    mutual
      pub relabelled-same : (x : LabelledTree L) → ((y : LabelledTree L) → Contains (subtrees x) y → f y ≡ g y) →
          relabelled f x ≡ relabelled g x
      relabelled-same (node k us) h =
          λ i. node (h (node k us) (Contains-here (node k us) (subtrees_below us)) i)
          (relabelled_uses-same us (λ y m. h y (Contains-there (node k us) y (subtrees_below us) m)) i)

      pub relabelled_uses-same : (us : LabelledUses L) →
          ((y : LabelledTree L) → Contains (subtrees_below us) y → f y ≡ g y) →
          relabelled_uses f us ≡ relabelled_uses g us
      relabelled_uses-same no_use h = refl
      relabelled_uses-same (a_use t w x others) h =
          λ i. a_use t w
          (relabelled-same x (λ y m. h y (Contains-append_left (subtrees x) (subtrees_below others) y m)) i)
          (relabelled_uses-same others (λ y m. h y (Contains-append_right (subtrees x) (subtrees_below others) y m)) i)

  module _ (f : LabelledTree L → M) where
    pub label-relabelled : (x : LabelledTree L) → label_of (relabelled f x) ≡ f x
    label-relabelled (node k us) = refl

    -- the depth stays
    mutual
      pub depth-relabelled : (x : LabelledTree L) → depth (relabelled f x) ≡ depth x
      depth-relabelled (node k us) = ap suc (depth-relabelled_uses us)

      pub depth-relabelled_uses : (us : LabelledUses L) → uses_depth (relabelled_uses f us) ≡ uses_depth us
      depth-relabelled_uses no_use = refl
      depth-relabelled_uses (a_use t w x others) = λ i. max (depth-relabelled x i) (depth-relabelled_uses others i)

    -- the uses are the same ones, with their trees relabelled
    pub list_of-relabelled_uses : (us : LabelledUses L) →
        list_of (relabelled_uses f us) ≡ map (relabelled_use f) (list_of us)
    list_of-relabelled_uses no_use = refl
    list_of-relabelled_uses (a_use t w x others) =
        ap (λ l. a_single t w (relabelled f x) ∷ l) (list_of-relabelled_uses others)

    pub uses-relabelled : (x : LabelledTree L) → uses (relabelled f x) ≡ map (relabelled_use f) (uses x)
    uses-relabelled (node k us) = list_of-relabelled_uses us

    pub relabelled_uses-uses_of : (us : List (LabelledUse L)) →
        relabelled_uses f (uses_of us) ≡ uses_of (map (relabelled_use f) us)
    relabelled_uses-uses_of [] = refl
    relabelled_uses-uses_of (u ∷ us) =
        ap (λ l. a_use u.turn u.word (relabelled f u.tree) l) (relabelled_uses-uses_of us)

    -- the subtrees are the same ones, relabelled
    mutual
      pub subtrees-relabelled : (x : LabelledTree L) → subtrees (relabelled f x) ≡ map (relabelled f) (subtrees x)
      subtrees-relabelled (node k us) = ap (λ l. relabelled f (node k us) ∷ l) (subtrees_below-relabelled us)

      pub subtrees_below-relabelled : (us : LabelledUses L) →
          subtrees_below (relabelled_uses f us) ≡ map (relabelled f) (subtrees_below us)
      subtrees_below-relabelled no_use = refl
      subtrees_below-relabelled (a_use t w x others) =
          (λ i. subtrees-relabelled x i ++ subtrees_below-relabelled others i) ∙
          sym (map-append (relabelled f) (subtrees x) (subtrees_below others))
