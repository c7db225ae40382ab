-- The subtrees of a tree, its uses as a list, and its depth.
use Rattle.std.proofs.Common.{◌≡◌, ◌≤◌, refl, sym, ap, subst, arith, inl, inr}
use Rattle.std.specs.Prelude.{◌⊎◌, List, [], ◌∷◌, Contains}
use Rattle.std.proofs.lemmas.List.Elements.{Contains-append_left, Contains-append_right, Contains-append_cases}
use Rattle.lists.proofs.Members.{Contains-cases, Contains-here, Contains-none, Contains-there}
use Rattle.expansion_laws.specs.Trees.{LabelledTree, LabelledUses, LabelledUse, node, no_use}
use Rattle.expansion_laws.specs.Trees.{a_use, a_single, list_of, uses_of, label_of, uses, tree_of}
use Rattle.expansion_laws.specs.Measures.{depth, uses_depth, subtrees, subtrees_below}

module _ {L : Type 0} where
  pub list_of-uses_of : (us : List (LabelledUse L)) → list_of (uses_of us) ≡ us
  list_of-uses_of [] = refl
  list_of-uses_of (u ∷ us) = ap (λ l. u ∷ l) (list_of-uses_of us)

  pub uses_of-list_of : (us : LabelledUses L) → uses_of (list_of us) ≡ us
  uses_of-list_of no_use = refl
  uses_of-list_of (a_use t w x others) = ap (λ l. a_use t w x l) (uses_of-list_of others)

  -- a tree is made of its label and its uses
  pub tree-parts : (x : LabelledTree L) → tree_of (label_of x) (uses x) ≡ x
  tree-parts (node k us) = ap (node k) (uses_of-list_of us)

  pub subtrees-itself : (x : LabelledTree L) → Contains (subtrees x) x
  subtrees-itself (node k us) = Contains-here (node k us) (subtrees_below us)

  -- what stands below uses stands in the tree of one of them
  pub subtrees_below-use : (us : LabelledUses L) (u : LabelledUse L) (y : LabelledTree L) → Contains (list_of us) u →
      Contains (subtrees u.tree) y → Contains (subtrees_below us) y
  subtrees_below-use no_use u y m h = absurd (Contains-none u m)
  subtrees_below-use (a_use t w x others) u y m h = elim (Contains-cases (a_single t w x) u (list_of others) m) [
    | inl e ↦ Contains-append_left (subtrees x) (subtrees_below others) y
        (subst (λ v. Contains (subtrees v) y) (sym (ap (λ (v : LabelledUse L). v.tree) e)) h)
    | inr k ↦ Contains-append_right (subtrees x) (subtrees_below others) y (subtrees_below-use others u y k h)
  ]

  pub subtrees_below-cases : (us : LabelledUses L) (y : LabelledTree L) → Contains (subtrees_below us) y →
      (u : LabelledUse L) × Contains (list_of us) u × Contains (subtrees u.tree) y
  subtrees_below-cases no_use y h = absurd (Contains-none y h)
  subtrees_below-cases (a_use t w x others) y h =
      elim (Contains-append_cases (subtrees x) (subtrees_below others) y h) [
        | inl k ↦ (a_single t w x, Contains-here (a_single t w x) (list_of others), k)
        | inr k ↦ let r = subtrees_below-cases others y k in
            (r.0, Contains-there (a_single t w x) r.0 (list_of others) r.1, r.2)
      ]

  -- a subtree of a tree is that tree, or one of a use's tree
  pub subtrees-cases : (x y : LabelledTree L) → Contains (subtrees x) y →
      (x ≡ y) ⊎ ((u : LabelledUse L) × Contains (uses x) u × Contains (subtrees u.tree) y)
  subtrees-cases (node k us) y h = elim (Contains-cases (node k us) y (subtrees_below us) h) [
    | inl e ↦ inl e
    | inr m ↦ inr (subtrees_below-cases us y m)
  ]

  pub subtrees-use : (x : LabelledTree L) (u : LabelledUse L) (y : LabelledTree L) → Contains (uses x) u →
      Contains (subtrees u.tree) y → Contains (subtrees x) y
  subtrees-use (node k us) u y m h = Contains-there (node k us) y (subtrees_below us) (subtrees_below-use us u y m h)

  -- subtrees of subtrees are subtrees
  mutual
    pub subtrees-onward : (x y z : LabelledTree L) → Contains (subtrees x) y → Contains (subtrees y) z →
        Contains (subtrees x) z
    subtrees-onward (node k us) y z h g = elim (Contains-cases (node k us) y (subtrees_below us) h) [
      | inl e ↦ subst (λ v. Contains (subtrees v) z) (sym e) g
      | inr m ↦ Contains-there (node k us) z (subtrees_below us) (below-onward us y z m g)
    ]

    below-onward : (us : LabelledUses L) (y z : LabelledTree L) → Contains (subtrees_below us) y →
        Contains (subtrees y) z → Contains (subtrees_below us) z
    below-onward no_use y z h g = absurd (Contains-none y h)
    below-onward (a_use t w x others) y z h g = elim (Contains-append_cases (subtrees x) (subtrees_below others) y h) [
      | inl m ↦ Contains-append_left (subtrees x) (subtrees_below others) z (subtrees-onward x y z m g)
      | inr m ↦ Contains-append_right (subtrees x) (subtrees_below others) z (below-onward others y z m g)
    ]

  -- a subtree is no deeper than its tree
  mutual
    pub depth-subtree : (x y : LabelledTree L) → Contains (subtrees x) y → depth y ≤ depth x
    depth-subtree (node k us) y h = elim (Contains-cases (node k us) y (subtrees_below us) h) [
      | inl e ↦ (let a = ap depth e in omega (arith, a))
      | inr m ↦ (let a = depth-below us y m in omega (arith, a))
    ]

    pub depth-below : (us : LabelledUses L) (y : LabelledTree L) → Contains (subtrees_below us) y →
        depth y ≤ uses_depth us
    depth-below no_use y h = absurd (Contains-none y h)
    depth-below (a_use t w x others) y h = elim (Contains-append_cases (subtrees x) (subtrees_below others) y h) [
      | inl m ↦ (let a = depth-subtree x y m in omega (arith, a))
      | inr m ↦ (let a = depth-below others y m in omega (arith, a))
    ]
