-- The occurrences of a tree.
use Rattle.std.proofs.Common.{◌≡◌, ◌<◌, refl, sym, ap, subst, arith, inl, inr}
use Rattle.std.specs.Prelude.{ℕ, List, [], ◌∷◌, ◌++◌, Contains}
use Rattle.std.specs.List.{flat_map}
use Rattle.std.proofs.lemmas.List.Elements.{Contains-append_left, Contains-append_right, Contains-append_cases}
use Rattle.lists.proofs.Members.{Contains-cases, Contains-here, Contains-none, Contains-there, Contains-flat_map, Contains-flat_map_cases}
use Rattle.location_words.specs.declared.pair.Pair.{Pair}
use Rattle.location_words.specs.Pairs.{mul}
use Rattle.expansion_laws.specs.Trees.{Tree, Uses, Use, node, no_use, a_use, list_of, uses_of, tree_of}
use Rattle.expansion_laws.specs.Measures.{depth}
use Rattle.subshape_maps.specs.Shapes.{Shape, a_shape, occurrences, occurrences_below, occurrences_of}

-- the occurrences of one use, and of several, under a word
abbrev pub of_use : List Pair → Use → List Shape
of_use w u = occurrences (mul w u.word) u.tree

abbrev pub of_uses : List Pair → List Use → List Shape
of_uses w us = flat_map (of_use w) us

pub below-uses : (w : List Pair) (us : Uses) → occurrences_below w us ≡ of_uses w (list_of us)
below-uses w no_use = refl
below-uses w (a_use t v x others) = ap (λ l. occurrences (mul w v) x ++ l) (below-uses w others)

pub below-list : (w : List Pair) (us : List Use) → occurrences_below w (uses_of us) ≡ of_uses w us
below-list w [] = refl
below-list w (u ∷ us) = ap (λ l. occurrences (mul w u.word) u.tree ++ l) (below-list w us)

pub occurs-itself : (w : List Pair) (x : Tree) → Contains (occurrences w x) (a_shape x w)
occurs-itself w (node k us) = Contains-here (a_shape (node k us) w) (occurrences_below w us)

-- what occurs in an occurrence occurs in the whole
mutual
  pub occurs-onward : (w : List Pair) (x : Tree) (y z : Shape) → Contains (occurrences w x) y → Contains (occurrences_of y) z → Contains (occurrences w x) z
  occurs-onward w (node k us) y z h g = elim (Contains-cases (a_shape (node k us) w) y (occurrences_below w us) h) [
    | inl e ↦ subst (λ v. Contains (occurrences_of v) z) (sym e) g
    | inr m ↦ Contains-there (a_shape (node k us) w) z (occurrences_below w us) (below-onward w us y z m g)
  ]

  pub below-onward : (w : List Pair) (us : Uses) (y z : Shape) → Contains (occurrences_below w us) y → Contains (occurrences_of y) z → Contains (occurrences_below w us) z
  below-onward w no_use y z h g = absurd (Contains-none y h)
  below-onward w (a_use t v x others) y z h g = elim (Contains-append_cases (occurrences (mul w v) x) (occurrences_below w others) y h) [
    | inl m ↦ Contains-append_left (occurrences (mul w v) x) (occurrences_below w others) z (occurs-onward (mul w v) x y z m g)
    | inr m ↦ Contains-append_right (occurrences (mul w v) x) (occurrences_below w others) z (below-onward w others y z m g)
  ]

pub uses-onward : (w : List Pair) (us : List Use) (y z : Shape) → Contains (of_uses w us) y → Contains (occurrences_of y) z → Contains (of_uses w us) z
uses-onward w us y z h g =
    let r = Contains-flat_map_cases (of_use w) y us h in
    Contains-flat_map (of_use w) r.0 z us r.1 (occurs-onward (mul w r.0.word) r.0.tree y z r.2 g)

pub use-less-deep : (k : ℕ) (us : List Use) (u : Use) → Contains us u → depth u.tree < depth (tree_of k us)
use-less-deep k [] u m = absurd (Contains-none u m)
use-less-deep k (v ∷ us) u m = elim (Contains-cases v u us m) [
  | inl e ↦ (let a = ap (λ (s : Use). depth s.tree) e in omega (arith, a))
  | inr h ↦ (let a = use-less-deep k us u h in omega (arith, a))
]
