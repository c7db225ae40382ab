-- The test of two trees tells whether they are one.
use Rattle.std.proofs.Common.{◌≡◌, refl, eqb-true, eq-eqb}
use Rattle.std.specs.Prelude.{◌==◌, ◌&&◌, Bool, true, false}
use Rattle.orientation.specs.declared.turn.Turn.{Turn}
use Rattle.orientation.specs.declared.turn.Turn.TheVariants.{Forward, Reversed, Internal, External}
use Rattle.orientation.specs.Turns.{turn_eq}
use Rattle.location_words.specs.Pairs.{pairs_eq}
use Rattle.location_words.specs.Equal.{pairs_decide}
use Rattle.expansion_laws.specs.Trees.{Tree, Use, Uses, node, no_use, a_use}
use Rattle.expansion_laws.specs.Equality.{tree_eq, uses_eq, use_eq}

pub and-left : (a b : Bool) → (a && b) ≡ true → a ≡ true
and-left true b e = refl
and-left false b e = cc

pub and-right : (a b : Bool) → (a && b) ≡ true → b ≡ true
and-right true b e = e
and-right false b e = cc

pub turn_eq-same : (a b : Turn) → turn_eq a b ≡ true → a ≡ b
turn_eq-same Forward Forward e = refl
turn_eq-same Reversed Reversed e = refl
turn_eq-same Internal Internal e = refl
turn_eq-same External External e = refl
turn_eq-same a b e = cc

pub turn_eq-itself : (a : Turn) → turn_eq a a ≡ true
turn_eq-itself Forward = refl
turn_eq-itself Reversed = refl
turn_eq-itself Internal = refl
turn_eq-itself External = refl

mutual
  pub tree_eq-same : (x y : Tree) → tree_eq x y ≡ true → x ≡ y
  tree_eq-same (node j us) (node k vs) e =
      λ i. node (eqb-true j k (and-left (j == k) (uses_eq us vs) e) i)
      (uses_eq-same us vs (and-right (j == k) (uses_eq us vs) e) i)

  pub uses_eq-same : (us vs : Uses) → uses_eq us vs ≡ true → us ≡ vs
  uses_eq-same no_use no_use e = refl
  uses_eq-same no_use (a_use t' w' x' us') e = cc
  uses_eq-same (a_use t w x us) no_use e = cc
  uses_eq-same (a_use t w x us) (a_use t' w' x' us') e =
      let abc = and-left (turn_eq t t' && pairs_eq w w' && tree_eq x x') (uses_eq us us') e in
      let ab = and-left (turn_eq t t' && pairs_eq w w') (tree_eq x x') abc in
      let a = turn_eq-same t t' (and-left (turn_eq t t') (pairs_eq w w') ab) in
      let b = (pairs_decide w w').0 (and-right (turn_eq t t') (pairs_eq w w') ab) in
      λ i. a_use (a i) (b i) (tree_eq-same x x' (and-right (turn_eq t t' && pairs_eq w w') (tree_eq x x') abc) i)
      (uses_eq-same us us' (and-right (turn_eq t t' && pairs_eq w w' && tree_eq x x') (uses_eq us us') e) i)

mutual
  pub tree_eq-itself : (x : Tree) → tree_eq x x ≡ true
  tree_eq-itself (node k us) = rw (eq-eqb k k refl) (uses_eq-itself us)

  pub uses_eq-itself : (us : Uses) → uses_eq us us ≡ true
  uses_eq-itself no_use = refl
  uses_eq-itself (a_use t w x us) =
      rw (turn_eq-itself t, (pairs_decide w w).1 refl, tree_eq-itself x) (uses_eq-itself us)

pub use_eq-same : (u v : Use) → use_eq u v ≡ true → u ≡ v
use_eq-same u v e =
    let ab = and-left (turn_eq u.turn v.turn && pairs_eq u.word v.word) (tree_eq u.tree v.tree) e in
    let a = turn_eq-same u.turn v.turn (and-left (turn_eq u.turn v.turn) (pairs_eq u.word v.word) ab) in
    let b = (pairs_decide u.word v.word).0 (and-right (turn_eq u.turn v.turn) (pairs_eq u.word v.word) ab) in
    let c =
    tree_eq-same u.tree v.tree (and-right (turn_eq u.turn v.turn && pairs_eq u.word v.word) (tree_eq u.tree v.tree)
    e) in
    λ i. record { turn = a i; word = b i; tree = c i }

pub use_eq-itself : (u : Use) → use_eq u u ≡ true
use_eq-itself u = rw (turn_eq-itself u.turn, (pairs_decide u.word u.word).1 refl, tree_eq-itself u.tree) refl
