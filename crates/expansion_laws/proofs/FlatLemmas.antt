-- The list of distinct subtrees: each once, uses before their node, and all of them.
use Rattle.std.proofs.Common.{◌≤◌, sym, ap, subst, arith, inl, inr}
use Rattle.std.specs.Prelude.{◌⊎◌, if◌then◌else◌, List, [], ◌∷◌, ◌++◌, reverse, Contains}
use Rattle.std.specs.List.{list_any}
use Rattle.std.proofs.lemmas.List.Elements.{Contains-append_left, Contains-append_cases}
use Rattle.std.proofs.lemmas.List.Elements.{Contains-push, Contains-push_cases}
use Rattle.lists.specs.Distinct.{IsDistinct}
use Rattle.lists.proofs.Tests.{list_any-contains, list_any-found}
use Rattle.lists.proofs.Members.{Contains-cases, Contains-here, Contains-none, Contains-reverse}
use Rattle.lists.proofs.Members.{Contains-reversed, Contains-there, reverse-push}
use Rattle.lists.proofs.Distinct.{IsDistinct-push}
use Rattle.lists.proofs.Cases.{by_test}
use Rattle.expansion_laws.specs.Trees.{Tree, Use, Uses, node, no_use, a_use, a_single, list_of, uses}
use Rattle.expansion_laws.specs.Equality.{tree_eq}
use Rattle.expansion_laws.specs.Measures.{depth, uses_depth, subtrees, subtrees_below}
use Rattle.expansion_laws.specs.Written.{completed, completed_uses, flat}
use Rattle.expansion_laws.proofs.TreeEquality.{tree_eq-itself, tree_eq-same}
use Rattle.expansion_laws.proofs.Subtrees.{subtrees-itself, subtrees-onward, subtrees-use}

-- ---- what was complete stays, and a tree is complete after its turn
mutual
  pub completed-keeps : (x : Tree) (done : List Tree) (y : Tree) → Contains done y → Contains (completed x done) y
  completed-keeps (node k us) done y m = by_test (list_any (tree_eq (node k us)) done)
      (λ e. subst (λ b. Contains (if b then done else completed_uses us done ++ node k us ∷ []) y) (sym e) m)
      (λ e. subst (λ b. Contains (if b then done else completed_uses us done ++ node k us ∷ []) y) (sym e)
      (Contains-append_left (completed_uses us done) (node k us ∷ []) y (completed_uses-keeps us done y m)))

  pub completed_uses-keeps : (us : Uses) (done : List Tree) (y : Tree) → Contains done y →
      Contains (completed_uses us done) y
  completed_uses-keeps no_use done y m = m
  completed_uses-keeps (a_use t w x others) done y m =
      completed_uses-keeps others (completed x done) y (completed-keeps x done y m)

pub completed-itself : (x : Tree) (done : List Tree) → Contains (completed x done) x
completed-itself (node k us) done = by_test (list_any (tree_eq (node k us)) done)
    (λ e. subst (λ b. Contains (if b then done else completed_uses us done ++ node k us ∷ []) (node k us)) (sym e)
    (let found = list_any-found (tree_eq (node k us)) done e in
    subst (λ z. Contains done z) (sym (tree_eq-same (node k us) found.0 found.2)) found.1))
    (λ e. subst (λ b. Contains (if b then done else completed_uses us done ++ node k us ∷ []) (node k us)) (sym e)
    (Contains-push (completed_uses us done) (node k us)))

pub completed_uses-use : (us : Uses) (done : List Tree) (u : Use) → Contains (list_of us) u →
    Contains (completed_uses us done) u.tree
completed_uses-use no_use done u m = absurd (Contains-none u m)
completed_uses-use (a_use t w x others) done u m = elim (Contains-cases (a_single t w x) u (list_of others) m) [
  | inl e ↦ completed_uses-keeps others (completed x done) u.tree
      (subst (λ (v : Use). Contains (completed x done) v.tree) e (completed-itself x done))
  | inr k ↦ completed_uses-use others (completed x done) u k
]

-- ---- each once
mutual
  low : (x : Tree) (done : List Tree) (y : Tree) → Contains (completed x done) y → Contains done y ⊎ (depth y ≤ depth x)
  low (node k us) done y m = by_test (list_any (tree_eq (node k us)) done)
      (λ e. inl (subst (λ l. Contains l y) (λ i. if e i then done else completed_uses us done ++ node k us ∷ []) m))
      (λ e.
      elim (Contains-push_cases (completed_uses us done) (node k us) y
      (subst (λ l. Contains l y) (λ i. if e i then done else completed_uses us done ++ node k us ∷ []) m)) [
        | inl k ↦ elim (low-uses us done y k) [ inl a ↦ inl a | inr b ↦ inr (omega (arith, b)) ]
        | inr same ↦ inr (let a = ap depth same in omega (arith, a))
      ])

  low-uses : (us : Uses) (done : List Tree) (y : Tree) → Contains (completed_uses us done) y →
      Contains done y ⊎ (depth y ≤ uses_depth us)
  low-uses no_use done y m = inl m
  low-uses (a_use t w x others) done y m = elim (low-uses others (completed x done) y m) [
    | inl k ↦ elim (low x done y k) [ inl a ↦ inl a | inr b ↦ inr (omega (arith, b)) ]
    | inr b ↦ inr (omega (arith, b))
  ]

mutual
  pub completed-once : (x : Tree) (done : List Tree) → IsDistinct done → IsDistinct (completed x done)
  completed-once (node k us) done d = by_test (list_any (tree_eq (node k us)) done)
      (λ e. subst IsDistinct (λ i. if sym e i then done else completed_uses us done ++ node k us ∷ []) d)
      (λ e. subst IsDistinct (λ i. if sym e i then done else completed_uses us done ++ node k us ∷ [])
      (IsDistinct-push (completed_uses us done) (node k us) (completed_uses-once us done d)
      (λ m. elim (low-uses us done (node k us) m) [
        | inl a ↦ (let f = list_any-contains (tree_eq (node k us)) (node k us) done a (tree_eq-itself (node k us)) in
            absurd cc)
        | inr b ↦ omega (arith, b)
      ])))

  completed_uses-once : (us : Uses) (done : List Tree) → IsDistinct done → IsDistinct (completed_uses us done)
  completed_uses-once no_use done d = d
  completed_uses-once (a_use t w x others) done d =
      completed_uses-once others (completed x done) (completed-once x done d)

-- ---- no more than a closed set
module _ (P : Tree → Type 0) (closed : (x : Tree) → P x → (u : Use) → Contains (uses x) u → P u.tree) where
  mutual
    pub all_completed : (x : Tree) (done : List Tree) → P x → ((y : Tree) → Contains done y → P y) → (y : Tree) →
        Contains (completed x done) y → P y
    all_completed (node k us) done p h y m = by_test (list_any (tree_eq (node k us)) done)
        (λ e. h y (subst (λ l. Contains l y) (λ i. if e i then done else completed_uses us done ++ node k us ∷ []) m))
        (λ e.
        elim (Contains-push_cases (completed_uses us done) (node k us) y
        (subst (λ l. Contains l y) (λ i. if e i then done else completed_uses us done ++ node k us ∷ []) m)) [
          | inl a ↦ all_completed_uses us done (closed (node k us) p) h y a
          | inr same ↦ subst P same p
        ])

    all_completed_uses : (us : Uses) (done : List Tree) → ((u : Use) → Contains (list_of us) u → P u.tree) →
        ((y : Tree) → Contains done y → P y) →
        (y : Tree) → Contains (completed_uses us done) y → P y
    all_completed_uses no_use done p h y m = h y m
    all_completed_uses (a_use t w x others) done p h y m =
        all_completed_uses others (completed x done) (λ u k. p u (Contains-there (a_single t w x) u (list_of others) k))
        (all_completed x done (p (a_single t w x) (Contains-here (a_single t w x) (list_of others))) h) y m

pub flat-once : (x : Tree) → IsDistinct (flat x)
flat-once x = completed-once x [] tt

-- each thing of the list is a subtree
pub flat-stand : (x y : Tree) → Contains (flat x) y → Contains (subtrees x) y
flat-stand x y m = all_completed (λ z. Contains (subtrees x) z)
    (λ z h u k. subtrees-onward x z u.tree h (subtrees-use z u u.tree k (subtrees-itself u.tree)))
    x [] (subtrees-itself x) (λ z k. absurd (Contains-none z k)) y m

-- ---- uses before their node: seen from the end of the list, the trees of a node's uses follow it
abbrev pub UsesFollow : List Tree → Type 0
UsesFollow [] = Unit {0}
UsesFollow (x ∷ rest) = ((u : Use) → Contains (uses x) u → Contains rest u.tree) × UsesFollow rest

mutual
  completed-follow : (x : Tree) (done : List Tree) → UsesFollow (reverse done) → UsesFollow (reverse (completed x done))
  completed-follow (node k us) done h = by_test (list_any (tree_eq (node k us)) done)
      (λ e. subst (λ b. UsesFollow (reverse (if b then done else completed_uses us done ++ node k us ∷ []))) (sym e) h)
      (λ e. subst (λ b. UsesFollow (reverse (if b then done else completed_uses us done ++ node k us ∷ []))) (sym e)
      (subst UsesFollow (sym (reverse-push (completed_uses us done) (node k us))) (
        (λ u m. Contains-reverse u.tree (completed_uses us done) (completed_uses-use us done u m)),
        completed_uses-follow us done h,
      )))

  completed_uses-follow : (us : Uses) (done : List Tree) → UsesFollow (reverse done) →
      UsesFollow (reverse (completed_uses us done))
  completed_uses-follow no_use done h = h
  completed_uses-follow (a_use t w x others) done h =
      completed_uses-follow others (completed x done) (completed-follow x done h)

pub flat-follow : (x : Tree) → UsesFollow (reverse (flat x))
flat-follow x = completed-follow x [] tt

-- such a list has the trees of its trees' uses, and so all their subtrees
follow-uses : (trees : List Tree) → UsesFollow trees → (x : Tree) → Contains trees x → (u : Use) → Contains (uses x) u →
    Contains trees u.tree
follow-uses [] h x m u k = absurd (Contains-none x m)
follow-uses (y ∷ rest) h x m u k = Contains-there y u.tree rest (elim (Contains-cases y x rest m) [
  | inl e ↦ h.0 u (subst (λ z. Contains (uses z) u) (sym e) k)
  | inr l ↦ follow-uses rest h.1 x l u k
])

module _ (trees : List Tree) (closed : (x : Tree) → Contains trees x → (u : Use) → Contains (uses x) u →
    Contains trees u.tree) where
  mutual
    all_subtrees : (x : Tree) → Contains trees x → (y : Tree) → Contains (subtrees x) y → Contains trees y
    all_subtrees (node k us) m y h = elim (Contains-cases (node k us) y (subtrees_below us) h) [
      | inl e ↦ subst (λ z. Contains trees z) e m
      | inr l ↦ all_below us (closed (node k us) m) y l
    ]

    all_below : (us : Uses) → ((u : Use) → Contains (list_of us) u → Contains trees u.tree) → (y : Tree) →
        Contains (subtrees_below us) y → Contains trees y
    all_below no_use p y h = absurd (Contains-none y h)
    all_below (a_use t w x others) p y h = elim (Contains-append_cases (subtrees x) (subtrees_below others) y h) [
      | inl m ↦ all_subtrees x (p (a_single t w x) (Contains-here (a_single t w x) (list_of others))) y m
      | inr m ↦ all_below others (λ u k. p u (Contains-there (a_single t w x) u (list_of others) k)) y m
    ]

-- each subtree is in the list
pub flat-all : (x y : Tree) → Contains (subtrees x) y → Contains (flat x) y
flat-all x y h = Contains-reversed y (flat x)
    (all_subtrees (reverse (flat x)) (follow-uses (reverse (flat x)) (flat-follow x)) x
    (Contains-reverse x (flat x) (completed-itself x [])) y h)
