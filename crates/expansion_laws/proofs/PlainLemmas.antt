-- Plain trees by their fields, and the test of lists of plain uses from a place on.
use Rattle.std.proofs.Common.{arith, ◌≡◌, ◌<◌, ◌≤◌, ◌+◌, refl, sym, ◌∙◌, ap, subst, slice_index_or, drop}
use Rattle.std.proofs.lemmas.List.{drop_more, drop_all}
use Rattle.std.specs.Prelude.{ℕ, suc, Bool, true, false, not, ◌==◌, ◌&&◌, List, [], ◌∷◌, map, length}
use Rattle.lists.specs.Sameness.{is_empty}
use Rattle.expansion_laws.specs.declared.plain.Tree.{Tree as PlainTree, Tree-F, out-Tree}
use Rattle.expansion_laws.specs.declared.plain.Tree.{roll-Tree, fold_out-Tree, fold-roll-Tree}
use Rattle.expansion_laws.specs.declared.plain.TreeUse.{TreeUse, TreeUse-F, out-TreeUse, roll-TreeUse}
use Rattle.expansion_laws.specs.declared.plain.TreeUse.{fold_out-TreeUse, fold-roll-TreeUse}
use Rattle.expansion_laws.specs.Trees.{Tree, Use, a_single, tree_of, uses_of, uses}
use Rattle.expansion_laws.specs.Steps.{Step}
use Rattle.expansion_laws.specs.Rewriting.{is_pruned}
use Rattle.expansion_laws.specs.Equality.{uses_eq, use_eq}
use Rattle.expansion_laws.proofs.Subtrees.{list_of-uses_of}
use Rattle.expansion_laws.specs.Plain.{tree_step, use_step, shown_tree, shown_use}

-- a plain tree's tree by its fields, and that of what is made of fields
pub tree-out : (x : PlainTree) → shown_tree x ≡ tree_of (out-Tree x).origin (map shown_use (out-Tree x).uses.items)
tree-out x = fold_out-Tree Tree Use tree_step use_step x

pub use-out : (u : TreeUse) → shown_use u ≡ a_single (out-TreeUse u).turn (out-TreeUse u).word
    (shown_tree (out-TreeUse u).tree.value)
use-out u = fold_out-TreeUse Tree Use tree_step use_step u

pub tree-roll : (x : Tree-F PlainTree TreeUse) →
    shown_tree (roll-Tree x) ≡ tree_of x.origin (map shown_use x.uses.items)
tree-roll x = fold-roll-Tree Tree Use tree_step use_step x

pub use-roll : (u : TreeUse-F PlainTree TreeUse) →
    shown_use (roll-TreeUse u) ≡ a_single u.turn u.word (shown_tree u.tree.value)
use-roll u = fold-roll-TreeUse Tree Use tree_step use_step u

-- what has the origin and the uses of a tree stands for the same tree
pub copied-whole : (x : PlainTree) (y : Tree-F PlainTree TreeUse) → y.origin ≡ (out-Tree x).origin →
    map shown_use y.uses.items ≡ map shown_use (out-Tree x).uses.items →
    shown_tree (roll-Tree y) ≡ shown_tree x
copied-whole x y o e = tree-roll y ∙ (λ i. tree_of (o i) (e i)) ∙ sym (tree-out x)

-- ---- the test whether a tree goes with its uses
and-none : (a b : Bool) → (a && (b && false)) ≡ false
and-none true true = refl
and-none true false = refl
and-none false b = refl

uses-out : (x : PlainTree) → uses (shown_tree x) ≡ map shown_use (out-Tree x).uses.items
uses-out x = ap uses (tree-out x) ∙ list_of-uses_of (map shown_use (out-Tree x).uses.items)

some-long : (us : List TreeUse) → (suc (length us) == 0) ≡ false
some-long us = some (length us)
  where
    some : (n : ℕ) → (suc n == 0) ≡ false
    some n = grind arith

prune-by : (s : Step) (x : Tree) (us : List TreeUse) → uses x ≡ map shown_use us → (below : List TreeUse) →
    is_pruned s x (map shown_use below) ≡ (s.rule.prune && (not (length us == 0) && (length below == 0)))
prune-by s x us e (v ∷ below) =
    sym (ap (λ b. s.rule.prune && (not (length us == 0) && b)) (some-long below) ∙
    and-none s.rule.prune (not (length us == 0)))
prune-by s x [] e [] = ap (λ l. s.rule.prune && not (is_empty l)) e
prune-by s x (u ∷ us) e [] =
    ap (λ l. s.rule.prune && not (is_empty l)) e ∙ ap (λ b. s.rule.prune && (not b && true)) (sym (some-long us))

pub prune-is : (s : Step) (x : PlainTree) (below : List TreeUse) →
    is_pruned s (shown_tree x) (map shown_use below) ≡
    (s.rule.prune && (not (length (out-Tree x).uses.items == 0) && (length below == 0)))
prune-is s x below = prune-by s (shown_tree x) (out-Tree x).uses.items (uses-out x) below

-- ---- the test of two lists
and-false : (p q : Bool) → false ≡ q → false ≡ (p && q)
and-false true q e = e
and-false false q e = refl

pub uneven : (a b : List TreeUse) → (length a ≡ length b → ⊥) →
    false ≡ uses_eq (uses_of (map shown_use a)) (uses_of (map shown_use b))
uneven [] [] h = absurd (h refl)
uneven [] (y ∷ b) h = refl
uneven (x ∷ a) [] h = refl
uneven (x ∷ a) (y ∷ b) h =
    and-false (use_eq (shown_use x) (shown_use y)) (uses_eq (uses_of (map shown_use a)) (uses_of (map shown_use b)))
    (uneven a b (λ e. h (ap suc e)))

-- whether the uses from a place on are one
abbrev pub same_from : List TreeUse → List TreeUse → ℕ → Bool
same_from a b i = uses_eq (uses_of (map shown_use (drop i a))) (uses_of (map shown_use (drop i b)))

module _ (a b : List TreeUse) (i : ℕ) where
  at-next : (x y : TreeUse) → i < length a → length a ≡ length b → x ≡ slice_index_or a i x → y ≡ slice_index_or b i y →
      same_from a b i ≡ (use_eq (shown_use x) (shown_use y) && same_from a b (i + 1))
  at-next x y lt e p q =
      let left : drop i a ≡ x ∷ drop (i + 1) a = drop_more a i x lt ∙ ap (λ z. z ∷ drop (i + 1) a) (sym p) in
      let right : drop i b ≡ y ∷ drop (i + 1) b = drop_more b i y (subst (λ n. i < n) e lt) ∙
      ap (λ z. z ∷ drop (i + 1) b) (sym q) in
      λ j. uses_eq (uses_of (map shown_use (left j))) (uses_of (map shown_use (right j)))

  pub next-same : (x y : TreeUse) → i < length a → length a ≡ length b → x ≡ slice_index_or a i x →
      y ≡ slice_index_or b i y → true ≡ use_eq (shown_use x) (shown_use y) →
      same_from a b i ≡ same_from a b (i + 1)
  next-same x y lt e p q t = at-next x y lt e p q ∙ ap (λ z. z && same_from a b (i + 1)) (sym t)

  pub next-other : (x y : TreeUse) → i < length a → length a ≡ length b → x ≡ slice_index_or a i x →
      y ≡ slice_index_or b i y → false ≡ use_eq (shown_use x) (shown_use y) →
      false ≡ same_from a b i
  next-other x y lt e p q t = sym (at-next x y lt e p q ∙ ap (λ z. z && same_from a b (i + 1)) (sym t))

  pub none-left : length a ≤ i → length a ≡ length b → true ≡ same_from a b i
  none-left le e =
      let left : drop i a ≡ [] = drop_all i a le in
      let right : drop i b ≡ [] = drop_all i b (subst (λ n. n ≤ i) e le) in
      sym (λ j. uses_eq (uses_of (map shown_use (left j))) (uses_of (map shown_use (right j))))
