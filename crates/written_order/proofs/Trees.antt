-- Completing trees one by one, and the trees of a pool's numbers.
use Rattle.std.proofs.Common.{◌≡◌, refl, sym, ◌∙◌, ap, inl, inr}
use Rattle.std.specs.Prelude.{ℕ, true, false, ◌||◌, if◌then◌else◌, List, [], ◌∷◌, ◌++◌, map, Contains}
use Rattle.std.specs.List.{list_any}
use Rattle.lists.proofs.Members.{Contains-cases, Contains-here, Contains-none, Contains-there}
use Rattle.location_words.specs.declared.pair.Pair.{Pair}
use Rattle.expansion_laws.specs.Trees.{Tree, Uses, Use, node, no_use, a_use, uses, list_of, uses_of}
use Rattle.expansion_laws.specs.Equality.{tree_eq}
use Rattle.expansion_laws.specs.Written.{completed, completed_uses}
use Rattle.shape_pool.specs.declared.node.UseOf.{UseOf}
use Rattle.shape_pool.specs.Laws.{word_in}
use Rattle.shape_pool.specs.Rows.{tree_at, use_by, uses_at}
use Rattle.written_order.specs.Numbering.{completed_all}
use Rattle.written_order.specs.Orders.{PoolsTell}

uses_of-list_of : (us : Uses) → uses_of (list_of us) ≡ us
uses_of-list_of no_use = refl
uses_of-list_of (a_use t w x others) = ap (a_use t w x) (uses_of-list_of others)

list_of-uses_of : (us : List Use) → list_of (uses_of us) ≡ us
list_of-uses_of [] = refl
list_of-uses_of (u ∷ us) = ap (λ vs. u ∷ vs) (list_of-uses_of us)

-- a tree that stands in the list adds nothing, another its uses' trees and itself
pub completed-done : (x : Tree) (done : List Tree) → list_any (tree_eq x) done ≡ true → completed x done ≡ done
completed-done (node k us) done e = ap (λ b. if b then done else completed_uses us done ++ node k us ∷ []) e

pub completed-new : (x : Tree) (done : List Tree) → list_any (tree_eq x) done ≡ false
    → completed x done ≡ completed_uses (uses_of (uses x)) done ++ x ∷ []
completed-new (node k us) done e =
    ap (λ b. if b then done else completed_uses us done ++ node k us ∷ []) e
    ∙ ap (λ vs. completed_uses vs done ++ node k us ∷ []) (sym (uses_of-list_of us))

-- uses one after another, and one tree more
pub completed_uses-all : (us : List Use) (done : List Tree)
    → completed_uses (uses_of us) done ≡ completed_all (map (λ (u : Use). u.tree) us) done
completed_uses-all [] done = refl
completed_uses-all (u ∷ us) done = completed_uses-all us (completed u.tree done)

pub completed_all-push : (xs : List Tree) (x : Tree) (done : List Tree)
    → completed_all (xs ++ x ∷ []) done ≡ completed x (completed_all xs done)
completed_all-push [] x done = refl
completed_all-push (y ∷ xs) x done = completed_all-push xs x (completed y done)

-- ---- lists of trees given by numbers
module _ (tree : ℕ → Tree) (x : Tree) where
  pub any_at : (ns : List ℕ) (i : ℕ) → Contains ns i → tree_eq x (tree i) ≡ true
      → list_any (tree_eq x) (map tree ns) ≡ true
  any_at [] i there e = absurd (Contains-none i there)
  any_at (n ∷ ns) i there e =
      elim (Contains-cases n i ns there) [
        | inl same ↦ (let here : tree_eq x (tree n) ≡ true = ap (λ k. tree_eq x (tree k)) same ∙ e in rw here refl)
        | inr further ↦ (let rest = any_at ns i further e in
            elim (tree_eq x (tree n)) as (λ b. (b || list_any (tree_eq x) (map tree ns)) ≡ true)
            [ true ↦ refl | false ↦ rest ])
      ]

  pub any_none : (ns : List ℕ) → ((i : ℕ) → Contains ns i → tree_eq x (tree i) ≡ false)
      → list_any (tree_eq x) (map tree ns) ≡ false
  any_none [] none = refl
  any_none (n ∷ ns) none =
      let first : tree_eq x (tree n) ≡ false = none n (Contains-here n ns) in
      rw first (any_none ns (λ i there. none i (Contains-there n i ns there)))

-- ---- the trees of a pool
used_trees : (word : ℕ → List Pair) (tree : ℕ → Tree) (us : List UseOf)
    → map (λ (u : Use). u.tree) (map (use_by word tree) us) ≡ map tree (map (λ (u : UseOf). u.id.0) us)
used_trees word tree [] = refl
used_trees word tree (u ∷ us) = ap (λ ts. tree u.id.0 ∷ ts) (used_trees word tree us)

pub pools-tell : PoolsTell
pools-tell rows table sound is places = record {
  below = λ i lt.
      let over : List Use = map (use_by (word_in table) (tree_at (word_in table) rows)) (uses_at rows i) in
      ap (λ (x : Tree). map (λ (u : Use). u.tree) (uses x)) (sound.trees_of_uses (word_in table) i lt)
      ∙ ap (map (λ (u : Use). u.tree)) (list_of-uses_of over)
      ∙ used_trees (word_in table) (tree_at (word_in table) rows) (uses_at rows i);
  apart = λ i j first second e. (sound.ids_tell_trees_by table is places i j first second).1 e;
}
