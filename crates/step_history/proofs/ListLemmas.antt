-- Tests of kinds and trees tell what they test, and filtered lists hold what passes.
use Rattle.std.proofs.Common.{◌≡◌, ◌<◌, refl, ap, subst, inl, inr, ◌∙◌}
use Rattle.std.proofs.lemmas.Bool.{ltb-true, lt-ltb}
use Rattle.std.specs.Prelude.{◌↔◌, ◌≢◌, ◌&&◌, not, nat_lt, ℕ, Bool, true, false, Option, None, Some, is_none, List, Contains}
use Rattle.lists.proofs.Tests.{list_any-contains, list_any-found, Contains-filter, Contains-filter_cases}
use Rattle.lists.proofs.Members.{Contains-flat_map, Contains-flat_map_cases}
use Rattle.orientation.specs.declared.kind.Kind.{Kind}
use Rattle.orientation.specs.declared.kind.Kind.TheVariants.{Ve, Ed, Wi, Fa, Sh, So, CS, Co}
use Rattle.expansion_laws.specs.Trees.{Tree, Use, uses}
use Rattle.expansion_laws.specs.Equality.{tree_eq}
use Rattle.expansion_laws.specs.Measures.{subtrees, OccursIn, StandsBelow}
use Rattle.expansion_laws.specs.Requests.{Act, remove, replace, Request}
use Rattle.step_history.specs.History.{IsSupported, IsGone}
use Rattle.step_history.specs.SlowHistory.{is_supported, occurs, act_replaces, match_replaces, trees_below, is_first_in, gone_listed, modified_listed}

pub and-parts : (a b : Bool) → (a && b) ≡ true → (a ≡ true) × (b ≡ true)
and-parts true b e = (refl, e)
and-parts false b e = absurd cc

pub and-both : (a b : Bool) → a ≡ true → b ≡ true → (a && b) ≡ true
and-both true b e f = f
and-both false b e f = absurd cc

pub not-of : (b : Bool) → not b ≡ true → b ≡ true → ⊥
not-of true e f = cc
not-of false e f = cc

pub not-true : (b : Bool) → (b ≡ true → ⊥) → not b ≡ true
not-true true h = absurd (h refl)
not-true false h = refl

-- ---- kinds and trees
pub supported-of : (k : Kind) → is_supported k ≡ true → IsSupported k
supported-of Ve e = inl refl
supported-of Ed e = inr (inl refl)
supported-of Wi e = absurd cc
supported-of Fa e = inr (inr (inl refl))
supported-of Sh e = absurd cc
supported-of So e = inr (inr (inr refl))
supported-of CS e = absurd cc
supported-of Co e = absurd cc

pub of-supported : (k : Kind) → IsSupported k → is_supported k ≡ true
of-supported k (inl e) = ap is_supported e
of-supported k (inr (inl e)) = ap is_supported e
of-supported k (inr (inr (inl e))) = ap is_supported e
of-supported k (inr (inr (inr e))) = ap is_supported e

abbrev pub EqualTreesTell : Type 0
EqualTreesTell = (x y : Tree) → (tree_eq x y ≡ true) ↔ (x ≡ y)

module _ (tells : EqualTreesTell) where
  pub occurs-of : (x whole : Tree) → occurs x whole ≡ true → OccursIn x whole
  occurs-of x whole e =
      let f = list_any-found (λ z. tree_eq z x) (subtrees whole) e in
      subst (λ z. Contains (subtrees whole) z) ((tells f.0 x).0 f.2) f.1

  pub of-occurs : (x whole : Tree) → OccursIn x whole → occurs x whole ≡ true
  of-occurs x whole m = list_any-contains (λ z. tree_eq z x) x (subtrees whole) m ((tells x x).1 refl)

pub below-of : (x above : Tree) → Contains (trees_below above) x → StandsBelow x above
below-of x above m = Contains-flat_map_cases (λ (u : Use). subtrees u.tree) x (uses above) m

pub of-below : (x above : Tree) → StandsBelow x above → Contains (trees_below above) x
of-below x above h = Contains-flat_map (λ (u : Use). subtrees u.tree) h.0 x (uses above) h.1 h.2

pub lower-of : (a b : ℕ) → nat_lt a b ≡ true → a < b
lower-of a b e = ltb-true a b e

pub of-lower : (a b : ℕ) → a < b → nat_lt a b ≡ true
of-lower a b h = lt-ltb a b h

-- ---- replaces
act-of : (act : Act) → act_replaces act ≡ true → (by : Use) × (act ≡ replace by)
act-of remove e = absurd cc
act-of (replace by) e = (by, refl)

pub replaces-of : (m : Option Request) → match_replaces m ≡ true → (r : Request) × (by : Use) × (m ≡ Some r) × (r.act ≡ replace by)
replaces-of None e = absurd cc
replaces-of (Some r) e = let a = act-of r.act e in (r, a.0, refl, a.1)

pub of-replaces : (m : Option Request) (r : Request) (by : Use) → m ≡ Some r → r.act ≡ replace by → match_replaces m ≡ true
of-replaces m r by e f = ap match_replaces e ∙ ap act_replaces f

-- ---- visits that stop
pub none-of : (m : Option Request) → is_none m ≡ true → m ≡ None
none-of None e = refl
none-of (Some r) e = absurd cc

pub false-of : (b : Bool) → not b ≡ true → b ≡ false
false-of true e = absurd cc
false-of false e = refl

-- ---- modified pairs and trees that are gone, where the list has the pairs of the relation
module _ (tells : EqualTreesTell) (R : Tree → Tree → Type 0) (pairs : List (Tree × Tree)) (same : (t x : Tree) → R t x ↔ Contains pairs (t, x)) where
  pub modified-listed : (t x : Tree) → (R t x × (t ≢ x)) ↔ Contains (modified_listed pairs) (t, x)
  modified-listed t x = (to, from)
    where
      to : R t x × (t ≢ x) → Contains (modified_listed pairs) (t, x)
      to m =
          Contains-filter (λ (p : Tree × Tree). not (tree_eq p.0 p.1)) pairs (t, x) ((same t x).0 m.0)
          (not-true (tree_eq t x) (λ e. m.1 ((tells t x).0 e)))

      from : Contains (modified_listed pairs) (t, x) → R t x × (t ≢ x)
      from m =
          let f = Contains-filter_cases (λ (p : Tree × Tree). not (tree_eq p.0 p.1)) pairs (t, x) m in
          ((same t x).1 f.0, λ e. not-of (tree_eq t x) f.1 (subst (λ z. tree_eq t z ≡ true) e ((tells t t).1 refl)))

  has-first : (t : Tree) → is_first_in pairs t ≡ true → (x : Tree) × R t x
  has-first t e =
      let f = list_any-found (λ (p : Tree × Tree). tree_eq p.0 t) pairs e in
      (f.0.1, subst (λ z. R z f.0.1) ((tells f.0.0 t).0 f.2) ((same f.0.0 f.0.1).1 f.1))

  first-has : (t x : Tree) → R t x → is_first_in pairs t ≡ true
  first-has t x r = list_any-contains (λ (p : Tree × Tree). tree_eq p.0 t) (t, x) pairs ((same t x).0 r) ((tells t t).1 refl)

  pub gone-listed : (kind_of : Tree → Kind) (before after t : Tree) → IsGone kind_of before after R t ↔ Contains (gone_listed kind_of before after pairs) t
  gone-listed kind_of before after t = (to, from)
    where
      to : IsGone kind_of before after R t → Contains (gone_listed kind_of before after pairs) t
      to g =
          Contains-filter (λ t. is_supported (kind_of t) && (not (is_first_in pairs t) && not (occurs t after))) (subtrees before) t g.1
          (and-both (is_supported (kind_of t)) (not (is_first_in pairs t) && not (occurs t after)) (of-supported (kind_of t) g.0)
          (and-both (not (is_first_in pairs t)) (not (occurs t after))
          (not-true (is_first_in pairs t) (λ e. let i = has-first t e in g.2 i.0 i.1))
          (not-true (occurs t after) (λ e. g.3 ((occurs-of tells) t after e)))))

      from : Contains (gone_listed kind_of before after pairs) t → IsGone kind_of before after R t
      from m =
          let f = Contains-filter_cases (λ t. is_supported (kind_of t) && (not (is_first_in pairs t) && not (occurs t after))) (subtrees before) t m in
          let p = and-parts (is_supported (kind_of t)) (not (is_first_in pairs t) && not (occurs t after)) f.1 in
          let q = and-parts (not (is_first_in pairs t)) (not (occurs t after)) p.1 in (
            supported-of (kind_of t) p.0,
            f.0,
            (λ x r. not-of (is_first_in pairs t) q.0 (first-has t x r)),
            (λ o. not-of (occurs t after) q.1 ((of-occurs tells) t after o)),
          )
