-- The general induction over a derivation.
use Rattle.std.proofs.Common.{refl, sym, subst, inl, inr, cond}
use Rattle.std.specs.Prelude.{◌≡◌, ◌⊎◌, ◌&&◌, Option, None, Some, List, [], ◌∷◌, map}
use Rattle.std.specs.Prelude.{Bool, true, false, filter, Contains, if◌then◌else◌}
use Rattle.std.specs.List.{last_or}
use Rattle.std.proofs.lemmas.List.Elements.{Contains-append_cases}
use Rattle.lists.proofs.Members.{Contains-cases, Contains-here, Contains-map_cases, Contains-none, Contains-there}
use Rattle.orientation.specs.declared.turn.Turn.{Turn}
use Rattle.orientation.specs.Kinds.{kind_eq}
use Rattle.location_words.specs.declared.pair.Pair.{Pair}
use Rattle.location_words.specs.Pairs.{mul}
use Rattle.expansion_laws.specs.Trees.{Tree, Use, uses}
use Rattle.expansion_laws.specs.Contexts.{Context, at_root, inside, carried}
use Rattle.expansion_laws.specs.Requests.{Request, allows, fits, is_for, match_of}
use Rattle.expansion_laws.specs.Steps.{Step, kind, moving_word, new_use, onward, root_of}
use Rattle.expansion_laws.specs.Rewriting.{rebuilt}
use Rattle.expansion_laws.specs.Derivations.{Derives, DeriveAll, stopped, unmatched}
use Rattle.expansion_laws.specs.Derivations.{pruned, removed, replaced, none, next}
use Rattle.expansion_laws.specs.Keeping.{Replaces, IsKept, RewritingKeeps}
use Rattle.expansion_laws.proofs.TreeEquality.{tree_eq-same}
use Rattle.expansion_laws.proofs.Subtrees.{tree-parts}
use Rattle.expansion_laws.proofs.LeastLemmas.{derived}

-- the last that passes is one of the list and passes, or is what stood before
last-passes : (p : Request → Bool) (qs : List Request) (d : Option Request) (r : Request) →
    last_or d (filter p qs) ≡ Some r → (Contains qs r × (p r ≡ true)) ⊎ (d ≡ Some r)
last-passes p [] d r e = inr e
last-passes p (q ∷ qs) d r e = go (p q) refl e (λ d e. last-passes p qs d r e)
  where
    go : (b : Bool) → p q ≡ b → last_or d (cond b (q ∷ filter p qs) (filter p qs)) ≡ Some r →
        ((d : Option Request) → last_or d (filter p qs) ≡ Some r → (Contains qs r × (p r ≡ true)) ⊎ (d ≡ Some r)) →
        (Contains (q ∷ qs) r × (p r ≡ true)) ⊎ (d ≡ Some r)
    go true f e ih = elim (ih (Some q) e) [
      | inl m ↦ inl (Contains-there q r qs m.0, m.1)
      | inr z ↦
          (let same : q ≡ r = cc in
          inl (subst (λ v. Contains (q ∷ qs) v) same (Contains-here q qs), subst (λ v. p v ≡ true) same f))
    ]
    go false f e ih = elim (ih d e) [ inl m ↦ inl (Contains-there q r qs m.0, m.1) | inr z ↦ inr z ]

and-first : (a b : Bool) → (a && b) ≡ true → a ≡ true
and-first true b e = refl
and-first false b e = absurd cc

-- the match of an occurrence is a request of the step for its tree
pub match-given : (s : Step) (x : Tree) (here : Context) (r : Request) → match_of s.requests x here ≡ Some r →
    Contains s.requests r × (r.source ≡ x)
match-given s x here r e = elim (last-passes (fits x here) s.requests None r e) [
  | inl m ↦ (m.0, tree_eq-same r.source x (and-first (is_for x r) (allows here r) m.1))
  | inr z ↦ absurd cc
]

module _ (s : Step) (P : Tree → Type 0) (W : List Pair → Type 0) (R : Tree → Tree → Type 0) (k : IsKept s P W R) where
  -- what goes on after a replace
  moving-kept : (c : Context) (u : Use) (place : Option (List Pair)) → W c.word → W u.word → W (moving_word c u place)
  moving-kept c u None h g = g
  moving-kept c u (Some place) h g = k.inverses c.word h

  onward-kept : (t : Turn) (w : List Pair) (r : Request) (by : Use) → Replaces s r by → W w → (v : Use) →
      Contains (onward s r.source (carried t w by)) v →
      P v.tree × W v.word × ((y : Tree) → R v.tree y → R r.source y)
  onward-kept t w r by g h v m = go (kind_eq (kind s r.source) (kind s by.tree)) refl m
    where
      new : Use
      new = carried t w by

      go : (b : Bool) → kind_eq (kind s r.source) (kind s by.tree) ≡ b →
          Contains (if b then carried t w by ∷ [] else map (carried (carried t w by).turn (carried t w by).word)
          (uses by.tree)) v →
          P v.tree × W v.word × ((y : Tree) → R v.tree y → R r.source y)
      go true e m = elim (Contains-cases (carried t w by) v [] m) [
        | inl same ↦ subst (λ (v : Use). P v.tree × W v.word × ((y : Tree) → R v.tree y → R r.source y)) same
            ((k.targets r by g).0, k.products w by.word h (k.targets r by g).1, λ y z. k.equal_kinds r by y g e z)
        | inr n ↦ absurd (Contains-none v n)
      ]
      go false e m =
          let from = Contains-map_cases (carried (carried t w by).turn (carried t w by).word) v (uses by.tree) m in
          let held = k.targets r by g in
          let below = k.uses_of_it by.tree from.0 held.0 from.1 in
          subst (λ (v : Use). P v.tree × W v.word × ((y : Tree) → R v.tree y → R r.source y)) from.2 (
            below.0,
            k.products (mul w by.word) from.0.word (k.products w by.word h held.1) below.1,
            λ y z. k.other_kinds r by from.0 y g e from.1 z,
          )

  mutual
    kept : {c : Context} {u : Use} {a : List Use} → Derives s c u a → W c.word → W u.word → P u.tree → (v : Use) →
        Contains a v → P v.tree × W v.word × R u.tree v.tree
    kept {u = u} (stopped m e) hc hw hp v n = elim (Contains-cases u v [] n) [
      | inl same ↦ subst (λ (v : Use). P v.tree × W v.word × R u.tree v.tree) same
          (hp, hw, subst (R u.tree) (tree-parts u.tree) (k.stays u.tree (uses u.tree)))
      | inr f ↦ absurd (Contains-none v f)
    ]
    kept (pruned m e d p) hc hw hp v n = absurd (Contains-none v n)
    kept {c = c} {u = u} (unmatched {below = below} m g d p) hc hw hp v n =
        elim (Contains-cases (rebuilt u below) v [] n) [
          | inl e ↦ subst (λ (v : Use). P v.tree × W v.word × R u.tree v.tree) e (
            k.rebuilt u.tree below hp (kept-all d (k.products c.word u.word hc hw) (λ w i. k.uses_of_it u.tree w hp i)),
            hw,
            k.stays u.tree below,
          )
          | inr f ↦ absurd (Contains-none v f)
        ]
    kept (removed r m f) hc hw hp v n = absurd (Contains-none v n)
    kept {c = c} {u = u} (replaced r by m f d) hc hw hp v n =
        let given = match-given s u.tree (inside c u) r m in
        let on = λ (w : Use) (i : Contains (onward s u.tree (new_use c u r.place by)) w).
        onward-kept u.turn (moving_word c u r.place) r by (given.0, f) (moving-kept c u r.place hc hw) w
        (subst (λ x. Contains (onward s x (new_use c u r.place by)) w) (sym given.1) i) in
        let all = kept-all d hc (λ w i. ((on w i).0, (on w i).1)) v n in
        (all.0, all.1, subst (λ x. R x v.tree) given.1 ((on all.2.0 all.2.1).2 v.tree all.2.2))

    kept-all : {c : Context} {us a : List Use} → DeriveAll s c us a → W c.word →
        ((u : Use) → Contains us u → P u.tree × W u.word) → (v : Use) → Contains a v →
        P v.tree × W v.word × ((u : Use) × Contains us u × R u.tree v.tree)
    kept-all none hc h v n = absurd (Contains-none v n)
    kept-all (next {u = u} {us = us} {first = a} {rest = b} d e) hc h v n = elim (Contains-append_cases a b v n) [
      | inl m ↦ (let one = kept d hc (h u (Contains-here u us)).1 (h u (Contains-here u us)).0 v m in
          (one.0, one.1, (u, Contains-here u us, one.2)))
      | inr m ↦ (let all = kept-all e hc (λ w i. h w (Contains-there u w us i)) v m in
          (all.0, all.1, (all.2.0, Contains-there u all.2.0 us all.2.1, all.2.2)))
    ]

  root-kept : (results : List Use) → ((v : Use) → Contains results v → P v.tree × W v.word) →
      P (root_of results).tree × W (root_of results).word
  root-kept [] h = (k.wrapped [] h, k.nothing)
  root-kept (r ∷ []) h = h r (Contains-here r [])
  root-kept (r ∷ q ∷ rest) h = (k.wrapped (r ∷ q ∷ rest) h, k.nothing)

  pub rewriting-keeps : RewritingKeeps s P W R
  rewriting-keeps = record {
    of_results = λ c u results hc hw hp r. kept (derived s r.0 c u results r.1) hc hw hp;
    of_roots = λ root new hw hp st.
        subst (λ (n : Use). P n.tree × W n.word) (sym st.2)
        (root-kept st.0
        (λ v m. (let g = kept (derived s st.1.0 at_root root st.0 st.1.1) k.nothing hw hp v m in (g.0, g.1))));
  }
