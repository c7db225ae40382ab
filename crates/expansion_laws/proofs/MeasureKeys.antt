-- Tests of keys and of reach: they tell keys that are one and what is reached, and each visit has a key.
use Rattle.std.proofs.Common.{◌≡◌, refl, sym, ◌∙◌, ap, subst, inl, inr}
use Rattle.std.specs.Prelude.{◌≢◌, ◌&&◌, ℕ, zero, suc, Bool, true, Option, None, Some, is_some}
use Rattle.std.specs.Prelude.{is_none, List, [], ◌∷◌, Contains}
use Rattle.std.specs.List.{list_any, list_all}
use Rattle.lists.proofs.Sameness.{empty-of}
use Rattle.lists.proofs.Tests.{list_any-contains, list_any-found, list_all-each}
use Rattle.lists.proofs.Members.{Contains-cases, Contains-here}
use Rattle.lists.proofs.Members.{Contains-none, Contains-there}
use Rattle.orientation.specs.Turns.{turn_eq}
use Rattle.location_words.specs.declared.pair.Pair.{Pair}
use Rattle.location_words.specs.Pairs.{pairs_eq}
use Rattle.location_words.specs.Equal.{pairs_decide}
use Rattle.graph_walks.specs.Walks.{itself, along}
use Rattle.expansion_laws.specs.Trees.{Tree}
use Rattle.expansion_laws.specs.Equality.{tree_eq}
use Rattle.expansion_laws.specs.Contexts.{Context}
use Rattle.expansion_laws.specs.Requests.{Request, match_of}
use Rattle.expansion_laws.specs.Steps.{Step}
use Rattle.expansion_laws.specs.Graph.{edges, Reaches}
use Rattle.expansion_laws.specs.Keys.{asks_place, asks_turn, Key, IsKey, context_of}
use Rattle.expansion_laws.specs.SlowMeasures.{option_eq, key_eq, is_ranked, reaches_within, key_within}
use Rattle.expansion_laws.specs.SlowMeasures.{held_word}
use Rattle.expansion_laws.proofs.TreeEquality.{tree_eq-same, tree_eq-itself, and-left}
use Rattle.expansion_laws.proofs.TreeEquality.{and-right, turn_eq-same, turn_eq-itself}
use Rattle.expansion_laws.proofs.KeyLemmas.{match-same}
use Rattle.expansion_laws.proofs.KeyVisitLemmas.{same-for-key}
use Rattle.expansion_laws.proofs.KeyReachLemmas.{either-first, either-second, either-cases}

-- ---- keys are one where the test says so
option-same : {X : Type 0} (eq : X → X → Bool) → ((a b : X) → eq a b ≡ true → a ≡ b) → (o p : Option X) →
    option_eq eq o p ≡ true → o ≡ p
option-same eq h None None e = refl
option-same eq h None (Some y) e = absurd cc
option-same eq h (Some x) None e = absurd cc
option-same eq h (Some x) (Some y) e = ap Some (h x y e)

option-itself : {X : Type 0} (eq : X → X → Bool) → ((a : X) → eq a a ≡ true) → (o : Option X) → option_eq eq o o ≡ true
option-itself eq h None = refl
option-itself eq h (Some x) = h x

pub key_eq-same : (k l : Key) → key_eq k l ≡ true → k ≡ l
key_eq-same k l e =
    let ab = and-left (tree_eq k.tree l.tree && option_eq pairs_eq k.word l.word) (option_eq turn_eq k.turn l.turn) e in
    let a = tree_eq-same k.tree l.tree (and-left (tree_eq k.tree l.tree) (option_eq pairs_eq k.word l.word) ab) in
    let b = option-same pairs_eq (λ v w f. (pairs_decide v w).0 f) k.word l.word
    (and-right (tree_eq k.tree l.tree) (option_eq pairs_eq k.word l.word) ab) in
    let c = option-same turn_eq turn_eq-same k.turn l.turn
    (and-right (tree_eq k.tree l.tree && option_eq pairs_eq k.word l.word) (option_eq turn_eq k.turn l.turn) e) in
    λ i. record { tree = a i; word = b i; turn = c i }

pub key_eq-itself : (k : Key) → key_eq k k ≡ true
key_eq-itself k =
    rw (
      tree_eq-itself k.tree,
      option-itself pairs_eq (λ w. (pairs_decide w w).1 refl) k.word,
      option-itself turn_eq turn_eq-itself k.turn,
    ) refl

-- ---- what is reached, where no walk is longer
module _ (s : Step) where
  ranked-all : (n : ℕ) (x y : Tree) → is_ranked s (suc n) x ≡ true → Contains (edges s x) y → is_ranked s n y ≡ true
  unfolding is_ranked
  ranked-all n x y e m = list_all-each (is_ranked s n) (edges s x) e y m

  ranked-none : (x y : Tree) → is_ranked s zero x ≡ true → Contains (edges s x) y → ⊥
  unfolding is_ranked
  ranked-none x y e m = Contains-none y (subst (λ l. Contains l y) (empty-of (edges s x) e) m)

  ranked-each : (n : ℕ) (x : Tree) (xs : List Tree) → ((y : Tree) → Contains xs y → is_ranked s n y ≡ true) →
      list_all (is_ranked s n) xs ≡ true
  ranked-each n x [] h = refl
  ranked-each n x (y ∷ xs) h = rw (h y (Contains-here y xs)) (ranked-each n x xs (λ z m. h z (Contains-there y z xs m)))

  ranked-more : (n : ℕ) (x : Tree) → is_ranked s n x ≡ true → is_ranked s (suc n) x ≡ true
  unfolding is_ranked
  ranked-more zero x e = ap (list_all (is_ranked s zero)) (empty-of (edges s x) e)
  ranked-more (suc n) x e = ranked-each (suc n) x (edges s x) (λ y m. ranked-more n y (ranked-all n x y e m))

  ranked-end : (n : ℕ) (x y : Tree) → is_ranked s n x ≡ true → Contains (edges s x) y → is_ranked s n y ≡ true
  ranked-end zero x y e m = absurd (ranked-none x y e m)
  ranked-end (suc n) x y e m = ranked-more n y (ranked-all n x y e m)

  pub ranked-reached : {x y : Tree} → Reaches s x y → (n : ℕ) → is_ranked s n x ≡ true → is_ranked s n y ≡ true
  ranked-reached itself n e = e
  ranked-reached (along {x = x} z m r) n e = ranked-reached r n (ranked-end n x z e m)

  module _ (asks : Tree → Bool) where
    reach-found : (n : ℕ) (x : Tree) → reaches_within s asks n x ≡ true → (y : Tree) × Reaches s x y × (asks y ≡ true)
    unfolding reaches_within
    reach-found zero x e = (x, itself, e)
    reach-found (suc n) x e = elim (either-cases (asks x) (list_any (reaches_within s asks n) (edges s x)) e) [
      | inl f ↦ (x, itself, f)
      | inr f ↦
          (let end = list_any-found (reaches_within s asks n) (edges s x) f in
          let rest = reach-found n end.0 end.2 in
          (rest.0, along end.0 end.1 rest.1, rest.2))
    ]

    reach-told : {x y : Tree} → Reaches s x y → asks y ≡ true → (n : ℕ) → is_ranked s n x ≡ true →
        reaches_within s asks n x ≡ true
    unfolding reaches_within
    reach-told itself f zero e = f
    reach-told {x = x} itself f (suc n) e = either-first (asks x) (list_any (reaches_within s asks n) (edges s x)) f
    reach-told {x = x} (along z m r) f zero e = absurd (ranked-none x z e m)
    reach-told {x = x} (along z m r) f (suc n) e =
        either-second (asks x) (list_any (reaches_within s asks n) (edges s x))
        (list_any-contains (reaches_within s asks n) z (edges s x) m (reach-told r f n (ranked-all n x z e m)))

  pub key-told : (n : ℕ) (x : Tree) (here : Context) → is_ranked s n x ≡ true → IsKey s x here (key_within s n x here)
  key-told n x here e = (
    reaches_within s (asks_place s) n x,
    reaches_within s (asks_turn s) n x,
    (reach-found (asks_place s) n x, (λ h. reach-told (asks_place s) h.1 h.2 n e)),
    (reach-found (asks_turn s) n x, (λ h. reach-told (asks_turn s) h.1 h.2 n e)),
    refl,
  )

-- ---- lists of words
pub none-filled : (o : Option Request) → is_none o ≡ true → o ≡ None
none-filled None e = refl
none-filled (Some r) e = absurd cc

pub some-filled : (o : Option (List Pair)) → is_some o ≡ true → o ≢ None
some-filled None e = absurd cc
some-filled (Some w) e = λ f. absurd cc

pub filled-some : (o : Option (List Pair)) → o ≢ None → is_some o ≡ true
filled-some None h = absurd (h refl)
filled-some (Some w) h = refl

pub held-is : (o : Option (List Pair)) (w : List Pair) → Contains (held_word o) w → o ≡ Some w
held-is None w m = absurd (Contains-none w m)
held-is (Some v) w m = elim (Contains-cases v w [] m) [ inl e ↦ ap Some e | inr k ↦ absurd (Contains-none w k) ]

pub is-held : (o : Option (List Pair)) (w : List Pair) → o ≡ Some w → Contains (held_word o) w
is-held o w e = subst (λ p. Contains (held_word p) w) (sym e) (Contains-here w [])

-- the match of a visit is that of its key
pub key-of-match : (s : Step) (x : Tree) (here : Context) (k : Key) → IsKey s x here k →
    match_of s.requests k.tree (context_of k) ≡ match_of s.requests x here
key-of-match s x here k i =
    let tree : k.tree ≡ x = ap (λ (k : Key). k.tree) i.4 in
    ap (λ z. match_of s.requests z (context_of k)) tree ∙
    sym (match-same s x here (context_of k) (same-for-key s x here k i))
