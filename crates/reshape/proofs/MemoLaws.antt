-- Keys that are added to others, one after the other, and place by place.
use Rattle.std.proofs.Common.{◌≡◌, ◌≤◌, ◌<◌, ◌+◌, ◌∙◌, ◌++◌, ◌∷◌, ℕ, zero, suc, List, [], Contains, length, take}
use Rattle.std.proofs.Common.{arith, refl, sym, ap, subst, slice_get, Option, Some, None, inl, inr}
use Rattle.std.specs.Prelude.{◌⊎◌, Vec}
use Rattle.std.specs.Global.{Global}
use Rattle.std.proofs.lemmas.List.{append-nil, append_assoc, take_all}
use Rattle.std.proofs.lemmas.List.Elements.{Contains-append_left, Contains-push, Contains-push_cases}
use Rattle.std.proofs.lemmas.Option.{slice_get_within}
use Rattle.lists.specs.Distinct.{IsDistinct}
use Rattle.lists.proofs.Distinct.{IsDistinct-push}
use Rattle.lists.proofs.Cases.{same_or_not}
use Rattle.lists.proofs.Members.{Contains-none}
use Rattle.lists.proofs.Places.{take-at, Contains-at, place_of, slice_get-kept}
use Rattle.key_results.specs.declared.key.Key.{Key}
use Rattle.key_results.specs.contracts.key.KeyPartialEq as key_equality
use Rattle.orientation.specs.contracts.turn.TurnPartialEq as turn_equality
use Rattle.orientation.specs.declared.turn.Turn.{Turn}
use Rattle.orientation.specs.declared.turn.Turn.TheVariants.{Forward, Reversed, Internal, External}
use Rattle.location_words.specs.declared.table.WordId.{WordId}
use Rattle.std.specs.Option.{option_eq}
use Rattle.std.specs.Prelude.{◌&&◌, Bool, nat_eq, if◌then◌else◌, IsTrue, IfSome, IfNone, position}
use Rattle.std.specs.List.{list_any, position_or_len}
use Rattle.std.proofs.Common.{◌↔◌, eqb-true, eq-eqb, true≢false, slice_index_or, false}
use Rattle.std.proofs.lemmas.Option.{slice_get-get_or}
use Rattle.lists.proofs.Cases.{by_test}
use Rattle.lists.proofs.Tests.{list_any-contains, position-first}
use Rattle.indexmap.proofs.CallerLemmas.{Contains-list_any}
use Rattle.std.proofs.lemmas.List.Quantifiers.{position-Some}
use Rattle.std.proofs.Common.{true}
use Rattle.reshape.specs.Collecting.{keys_at, IsAdded, AreJoined, AreInOrder}

pub joined-none : (old : List Key) → AreJoined [] old old
joined-none old = record {
  more = [];
  is = sym (append-nil old);
  of_own = λ k m. m;
  has = λ k m. absurd (Contains-none k m);
  once = λ d. d;
}

one-more : (own : List Key) (key : Key) (old mid new : List Key) → AreJoined own old mid → IsAdded key mid new →
    AreJoined (own ++ key ∷ []) old new
one-more own key old mid new j added = elim added [
  | inl o ↦ record {
    more = j.more;
    is = o.1 ∙ j.is;
    of_own = λ k m. Contains-append_left own (key ∷ []) k (j.of_own k m);
    has = λ k m. subst (λ (l : List Key). Contains l k) (sym o.1) (elim (Contains-push_cases own key k m) [
      | inl a ↦ j.has k a
      | inr e ↦ subst (Contains mid) e o.0
    ]);
    once = λ d. subst (λ (l : List Key). IsDistinct l) (sym o.1) (j.once d);
  }
  | inr o ↦ record {
    more = j.more ++ key ∷ [];
    is = o.1 ∙ ap (λ (l : List Key). l ++ key ∷ []) j.is ∙ append_assoc old j.more (key ∷ []);
    of_own = λ k m. elim (Contains-push_cases j.more key k m) [
      | inl a ↦ Contains-append_left own (key ∷ []) k (j.of_own k a)
      | inr e ↦ subst (Contains (own ++ key ∷ [])) e (Contains-push own key)
    ];
    has = λ k m. subst (λ (l : List Key). Contains l k) (sym o.1) (elim (Contains-push_cases own key k m) [
      | inl a ↦ Contains-append_left mid (key ∷ []) k (j.has k a)
      | inr e ↦ subst (Contains (mid ++ key ∷ [])) e (Contains-push mid key)
    ]);
    once = λ d. subst (λ (l : List Key). IsDistinct l) (sym o.1) (IsDistinct-push mid key (j.once d) o.0);
  }
]

pub joined-next : (own : List Key) (i : ℕ) (key : Key) (old mid new : List Key) → slice_get own i ≡ Some key →
    AreJoined (take i own) old mid →
    IsAdded key mid new → AreJoined (take (i + 1) own) old new
joined-next own i key old mid new s j added =
    subst (λ (l : List Key). AreJoined l old new) (sym (take-at own i key s))
    (one-more (take i own) key old mid new j added)

pub joined-all : (own : List Key) (i : ℕ) (old new : List Key) → length own ≤ i → AreJoined (take i own) old new →
    AreJoined own old new
joined-all own i old new le j = subst (λ (l : List Key). AreJoined l old new) (take_all i own le) j

-- ---- place by place
-- the keys of the places before one, in order
pub record AreOrderedTo (at : List (Vec Key Global)) (n : ℕ) (keys : List Key) : Type 0 where
  pub distinct : IsDistinct keys
  pub all : (p : ℕ) (k : Key) → p < n → Contains (keys_at at p) k → Contains keys k
  pub placed : (i : ℕ) (k : Key) → slice_get keys i ≡ Some k → (p : ℕ) × Contains (keys_at at p) k ×
      ((q : ℕ) (l : Key) → q < p → Contains (keys_at at q) l → (j : ℕ) × (j < i) × (slice_get keys j ≡ Some l))

pub ordered-none : (at : List (Vec Key Global)) → AreOrderedTo at 0 []
ordered-none at = record { distinct = tt; all = λ p k lt m. absurd (omega (arith, lt)); placed = λ i k e. absurd cc }

-- what stands at a place of joined lists stands in the first or past it
joint : (xs ys : List Key) (i : ℕ) (k : Key) → slice_get (xs ++ ys) i ≡ Some k →
    (slice_get xs i ≡ Some k) ⊎ (Contains ys k × (length xs ≤ i))
joint [] ys i k e = inr (Contains-at ys i k e, omega arith)
joint (x ∷ xs) ys zero k e = inl e
joint (x ∷ xs) ys (suc i) k e = elim (joint xs ys i k e) [
  | inl a ↦ inl a
  | inr b ↦ inr (b.0, (let le = b.1 in omega (arith, le)))
]

pub less-or-same : (p n : ℕ) → p < suc n → (p ≡ n → ⊥) → p < n
less-or-same zero zero lt h = absurd (h refl)
less-or-same zero (suc n) lt h = omega arith
less-or-same (suc p) zero lt h = absurd (omega (arith, lt))
less-or-same (suc p) (suc n) lt h =
    (let r = less-or-same p n (omega (arith, lt)) (λ e. h (ap suc e)) in omega (arith, r))

module _ (at : List (Vec Key Global)) (n : ℕ) (old new : List Key) (before : AreOrderedTo at n old)
    (j : AreJoined (keys_at at n) old new) where
  ordered-old : (i : ℕ) (k : Key) → slice_get old i ≡ Some k → (p : ℕ) × Contains (keys_at at p) k ×
      ((q : ℕ) (l : Key) → q < p → Contains (keys_at at q) l → (m : ℕ) × (m < i) × (slice_get new m ≡ Some l))
  ordered-old i k e =
      let b = before.placed i k e in (
        b.0,
        b.1,
        λ q l lt m. let r = b.2 q l lt m in
            (r.0, r.1, ap (λ (z : List Key). slice_get z r.0) j.is ∙ slice_get-kept old j.more r.0 l r.2),
      )

  ordered-new : (i : ℕ) (k : Key) → Contains j.more k → length old ≤ i → (p : ℕ) × Contains (keys_at at p) k ×
      ((q : ℕ) (l : Key) → q < p → Contains (keys_at at q) l → (m : ℕ) × (m < i) × (slice_get new m ≡ Some l))
  ordered-new i k m le = (
    n,
    j.of_own k m,
    λ q l lt c. let r = place_of old l (before.all q l lt c) in
        let within : r.0 < length old = slice_get_within old r.0 l r.1 in (
          r.0,
          omega (arith, within, le),
          ap (λ (z : List Key). slice_get z r.0) j.is ∙
              slice_get-kept old j.more r.0 l r.1,
        ),
  )

  pub ordered-next : AreOrderedTo at (suc n) new
  ordered-next = record {
    distinct = j.once before.distinct;
    all = λ p k lt m. same_or_not p n
        (λ e. j.has k (subst (λ (q : ℕ). Contains (keys_at at q) k) e m))
        (λ h. subst (λ (z : List Key). Contains z k) (sym j.is)
        (Contains-append_left old j.more k (before.all p k (less-or-same p n lt h) m)));
    placed = λ i k e. elim (joint old j.more i k (subst (λ (z : List Key). slice_get z i ≡ Some k) j.is e)) [
      | inl a ↦ ordered-old i k a
      | inr b ↦ ordered-new i k b.0 b.1
    ];
  }

-- a place with a key is one of the list
pub place-within : (at : List (Vec Key Global)) (p : ℕ) (k : Key) → Contains (keys_at at p) k → p < length at
place-within [] p k m = absurd (Contains-none k m)
place-within (v ∷ at) zero k m = omega arith
place-within (v ∷ at) (suc p) k m = (let lt = place-within at p k m in omega (arith, lt))

pub ordered-all : (at : List (Vec Key Global)) (n : ℕ) (keys : List Key) → length at ≤ n → AreOrderedTo at n keys →
    AreInOrder at keys
ordered-all at n keys le o = record {
  distinct = o.distinct;
  all = λ p k m. o.all p k (let lt = place-within at p k m in omega (arith, lt, le)) m;
  placed = o.placed;
}

-- ---- the test of two keys
abbrev KE : Key → Key → Bool
KE = (key_equality.TheImpl.eq-value).it

abbrev TE : Turn → Turn → Bool
TE = (turn_equality.TheImpl.eq-value).it

abbrev WE : WordId → WordId → Bool
WE a b = nat_eq a.0 b.0

turn-same : (a b : Turn) → TE a b ≡ true → a ≡ b
turn-same Forward Forward e = refl
turn-same Forward Reversed e = absurd cc
turn-same Forward Internal e = absurd cc
turn-same Forward External e = absurd cc
turn-same Reversed Forward e = absurd cc
turn-same Reversed Reversed e = refl
turn-same Reversed Internal e = absurd cc
turn-same Reversed External e = absurd cc
turn-same Internal Forward e = absurd cc
turn-same Internal Reversed e = absurd cc
turn-same Internal Internal e = refl
turn-same Internal External e = absurd cc
turn-same External Forward e = absurd cc
turn-same External Reversed e = absurd cc
turn-same External Internal e = absurd cc
turn-same External External e = refl

turn-itself : (a : Turn) → TE a a ≡ true
turn-itself Forward = refl
turn-itself Reversed = refl
turn-itself Internal = refl
turn-itself External = refl

both : (a b : Bool) → (a && b) ≡ true → (a ≡ true) × (b ≡ true)
both true b e = (refl, e)
both false b e = absurd cc

option-same : {X : Type 0} (E : X → X → Bool) → ((x y : X) → E x y ≡ true → x ≡ y) → (a b : Option X) →
    option_eq E a b ≡ true → a ≡ b
option-same E same None None e = refl
option-same E same None (Some y) e = absurd cc
option-same E same (Some x) None e = absurd cc
option-same E same (Some x) (Some y) e = ap Some (same x y e)

option-itself : {X : Type 0} (E : X → X → Bool) → ((x : X) → E x x ≡ true) → (a : Option X) → option_eq E a a ≡ true
option-itself E same None = refl
option-itself E same (Some x) = same x

word-same : (a b : WordId) → WE a b ≡ true → a ≡ b
word-same a b e = (let same = eqb-true a.0 b.0 e in λ i. record { 0 = same i })

key-same : (a b : Key) → KE a b ≡ true → a ≡ b
key-same a b e =
    let p = both (nat_eq a.id.0 b.id.0) (option_eq WE a.word b.word && option_eq TE a.turn b.turn) e in
    let q = both (option_eq WE a.word b.word) (option_eq TE a.turn b.turn) p.1 in
    let ids = eqb-true a.id.0 b.id.0 p.0 in
    let words = option-same WE word-same a.word b.word q.0 in
    let turns = option-same TE turn-same a.turn b.turn q.1 in
    λ i. record { id = record { 0 = ids i }; word = words i; turn = turns i }

both-hold : (a b : Bool) → a ≡ true → b ≡ true → (a && b) ≡ true
both-hold true b e f = f
both-hold false b e f = absurd cc

key-itself : (a : Key) → KE a a ≡ true
key-itself a =
    both-hold (nat_eq a.id.0 a.id.0) (option_eq WE a.word a.word && option_eq TE a.turn a.turn)
    (eq-eqb a.id.0 a.id.0 refl)
    (both-hold (option_eq WE a.word a.word) (option_eq TE a.turn a.turn)
    (option-itself WE (λ w. eq-eqb w.0 w.0 refl) a.word)
    (option-itself TE turn-itself a.turn))

any-key : (keys : List Key) (key : Key) → Contains keys key → list_any (KE key) keys ≡ true
any-key keys key m = list_any-contains (KE key) key keys m (key-itself key)

pub added : (keys new : List Key) (key : Key) → new ≡ (if list_any (KE key) keys then keys else keys ++ key ∷ []) →
    IsAdded key keys new
added keys new key n = by_test (list_any (KE key) keys)
    (λ t. inl (Contains-list_any KE key-same keys key t, n ∙ ap (λ (b : Bool). if b then keys else keys ++ key ∷ []) t))
    (λ f.
    inr (
      (λ m. true≢false (sym (any-key keys key m) ∙ f)),
      n ∙ ap (λ (b : Bool). if b then keys else keys ++ key ∷ []) f,
    ))

pub among-tells : (b : Bool) (keys : List Key) (key : Key) → b ≡ list_any (KE key) keys → IsTrue b ↔ Contains keys key
among-tells b keys key e = ((λ t. Contains-list_any KE key-same keys key (sym e ∙ t)), (λ m. e ∙ any-key keys key m))

pub placed-some : (o : Option ℕ) (keys : List Key) (key : Key) → o ≡ position (KE key) keys →
    IfSome o (λ i. slice_get keys i ≡ Some key)
placed-some None keys key e = tt
placed-some (Some i) keys key e =
    let there = position-Some (KE key) keys i key (sym e) in
    slice_get-get_or keys i key there.0 ∙ ap Some (sym (key-same key (slice_index_or keys i key) there.1))

pub placed-none : (o : Option ℕ) (keys : List Key) (key : Key) → o ≡ position (KE key) keys →
    IfNone o (Contains keys key → ⊥)
placed-none (Some i) keys key e = tt
placed-none None keys key e = λ m. wrong (e ∙ position-first (KE key) keys (any-key keys key m))
  where
    wrong : None ≡ Some (position_or_len (KE key) keys) → ⊥
    wrong w = absurd cc
