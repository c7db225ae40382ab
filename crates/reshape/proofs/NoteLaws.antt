-- One key more among those that were found.
use Rattle.std.proofs.Common.{◌≡◌, ◌≢◌, ◌≤◌, ◌+◌, ◌∙◌, ◌++◌, ◌∷◌, ℕ, zero, suc}
use Rattle.std.proofs.Common.{Bool, true, false, List, [], All, Contains, length}
use Rattle.std.proofs.Common.{arith, refl, sym, ap, subst, slice_get, set, Option, Some, inl, inr, cond}
use Rattle.std.specs.Prelude.{◌⊎◌, filter, is_some, Vec}
use Rattle.std.specs.Global.{Global}
use Rattle.std.specs.Option.{option_map_or}
use Rattle.std.proofs.lemmas.List.{length-append}
use Rattle.std.proofs.lemmas.List.Elements.{All-weaker, filter-append, Contains-append_left}
use Rattle.std.proofs.lemmas.List.Elements.{Contains-push, Contains-push_cases}
use Rattle.lists.specs.Distinct.{IsDistinct}
use Rattle.lists.proofs.Cases.{by_test, same_or_not}
use Rattle.lists.proofs.Distinct.{IsDistinct-push}
use Rattle.lists.proofs.Each.{All-from_members}
use Rattle.std.proofs.lemmas.List.Elements.{All-contains}
use Rattle.lists.proofs.Places.{slice_get-set, slice_get-set-other}
use Rattle.shape_pool.specs.Rows.{Row}
use Rattle.requests.specs.Plans.{PlannedNode, ids_of}
use Rattle.key_results.specs.declared.key.Key.{Key}
use Rattle.key_results.specs.Memos.{IsHeldKey}
use Rattle.reshape.specs.Limits.{most_keys}
use Rattle.reshape.specs.Collecting.{keys_at, worded, AreFound, IsNoted}

-- ---- one thing more in a list
pub All-push : {X : Type 0} (P : X → Type 0) (xs : List X) (x : X) → All P xs → P x → All P (xs ++ x ∷ [])
All-push P xs x all p = All-from_members P (xs ++ x ∷ []) (λ y m. elim (Contains-push_cases xs x y m) [
  | inl k ↦ All-contains P xs y all k
  | inr e ↦ subst P e p
])

worded-by : (keys : List Key) (key : Key) (b : Bool) → is_some key.word ≡ b →
    worded (keys ++ key ∷ []) ≡ worded keys + length (cond b (key ∷ []) [])
worded-by keys key b e =
    ap length (filter-append (λ (k : Key). is_some k.word) keys (key ∷ [])) ∙
    length-append (filter (λ (k : Key). is_some k.word) keys) (filter (λ (k : Key). is_some k.word) (key ∷ [])) ∙
    ap (λ (v : Bool). worded keys + length (cond v (key ∷ []) [])) e

pub worded-with : (keys new : List Key) (key : Key) (count now : ℕ) → new ≡ keys ++ key ∷ [] → is_some key.word ≡ true →
    count ≡ worded keys →
    now ≡ count + 1 → now ≡ worded new
worded-with keys new key count now n e h m = m ∙ ap (λ k. k + 1) h ∙ sym (ap worded n ∙ worded-by keys key true e)

pub worded-without : (keys new : List Key) (key : Key) (count : ℕ) → new ≡ keys ++ key ∷ [] → is_some key.word ≡ false →
    count ≡ worded keys →
    count ≡ worded new
worded-without keys new key count n e h =
    let same = ap worded n ∙ worded-by keys key false e in omega (arith, same, h)

-- ---- what is found with one key more
module _ (rows : List Row) (n : ℕ) (nodes : List PlannedNode) (place : ℕ) (key : Key) (keys : List Key)
    (at : List (Vec Key Global)) (count : ℕ)
    (now : List Key) (now_at : List (Vec Key Global)) (now_count : ℕ)
    (found : AreFound rows n nodes keys at count) (noted : IsNoted place key keys at now now_at)
    (is_held : IsHeldKey rows n key) (is_at : slice_get (ids_of nodes) place ≡ Some key.id.0) where
  -- a key at a place stays there
  at-more : (q : ℕ) (k : Key) → Contains (keys_at at q) k → Contains (keys_at now_at q) k
  at-more q k m = same_or_not q place
      (λ e. elim noted.own [
        | inl o ↦ subst (λ (p : ℕ). Contains (keys_at now_at p) k) (sym e)
            (subst (λ (l : List Key). Contains l k) (sym o.2) (subst (λ (p : ℕ). Contains (keys_at at p) k) e m))
        | inr o ↦ subst (λ (p : ℕ). Contains (keys_at now_at p) k) (sym e)
            (subst (λ (l : List Key). Contains l k) (sym o.2)
            (Contains-append_left (keys_at at place) (key ∷ []) k (subst (λ (p : ℕ). Contains (keys_at at p) k) e m)))
      ])
      (λ h. subst (λ (l : List Key). Contains l k) (sym (noted.others q h)) m)

  -- and one that is there was, or is the new one
  at-place : (k : Key) → Contains (keys_at now_at place) k → Contains (keys_at at place) k ⊎ (key ≡ k)
  at-place k m = elim noted.own [
    | inl o ↦ inl (subst (λ (l : List Key). Contains l k) o.2 m)
    | inr o ↦ Contains-push_cases (keys_at at place) key k (subst (λ (l : List Key). Contains l k) o.2 m)
  ]

  pub noted-more : (k : Key) → Contains keys k → Contains now k
  noted-more k m = elim noted.own [
    | inl o ↦ subst (λ (l : List Key). Contains l k) (sym o.1) m
    | inr o ↦ subst (λ (l : List Key). Contains l k) (sym o.1) (Contains-append_left keys (key ∷ []) k m)
  ]

  pub noted-has : Contains now key
  noted-has = elim noted.own [
    | inl o ↦ subst (λ (l : List Key). Contains l key) (sym o.1) o.0
    | inr o ↦ subst (λ (l : List Key). Contains l key) (sym o.1) (Contains-push keys key)
  ]

  -- a fact of all keys, and of the new one
  pub noted-all : (P : Key → Type 0) → All P keys → P key → All P now
  noted-all P all p = elim noted.own [
    | inl o ↦ subst (λ (l : List Key). All P l) (sym o.1) all
    | inr o ↦ subst (λ (l : List Key). All P l) (sym o.1) (All-push P keys key all p)
  ]

  noted-distinct : IsDistinct now
  noted-distinct = elim noted.own [
    | inl o ↦ subst (λ (l : List Key). IsDistinct l) (sym o.1) found.distinct
    | inr o ↦ subst (λ (l : List Key). IsDistinct l) (sym o.1) (IsDistinct-push keys key found.distinct o.0)
  ]

  pub found-noted : now_count ≡ worded now → now_count ≤ most_keys → AreFound rows n nodes now now_at now_count
  found-noted counted few = record {
    long = noted.long ∙ found.long;
    held = noted-all (IsHeldKey rows n) found.held is_held;
    distinct = noted-distinct;
    placed = λ k m. elim noted.own [
      | inl o ↦ (let p = found.placed k (subst (λ (l : List Key). Contains l k) o.1 m) in (p.0, at-more p.0 k p.1))
      | inr o ↦ elim (Contains-push_cases keys key k (subst (λ (l : List Key). Contains l k) o.1 m)) [
        | inl a ↦ (let p = found.placed k a in (p.0, at-more p.0 k p.1))
        | inr e ↦ (
          place,
          subst (λ (z : Key). Contains (keys_at now_at place) z) e
              (subst (λ (l : List Key). Contains l key) (sym o.2) (Contains-push (keys_at at place) key)),
        )
      ]
    ];
    back = λ q k m. same_or_not q place
        (λ e. elim (at-place k (subst (λ (p : ℕ). Contains (keys_at now_at p) k) e m)) [
          | inl a ↦ (let b = found.back place k a in
              (noted-more k b.0, subst (λ (p : ℕ). slice_get (ids_of nodes) p ≡ Some k.id.0) (sym e) b.1))
          | inr d ↦ (
            subst (λ (z : Key). Contains now z) d noted-has,
            subst (λ (p : ℕ). slice_get (ids_of nodes) p ≡ Some k.id.0) (sym e)
                (subst (λ (z : Key). slice_get (ids_of nodes) place ≡ Some z.id.0) d is_at),
          )
        ])
        (λ h. let b = found.back q k (subst (λ (l : List Key). Contains l k) (noted.others q h) m) in
        (noted-more k b.0, b.1));
    counted = counted;
    few = few;
  }

-- ---- a list of lists, of which one has one thing more
pub pushed-own : (at new : List (Vec Key Global)) (place : ℕ) (v : Vec Key Global) (key : Key) (old : Vec Key Global) →
    slice_get at place ≡ Some old →
    new ≡ set at place v → v.items ≡ old.items ++ key ∷ [] → keys_at new place ≡ keys_at at place ++ key ∷ []
pushed-own at new place v key old is n e =
    ap (λ (l : List (Vec Key Global)). keys_at l place) n ∙
    ap (λ (o : Option (Vec Key Global)). option_map_or (λ (x : Vec Key Global). x.items) o [])
    (slice_get-set at place v old is) ∙ e ∙
    ap (λ (l : List Key). l ++ key ∷ [])
    (sym (ap (λ (o : Option (Vec Key Global)). option_map_or (λ (x : Vec Key Global). x.items) o []) is))

pub pushed-others : (at new : List (Vec Key Global)) (place q : ℕ) (v : Vec Key Global) → new ≡ set at place v →
    q ≢ place →
    keys_at new q ≡ keys_at at q
pushed-others at new place q v n h =
    ap (λ (l : List (Vec Key Global)). keys_at l q) n ∙
    ap (λ (o : Option (Vec Key Global)). option_map_or (λ (x : Vec Key Global). x.items) o [])
    (slice_get-set-other at place q v (λ e. h (sym e)))

-- what is found, among more words
pub found-wider : (rows : List Row) (n m : ℕ) (nodes : List PlannedNode) (keys : List Key) (at : List (Vec Key Global))
    (count : ℕ) → n ≤ m →
    AreFound rows n nodes keys at count → AreFound rows m nodes keys at count
found-wider rows n m nodes keys at count le f = record {
  long = f.long;
  held =
      All-weaker (IsHeldKey rows n) (IsHeldKey rows m) (λ k h. (h.0, (let lt = h.1 in omega (arith, lt, le)))) keys
      f.held;
  distinct = f.distinct;
  placed = f.placed;
  back = f.back;
  counted = f.counted;
  few = f.few;
}

-- ---- how many hold a word
pub note-counted : (place : ℕ) (key : Key) (keys : List Key) (at : List (Vec Key Global)) (now : List Key)
    (now_at : List (Vec Key Global)) (count n : ℕ) →
    (Contains keys key → ⊥) → IsNoted place key keys at now now_at → count ≡ worded keys →
    (is_some key.word ≡ true → n ≡ count + 1) →
    (is_some key.word ≡ false → n ≡ count) → n ≡ worded now
note-counted place key keys at now now_at count n new noted counted f g = elim noted.own [
  | inl o ↦ absurd (new o.0)
  | inr o ↦ by_test (is_some key.word)
      (λ t. worded-with keys now key count n o.1 t counted (f t))
      (λ t. g t ∙ worded-without keys now key count o.1 t counted)
]

-- ---- a list of empty lists
pub keys-none : (at : List (Vec Key Global)) (v : Vec Key Global) → v.items ≡ [] → ((p : ℕ) → keys_at at p ≡ []) →
    (p : ℕ) →
    keys_at (at ++ v ∷ []) p ≡ []
keys-none [] v e h zero = e
keys-none [] v e h (suc p) = refl
keys-none (a ∷ at) v e h zero = h 0
keys-none (a ∷ at) v e h (suc p) = keys-none at v e (λ q. h (suc q)) p
