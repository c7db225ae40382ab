-- Numbers and pairs of them, one more and all.
use Rattle.std.proofs.Common.{◌≡◌, ◌<◌, ◌-◌, ◌+◌, ◌^◌, ◌∙◌, refl, ap, sym, subst, arith, inl, inr, ℕ, List, [], ◌∷◌, ◌++◌, map, reverse, take}
use Rattle.std.specs.Prelude.{◌↔◌, suc, zero, All, Contains, length, slice_get, Some}
use Rattle.std.specs.Option.{option_map}
use Rattle.std.specs.List.{AllByRecursion}
use Rattle.std.proofs.lemmas.List.{length-map, length-reverse}
use Rattle.std.proofs.lemmas.List.Elements.{Contains-push_cases}
use Rattle.std.proofs.lemmas.Option.{slice_get-map}
use Rattle.lists.specs.Distinct.{IsDistinct}
use Rattle.lists.proofs.Each.{each-member}
use Rattle.lists.proofs.Entries.{All-place}
use Rattle.lists.proofs.Members.{Contains-none}
use Rattle.lists.proofs.Places.{slice_get-reverse, take-at, Contains-at}
use Rattle.shape_pool.specs.declared.node.NodeId.{NodeId}
use Rattle.history_text.specs.HistoryText.{ArePairs, IsPairOf as IsPrinted, IsShort, Ascend, is_pair_below}
use Rattle.shape_pool.specs.Rows.{Row, origin_at}
use Rattle.written_order.specs.Placed.{IsNumbered, numbers_of}
use Rattle.written_history.specs.Numbered.{AreSmall, AreSmallPairs}

abbrev pub any_id : NodeId
any_id = record { 0 = 0 }

abbrev pub any_pair : NodeId × NodeId
any_pair = (any_id, any_id)

-- none yet
pub none-small-numbers : (ks : List ℕ) → ks ≡ [] → AreSmall ks
none-small-numbers ks is k contains = absurd (Contains-none k (subst (λ l. Contains l k) is contains))

pub none-small : (ys : List (ℕ × ℕ)) → ys ≡ [] → AreSmallPairs ys
none-small ys is y contains = absurd (Contains-none y (subst (λ l. Contains l y) is contains))

-- sorted
pub sorted-small : (ys zs : List (ℕ × ℕ)) → ((y : ℕ × ℕ) → Contains zs y ↔ Contains ys y) → AreSmallPairs ys →
    AreSmallPairs zs
sorted-small ys zs same small y contains = small y ((same y).0 contains)

-- one more
pub small-more : (old new : List ℕ) (k : ℕ) → new ≡ old ++ k ∷ [] → k < 2 ^ 32 → AreSmall old → AreSmall new
small-more old new k is lt small j contains =
    elim (Contains-push_cases old k j (subst (λ l. Contains l j) is contains)) [
      | inl before ↦ small j before
      | inr last ↦ subst (λ m. m < 2 ^ 32) last lt
    ]

pub small-pairs-more : (old new : List (ℕ × ℕ)) (y : ℕ × ℕ) → new ≡ old ++ y ∷ [] → y.0 < 2 ^ 32 → AreSmallPairs old →
    AreSmallPairs new
small-pairs-more old new y is lt small z contains =
    elim (Contains-push_cases old y z (subst (λ l. Contains l z) is contains)) [
      | inl before ↦ small z before
      | inr last ↦ subst (λ (w : ℕ × ℕ). w.0 < 2 ^ 32) last lt
    ]

-- a thing that a list has once stands at one place
distinct-places : {X : Type 0} (xs : List X) → IsDistinct xs → (i j : ℕ) (x : X) → slice_get xs i ≡ Some x →
    slice_get xs j ≡ Some x → i ≡ j
distinct-places [] once i j x at at' = absurd cc
distinct-places (y ∷ ys) once zero zero x at at' = refl
distinct-places (y ∷ ys) once zero (suc j) x at at' =
    absurd (once.0 (Contains-at ys j y (at' ∙ sym at)))
distinct-places (y ∷ ys) once (suc i) zero x at at' =
    absurd (once.0 (Contains-at ys i y (at ∙ sym at')))
distinct-places (y ∷ ys) once (suc i) (suc j) x at at' = ap suc (distinct-places ys once.1 i j x at at')

-- the number of one of an order is one alone
pub numbered-once : (order : List ℕ) (s m n : ℕ) → IsDistinct order → IsNumbered order s m → IsNumbered order s n → m ≡ n
numbered-once order s m n once is is' =
    let same = distinct-places order once (length order - m) (length order - n) s is.at is'.at in
    let low = is.within.0 in let high = is.within.1 in let low' = is'.within.0 in let high' = is'.within.1 in
    omega (arith, same, low, high, low', high')

-- pairs that ascend, each with a small number and that of one of an order, are those of a history file
pub are-pairs : (order : List ℕ) (ys : List (ℕ × ℕ)) →
    ((y : ℕ × ℕ) → Contains ys y → (s : ℕ) × IsNumbered order s y.1) → AreSmallPairs ys → Ascend is_pair_below ys →
    IsShort (length ys) → ArePairs (length order) ys
are-pairs order ys numbered small ascend short = record {
  each = each-member (IsPrinted (length order)) ys
      (λ y contains.
      let is = numbered y contains in
      let lt = small y contains in
      (omega (arith, lt), is.1.within.0, is.1.within.1));
  ascend = ascend;
  short = short;
}

-- ---- origins, from the last one on
-- the node that is so far from the last
pub held-at : (rows : List Row) (order : List ℕ) (ids : List NodeId) (place : ℕ) (x : NodeId) → numbers_of ids ≡ order →
    All (λ i. i < length rows) order → slice_get ids place ≡ Some x → x.0 < length rows
held-at rows order ids place x are held at =
    All-place (λ i. i < length rows) order place x.0 held
    (ap (λ l. slice_get l place) (sym are) ∙ slice_get-map (λ (i : NodeId). i.0) ids place
    ∙ ap (option_map (λ (i : NodeId). i.0)) at)

pub origin-next : (rows : List Row) (order : List ℕ) (ids : List NodeId) (place : ℕ) (x : NodeId) (old new : List ℕ) →
    numbers_of ids ≡ order → place < length order → slice_get ids (length ids - place - 1) ≡ Some x →
    old ≡ take place (reverse (map (origin_at rows) order)) → new ≡ old ++ origin_at rows x.0 ∷ [] →
    new ≡ take (place + 1) (reverse (map (origin_at rows) order))
origin-next rows order ids place x old new are lt at before is =
    let many : length ids ≡ length order = sym (length-map ids (λ (i : NodeId). i.0)) ∙ ap length are in
    let own = map (origin_at rows) order in
    let mapped : length own ≡ length order = length-map order (origin_at rows) in
    let there : slice_get own (length own - suc place) ≡ Some (origin_at rows x.0) =
    ap (λ n. slice_get own (n - suc place)) (mapped ∙ sym many)
    ∙ ap (slice_get own) (past (length ids) place)
    ∙ slice_get-map (origin_at rows) order (length ids - place - 1)
    ∙ ap (option_map (origin_at rows))
    (ap (λ l. slice_get l (length ids - place - 1)) (sym are)
    ∙ slice_get-map (λ (i : NodeId). i.0) ids (length ids - place - 1) ∙ ap (option_map (λ (i : NodeId). i.0)) at) in
    let turned = slice_get-reverse own place (omega (arith, lt, mapped)) ∙ there in
    is ∙ ap (λ l. l ++ origin_at rows x.0 ∷ []) before ∙ sym (take-at (reverse own) place (origin_at rows x.0) turned)
  where
    past : (n p : ℕ) → n - suc p ≡ n - p - 1
    past n p = omega (arith)

-- one that has a number stands in the order
pub numbered-there : (order : List ℕ) (s n : ℕ) → IsNumbered order s n → Contains order s
numbered-there order s n is = Contains-at order (length order - n) s is.at

-- numbers of 32 bits are short
pub shorts : (ks : List ℕ) → AreSmall ks → AllByRecursion IsShort ks
shorts ks small = each-member IsShort ks (λ k contains. let lt = small k contains in omega (arith, lt))

-- there are as many origins as nodes
pub origins-many : (rows : List Row) (order origins : List ℕ) → origins ≡ reverse (map (origin_at rows) order) →
    length origins ≡ length order
origins-many rows order origins are =
    ap length are ∙ length-reverse (map (origin_at rows) order) ∙ length-map order (origin_at rows)
