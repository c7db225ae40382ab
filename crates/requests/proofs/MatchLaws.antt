-- The match of a number is the last live request that allows the turn and the word, and stands for the match of its
-- tree.
use Rattle.std.proofs.Common.{◌≡◌, ◌<◌, ◌+◌, ◌↔◌, ◌∙◌, ℕ, Bool, true, false, List, map, ◌++◌, ◌∷◌, [], All, length}
use Rattle.std.proofs.Common.{take, arith, sym, ap, subst, refl, Option, Some, None, slice_index_or, true≢false}
use Rattle.std.specs.Prelude.{nat_eq, filter, ◌||◌, ◌&&◌, if◌then◌else◌, is_none, IsTrue}
use Rattle.std.specs.List.{list_any, last_or}
use Rattle.std.specs.Option.{option_map}
use Rattle.std.proofs.lemmas.Bool.{eqb-true}
use Rattle.std.proofs.lemmas.List.{take_more}
use Rattle.std.proofs.lemmas.List.Elements.{filter-append}
use Rattle.orientation.specs.declared.turn.Turn.{Turn}
use Rattle.orientation.specs.declared.kind.Kind.{Kind}
use Rattle.location_words.specs.declared.pair.Pair.{Pair}
use Rattle.location_words.specs.declared.table.WordId.{WordId}
use Rattle.location_words.specs.Pairs.{pairs_eq}
use Rattle.location_words.specs.Laws.{TestTells}
use Rattle.expansion_laws.specs.Trees.{Tree}
use Rattle.expansion_laws.specs.Contexts.{Context}
use Rattle.expansion_laws.specs.Requests.{Request as TreeRequest, is_for as is_for_tree}
use Rattle.expansion_laws.specs.Requests.{allows, allows_word, allows_turn, fits, match_of}
use Rattle.shape_pool.specs.Rows.{Row, tree_at}
use Rattle.shape_pool.specs.Laws.{IsSound}
use Rattle.requests.specs.declared.request.Request.{Request}
use Rattle.requests.specs.Numbered.{Table, is_plain, is_for, allows_place, allows_at, last_allowed}
use Rattle.requests.specs.Numbered.{match_at, from_last_plain, live_at, AreHeldIn, IsHeldIn}
use Rattle.requests.specs.Readings.{IsReading, IsPlaceBelow, place_by, request_by, requests_by}
use Rattle.lists.proofs.Cases.{by_test}
use Rattle.lists.proofs.Entries.{All-rest}
use Rattle.requests.proofs.LiveLaws.{nat_eq-self}
use Rattle.requests.proofs.EdgeLaws.{TreesAreTold, for-is, same_test}

last-push : {X : Type 0} (o : Option X) (xs : List X) (x : X) → last_or o (xs ++ x ∷ []) ≡ Some x
last-push o [] x = refl
last-push o (y ∷ xs) x = last-push (Some y) xs x

-- one request more
pub allowed-more : (t : Turn) (w : ℕ) (rs : List Request) (k : ℕ) (d : Request) (b : Bool) → k < length rs →
    allows_at t w (slice_index_or rs k d) ≡ b →
    last_allowed (take (k + 1) rs) t w ≡ (if b then Some (slice_index_or rs k d) else last_allowed (take k rs) t w)
allowed-more t w rs k d b h e =
    ap (λ (l : List Request). last_allowed l t w) (take_more rs k d h) ∙
    ap (last_or None) (filter-append (allows_at t w) (take k rs) (slice_index_or rs k d ∷ [])) ∙
    ap
    (λ (c : Bool).
    last_or None (filter (allows_at t w) (take k rs) ++ (if c then slice_index_or rs k d ∷ [] else []))) e ∙ go b
  where
    nil : {X : Type 0} (xs : List X) → xs ++ [] ≡ xs
    nil [] = refl
    nil (x ∷ xs) = ap (λ l. x ∷ l) (nil xs)

    go : (c : Bool) →
        last_or None (filter (allows_at t w) (take k rs) ++ (if c then slice_index_or rs k d ∷ [] else [])) ≡
        (if c then Some (slice_index_or rs k d) else last_allowed (take k rs) t w)
    go true = last-push None (filter (allows_at t w) (take k rs)) (slice_index_or rs k d)
    go false = ap (last_or None) (nil (filter (allows_at t w) (take k rs)))

-- ---- live requests suffice
plain-allows : (t : Turn) (w : ℕ) (r : Request) → is_plain r ≡ true → allows_at t w r ≡ true
plain-allows t w r e = go r.place r.turn e
  where
    go : (p : Option WordId) (o : Option Turn) → (is_none p && is_none o) ≡ true →
        (allows_place p w && allows_turn o t) ≡ true
    go None None k = refl
    go None (Some x) k = absurd (true≢false (sym k))
    go (Some x) None k = absurd (true≢false (sym k))
    go (Some x) (Some y) k = absurd (true≢false (sym k))

-- where a plain request is left, what came before doesn't matter
any-last : (t : Turn) (w : ℕ) (rs : List Request) (a b : Option Request) → list_any is_plain rs ≡ true →
    last_or a (filter (allows_at t w) rs) ≡ last_or b (filter (allows_at t w) rs)
any-last t w [] a b e = absurd (true≢false (sym e))
any-last t w (r ∷ rs) a b e = by_test (is_plain r)
    (λ k.
    let q = plain-allows t w r k in
    let step =
    λ (o : Option Request).
    ap (λ (c : Bool). last_or o (if c then r ∷ filter (allows_at t w) rs else filter (allows_at t w) rs)) q in
    step a ∙ sym (step b))
    (λ k. let rest : list_any is_plain rs ≡ true = sym (ap (λ (c : Bool). c || list_any is_plain rs) k) ∙ e in
    go (allows_at t w r) (any-last t w rs a b rest))
  where
    go : (c : Bool) → last_or a (filter (allows_at t w) rs) ≡ last_or b (filter (allows_at t w) rs) →
        last_or a (if c then r ∷ filter (allows_at t w) rs else filter (allows_at t w) rs) ≡
        last_or b (if c then r ∷ filter (allows_at t w) rs else filter (allows_at t w) rs)
    go true h = refl
    go false h = h

live-suffices : (t : Turn) (w : ℕ) (rs : List Request) (o : Option Request) →
    last_or o (filter (allows_at t w) (from_last_plain rs)) ≡ last_or o (filter (allows_at t w) rs)
live-suffices t w [] o = refl
live-suffices t w (r ∷ rs) o = by_test (list_any is_plain rs)
    (λ k. ap (λ (c : Bool). last_or o (filter (allows_at t w) (if c then from_last_plain rs else r ∷ rs))) k ∙
    live-suffices t w rs o ∙ go (allows_at t w r) (any-last t w rs o (Some r) k))
    (λ k. ap (λ (c : Bool). last_or o (filter (allows_at t w) (if c then from_last_plain rs else r ∷ rs))) k)
  where
    go : (c : Bool) → last_or o (filter (allows_at t w) rs) ≡ last_or (Some r) (filter (allows_at t w) rs) →
        last_or o (filter (allows_at t w) rs) ≡ last_or o
        (if c then r ∷ filter (allows_at t w) rs else filter (allows_at t w) rs)
    go true h = h
    go false h = refl

pub match-live : (t : Turn) (w : ℕ) (rs : List Request) (i : ℕ) → last_allowed (live_at rs i) t w ≡ match_at rs i t w
match-live t w rs i = live-suffices t w (filter (is_for i) rs) None

-- ---- and stand for those of trees
last-map : {X Y : Type 0} (f : X → Y) (xs : List X) (o : Option X) →
    last_or (option_map f o) (map f xs) ≡ option_map f (last_or o xs)
last-map f [] o = refl
last-map f (x ∷ xs) o = last-map f xs (Some x)

module _ (rows : List Row) (word : ℕ → List Pair) (sound : IsSound rows) (kind : ℕ → Kind) (n : ℕ) (t : Table)
    (told : TreesAreTold) (words : TestTells)
    (reading : IsReading rows t.requests kind word n) where
  place-is : (w : ℕ) (p : Option WordId) → w < n → IsPlaceBelow n p →
      allows_word (place_by word p) (word w) ≡ allows_place p w
  place-is w None h k = refl
  place-is w (Some v) h k =
      let test = words (word v.0) (word w) in
      same_test (pairs_eq (word v.0) (word w)) (nat_eq v.0 w)
      (λ e.
      subst (λ (j : ℕ). nat_eq v.0 j ≡ true) (reading.told v.0 w k h
      (test.0 (true-is (pairs_eq (word v.0) (word w)) e))) (nat_eq-self v.0))
      (λ e. is-true (pairs_eq (word v.0) (word w)) (test.1 (ap word (eqb-true v.0 w e))))
    where
      true-is : (b : Bool) → b ≡ true → IsTrue b
      true-is true e = refl
      true-is false e = absurd (true≢false (sym e))

      is-true : (b : Bool) → IsTrue b → b ≡ true
      is-true true e = refl
      is-true false e = absurd (true≢false (sym e))

  fits-is : (i w : ℕ) (turn : Turn) (r : Request) → i < length rows → w < n → IsHeldIn rows r → IsPlaceBelow n r.place →
      fits (tree_at word rows i) (record { turn = turn; word = word w }) (request_by word rows r) ≡
      (is_for i r && allows_at turn w r)
  fits-is i w turn r h k held placed =
      ap (λ (b : Bool). b && (allows_word (place_by word r.place) (word w) && allows_turn r.turn turn))
      (for-is rows word sound kind n t told reading i r h held.0) ∙
      ap (λ (b : Bool). is_for i r && (b && allows_turn r.turn turn)) (place-is w r.place k placed)

  fitting : (i w : ℕ) (turn : Turn) (rs : List Request) → i < length rows → w < n → AreHeldIn rows rs →
      All (λ (r : Request). IsPlaceBelow n r.place) rs →
      filter (fits (tree_at word rows i) (record { turn = turn; word = word w })) (requests_by word rows rs) ≡
      requests_by word rows (filter (allows_at turn w) (filter (is_for i) rs))
  fitting i w turn [] h k held placed = refl
  fitting i w turn (r ∷ rs) h k held placed =
      go (is_for i r) (allows_at turn w r) (fits (tree_at word rows i) (record { turn = turn; word = word w })
      (request_by word rows r)) refl
      (fits-is i w turn r h k (held 0 r (omega arith)) (placed 0 r (omega arith)))
      (fitting i w turn rs h k (All-rest (IsHeldIn rows) r rs held)
      (All-rest (λ (q : Request). IsPlaceBelow n q.place) r rs placed))
    where
      go : (a b c : Bool) → allows_at turn w r ≡ b → c ≡ (a && b) →
          filter (fits (tree_at word rows i) (record { turn = turn; word = word w })) (requests_by word rows rs) ≡
          requests_by word rows (filter (allows_at turn w) (filter (is_for i) rs)) →
          (if c
          then request_by word rows r ∷ filter (fits (tree_at word rows i) (record { turn = turn; word = word w }))
          (requests_by word rows rs)
          else filter (fits (tree_at word rows i) (record { turn = turn; word = word w }))
          (requests_by word rows rs)) ≡
          requests_by word rows (filter (allows_at turn w)
          (if a then r ∷ filter (is_for i) rs else filter (is_for i) rs))
      go true true c q e rest =
          rw e (ap (λ l. request_by word rows r ∷ l) rest ∙
          sym
          (ap
          (λ (d : Bool).
          requests_by word rows (if d then r ∷ filter (allows_at turn w) (filter (is_for i) rs)
          else filter (allows_at turn w) (filter (is_for i) rs))) q))
      go true false c q e rest =
          rw e
          (rest ∙
          sym
          (ap
          (λ (d : Bool).
          requests_by word rows (if d then r ∷ filter (allows_at turn w) (filter (is_for i) rs)
          else filter (allows_at turn w) (filter (is_for i) rs))) q))
      go false b c q e rest = rw e rest

  pub match-are : (i w : ℕ) (turn : Turn) → i < length rows → w < n → AreHeldIn rows t.requests →
      match_of (requests_by word rows t.requests) (tree_at word rows i) (record { turn = turn; word = word w }) ≡
      option_map (request_by word rows) (match_at t.requests i turn w)
  match-are i w turn h k held =
      ap (last_or None) (fitting i w turn t.requests h k held reading.places) ∙
      last-map (request_by word rows) (filter (allows_at turn w) (filter (is_for i) t.requests)) None
