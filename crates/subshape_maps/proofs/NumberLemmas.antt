-- Shapes by number, as a table of words grows.
use Rattle.std.proofs.Common.{◌≡◌, ◌∙◌, ◌↔◌, ◌<◌, ◌≤◌, refl, sym, ap, subst, arith}
use Rattle.std.specs.Prelude.{◌||◌, ◌&&◌, ℕ, zero, suc, nat_eq, Bool, true, false, List, [], ◌∷◌, map, length, All, Contains, None, Some, slice_get, unwrap_or}
use Rattle.std.specs.List.{list_any}
use Rattle.std.proofs.lemmas.Bool.{eqb-true}
use Rattle.std.proofs.Common.{eq-eqb}
use Rattle.std.proofs.lemmas.List.{map-append}
use Rattle.std.proofs.lemmas.Option.{slice_get_within}
use Rattle.lists.proofs.Cases.{by_test}
use Rattle.lists.proofs.Members.{Contains-here, Contains-there, Contains-map_cases}
use Rattle.lists.proofs.Entries.{All-place}
use Rattle.lists.proofs.Places.{at_place}
use Rattle.location_words.specs.declared.pair.Pair.{Pair}
use Rattle.location_words.specs.Faults.{fault_of}
use Rattle.location_words.specs.Laws.{LimitsTell, TestTells}
use Rattle.location_words.specs.Pairs.{pairs_eq, IsHeldWord}
use Rattle.location_words.specs.Tables.{IsTable}
use Rattle.expansion_laws.specs.Trees.{Tree}
use Rattle.expansion_laws.specs.Equality.{tree_eq}
use Rattle.shape_pool.specs.Rows.{Row, tree_at, HasPlaces}
use Rattle.shape_pool.specs.Laws.{word_in, IsSound}
use Rattle.subshape_maps.specs.declared.shape.ShapeAt.{ShapeAt}
use Rattle.subshape_maps.specs.Shapes.{Shape, a_shape, shape_eq, with_new}
use Rattle.subshape_maps.specs.Numbered.{at_eq, shape_by, shapes_by, IsHeldAt, AreHeld, Grows}
use Rattle.subshape_maps.proofs.MetLemmas.{ShapesAreTold}

-- ---- tests
and-left : (a b : Bool) → (a && b) ≡ true → a ≡ true
and-left true b e = refl
and-left false b e = absurd cc

and-right : (a b : Bool) → (a && b) ≡ true → b ≡ true
and-right true b e = e
and-right false b e = absurd cc

and-both : (a b : Bool) → a ≡ true → b ≡ true → (a && b) ≡ true
and-both a b e f = rw (e, f) refl

pub same_test : (a b : Bool) → (a ≡ true → b ≡ true) → (b ≡ true → a ≡ true) → a ≡ b
same_test true true f g = refl
same_test true false f g = sym (f refl)
same_test false true f g = g refl
same_test false false f g = refl

any-mapped : {X Y : Type 0} (p : X → Bool) (q : Y → Bool) (f : X → Y) (xs : List X) → ((x : X) → Contains xs x → p x ≡ q (f x)) → list_any p xs ≡ list_any q (map f xs)
any-mapped p q f [] h = refl
any-mapped p q f (x ∷ xs) h =
    ap (λ b. b || list_any p xs) (h x (Contains-here x xs)) ∙ ap (λ b. q (f x) || b) (any-mapped p q f xs (λ y m. h y (Contains-there x y xs m)))

shape-same : {x y : Tree} {v w : List Pair} → x ≡ y → v ≡ w → a_shape x v ≡ a_shape y w
shape-same e f = λ i. a_shape (e i) (f i)

pub shapes-told : ((x y : Tree) → (tree_eq x y ≡ true) ↔ (x ≡ y)) → TestTells → ShapesAreTold
shapes-told trees words a b = (
  (λ e. shape-same ((trees a.tree b.tree).0 (and-left (tree_eq a.tree b.tree) (pairs_eq a.word b.word) e)) ((words a.word b.word).0 (and-right (tree_eq a.tree b.tree) (pairs_eq a.word b.word) e))),
  (λ e. and-both (tree_eq a.tree b.tree) (pairs_eq a.word b.word) ((trees a.tree b.tree).1 (ap (λ (s : Shape). s.tree) e)) ((words a.word b.word).1 (ap (λ (s : Shape). s.word) e))),
)

-- ---- words of a table
pub word-at : (table : List (List Pair)) (i : ℕ) (w : List Pair) → slice_get table i ≡ Some w → word_in table i ≡ w
word-at table i w e = ap (λ o. unwrap_or o []) e

pub at-word : (table : List (List Pair)) (i : ℕ) → i < length table → slice_get table i ≡ Some (word_in table i)
at-word table i h = let r = at_place table i h in r.1 ∙ ap Some (sym (word-at table i r.0 r.1))

pub no-fault : LimitsTell → (table : List (List Pair)) (i : ℕ) → IsTable table → i < length table → fault_of (word_in table i) ≡ None
no-fault limits table i t h =
    let held : IsHeldWord (word_in table i) = All-place IsHeldWord table i (word_in table i) t.words (at-word table i h) in
    (limits (word_in table i)).1 (held.few, held.small)

module _ (old new : List (List Pair)) (grows : Grows old new) where
  pub word-stays : (i : ℕ) → i < length old → word_in new i ≡ word_in old i
  word-stays i h = word-at new i (word_in old i) (grows i (word_in old i) (at-word old i h))

  pub still-held : (i : ℕ) → i < length old → i < length new
  still-held i h = slice_get_within new i (word_in old i) (grows i (word_in old i) (at-word old i h))

  pub longer : length old ≤ length new
  longer = by_test (nat_eq (length old) 0)
      (λ e. let z = eqb-true (length old) 0 e in omega (arith, z))
      (λ e. go (length old) refl)
    where
      go : (n : ℕ) → n ≡ length old → length old ≤ length new
      go zero e = omega (arith, e)
      go (suc n) e = let h = still-held n (omega (arith, e)) in omega (arith, e, h)

  pub places-stay : (rows : List Row) → HasPlaces rows (length old) → HasPlaces rows (length new)
  places-stay rows places i h k d lt = let a = places i h k d lt in let b = longer in omega (arith, a, b)

  module _ (rows : List Row) (sound : IsSound rows) (places : HasPlaces rows (length old)) where
    pub tree-stays : (i : ℕ) → i < length rows → tree_at (word_in new) rows i ≡ tree_at (word_in old) rows i
    tree-stays i h = sym (sound.trees_read_alike.tables old new places grows i h)

    pub shape-stays : (s : ShapeAt) → IsHeldAt old rows s → shape_by new rows s ≡ shape_by old rows s
    shape-stays s h = shape-same (tree-stays s.id.0 h.0) (word-stays s.word.0 h.1)

    pub shapes-stay : (seen : List ShapeAt) → AreHeld old rows seen → shapes_by new rows seen ≡ shapes_by old rows seen
    shapes-stay [] h = refl
    shapes-stay (s ∷ seen) h =
        ap (λ x. x ∷ shapes_by new rows seen) (shape-stays s (h s (Contains-here s seen))) ∙
        ap (λ l. shape_by old rows s ∷ l) (shapes-stay seen (λ t m. h t (Contains-there s t seen m)))

    pub held-stay : (seen : List ShapeAt) → AreHeld old rows seen → AreHeld new rows seen
    held-stay seen h s m = let a = h s m in (a.0, still-held s.word.0 a.1)

-- ---- numbers stand for shapes one to one
module _ (rows : List Row) (sound : IsSound rows) (told : ShapesAreTold) (table : List (List Pair)) (t : IsTable table) (places : HasPlaces rows (length table)) where
  pub same-tests : (a b : ShapeAt) → IsHeldAt table rows a → IsHeldAt table rows b → at_eq a b ≡ shape_eq (shape_by table rows a) (shape_by table rows b)
  same-tests a b h k = same_test (at_eq a b) (shape_eq (shape_by table rows a) (shape_by table rows b))
      (λ e.
      let id = eqb-true a.id.0 b.id.0 (and-left (nat_eq a.id.0 b.id.0) (nat_eq a.word.0 b.word.0) e) in
      let word = eqb-true a.word.0 b.word.0 (and-right (nat_eq a.id.0 b.id.0) (nat_eq a.word.0 b.word.0) e) in
      (told (shape_by table rows a) (shape_by table rows b)).1 (shape-same (ap (tree_at (word_in table) rows) id) (ap (word_in table) word)))
      (λ e.
      let s = (told (shape_by table rows a) (shape_by table rows b)).0 e in
      let id = (sound.ids_tell_trees_by table t places a.id.0 b.id.0 h.0 k.0).1 (ap (λ (x : Shape). x.tree) s) in
      let word = t.distinct a.word.0 b.word.0 (word_in table a.word.0) (at-word table a.word.0 h.1)
      (at-word table b.word.0 k.1 ∙ ap Some (sym (ap (λ (x : Shape). x.word) s))) in
      and-both (nat_eq a.id.0 b.id.0) (nat_eq a.word.0 b.word.0) (eq-eqb a.id.0 b.id.0 id) (eq-eqb a.word.0 b.word.0 word))

  pub any-same : (seen : List ShapeAt) (at : ShapeAt) → AreHeld table rows seen → IsHeldAt table rows at →
      list_any (at_eq at) seen ≡ list_any (shape_eq (shape_by table rows at)) (shapes_by table rows seen)
  any-same seen at h k = any-mapped (at_eq at) (shape_eq (shape_by table rows at)) (shape_by table rows) seen (λ s m. same-tests at s k (h s m))

  pub noted-is : (seen : List ShapeAt) (at : ShapeAt) → AreHeld table rows seen → IsHeldAt table rows at →
      shapes_by table rows (with_new at_eq seen at) ≡ with_new shape_eq (shapes_by table rows seen) (shape_by table rows at)
  noted-is seen at h k = by_test (list_any (at_eq at) seen)
      (λ e. let f = sym (any-same seen at h k) ∙ e in rw (e, f) refl)
      (λ e. let f = sym (any-same seen at h k) ∙ e in rw (e, f) (map-append (shape_by table rows) seen (at ∷ [])))

  pub words-within : LimitsTell → (seen : List ShapeAt) → AreHeld table rows seen → (s : Shape) → Contains (shapes_by table rows seen) s → fault_of s.word ≡ None
  words-within limits seen h s m =
      let r = Contains-map_cases (shape_by table rows) s seen m in
      ap (λ (x : Shape). fault_of x.word) (sym r.2) ∙ no-fault limits table r.0.word.0 t (h r.0 r.1).1
