-- The shapes of a kind among all that are met.
use Rattle.std.proofs.Common.{◌≡◌, ◌∙◌, ◌<◌, ◌+◌, refl, sym, ap, subst}
use Rattle.std.specs.Prelude.{ℕ, Bool, true, false, List, [], ◌∷◌, ◌++◌, map, take, length, Contains, Option, Some, slice_get}
use Rattle.std.specs.List.{filter}
use Rattle.std.proofs.lemmas.List.Elements.{filter-append}
use Rattle.lists.proofs.Cases.{by_test}
use Rattle.lists.proofs.Members.{Contains-here, Contains-there}
use Rattle.lists.proofs.Places.{take-at}
use Rattle.lists.proofs.Tests.{Contains-filter_cases}
use Rattle.orientation.specs.declared.kind.Kind.{Kind}
use Rattle.location_words.specs.declared.pair.Pair.{Pair}
use Rattle.expansion_laws.specs.Trees.{origin}
use Rattle.shape_pool.specs.declared.node.UseOf.{UseOf}
use Rattle.shape_pool.specs.Rows.{Row, HasPlaces}
use Rattle.shape_pool.specs.Laws.{word_in, IsSound}
use Rattle.subshape_maps.specs.declared.shape.ShapeAt.{ShapeAt}
use Rattle.subshape_maps.specs.Shapes.{Shape, shape_eq, occurrences_of, first_places}
use Rattle.subshape_maps.specs.Maps.{is_asked, is_of}
use Rattle.shape_pool.specs.Rows.{HaveKinds}
use Rattle.subshape_maps.specs.Numbered.{shape_by, shapes_by, occurrences_by, is_asked_at, root_at, AreHeld, Grows, IsMap, Meets}
use Rattle.subshape_maps.proofs.FirstPlaces.{append-none, more-passing}
use Rattle.subshape_maps.proofs.MetLemmas.{ShapesAreTold}
use Rattle.subshape_maps.proofs.NumberLemmas.{shape-stays}

-- ---- one more that passes, or doesn't
pub one-kept : {X : Type 0} (p : X → Bool) (xs : List X) (i : ℕ) (x : X) → slice_get xs i ≡ Some x → p x ≡ true → filter p (take (i + 1) xs) ≡ filter p (take i xs) ++ x ∷ []
one-kept p xs i x e h = ap (filter p) (take-at xs i x e) ∙ filter-append p (take i xs) (x ∷ []) ∙ ap (λ l. filter p (take i xs) ++ l) (rw h refl)

pub one-dropped : {X : Type 0} (p : X → Bool) (xs : List X) (i : ℕ) (x : X) → slice_get xs i ≡ Some x → p x ≡ false → filter p (take (i + 1) xs) ≡ filter p (take i xs)
one-dropped p xs i x e h =
    ap (filter p) (take-at xs i x e) ∙ filter-append p (take i xs) (x ∷ []) ∙ ap (λ l. filter p (take i xs) ++ l) (rw h refl) ∙ append-none (filter p (take i xs))

pub filter-mapped : {X Y : Type 0} (p : X → Bool) (q : Y → Bool) (f : X → Y) (xs : List X) → ((x : X) → Contains xs x → p x ≡ q (f x)) → map f (filter p xs) ≡ filter q (map f xs)
filter-mapped p q f [] h = refl
filter-mapped p q f (x ∷ xs) h =
    let rest = filter-mapped p q f xs (λ y m. h y (Contains-there x y xs m)) in
    let same = h x (Contains-here x xs) in
    by_test (p x)
    (λ e. let g : q (f x) ≡ true = sym same ∙ e in rw (e, g) (ap (λ l. f x ∷ l) rest))
    (λ e. let g : q (f x) ≡ false = sym same ∙ e in rw (e, g) rest)

-- ---- the map
module _ (rows : List Row) (sound : IsSound rows) (told : ShapesAreTold) (table : List (List Pair)) where
  kind-tested : (kind : ℕ → Kind) → HaveKinds rows kind → (asked : Option Kind) (s : ShapeAt) → s.id.0 < length rows →
      is_asked_at rows asked s ≡ is_of kind asked (shape_by table rows s)
  kind-tested kind kinds asked s h = ap (is_asked asked) (sym (ap kind (ap origin (sound.trees_of_uses (word_in table) s.id.0 h)) ∙ kinds s.id.0 h))

  pub of-kind : (kind : ℕ → Kind) → HaveKinds rows kind → (asked : Option Kind) (seen : List ShapeAt) → AreHeld table rows seen →
      shapes_by table rows (filter (is_asked_at rows asked) seen) ≡ filter (is_of kind asked) (shapes_by table rows seen)
  of-kind kind kinds asked seen held =
      filter-mapped (is_asked_at rows asked) (is_of kind asked) (shape_by table rows) seen (λ s m. kind-tested kind kinds asked s (held s m).0)

  -- of all shapes of a root
  pub map-is : (old : List (List Pair)) → Grows old table → HasPlaces rows (length old) → (root : UseOf) → root.id.0 < length rows → root.place.0 < length old →
      (asked : Option Kind) (seen shapes : List ShapeAt) → Meets old table rows [] seen (root_at root) → shapes ≡ filter (is_asked_at rows asked) seen → IsMap table rows root asked shapes
  map-is old grows places root held placed asked seen shapes met is = record {
    held = λ s m. met.held s (Contains-filter_cases (is_asked_at rows asked) seen s (subst (λ l. Contains l s) is m)).0;
    map_is = λ kind kinds.
        let q = is_of kind asked in
        let stays : shape_by table rows (root_at root) ≡ shape_by old rows (root_at root) = shape-stays old table grows rows sound places (root_at root) (held, placed) in
        ap (shapes_by table rows) is ∙ of-kind kind kinds asked seen met.held ∙ ap (filter q) met.shapes ∙
        more-passing shape_eq told q [] (occurrences_by old rows (root_at root)) ∙
        ap (λ (s : Shape). first_places shape_eq (filter q (occurrences_of s))) (sym stays);
  }
