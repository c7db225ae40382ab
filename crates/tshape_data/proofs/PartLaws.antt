-- The texts of joined parts; the numbers of a representation by their columns.
use Rattle.std.proofs.Common.{◌≡◌, ℕ, suc, ◌+◌, List, [], ◌∷◌, ◌++◌, length, map, slice_index, codes, refl, sym, ap}
use Rattle.std.proofs.Common.{◌∙◌, arith}
use Rattle.std.specs.List.{flat_map}
use Rattle.std.specs.Fmt.{decimal}
use Rattle.std.proofs.lemmas.List.{map-append, nil_from_length}
use Rattle.brep_tokens.specs.Laws.{FormsAreExact}
use Rattle.entry_readers.specs.Begins.{AreDecimals}
use Rattle.tshape_data.specs.Columns.{edge_columns, edge_texts, point_columns, second_texts}
use Rattle.tshape_data.specs.Parts.{Part, tokens}
use Rattle.tshape_data.specs.Reps.{edge_rep, form_of_edge, form_of_point, numbers_of_edge, numbers_of_point, point_rep}
use Rattle.tshape_data.specs.Reps.{texts_of_edge, texts_of_point}
use Rattle.tshape_data.specs.Sound.{AreInColumns, IsSoundEdgeRep, IsSoundPoint}
use Rattle.tshape_data.specs.Spelling.{part_text}
use Rattle.tshape_data.specs.declared.head_bounds.HeadBounds.{HeadBounds}
use Rattle.tshape_data.specs.declared.columns.Column.{Column}
use Rattle.tshape_data.specs.declared.forms.PointForm.{PointForm}
use Rattle.tshape_data.specs.declared.forms.PointForm.TheVariants as points
use Rattle.tshape_data.specs.declared.forms.EdgeForm.{EdgeForm}
use Rattle.tshape_data.specs.declared.forms.EdgeForm.TheVariants as edges

-- ---- texts of parts

pub texts_of_tokens : (texts : List (List ℕ)) → map part_text (tokens texts) ≡ texts
texts_of_tokens [] = refl
texts_of_tokens (x ∷ texts) = ap (λ z. x ∷ z) (texts_of_tokens texts)

pub texts_then : (texts : List (List ℕ)) (parts : List Part)
    → map part_text (tokens texts ++ parts) ≡ texts ++ map part_text parts
texts_then texts parts = map-append part_text (tokens texts) parts ∙ ap (λ z. z ++ map part_text parts)
    (texts_of_tokens texts)

map_each : {X A B : Type 0} (f : A → B) (g : X → List A) (xs : List X)
    → map f (flat_map g xs) ≡ flat_map (λ x. map f (g x)) xs
map_each f g [] = refl
map_each f g (x ∷ xs) = map-append f (g x) (flat_map g xs) ∙ ap (λ z. map f (g x) ++ z) (map_each f g xs)

pub each_then : {X : Type 0} (parts_of : X → List Part) (xs : List X) (parts : List Part)
    → map part_text (flat_map parts_of xs ++ parts) ≡ flat_map (λ x. map part_text (parts_of x)) xs
    ++ map part_text parts
each_then parts_of xs parts = map-append part_text (flat_map parts_of xs) parts ∙ ap (λ z. z ++ map part_text parts)
    (map_each part_text parts_of xs)

pub zero_text : FormsAreExact → codes "0" ≡ decimal 0
zero_text forms = ((forms.numbers (codes "0") 0).0 refl).spelled

-- ---- the numbers of a list that has so many

two_of : (ns : List ℕ) → length ns ≡ 2 → slice_index ns 0 ∷ slice_index ns 1 ∷ [] ≡ ns
two_of [] n = absurd (omega (arith, n))
two_of (a ∷ []) n = absurd (omega (arith, n))
two_of (a ∷ b ∷ []) n = refl
two_of (a ∷ b ∷ c ∷ ns) n = absurd (omega (arith, n))

three_of : (ns : List ℕ) → length ns ≡ 3 → slice_index ns 0 ∷ slice_index ns 1 ∷ slice_index ns 2 ∷ [] ≡ ns
three_of [] n = absurd (omega (arith, n))
three_of (a ∷ []) n = absurd (omega (arith, n))
three_of (a ∷ b ∷ []) n = absurd (omega (arith, n))
three_of (a ∷ b ∷ c ∷ []) n = refl
three_of (a ∷ b ∷ c ∷ d ∷ ns) n = absurd (omega (arith, n))

four_of : (ns : List ℕ) → length ns ≡ 4
    → slice_index ns 0 ∷ slice_index ns 1 ∷ slice_index ns 2 ∷ slice_index ns 3 ∷ [] ≡ ns
four_of [] n = absurd (omega (arith, n))
four_of (a ∷ ns) n = ap (λ z. a ∷ z) (three_of ns (omega (arith, n)))

five_of : (ns : List ℕ) → length ns ≡ 5 → slice_index ns 0 ∷ slice_index ns 1 ∷ slice_index ns 2 ∷ slice_index ns 3
    ∷ slice_index ns 4 ∷ [] ≡ ns
five_of [] n = absurd (omega (arith, n))
five_of (a ∷ ns) n = ap (λ z. a ∷ z) (four_of ns (omega (arith, n)))

many_in : (b : HeadBounds) (cs : List Column) (ns : List ℕ) → AreInColumns b cs ns → length ns ≡ length cs
many_in b [] [] are = refl
many_in b [] (n ∷ ns) are = absurd are
many_in b (c ∷ cs) [] are = absurd are
many_in b (c ∷ cs) (n ∷ ns) are = ap suc (many_in b cs ns are.1)

-- ---- a representation of an edge is of its form, numbers and texts

pub edge_form_back : (form : EdgeForm) (ns : List ℕ) (texts : List (List ℕ))
    → form_of_edge (edge_rep form ns texts) ≡ form
edge_form_back edges.Curve ns texts = refl
edge_form_back edges.Curve2 ns texts = refl
edge_form_back edges.Seam ns texts = refl
edge_form_back edges.Joint ns texts = refl
edge_form_back edges.Polygon ns texts = refl
edge_form_back edges.PolygonOn ns texts = refl
edge_form_back edges.SeamPolygons ns texts = refl

edge_numbers_of : (form : EdgeForm) (ns : List ℕ) (texts : List (List ℕ)) → length ns ≡ length (edge_columns form)
    → numbers_of_edge (edge_rep form ns texts) ≡ ns
edge_numbers_of edges.Curve ns texts n = two_of ns n
edge_numbers_of edges.Curve2 ns texts n = three_of ns n
edge_numbers_of edges.Seam ns texts n = five_of ns n
edge_numbers_of edges.Joint ns texts n = five_of ns n
edge_numbers_of edges.Polygon ns texts n = two_of ns n
edge_numbers_of edges.PolygonOn ns texts n = three_of ns n
edge_numbers_of edges.SeamPolygons ns texts n = four_of ns n

pub edge_numbers_back : (b : HeadBounds) (form : EdgeForm) (ns : List ℕ) (texts : List (List ℕ))
    → AreInColumns b (edge_columns form) ns → numbers_of_edge (edge_rep form ns texts) ≡ ns
edge_numbers_back b form ns texts are = edge_numbers_of form ns texts (many_in b (edge_columns form) ns are)

pub edge_texts_back : (version : ℕ) (form : EdgeForm) (ns : List ℕ) (texts : List (List ℕ))
    → length texts ≡ edge_texts version form → texts_of_edge (edge_rep form ns texts) ≡ texts
edge_texts_back version edges.Curve ns texts n = refl
edge_texts_back version edges.Curve2 ns texts n = refl
edge_texts_back version edges.Seam ns texts n = refl
edge_texts_back version edges.Joint ns texts n = sym (nil_from_length texts n)
edge_texts_back version edges.Polygon ns texts n = sym (nil_from_length texts n)
edge_texts_back version edges.PolygonOn ns texts n = sym (nil_from_length texts n)
edge_texts_back version edges.SeamPolygons ns texts n = sym (nil_from_length texts n)

pub edge_rep_sound : (b : HeadBounds) (version : ℕ) (form : EdgeForm) (ns : List ℕ) (texts : List (List ℕ))
    → AreInColumns b (edge_columns form) ns → AreDecimals (edge_texts version form) texts
    → IsSoundEdgeRep b version (edge_rep form ns texts)
edge_rep_sound b version form ns texts are decimals =
    let f = edge_form_back form ns texts in
    record {
      numbers = rw (f, edge_numbers_back b form ns texts are) are;
      decimals = rw (f, edge_texts_back version form ns texts decimals.0) decimals;
    }

-- ---- and so is one of a vertex

pub point_form_back : (form : PointForm) (ns : List ℕ) (texts : List (List ℕ))
    → form_of_point (point_rep form ns texts) ≡ form
point_form_back points.OnCurve ns texts = refl
point_form_back points.OnCurve2 ns texts = refl
point_form_back points.OnSurface ns texts = refl

point_numbers_of : (form : PointForm) (ns : List ℕ) (texts : List (List ℕ)) → length ns ≡ length (point_columns form)
    → numbers_of_point (point_rep form ns texts) ≡ ns
point_numbers_of points.OnCurve ns texts n = two_of ns n
point_numbers_of points.OnCurve2 ns texts n = three_of ns n
point_numbers_of points.OnSurface ns texts n = two_of ns n

pub point_numbers_back : (b : HeadBounds) (form : PointForm) (ns : List ℕ) (texts : List (List ℕ))
    → AreInColumns b (point_columns form) ns → numbers_of_point (point_rep form ns texts) ≡ ns
point_numbers_back b form ns texts are = point_numbers_of form ns texts (many_in b (point_columns form) ns are)

pub point_texts_back : (form : PointForm) (ns : List ℕ) (texts : List (List ℕ))
    → texts_of_point (point_rep form ns texts) ≡ texts
point_texts_back points.OnCurve ns texts = refl
point_texts_back points.OnCurve2 ns texts = refl
point_texts_back points.OnSurface ns texts = refl

pub point_rep_sound : (b : HeadBounds) (form : PointForm) (ns : List ℕ) (texts : List (List ℕ))
    → AreInColumns b (point_columns form) ns → AreDecimals (1 + second_texts form) texts
    → IsSoundPoint b (point_rep form ns texts)
point_rep_sound b form ns texts are decimals =
    let f = point_form_back form ns texts in
    record {
      numbers = rw (f, point_numbers_back b form ns texts are) are;
      decimals = rw (f, point_texts_back form ns texts) decimals;
    }
