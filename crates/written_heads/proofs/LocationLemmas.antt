-- The locations in data: one by one, and added one after another.
use Rattle.std.proofs.Common.{◌≡◌, ◌<◌, ◌+◌, refl, sym, ◌∙◌, ap, subst, arith, add-one, get_or}
use Rattle.std.specs.Prelude.{ℕ, List, [], ◌∷◌, ◌++◌, All, take, drop, length, slice_index_or, Option, Some, None}
use Rattle.std.specs.Prelude.{Result, Ok, Err, OnOk}
use Rattle.std.specs.List.{flat_map}
use Rattle.std.proofs.Math.Seq.{take-suc}
use Rattle.std.proofs.lemmas.Grind.{flat_map-append}
use Rattle.std.proofs.lemmas.List.{append-nil}
use Rattle.std.proofs.lemmas.List.Elements.{Contains-get_or, All-contains}
use Rattle.lists.proofs.Members.{Contains-flat_map}
use Rattle.tshape_data.specs.Columns.{edge_columns, point_columns}
use Rattle.tshape_data.specs.Parts.{Part, column_parts, edge_flags, edge_rep_parts, mesh_parts, point_parts, texts_in}
use Rattle.tshape_data.specs.Parts.{tokens}
use Rattle.tshape_data.specs.Locations.{location_of_part, data_locations}
use Rattle.tshape_data.specs.Reps.{form_of_edge, form_of_point, numbers_of_edge, numbers_of_point, texts_of_point}
use Rattle.tshape_data.specs.declared.reps.EdgeRep.{EdgeRep}
use Rattle.tshape_data.specs.declared.reps.PointRep.{PointRep}
use Rattle.tshape_data.specs.declared.head.VertexData.{VertexData}
use Rattle.tshape_data.specs.declared.head.EdgeData.{EdgeData}
use Rattle.tshape_data.specs.declared.head.FaceData.{FaceData}
use Rattle.tshape_data.specs.declared.head.Payload.TheVariants.{Vertex, Edge, Face, Nothing}
use Rattle.written_locations.specs.declared.written.WrittenLocations.{WrittenLocations}
use Rattle.written_locations.specs.Added.{Adds}
use Rattle.written_locations.specs.Laws.{AddedPartsJoin}
use Rattle.written_heads.specs.Named.{edge_locations, point_locations, LocationsStay}

pub on_ok : {A E P Q : Type 0} (r : Result A E) → (P → Q) → OnOk r P → OnOk r Q
on_ok (Ok x) f h = f h
on_ok (Err e) f h = h

-- ---- what holds of each, at one of them
pub first : {X : Type 0} (P : X → Type 0) (x : X) (xs : List X) → All P (x ∷ xs) → P x
first P x xs h = h 0 x (omega arith)

pub second : {X : Type 0} (P : X → Type 0) (x y : X) (xs : List X) → All P (x ∷ y ∷ xs) → P y
second P x y xs h = h 1 x (omega arith)

pub named : (P : ℕ → Type 0) (r e : EdgeRep) (k : ℕ) (ks : List ℕ) → r ≡ e → edge_locations e ≡ k ∷ ks
    → All P (edge_locations r) → P k
named P r e k ks is locations h = first P k ks (subst (All P) (ap edge_locations is ∙ locations) h)

pub named_second : (P : ℕ → Type 0) (r e : EdgeRep) (j k : ℕ) (ks : List ℕ) → r ≡ e → edge_locations e ≡ j ∷ k ∷ ks
    → All P (edge_locations r) → P k
named_second P r e j k ks is locations h = second P j k ks (subst (All P) (ap edge_locations is ∙ locations) h)

pub named_point : (P : ℕ → Type 0) (p e : PointRep) (k : ℕ) (ks : List ℕ) → p ≡ e → point_locations e ≡ k ∷ ks
    → All P (point_locations p) → P k
named_point P p e k ks is locations h = first P k ks (subst (All P) (ap point_locations is ∙ locations) h)

pub all_within : {X : Type 0} (P : ℕ → Type 0) (f : X → List ℕ) (xs : List X) → All P (flat_map f xs)
    → All (λ (x : X). All P (f x)) xs
all_within P f xs h k d lt j e short =
    All-contains P (flat_map f xs) (get_or (f (get_or xs k d)) j e) h
    (Contains-flat_map f (get_or xs k d) (get_or (f (get_or xs k d)) j e) xs (Contains-get_or xs k d lt)
    (Contains-get_or (f (get_or xs k d)) j e short))

-- ---- one item more
take-one : {X : Type 0} (xs : List X) (i : ℕ) (d : X) → i < length xs
    → take (i + 1) xs ≡ take i xs ++ slice_index_or xs i d ∷ []
take-one xs i d lt = rw add-one (take-suc xs i d lt)

pub adds_more : AddedPartsJoin → {X : Type 0} (locations : X → List ℕ) (xs : List X) (i : ℕ) (x : X)
    (s t u : WrittenLocations) → i < length xs → x ≡ slice_index_or xs i x →
    Adds (flat_map locations (take i xs)) s t → Adds (locations x) t u → Adds (flat_map locations (take (i + 1) xs)) s u
adds_more add {X} locations xs i x s t u lt is a b =
    subst (λ l. Adds l s u)
    (sym (ap (flat_map locations) (take-one xs i x lt)
    ∙ flat_map-append locations (take i xs) (slice_index_or xs i x ∷ [])
    ∙ ap (λ l. flat_map locations (take i xs) ++ l) (append-nil (locations (slice_index_or xs i x)))
    ∙ ap (λ (y : X). flat_map locations (take i xs) ++ locations y) (sym is)))
    (add.joined (flat_map locations (take i xs)) (locations x) s t u a b)

-- ---- the locations among parts
tokens-none : (texts : List (List ℕ)) → flat_map location_of_part (tokens texts) ≡ []
tokens-none [] = refl
tokens-none (x ∷ texts) = tokens-none texts

after_tokens : (texts : List (List ℕ)) (parts : List Part)
    → flat_map location_of_part (tokens texts ++ parts) ≡ flat_map location_of_part parts
after_tokens [] parts = refl
after_tokens (x ∷ texts) parts = after_tokens texts parts

in_each : {X : Type 0} (parts : X → List Part) (locations : X → List ℕ)
    → ((x : X) → flat_map location_of_part (parts x) ≡ locations x) → (xs : List X) →
    flat_map location_of_part (flat_map parts xs) ≡ flat_map locations xs
in_each parts locations h [] = refl
in_each parts locations h (x ∷ xs) = flat_map-append location_of_part (parts x) (flat_map parts xs)
    ∙ (λ i. h x i ++ in_each parts locations h xs i)

in_edge_rep : (version : ℕ) (r : EdgeRep) → flat_map location_of_part (edge_rep_parts version r) ≡ edge_locations r
in_edge_rep version r =
    flat_map-append location_of_part (column_parts (edge_columns (form_of_edge r)) (numbers_of_edge r))
    (tokens (texts_in version r))
    ∙ ap (λ l. edge_locations r ++ l) (tokens-none (texts_in version r))
    ∙ append-nil (edge_locations r)

in_point : (p : PointRep) → flat_map location_of_part (point_parts p) ≡ point_locations p
in_point p =
    after_tokens (take 1 (texts_of_point p)) _ ∙ after_tokens (drop 1 (texts_of_point p))
    (column_parts (point_columns (form_of_point p)) (numbers_of_point p))

in_mesh : (mesh : Option ℕ) → flat_map location_of_part (mesh_parts mesh) ≡ []
in_mesh None = refl
in_mesh (Some mesh) = refl

pub in_vertex : (version : ℕ) (d : VertexData) → data_locations version (Vertex d) ≡ flat_map point_locations d.points
in_vertex version d =
    after_tokens d.texts _
    ∙ flat_map-append location_of_part (flat_map point_parts d.points) _
    ∙ append-nil (flat_map location_of_part (flat_map point_parts d.points))
    ∙ in_each point_parts point_locations in_point d.points

pub in_edge : (version : ℕ) (d : EdgeData) → data_locations version (Edge d) ≡ flat_map edge_locations d.reps
in_edge version d =
    after_tokens (d.tolerance ++ edge_flags d) _
    ∙ flat_map-append location_of_part (flat_map (edge_rep_parts version) d.reps) _
    ∙ append-nil (flat_map location_of_part (flat_map (edge_rep_parts version) d.reps))
    ∙ in_each (edge_rep_parts version) edge_locations (in_edge_rep version) d.reps

pub in_face : (version : ℕ) (d : FaceData) → data_locations version (Face d) ≡ d.location ∷ []
in_face version d = after_tokens d.tolerance _ ∙ ap (λ l. d.location ∷ l) (in_mesh d.mesh)

-- ---- the same in each version
pub locations-stay : LocationsStay
locations-stay version other (Vertex d) = in_vertex version d ∙ sym (in_vertex other d)
locations-stay version other (Edge d) = in_edge version d ∙ sym (in_edge other d)
locations-stay version other (Face d) = in_face version d ∙ sym (in_face other d)
locations-stay version other Nothing = refl
