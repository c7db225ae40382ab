-- The texts of lines.
use Rattle.std.proofs.Common.{◌≡◌, ◌≤◌, ◌+◌, zero, suc, refl, sym, ◌∙◌, ap, arith}
use Rattle.std.specs.Prelude.{ℕ, List, [], ◌∷◌, ◌++◌, map, take, drop, length, slice_get, slice_index_or}
use Rattle.std.specs.Prelude.{Some, codes, unwrap_or}
use Rattle.std.specs.List.{flat_map, join_with_byte}
use Rattle.std.specs.Fmt.{decimal}
use Rattle.std.proofs.lemmas.Grind.{flat_map-append}
use Rattle.std.proofs.lemmas.List.{append_assoc, append-nil}
use Rattle.brep_tokens.specs.Written.{line_text, lines_text}
use Rattle.tshape_data.specs.Columns.{edge_number, second_texts}
use Rattle.tshape_data.specs.Lines.{Line, edge_rep_lines, number_words, payload_lines, point_line, uv_lines}
use Rattle.tshape_data.specs.Parts.{edge_flags, texts_in}
use Rattle.tshape_data.specs.Locations.{renumbered_edge_rep, renumbered_payload, renumbered_point}
use Rattle.tshape_data.specs.Reps.{form_of_edge, form_of_point, texts_of_point}
use Rattle.tshape_data.specs.declared.reps.EdgeRep.{EdgeRep}
use Rattle.tshape_data.specs.declared.reps.EdgeRep.TheVariants as edge_reps
use Rattle.tshape_data.specs.declared.reps.PointRep.{PointRep}
use Rattle.tshape_data.specs.declared.reps.PointRep.TheVariants as point_reps
use Rattle.tshape_data.specs.declared.head.VertexData.{VertexData}
use Rattle.tshape_data.specs.declared.head.EdgeData.{EdgeData}
use Rattle.tshape_data.specs.declared.head.Payload.TheVariants.{Vertex, Edge}
use Rattle.written_heads.specs.Words.{decimals_text, entries_text, parameters_text, spaced, vertex_texts}
use Rattle.written_heads.proofs.Digits.{digit_1, digit_2, digit_3}

-- ---- a text at its place
pub text_at : (texts : List (List ℕ)) (i : ℕ) (x : List ℕ) → slice_get texts i ≡ Some x → x ≡ slice_index_or texts i []
text_at [] i x e = absurd cc
text_at (y ∷ texts) zero x e = sym (ap (λ o. unwrap_or o y) e)
text_at (y ∷ texts) (suc i) x e = text_at texts i x e

-- ---- words on a line
join_spaced : (x : List ℕ) (xs : List (List ℕ)) → join_with_byte 32 (x ∷ xs) ≡ x ++ spaced xs
join_spaced x [] = sym (append-nil x)
join_spaced x (y ∷ xs) = ap (λ t. x ++ 32 ∷ t) (join_spaced y xs)

one_word : (a l : List ℕ) → 32 ∷ (a ++ 32 ∷ l) ≡ (32 ∷ (a ++ [])) ++ 32 ∷ l
one_word a l = ap (λ t. 32 ∷ (t ++ 32 ∷ l)) (sym (append-nil a))

two_words : (a b l : List ℕ) → 32 ∷ (a ++ 32 ∷ (b ++ 32 ∷ l)) ≡ (32 ∷ (a ++ 32 ∷ (b ++ []))) ++ 32 ∷ l
two_words a b l = ap (λ t. 32 ∷ (a ++ t)) (one_word b l)
    ∙ sym (ap (λ t. 32 ∷ t) (append_assoc a (32 ∷ (b ++ [])) (32 ∷ l)))

-- ---- representations of edges
module _ (renumber : ℕ → ℕ) where
  renumbered-form : (r : EdgeRep) → form_of_edge (renumbered_edge_rep renumber r) ≡ form_of_edge r
  renumbered-form (edge_reps.Curve curve location texts) = refl
  renumbered-form (edge_reps.Curve2 curve2 surface location texts) = refl
  renumbered-form (edge_reps.Seam a b continuity surface location texts) = refl
  renumbered-form (edge_reps.Joint continuity a a_location b b_location) = refl
  renumbered-form (edge_reps.Polygon polygon location) = refl
  renumbered-form (edge_reps.PolygonOn polygon_on mesh location) = refl
  renumbered-form (edge_reps.SeamPolygons a b mesh location) = refl

  renumbered-texts : (version : ℕ) (r : EdgeRep)
      → texts_in version (renumbered_edge_rep renumber r) ≡ texts_in version r
  renumbered-texts version (edge_reps.Curve curve location texts) = refl
  renumbered-texts version (edge_reps.Curve2 curve2 surface location texts) = refl
  renumbered-texts version (edge_reps.Seam a b continuity surface location texts) = refl
  renumbered-texts version (edge_reps.Joint continuity a a_location b b_location) = refl
  renumbered-texts version (edge_reps.Polygon polygon location) = refl
  renumbered-texts version (edge_reps.PolygonOn polygon_on mesh location) = refl
  renumbered-texts version (edge_reps.SeamPolygons a b mesh location) = refl

  rep_text : (d : List ℕ) (numbers parameters : Line) (rest : List ℕ) →
      line_text (d ∷ (numbers ++ parameters)) ++ rest ≡ d ++ (spaced numbers ++ (spaced parameters ++ 10 ∷ rest))
  rep_text d numbers parameters rest =
      ap (λ t. (t ++ 10 ∷ []) ++ rest) (join_spaced d (numbers ++ parameters)
      ∙ ap (λ t. d ++ t) (flat_map-append (λ (w : List ℕ). 32 ∷ w) numbers parameters))
      ∙ simp append_assoc

  pub edge_rep_text : (version : ℕ) (r : EdgeRep)
      → lines_text (edge_rep_lines version (renumbered_edge_rep renumber r)) ≡
      decimal (edge_number (form_of_edge r)) ++ (spaced (number_words (renumbered_edge_rep renumber r))
      ++ parameters_text version r)
  edge_rep_text version r =
      let e : EdgeRep = renumbered_edge_rep renumber r in
      rep_text (decimal (edge_number (form_of_edge e))) (number_words e) (take 2 (texts_in version e))
      (lines_text (uv_lines (drop 2 (texts_in version e))))
      ∙ (λ i. decimal (edge_number (renumbered-form r i))
      ++ (spaced (number_words e) ++ (spaced (take 2 (renumbered-texts version r i)) ++ 10 ∷ lines_text
      (uv_lines (drop 2 (renumbered-texts version r i))))))

-- ---- representations of vertices
module _ (renumber : ℕ → ℕ) where
  pub on_curve : (p : PointRep) (texts : List (List ℕ)) (curve location : ℕ)
      → p ≡ point_reps.OnCurve texts curve location → length (texts_of_point p) ≡ 1 + second_texts (form_of_point p) →
      join_with_byte 32 (point_line (renumbered_point renumber p)) ≡ slice_index_or texts 0 []
      ++ (codes " 1" ++ (entries_text (curve ∷ []) ++ 32 ∷ decimal (renumber location)))
  on_curve p texts curve location is long =
      ap (λ (q : PointRep). join_with_byte 32 (point_line (renumbered_point renumber q))) is
      ∙ words texts (sym (ap (λ (q : PointRep). length (texts_of_point q)) is) ∙ long
      ∙ ap (λ (q : PointRep). 1 + second_texts (form_of_point q)) is)
    where
      words : (ts : List (List ℕ)) → length ts ≡ 1 →
          join_with_byte 32 (point_line (renumbered_point renumber (point_reps.OnCurve ts curve location)))
          ≡ slice_index_or ts 0 [] ++ (codes " 1"
          ++ (entries_text (curve ∷ []) ++ 32 ∷ decimal (renumber location)))
      words (x ∷ []) h = ap (λ t. x ++ 32 ∷ (t ++ 32 ∷ (decimal curve ++ 32 ∷ decimal (renumber location)))) digit_1
          ∙ ap (λ t. x ++ 32 ∷ 49 ∷ t) (one_word (decimal curve) (decimal (renumber location)))
      words [] h = absurd (omega (arith, h))
      words (x ∷ y ∷ ts) h = absurd (omega (arith, h))

  pub on_curve2 : (p : PointRep) (texts : List (List ℕ)) (curve2 surface location : ℕ)
      → p ≡ point_reps.OnCurve2 texts curve2 surface location →
      length (texts_of_point p) ≡ 1 + second_texts (form_of_point p) →
      join_with_byte 32 (point_line (renumbered_point renumber p)) ≡ slice_index_or texts 0 []
      ++ (codes " 2" ++ (entries_text (curve2 ∷ surface ∷ []) ++ 32 ∷ decimal (renumber location)))
  on_curve2 p texts curve2 surface location is long =
      ap (λ (q : PointRep). join_with_byte 32 (point_line (renumbered_point renumber q))) is
      ∙ words texts (sym (ap (λ (q : PointRep). length (texts_of_point q)) is) ∙ long
      ∙ ap (λ (q : PointRep). 1 + second_texts (form_of_point q)) is)
    where
      words : (ts : List (List ℕ)) → length ts ≡ 1 →
          join_with_byte 32 (point_line (renumbered_point renumber (point_reps.OnCurve2 ts curve2 surface location))) ≡
          slice_index_or ts 0 [] ++ (codes " 2"
          ++ (entries_text (curve2 ∷ surface ∷ []) ++ 32 ∷ decimal (renumber location)))
      words (x ∷ []) h =
          ap (λ t. x ++ 32 ∷ (t ++ 32 ∷ (decimal curve2 ++ 32 ∷ (decimal surface ++ 32 ∷ decimal (renumber location)))))
          digit_2
          ∙ ap (λ t. x ++ 32 ∷ 50 ∷ t) (two_words (decimal curve2) (decimal surface) (decimal (renumber location)))
      words [] h = absurd (omega (arith, h))
      words (x ∷ y ∷ ts) h = absurd (omega (arith, h))

  pub on_surface : (p : PointRep) (texts : List (List ℕ)) (surface location : ℕ)
      → p ≡ point_reps.OnSurface texts surface location →
      length (texts_of_point p) ≡ 1 + second_texts (form_of_point p) →
      join_with_byte 32 (point_line (renumbered_point renumber p)) ≡
      slice_index_or texts 0 []
      ++ (codes " 3 " ++ (slice_index_or texts 1 []
      ++ (entries_text (surface ∷ []) ++ 32 ∷ decimal (renumber location))))
  on_surface p texts surface location is long =
      ap (λ (q : PointRep). join_with_byte 32 (point_line (renumbered_point renumber q))) is
      ∙ words texts (sym (ap (λ (q : PointRep). length (texts_of_point q)) is) ∙ long
      ∙ ap (λ (q : PointRep). 1 + second_texts (form_of_point q)) is)
    where
      words : (ts : List (List ℕ)) → length ts ≡ 2 →
          join_with_byte 32 (point_line (renumbered_point renumber (point_reps.OnSurface ts surface location))) ≡
          slice_index_or ts 0 [] ++ (codes " 3 "
          ++ (slice_index_or ts 1 [] ++ (entries_text (surface ∷ []) ++ 32 ∷ decimal (renumber location))))
      words (x ∷ y ∷ []) h =
          ap (λ t. x ++ 32 ∷ (t ++ 32 ∷ (y ++ 32 ∷ (decimal surface ++ 32 ∷ decimal (renumber location))))) digit_3
          ∙ ap (λ t. x ++ 32 ∷ 51 ∷ 32 ∷ (y ++ t)) (one_word (decimal surface) (decimal (renumber location)))
      words [] h = absurd (omega (arith, h))
      words (x ∷ []) h = absurd (omega (arith, h))
      words (x ∷ y ∷ z ∷ ts) h = absurd (omega (arith, h))

-- ---- lines of decimals
pub uv_text : (texts : List (List ℕ)) → 6 ≤ length texts → line_text (drop 2 (take 6 texts)) ≡
    (slice_index_or texts 2 [] ++ 32 ∷ [])
    ++ ((slice_index_or texts 3 [] ++ 32 ∷ [])
    ++ ((slice_index_or texts 4 [] ++ 32 ∷ []) ++ (slice_index_or texts 5 [] ++ 10 ∷ [])))
uv_text (a ∷ b ∷ d ∷ e ∷ f ∷ g ∷ texts) h = simp append_assoc
uv_text [] h = absurd (omega (arith, h))
uv_text (a ∷ []) h = absurd (omega (arith, h))
uv_text (a ∷ b ∷ []) h = absurd (omega (arith, h))
uv_text (a ∷ b ∷ d ∷ []) h = absurd (omega (arith, h))
uv_text (a ∷ b ∷ d ∷ e ∷ []) h = absurd (omega (arith, h))
uv_text (a ∷ b ∷ d ∷ e ∷ f ∷ []) h = absurd (omega (arith, h))

pub range_text : (texts : List (List ℕ)) → 2 ≤ length texts
    → 32 ∷ ((slice_index_or texts 0 [] ++ 32 ∷ []) ++ (slice_index_or texts 1 [] ++ 10 ∷ []))
    ≡ spaced (take 2 texts) ++ 10 ∷ []
range_text (a ∷ b ∷ texts) h =
    ap (λ t. 32 ∷ t)
    (append_assoc a (32 ∷ []) (b ++ 10 ∷ [])
    ∙ sym (append_assoc a (32 ∷ (b ++ [])) (10 ∷ []) ∙ ap (λ t. a ++ 32 ∷ (t ++ 10 ∷ [])) (append-nil b)))
range_text [] h = absurd (omega (arith, h))
range_text (a ∷ []) h = absurd (omega (arith, h))

pub range_alone : (texts : List (List ℕ)) → 2 ≤ length texts
    → spaced (take 2 texts) ++ 10 ∷ [] ≡ decimals_text (take 2 texts)
range_alone (a ∷ b ∷ texts) h = refl
range_alone [] h = absurd (omega (arith, h))
range_alone (a ∷ []) h = absurd (omega (arith, h))

pub range_and_uv : (texts : List (List ℕ)) → 6 ≤ length texts
    → (spaced (take 2 texts) ++ 10 ∷ []) ++ line_text (drop 2 (take 6 texts)) ≡ decimals_text (take 6 texts)
range_and_uv (a ∷ b ∷ d ∷ e ∷ f ∷ g ∷ texts) h =
    append_assoc (spaced (a ∷ b ∷ [])) (10 ∷ []) (line_text (d ∷ e ∷ f ∷ g ∷ []))
    ∙ ap (λ t. spaced (a ∷ b ∷ []) ++ 10 ∷ t) (sym (append-nil (line_text (d ∷ e ∷ f ∷ g ∷ []))))
range_and_uv [] h = absurd (omega (arith, h))
range_and_uv (a ∷ []) h = absurd (omega (arith, h))
range_and_uv (a ∷ b ∷ []) h = absurd (omega (arith, h))
range_and_uv (a ∷ b ∷ d ∷ []) h = absurd (omega (arith, h))
range_and_uv (a ∷ b ∷ d ∷ e ∷ []) h = absurd (omega (arith, h))
range_and_uv (a ∷ b ∷ d ∷ e ∷ f ∷ []) h = absurd (omega (arith, h))

pub vertex_lines : (texts : List (List ℕ)) → length texts ≡ 4 → vertex_texts texts ≡
    (slice_index_or texts 0 [] ++ 10 ∷ [])
    ++ ((slice_index_or texts 1 [] ++ 32 ∷ [])
    ++ ((slice_index_or texts 2 [] ++ 32 ∷ []) ++ (slice_index_or texts 3 [] ++ 10 ∷ [])))
unfolding vertex_texts
vertex_lines (a ∷ b ∷ d ∷ e ∷ []) h = simp append_assoc
vertex_lines [] h = absurd (omega (arith, h))
vertex_lines (a ∷ []) h = absurd (omega (arith, h))
vertex_lines (a ∷ b ∷ []) h = absurd (omega (arith, h))
vertex_lines (a ∷ b ∷ d ∷ []) h = absurd (omega (arith, h))
vertex_lines (a ∷ b ∷ d ∷ e ∷ f ∷ texts) h = absurd (omega (arith, h))

-- ---- data
module _ (renumber : ℕ → ℕ) where
  abbrev pub points_text : List PointRep → List ℕ
  points_text points = flat_map (λ (p : PointRep). line_text (point_line (renumbered_point renumber p))) points

  abbrev pub edge_reps_text : ℕ → List EdgeRep → List ℕ
  edge_reps_text version reps =
      flat_map (λ (r : EdgeRep). lines_text (edge_rep_lines version (renumbered_edge_rep renumber r))) reps

  each-point : (points : List PointRep)
      → lines_text (map point_line (map (renumbered_point renumber) points)) ≡ points_text points
  each-point [] = refl
  each-point (p ∷ points) = ap (λ t. line_text (point_line (renumbered_point renumber p)) ++ t) (each-point points)

  each-edge_rep : (version : ℕ) (reps : List EdgeRep)
      → lines_text (flat_map (edge_rep_lines version) (map (renumbered_edge_rep renumber) reps))
      ≡ edge_reps_text version reps
  each-edge_rep version [] = refl
  each-edge_rep version (r ∷ reps) =
      flat_map-append line_text (edge_rep_lines version (renumbered_edge_rep renumber r))
      (flat_map (edge_rep_lines version) (map (renumbered_edge_rep renumber) reps))
      ∙ ap (λ t. lines_text (edge_rep_lines version (renumbered_edge_rep renumber r)) ++ t) (each-edge_rep version reps)

  pub vertex_text : (d : VertexData) (points : List PointRep) → points ≡ d.points
      → lines_text (payload_lines 1 (renumbered_payload renumber (Vertex d))) ≡
      vertex_texts d.texts ++ (points_text points ++ codes "0 0\n")
  unfolding vertex_texts
  vertex_text d points same =
      ap (λ t. line_text (take 1 d.texts) ++ (line_text (drop 1 d.texts) ++ t))
      (flat_map-append line_text (map point_line (map (renumbered_point renumber) d.points)) _
      ∙ ap (λ t. t ++ codes "0 0\n") (each-point d.points ∙ ap points_text (sym same)))
      ∙ sym (append_assoc (line_text (take 1 d.texts)) (line_text (drop 1 d.texts))
      (points_text points ++ codes "0 0\n"))

  pub edge_text : (version : ℕ) (d : EdgeData) (reps : List EdgeRep) → reps ≡ d.reps
      → lines_text (payload_lines version (renumbered_payload renumber (Edge d))) ≡
      line_text (d.tolerance ++ edge_flags d) ++ (edge_reps_text version reps ++ codes "0\n")
  edge_text version d reps same =
      ap (λ t. line_text (d.tolerance ++ edge_flags d) ++ t)
      (flat_map-append line_text (flat_map (edge_rep_lines version) (map (renumbered_edge_rep renumber) d.reps)) _
      ∙ ap (λ t. t ++ codes "0\n") (each-edge_rep version d.reps ∙ ap (edge_reps_text version) (sym same)))
