-- The texts of numbers and of data, piece by piece.
use Rattle.std.proofs.Common.{◌≡◌, ◌∙◌, ap, arith, ne_eqb, refl, sym}
use Rattle.std.specs.Prelude.{ℕ, Bool, true, false, List, [], ◌∷◌, ◌++◌, map, length, slice_index_or, Option, Some, None}
use Rattle.std.specs.Prelude.{codes, if◌then◌else◌}
use Rattle.std.specs.Fmt.{decimal}
use Rattle.std.specs.List.{flat_map}
use Rattle.std.proofs.lemmas.Grind.{flat_map-append}
use Rattle.std.proofs.lemmas.List.{append_assoc, append-nil}
use Rattle.brep_tokens.specs.Forms.{flag_text}
use Rattle.brep_tokens.specs.Written.{line_text, lines_text}
use Rattle.orientation.specs.Kinds.{name_of}
use Rattle.tshape_data.specs.Columns.{p_curve_texts}
use Rattle.tshape_data.specs.Flags.{flag_code, spell_flags}
use Rattle.tshape_data.specs.Lines.{head_lines, mesh_lines, payload_lines}
use Rattle.tshape_data.specs.Locations.{renumbered_head, renumbered_payload}
use Rattle.tshape_data.specs.Parts.{edge_flags}
use Rattle.tshape_data.specs.declared.head.EdgeData.{EdgeData}
use Rattle.tshape_data.specs.declared.head.FaceData.{FaceData}
use Rattle.tshape_data.specs.declared.head.Head.{Head}
use Rattle.tshape_data.specs.declared.head.Payload.TheVariants.{Face}
use Rattle.written_heads.specs.Words.{entries_text, spaced}

-- ---- numbers
pub located_spaced : (entries : List ℕ) (l : List ℕ)
    → entries_text entries ++ 32 ∷ l ≡ spaced (map decimal entries ++ l ∷ [])
located_spaced [] l = ap (λ t. 32 ∷ t) (sym (append-nil l))
located_spaced (n ∷ ns) l =
    append_assoc (32 ∷ decimal n) (entries_text ns) (32 ∷ l)
    ∙ ap (λ t. (32 ∷ decimal n) ++ t) (located_spaced ns l)

-- the continuity word of a seam is joined to the number before it
pub seam_text : (a b k e l : List ℕ)
    → (32 ∷ (a ++ 32 ∷ (b ++ []))) ++ (k ++ ((32 ∷ (e ++ [])) ++ 32 ∷ l))
    ≡ spaced (a ∷ (b ++ k) ∷ e ∷ l ∷ [])
seam_text a b k e l = simp (append_assoc, append-nil)

in_front : (a l rest : List ℕ) → ((32 ∷ (a ++ [])) ++ 32 ∷ l) ++ rest ≡ 32 ∷ (a ++ 32 ∷ (l ++ rest))
in_front a l rest =
    ap (λ t. ((32 ∷ t) ++ 32 ∷ l) ++ rest) (append-nil a) ∙ ap (λ t. 32 ∷ t) (append_assoc a (32 ∷ l) rest)

at_end : (a l : List ℕ) → (32 ∷ (a ++ [])) ++ 32 ∷ l ≡ 32 ∷ (a ++ 32 ∷ (l ++ []))
at_end a l = ap (λ t. (32 ∷ t) ++ 32 ∷ l) (append-nil a) ∙ ap (λ t. 32 ∷ (a ++ 32 ∷ t)) (sym (append-nil l))

pub joint_text : (k e l f m : List ℕ)
    → 32 ∷ (k ++ (((32 ∷ (e ++ [])) ++ 32 ∷ l) ++ ((32 ∷ (f ++ [])) ++ 32 ∷ m)))
    ≡ spaced (k ∷ e ∷ l ∷ f ∷ m ∷ [])
joint_text k e l f m =
    ap (λ t. 32 ∷ (k ++ t))
    (in_front e l ((32 ∷ (f ++ [])) ++ 32 ∷ m) ∙ ap (λ t. 32 ∷ (e ++ 32 ∷ (l ++ t))) (at_end f m))

-- ---- how many decimals p-curves have
pub with_uv : (version : ℕ) → version ≡ 2 → p_curve_texts version ≡ 6
with_uv version is = ap p_curve_texts is

pub without_uv : (version : ℕ) → (version ≡ 2 → ⊥) → p_curve_texts version ≡ 2
without_uv version other = ap (λ (b : Bool). if b then 6 else 2) (ne_eqb version 2 other)

-- ---- data
flag_word : (b : Bool) → flag_code b ∷ [] ≡ flag_text b
flag_word true = refl
flag_word false = refl

pub edge_flags_text : (d : EdgeData) → length d.tolerance ≡ 1
    → slice_index_or d.tolerance 0 [] ++ 32 ∷ flag_code d.same_parameter ∷ 32 ∷ flag_code d.same_range ∷ 32
    ∷ flag_code d.degenerated ∷ 10 ∷ []
    ≡ line_text (d.tolerance ++ edge_flags d)
edge_flags_text d long = by_texts d.tolerance long
  where
    by_texts : (texts : List (List ℕ)) → length texts ≡ 1
        → slice_index_or texts 0 [] ++ 32 ∷ flag_code d.same_parameter ∷ 32 ∷ flag_code d.same_range ∷ 32
        ∷ flag_code d.degenerated ∷ 10 ∷ []
        ≡ line_text (texts ++ edge_flags d)
    by_texts (t ∷ []) h =
        sym (append_assoc t (32 ∷ flag_code d.same_parameter ∷ 32 ∷ flag_code d.same_range ∷ 32
        ∷ flag_code d.degenerated ∷ []) (10 ∷ []))
        ∙ (λ i. (t ++ 32 ∷ (flag_word d.same_parameter i ++ 32 ∷ (flag_word d.same_range i
        ++ 32 ∷ flag_word d.degenerated i))) ++ 10 ∷ [])
    by_texts [] h = absurd (omega (arith, h))
    by_texts (t ∷ u ∷ texts) h = absurd (omega (arith, h))

pub mesh_text : (mesh : Option ℕ) (m : ℕ) → mesh ≡ Some m
    → 50 ∷ ((32 ∷ decimal m) ++ 10 ∷ []) ≡ lines_text (mesh_lines mesh)
mesh_text mesh m is =
    sym (append-nil (50 ∷ ((32 ∷ decimal m) ++ 10 ∷ []))) ∙ ap (λ o. lines_text (mesh_lines o)) (sym is)

face_line : (flag : ℕ) (t surface location rest : List ℕ)
    → flag ∷ 32 ∷ (t ++ ((32 ∷ surface) ++ ((32 ∷ location) ++ 10 ∷ rest)))
    ≡ (((flag ∷ []) ++ 32 ∷ (t ++ 32 ∷ (surface ++ 32 ∷ location))) ++ 10 ∷ []) ++ rest
face_line flag t surface location rest = simp append_assoc

module _ (renumber : ℕ → ℕ) where
  pub face_text : (d : FaceData) → length d.tolerance ≡ 1
      → flag_code d.natural ∷ 32 ∷ (slice_index_or d.tolerance 0 [] ++ ((32 ∷ decimal d.surface)
      ++ ((32 ∷ decimal (renumber d.location)) ++ 10 ∷ lines_text (mesh_lines d.mesh))))
      ≡ lines_text (payload_lines 1 (renumbered_payload renumber (Face d)))
  face_text d long = by_texts d.tolerance long
    where
      rest : List ℕ
      rest = lines_text (mesh_lines d.mesh)

      by_texts : (texts : List (List ℕ)) → length texts ≡ 1
          → flag_code d.natural ∷ 32 ∷ (slice_index_or texts 0 [] ++ ((32 ∷ decimal d.surface)
          ++ ((32 ∷ decimal (renumber d.location)) ++ 10 ∷ rest)))
          ≡ line_text (flag_text d.natural ∷ (texts ++ decimal d.surface ∷ decimal (renumber d.location) ∷ []))
          ++ rest
      by_texts (t ∷ []) h =
          face_line (flag_code d.natural) t (decimal d.surface) (decimal (renumber d.location)) rest
          ∙ ap (λ w. ((w ++ 32 ∷ (t ++ 32 ∷ (decimal d.surface ++ 32 ∷ decimal (renumber d.location)))) ++ 10 ∷ [])
          ++ rest) (flag_word d.natural)
      by_texts [] h = absurd (omega (arith, h))
      by_texts (t ∷ u ∷ texts) h = absurd (omega (arith, h))

  pub head_text : (version : ℕ) (h : Head)
      → (name_of h.kind ++ 10 ∷ []) ++ (lines_text (payload_lines version (renumbered_payload renumber h.payload))
      ++ 10 ∷ (spell_flags h.flags ++ 10 ∷ []))
      ≡ lines_text (head_lines version (renumbered_head renumber h))
  head_text version h =
      let p = payload_lines version (renumbered_payload renumber h.payload) in
      ap (λ t. (name_of h.kind ++ 10 ∷ []) ++ t)
      (ap (λ t. lines_text p ++ 10 ∷ t) (sym (append-nil (spell_flags h.flags ++ 10 ∷ [])))
      ∙ sym (flat_map-append line_text p ([] ∷ (spell_flags h.flags ∷ []) ∷ [])))
