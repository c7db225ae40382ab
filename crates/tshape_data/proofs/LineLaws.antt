-- The lines of a sound head, split into tokens, are what it is spelled by.
use Rattle.std.proofs.Common.{◌≡◌, ℕ, zero, suc, ◌<◌, Bool, true, false, List, [], ◌∷◌, ◌++◌, map, take, drop, Option}
use Rattle.std.proofs.Common.{Some, None, codes, refl, sym, ap, subst, ◌∙◌, append_assoc, append-nil, arith}
use Rattle.std.specs.Fmt.{decimal}
use Rattle.std.specs.List.{AllByRecursion, flat_map}
use Rattle.std.specs.Prelude.{slice_get}
use Rattle.std.proofs.lemmas.List.{take-append-drop}
use Rattle.std.proofs.lemmas.Option.{slice_get-get_or}
use Rattle.brep_tokens.specs.Forms.{continuity_words, flag_text}
use Rattle.brep_tokens.specs.Written.{IsPlain, WrittenIsRead}
use Rattle.entry_readers.specs.Begins.{IsDecimal}
use Rattle.orientation.specs.Kinds.{name_of}
use Rattle.orientation.specs.declared.kind.Kind.{Kind}
use Rattle.orientation.specs.declared.kind.Kind.TheVariants.{Ve, Ed, Wi, Fa, Sh, So, CS, Co}
use Rattle.tshape_data.specs.Columns.{edge_columns, edge_number, edge_texts, point_columns, point_number}
use Rattle.tshape_data.specs.Flags.{spell_flags}
use Rattle.tshape_data.specs.Laws.{LinesAreExact}
use Rattle.tshape_data.specs.Lines.{edge_rep_lines, mesh_lines, number_words, payload_lines, point_line, uv_lines}
use Rattle.tshape_data.specs.Parts.{column_part, continuity_text, edge_flags, texts_in}
use Rattle.tshape_data.specs.Reps.{form_of_edge, form_of_point, numbers_of_edge, numbers_of_point, texts_of_edge}
use Rattle.tshape_data.specs.Reps.{texts_of_point}
use Rattle.tshape_data.specs.Sound.{AreInColumns, IsInColumn, IsSoundEdge, IsSoundEdgeRep, IsSoundFace, IsSoundPayload}
use Rattle.tshape_data.specs.Sound.{IsSoundPoint, IsSoundVertex}
use Rattle.tshape_data.specs.Spelling.{part_text, spell_payload}
use Rattle.tshape_data.specs.declared.head_bounds.HeadBounds.{HeadBounds}
use Rattle.tshape_data.specs.declared.columns.Column.{Column}
use Rattle.tshape_data.specs.declared.columns.Column.TheVariants.{Entry, Location, Continuity}
use Rattle.tshape_data.specs.declared.reps.PointRep.{PointRep}
use Rattle.tshape_data.specs.declared.reps.EdgeRep.{EdgeRep}
use Rattle.tshape_data.specs.declared.reps.EdgeRep.TheVariants as edge_reps
use Rattle.tshape_data.specs.declared.head.VertexData.{VertexData}
use Rattle.tshape_data.specs.declared.head.EdgeData.{EdgeData}
use Rattle.tshape_data.specs.declared.head.FaceData.{FaceData}
use Rattle.tshape_data.specs.declared.head.Flags.{Flags}
use Rattle.tshape_data.specs.declared.head.Payload.{Payload}
use Rattle.tshape_data.specs.declared.head.Payload.TheVariants.{Vertex, Edge, Face}
use Rattle.tshape_data.proofs.ColumnLaws.{number_texts}
use Rattle.tshape_data.proofs.FrameLaws.{flags_pass}
use Rattle.tshape_data.proofs.PayloadTexts.{edge_end, edge_rep_spelled, edge_rep_texts, edge_reps_texts, edge_spelled}
use Rattle.tshape_data.proofs.PayloadTexts.{face_spelled, mesh_texts, point_rep_spelled, vertex_end, vertex_spelled}
use Rattle.tshape_data.proofs.LocationLaws.{by_payload}
use Rattle.tshape_data.proofs.WordLaws.{LinesSpell, Spells, decimals_spell, each_line, each_lines, line_then}
use Rattle.tshape_data.proofs.WordLaws.{lines_join, no_lines, no_words, plain_then, word_then, words_join}

-- ---- texts that are plain

plain_name : (k : Kind) → IsPlain (name_of k)
plain_name Ve = refl
plain_name Ed = refl
plain_name Wi = refl
plain_name Fa = refl
plain_name Sh = refl
plain_name So = refl
plain_name CS = refl
plain_name Co = refl

plain_flag : (b : Bool) → IsPlain (flag_text b)
plain_flag true = refl
plain_flag false = refl

-- a continuity word is found at its place
continuity_found : (k : ℕ) → k < 7 → slice_get continuity_words k ≡ Some (continuity_text k)
continuity_found k lt = slice_get-get_or continuity_words k [] lt

all_take : (n : ℕ) (texts : List (List ℕ)) → AllByRecursion IsDecimal texts → AllByRecursion IsDecimal (take n texts)
all_take zero texts all = tt
all_take (suc n) [] all = tt
all_take (suc n) (x ∷ texts) all = (all.0, all_take n texts all.1)

all_drop : (n : ℕ) (texts : List (List ℕ)) → AllByRecursion IsDecimal texts → AllByRecursion IsDecimal (drop n texts)
all_drop zero texts all = all
all_drop (suc n) [] all = tt
all_drop (suc n) (x ∷ texts) all = all_drop n texts all.1

module _ (written : WrittenIsRead) where
  plain_flags : (f : Flags) → IsPlain (spell_flags f)
  plain_flags f = written.flags (spell_flags f) (omega arith) (flags_pass f)

  module _ (b : HeadBounds) where
    plain_number : (c : Column) (n : ℕ) → IsInColumn b c n → IsPlain (part_text (column_part c n))
    plain_number (Entry table) n is = written.numbers n
    plain_number Location n is = written.numbers n
    plain_number Continuity n is = written.continuities n (continuity_text n) (continuity_found n is)

    columns_spell : (cs : List Column) (ns : List ℕ) → AreInColumns b cs ns
        → Spells (number_texts cs ns) (number_texts cs ns)
    columns_spell [] ns are = no_words
    columns_spell (c ∷ cs) [] are = no_words
    columns_spell (c ∷ cs) (n ∷ ns) are = plain_then written (part_text (column_part c n)) (number_texts cs ns)
        (number_texts cs ns) (plain_number c n are.0) (columns_spell cs ns are.1)

    -- ---- representations

    -- the words of the numbers are their tokens, but for a joined one
    apart : (r : EdgeRep) → AreInColumns b (edge_columns (form_of_edge r)) (numbers_of_edge r)
        → Spells (number_texts (edge_columns (form_of_edge r)) (numbers_of_edge r))
        (number_texts (edge_columns (form_of_edge r)) (numbers_of_edge r))
    apart r are = columns_spell (edge_columns (form_of_edge r)) (numbers_of_edge r) are

    numbers_spell : (r : EdgeRep) → AreInColumns b (edge_columns (form_of_edge r)) (numbers_of_edge r)
        → Spells (number_words r) (number_texts (edge_columns (form_of_edge r)) (numbers_of_edge r))
    numbers_spell (edge_reps.Curve curve location texts) are = apart (edge_reps.Curve curve location texts) are
    numbers_spell (edge_reps.Curve2 curve2 surface location texts) are =
        apart (edge_reps.Curve2 curve2 surface location texts) are
    numbers_spell (edge_reps.Seam first second continuity surface location texts) are =
        let word = written.joined second continuity (continuity_text continuity)
        (continuity_found continuity are.1.1.0) in
        let end = decimal surface ∷ decimal location ∷ [] in
        let after : Spells end end =
        plain_then written (decimal surface) (decimal location ∷ []) (decimal location ∷ []) (written.numbers surface)
        (plain_then written (decimal location) [] [] (written.numbers location) no_words) in
        plain_then written (decimal first) ((decimal second ++ continuity_text continuity) ∷ end)
        (decimal second ∷ continuity_text continuity ∷ end) (written.numbers first)
        (word_then (decimal second ++ continuity_text continuity) end (decimal second ∷ continuity_text continuity ∷ [])
        end word.0 word.1 after)
    numbers_spell (edge_reps.Joint continuity first first_location second second_location) are =
        apart (edge_reps.Joint continuity first first_location second second_location) are
    numbers_spell (edge_reps.Polygon polygon location) are = apart (edge_reps.Polygon polygon location) are
    numbers_spell (edge_reps.PolygonOn polygon_on mesh location) are =
        apart (edge_reps.PolygonOn polygon_on mesh location) are
    numbers_spell (edge_reps.SeamPolygons first second mesh location) are =
        apart (edge_reps.SeamPolygons first second mesh location) are

    point_spells : (p : PointRep) → IsSoundPoint b p → Spells (point_line p) (point_line p)
    point_spells p is =
        let texts = texts_of_point p in
        let number = decimal (point_number (form_of_point p)) in
        let end = number_texts (point_columns (form_of_point p)) (numbers_of_point p) in
        let same : point_line p ≡ take 1 texts ++ number ∷ (drop 1 texts ++ end) = point_rep_spelled p in
        let first = decimals_spell written (take 1 texts) (all_take 1 texts is.decimals.1) in
        let second = decimals_spell written (drop 1 texts) (all_drop 1 texts is.decimals.1) in
        let after = words_join (drop 1 texts) end (drop 1 texts) end second
        (columns_spell (point_columns (form_of_point p)) (numbers_of_point p) is.numbers) in
        let all = words_join (take 1 texts) (number ∷ (drop 1 texts ++ end)) (take 1 texts)
        (number ∷ (drop 1 texts ++ end)) first
        (plain_then written number (drop 1 texts ++ end) (drop 1 texts ++ end)
        (written.numbers (point_number (form_of_point p))) after) in
        subst (λ (z : List (List ℕ)). Spells z z) (sym same) all

    uv_spell : (texts : List (List ℕ)) → AllByRecursion IsDecimal texts → LinesSpell (uv_lines texts) texts
    uv_spell [] all = no_lines
    uv_spell (x ∷ texts) all =
        subst (λ (z : List (List ℕ)). LinesSpell (uv_lines (x ∷ texts)) z) (append-nil (x ∷ texts))
        (line_then (x ∷ texts) [] (x ∷ texts) [] (decimals_spell written (x ∷ texts) all) no_lines)

    edge_rep_spells : (version : ℕ) (r : EdgeRep) → IsSoundEdgeRep b version r
        → LinesSpell (edge_rep_lines version r) (edge_rep_texts version r)
    edge_rep_spells version r is =
        let texts = texts_in version r in
        let number = decimal (edge_number (form_of_edge r)) in
        let numbers = number_texts (edge_columns (form_of_edge r)) (numbers_of_edge r) in
        let all : AllByRecursion IsDecimal texts =
        all_take (edge_texts version (form_of_edge r)) (texts_of_edge r) is.decimals.1 in
        let words = words_join (number_words r) (take 2 texts) numbers (take 2 texts) (numbers_spell r is.numbers)
        (decimals_spell written (take 2 texts) (all_take 2 texts all)) in
        let line = plain_then written number (number_words r ++ take 2 texts) (numbers ++ take 2 texts)
        (written.numbers (edge_number (form_of_edge r))) words in
        let lines = line_then (number ∷ (number_words r ++ take 2 texts)) (uv_lines (drop 2 texts))
        (number ∷ (numbers ++ take 2 texts)) (drop 2 texts) line (uv_spell (drop 2 texts) (all_drop 2 texts all)) in
        let same : (number ∷ (numbers ++ take 2 texts)) ++ drop 2 texts ≡ edge_rep_texts version r =
        ap (λ (z : List (List ℕ)). number ∷ z) (append_assoc numbers (take 2 texts) (drop 2 texts)
        ∙ ap (λ (z : List (List ℕ)). numbers ++ z) (take-append-drop 2 texts)) ∙ sym (edge_rep_spelled version r) in
        subst (λ (z : List (List ℕ)). LinesSpell (edge_rep_lines version r) z) same lines

    -- ---- data

    vertex_spells : (version : ℕ) (d : VertexData) → IsSoundVertex b d
        → LinesSpell (payload_lines version (Vertex d)) (spell_payload version (Vertex d))
    vertex_spells version d is =
        let zeros : Spells vertex_end vertex_end = plain_then written (codes "0") (codes "0" ∷ []) (codes "0" ∷ []) refl
        (plain_then written (codes "0") [] [] refl no_words) in
        let last : LinesSpell (vertex_end ∷ []) vertex_end = line_then vertex_end [] vertex_end [] zeros no_lines in
        let points = lines_join (map point_line d.points) (vertex_end ∷ []) (flat_map point_line d.points) vertex_end
        (each_line point_line (IsSoundPoint b) point_spells d.points is.points) last in
        let end = flat_map point_line d.points ++ vertex_end in
        let lines_end = map point_line d.points ++ vertex_end ∷ [] in
        let coordinates = line_then (drop 1 d.texts) lines_end (drop 1 d.texts) end
        (decimals_spell written (drop 1 d.texts) (all_drop 1 d.texts is.decimals.1)) points in
        let all = line_then (take 1 d.texts) (drop 1 d.texts ∷ lines_end) (take 1 d.texts) (drop 1 d.texts ++ end)
        (decimals_spell written (take 1 d.texts) (all_take 1 d.texts is.decimals.1)) coordinates in
        let same : take 1 d.texts ++ (drop 1 d.texts ++ end) ≡ spell_payload version (Vertex d) =
        sym (append_assoc (take 1 d.texts) (drop 1 d.texts) end) ∙ ap (λ (z : List (List ℕ)). z ++ end)
        (take-append-drop 1 d.texts) ∙ sym (vertex_spelled version d) in
        subst (λ (z : List (List ℕ)). LinesSpell (payload_lines version (Vertex d)) z) same all

    edge_spells : (version : ℕ) (d : EdgeData) → IsSoundEdge b version d
        → LinesSpell (payload_lines version (Edge d)) (spell_payload version (Edge d))
    edge_spells version d is =
        let last : LinesSpell (edge_end ∷ []) edge_end =
        line_then edge_end [] edge_end [] (plain_then written (codes "0") [] [] refl no_words) no_lines in
        let reps = lines_join (flat_map (edge_rep_lines version) d.reps) (edge_end ∷ [])
        (flat_map (edge_rep_texts version) d.reps) edge_end
        (each_lines (edge_rep_lines version) (edge_rep_texts version) (IsSoundEdgeRep b version)
        (edge_rep_spells version) d.reps is.reps) last in
        let two = flag_text d.same_range ∷ flag_text d.degenerated ∷ [] in
        let flags : Spells (edge_flags d) (edge_flags d) =
        plain_then written (flag_text d.same_parameter) two two (plain_flag d.same_parameter)
        (plain_then written (flag_text d.same_range) (flag_text d.degenerated ∷ []) (flag_text d.degenerated ∷ [])
        (plain_flag d.same_range) (plain_then written (flag_text d.degenerated) [] []
        (plain_flag d.degenerated) no_words)) in
        let first = words_join d.tolerance (edge_flags d) d.tolerance (edge_flags d)
        (decimals_spell written d.tolerance is.decimals.1) flags in
        let all = line_then (d.tolerance ++ edge_flags d) (flat_map (edge_rep_lines version) d.reps ++ edge_end ∷ [])
        (d.tolerance ++ edge_flags d) (edge_reps_texts version d.reps) first reps in
        let same : (d.tolerance ++ edge_flags d) ++ edge_reps_texts version d.reps ≡ spell_payload version (Edge d) =
        append_assoc d.tolerance (edge_flags d) (edge_reps_texts version d.reps) ∙ sym (edge_spelled version d) in
        subst (λ (z : List (List ℕ)). LinesSpell (payload_lines version (Edge d)) z) same all

    mesh_spells : (mesh : Option ℕ) → LinesSpell (mesh_lines mesh) (mesh_texts mesh)
    mesh_spells None = no_lines
    mesh_spells (Some mesh) =
        let words : Spells (codes "2" ∷ decimal mesh ∷ []) (codes "2" ∷ decimal mesh ∷ []) =
        plain_then written (codes "2") (decimal mesh ∷ []) (decimal mesh ∷ []) refl
        (plain_then written (decimal mesh) [] [] (written.numbers mesh) no_words) in
        line_then (codes "2" ∷ decimal mesh ∷ []) [] (codes "2" ∷ decimal mesh ∷ []) [] words no_lines

    face_spells : (version : ℕ) (d : FaceData) → IsSoundFace b d
        → LinesSpell (payload_lines version (Face d)) (spell_payload version (Face d))
    face_spells version d is =
        let end = decimal d.surface ∷ decimal d.location ∷ [] in
        let numbers : Spells end end =
        plain_then written (decimal d.surface) (decimal d.location ∷ []) (decimal d.location ∷ [])
        (written.numbers d.surface)
        (plain_then written (decimal d.location) [] [] (written.numbers d.location) no_words) in
        let words = words_join d.tolerance end d.tolerance end
        (decimals_spell written d.tolerance is.decimals.1) numbers in
        let first = plain_then written (flag_text d.natural) (d.tolerance ++ end) (d.tolerance ++ end)
        (plain_flag d.natural) words in
        let all = line_then (flag_text d.natural ∷ (d.tolerance ++ end)) (mesh_lines d.mesh)
        (flag_text d.natural ∷ (d.tolerance ++ end)) (mesh_texts d.mesh) first (mesh_spells d.mesh) in
        let same : flag_text d.natural ∷ ((d.tolerance ++ end) ++ mesh_texts d.mesh) ≡ spell_payload version (Face d) =
        ap (λ (z : List (List ℕ)). flag_text d.natural ∷ z) (append_assoc d.tolerance end (mesh_texts d.mesh))
        ∙ sym (face_spelled version d) in
        subst (λ (z : List (List ℕ)). LinesSpell (payload_lines version (Face d)) z) same all

    payload_spells : (version : ℕ) (k : Kind) (p : Payload) → IsSoundPayload b version k p
        → LinesSpell (payload_lines version p) (spell_payload version p)
    payload_spells version k p is =
        by_payload b version (λ q. LinesSpell (payload_lines version q) (spell_payload version q))
        (vertex_spells version) (edge_spells version) (face_spells version) no_lines k p is

  pub lines_are_exact : LinesAreExact
  lines_are_exact b version h sound =
      let flags = spell_flags h.flags ∷ [] in
      let last = line_then flags [] flags []
      (plain_then written (spell_flags h.flags) [] [] (plain_flags h.flags) no_words) no_lines in
      let after = line_then [] (flags ∷ []) [] flags no_words last in
      let data_lines = lines_join (payload_lines version h.payload) ([] ∷ flags ∷ []) (spell_payload version h.payload)
      flags (payload_spells b version h.kind h.payload sound) after in
      let all = line_then (name_of h.kind ∷ []) (payload_lines version h.payload ++ [] ∷ flags ∷ [])
      (name_of h.kind ∷ []) (spell_payload version h.payload ++ flags)
      (plain_then written (name_of h.kind) [] [] (plain_name h.kind) no_words) data_lines in
      record { dark = all.dark; tokens = all.same }
