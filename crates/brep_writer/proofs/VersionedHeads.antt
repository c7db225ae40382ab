-- Heads with as many decimals as a version has: in version 1 an edge's curves on surfaces have no UV points.
use Rattle.std.proofs.Common.{◌≡◌, ◌≤◌, refl, sym, ap, subst, arith}
use Rattle.std.specs.Prelude.{ℕ, zero, suc, ◌==◌, Bool, true, false, if◌then◌else◌}
use Rattle.std.specs.Prelude.{List, [], ◌∷◌, ◌++◌, map, take, drop, codes}
use Rattle.std.specs.List.{AllByRecursion, flat_map}
use Rattle.std.specs.Fmt.{decimal}
use Rattle.std.proofs.lemmas.List.{length-take-le, take-take}
use Rattle.lists.proofs.Each.{each-append, each-left, each-right}
use Rattle.entry_readers.specs.Begins.{AreDecimals, IsDecimal}
use Rattle.orientation.specs.Kinds.{name_of}
use Rattle.orientation.specs.declared.kind.Kind.{Kind}
use Rattle.orientation.specs.declared.kind.Kind.TheVariants.{Ve, Ed, Wi, Fa, Sh, So, CS, Co}
use Rattle.tshape_data.specs.Columns.{edge_columns, edge_number, edge_texts, p_curve_texts}
use Rattle.tshape_data.specs.Lines.{Line, edge_rep_lines, head_lines, number_words, payload_lines, uv_lines}
use Rattle.tshape_data.specs.Locations.{data_locations, location_of_part, renumbered_edge_rep, renumbered_head}
use Rattle.tshape_data.specs.Locations.{renumbered_payload}
use Rattle.tshape_data.specs.Flags.{spell_flags}
use Rattle.tshape_data.specs.Parts.{Part, column_parts, edge_flags, edge_rep_parts, payload_parts, texts_in, token}
use Rattle.tshape_data.specs.Parts.{tokens}
use Rattle.tshape_data.specs.Reps.{edge_rep, form_of_edge, numbers_of_edge, texts_of_edge}
use Rattle.tshape_data.specs.Sound.{IsSoundEdgeRep, IsSoundHead, IsSoundPayload}
use Rattle.tshape_data.specs.Spelling.{part_text, spell_payload}
use Rattle.tshape_data.specs.declared.forms.EdgeForm.{EdgeForm}
use Rattle.tshape_data.specs.declared.forms.EdgeForm.TheVariants as forms
use Rattle.tshape_data.specs.declared.head_bounds.HeadBounds.{HeadBounds}
use Rattle.tshape_data.specs.declared.reps.EdgeRep.{EdgeRep}
use Rattle.tshape_data.specs.declared.reps.EdgeRep.TheVariants as reps
use Rattle.tshape_data.specs.declared.head.Payload.{Payload}
use Rattle.tshape_data.specs.declared.head.Payload.TheVariants.{Vertex, Edge, Face, Nothing}
use Rattle.tshape_data.specs.declared.head.Head.{Head}

-- ---- what is meant
abbrev pub rep_in : ℕ → EdgeRep → EdgeRep
rep_in version r = edge_rep (form_of_edge r) (numbers_of_edge r) (texts_in version r)

abbrev pub payload_in : ℕ → Payload → Payload
payload_in version (Vertex d) = Vertex d
payload_in version (Edge d) = Edge (record d { reps = map (rep_in version) d.reps })
payload_in version (Face d) = Face d
payload_in version Nothing = Nothing

abbrev pub head_in : ℕ → Head → Head
head_in version h = record h { payload = payload_in version h.payload }

-- the lines of a representation with these decimals
abbrev lines-with : EdgeRep → List (List ℕ) → List Line
lines-with r texts =
    (decimal (edge_number (form_of_edge r)) ∷ (number_words r ++ take 2 texts)) ∷ uv_lines (drop 2 texts)

-- ---- representations that have one form, the same numbers and, in a version, the same decimals
take-twice : (n : ℕ) (xs : List (List ℕ)) → take n (take n xs) ≡ take n xs
take-twice n xs = take-take n n xs (omega arith)

module _ (version : ℕ) where
  -- the decimals of a representation are had again
  texts-again : (r : EdgeRep) → texts_in version (rep_in version r) ≡ texts_in version r
  texts-again (reps.Curve curve location texts) = take-twice 2 texts
  texts-again (reps.Curve2 curve2 surface location texts) = take-twice (p_curve_texts version) texts
  texts-again (reps.Seam first second continuity surface location texts) = take-twice (p_curve_texts version) texts
  texts-again (reps.Joint continuity first first_location second second_location) = refl
  texts-again (reps.Polygon polygon location) = refl
  texts-again (reps.PolygonOn polygon_on mesh location) = refl
  texts-again (reps.SeamPolygons first second mesh location) = refl

  form-again : (r : EdgeRep) → form_of_edge (rep_in version r) ≡ form_of_edge r
  form-again (reps.Curve curve location texts) = refl
  form-again (reps.Curve2 curve2 surface location texts) = refl
  form-again (reps.Seam first second continuity surface location texts) = refl
  form-again (reps.Joint continuity first first_location second second_location) = refl
  form-again (reps.Polygon polygon location) = refl
  form-again (reps.PolygonOn polygon_on mesh location) = refl
  form-again (reps.SeamPolygons first second mesh location) = refl

  numbers-again : (r : EdgeRep) → numbers_of_edge (rep_in version r) ≡ numbers_of_edge r
  numbers-again (reps.Curve curve location texts) = refl
  numbers-again (reps.Curve2 curve2 surface location texts) = refl
  numbers-again (reps.Seam first second continuity surface location texts) = refl
  numbers-again (reps.Joint continuity first first_location second second_location) = refl
  numbers-again (reps.Polygon polygon location) = refl
  numbers-again (reps.PolygonOn polygon_on mesh location) = refl
  numbers-again (reps.SeamPolygons first second mesh location) = refl

  rep-parts : (r : EdgeRep) → edge_rep_parts version (rep_in version r) ≡ edge_rep_parts version r
  rep-parts r =
      let form = form-again r in let numbers = numbers-again r in let texts = texts-again r in
      λ i. token (decimal (edge_number (form i)))
      ∷ (column_parts (edge_columns (form i)) (numbers i) ++ tokens (texts i))

  reps-parts : (rs : List EdgeRep)
      → flat_map (edge_rep_parts version) (map (rep_in version) rs) ≡ flat_map (edge_rep_parts version) rs
  reps-parts [] = refl
  reps-parts (r ∷ rs) = λ i. rep-parts r i ++ reps-parts rs i

  -- the data have the same parts
  pub parts-in : (p : Payload) → payload_parts version (payload_in version p) ≡ payload_parts version p
  parts-in (Vertex d) = refl
  parts-in (Edge d) =
      ap (λ (ps : List Part). tokens (d.tolerance ++ edge_flags d) ++ (ps ++ token (codes "0") ∷ []))
      (reps-parts d.reps)
  parts-in (Face d) = refl
  parts-in Nothing = refl

  -- and name the same locations
  pub data-in : (p : Payload) → data_locations version (payload_in version p) ≡ data_locations version p
  data-in p = ap (flat_map location_of_part) (parts-in p)

  -- ---- lines
  module _ (renumber : ℕ → ℕ) where
    rep-lines : (r : EdgeRep) → edge_rep_lines version (renumbered_edge_rep renumber (rep_in version r))
        ≡ edge_rep_lines version (renumbered_edge_rep renumber r)
    rep-lines (reps.Curve curve location texts) =
        ap (lines-with (reps.Curve curve (renumber location) texts)) (take-twice 2 texts)
    rep-lines (reps.Curve2 curve2 surface location texts) =
        ap (lines-with (reps.Curve2 curve2 surface (renumber location) texts))
        (take-twice (p_curve_texts version) texts)
    rep-lines (reps.Seam first second continuity surface location texts) =
        ap (lines-with (reps.Seam first second continuity surface (renumber location) texts))
        (take-twice (p_curve_texts version) texts)
    rep-lines (reps.Joint continuity first first_location second second_location) = refl
    rep-lines (reps.Polygon polygon location) = refl
    rep-lines (reps.PolygonOn polygon_on mesh location) = refl
    rep-lines (reps.SeamPolygons first second mesh location) = refl

    reps-lines : (rs : List EdgeRep)
        → flat_map (edge_rep_lines version) (map (renumbered_edge_rep renumber) (map (rep_in version) rs))
        ≡ flat_map (edge_rep_lines version) (map (renumbered_edge_rep renumber) rs)
    reps-lines [] = refl
    reps-lines (r ∷ rs) = λ i. rep-lines r i ++ reps-lines rs i

    payload-lines : (p : Payload) → payload_lines version (renumbered_payload renumber (payload_in version p))
        ≡ payload_lines version (renumbered_payload renumber p)
    payload-lines (Vertex d) = refl
    payload-lines (Edge d) =
        ap (λ (ls : List Line). (d.tolerance ++ edge_flags d) ∷ (ls ++ (codes "0" ∷ []) ∷ []))
        (reps-lines d.reps)
    payload-lines (Face d) = refl
    payload-lines Nothing = refl

    -- its lines are the same
    pub head-in_lines : (h : Head) → head_lines version (renumbered_head renumber (head_in version h))
        ≡ head_lines version (renumbered_head renumber h)
    head-in_lines h =
        ap (λ (ls : List Line). (name_of h.kind ∷ []) ∷ (ls ++ [] ∷ (spell_flags h.flags ∷ []) ∷ []))
        (payload-lines h.payload)

-- ---- in version 1
all-take : {X : Type 0} (P : X → Type 0) (n : ℕ) (xs : List X) → AllByRecursion P xs → AllByRecursion P (take n xs)
all-take P zero [] h = tt
all-take P (suc n) [] h = tt
all-take P zero (x ∷ xs) h = tt
all-take P (suc n) (x ∷ xs) h = (h.0, all-take P n xs h.1)

fewer-if : (b : Bool) → 2 ≤ (if b then 6 else 2)
fewer-if true = omega arith
fewer-if false = omega arith

fewer-texts : (own : ℕ) (form : EdgeForm) → edge_texts 1 form ≤ edge_texts own form
fewer-texts own forms.Curve = omega arith
fewer-texts own forms.Curve2 = fewer-if (own == 2)
fewer-texts own forms.Seam = fewer-if (own == 2)
fewer-texts own forms.Joint = omega arith
fewer-texts own forms.Polygon = omega arith
fewer-texts own forms.PolygonOn = omega arith
fewer-texts own forms.SeamPolygons = omega arith

decimals-fewer : (m n : ℕ) (texts : List (List ℕ)) → m ≤ n → AreDecimals n texts → AreDecimals m (take m texts)
decimals-fewer m n texts le h =
    (let size = h.0 in (length-take-le m texts (omega (arith, le, size)), all-take IsDecimal m texts h.1))

module _ (b : HeadBounds) (own : ℕ) where
  sound-rep : (r : EdgeRep) → IsSoundEdgeRep b own r → IsSoundEdgeRep b 1 (rep_in 1 r)
  sound-rep (reps.Curve curve location texts) s =
      record { numbers = s.numbers; decimals = decimals-fewer 2 2 texts (omega arith) s.decimals }
  sound-rep (reps.Curve2 curve2 surface location texts) s =
      record {
        numbers = s.numbers;
        decimals = decimals-fewer 2 (p_curve_texts own) texts (fewer-if (own == 2)) s.decimals;
      }
  sound-rep (reps.Seam first second continuity surface location texts) s =
      record {
        numbers = s.numbers;
        decimals = decimals-fewer 2 (p_curve_texts own) texts (fewer-if (own == 2)) s.decimals;
      }
  sound-rep (reps.Joint continuity first first_location second second_location) s =
      record { numbers = s.numbers; decimals = s.decimals }
  sound-rep (reps.Polygon polygon location) s = record { numbers = s.numbers; decimals = s.decimals }
  sound-rep (reps.PolygonOn polygon_on mesh location) s = record { numbers = s.numbers; decimals = s.decimals }
  sound-rep (reps.SeamPolygons first second mesh location) s = record { numbers = s.numbers; decimals = s.decimals }

  sound-reps : (rs : List EdgeRep) → AllByRecursion (IsSoundEdgeRep b own) rs
      → AllByRecursion (IsSoundEdgeRep b 1) (map (rep_in 1) rs)
  sound-reps [] s = tt
  sound-reps (r ∷ rs) s = (sound-rep r s.0, sound-reps rs s.1)

  sound-data : (k : Kind) (p : Payload) → IsSoundPayload b own k p → IsSoundPayload b 1 k (payload_in 1 p)
  sound-data Ve (Vertex d) s = s
  sound-data Ed (Edge d) s = record { decimals = s.decimals; reps = sound-reps d.reps s.reps }
  sound-data Fa (Face d) s = s
  sound-data Wi Nothing s = s
  sound-data Sh Nothing s = s
  sound-data So Nothing s = s
  sound-data CS Nothing s = s
  sound-data Co Nothing s = s
  sound-data Ve (Edge d) s = absurd s
  sound-data Ve (Face d) s = absurd s
  sound-data Ve Nothing s = absurd s
  sound-data Ed (Vertex d) s = absurd s
  sound-data Ed (Face d) s = absurd s
  sound-data Ed Nothing s = absurd s
  sound-data Fa (Vertex d) s = absurd s
  sound-data Fa (Edge d) s = absurd s
  sound-data Fa Nothing s = absurd s
  sound-data Wi (Vertex d) s = absurd s
  sound-data Wi (Edge d) s = absurd s
  sound-data Wi (Face d) s = absurd s
  sound-data Sh (Vertex d) s = absurd s
  sound-data Sh (Edge d) s = absurd s
  sound-data Sh (Face d) s = absurd s
  sound-data So (Vertex d) s = absurd s
  sound-data So (Edge d) s = absurd s
  sound-data So (Face d) s = absurd s
  sound-data CS (Vertex d) s = absurd s
  sound-data CS (Edge d) s = absurd s
  sound-data CS (Face d) s = absurd s
  sound-data Co (Vertex d) s = absurd s
  sound-data Co (Edge d) s = absurd s
  sound-data Co (Face d) s = absurd s

  -- the head is sound in version 1
  pub sound-in : (h : Head) → IsSoundHead b own h → IsSoundHead b 1 (head_in 1 h)
  sound-in h s = sound-data h.kind h.payload s

-- what holds of the tokens of data holds of those that they have in version 1
module _ (P : List ℕ → Type 0) (own : ℕ) where
  abbrev Holds : Part → Type 0
  Holds p = P (part_text p)

  to-parts : (ps : List Part) → AllByRecursion P (map part_text ps) → AllByRecursion Holds ps
  to-parts [] h = tt
  to-parts (p ∷ ps) h = (h.0, to-parts ps h.1)

  of-parts : (ps : List Part) → AllByRecursion Holds ps → AllByRecursion P (map part_text ps)
  of-parts [] h = tt
  of-parts (p ∷ ps) h = (h.0, of-parts ps h.1)

  tokens-take : (n : ℕ) (texts : List (List ℕ)) → AllByRecursion Holds (tokens texts)
      → AllByRecursion Holds (tokens (take n texts))
  tokens-take zero [] h = tt
  tokens-take (suc n) [] h = tt
  tokens-take zero (t ∷ texts) h = tt
  tokens-take (suc n) (t ∷ texts) h = (h.0, tokens-take n texts h.1)

  rep-tokens : (r : EdgeRep) → AllByRecursion Holds (edge_rep_parts own r) → AllByRecursion Holds (edge_rep_parts 1 r)
  rep-tokens r h =
      let columns : List Part = column_parts (edge_columns (form_of_edge r)) (numbers_of_edge r) in
      let few = fewer-texts own (form_of_edge r) in
      let same = take-take (edge_texts 1 (form_of_edge r)) (edge_texts own (form_of_edge r)) (texts_of_edge r) few in (
        h.0,
        each-append Holds columns (tokens (texts_in 1 r)) (each-left Holds columns (tokens (texts_in own r)) h.1)
            (subst (λ texts. AllByRecursion Holds (tokens texts)) same
            (tokens-take (edge_texts 1 (form_of_edge r)) (texts_in own r)
            (each-right Holds columns (tokens (texts_in own r)) h.1))),
      )

  reps-tokens : (rs : List EdgeRep) → AllByRecursion Holds (flat_map (edge_rep_parts own) rs)
      → AllByRecursion Holds (flat_map (edge_rep_parts 1) rs)
  reps-tokens [] h = tt
  reps-tokens (r ∷ rs) h =
      each-append Holds (edge_rep_parts 1 r) (flat_map (edge_rep_parts 1) rs)
      (rep-tokens r (each-left Holds (edge_rep_parts own r) (flat_map (edge_rep_parts own) rs) h))
      (reps-tokens rs (each-right Holds (edge_rep_parts own r) (flat_map (edge_rep_parts own) rs) h))

  parts-tokens : (p : Payload) → AllByRecursion Holds (payload_parts own p) → AllByRecursion Holds (payload_parts 1 p)
  parts-tokens (Vertex d) h = h
  parts-tokens (Edge d) h =
      let first : List Part = tokens (d.tolerance ++ edge_flags d) in
      let last : List Part = token (codes "0") ∷ [] in
      let rest = each-right Holds first (flat_map (edge_rep_parts own) d.reps ++ last) h in
      each-append Holds first (flat_map (edge_rep_parts 1) d.reps ++ last)
      (each-left Holds first (flat_map (edge_rep_parts own) d.reps ++ last) h)
      (each-append Holds (flat_map (edge_rep_parts 1) d.reps) last
      (reps-tokens d.reps (each-left Holds (flat_map (edge_rep_parts own) d.reps) last rest))
      (each-right Holds (flat_map (edge_rep_parts own) d.reps) last rest))
  parts-tokens (Face d) h = h
  parts-tokens Nothing h = h

  pub tokens-in : (p : Payload) → AllByRecursion P (spell_payload own p)
      → AllByRecursion P (spell_payload 1 (payload_in 1 p))
  tokens-in p h =
      subst (λ ps. AllByRecursion P (map part_text ps)) (sym (parts-in 1 p))
      (of-parts (payload_parts 1 p) (parts-tokens p (to-parts (payload_parts own p) h)))
