-- The laws of reading together.
use Rattle.std.proofs.Common.{◌≡◌, ℕ, inl, inr, List, [], ◌∷◌, ◌++◌, length, sym, ap, subst, ◌∙◌, append-nil, ◌+◌}
use Rattle.std.proofs.Common.{arith}
use Rattle.std.specs.Prelude.{codes}
use Rattle.std.specs.List.{flat_map}
use Rattle.brep_tokens.specs.Laws.{FormsAreExact, ScannerGivesTokens}
use Rattle.brep_tokens.specs.Tokens.{Word}
use Rattle.brep_tokens.specs.declared.text.Token.{Token}
use Rattle.entry_readers.specs.Begins.{Begins, FieldsAreExact}
use Rattle.orientation.specs.Laws.{SignsAndNamesTell}
use Rattle.location_table.specs.Sections.{SectionsAreExact}
use Rattle.curve_tables.specs.Laws.{CurvesAreExact}
use Rattle.surface_tables.specs.Laws.{SurfacesAreExact}
use Rattle.mesh_tables.specs.Laws.{MeshesAreExact}
use Rattle.tshape_data.specs.Laws.{HeadsAreExact, HeadsTell}
use Rattle.brep_file.specs.declared.file.File.{File}
use Rattle.brep_file.specs.FileReading.{short_front}
use Rattle.brep_file.specs.Reads.{IsSpelling, Spells, texts_of}
use Rattle.brep_file.specs.ReadingLaws.{ReadingIsExact}
use Rattle.brep_file.specs.Sound.{IsSound, Limits, reps_in}
use Rattle.brep_file.specs.Spelling.{spell_file}
use Rattle.brep_file.proofs.Basics.{some_is}
use Rattle.brep_file.proofs.OneFile.{one_file}
use Rattle.brep_file.proofs.SoundAgain.{IsCounted, fits_from}
use Rattle.brep_file.proofs.TextLaws.{AreShort, again, short_again, short_joined, takes, texts_begin}

-- the words' tokens begin with the file's spelling
begun_by : (ws : List Word) (f : File) (ys : List (List ℕ)) → texts_of ws ≡ spell_file f ++ ys → AreShort ys → IsSound f
    → (rest : List Token) × Begins (short_front ws) (spell_file f) rest
begun_by ws f ys texts few sound =
    let short = short_again ws (subst AreShort (sym texts) (short_joined (spell_file f) ys sound.tokens few)) in
    let split = texts_begin (short_front ws) (spell_file f) ys (short.1 ∙ texts) in
    (split.0, split.1)

spelled_by : (ws : List Word) (f : File) → IsSpelling (texts_of ws) f → IsSound f
    → (rest : List Token) × Begins (short_front ws) (spell_file f) rest
spelled_by ws f (inl e) sound = begun_by ws f [] (e ∙ sym (append-nil (spell_file f))) tt sound
spelled_by ws f (inr e) sound = begun_by ws f (codes "0" ∷ []) e (omega arith, tt) sound

abbrev told : ℕ → List Word → ℕ × List Word
told version ws = (version, ws)

abbrev uses_in : File → ℕ
uses_in f = length (flat_map (λ r. r.uses) f.records)

abbrev entries_in : File → ℕ
entries_in f = length f.locations
    + (length f.curve2s + (length f.curves
    + (length f.polygons + (length f.polygons_on + (length f.surfaces + length f.meshes)))))

module _ (scans : ScannerGivesTokens) (forms : FormsAreExact) (fields : FieldsAreExact) (names : SignsAndNamesTell)
    (locations : SectionsAreExact) (curves : CurvesAreExact) (meshes : MeshesAreExact) (surfaces : SurfacesAreExact)
    (heads : HeadsAreExact) (tell : HeadsTell) where
  -- within limits that are wide enough for both
  one_of_tokens : (f g : File) (ts rest other : List Token) → f.version ≡ g.version → IsSound f → IsSound g
      → Begins ts (spell_file f) rest → Begins ts (spell_file g) other → f ≡ g
  one_of_tokens f g ts rest other version sound_f sound_g begins_f begins_g =
      let limits : Limits = record {
        entries = entries_in f + entries_in g;
        records = length f.records + length g.records;
        uses = uses_in f + uses_in g;
      } in
      let reps = reps_in f.records + reps_in g.records in
      let counted_f : IsCounted reps limits f = record {
        locations = omega arith;
        curve2s = omega arith;
        curves = omega arith;
        polygons = omega arith;
        polygons_on = omega arith;
        surfaces = omega arith;
        meshes = omega arith;
        records = omega arith;
        uses = omega arith;
        reps = omega arith;
      } in
      let counted_g : IsCounted reps limits g = record {
        locations = omega arith;
        curve2s = omega arith;
        curves = omega arith;
        polygons = omega arith;
        polygons_on = omega arith;
        surfaces = omega arith;
        meshes = omega arith;
        records = omega arith;
        uses = omega arith;
        reps = omega arith;
      } in
      one_file forms fields names locations curves meshes surfaces tell limits reps f g ts rest other version
      (fits_from names f sound_f reps limits counted_f) (fits_from names g sound_g reps limits counted_g)
      begins_f begins_g

  one : (bytes : List ℕ) (f g : File) → Spells bytes f → Spells bytes g → f ≡ g
  one bytes f g of_f of_g =
      let ws = of_f.tokens.0 in
      let both : told f.version ws ≡ told g.version of_g.tokens.0 = some_is (sym of_f.tokens.1 ∙ of_g.tokens.1) in
      let version : f.version ≡ g.version = ap (λ (p : ℕ × List Word). p.0) both in
      let words : ws ≡ of_g.tokens.0 = ap (λ (p : ℕ × List Word). p.1) both in
      let spelled_f = spelled_by ws f of_f.tokens.2 of_f.sound in
      let spelled_g = spelled_by ws g (subst (λ (us : List Word). IsSpelling (texts_of us) g)
      (sym words) of_g.tokens.2) of_g.sound in
      one_of_tokens f g (short_front ws) spelled_f.0 spelled_g.0 version of_f.sound of_g.sound spelled_f.1 spelled_g.1

  pub reading_is_exact : ReadingIsExact
  reading_is_exact = record {
    takes = takes scans forms fields names locations curves meshes surfaces heads;
    again = again scans forms fields names locations curves meshes surfaces heads;
    one = one;
    one_of_tokens = one_of_tokens;
  }
