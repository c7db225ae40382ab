-- The parts of texts.
use Rattle.std.proofs.Common.{◌≡◌, refl, ap, ◌∙◌, append_assoc, append-nil, sym}
use Rattle.std.specs.Prelude.{ℕ, List, [], ◌∷◌, ◌++◌, codes, length}
use Rattle.std.specs.List.{flat_map, join_with_byte}
use Rattle.std.specs.Fmt.{decimal}
use Rattle.std.proofs.lemmas.Grind.{flat_map-append}
use Rattle.brep_tokens.specs.Tokens.{version_line}
use Rattle.brep_tokens.specs.Written.{line_text, lines_text}
use Rattle.orientation.specs.Turns.{sign_of}
use Rattle.brep_file.specs.declared.uses.FileUse.{FileUse}
use Rattle.brep_file.specs.declared.records.Record.{Record}
use Rattle.brep_file.specs.declared.file.File.{File}
use Rattle.brep_file.specs.Spelling.{spell_use}
use Rattle.tshape_data.specs.Lines.{head_lines}
use Rattle.written_layout.specs.Layout.{heading, layout, location_lines, record_lines, shape_lines, spaced_use}
use Rattle.written_layout.specs.Layout.{table_lines, text_before_records}
use Rattle.written_layout.specs.Laws.{TextsHaveParts}

use_before : (sign : ℕ) (number location rest others end : List ℕ) → rest ++ 10 ∷ [] ≡ others ++ end →
    (sign ∷ (number ++ 32 ∷ (location ++ 32 ∷ rest))) ++ 10 ∷ []
    ≡ ((((sign ∷ number) ++ 32 ∷ location) ++ 32 ∷ []) ++ others) ++ end
use_before sign number location rest others end h =
    simp append_assoc (ap (λ t. sign ∷ (number ++ 32 ∷ (location ++ 32 ∷ t))) h)

-- the uses of a record, each with a space after it, before the `*`
uses_text : (us : List FileUse)
    → line_text (flat_map spell_use us ++ codes "*" ∷ []) ≡ flat_map spaced_use us ++ codes "*\n"
uses_text [] = refl
uses_text (u ∷ []) =
    use_before (sign_of u.turn) (decimal u.number) (decimal u.location) (42 ∷ []) [] (42 ∷ 10 ∷ []) refl
uses_text (u ∷ v ∷ us) =
    use_before (sign_of u.turn) (decimal u.number) (decimal u.location)
    (join_with_byte 32 (flat_map spell_use (v ∷ us) ++ codes "*" ∷ []))
    (flat_map spaced_use (v ∷ us)) (codes "*\n") (uses_text (v ∷ us))

record-text : (version : ℕ) (r : Record) → lines_text (record_lines version r)
    ≡ lines_text (head_lines version r.head) ++ (flat_map spaced_use r.uses ++ codes "*\n")
record-text version r =
    flat_map-append line_text (head_lines version r.head) ((flat_map spell_use r.uses ++ codes "*" ∷ []) ∷ [])
    ∙ ap (λ t. lines_text (head_lines version r.head) ++ t)
    (append-nil (line_text (flat_map spell_use r.uses ++ codes "*" ∷ [])) ∙ uses_text r.uses)

records-text : (version : ℕ) (rs : List Record) → lines_text (flat_map (record_lines version) rs)
    ≡ flat_map (λ (r : Record). lines_text (record_lines version r)) rs
records-text version [] = refl
records-text version (r ∷ rs) =
    flat_map-append line_text (record_lines version r) (flat_map (record_lines version) rs)
    ∙ ap (λ t. lines_text (record_lines version r) ++ t) (records-text version rs)

shapes-text : (f : File) → lines_text (shape_lines f)
    ≡ line_text (heading (codes "TShapes") (length f.records))
    ++ (flat_map (λ (r : Record). lines_text (record_lines f.version r)) f.records ++ line_text (spell_use f.root))
shapes-text f =
    ap (λ t. line_text (heading (codes "TShapes") (length f.records)) ++ t)
    (flat_map-append line_text (flat_map (record_lines f.version) f.records) (spell_use f.root ∷ [])
    ∙ (λ i. records-text f.version f.records i ++ append-nil (line_text (spell_use f.root)) i))

parted : (a b c d : List ℕ) → a ++ 10 ∷ ((b ++ c) ++ d) ≡ (((a ++ 10 ∷ []) ++ b) ++ c) ++ d
parted a b c d = simp append_assoc

layout-text : (f : File) → layout f
    ≡ text_before_records f.version f f.locations
    ++ (line_text (heading (codes "TShapes") (length f.records))
    ++ (flat_map (λ (r : Record). lines_text (record_lines f.version r)) f.records ++ line_text (spell_use f.root)))
layout-text f =
    ap (λ t. version_line f.version ++ 10 ∷ t)
    (flat_map-append line_text (location_lines f.locations ++ table_lines f) (shape_lines f)
    ∙ ap (λ t. t ++ lines_text (shape_lines f))
    (flat_map-append line_text (location_lines f.locations) (table_lines f)))
    ∙ parted (version_line f.version) (lines_text (location_lines f.locations)) (lines_text (table_lines f))
    (lines_text (shape_lines f))
    ∙ ap (λ t. text_before_records f.version f f.locations ++ t) (shapes-text f)

pub texts-have_parts : TextsHaveParts
texts-have_parts = record { record_text = record-text; layout_text = layout-text }
