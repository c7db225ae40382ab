-- The laws of the layout.
use Rattle.std.specs.Prelude.{◌≡◌, ℕ, ◌++◌, codes, length}
use Rattle.std.specs.List.{flat_map}
use Rattle.brep_tokens.specs.Written.{line_text, lines_text}
use Rattle.tshape_data.specs.Lines.{head_lines}
use Rattle.brep_file.specs.declared.records.Record.{Record}
use Rattle.brep_file.specs.declared.file.File.{File}
use Rattle.brep_file.specs.Reads.{Spells}
use Rattle.brep_file.specs.Sound.{IsSound}
use Rattle.brep_file.specs.Spelling.{spell_use}
use Rattle.written_layout.specs.Layout.{heading, layout, record_lines, spaced_use, text_before_records}

-- The layout of a sound file spells it.
abbrev pub LayoutsSpell : Type 0
LayoutsSpell = (f : File) → IsSound f → Spells (layout f) f

-- A record's lines are those of its head, and one with its uses, each with a space after it, and `*`. A layout is what
-- comes before the records, their heading, their lines, and the line of the root use.
pub record TextsHaveParts : Type 0 where
  pub record_text : (version : ℕ) (r : Record) → lines_text (record_lines version r)
      ≡ lines_text (head_lines version r.head) ++ (flat_map spaced_use r.uses ++ codes "*\n")
  pub layout_text : (f : File) → layout f
      ≡ text_before_records f.version f f.locations
      ++ (line_text (heading (codes "TShapes") (length f.records))
      ++ (flat_map (λ (r : Record). lines_text (record_lines f.version r)) f.records ++ line_text (spell_use f.root)))
