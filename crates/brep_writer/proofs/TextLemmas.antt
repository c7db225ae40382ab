-- The text that is written for a root is a text for it.
use Rattle.std.specs.Prelude.{List}
use Rattle.expansion_laws.specs.Trees.{Use}
use Rattle.expansion_laws.specs.Expansion.{NumberedUse, IsFile}
use Rattle.expansion_laws.specs.Written.{flat, numbered, records_of, IsWritten}
use Rattle.expansion_laws.specs.Fewest.{NoFileHasFewer}
use Rattle.expansion_laws.specs.Walk.{RecordsAreTrees}
use Rattle.brep_file.specs.declared.file.File.{File}
use Rattle.brep_file.specs.PlainRecords.{plain_records, expansion_of, plain_root}
use Rattle.brep_file.specs.Sound.{IsSound}
use Rattle.brep_file.specs.ReadingLaws.{ReadingIsExact}
use Rattle.brep_writer.specs.OwnVersion.{written_file, text_of}
use Rattle.brep_writer.specs.Copies.{CanBeWritten, IsTextFor, TextsStandForRoots}
use Rattle.location_table.specs.Laws.{PlacesHaveWords, WrittenIsHeld}
use Rattle.tshape_data.specs.Laws.{RenumberingKeepsParts}
use Rattle.written_heads.specs.Named.{LocationsStay}
use Rattle.written_layout.specs.Laws.{LayoutsSpell}
use Rattle.brep_writer.proofs.WritingLaws.{WritingLaws}
use Rattle.brep_writer.proofs.WrittenSound.{written-sound}
use Rattle.brep_writer.proofs.Standing.{written-stands}
use Rattle.brep_writer.proofs.CopyLemmas.{expansion-writable}
use Rattle.brep_writer.proofs.VersionedFiles.{text-in}

module _
    (roots_are_written : (root : Use) → IsWritten root (flat root.tree))
    (records_are_trees : (records : List (List NumberedUse)) (root : NumberedUse) → IsFile records root
    → RecordsAreTrees records)
    (files_have_trees : (f : File) → IsSound f → IsFile (plain_records f) (plain_root f))
    (fewest : (root : Use) → NoFileHasFewer root)
    (layouts_spell : LayoutsSpell)
    (reading_is_exact : ReadingIsExact)
    (held : WrittenIsHeld)
    (places : PlacesHaveWords)
    (renumbering : RenumberingKeepsParts)
    (laws : WritingLaws)
    (stay : LocationsStay)
  where
    text-for : (f : File) (root : Use) → IsSound f → CanBeWritten f root
        → IsTextFor f root f.version (text_of f root)
    text-for f root sound can =
        let written = roots_are_written root in
        record {
          spelled = (
            written_file f root,
            layouts_spell (written_file f root)
                (written-sound f root can written sound renumbering places laws held),
            written-stands f root can written (records_are_trees (records_of (flat root.tree))
                (numbered (flat root.tree) root) written.file) sound renumbering places laws held,
          );
          one = reading_is_exact.one (text_of f root);
        }

    pub texts-stand : TextsStandForRoots
    texts-stand = record {
      texts = text-in stay text-for;
      copies =
          λ f sound. expansion-writable f sound (records_are_trees (plain_records f) (plain_root f)
          (files_have_trees f sound)) renumbering places laws (roots_are_written (expansion_of f))
          (files_have_trees f sound) (fewest (expansion_of f));
    }
