-- The text of the copy of a file that is read has fewer bytes than 2 ^ 64.
use Rattle.std.proofs.Common.{◌≤◌, ap, arith, inl, inr}
use Rattle.std.specs.Prelude.{List, [], ◌∷◌, length, codes}
use Rattle.std.proofs.lemmas.List.{length-append, length-map}
use Rattle.brep_tokens.specs.Tokens.{Word}
use Rattle.location_table.specs.Laws.{PlacesHaveWords, WrittenIsHeld}
use Rattle.expansion_laws.specs.Trees.{Use}
use Rattle.expansion_laws.specs.Expansion.{NumberedUse, IsFile}
use Rattle.expansion_laws.specs.Fewest.{NoFileHasFewer}
use Rattle.expansion_laws.specs.Walk.{RecordsAreTrees}
use Rattle.expansion_laws.specs.Written.{flat, IsWritten}
use Rattle.tshape_data.specs.Laws.{LinesAreExact, RenumberingKeepsParts}
use Rattle.brep_file.specs.declared.file.File.{File}
use Rattle.brep_file.specs.PlainRecords.{expansion_of, plain_records, plain_root}
use Rattle.brep_file.specs.Sound.{IsSound}
use Rattle.brep_file.specs.Spelling.{spell_file}
use Rattle.brep_writer.specs.Copies.{CopiesAreCountable, IsOfFewBytes}
use Rattle.brep_writer.specs.OwnVersion.{written_file}
use Rattle.brep_writer.proofs.CopyLemmas.{expansion-writable, flat-few, locations-few, uses-few}
use Rattle.brep_writer.proofs.LayoutSizes.{layout-size}
use Rattle.brep_writer.proofs.TextCounts.{IsSmallFile, IsSmallRoot, made-lines, made-tokens}
use Rattle.brep_writer.proofs.TokenCounts.{tokens-count}
use Rattle.brep_writer.proofs.WritingLaws.{WritingLaws}
use Rattle.brep_writer.proofs.WrittenSound.{over-further, written-sound}

file-tokens : (f : File) → IsOfFewBytes f → length (spell_file f) ≤ 134217728
file-tokens f read =
    let tokens = read.1.spells.tokens in let count = tokens-count read.0 f.version tokens.0 tokens.1 in
    let size = length-map tokens.0 (λ (w : Word). w.text) in let few = read.2 in
    elim tokens.2 [
      | inl same ↦ (let long = ap length same in omega (arith, count, size, few, long))
      | inr same ↦ (let long = ap length same in let both = length-append (spell_file f) (codes "0" ∷ []) in
          omega (arith, count, size, few, long, both))
    ]

module _
    (roots_are_written : (root : Use) → IsWritten root (flat root.tree))
    (records_are_trees : (records : List (List NumberedUse)) (root : NumberedUse) → IsFile records root
    → RecordsAreTrees records)
    (files_have_trees : (f : File) → IsSound f → IsFile (plain_records f) (plain_root f))
    (fewest : (root : Use) → NoFileHasFewer root)
    (lines : LinesAreExact)
    (held : WrittenIsHeld)
    (places : PlacesHaveWords)
    (renumbering : RenumberingKeepsParts)
    (laws : WritingLaws)
  where
    pub copies-countable : CopiesAreCountable
    copies-countable f read =
        let root : Use = expansion_of f in let sound = read.1.spells.sound in let within = read.1.small in
        let file = files_have_trees f sound in
        let walk = records_are_trees (plain_records f) (plain_root f) file in
        let written = roots_are_written root in
        let can = expansion-writable f sound walk renumbering places laws written file (fewest root) in
        let small : IsSmallFile f = record { tokens = file-tokens f read; within = within } in
        let few_records = within.records in let few_uses = within.uses in let few_entries = within.locations in
        let few_root : IsSmallRoot f root =
        record {
          trees = (let few = flat-few f sound walk file (fewest root) in omega (arith, few, few_records));
          uses =
              λ x m. (let few = uses-few f sound walk x (written.lists.stand x m) in omega (arith, few, few_uses));
          locations =
              (let few = locations-few f sound walk renumbering places laws written in
              omega (arith, few, few_entries));
        } in
        let over = over-further f root can written sound renumbering places laws in
        let size = layout-size lines (written_file f root)
        (written-sound f root can written sound renumbering places laws held) in
        let few_tokens = made-tokens renumbering f small root few_root over in
        let few_lines = made-lines renumbering f small root few_root over in
        omega (arith, size, few_tokens, few_lines)
