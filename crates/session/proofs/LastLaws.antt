-- The root and the history that the steps have left, by the last of the versions.
use Rattle.std.proofs.Common.{◌≡◌, List, [], ◌∷◌}
use Rattle.location_words.specs.declared.pair.Pair.{Pair}
use Rattle.expansion_laws.specs.Keeping.{IsWordOf}
use Rattle.shape_pool.specs.declared.node.UseOf.{UseOf}
use Rattle.shape_pool.specs.Laws.{word_in}
use Rattle.shape_pool.specs.Rows.{Row}
use Rattle.step_history.specs.declared.history.StepHistory.{StepHistory}
use Rattle.step_history.specs.Composition.{Done, history_after, root_after}
use Rattle.step_history.specs.Numbered.{IsHeld, Tells, tree_by}
use Rattle.brep_file.specs.declared.file.File.{File}
use Rattle.brep_file.specs.PlainRecords.{expansion_of}
use Rattle.file_loading.specs.Loading.{use_in}
use Rattle.script_requests.specs.declared.version.Version.{Version}
use Rattle.script_requests.specs.Kinds.{kind_of}
use Rattle.script_requests.specs.Named.{last_history, last_root}
use Rattle.session.specs.Standing.{AreVersions, IsDatumOf, IsUseHeld}

module _ (f : File) (words : List (List Pair)) (rows : List Row) where
  pub last-held : (first : UseOf) → IsUseHeld words rows first → (vs : List Version) (ds : List Done) →
      AreVersions f words rows vs ds → IsUseHeld words rows (last_root first vs)
  last-held first held [] [] h = held
  last-held first held [] (d ∷ ds) h = absurd h
  last-held first held (v ∷ vs) [] h = absurd h
  last-held first held (v ∷ vs) (d ∷ ds) h = h.0.held

  pub last-is : (first : UseOf) → use_in words rows first ≡ expansion_of f → (vs : List Version) (ds : List Done) →
      AreVersions f words rows vs ds → use_in words rows (last_root first vs) ≡ root_after (expansion_of f) ds
  last-is first is [] [] h = is
  last-is first is [] (d ∷ ds) h = absurd h
  last-is first is (v ∷ vs) [] h = absurd h
  last-is first is (v ∷ vs) (d ∷ ds) h = h.0.root

  pub last-word : IsWordOf (IsDatumOf f) (expansion_of f).word → (vs : List Version) (ds : List Done) →
      AreVersions f words rows vs ds → IsWordOf (IsDatumOf f) (root_after (expansion_of f) ds).word
  last-word first [] [] h = first
  last-word first [] (d ∷ ds) h = absurd h
  last-word first (v ∷ vs) [] h = absurd h
  last-word first (v ∷ vs) (d ∷ ds) h = h.0.word

  pub last-history-held : (start : StepHistory) → IsHeld rows start → (vs : List Version) (ds : List Done) →
      AreVersions f words rows vs ds → IsHeld rows (last_history start vs)
  last-history-held start held [] [] h = held
  last-history-held start held [] (d ∷ ds) h = absurd h
  last-history-held start held (v ∷ vs) [] h = absurd h
  last-history-held start held (v ∷ vs) (d ∷ ds) h = h.0.told

  pub last-tells : (start : StepHistory) →
      Tells (tree_by (word_in words) rows) start (history_after (kind_of f) (expansion_of f) []) →
      (vs : List Version) (ds : List Done) → AreVersions f words rows vs ds →
      Tells (tree_by (word_in words) rows) (last_history start vs) (history_after (kind_of f) (expansion_of f) ds)
  last-tells start tells [] [] h = tells
  last-tells start tells [] (d ∷ ds) h = absurd h
  last-tells start tells (v ∷ vs) [] h = absurd h
  last-tells start tells (v ∷ vs) (d ∷ ds) h = h.0.history
