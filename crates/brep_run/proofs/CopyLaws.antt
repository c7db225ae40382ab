-- A copy that is done spells one file, which stands for the expansion of the file that was read and shares what is
-- equal.
use Rattle.std.proofs.Common.{inl, ◌≡◌, ℕ, length, List, Some, map, refl, sym, ap, subst, ◌∙◌}
use Rattle.std.proofs.lemmas.List.{length-map}
use Rattle.brep_desk.specs.Shown.{Shown, Tells}
use Rattle.expansion_laws.specs.Trees.{Tree, Use, origin}
use Rattle.expansion_laws.specs.Expansion.{IsNumberOf, tree_of_number}
use Rattle.expansion_laws.specs.Sharing.{with_origins}
use Rattle.expansion_laws.specs.Walk.{RecordsAreTrees}
use Rattle.expansion_laws.specs.Written.{flat, origins_of}
use Rattle.brep_file.specs.declared.file.File.{File}
use Rattle.brep_file.specs.PlainRecords.{plain_records, plain_use, expansion_of}
use Rattle.brep_file.specs.Sound.{IsSound}
use Rattle.brep_file.specs.Reads.{Spells}
use Rattle.brep_run.specs.Copy.{IsDue, OutWritten}
use Rattle.brep_run.specs.Rewrite.{HoldsFile}
use Rattle.brep_run.specs.Runs.{IsCopiedRoot, WrittenExpands, WrittenShares}
use Rattle.brep_writer.specs.Copies.{IsTextFor, TextsStandForRoots}
use Rattle.brep_run.specs.Copies.{SharesEqualTrees}

some-same : {A : Type 0} (x y : A) → Some x ≡ Some y → x ≡ y
some-same x y e = cc

module _ (stand : TextsStandForRoots) (t : Tells) (old new : Shown) (source target : List ℕ) where
  pub copy-expands : ((text : List ℕ) × IsDue t old source text × OutWritten t old new target text)
      → WrittenExpands t new target (IsCopiedRoot old source)
  copy-expands done text held written is =
      let read = done.1 held in
      let f : File = read.1 in
      let same : done.0 ≡ text = some-same _ _ (sym ((done.2.written written).here) ∙ is) in
      let whole : IsTextFor f (expansion_of f) f.version done.0 =
      subst (λ x. IsTextFor f (expansion_of f) f.version x) (sym read.3.written)
      (stand.texts f (expansion_of f) f.version read.3.reads.spells.sound (inl refl)
      (stand.copies f read.3.reads.spells.sound)) in
      let file : HoldsFile old source f = record { bytes = read.0; holds = read.2; reads = read.3.reads } in (
        f,
        expansion_of f,
        f.version,
        (file, refl, refl),
        subst (λ x. IsTextFor f (expansion_of f) f.version x) same whole,
      )

-- two occurrences in a file whose records are trees apart
module _ (g : File) (root : Use) (are : RecordsAreTrees (plain_records g))
    (in_file : IsNumberOf (length (plain_records g)) g.root.number)
    (apart : (j k : ℕ) → IsNumberOf (length (plain_records g)) j → IsNumberOf (length (plain_records g)) k →
    with_origins (origins_of (flat root.tree)) (tree_of_number (plain_records g) j)
    ≡ with_origins (origins_of (flat root.tree)) (tree_of_number (plain_records g) k) → j ≡ k) where
  pub equal_trees_share : SharesEqualTrees root g
  equal_trees_share x y of_x of_y =
      let x_is = are.below g.root.number x in_file of_x in
      let y_is = are.below g.root.number y in_file of_y in
      let relabel : Tree → Tree = with_origins (origins_of (flat root.tree)) in (
        (λ same. ap relabel (x_is.1 ∙ ap (λ k. tree_of_number (plain_records g) k) same ∙ sym y_is.1)),
        (λ same. apart (origin x) (origin y) x_is.0 y_is.0 (ap relabel (sym x_is.1) ∙ same ∙ ap relabel y_is.1)),
      )

module _ (are : (g : File) → IsSound g → RecordsAreTrees (plain_records g)) where
  pub shared_in : (f : File) (root : Use) (version : ℕ) (g : File) (text : List ℕ) → IsTextFor f root version text
      → Spells text g
      → SharesEqualTrees root g
  shared_in f root version g text whole spells =
      let first = whole.spelled in
      let shared : SharesEqualTrees root first.0 =
      equal_trees_share first.0 root (are first.0 first.1.sound)
      (subst (λ n. IsNumberOf n first.0.root.number)
      (sym (length-map first.0.records (λ r. map (plain_use first.0.locations) r.uses))) first.1.sound.root)
      first.2.shared.apart in
      subst (λ h. SharesEqualTrees root h) (whole.one first.0 g first.1 spells) shared

  -- where the written text stands for a root, what is equal in the root is shared in the file
  pub expands-shares : (t : Tells) (new : Shown) (target : List ℕ) (IsRoot : File → Use → ℕ → Type 0)
      → WrittenExpands t new target IsRoot → WrittenShares t new target IsRoot
  expands-shares t new target IsRoot expands text g held written is spells =
      let made = expands text held written is in
      (made.0, made.1, made.2, made.3, shared_in made.0 made.1 made.2 g text made.4 spells)
