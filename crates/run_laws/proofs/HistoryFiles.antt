-- Of histories that tell the same, between a file and one root, there is one history file.
use Rattle.std.proofs.Common.{◌≡◌, ◌∙◌, ◌+◌, ◌-◌, sym, ap, subst, arith}
use Rattle.std.specs.Prelude.{◌<◌, ℕ, zero, suc, List, [], ◌∷◌, Contains, length, reverse, slice_get, unwrap_or}
use Rattle.std.proofs.lemmas.List.{length-map, length-reverse}
use Rattle.lists.proofs.Places.{at_place}
use Rattle.expansion_laws.specs.Expansion.{NumberedUse, IsNumberOf, trees_from}
use Rattle.expansion_laws.specs.Trees.{Tree, Use, origin, tree_of}
use Rattle.expansion_laws.specs.Written.{IsWritten, flat, number_in}
use Rattle.history_text.specs.declared.file.HistoryFile.{HistoryFile}
use Rattle.step_history.specs.Composition.{TellTheSame}
use Rattle.step_history.specs.History.{History, modified}
use Rattle.brep_file.specs.declared.file.File.{File}
use Rattle.brep_file.specs.PlainRecords.{plain_records, tree_of_record}
use Rattle.session.specs.States.{State, root_of, history_of}
use Rattle.written_history.specs.Numbered.{TellsSteps}
use Rattle.written_history.specs.Told.{AreNumbersOf, ArePairsOf, TellsHistory, tree_written}
use Rattle.run_laws.proofs.SortedLists.{one-number-list, one-pair-list}

-- each root is written as records that expand to it
abbrev pub RootsAreWritten : Type 0
RootsAreWritten = (root : Use) → IsWritten root (flat root.tree)

-- ---- the number of a record's tree
origin-at : (records : List (List NumberedUse)) (first i : ℕ) → i < length records →
    origin (unwrap_or (slice_get (trees_from first records) i) (tree_of 0 [])) ≡ first + i
origin-at [] first i lt = absurd (omega arith)
origin-at (us ∷ rest) first zero lt = omega arith
origin-at (us ∷ rest) first (suc i) lt =
    let e = origin-at rest (suc first) i (omega arith) in
    let g : suc first + i ≡ first + suc i = omega arith in e ∙ g

tree-origin : (f : File) (k : ℕ) → IsNumberOf (length f.records) k → origin (tree_of_record f k) ≡ k
tree-origin f k (low, high) =
    let lt : k - 1 < length (reverse (plain_records f)) = simp (length-reverse, length-map) (omega arith) in
    let g : 1 + (k - 1) ≡ k = omega arith in origin-at (reverse (plain_records f)) 1 (k - 1) lt ∙ g

-- ---- the number of a tree that is written
number-of : RootsAreWritten → (root : Use) (k : ℕ) → IsNumberOf (length (flat root.tree)) k →
    number_in (flat root.tree) (tree_written root k) ≡ k
number-of written root k (low, high) =
    let at = at_place (flat root.tree) (length (flat root.tree) - k) (omega arith) in
    ap (λ o. number_in (flat root.tree) (unwrap_or o (tree_of 0 []))) at.1 ∙
    (written root).lists.once k at.0 (low, high) at.1

module _ (f : File) (written : RootsAreWritten) (root : Use) where
  pairs-over : (R S : Tree → Tree → Type 0) → ((t s : Tree) → R t s → S t s) → (ps qs : List (ℕ × ℕ)) →
      ArePairsOf f root R ps → ArePairsOf f root S qs → (p : ℕ × ℕ) → Contains ps p → Contains qs p
  pairs-over R S go ps qs of_ps of_qs p m =
      let w = of_qs.all (tree_of_record f p.0) (tree_written root p.1) (go _ _ (of_ps.each p m)) in
      let own = of_ps.in_range p m in
      let other = of_qs.in_range w.0 w.1 in
      let first = sym (tree-origin f w.0.0 other.0) ∙ ap origin w.2 ∙ tree-origin f p.0 own.0 in
      let second =
      sym (number-of written root w.0.1 other.1) ∙ ap (number_in (flat root.tree)) w.3 ∙
      number-of written root p.1 own.1 in subst (λ (q : ℕ × ℕ). Contains qs q) (λ i. (first i, second i)) w.1

  numbers-over : (P Q : Tree → Type 0) → ((t : Tree) → P t → Q t) → (ks ls : List ℕ) → AreNumbersOf f P ks →
      AreNumbersOf f Q ls → (k : ℕ) → Contains ks k → Contains ls k
  numbers-over P Q go ks ls of_ks of_ls k m =
      let w = of_ls.all (tree_of_record f k) (go _ (of_ks.each k m)) in
      let first =
      sym (tree-origin f w.0 (of_ls.in_range w.0 w.1)) ∙ ap origin w.2 ∙ tree-origin f k (of_ks.in_range k m) in
      subst (λ n. Contains ls n) first w.1

  files-one : (a b : History) → TellTheSame a b → (h k : HistoryFile) → TellsHistory f root a h →
      TellsHistory f root b k → h ≡ k
  files-one a b same h k p q =
      let changed : (t s : Tree) → modified a t s → modified b t s = λ t s m. ((same.images t s).0 m.0, m.1) in
      let changed_back : (t s : Tree) → modified b t s → modified a t s = λ t s m. ((same.images t s).1 m.0, m.1) in
      let mods = one-pair-list h.modified k.modified p.ascends.modified.ascend q.ascends.modified.ascend
      (pairs-over (modified a) (modified b) changed h.modified k.modified p.modified_are q.modified_are)
      (pairs-over (modified b) (modified a) changed_back k.modified h.modified q.modified_are p.modified_are) in
      let gens = one-pair-list h.generated k.generated p.ascends.generated.ascend q.ascends.generated.ascend
      (pairs-over a.generated b.generated (λ t s m. (same.generated t s).0 m) h.generated k.generated p.generated_are
      q.generated_are)
      (pairs-over b.generated a.generated (λ t s m. (same.generated t s).1 m) k.generated h.generated q.generated_are
      p.generated_are) in
      let gone = one-number-list h.removed k.removed p.ascends.ascend q.ascends.ascend
      (numbers-over a.removed b.removed (λ t m. (same.removed t).0 m) h.removed k.removed p.removed_are q.removed_are)
      (numbers-over b.removed a.removed (λ t m. (same.removed t).1 m) k.removed h.removed q.removed_are p.removed_are)
      in
      λ i.
      record {
        origins = (p.origins ∙ sym q.origins) i;
        modified = mods i;
        generated = gens i;
        removed = gone i;
      }

pub one-file : (f : File) → RootsAreWritten → (a b : State) → root_of f a ≡ root_of f b →
    TellTheSame (history_of f a) (history_of f b) → (h k : HistoryFile) → TellsSteps f a.steps h →
    TellsSteps f b.steps k → h ≡ k
one-file f written a b root same h k p q =
    files-one f written (root_of f a) (history_of f a) (history_of f b) same h k p
    (subst (λ u. TellsHistory f u (history_of f b) k) (sym root) q)
