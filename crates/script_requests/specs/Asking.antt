-- What the commands of a script ask of the step that isn't finished.
use Rattle.std.specs.Prelude.{◌≡◌, ℕ, List, [], ◌∷◌, ◌++◌, All, map}
use Rattle.std.specs.Option.{option_map}
use Rattle.orientation.specs.declared.kind.Kind.TheVariants.{Ed}
use Rattle.orientation.specs.declared.turn.Turn.TheVariants.{Forward}
use Rattle.location_table.specs.Words.{word_of_place}
use Rattle.expansion_laws.specs.Trees.{Tree, Use, a_single}
use Rattle.expansion_laws.specs.Ends.{HaveEqualEnds}
use Rattle.expansion_laws.specs.Graph.{FitsBy}
use Rattle.expansion_laws.specs.Requests.{Act, Request, remove, replace}
use Rattle.sewing.specs.AsTrees.{TurnedTree, asked_of_trees}
use Rattle.script_text.specs.declared.command.Command.{Command}
use Rattle.script_text.specs.declared.command.Command.TheVariants.{Replace, Remove, Merge, Sew, Apply, Undo}
use Rattle.script_text.specs.declared.command.Command.TheVariants.{Until, Prune, OutputFirst}
use Rattle.script_text.specs.declared.command.Sel.{Sel}
use Rattle.script_text.specs.declared.command.SignedName.{SignedName}
use Rattle.script_text.specs.declared.command.Tgt.{Tgt}
use Rattle.step_history.specs.Composition.{Done}
use Rattle.brep_file.specs.declared.file.File.{File}
use Rattle.script_requests.specs.Names.{AreTreesOf, IsTreeOf}
use Rattle.script_requests.specs.Kinds.{kind_of}

-- ---- what a line selects, and what it puts in place
abbrev pub request_for : File → Sel → Act → Tree → Request
request_for f sel act x =
    record { source = x; place = option_map (word_of_place f.locations) sel.place; turn = sel.turn; act = act }

abbrev pub target_use : File → Tgt → Tree → Use
target_use f t x = a_single t.turn (word_of_place f.locations t.location) x

-- ---- lists of names: the first one stays
abbrev pub under_no_sign : List ℕ → List SignedName
under_no_sign names = map (λ k. record { name = k; turn = Forward }) names

abbrev pub under : SignedName → List Tree → List TurnedTree
under n xs = map (λ x. record { turn = n.turn; tree = x }) xs

module _ (f : File) (ds : List Done) where
  -- the trees of the names, those of one name after those of the names before it
  abbrev pub AreMembersOf : List SignedName → List TurnedTree → Type 0
  AreMembersOf [] members = members ≡ []
  AreMembersOf (n ∷ ns) members =
      (xs : List Tree) × (rest : List TurnedTree) × AreTreesOf f ds n.name xs × AreMembersOf ns rest ×
      (members ≡ under n xs ++ rest)

  -- a tree can take the place of one that is merged, or sewn
  abbrev pub CanMerge : Tree → TurnedTree → Type 0
  CanMerge first m = kind_of f m.tree ≡ kind_of f first

  abbrev pub IsEdge : Tree → Type 0
  IsEdge x = kind_of f x ≡ Ed

  abbrev pub CanSew : Tree → TurnedTree → Type 0
  CanSew first m = IsEdge m.tree × HaveEqualEnds first m.turn m.tree

  -- that the trees of further names be replaced by that of the first
  abbrev pub AsksToJoin : (Tree → TurnedTree → Type 0) → ℕ → List SignedName → List Request → Type 0
  AsksToJoin CanJoin name further asked =
      (first : Tree) × (members : List TurnedTree) × IsTreeOf f ds name first × AreMembersOf further members ×
      All (CanJoin first) members × (asked ≡ asked_of_trees first members)

  -- the requests that a command adds: one for each tree for which the name stands that it selects
  abbrev pub Asks : Command → List Request → Type 0
  Asks (Replace sel tgt) asked =
      (target : Tree) × (xs : List Tree) × IsTreeOf f ds tgt.name target × AreTreesOf f ds sel.name xs ×
      All (λ x. FitsBy (kind_of f) x target) xs ×
      (asked ≡ map (request_for f sel (replace (target_use f tgt target))) xs)
  Asks (Remove sel) asked =
      (xs : List Tree) × AreTreesOf f ds sel.name xs × (asked ≡ map (request_for f sel remove) xs)
  Asks (Merge []) asked = ⊥
  Asks (Merge (name ∷ names)) asked = AsksToJoin CanMerge name (under_no_sign names) asked
  Asks (Sew []) asked = ⊥
  Asks (Sew (n ∷ ns)) asked =
      ((first : Tree) → IsTreeOf f ds n.name first → IsEdge first) × AsksToJoin CanSew n.name ns asked
  Asks Apply asked = ⊥
  Asks Undo asked = ⊥
  Asks (Until kind) asked = ⊥
  Asks Prune asked = ⊥
  Asks OutputFirst asked = ⊥
