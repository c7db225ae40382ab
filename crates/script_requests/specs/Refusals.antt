-- Why a command that asks something is refused.
use Rattle.std.specs.Prelude.{◌≡◌, ◌≢◌, ◌⊎◌, ℕ, List, [], ◌∷◌, ◌++◌, All}
use Rattle.lists.specs.Distinct.{Counts}
use Rattle.expansion_laws.specs.Ends.{HaveEqualEnds}
use Rattle.expansion_laws.specs.Trees.{Tree}
use Rattle.expansion_laws.specs.Graph.{FitsBy}
use Rattle.sewing.specs.AsTrees.{TurnedTree}
use Rattle.script_text.specs.declared.command.Command.{Command}
use Rattle.script_text.specs.declared.command.Command.TheVariants as commands
use Rattle.script_text.specs.declared.command.SignedName.{SignedName}
use Rattle.step_history.specs.Composition.{Done}
use Rattle.brep_file.specs.declared.file.File.{File}
use Rattle.script_requests.specs.declared.fault.ScriptCode.{ScriptCode}
use Rattle.script_requests.specs.declared.fault.ScriptCode.TheVariants.{KindMismatch, ManyImages, EndsDiffer}
use Rattle.script_requests.specs.declared.fault.ScriptFault.{ScriptFault}
use Rattle.script_requests.specs.Asking.{CanMerge, CanSew, IsEdge, under_no_sign}
use Rattle.script_requests.specs.Kinds.{kind_of}
use Rattle.script_requests.specs.Names.{StandsFor, IsTreeOf}

-- a fault of a line by its code and two numbers
abbrev pub told : ℕ → ScriptCode → ℕ → ℕ → ScriptFault
told line code first second = record { line = line; code = code; first = first; second = second }

module _ (f : File) (ds : List Done) where
  -- of further names this is the first of which a tree isn't right; and one of its trees is amiss
  abbrev pub AllRight : (TurnedTree → Type 0) → SignedName → Type 0
  AllRight IsRight n = (x : Tree) → StandsFor f ds n.name x → IsRight (record { turn = n.turn; tree = x })

  pub record IsFirstAmiss (IsRight Amiss : TurnedTree → Type 0) (further : List SignedName) (n : SignedName)
      : Type 0 where
    pub before : List SignedName
    pub after : List SignedName
    pub stands : further ≡ before ++ n ∷ after
    pub right : All (AllRight IsRight) before
    pub tree : Tree
    pub of_name : StandsFor f ds n.name tree
    pub amiss : Amiss (record { turn = n.turn; tree = tree })

  -- ---- commands that ask, in the line with a number
  module _ (line : ℕ) where
    -- a name that should stand for one tree stands for so many
    abbrev pub IsOfMany : ℕ → ScriptFault → Type 0
    IsOfMany name fault =
        (n : ℕ) × Counts (StandsFor f ds name) n × (n ≢ 1) × (fault ≡ told line ManyImages name n)

    -- a target doesn't fit a tree that is to be replaced
    abbrev pub IsMisfit : ℕ → ℕ → ScriptFault → Type 0
    IsMisfit source target fault =
        (y : Tree) × (x : Tree) × IsTreeOf f ds target y × StandsFor f ds source x × (FitsBy (kind_of f) x y → ⊥) ×
        (fault ≡ told line KindMismatch source target)

    -- a further name of a merge has a tree of another kind than the first name's
    abbrev pub IsOtherKind : ℕ → List SignedName → ScriptFault → Type 0
    IsOtherKind name further fault =
        (first : Tree) × (n : SignedName) × IsTreeOf f ds name first ×
        IsFirstAmiss (CanMerge f ds first) (λ m. kind_of f m.tree ≢ kind_of f first) further n ×
        (fault ≡ told line KindMismatch name n.name)

    -- a further name of a sewing has a tree that is no edge, or else one with other ends
    abbrev pub IsNoEdge : ℕ → List SignedName → ScriptFault → Type 0
    IsNoEdge name further fault =
        (first : Tree) × (n : SignedName) × IsTreeOf f ds name first × IsEdge f ds first ×
        IsFirstAmiss (CanSew f ds first) (λ m. IsEdge f ds m.tree → ⊥) further n ×
        (fault ≡ told line KindMismatch name n.name)

    abbrev pub HasOtherEnds : ℕ → List SignedName → ScriptFault → Type 0
    HasOtherEnds name further fault =
        (first : Tree) × (n : SignedName) × IsTreeOf f ds name first × IsEdge f ds first ×
        AllRight (λ m. IsEdge f ds m.tree) n ×
        IsFirstAmiss (CanSew f ds first) (λ m. HaveEqualEnds first m.turn m.tree → ⊥) further n ×
        (fault ≡ told line EndsDiffer name n.name)

    -- the first name of a sewing is no edge
    abbrev pub FirstIsNoEdge : ℕ → ScriptFault → Type 0
    FirstIsNoEdge name fault =
        (first : Tree) × IsTreeOf f ds name first × (IsEdge f ds first → ⊥) × (fault ≡ told line KindMismatch name name)

    -- what is amiss with a command that asks
    abbrev pub IsAmiss : Command → ScriptFault → Type 0
    IsAmiss (commands.Replace sel tgt) fault = IsOfMany tgt.name fault ⊎ IsMisfit sel.name tgt.name fault
    IsAmiss (commands.Remove sel) fault = ⊥
    IsAmiss (commands.Merge []) fault = ⊥
    IsAmiss (commands.Merge (name ∷ names)) fault =
        IsOfMany name fault ⊎ IsOtherKind name (under_no_sign names) fault
    IsAmiss (commands.Sew []) fault = ⊥
    IsAmiss (commands.Sew (n ∷ ns)) fault =
        IsOfMany n.name fault ⊎
        (FirstIsNoEdge n.name fault ⊎ (IsNoEdge n.name ns fault ⊎ HasOtherEnds n.name ns fault))
    IsAmiss commands.Apply fault = ⊥
    IsAmiss commands.Undo fault = ⊥
    IsAmiss (commands.Until kind) fault = ⊥
    IsAmiss commands.Prune fault = ⊥
    IsAmiss commands.OutputFirst fault = ⊥
