-- The laws of turns and kinds.
use Rattle.std.specs.Prelude.{◌≡◌, ◌↔◌, IsTrue, Some}
use Rattle.orientation.specs.declared.turn.Turn.{Turn}
use Rattle.orientation.specs.declared.turn.Turn.TheVariants.{Forward, Reversed, Internal, External}
use Rattle.orientation.specs.declared.kind.Kind.{Kind}
use Rattle.orientation.specs.Turns.{composed, sign_of, turn_of, turn_eq}
use Rattle.orientation.specs.Kinds.{name_of, kind_of_name, kind_eq}

-- composition is associative, forward is its identity, internal and external are its left zeros, and reversing twice is
-- no change
pub record TurnsCompose : Type 0 where
  pub associative : (a b c : Turn) → composed a (composed b c) ≡ composed (composed a b) c
  pub forward_outer : (t : Turn) → composed Forward t ≡ t
  pub forward_inner : (t : Turn) → composed t Forward ≡ t
  pub internal_left_zero : (t : Turn) → composed Internal t ≡ Internal
  pub external_left_zero : (t : Turn) → composed External t ≡ External
  pub reversed_twice : (t : Turn) → composed Reversed (composed Reversed t) ≡ t

-- a sign gives its turn back, a name its kind, and the two tests tell equality
pub record SignsAndNamesTell : Type 0 where
  pub signs : (t : Turn) → turn_of (sign_of t) ≡ Some t
  pub names : (k : Kind) → kind_of_name (name_of k) ≡ Some k
  pub turns : (a b : Turn) → IsTrue (turn_eq a b) ↔ (a ≡ b)
  pub kinds : (a b : Kind) → IsTrue (kind_eq a b) ↔ (a ≡ b)
