-- The laws of turns.
use Rattle.std.proofs.Common.{◌≡◌, refl}
use Rattle.orientation.specs.declared.turn.Turn.{Turn}
use Rattle.orientation.specs.declared.turn.Turn.TheVariants.{Forward, Reversed, Internal, External}
use Rattle.orientation.specs.Turns.{composed}
use Rattle.orientation.specs.Laws.{TurnsCompose}

pub composed_assoc : (a b c : Turn) → composed a (composed b c) ≡ composed (composed a b) c
composed_assoc Forward b c = refl
composed_assoc Internal b c = refl
composed_assoc External b c = refl
composed_assoc Reversed Forward c = refl
composed_assoc Reversed Internal c = refl
composed_assoc Reversed External c = refl
composed_assoc Reversed Reversed Forward = refl
composed_assoc Reversed Reversed Reversed = refl
composed_assoc Reversed Reversed Internal = refl
composed_assoc Reversed Reversed External = refl

pub composed-forward : (t : Turn) → composed t Forward ≡ t
composed-forward Forward = refl
composed-forward Reversed = refl
composed-forward Internal = refl
composed-forward External = refl

pub reversed-reversed : (t : Turn) → composed Reversed (composed Reversed t) ≡ t
reversed-reversed Forward = refl
reversed-reversed Reversed = refl
reversed-reversed Internal = refl
reversed-reversed External = refl

pub turns_compose : TurnsCompose
turns_compose = record {
  associative = composed_assoc;
  forward_outer = λ t. refl;
  forward_inner = composed-forward;
  internal_left_zero = λ t. refl;
  external_left_zero = λ t. refl;
  reversed_twice = reversed-reversed;
}
