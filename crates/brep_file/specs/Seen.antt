-- What is known of a record that was read.
use Rattle.std.specs.Prelude.{ℕ}
use Rattle.orientation.specs.declared.kind.Kind.{Kind}

-- what later records need to know of it: its kind, and the depth of its tree
pub record Seen : Type 0 where
  pub kind : Kind
  pub depth : ℕ
