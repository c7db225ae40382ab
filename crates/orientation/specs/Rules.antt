-- The rule of a step: its stop kind and its prune mark.
use Rattle.std.specs.Prelude.{Bool, false, nat_lt}
use Rattle.orientation.specs.declared.kind.Kind.{Kind}
use Rattle.orientation.specs.declared.kind.Kind.TheVariants.{Ve}
use Rattle.orientation.specs.declared.rule.Rule.{Rule}
use Rattle.orientation.specs.Kinds.{rank_of}

-- the rule where none is set: only vertices stop, and nothing is pruned
abbrev pub usual : Rule
usual = record { stop = Ve; prune = false }

-- whether the second kind is higher than the first
abbrev pub is_above : Kind → Kind → Bool
is_above low high = nat_lt (rank_of low) (rank_of high)
