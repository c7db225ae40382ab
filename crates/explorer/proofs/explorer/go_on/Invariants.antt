-- What was entered so far is passed by.
use Rattle.std.proofs.Common.{◌≡◌, ℕ, Option}
use Rattle.std.specs.List.{filter}
use Rattle.orientation.specs.declared.kind.Kind.{Kind}
use Rattle.explorer.specs.Walks.{is_wanted}
use Rattle.shape_pool.specs.Rows.{HaveKinds}
use Rattle.explorer.specs.Going.{entered_at_all, first_of}
use Rattle.explorer.specs.Levels.{coming_of, is_marked_place, AreMarks, IsOnItsWay}
use Rattle.explorer.proofs.WayLemmas.{weight}
use Rattle.explorer.proofs.explorer.go_on.Given as goal

abbrev pub invariant-loop-one : goal.invariant-loop-one
invariant-loop-one l = record {
  way : IsOnItsWay l.words l.pool l.marks l.start l.trail;
  first : (kind : ℕ → Kind) → HaveKinds l.pool kind → (avoid : Option Kind) → AreMarks l.pool l.find avoid l.marks →
      first_of (is_wanted kind l.find)
      (entered_at_all l.words l.pool kind l.find avoid (coming_of l.pool l.initial.start l.initial.trail.levels)) ≡
      first_of (is_wanted kind l.find)
      (entered_at_all l.words l.pool kind l.find avoid (coming_of l.pool l.start l.trail.levels));
}

abbrev pub decreases-loop-one : goal.decreases-loop-one
decreases-loop-one l =
    weight l.words l.pool (filter (is_marked_place l.marks) (coming_of l.pool l.start l.trail.levels))
