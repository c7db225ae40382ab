-- Lists that have the same things in whatever order, and lists that have none.
use Rattle.std.specs.Prelude.{Bool, true, false, Option, None, Some, List, [], ◌∷◌, if◌then◌else◌}
use Rattle.std.specs.Option.{option_map}

abbrev pub is_empty : {X : Type 0} → List X → Bool
is_empty [] = true
is_empty (x ∷ xs) = false

-- whether there is something, and it passes the test
abbrev pub is_some_and : {X : Type 0} → (X → Bool) → Option X → Bool
is_some_and test None = false
is_some_and test (Some x) = test x

module _ {X : Type 0} (eq : X → X → Bool) where
  -- the list without the first thing that is this one, where it has one
  abbrev pub taken_out : X → List X → Option (List X)
  taken_out u [] = None
  taken_out u (v ∷ vs) = if eq u v then Some vs else option_map (λ rest. v ∷ rest) (taken_out u vs)

  -- whether the second list has the things of the first one, with repeats and in whatever order
  abbrev pub same_things : List X → List X → Bool
  same_things [] [] = true
  same_things [] (v ∷ vs) = false
  same_things (u ∷ us) vs = is_some_and (λ rest. same_things us rest) (taken_out u vs)
