-- Words that are written with a space after each, before the last one of their line.
use Rattle.std.specs.Prelude.{ℕ, List, [], ◌∷◌, ◌++◌}
use Rattle.std.specs.List.{flat_map}

abbrev pub spaced : List (List ℕ) → List ℕ
spaced words = flat_map (λ (word : List ℕ). word ++ 32 ∷ []) words
