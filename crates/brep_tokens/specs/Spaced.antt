-- Texts that are kept in one run of bytes, each after a space.
use Rattle.std.specs.Prelude.{◌≡◌, ℕ, ◌==◌, if◌then◌else◌, List, [], ◌∷◌, length}
use Rattle.std.specs.List.{flat_map}

-- the bytes before the first space
abbrev pub front : List ℕ → List ℕ
front [] = []
front (b ∷ bs) = if b == 32 then [] else b ∷ front bs

-- what follows each space, up to the next
abbrev pub texts : List ℕ → List (List ℕ)
texts [] = []
texts (b ∷ bs) = if b == 32 then front bs ∷ texts bs else texts bs

-- the texts, each after a space
abbrev pub spaced : List (List ℕ) → List ℕ
spaced xs = flat_map (λ x. 32 ∷ x) xs

-- nothing stands before the first space, and so many spaces there are
pub record IsSpaced (run : List ℕ) (count : ℕ) : Type 0 where
  pub begins : front run ≡ []
  pub many : length (texts run) ≡ count
