-- The next number, and the next text with its number.
use Rattle.std.proofs.Common.{◌≡◌, ℕ, ◌+◌, List, [], ◌∷◌, length, map, drop, Some, refl, ap, arith}
use Rattle.std.specs.List.{slice_get}
use Rattle.std.specs.Fmt.{decimal}
use Rattle.lists.proofs.Iterators.{next_item}
use Rattle.entry_readers.specs.Begins.{zipped}
use Rattle.entry_readers.specs.Spelled.{AreShort, IsShort, count_then}

pub next_number : (ns : List ℕ) (i n : ℕ) → slice_get ns i ≡ Some n
    → map decimal (drop i ns) ≡ decimal n ∷ map decimal (drop (i + 1) ns)
next_number ns i n e = ap (λ ms. map decimal ms) (next_item ns i n e)

pub first_short : (xs rest : List (List ℕ)) (x : List ℕ) → xs ≡ x ∷ rest → AreShort xs → IsShort x × AreShort rest
first_short xs rest x e short = rw e at short

pub text_step : (ns : List ℕ) (x : List ℕ) (xs rest : List (List ℕ)) → xs ≡ x ∷ rest → length xs ≡ length ns
    → zipped xs ns ≡ x ∷ count_then xs ns
text_step [] x xs rest is even = absurd (omega (arith, ap length is, even))
text_step (n ∷ ns) x xs rest is even = rw is refl

module _ (ns : List ℕ) (x : List ℕ) (xs rest : List (List ℕ)) (is : xs ≡ x ∷ rest) where
  pub half_step : (i n : ℕ) → slice_get ns i ≡ Some n
      → count_then xs (drop i ns) ≡ decimal n ∷ zipped rest (drop (i + 1) ns)
  half_step i n e = rw (is, next_item ns i n e) refl

  pub even_after : (i n : ℕ) → slice_get ns i ≡ Some n → length xs ≡ length (drop i ns)
      → length rest ≡ length (drop (i + 1) ns)
  even_after i n e even = omega (arith, ap length is, ap length (next_item ns i n e), even)
