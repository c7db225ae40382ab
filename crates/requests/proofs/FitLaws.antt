-- Whether a target fits a source, by numbers.
use Rattle.std.proofs.Common.{◌≡◌, ◌<◌, ◌↔◌, ℕ, Bool, true, false, List, All, length, arith, ap, inl, inr, refl}
use Rattle.std.specs.Prelude.{IsTrue, not}
use Rattle.orientation.specs.Kinds.{rank_of}
use Rattle.shape_pool.specs.Rows.{Row, kind_at}
use Rattle.shape_pool.specs.Laws.{ids_used}
use Rattle.requests.specs.Numbered.{FitsAt}

pub fit-is : (rows : List Row) (i j : ℕ) (b : Bool) → rank_of (kind_at rows i) < rank_of (kind_at rows j) →
    0 < length (ids_used rows j) →
    (IsTrue b ↔ All (λ k. kind_at rows k ≡ kind_at rows i) (ids_used rows j)) → IsTrue b ↔ FitsAt rows i j
fit-is rows i j b higher some of = (
  λ t. inr (higher, some, of.0 t),
  λ f. elim f [ inl e ↦ let k = ap rank_of e in absurd (omega (arith, higher, k)) | inr h ↦ of.1 h.2 ],
)

pub not-false : (b : Bool) → not b ≡ false → b ≡ true
not-false true e = refl
not-false false e = absurd cc
