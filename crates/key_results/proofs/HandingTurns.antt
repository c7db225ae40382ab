-- What a pool has after a node is handed in.
use Rattle.std.proofs.Common.{◌≡◌, ◌≤◌, ◌<◌, ℕ, List, ◌∷◌, [], length, arith, sym, ap, subst, inl, inr}
use Rattle.std.proofs.lemmas.List.{length-append}
use Rattle.orientation.specs.declared.kind.Kind.{Kind}
use Rattle.shape_pool.specs.declared.node.UseOf.{UseOf}
use Rattle.shape_pool.specs.Rows.{Row, a_row}
use Rattle.shape_pool.specs.Calls.{IsHandedIn}
use Rattle.key_results.specs.Grown.{Extends}
use Rattle.key_results.proofs.GrownTurns.{extends-none}

module _ (old : List Row) (k : Kind) (o : ℕ) (us : List UseOf) (new : List Row) (i : ℕ)
    (h : IsHandedIn old k o us new i) where
  pub handed-extends : Extends old new
  handed-extends = elim h [
    | inl s ↦ subst (Extends old) (sym s.0) (extends-none old)
    | inr s ↦ (a_row k o us ∷ [], s.1)
  ]

  pub handed-more : (j : ℕ) → length old ≤ j → j < length new → j ≡ i
  handed-more j a b = elim h [
    | inl s ↦ (let e = ap length s.0 in absurd (omega (arith, a, b, e)))
    | inr s ↦ (let e = ap length s.1 in let f = length-append old (a_row k o us ∷ []) in let g = s.2 in
        omega (arith, a, b, e, f, g))
  ]
