-- The innermost level of a trail.
use Rattle.std.proofs.Common.{◌≡◌, ◌∙◌, ◌-◌, ap, sym, subst}
use Rattle.std.proofs.Common.{arith, suc, List, [], ◌∷◌, ◌++◌, map, length}
use Rattle.std.proofs.Common.{Some, slice_get}
use Rattle.std.proofs.lemmas.List.{map-append}
use Rattle.std.proofs.lemmas.List.Sums.{fold-append}
use Rattle.std.proofs.lemmas.Option.{same_Some}
use Rattle.explorer.specs.declared.trail.Level.{Level}
use Rattle.explorer.specs.Levels.{Entered, innermost}
use Rattle.explorer.specs.Trails.{entered_of, here_of, IsInnermost}
use Rattle.expansion_laws.specs.Contexts.{Context, at_root}

pub split-last : {X : Type 0} (xs : List X) (x : X) → slice_get xs (length xs - 1) ≡ Some x →
    (before : List X) × (xs ≡ before ++ x ∷ [])
split-last [] x e = absurd cc
split-last (y ∷ []) x e = ([], ap (λ z. z ∷ []) (same_Some y x e))
split-last (y ∷ z ∷ xs) x e =
    let n : length (y ∷ z ∷ xs) - 1 ≡ suc (length (z ∷ xs) - 1) = omega arith in
    let r = split-last (z ∷ xs) x (subst (λ k. slice_get (y ∷ z ∷ xs) k ≡ Some x) n e) in
    (y ∷ r.0, ap (λ l. y ∷ l) r.1)

pub innermost-last : (before : List Entered) (e : Entered) → innermost (before ++ e ∷ []) ≡ e.here
innermost-last before e = fold-append (λ (c : Context) (e : Entered). e.here) at_root before (e ∷ [])

pub is-innermost : (levels : List Level) (l : Level) → slice_get levels (length levels - 1) ≡ Some l →
    IsInnermost (map entered_of levels) l.id l.at
is-innermost levels l e =
    let r = split-last levels l e in
    let parts : map entered_of levels ≡ map entered_of r.0 ++ entered_of l ∷ [] =
    ap (map entered_of) r.1 ∙ map-append entered_of r.0 (l ∷ []) in
    let inner : innermost (map entered_of levels) ≡ here_of l =
    ap innermost parts ∙ innermost-last (map entered_of r.0) (entered_of l) in (
      map entered_of r.0,
      parts ∙
          ap (λ (c : Context). map entered_of r.0 ++ (record { id = l.id; at = l.at; here = c }) ∷ []) (sym inner),
    )
