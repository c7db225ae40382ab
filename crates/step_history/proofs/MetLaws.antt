-- A set of numbers as a list of them.
use Rattle.std.proofs.Common.{◌≡◌, ◌∙◌, ap, inl, inr, nat_eq}
use Rattle.std.specs.Prelude.{ℕ, true, List, [], ◌∷◌, ◌++◌, Contains, if◌then◌else◌}
use Rattle.std.specs.List.{list_any}
use Rattle.std.proofs.lemmas.Bool.{eqb-true}
use Rattle.std.proofs.lemmas.Cmp.{nat_eq_equiv}
use Rattle.indexmap.specs.IndexSet.{insert_key}
use Rattle.indexmap.proofs.CallerLemmas.{Contains-list_any}
use Rattle.lists.proofs.Cases.{by_test}
use Rattle.lists.proofs.Tests.{list_any-contains}
use Rattle.step_history.specs.Gathering.{IsNoted}

pub found-met : (met : List ℕ) (k : ℕ) → list_any (nat_eq k) met ≡ true → Contains met k
found-met met k h = Contains-list_any nat_eq eqb-true met k h

pub met-found : (met : List ℕ) (k : ℕ) → Contains met k → list_any (nat_eq k) met ≡ true
met-found met k m = list_any-contains (nat_eq k) k met m (nat_eq_equiv.refl k)

pub noted : (old new : List ℕ) (k : ℕ) → new ≡ insert_key nat_eq old k → IsNoted old k new
noted old new k e = by_test (list_any (nat_eq k) old)
    (λ t. inl (found-met old k t, e ∙ ap (λ b. if b then old else old ++ k ∷ []) t))
    (λ f. inr (e ∙ ap (λ b. if b then old else old ++ k ∷ []) f))
