-- In each pool the origins have kinds that agree with the nodes'.
use Rattle.std.proofs.Common.{◌≡◌, ◌<◌, refl, arith, ℕ, zero, suc, List, [], ◌∷◌, length, nat_eq, eq-eqb}
use Rattle.std.proofs.lemmas.Bool.{eqb-true}
use Rattle.lists.proofs.Cases.{by_test}
use Rattle.shape_pool.specs.Rows.{Row, kind_at, origin_at, HaveKinds}
use Rattle.explorer.specs.Going.{kind_in, KindsAreThere}

first-kind : (rows : List Row) → ((i j : ℕ) → i < length rows → j < length rows → origin_at rows i ≡ origin_at rows j →
    kind_at rows i ≡ kind_at rows j) → HaveKinds rows (kind_in rows)
first-kind [] same i lt = absurd (omega (arith, lt))
first-kind (r ∷ rows) same zero lt = rw (eq-eqb r.origin r.origin refl) refl
first-kind (r ∷ rows) same (suc i) lt =
    by_test (nat_eq r.origin (origin_at rows i))
    (λ e. rw e (same zero (suc i) (omega (arith, lt)) lt (eqb-true r.origin (origin_at rows i) e)))
    (λ e. rw e (first-kind rows
    (λ a b la lb. same (suc a) (suc b) (omega (arith, la)) (omega (arith, lb))) i (omega (arith, lt))))

pub kinds_are_there : KindsAreThere
kinds_are_there rows sound = (kind_in rows, first-kind rows sound.kinds_of_trees.one_kind)
