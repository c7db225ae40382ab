-- The test of two lists of pairs tells whether they are one.
use Rattle.std.specs.Prelude.{◌≡◌, true, List, nat_eq}
use Rattle.std.specs.Bool.{Decides}
use Rattle.std.specs.Cmp.{signed_Decides, first_so, second_so}
use Rattle.std.specs.Cmp.Lexicographic.{pointwise_decides}
use Rattle.std.specs.Ordering.{int_eq}
use Rattle.std.proofs.Common.{refl, subst, eqb-true, eq-eqb}
use Rattle.location_words.specs.declared.pair.Pair.{Pair}
use Rattle.location_words.specs.Pairs.{pair_eq, pairs_eq}

pair-itself : (p : Pair) → pair_eq p p ≡ true
pair-itself p = rw (eq-eqb p.datum p.datum refl) ((signed_Decides p.power p.power).1 refl)

pub pair_decides : (p q : Pair) → Decides (pair_eq p q) (p ≡ q)
pair_decides p q = (
  λ h.
      let datum = eqb-true p.datum q.datum (first_so (nat_eq p.datum q.datum) (int_eq p.power q.power) h) in
      let power = (signed_Decides p.power q.power).0 (second_so (nat_eq p.datum q.datum) (int_eq p.power q.power) h) in
      λ i. record { datum = datum i; power = power i },
  λ e. subst (λ r. pair_eq p r ≡ true) e (pair-itself p),
)

pub pairs_decide : (a b : List Pair) → Decides (pairs_eq a b) (a ≡ b)
pairs_decide = pointwise_decides pair_decides
