-- The first limit that is passed is told.
use Rattle.std.proofs.Common.{◌≡◌, to_z, of_z, w64, subst, sym, ◌∙◌}
use Rattle.std.specs.Prelude.{nat_abs}
use Rattle.std.proofs.lemmas.Int.{to_z-of_z}
use Rattle.location_table.specs.Limits.{most_factors}
use Rattle.location_table.specs.Stops.{IsDueStop}
use Rattle.location_table.proofs.Limited.{many, few, limit_small, stops}
use Rattle.location_table.proofs.limits.factor_at.Goals as goal

pub returns-then-many_factors-clause-refused : goal.returns-then-many_factors-clause-refused
returns-then-many_factors-clause-refused c =
    let p : to_z w64 (of_z w64 c.args.p) ≡ c.args.p = to_z-of_z w64 c.args.p c.ranges.p in
    let many_p = sym c.many_factors.ensures ∙ c.if-many_factors.true in (
      record { value = nat_abs c.args.p; limit = most_factors },
      many c.args.so_far.now c.args.v.now c.args.p
          (rw p at many_p),
      rw (c.fault_at.ensures, c.unsigned_abs-size.ensures.value, p)
          (limit_small c.args.t.now (nat_abs c.args.p) most_factors
          (rw (c.unsigned_abs-size.ensures.value, p) at c.unsigned_abs-size.type_inv)),
    )

pub returns-in-Err-clause-refused : goal.returns-in-Err-clause-refused
returns-in-Err-clause-refused c =
    let p : to_z w64 (of_z w64 c.args.p) ≡ c.args.p = to_z-of_z w64 c.args.p c.ranges.p in
    let few_p = sym c.many_factors.ensures ∙ c.if-many_factors.false in
    subst (λ d. IsDueStop c.args.t.now d c.stop.result)
    (sym (few c.args.so_far.now c.args.v.now c.args.p (rw p at few_p)))
    (rw c.stop.ensures (stops c.args.t.now _ c.in-Err.fault (rw p at c.in-Err.ensures.refused)))
