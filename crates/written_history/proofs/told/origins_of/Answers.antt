-- The origin of the node that is so far from the last.
use Rattle.std.proofs.Common.{arith, subst, sym, ap, length, ◌-◌, ◌<◌, ◌≡◌, ◌^◌, ◌∙◌, ◌++◌, ◌∷◌, []}
use Rattle.std.proofs.lemmas.List.{length-map}
use Rattle.std.proofs.lemmas.Option.{slice_get-get_or}
use Rattle.written_history.proofs.NumberLaws.{any_id, held-at, none-small-numbers, origin-next, small-more}
use Rattle.written_history.proofs.told.origins_of.Goals as goal

pub origin-requires : goal.origin-requires
origin-requires c =
    let ids = c.ids-ids.result.now in
    let many : length ids ≡ length c.args.order.now.numbers =
    sym (length-map ids (λ i. i.0)) ∙ ap length c.ids-ids.ensures in
    let end = c.len-place-end.ensures in let lt = c.loop-place-test.true in
    held-at c.args.pool.now c.args.order.now.numbers ids _ _ c.ids-ids.ensures c.requires
    (slice_get-get_or ids (length ids - c.loop-place.place - 1) any_id (omega (arith, many, end, lt)))

pub loop-place-init : goal.loop-place-init
loop-place-init c = (c.new-origins.ensures, none-small-numbers c.new-origins.result c.new-origins.ensures)

pub loop-place-preserved : goal.loop-place-preserved
loop-place-preserved c =
    let ids = c.ids-ids.result.now in
    let order = c.args.order.now.numbers in
    let many : length ids ≡ length order = sym (length-map ids (λ i. i.0)) ∙ ap length c.ids-ids.ensures in
    let end = c.len-place-end.ensures in let lt = c.loop-place-test.true in
    let own : c.from.result ≡ c.origin.result = c.from.ensures in
    let small = c.origin.type_inv in (
      origin-next c.args.pool.now order ids c.loop-place.place _ c.loop-place.origins c.push.new.self c.ids-ids.ensures
          (omega (arith, end, lt))
          (slice_get-get_or ids (length ids - c.loop-place.place - 1) any_id (omega (arith, many, end, lt)))
          c.loop-place.invariant.0
          (c.in_ok-push.ensures.ok ∙ ap (λ k. c.loop-place.origins ++ k ∷ []) (own ∙ c.origin.ensures)),
      small-more c.loop-place.origins c.push.new.self c.from.result c.in_ok-push.ensures.ok
          (subst (λ n. n < 2 ^ 32) (sym own) small) c.loop-place.invariant.1,
    )
