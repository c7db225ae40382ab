-- The list at the place of the number.
use Rattle.std.proofs.Common.{◌≡◌, ◌∙◌, sym, ap, arith, nat_eq}
use Rattle.requests.specs.Indexed.{list_at, place_of}
use Rattle.requests.proofs.LiveLaws.{position-some, position-none, list_at-is}
use Rattle.requests.proofs.live.live_of.Goals as goal

pub returns-in-Some : goal.returns-in-Some
returns-in-Some c =
    let place : c.in-Some.place ≡ place_of c.args.sources.now.keys c.args.id =
    position-some (nat_eq c.args.id) c.args.sources.now.keys c.in-Some.place (sym c.in-Some.ensures.index) in
    c.as_slice.ensures.value ∙
    sym (list_at-is c.args.live.now c.in-Some.place c.index-live-place.result
    (omega (arith, c.in-Some.ensures.within, c.requires.long)) c.index-live-place.is) ∙
    ap (list_at c.args.live.now) place

pub returns-in-None : goal.returns-in-None
returns-in-None c =
    sym (c.requires.empty (place_of c.args.sources.now.keys c.args.id)
    (position-none (nat_eq c.args.id) c.args.sources.now.keys (sym c.in-None.ensures.index)))
