-- The list of the request's source is exchanged, and the others stay.
use Rattle.std.proofs.Common.{◌≡◌, ◌∙◌, ◌<◌, ℕ, List, sym, ap, subst, arith, length, nat_eq, slice_set}
use Rattle.std.proofs.lemmas.Bool.{eqb-true}
use Rattle.requests.specs.declared.request.Request.{Request}
use Rattle.requests.specs.Numbered.{with_live}
use Rattle.requests.specs.Indexed.{list_at, listed_at, place_of}
use Rattle.lists.proofs.Cases.{by_test}
use Rattle.requests.proofs.LiveLaws.{noted-as, list_at-is, nat_eq-apart, on_ok, on_err, place-le, IsNoted}
use Rattle.requests.proofs.live.note.Goals as goal

pub returns-clause-spared : goal.returns-clause-spared
returns-clause-spared c =
    let room : length c.args.sources.now.keys < length c.make_room.new.live.items =
    omega (arith, c.in_ok-make_room.ensures.room, c.len.ensures.len) in
    let n : IsNoted c.args.sources.now.keys c.insert_full.new.self.keys c.args.live.now.items _ c.args.r.source.0 _ =
    noted-as c.args.sources.now.keys c.insert_full.new.self.keys c.args.live.now.items c.make_room.new.live.items
    c.args.r.source.0 c.in_ok-place.place
    c.append.new.live c.requires.spared room c.in_ok-place.ensures.keys c.in_ok-place.ensures.index
    c.make_room.ensures.same in
    n.spared

pub returns-clause-source : goal.returns-clause-source
returns-clause-source c =
    let room : length c.args.sources.now.keys < length c.make_room.new.live.items =
    omega (arith, c.in_ok-make_room.ensures.room, c.len.ensures.len) in
    let place : c.in_ok-place.place ≡ place_of c.args.sources.now.keys c.args.r.source.0 =
    c.in_ok-place.ensures.index in
    let n = noted-as c.args.sources.now.keys c.insert_full.new.self.keys c.args.live.now.items
    c.make_room.new.live.items c.args.r.source.0 c.in_ok-place.place
    c.append.new.live c.requires.spared room c.in_ok-place.ensures.keys place c.make_room.ensures.same in
    let le = place-le c.args.sources.now.keys c.args.r.source.0 in
    let was : list_at c.make_room.new.live.items c.in_ok-place.place ≡ c.index_mut.result.now.items =
    list_at-is c.make_room.new.live.items c.in_ok-place.place c.index_mut.result.now (omega (arith, room, le, place))
    c.index_mut.ensures.value in
    let old : c.index_mut.result.now.items ≡ listed_at c.args.sources.now.keys c.args.live.now.items c.args.r.source.0 =
    sym was ∙ c.make_room.ensures.same c.in_ok-place.place ∙ ap (list_at c.args.live.now.items) place in
    on_ok c.append.result (λ e. n.own ∙ e ∙ ap (λ (l : List Request). with_live l c.args.r) old) c.append.ensures.ok

pub returns-clause-others : goal.returns-clause-others
returns-clause-others c =
    let room : length c.args.sources.now.keys < length c.make_room.new.live.items =
    omega (arith, c.in_ok-make_room.ensures.room, c.len.ensures.len) in
    let n = noted-as c.args.sources.now.keys c.insert_full.new.self.keys c.args.live.now.items
    c.make_room.new.live.items c.args.r.source.0 c.in_ok-place.place
    c.append.new.live c.requires.spared room c.in_ok-place.ensures.keys c.in_ok-place.ensures.index
    c.make_room.ensures.same in
    n.others

pub returns-clause-err : goal.returns-clause-err
returns-clause-err c =
    let room : length c.args.sources.now.keys < length c.make_room.new.live.items =
    omega (arith, c.in_ok-make_room.ensures.room, c.len.ensures.len) in
    let place : c.in_ok-place.place ≡ place_of c.args.sources.now.keys c.args.r.source.0 =
    c.in_ok-place.ensures.index in
    let n = noted-as c.args.sources.now.keys c.insert_full.new.self.keys c.args.live.now.items
    c.make_room.new.live.items c.args.r.source.0 c.in_ok-place.place
    c.append.new.live c.requires.spared room c.in_ok-place.ensures.keys place c.make_room.ensures.same in
    let le = place-le c.args.sources.now.keys c.args.r.source.0 in
    let was : list_at c.make_room.new.live.items c.in_ok-place.place ≡ c.index_mut.result.now.items =
    list_at-is c.make_room.new.live.items c.in_ok-place.place c.index_mut.result.now (omega (arith, room, le, place))
    c.index_mut.ensures.value in
    let old : c.index_mut.result.now.items ≡ listed_at c.args.sources.now.keys c.args.live.now.items c.args.r.source.0 =
    sym was ∙ c.make_room.ensures.same c.in_ok-place.place ∙ ap (list_at c.args.live.now.items) place in
    on_err c.append.result (λ e i. by_test (nat_eq i c.args.r.source.0)
    (λ t.
    subst
    (λ (j : ℕ). listed_at c.insert_full.new.self.keys
    (slice_set c.make_room.new.live.items c.in_ok-place.place c.append.new.live) j ≡
    listed_at c.args.sources.now.keys c.args.live.now.items j) (sym (eqb-true i c.args.r.source.0 t))
    (n.own ∙ e ∙ old))
    (λ f. n.others i (nat_eq-apart i c.args.r.source.0 f))) c.append.ensures.err
