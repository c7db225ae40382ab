-- One link more.
use Rattle.std.proofs.Common.{arith, ◌<◌, ap, length, map, slice_index_or}
use Rattle.std.proofs.lemmas.Result.{err_from_is_err_and}
use Rattle.key_results.specs.declared.derive.Link.{Link}
use Rattle.key_results.specs.Parts.{use_of_part, is_own_at}
use Rattle.key_results.proofs.WordLaws.{reads-old, grows-on, grows-none}
use Rattle.key_results.proofs.LinkTurns.{no_link, mover-wider, at-item, read-at}
use Rattle.key_results.proofs.LinkTurns.{key-placed, key-before, key-own, key-owners}
use Rattle.key_results.proofs.LinkTurns.{joined-turn, due-link-turn, joined-all}
use Rattle.key_results.proofs.parts.joined.Goals as goal

pub loop-link-init : goal.loop-link-init
loop-link-init c = (
  λ word own r. ap (map (use_of_part word own)) c.new-parts.ensures.items,
  λ k d lt. let n = ap length c.new-parts.ensures.items in absurd (omega (arith, lt, n)),
  grows-none c.args.words.now c.len.ensures.table,
  λ k d lt. let n = ap length c.new-parts.ensures.items in absurd (omega (arith, lt, n)),
)

pub bounds-earlier-link : goal.bounds-earlier-link
bounds-earlier-link c =
    at-item (λ (l : Link). l.key < length c.args.earlier.now) c.as_slice-link-items.result.now
    c.args.visit.now.links.items c.loop-link.link-index no_link
    c.as_slice-link-items.ensures.value c.loop-link-test.true c.requires.linked

pub add_results-requires-clause-mover : goal.add_results-requires-clause-mover
add_results-requires-clause-mover c =
    mover-wider (length c.args.words.now) (length c.loop-link.words) c.args.visit.now.mover
    c.loop-link.invariant.2.grows c.requires.mover

pub add_results-requires-clause-link : goal.add_results-requires-clause-link
add_results-requires-clause-link c =
    let a = at-item (λ (l : Link). l.place.0 < length c.args.words.now) c.as_slice-link-items.result.now
    c.args.visit.now.links.items
    c.loop-link.link-index no_link c.as_slice-link-items.ensures.value c.loop-link-test.true c.requires.places in
    let le = c.loop-link.invariant.2.grows in
    omega (arith, a, le)

pub add_results-requires-clause-parts : goal.add_results-requires-clause-parts
add_results-requires-clause-parts c =
    let l = slice_index_or c.as_slice-link-items.result.now c.loop-link.link-index no_link in
    let lt : l.key < length c.args.earlier.now = at-item (λ (l : Link). l.key < length c.args.earlier.now)
    c.as_slice-link-items.result.now
    c.args.visit.now.links.items c.loop-link.link-index no_link c.as_slice-link-items.ensures.value
    c.loop-link-test.true c.requires.linked in
    let at = read-at c.args.earlier.now l.key c.index-earlier-link.result lt c.index-earlier-link.is in
    key-placed (length c.args.words.now) c.args.earlier.now c.requires.held c.requires.own l.key
    c.index-earlier-link.result at
    (length c.loop-link.words) c.loop-link.invariant.2.grows

pub loop-link-preserved : goal.loop-link-preserved
loop-link-preserved c =
    let l = slice_index_or c.as_slice-link-items.result.now c.loop-link.link-index no_link in
    let o = c.index-earlier-link.result in
    let earlier = c.args.earlier.now in
    let lt : l.key < length earlier = at-item (λ (l : Link). l.key < length c.args.earlier.now)
    c.as_slice-link-items.result.now
    c.args.visit.now.links.items c.loop-link.link-index no_link c.as_slice-link-items.ensures.value
    c.loop-link-test.true c.requires.linked in
    let at = read-at earlier l.key o lt c.index-earlier-link.is in (
      λ word own r. joined-turn word own c.args.visit.now.mover earlier c.args.visit.now.links.items
          c.as_slice-link-items.result.now
          c.loop-link.link-index no_link o c.as_slice-link-items.ensures.value
          (map (use_of_part word own) c.loop-link.parts.items)
          (map (use_of_part word own) c.add_results.new.parts.items) c.loop-link-test.true at
          (c.in_ok-add_results.ensures.added word own r)
          (c.loop-link.invariant.0 word own (reads-old c.loop-link.words c.add_results.new.words word
          c.in_ok-add_results.ensures.grows r)),
      c.in_ok-add_results.ensures.held (length earlier) lt
          (key-before (length c.args.words.now) earlier c.requires.held c.requires.own l.key o at (length earlier) lt)
          c.loop-link.invariant.1,
      grows-on c.args.words.now c.loop-link.words c.add_results.new.words c.loop-link.invariant.2
          c.in_ok-add_results.ensures.grows,
      c.in_ok-add_results.ensures.own (is_own_at earlier)
          (key-own (length c.args.words.now) earlier c.requires.held c.requires.own l.key o at)
          (key-owners (length c.args.words.now) earlier c.requires.held c.requires.own l.key o at)
          c.loop-link.invariant.3,
    )

pub returns-in_err-add_results-clause-refused : goal.returns-in_err-add_results-clause-refused
returns-in_err-add_results-clause-refused c =
    let l = slice_index_or c.as_slice-link-items.result.now c.loop-link.link-index no_link in
    let o = c.index-earlier-link.result in
    let lt : l.key < length c.args.earlier.now = at-item (λ (l : Link). l.key < length c.args.earlier.now)
    c.as_slice-link-items.result.now
    c.args.visit.now.links.items c.loop-link.link-index no_link c.as_slice-link-items.ensures.value
    c.loop-link-test.true c.requires.linked in
    let at = read-at c.args.earlier.now l.key o lt c.index-earlier-link.is in
    let p = err_from_is_err_and c.from_residual.result c.from_residual.ensures.1 in
    rw (p.1, p.2)
    (λ word own r. due-link-turn word own c.args.visit.now.mover c.args.earlier.now c.args.visit.now.links.items
    c.as_slice-link-items.result.now
    c.loop-link.link-index no_link o c.as_slice-link-items.ensures.value c.in_err-add_results.field-0.0
    c.loop-link-test.true at
    (c.in_err-add_results.ensures.refused word own r))

pub returns-in_err-add_results-clause-grows : goal.returns-in_err-add_results-clause-grows
returns-in_err-add_results-clause-grows c =
    grows-on c.args.words.now c.loop-link.words c.add_results.new.words c.loop-link.invariant.2
    c.in_err-add_results.ensures.grows

pub returns-clause-joined : goal.returns-clause-joined
returns-clause-joined c = λ word own r.
    joined-all word own c.args.visit.now.mover c.args.earlier.now c.args.visit.now.links.items
    c.as_slice-link-items.result.now c.loop-link.link-index
    (map (use_of_part word own) c.loop-link.parts.items) c.as_slice-link-items.ensures.value c.loop-link-test.false
    (c.loop-link.invariant.0 word own r)

pub returns-clause-held : goal.returns-clause-held
returns-clause-held c = c.loop-link.invariant.1

pub returns-clause-own : goal.returns-clause-own
returns-clause-own c = c.loop-link.invariant.3

pub returns-clause-grows : goal.returns-clause-grows
returns-clause-grows c = c.loop-link.invariant.2
