-- The results of the key as a link without a mover carries them.
use Rattle.std.proofs.Common.{arith, ap, length, map}
use Rattle.std.proofs.lemmas.Result.{err_from_is_err_and}
use Rattle.key_results.specs.declared.derive.Link.{Link}
use Rattle.key_results.specs.Parts.{use_of_part, is_own_at}
use Rattle.key_results.proofs.WordLaws.{idle-word}
use Rattle.key_results.proofs.LinkTurns.{read-at, key-placed, key-before, key-own, key-owners}
use Rattle.key_results.proofs.RootParts.{root-results, root-due}
use Rattle.key_results.proofs.parts.root_parts.Goals as goal

pub add_results-requires-clause-parts : goal.add_results-requires-clause-parts
add_results-requires-clause-parts c =
    key-placed (length c.args.words.now) c.args.outgrowths.now c.requires.held c.requires.own c.args.key
    c.index-outgrowths-key.result (read-at c.args.outgrowths.now c.args.key c.index-outgrowths-key.result
    c.requires.key c.index-outgrowths-key.is) (length c.args.words.now) (omega arith)

pub returns-clause-results : goal.returns-clause-results
returns-clause-results c = λ word own r.
    let l : Link = record { turn = c.args.root.turn; place = c.args.root.place; key = c.args.key } in
    root-results word own c.no_mover.result l c.args.outgrowths.now c.index-outgrowths-key.result
    (idle-word c.words_are_a_group.ensures c.add_results.new.words c.in_ok-add_results.ensures.grows.table
    c.no_mover.result c.no_mover.ensures.back
    c.no_mover.ensures.by word r c.args.root.place.0)
    (read-at c.args.outgrowths.now c.args.key c.index-outgrowths-key.result c.requires.key c.index-outgrowths-key.is)
    (map (use_of_part word own) c.new-parts.result.items) (map (use_of_part word own) c.add_results.new.parts.items)
    (ap (map (use_of_part word own)) c.new-parts.ensures.items)
    (c.in_ok-add_results.ensures.added word own r)

pub returns-clause-held : goal.returns-clause-held
returns-clause-held c =
    c.in_ok-add_results.ensures.held (length c.args.outgrowths.now) c.requires.key
    (key-before (length c.args.words.now) c.args.outgrowths.now c.requires.held c.requires.own c.args.key
    c.index-outgrowths-key.result (read-at c.args.outgrowths.now c.args.key c.index-outgrowths-key.result
    c.requires.key c.index-outgrowths-key.is) (length c.args.outgrowths.now) c.requires.key)
    (λ k d lt. let n = ap length c.new-parts.ensures.items in absurd (omega (arith, lt, n)))

pub returns-clause-own : goal.returns-clause-own
returns-clause-own c =
    c.in_ok-add_results.ensures.own (is_own_at c.args.outgrowths.now)
    (key-own (length c.args.words.now) c.args.outgrowths.now c.requires.held c.requires.own c.args.key
    c.index-outgrowths-key.result (read-at c.args.outgrowths.now c.args.key c.index-outgrowths-key.result
    c.requires.key c.index-outgrowths-key.is))
    (key-owners (length c.args.words.now) c.args.outgrowths.now c.requires.held c.requires.own c.args.key
    c.index-outgrowths-key.result (read-at c.args.outgrowths.now c.args.key c.index-outgrowths-key.result
    c.requires.key c.index-outgrowths-key.is))
    (λ k d lt. let n = ap length c.new-parts.ensures.items in absurd (omega (arith, lt, n)))

pub returns-in_err-add_results-clause-refused : goal.returns-in_err-add_results-clause-refused
returns-in_err-add_results-clause-refused c =
    let p = err_from_is_err_and c.from_residual.result c.from_residual.ensures.1 in
    rw (p.1, p.2) (λ word own r.
    let l : Link = record { turn = c.args.root.turn; place = c.args.root.place; key = c.args.key } in
    root-due word own c.no_mover.result l c.args.outgrowths.now c.index-outgrowths-key.result
    (idle-word c.words_are_a_group.ensures c.add_results.new.words c.in_err-add_results.ensures.grows.table
    c.no_mover.result c.no_mover.ensures.back
    c.no_mover.ensures.by word r c.args.root.place.0)
    (read-at c.args.outgrowths.now c.args.key c.index-outgrowths-key.result c.requires.key c.index-outgrowths-key.is)
    c.in_err-add_results.field-0.0
    (c.in_err-add_results.ensures.refused word own r))
