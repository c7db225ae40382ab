-- The one result, or a compound over all.
use Rattle.std.proofs.Common.{arith, ◌≡◌, ◌<◌, ◌∙◌, List, refl, sym, ap, subst, length, map, slice_get, Some}
use Rattle.std.proofs.lemmas.Option.{slice_get-get_or}
use Rattle.std.proofs.lemmas.Result.{err_from_is_err_and}
use Rattle.lists.proofs.Entries.{All-place}
use Rattle.orientation.specs.declared.kind.Kind.TheVariants.{Co}
use Rattle.shape_pool.specs.declared.node.UseOf.{UseOf}
use Rattle.shape_pool.specs.Rows.{tree_at, use_by, AllHeld, AllPlaced}
use Rattle.shape_pool.specs.Calls.{IsRefused}
use Rattle.expansion_laws.specs.Trees.{tree_of}
use Rattle.key_results.proofs.GrownFaults.{node-refused}
use Rattle.key_results.proofs.GrownTurns.{extends-none, keeps-none, loaded-none}
use Rattle.key_results.proofs.HandingTurns.{handed-extends, handed-more}
use Rattle.key_results.proofs.NewRoot.{no_id, uses-held, uses-placed, root-one, root-many, root-refused}
use Rattle.key_results.proofs.rebuild.new_root.Goals as goal

pub uses_of-requires : goal.uses_of-requires
uses_of-requires c = c.requires.parts

pub wrap-requires : goal.wrap-requires
wrap-requires c = record {
  held = subst (AllHeld c.args.pool.now) (sym (c.as_slice.ensures.value ∙ c.in_ok-uses.ensures no_id))
      (uses-held c.args.pool.now no_id c.args.nodes.now c.args.parts.now c.requires.nodes c.requires.parts);
}

pub index-only-requires : goal.index-only-requires
index-only-requires c = let one = c.if-len-eq1.true in let long = c.len.ensures in omega (arith, one, long)

pub returns-then-len-eq1-clause-root : goal.returns-then-len-eq1-clause-root
returns-then-len-eq1-clause-root c =
    let uses = c.in_ok-uses.uses.items in
    let lt : 0 < length uses = (let one = c.if-len-eq1.true in let long = c.len.ensures in omega (arith, one, long)) in
    let at : slice_get uses 0 ≡ Some c.index-only.result.now =
    slice_get-get_or uses 0 _ lt ∙ ap Some (sym c.index-only.ensures) in
    λ word own idle stand. root-one c.args.pool.now word own no_id c.args.nodes.now c.args.parts.now c.requires.parts
    stand uses c.index-only.result.now
    (c.in_ok-uses.ensures no_id) (let one = c.if-len-eq1.true in let long = c.len.ensures in omega (arith, one, long))
    at

pub returns-then-len-eq1-clause-held : goal.returns-then-len-eq1-clause-held
returns-then-len-eq1-clause-held c =
    let uses = c.in_ok-uses.uses.items in
    let lt : 0 < length uses = (let one = c.if-len-eq1.true in let long = c.len.ensures in omega (arith, one, long)) in
    let at : slice_get uses 0 ≡ Some c.index-only.result.now =
    slice_get-get_or uses 0 _ lt ∙ ap Some (sym c.index-only.ensures) in
    All-place (λ (u : UseOf). u.id.0 < length c.args.pool.now) uses 0 c.index-only.result.now
    (subst (AllHeld c.args.pool.now) (sym (c.in_ok-uses.ensures no_id))
    (uses-held c.args.pool.now no_id c.args.nodes.now c.args.parts.now c.requires.nodes c.requires.parts)) at

pub returns-then-len-eq1-clause-place : goal.returns-then-len-eq1-clause-place
returns-then-len-eq1-clause-place c =
    let uses = c.in_ok-uses.uses.items in
    let lt : 0 < length uses = (let one = c.if-len-eq1.true in let long = c.len.ensures in omega (arith, one, long)) in
    let at : slice_get uses 0 ≡ Some c.index-only.result.now =
    slice_get-get_or uses 0 _ lt ∙ ap Some (sym c.index-only.ensures) in
    λ n some placed. All-place (λ (u : UseOf). u.place.0 < n) uses 0 c.index-only.result.now
    (subst (AllPlaced n) (sym (c.in_ok-uses.ensures no_id))
    (uses-placed n no_id c.args.nodes.now c.args.parts.now placed)) at

pub returns-then-len-eq1-clause-more : goal.returns-then-len-eq1-clause-more
returns-then-len-eq1-clause-more c = λ i a b. absurd (omega (arith, a, b))

pub returns-then-len-eq1-clause-extends : goal.returns-then-len-eq1-clause-extends
returns-then-len-eq1-clause-extends c = extends-none c.args.pool.now

pub returns-then-len-eq1-clause-kept : goal.returns-then-len-eq1-clause-kept
returns-then-len-eq1-clause-kept c = keeps-none c.args.pool.now

pub returns-then-len-eq1-clause-loaded : goal.returns-then-len-eq1-clause-loaded
returns-then-len-eq1-clause-loaded c = loaded-none c.args.pool.now

pub returns-then-len-eq1-clause-places : goal.returns-then-len-eq1-clause-places
returns-then-len-eq1-clause-places c = λ n old placed. old

pub returns-clause-root : goal.returns-clause-root
returns-clause-root c = λ word own idle stand.
    root-many c.args.pool.now word own no_id c.args.nodes.now c.args.parts.now c.requires.parts stand
    c.in_ok-uses.uses.items c.wrap.new.self _
    (c.in_ok-uses.ensures no_id) (λ one. c.if-len-eq1.false (let long = c.len.ensures in omega (arith, one, long))) idle
    refl refl
    (c.in_ok-id.ensures.tree word ∙
    ap (λ (us : List UseOf). tree_of 0 (map (use_by word (tree_at word c.args.pool.now)) us))
    c.as_slice.ensures.value)

pub returns-clause-held : goal.returns-clause-held
returns-clause-held c = c.in_ok-id.ensures.held

pub returns-clause-place : goal.returns-clause-place
returns-clause-place c = λ n lt placed. lt

pub returns-clause-more : goal.returns-clause-more
returns-clause-more c =
    handed-more c.args.pool.now Co 0 c.as_slice.result.now c.wrap.new.self c.in_ok-id.id.0 c.in_ok-id.ensures.handed

pub returns-clause-extends : goal.returns-clause-extends
returns-clause-extends c =
    handed-extends c.args.pool.now Co 0 c.as_slice.result.now c.wrap.new.self c.in_ok-id.id.0 c.in_ok-id.ensures.handed

pub returns-clause-places : goal.returns-clause-places
returns-clause-places c = λ n old placed.
    c.in_ok-id.ensures.places n old
    (subst (AllPlaced n) (sym (c.as_slice.ensures.value ∙ c.in_ok-uses.ensures no_id))
    (uses-placed n no_id c.args.nodes.now c.args.parts.now placed))

pub returns-in_err-id-clause-extends : goal.returns-in_err-id-clause-extends
returns-in_err-id-clause-extends c = rw c.in_err-id.ensures.err (extends-none c.args.pool.now)

pub returns-in_err-id-clause-places : goal.returns-in_err-id-clause-places
returns-in_err-id-clause-places c = λ n old placed.
    c.in_err-id.ensures.places n old
    (subst (AllPlaced n) (sym (c.as_slice.ensures.value ∙ c.in_ok-uses.ensures no_id))
    (uses-placed n no_id c.args.nodes.now c.args.parts.now placed))

pub returns-in_err-id-clause-refused : goal.returns-in_err-id-clause-refused
returns-in_err-id-clause-refused c =
    let p = err_from_is_err_and c.from_residual-in_err-id.result c.from_residual-in_err-id.ensures.1 in
    rw (p.1, p.2) (λ word own n tells places placed stand.
    root-refused c.args.pool.now word own no_id c.args.nodes.now c.args.parts.now c.requires.parts stand c.laws.ensures
    n tells places c.requires.nodes placed
    c.in_ok-uses.uses.items (c.in_ok-uses.ensures no_id)
    (λ one. c.if-len-eq1.false (let long = c.len.ensures in omega (arith, one, long))) _
    (node-refused c.args.pool.now 0 c.in_ok-uses.uses.items c.in_err-id.field-0.0
    (subst (λ (us : List UseOf). IsRefused c.args.pool.now 0 us c.in_err-id.field-0.0) c.as_slice.ensures.value
    c.in_err-id.ensures.refused)))

pub returns-in_err-uses-clause-extends : goal.returns-in_err-uses-clause-extends
returns-in_err-uses-clause-extends c = extends-none c.args.pool.now

pub returns-in_err-uses-clause-kept : goal.returns-in_err-uses-clause-kept
returns-in_err-uses-clause-kept c = keeps-none c.args.pool.now

pub returns-in_err-uses-clause-loaded : goal.returns-in_err-uses-clause-loaded
returns-in_err-uses-clause-loaded c = loaded-none c.args.pool.now

pub returns-in_err-uses-clause-places : goal.returns-in_err-uses-clause-places
returns-in_err-uses-clause-places c = λ n old placed. old

pub returns-in_err-uses-clause-refused : goal.returns-in_err-uses-clause-refused
returns-in_err-uses-clause-refused c =
    let p = err_from_is_err_and c.from_residual.result c.from_residual.ensures.1 in
    rw (p.1, p.2) (λ word own n tells places placed stand. tt)
