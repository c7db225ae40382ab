-- The root's key is the only one.
use Rattle.lists.proofs.Errors.{IfErr-on}
use Rattle.std.proofs.Common.{arith, ◌∙◌, ◌≤◌, sym, ap, subst, length, Some, List, inl, inr}
use Rattle.std.specs.Prelude.{Contains}
use Rattle.lists.proofs.Members.{Contains-none}
use Rattle.shape_pool.specs.declared.node.NodeId.{NodeId}
use Rattle.shape_pool.specs.Rows.{tree_at, use_by}
use Rattle.key_results.specs.declared.key.Key.{Key}
use Rattle.reshape.proofs.StepLaws.{planned, tells}
use Rattle.reshape.proofs.FindLaws.{node-within}
use Rattle.reshape.proofs.NoteLaws.{found-noted}
use Rattle.reshape.proofs.CollectLaws.{root-there}
use Rattle.reshape.proofs.TurnLaws.{found-none, none-worded, root-collected}
use Rattle.reshape.proofs.UseLaws.{key-held}
use Rattle.reshape.proofs.collect.note_root.Goals as goal

pub returns-in_default-clause-found : goal.returns-in_default-clause-found
returns-in_default-clause-found c =
    found-none c.args.pool.now (length c.args.words.now) c.args.plan.now.nodes c.args.found.now.keys.keys
    c.args.found.now.at.items c.args.found.now.worded
    c.requires.keys c.requires.long c.requires.none c.requires.worded

pub returns-in_default-clause-first : goal.returns-in_default-clause-first
returns-in_default-clause-first c = λ s word it.
    let rows = c.args.pool.now in
    let words = c.args.words.now in
    let n = length words in
    let le : n ≤ n = omega arith in
    let plan = c.args.plan.now in
    let root = c.args.root.id.0 in
    absurd (c.in_default.ensures.none (root-there rows c.laws.ensures n s word plan.nodes root c.requires.places
    (tells rows n root plan words s word it c.len.ensures.table le c.requires.places)
    (planned rows n root plan words s word it c.len.ensures.table le c.requires.places)
    it.carried.planned.held c.requires.root))

pub note-requires-clause-place : goal.note-requires-clause-place
note-requires-clause-place c =
    let within = node-within c.args.plan.now.nodes c.in-Some.at c.args.root.id.0 c.in-Some.ensures.some in
    let long = c.requires.long in
    omega (arith, within, long)

pub note-requires-clause-counted : goal.note-requires-clause-counted
note-requires-clause-counted c =
    none-worded c.args.found.now.keys.keys c.args.found.now.worded c.requires.keys c.requires.worded

pub note-requires-clause-few : goal.note-requires-clause-few
note-requires-clause-few c = let z = c.requires.worded in omega (arith, z)

pub returns-in_err-note-clause-refused : goal.returns-in_err-note-clause-refused
returns-in_err-note-clause-refused c =
    IfErr-on c.from_residual.result c.in_err-note.field-0.0 _ c.from_residual.ensures.1
    (elim c.in_err-note.ensures.refused [
      | inl e ↦ e
      | inr past ↦ absurd (let a = past.3 in let b = c.requires.worded in omega (arith, a, b))
    ])

pub returns-clause-found : goal.returns-clause-found
returns-clause-found c =
    let rows = c.args.pool.now in
    let n = length c.args.words.now in
    let nodes = c.args.plan.now.nodes in
    found-noted rows n nodes c.in-Some.at c.key_of_root-key.result c.args.found.now.keys.keys c.args.found.now.at.items
    c.args.found.now.worded
    c.note.new.found.keys.keys c.note.new.found.at.items c.note.new.found.worded
    (found-none rows n nodes c.args.found.now.keys.keys c.args.found.now.at.items c.args.found.now.worded
    c.requires.keys c.requires.long c.requires.none c.requires.worded)
    c.in_ok-note.ensures.noted (key-held rows n c.key_of_root-key.result c.args.root c.key_of_root-key.ensures.id
    c.requires.root c.key_of_root-key.ensures.held)
    (c.in-Some.ensures.some ∙ ap (λ (i : NodeId). Some i.0) (sym c.key_of_root-key.ensures.id))
    c.in_ok-note.ensures.counted c.in_ok-note.ensures.few

pub returns-clause-first : goal.returns-clause-first
returns-clause-first c = λ s word it.
    let rows = c.args.pool.now in
    let n = length c.args.words.now in
    let nodes = c.args.plan.now.nodes in
    let key = c.key_of_root-key.result in
    let found = found-noted rows n nodes c.in-Some.at key c.args.found.now.keys.keys c.args.found.now.at.items
    c.args.found.now.worded
    c.note.new.found.keys.keys c.note.new.found.at.items c.note.new.found.worded
    (found-none rows n nodes c.args.found.now.keys.keys c.args.found.now.at.items c.args.found.now.worded
    c.requires.keys c.requires.long c.requires.none c.requires.worded)
    c.in_ok-note.ensures.noted (key-held rows n key c.args.root c.key_of_root-key.ensures.id c.requires.root
    c.key_of_root-key.ensures.held)
    (c.in-Some.ensures.some ∙ ap (λ (i : NodeId). Some i.0) (sym c.key_of_root-key.ensures.id))
    c.in_ok-note.ensures.counted c.in_ok-note.ensures.few in
    root-collected rows n nodes s word (use_by word (tree_at word rows) c.args.root) key c.args.found.now.keys.keys
    c.note.new.found.keys.keys
    c.note.new.found.at.items c.note.new.found.worded c.requires.keys
    (elim c.in_ok-note.ensures.noted.own [
      | inl o ↦ absurd (Contains-none key (subst (λ (l : List Key). Contains l key) c.requires.keys o.0))
      | inr o ↦ o.1
    ]) found (c.key_of_root-key.ensures.key c.args.root.id.0 s word it)
