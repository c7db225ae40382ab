-- One place more.
use Rattle.std.proofs.Common.{arith, ◌≡◌, ◌-◌, ◌+◌, ℕ, suc, sym, subst, length}
use Rattle.lists.proofs.Errors.{IfErr-on}
use Rattle.expansion_laws.specs.Trees.{Use}
use Rattle.shape_pool.specs.Rows.{tree_at, use_by}
use Rattle.key_results.specs.declared.fault.ApplyFault.TheVariants.{NoMemory}
use Rattle.reshape.proofs.TableLaws.{grows-none, grows-on}
use Rattle.reshape.specs.Collecting.{AreCollectedFrom, IsKeysDue}
use Rattle.reshape.proofs.StepLaws.{has-table, older, wider}
use Rattle.reshape.proofs.TurnLaws.{place-more}
use Rattle.reshape.proofs.UseLaws.{wider-places}
use Rattle.reshape.proofs.collect.collect.Goals as goal

pub returns-in_err-found-clause-refused : goal.returns-in_err-found-clause-refused
returns-in_err-found-clause-refused c =
    IfErr-on c.from_residual.result NoMemory _ c.from_residual.ensures.1 (λ s word it. tt)

pub returns-in_err-found-clause-grows : goal.returns-in_err-found-clause-grows
returns-in_err-found-clause-grows c = grows-none c.args.words.now c.len.ensures.table

pub returns-in_err-note_root-clause-refused : goal.returns-in_err-note_root-clause-refused
returns-in_err-note_root-clause-refused c =
    IfErr-on c.from_residual-in_err-note_root.result c.in_err-note_root.field-0.0 _
    c.from_residual-in_err-note_root.ensures.1
    (λ s word it. subst (IsKeysDue s (use_by word (tree_at word c.args.pool.now) c.args.root))
    (sym c.in_err-note_root.ensures.refused) tt)

pub returns-in_err-note_root-clause-grows : goal.returns-in_err-note_root-clause-grows
returns-in_err-note_root-clause-grows c = grows-none c.args.words.now c.len.ensures.table

pub loop-done-init : goal.loop-done-init
loop-done-init c = record {
  found = c.in_ok-note_root.ensures.found;
  grows = grows-none c.args.words.now c.len.ensures.table;
  collected = λ s word it.
      let whole : length c.args.plan.now.nodes ≡ length c.args.plan.now.nodes - 0 = omega arith in
      subst (AreCollectedFrom c.args.pool.now s word (use_by word (tree_at word c.args.pool.now) c.args.root)
      c.note_root.new.found.keys.keys c.note_root.new.found.at.items) whole (c.in_ok-note_root.ensures.first s word it);
}

pub collect_at-requires-clause-table : goal.collect_at-requires-clause-table
collect_at-requires-clause-table c =
    has-table c.args.pool.now (length c.args.words.now) (length c.loop-done.words) c.args.plan.now
    c.loop-done.invariant.grows.grows
    (c.args.root.id.0, c.requires.plan.0, c.requires.plan.1)

pub collect_at-requires-clause-places : goal.collect_at-requires-clause-places
collect_at-requires-clause-places c =
    wider-places c.args.pool.now (length c.args.words.now) (length c.loop-done.words) c.loop-done.invariant.grows.grows
    c.requires.places

pub collect_at-requires-clause-found : goal.collect_at-requires-clause-found
collect_at-requires-clause-found c = c.loop-done.invariant.found

pub returns-in_err-collect_at-clause-refused : goal.returns-in_err-collect_at-clause-refused
returns-in_err-collect_at-clause-refused c =
    let rows = c.args.pool.now in
    let n = length c.args.words.now in
    let plan = c.args.plan.now in
    let root = c.args.root.id.0 in
    let mid = c.loop-done.words in
    let new = c.collect_at.new.words in
    IfErr-on c.from_residual-in_err-collect_at.result c.in_err-collect_at.field-0.0 _
    c.from_residual-in_err-collect_at.ensures.1
    (λ s word it. c.in_err-collect_at.ensures.refused root s word
    (wider rows n (length mid) root plan new s word c.loop-done.invariant.grows.grows it)
    (use_by word (tree_at word rows) c.args.root)
    ((c.loop-done.invariant.collected s word (older rows n root plan mid new s word c.in_err-collect_at.ensures.grows
    it)).of_step))

pub returns-in_err-collect_at-clause-grows : goal.returns-in_err-collect_at-clause-grows
returns-in_err-collect_at-clause-grows c =
    grows-on c.args.words.now c.loop-done.words c.collect_at.new.words c.loop-done.invariant.grows
    c.in_err-collect_at.ensures.grows

pub loop-done-preserved : goal.loop-done-preserved
loop-done-preserved c =
    let rows = c.args.pool.now in
    let n = length c.args.words.now in
    let plan = c.args.plan.now in
    let root = c.args.root.id.0 in
    let mid = c.loop-done.words in
    let new = c.collect_at.new.words in
    let done = c.loop-done.done in
    let count : c.len-places.result ≡ length plan.nodes = c.len-places.ensures in
    let lt = c.loop-done-test.true in
    let q : ℕ = length plan.nodes - done in
    let p : ℕ = c.len-places.result - 1 - done in
    let e : suc p ≡ q = omega (arith, count, lt) in
    let same : p ≡ length plan.nodes - (done + 1) = omega (arith, count, lt) in
    record {
      found = c.in_ok-collect_at.ensures.found;
      grows = grows-on c.args.words.now mid new c.loop-done.invariant.grows c.in_ok-collect_at.ensures.grows;
      collected = λ s word it.
          let wide = wider rows n (length mid) root plan new s word c.loop-done.invariant.grows.grows it in
          let r : Use = use_by word (tree_at word rows) c.args.root in
          subst (AreCollectedFrom rows s word r c.collect_at.new.found.keys.keys c.collect_at.new.found.at.items) same
          (place-more rows s word r p q c.loop-done.found.keys.keys c.collect_at.new.found.keys.keys
          c.loop-done.found.at.items c.collect_at.new.found.at.items e c.in_ok-collect_at.ensures.more
          c.in_ok-collect_at.ensures.later
          (c.in_ok-collect_at.ensures.has root s word wide) (c.in_ok-collect_at.ensures.sound root s word wide r)
          (c.loop-done.invariant.collected s word (older rows n root plan mid new s word
          c.in_ok-collect_at.ensures.grows it)));
    }

pub returns-clause-found : goal.returns-clause-found
returns-clause-found c = c.loop-done.invariant.found

pub returns-clause-collected : goal.returns-clause-collected
returns-clause-collected c = λ s word it.
    let rows = c.args.pool.now in
    let count = c.len-places.ensures in
    let done = c.loop-done-test.false in
    let none : length c.args.plan.now.nodes - c.loop-done.done ≡ 0 = omega (arith, count, done) in
    subst (AreCollectedFrom rows s word (use_by word (tree_at word rows) c.args.root) c.loop-done.found.keys.keys
    c.loop-done.found.at.items) none
    (c.loop-done.invariant.collected s word it)

pub returns-clause-grows : goal.returns-clause-grows
returns-clause-grows c = c.loop-done.invariant.grows
