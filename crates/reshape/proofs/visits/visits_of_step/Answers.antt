-- The visits derive the step by its keys.
use Rattle.std.proofs.Common.{arith, sym, subst, length}
use Rattle.lists.proofs.Errors.{IfErr-on}
use Rattle.shape_pool.specs.Rows.{tree_at, use_by}
use Rattle.reshape.proofs.TableLaws.{grows-on}
use Rattle.reshape.specs.Collecting.{IsKeysDue}
use Rattle.reshape.proofs.StepLaws.{a-root-step, has-table, older, wider}
use Rattle.reshape.proofs.LinkLaws.{linked-so}
use Rattle.reshape.proofs.UseLaws.{wider-places}
use Rattle.reshape.proofs.visits.visits_of_step.Goals as goal

pub returns-in_err-keys-clause-refused : goal.returns-in_err-keys-clause-refused
returns-in_err-keys-clause-refused c =
    IfErr-on c.from_residual.result c.in_err-keys.field-0.0 _ c.from_residual.ensures.1 c.in_err-keys.ensures.refused

pub visits_of-requires-clause-table : goal.visits_of-requires-clause-table
visits_of-requires-clause-table c =
    has-table c.args.pool.now (length c.args.words.now) (length c.keys_of.new.words) c.args.plan.now
    c.in_ok-keys.ensures.grows.grows
    (c.args.root.id.0, c.requires.plan.0, c.requires.plan.1)

pub visits_of-requires-clause-places : goal.visits_of-requires-clause-places
visits_of-requires-clause-places c =
    wider-places c.args.pool.now (length c.args.words.now) (length c.keys_of.new.words) c.in_ok-keys.ensures.grows.grows
    c.requires.places

pub returns-in_err-visits-clause-refused : goal.returns-in_err-visits-clause-refused
returns-in_err-visits-clause-refused c =
    let rows = c.args.pool.now in
    let n = length c.args.words.now in
    let plan = c.args.plan.now in
    let root = c.args.root.id.0 in
    let mid = c.keys_of.new.words in
    let new = c.visits_of.new.words in
    IfErr-on c.from_residual-in_err-visits.result c.in_err-visits.field-0.0 _ c.from_residual-in_err-visits.ensures.1
    (λ s word it. subst (IsKeysDue s (use_by word (tree_at word rows) c.args.root))
    (sym (c.in_err-visits.ensures.refused root s word
    (wider rows n (length mid) root plan new s word c.in_ok-keys.ensures.grows.grows it)
    ((c.in_ok-keys.ensures.keys s word (older rows n root plan mid new s word c.in_err-visits.ensures.grows
    it)).bottom_up))) tt)

pub returns-in_err-visits-clause-grows : goal.returns-in_err-visits-clause-grows
returns-in_err-visits-clause-grows c =
    grows-on c.args.words.now c.keys_of.new.words c.visits_of.new.words c.in_ok-keys.ensures.grows
    c.in_err-visits.ensures.grows

pub returns-clause-derived : goal.returns-clause-derived
returns-clause-derived c = λ s word it.
    let rows = c.args.pool.now in
    let n = length c.args.words.now in
    let plan = c.args.plan.now in
    let root = c.args.root.id.0 in
    let mid = c.keys_of.new.words in
    let new = c.visits_of.new.words in
    let are =
    c.in_ok-keys.ensures.keys s word (older rows n root plan mid new s word c.in_ok-visits.ensures.grows it) in
    record {
      keys = c.in_ok-keys.keys.keys;
      are = are;
      derives =
          c.in_ok-visits.ensures.derivation root s word
          (wider rows n (length mid) root plan new s word c.in_ok-keys.ensures.grows.grows it) are.bottom_up;
    }

pub returns-clause-linked : goal.returns-clause-linked
returns-clause-linked c =
    let rows = c.args.pool.now in
    let n = length c.args.words.now in
    let plan = c.args.plan.now in
    let root = c.args.root.id.0 in
    let mid = c.keys_of.new.words in
    let new = c.visits_of.new.words in
    let some = a-root-step rows n root plan new c.laws.ensures c.in_ok-visits.ensures.grows.table c.requires.plan.0
    c.requires.plan.1 in
    let are = c.in_ok-keys.ensures.keys some.0 some.1
    (older rows n root plan mid new some.0 some.1 c.in_ok-visits.ensures.grows some.2) in
    linked-so rows some.0 some.1 c.in_ok-keys.keys.keys c.in_ok-visits.visits.items
    (c.in_ok-visits.ensures.derivation root some.0 some.1
    (wider rows n (length mid) root plan new some.0 some.1 c.in_ok-keys.ensures.grows.grows some.2) are.bottom_up)

pub returns-clause-held : goal.returns-clause-held
returns-clause-held c = c.in_ok-visits.ensures.held

pub returns-clause-placed : goal.returns-clause-placed
returns-clause-placed c = c.in_ok-visits.ensures.placed

pub returns-clause-some : goal.returns-clause-some
returns-clause-some c =
    let rows = c.args.pool.now in
    let n = length c.args.words.now in
    let plan = c.args.plan.now in
    let root = c.args.root.id.0 in
    let mid = c.keys_of.new.words in
    let new = c.visits_of.new.words in
    let some = a-root-step rows n root plan new c.laws.ensures c.in_ok-visits.ensures.grows.table c.requires.plan.0
    c.requires.plan.1 in
    let are = c.in_ok-keys.ensures.keys some.0 some.1
    (older rows n root plan mid new some.0 some.1 c.in_ok-visits.ensures.grows some.2) in
    let last = are.last.2 in
    let long = c.in_ok-visits.ensures.long in
    omega (arith, last, long)

pub returns-clause-grows : goal.returns-clause-grows
returns-clause-grows c =
    grows-on c.args.words.now c.keys_of.new.words c.visits_of.new.words c.in_ok-keys.ensures.grows
    c.in_ok-visits.ensures.grows
