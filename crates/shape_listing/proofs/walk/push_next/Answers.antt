-- One occurrence after another is told.
use Rattle.std.proofs.Common.{subst}
use Rattle.std.specs.Prelude.{Option, Ok}
use Rattle.lists.proofs.Errors.{IfErr-on}
use Rattle.explorer.specs.declared.found.Found.{Found}
use Rattle.explorer.specs.Going.{Answers, IsTold}
use Rattle.shape_listing.specs.Causes.{of_limit, IsDue}
use Rattle.shape_listing.specs.ByNumber.{due_left}
use Rattle.shape_listing.proofs.WalkSteps.{found-held, goes-on, none-due-then, none-due-to_end, one-left, refused-then}
use Rattle.shape_listing.proofs.WalkSteps.{told-all, told-none, told-on, told-to_end}
use Rattle.shape_listing.proofs.walk.push_next.Goals as goal

pub lines-init : goal.lines-init
lines-init g c = (c.requires, λ kind are. told-none g.met.B.TakesBytes.joins _ kind _ _)

pub push_found-requires : goal.push_found-requires
push_found-requires g c =
    found-held g.met.B.TakesBytes.joins c.args.pool.now c.laws.ensures c.lines.explorer c.next.new.self
    c.lines.invariant.0 c.kinds_are_there.ensures c.in-Some.found
    (subst (λ (o : Option Found). Answers c.lines.explorer c.next.new.self (Ok o)) c.in-Some.is
    c.in_ok-found.ensures.answer)

pub lines-preserved : goal.lines-preserved
lines-preserved g c = (
  goes-on g.met.B.TakesBytes.joins c.args.pool.now c.laws.ensures c.lines.explorer c.next.new.self
      c.lines.invariant.0 c.in-Some.found
      (subst (λ (o : Option Found). IsTold c.lines.explorer c.next.new.self (Ok o)) c.in-Some.is
      c.in_ok-found.ensures.told)
      c.in_ok-found.ensures.same,
  λ kind are. told-on g.met.B.TakesBytes.joins c.args.pool.now c.laws.ensures c.lines.explorer c.next.new.self
      c.lines.invariant.0 c.args.explorer.now c.args.count _ kind are c.args.text.now c.lines.text
      c.push_found.new.text
      (one-left _ kind c.args.explorer.now c.lines.explorer c.args.count c.lines._at c.lines-test.true
      (c.lines.invariant.1 kind are))
      c.in-Some.found c.word.result.now
      (subst (λ (o : Option Found). Answers c.lines.explorer c.next.new.self (Ok o)) c.in-Some.is
      c.in_ok-found.ensures.answer)
      c.in_ok-found.ensures.same c.word.ensures
      c.push_found.ensures,
)

pub returns-in_err-found-clause-refused : goal.returns-in_err-found-clause-refused
returns-in_err-found-clause-refused g c kind are =
    IfErr-on c.from_residual.result (of_limit c.in_err-found.field-0.0)
    (IsDue (due_left kind c.args.count c.args.explorer.now)) c.from_residual.ensures.1
    (refused-then g.met.B.TakesBytes.joins c.args.pool.now c.laws.ensures c.lines.explorer c.next.new.self
    c.lines.invariant.0 c.args.explorer.now c.args.count _ kind are c.args.text.now c.lines.text c.lines.text
    (one-left _ kind c.args.explorer.now c.lines.explorer c.args.count c.lines._at c.lines-test.true
    (c.lines.invariant.1 kind are))
    c.in_err-found.field-0.0 c.in_err-found.ensures.answer)

pub returns-in-None-clause-text : goal.returns-in-None-clause-text
returns-in-None-clause-text g c kind are =
    told-all g.met.B.TakesBytes.joins c.args.pool.now c.laws.ensures c.lines.explorer c.next.new.self
    c.lines.invariant.0 c.args.explorer.now c.args.count _ kind are c.args.text.now c.lines.text c.lines.text
    (one-left _ kind c.args.explorer.now c.lines.explorer c.args.count c.lines._at c.lines-test.true
    (c.lines.invariant.1 kind are))
    (subst (λ (o : Option Found). Answers c.lines.explorer c.next.new.self (Ok o)) c.in-None.is
    c.in_ok-found.ensures.answer)

pub returns-in-None-clause-within : goal.returns-in-None-clause-within
returns-in-None-clause-within g c kind are =
    none-due-then g.met.B.TakesBytes.joins c.args.pool.now c.laws.ensures c.lines.explorer c.next.new.self
    c.lines.invariant.0 c.args.explorer.now c.args.count _ kind are c.args.text.now c.lines.text c.lines.text
    (one-left _ kind c.args.explorer.now c.lines.explorer c.args.count c.lines._at c.lines-test.true
    (c.lines.invariant.1 kind are))
    (subst (λ (o : Option Found). Answers c.lines.explorer c.next.new.self (Ok o)) c.in-None.is
    c.in_ok-found.ensures.answer)

pub returns-clause-text : goal.returns-clause-text
returns-clause-text g c kind are =
    told-to_end g.B.TakesBytes.gives c.args.text.now c.lines.text kind c.args.explorer.now c.lines.explorer
    c.args.count c.lines._at c.lines-test.false (c.lines.invariant.1 kind are)

pub returns-clause-within : goal.returns-clause-within
returns-clause-within g c kind are =
    none-due-to_end g.B.TakesBytes.gives c.args.text.now c.lines.text kind c.args.explorer.now c.lines.explorer
    c.args.count c.lines._at c.lines-test.false (c.lines.invariant.1 kind are)
