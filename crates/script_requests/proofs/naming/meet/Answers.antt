-- What is met already isn't noted again.
use Rattle.std.proofs.Common.{◌∙◌, sym, true≢false}
use Rattle.script_requests.proofs.MeetLaws.{met-already, met-now}
use Rattle.script_requests.proofs.naming.meet.Goals as goal

pub returns-then-has : goal.returns-then-has
returns-then-has c = met-already c.args.met.now c.args.id (c.has.ensures.0 c.if-has.true)

pub returns : goal.returns
returns c =
    met-now c.args.met.now c.note.new.self c.args.id (λ m. true≢false (sym (c.has.ensures.1 m) ∙ c.if-has.false))
    c.in_ok-note.ensures
