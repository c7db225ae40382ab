-- Nothing is asked for, or all uses are.
use Rattle.std.proofs.Common.{◌∙◌, refl}
use Rattle.orientation.specs.declared.turn.Turn.TheVariants.{Forward}
use Rattle.reshape.proofs.AskLaws.{asks-nothing, asks-uses, none-held, uses-held}
use Rattle.reshape.proofs.asked.unmet.Goals as goal

pub returns-then-not-enters-clause-asks : goal.returns-then-not-enters-clause-asks
returns-then-not-enters-clause-asks c = λ s word here zero words m e.
    asks-nothing c.args.pool.now c.laws.ensures word s c.args.id.0 here _ m (e ∙ c.if-not-enters.true) refl
    c.new-uses.ensures.items

pub returns-then-not-enters-clause-held : goal.returns-then-not-enters-clause-held
returns-then-not-enters-clause-held c = λ n some places.
    none-held c.args.pool.now n _ some c.no_mover.ensures.back c.no_mover.ensures.by c.new-uses.ensures.items

pub returns-clause-asks : goal.returns-clause-asks
returns-clause-asks c = λ s word here zero words m e.
    asks-uses c.args.pool.now c.laws.ensures word c.words_are_a_group.ensures zero words s c.args.id.0 here _ c.requires
    m
    (e ∙ c.if-not-enters.false) refl c.no_mover-2.ensures.back c.no_mover-2.ensures.by c.in_ok-uses.ensures

pub returns-clause-held : goal.returns-clause-held
returns-clause-held c = λ n some places.
    uses-held c.args.pool.now n c.laws.ensures places Forward c.args.id.0 _ some c.requires c.no_mover-2.ensures.back
    c.no_mover-2.ensures.by c.in_ok-uses.ensures
