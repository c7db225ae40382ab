-- The loaded file stands for the state before the first command.
use Rattle.std.proofs.Common.{◌≡◌, refl}
use Rattle.lists.proofs.Errors.{IfErr-on}
use Rattle.session.specs.declared.fault.SessionFault.TheVariants.{NoMemory}
use Rattle.session.specs.States.{first_state}
use Rattle.session.proofs.FirstLaws.{first-stands}
use Rattle.session.proofs.session.Session.new.Goals as goal

pub returns-in_err-start-clause-refused : goal.returns-in_err-start-clause-refused
returns-in_err-start-clause-refused c =
    IfErr-on c.from_residual-in_err-start.result NoMemory (λ fault. fault ≡ NoMemory)
    c.from_residual-in_err-start.ensures.1 refl

pub invariant_of-result : goal.invariant_of-result
invariant_of-result c = (
  first_state c.args.file,
  first-stands c.places_have_words.ensures c.args.file c.requires.sound c.requires.within c.load_file.new.words
      c.load_file.new.pool c.in_ok-first.first c.in_ok-start.start c.in_ok-first.ensures.loaded
      c.in_ok-first.ensures.rows c.in_ok-first.ensures.kinds c.in_ok-first.ensures.root c.in_ok-first.ensures.held
      c.laws.ensures c.in_ok-start.ensures.told c.in_ok-start.ensures.held c.new-3.result.items c.new-4.result.items
      c.usual.result c.new-3.ensures.items c.new-4.ensures.items c.usual.ensures,
)

pub returns-clause-stands : goal.returns-clause-stands
returns-clause-stands c =
    first-stands c.places_have_words.ensures c.args.file c.requires.sound c.requires.within c.load_file.new.words
    c.load_file.new.pool c.in_ok-first.first c.in_ok-start.start c.in_ok-first.ensures.loaded
    c.in_ok-first.ensures.rows c.in_ok-first.ensures.kinds c.in_ok-first.ensures.root c.in_ok-first.ensures.held
    c.laws.ensures c.in_ok-start.ensures.told c.in_ok-start.ensures.held c.new-3.result.items c.new-4.result.items
    c.usual.result c.new-3.ensures.items c.new-4.ensures.items c.usual.ensures
