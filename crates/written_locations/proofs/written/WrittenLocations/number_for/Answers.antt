use Rattle.std.proofs.Common.{◌≡◌, ◌∙◌, arith, sym, ap, subst}
use Rattle.std.specs.Prelude.{Some}
use Rattle.location_words.specs.Tables.{entered, TellsApart}
use Rattle.written_locations.specs.Further.{fixed_number}
use Rattle.written_locations.proofs.Words.{some-none}
use Rattle.written_locations.proofs.Numbers.{fixed-number}
use Rattle.written_locations.proofs.Adding.{entered-enters, entered-fits, entered-number, known-enters}
use Rattle.written_locations.proofs.written.WrittenLocations.number_for.Goals as goal

pub overflow_add-result : goal.overflow_add-result
overflow_add-result c =
    let unfixed = sym c.fixed_number.ensures ∙ c.in_default.is in
    let word = c.in_ok-copy.ensures.cases in
    let fits = entered-fits c.args.self.now c.requires c.args.word.now unfixed c.intern.new.self
    (c.in_ok-id.ensures.entered ∙ ap (entered c.args.self.now.words) word) c.datums.result c.in_ok-id.id.0 c.len.result
    c.datums.ensures (subst (λ w. TellsApart c.intern.new.self w c.in_ok-id.id.0) word c.in_ok-id.ensures.same)
    c.len.ensures.len c.len.ensures.small in
    omega (arith, fits)

pub returns-clause-enters : goal.returns-clause-enters
returns-clause-enters c =
    let unfixed = sym c.fixed_number.ensures ∙ c.in_default.is in
    let word = c.in_ok-copy.ensures.cases in
    entered-enters c.args.self.now c.requires c.args.word.now unfixed c.intern.new.self
    (c.in_ok-id.ensures.entered ∙ ap (entered c.args.self.now.words) word)

pub returns-clause-number : goal.returns-clause-number
returns-clause-number c =
    let unfixed = sym c.fixed_number.ensures ∙ c.in_default.is in
    let word = c.in_ok-copy.ensures.cases in
    entered-number c.args.self.now c.requires c.args.word.now unfixed c.intern.new.self
    (c.in_ok-id.ensures.entered ∙ ap (entered c.args.self.now.words) word) c.datums.result c.in_ok-id.id.0
    c.datums.ensures (subst (λ w. TellsApart c.intern.new.self w c.in_ok-id.id.0) word c.in_ok-id.ensures.same)
