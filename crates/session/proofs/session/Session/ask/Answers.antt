-- What a command asks goes into the unfinished step, or the session is as it was.
use Rattle.std.proofs.Common.{◌∙◌, ◌++◌, ap, subst, refl, reverse}
use Rattle.lists.proofs.Errors.{IfErr-on}
use Rattle.script_requests.specs.Numbered.{OrWants}
use Rattle.session.specs.Commands.{AsksOf, FailsFor, GoesOn, IsAccepted, IsAsItWas, IsRefusedFor}
use Rattle.session.specs.Faults.{of_ask}
use Rattle.session.specs.Views.{View}
use Rattle.session.proofs.EndLaws.{a-session, on-err, session-on}
use Rattle.session.proofs.AskTurns.{as-it-was, ask-accepted, ask-goes-on, ask-refused, mid-session, versions-held}
use Rattle.session.proofs.session.Session.ask.Goals as goal

pub asked_by-requires-clause-versions : goal.asked_by-requires-clause-versions
asked_by-requires-clause-versions c =
    let i = c.self.inside in
    let v : View =
    a-session i.file i.words i.pool i.first i.start i.versions.items i.asked.items i.rule i.output i.carried in
    versions-held v c.self.invariant c.as_slice-versions.result.now c.as_slice-versions.ensures.value

pub invariant_of-self : goal.invariant_of-self
invariant_of-self c =
    let i = c.self.inside in
    let v : View =
    a-session i.file i.words i.pool i.first i.start i.versions.items i.asked.items i.rule i.output i.carried in
    mid-session c.loading_stays.ensures c.places_have_words.ensures v c.laws.ensures c.asked_by.new.words
    c.asked_by.ensures.kept c.asked_by.ensures.table i.asked.items refl
    c.self.invariant

pub returns-in_err-more-clause-refused : goal.returns-in_err-more-clause-refused
returns-in_err-more-clause-refused c =
    let i = c.self.inside in
    let v : View =
    a-session i.file i.words i.pool i.first i.start i.versions.items i.asked.items i.rule i.output i.carried in
    let fault = c.in_err-more.field-0.0 in
    let due =
    subst (λ l. OrWants (FailsFor i.file c.asked_by.new.words i.pool (reverse l) c.args.line c.args.command.now) fault)
    c.as_slice-versions.ensures.value c.in_err-more.ensures.refused in
    IfErr-on c.from_residual.result (of_ask fault) (IsRefusedFor c.args.self.now c.args.line c.args.command.now)
    c.from_residual.ensures.1
    (subst (λ z. IsRefusedFor z c.args.line c.args.command.now (of_ask fault)) c.self.view_is
    (ask-refused c.loading_stays.ensures c.places_have_words.ensures v c.laws.ensures c.asked_by.new.words
    c.asked_by.ensures.kept c.asked_by.ensures.table c.args.line
    c.args.command.now c.requires.asks fault due))

pub returns-in_err-more-clause-same : goal.returns-in_err-more-clause-same
returns-in_err-more-clause-same c =
    let i = c.self.inside in
    let v : View =
    a-session i.file i.words i.pool i.first i.start i.versions.items i.asked.items i.rule i.output i.carried in
    let new : View = record v { words = c.asked_by.new.words; asked = i.asked.items } in
    on-err c.from_residual.result (IsAsItWas c.args.self.now new)
    (subst (λ z. IsAsItWas z new) c.self.view_is
    (as-it-was c.loading_stays.ensures c.places_have_words.ensures v c.laws.ensures c.asked_by.new.words
    c.asked_by.ensures.kept c.asked_by.ensures.table i.asked.items refl))

pub invariant_of-self-in_err-extend_from_slice : goal.invariant_of-self-in_err-extend_from_slice
invariant_of-self-in_err-extend_from_slice c =
    let i = c.self.inside in
    let v : View =
    a-session i.file i.words i.pool i.first i.start i.versions.items i.asked.items i.rule i.output i.carried in
    mid-session c.loading_stays.ensures c.places_have_words.ensures v c.laws.ensures c.asked_by.new.words
    c.asked_by.ensures.kept c.asked_by.ensures.table
    c.extend_from_slice.new.self.items c.in_err-extend_from_slice.ensures.items c.self.invariant

pub returns-in_err-extend_from_slice-clause-same : goal.returns-in_err-extend_from_slice-clause-same
returns-in_err-extend_from_slice-clause-same c =
    let i = c.self.inside in
    let v : View =
    a-session i.file i.words i.pool i.first i.start i.versions.items i.asked.items i.rule i.output i.carried in
    let new : View = record v { words = c.asked_by.new.words; asked = c.extend_from_slice.new.self.items } in
    on-err c.from_residual-in_err-extend_from_slice.result (IsAsItWas c.args.self.now new)
    (subst (λ z. IsAsItWas z new) c.self.view_is
    (as-it-was c.loading_stays.ensures c.places_have_words.ensures v c.laws.ensures c.asked_by.new.words
    c.asked_by.ensures.kept c.asked_by.ensures.table
    c.extend_from_slice.new.self.items c.in_err-extend_from_slice.ensures.items))

pub invariant_of-self-2 : goal.invariant_of-self-2
invariant_of-self-2 c =
    let i = c.self.inside in
    let v : View =
    a-session i.file i.words i.pool i.first i.start i.versions.items i.asked.items i.rule i.output i.carried in
    let asks =
    subst (λ l. AsksOf i.file c.asked_by.new.words i.pool (reverse l) c.args.line c.args.command.now c.in_ok-more.more)
    c.as_slice-versions.ensures.value c.in_ok-more.ensures.asked in
    session-on v (record v { words = c.asked_by.new.words; asked = c.extend_from_slice.new.self.items })
    c.args.command.now c.self.invariant
    (ask-goes-on c.loading_stays.ensures c.places_have_words.ensures v c.laws.ensures c.asked_by.new.words
    c.asked_by.ensures.kept c.asked_by.ensures.table c.args.line
    c.args.command.now c.requires.asks c.in_ok-more.more asks c.extend_from_slice.new.self.items
    (c.in_ok-extend_from_slice.ensures.items ∙ ap (λ l. i.asked.items ++ l) c.as_slice.ensures))

pub returns-clause-done : goal.returns-clause-done
returns-clause-done c =
    let i = c.self.inside in
    let v : View =
    a-session i.file i.words i.pool i.first i.start i.versions.items i.asked.items i.rule i.output i.carried in
    let asks =
    subst (λ l. AsksOf i.file c.asked_by.new.words i.pool (reverse l) c.args.line c.args.command.now c.in_ok-more.more)
    c.as_slice-versions.ensures.value c.in_ok-more.ensures.asked in
    subst
    (λ z. GoesOn z (record v { words = c.asked_by.new.words; asked = c.extend_from_slice.new.self.items })
    c.args.command.now)
    c.self.view_is
    (ask-goes-on c.loading_stays.ensures c.places_have_words.ensures v c.laws.ensures c.asked_by.new.words
    c.asked_by.ensures.kept c.asked_by.ensures.table c.args.line
    c.args.command.now c.requires.asks c.in_ok-more.more asks c.extend_from_slice.new.self.items
    (c.in_ok-extend_from_slice.ensures.items ∙ ap (λ l. i.asked.items ++ l) c.as_slice.ensures))

pub returns-clause-accepted : goal.returns-clause-accepted
returns-clause-accepted c =
    let i = c.self.inside in
    let v : View =
    a-session i.file i.words i.pool i.first i.start i.versions.items i.asked.items i.rule i.output i.carried in
    let asks =
    subst (λ l. AsksOf i.file c.asked_by.new.words i.pool (reverse l) c.args.line c.args.command.now c.in_ok-more.more)
    c.as_slice-versions.ensures.value c.in_ok-more.ensures.asked in
    subst (λ z. IsAccepted z c.args.line c.args.command.now) c.self.view_is
    (ask-accepted c.loading_stays.ensures c.places_have_words.ensures v c.laws.ensures c.asked_by.new.words
    c.asked_by.ensures.kept c.asked_by.ensures.table c.args.line
    c.args.command.now c.requires.asks c.in_ok-more.more asks)
