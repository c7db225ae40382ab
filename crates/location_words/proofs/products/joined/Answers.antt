-- What is within the limits is a word, and what isn't is refused as is due.
use Rattle.std.proofs.Common.{◌≤◌, ◌∙◌, ◌++◌, sym, subst, option_to_list}
use Rattle.location_words.specs.Faults.{fault_of}
use Rattle.location_words.proofs.FaultLemmas.{due-fault, length-parts, limits_tell}
use Rattle.location_words.proofs.products.joined.Goals as goal

pub copied-requires : goal.copied-requires
copied-requires c =
    subst (λ n. n ≤ 4096) (length-parts c.args.kept.now (option_to_list c.args.middle) c.args.rest.now)
    ((limits_tell (c.args.kept.now ++ option_to_list c.args.middle ++ c.args.rest.now)).0
    (sym c.fault_of_parts.ensures ∙ c.in_default.is)).0

pub returns-in-Some-clause-refused : goal.returns-in-Some-clause-refused
returns-in-Some-clause-refused c =
    due-fault (fault_of (c.args.kept.now ++ option_to_list c.args.middle ++ c.args.rest.now)) c.in-Some.fault
    (sym c.fault_of_parts.ensures ∙ c.in-Some.is)

pub invariant_of-result : goal.invariant_of-result
invariant_of-result c =
    let held = (limits_tell (c.args.kept.now ++ option_to_list c.args.middle ++ c.args.rest.now)).0
    (sym c.fault_of_parts.ensures ∙ c.in_default.is) in
    rw c.in-Ok.ensures.ok (record { is_word = c.requires.word; few = held.0; small = held.1 })
