-- The limits of three parts, of which only the middle one can have a large power.
use Rattle.std.proofs.Common.{rules, ◌≡◌, ◌∙◌, ◌+◌, ◌≤◌, ◌++◌, sym, length, option_to_list, None}
use Rattle.location_words.specs.Faults.{large_power}
use Rattle.location_words.proofs.FaultLemmas.{fault-large, fault-none, large-middle, length-parts, small-none}
use Rattle.location_words.proofs.products.fault_of_parts.Goals as goal

pub returns-in-Some : goal.returns-in-Some
returns-in-Some c =
    let few : length c.args.kept.now + length (option_to_list c.args.middle) + length c.args.rest.now ≤ 4096 =
    search rules in
    sym (fault-large (c.args.kept.now ++ option_to_list c.args.middle ++ c.args.rest.now) c.in-Some.size
    (rw (length-parts c.args.kept.now (option_to_list c.args.middle) c.args.rest.now) few)
    (large-middle c.args.kept.now (option_to_list c.args.middle) c.args.rest.now c.requires.small.0 c.requires.small.1 ∙
    sym c.large_size.ensures ∙ c.in-Some.is))

pub returns-in-None : goal.returns-in-None
returns-in-None c =
    let few : length c.args.kept.now + length (option_to_list c.args.middle) + length c.args.rest.now ≤ 4096 =
    search rules in
    let none : large_power (c.args.kept.now ++ option_to_list c.args.middle ++ c.args.rest.now) ≡ None =
    large-middle c.args.kept.now (option_to_list c.args.middle) c.args.rest.now c.requires.small.0 c.requires.small.1 ∙
    sym c.large_size.ensures ∙ c.in-None.is in
    sym (fault-none (c.args.kept.now ++ option_to_list c.args.middle ++ c.args.rest.now)
    (rw (length-parts c.args.kept.now (option_to_list c.args.middle) c.args.rest.now) few)
    (small-none (c.args.kept.now ++ option_to_list c.args.middle ++ c.args.rest.now) none))
