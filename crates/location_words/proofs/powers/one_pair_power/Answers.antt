-- The one power, multiplied and tested.
use Rattle.std.proofs.Common.{◌∙◌, ap, sym}
use Rattle.location_words.specs.Faults.{fault_of}
use Rattle.location_words.proofs.PowerLemmas.{one-fault, one-zero, one-kept, one-held, one-within, both-read}
use Rattle.location_words.proofs.powers.one_pair_power.Goals as goal

pub returns-then-size-gt-MOST_POWER-clause-refused : goal.returns-then-size-gt-MOST_POWER-clause-refused
returns-then-size-gt-MOST_POWER-clause-refused c =
    one-fault c.args.pair c.args.p c.multiplied-power.result c.unsigned_abs-size.result
    (c.multiplied-power.ensures.value ∙ both-read c.args.pair.power c.args.p c.requires c.ranges.p)
    c.multiplied-power.ensures.size c.unsigned_abs-size.ensures.value c.if-size-gt-MOST_POWER.true

pub returns-then-power-eq0-clause-ok : goal.returns-then-power-eq0-clause-ok
returns-then-power-eq0-clause-ok c = c.identity.ensures ∙
    sym (one-zero c.args.pair c.args.p c.multiplied-power.result c.unsigned_abs-size.result
    (c.multiplied-power.ensures.value ∙ both-read c.args.pair.power c.args.p c.requires c.ranges.p)
    c.multiplied-power.ensures.size c.unsigned_abs-size.ensures.value c.if-power-eq0.true)

pub returns-then-power-eq0-clause-within : goal.returns-then-power-eq0-clause-within
returns-then-power-eq0-clause-within c =
    ap fault_of (one-zero c.args.pair c.args.p c.multiplied-power.result c.unsigned_abs-size.result
    (c.multiplied-power.ensures.value ∙ both-read c.args.pair.power c.args.p c.requires c.ranges.p)
    c.multiplied-power.ensures.size c.unsigned_abs-size.ensures.value c.if-power-eq0.true)

pub invariant_of-result : goal.invariant_of-result
invariant_of-result c =
    one-held c.args.pair c.args.p c.multiplied-power.result c.unsigned_abs-size.result
    (c.multiplied-power.ensures.value ∙ both-read c.args.pair.power c.args.p c.requires c.ranges.p)
    c.multiplied-power.ensures.size c.unsigned_abs-size.ensures.value
    c.push_reserved.new.self.items c.if-size-gt-MOST_POWER.false c.if-power-eq0.false
    (rw c.new-pairs.ensures.items at c.push_reserved.ensures.items)

pub returns-clause-ok : goal.returns-clause-ok
returns-clause-ok c =
    rw c.new-pairs.ensures.items at c.push_reserved.ensures.items ∙
    sym (one-kept c.args.pair c.args.p c.multiplied-power.result c.unsigned_abs-size.result
    (c.multiplied-power.ensures.value ∙ both-read c.args.pair.power c.args.p c.requires c.ranges.p)
    c.multiplied-power.ensures.size c.unsigned_abs-size.ensures.value
    c.if-size-gt-MOST_POWER.false c.if-power-eq0.false)

pub returns-clause-within : goal.returns-clause-within
returns-clause-within c =
    one-within c.args.pair c.args.p c.multiplied-power.result c.unsigned_abs-size.result
    (c.multiplied-power.ensures.value ∙ both-read c.args.pair.power c.args.p c.requires c.ranges.p)
    c.multiplied-power.ensures.size c.unsigned_abs-size.ensures.value
    c.if-size-gt-MOST_POWER.false c.if-power-eq0.false
