-- The empty word has only itself as power.
use Rattle.std.proofs.Common.{◌∙◌, ap, sym, eqb-true, length}
use Rattle.location_words.specs.declared.pair.Pair.{Pair}
use Rattle.location_words.proofs.PowerLemmas.{empty-power, empty-fault}
use Rattle.location_words.proofs.powers.power.Goals as goal

pub returns-then-is_empty-clause-ok : goal.returns-then-is_empty-clause-ok
returns-then-is_empty-clause-ok c = c.identity.ensures ∙ sym (empty-power c.args.w.now c.args.p
    (ap (length {A = Pair}) (sym (c.as_slice-pairs.ensures ∙ c.w.view_is)) ∙
    eqb-true (length c.as_slice-pairs.result.now) 0 (sym c.is_empty.ensures ∙ c.if-is_empty.true)))

pub returns-then-is_empty-clause-within : goal.returns-then-is_empty-clause-within
returns-then-is_empty-clause-within c = empty-fault c.args.w.now c.args.p
    (ap (length {A = Pair}) (sym (c.as_slice-pairs.ensures ∙ c.w.view_is)) ∙
    eqb-true (length c.as_slice-pairs.result.now) 0 (sym c.is_empty.ensures ∙ c.if-is_empty.true))
