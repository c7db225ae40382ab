use Rattle.std.proofs.Common.{ℕ, ◌∷◌}
use Rattle.std.specs.Fmt.{decimal}
use Rattle.std.proofs.lemmas.List.{get_or_default}
use Rattle.byte_sink.proofs.Joining.{each_all, each_more}
use Rattle.written_heads.proofs.fields.push_entries.Goals as goal

pub loop-entry-init : goal.loop-entry-init
loop-entry-init g c = g.met.B.TakesBytes.joins.none _

pub loop-entry-preserved : goal.loop-entry-preserved
loop-entry-preserved g c =
    each_more g.met.B.TakesBytes.joins (λ (n : ℕ). 32 ∷ decimal n) c.args.entries.now c.loop-entry.entry-index _ _ _ _
    c.loop-entry-test.true (get_or_default c.args.entries.now c.loop-entry.entry-index _ _ c.loop-entry-test.true)
    c.loop-entry.invariant c.push_number.ensures

pub returns : goal.returns
returns g c =
    each_all g.met.B.TakesBytes.joins (λ (n : ℕ). 32 ∷ decimal n) c.args.entries.now c.loop-entry.entry-index _ _
    c.loop-entry-test.false c.loop-entry.invariant
