-- The fault is that of what was to be made.
use Rattle.std.proofs.Common.{List, subst}
use Rattle.key_results.specs.declared.derive.Visit.{Visit}
use Rattle.key_results.specs.declared.parts.Outgrowth.{Outgrowth}
use Rattle.key_results.specs.declared.parts.Part.{Part}
use Rattle.reshape.specs.Making.{IsUnmade}
use Rattle.reshape.proofs.step.make.Goals as goal

pub returns-in-Err-clause-refused : goal.returns-in-Err-clause-refused
returns-in-Err-clause-refused g c =
    let rows = c.args.pool.now in
    let fault = c.in-Err.fault in
    subst (λ (l : List Visit). IsUnmade rows l c.args.derived.now.outgrowths.items c.args.derived.now.root.items fault)
    c.as_slice-visits.ensures.value
    (subst (λ (l : List Outgrowth). IsUnmade rows c.as_slice-visits.result.now l c.args.derived.now.root.items fault)
    c.as_slice-outgrowths.ensures.value
    (subst (λ (l : List Part). IsUnmade rows c.as_slice-visits.result.now c.as_slice-outgrowths.result.now l fault)
    c.as_slice-parts.ensures.value
    c.in-Err.ensures.refused))
