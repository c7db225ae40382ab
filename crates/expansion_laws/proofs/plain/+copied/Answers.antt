-- A copy has the origin and the uses of the tree.
use Rattle.std.proofs.Common.{refl, ◌∙◌, ap, map}
use Rattle.expansion_laws.specs.Plain.{shown_use}
use Rattle.expansion_laws.specs.declared.plain.Tree.{out-Tree}
use Rattle.expansion_laws.proofs.PlainLemmas.{copied-whole}
use Rattle.expansion_laws.proofs.plain.+copied.Goals as goal

pub copied-returns : goal.copied-returns
copied-returns t c =
    copied-whole c.args.tree.now (record { origin = (out-Tree c.args.tree.now).origin; uses = c.in_ok-uses.uses }) refl
    (c.in_ok-uses.ensures ∙ ap (map shown_use) c.deref.ensures.value)
