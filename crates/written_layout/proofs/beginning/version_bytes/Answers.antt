-- The version lines, byte by byte.
use Rattle.std.proofs.Common.{◌≡◌, ◌++◌, ◌∷◌, ◌∙◌, [], ap, inl, inr, refl, sym}
use Rattle.std.specs.Prelude.{codes}
use Rattle.brep_tokens.specs.Tokens.{version_line}
use Rattle.written_layout.proofs.beginning.version_bytes.Goals as goal

first_line : version_line 1 ++ 10 ∷ [] ≡ codes "CASCADE Topology V1, (c) Matra-Datavision\n"
unfolding version_line
first_line = refl

second_line : version_line 2 ++ 10 ∷ [] ≡ codes "CASCADE Topology V2, (c) Matra-Datavision\n"
unfolding version_line
second_line = refl

pub returns-then-version-eq2 : goal.returns-then-version-eq2
returns-then-version-eq2 c = sym (ap (λ v. version_line v ++ 10 ∷ []) c.if-version-eq2.true ∙ second_line)

pub returns-else-version-eq2 : goal.returns-else-version-eq2
returns-else-version-eq2 c = elim c.requires [
  | inl one ↦ sym (ap (λ v. version_line v ++ 10 ∷ []) one ∙ first_line)
  | inr two ↦ absurd (c.if-version-eq2.false two)
]
