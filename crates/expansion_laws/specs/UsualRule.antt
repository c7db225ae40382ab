-- The usual rule: over trees whose vertices have no uses, all is gone through, and only what a request meets goes or
-- changes.
use Rattle.std.specs.Prelude.{◌≡◌, List, [], ◌∷◌}
use Rattle.orientation.specs.declared.kind.Kind.TheVariants.{Ve}
use Rattle.orientation.specs.Rules.{usual}
use Rattle.expansion_laws.specs.Trees.{Tree, Use, uses}
use Rattle.expansion_laws.specs.Steps.{Step, kind, entered}
use Rattle.expansion_laws.specs.Rewriting.{rebuilt, remains}

-- all uses of a tree are gone through, and what remains of a use of it is that use over their results
pub record IsGoneThrough (s : Step) (x : Tree) : Type 0 where
  pub all_entered : entered s x ≡ uses x
  pub stays_over : (u : Use) (below : List Use) → u.tree ≡ x → (uses x ≡ [] → below ≡ []) →
      remains s u below ≡ rebuilt u below ∷ []

-- under the usual rule this holds of each tree that has no uses where its kind is that of vertices
abbrev pub UsualRuleGoesThroughAll : Step → Type 0
UsualRuleGoesThroughAll s = s.rule ≡ usual → (x : Tree) → (kind s x ≡ Ve → uses x ≡ []) → IsGoneThrough s x
