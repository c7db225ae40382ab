-- Under the usual rule only vertices aren't entered, and nothing is pruned.
use Rattle.std.proofs.Common.{◌≡◌, refl, sym, ◌∙◌, ap}
use Rattle.std.specs.Prelude.{false, if◌then◌else◌, List, [], ◌∷◌}
use Rattle.lists.proofs.Cases.{by_test}
use Rattle.orientation.specs.declared.kind.Kind.{Kind}
use Rattle.orientation.specs.declared.kind.Kind.TheVariants.{Ve, Ed, Wi, Fa, Sh, So, CS, Co}
use Rattle.orientation.specs.declared.rule.Rule.{Rule}
use Rattle.orientation.specs.Rules.{usual, is_above}
use Rattle.expansion_laws.specs.Trees.{Tree, Use, uses, origin, tree_of, a_single}
use Rattle.expansion_laws.specs.Steps.{Step, kind, is_entered, entered}
use Rattle.expansion_laws.specs.Rewriting.{rebuilt, is_pruned, remains}
use Rattle.expansion_laws.specs.UsualRule.{UsualRuleGoesThroughAll}
use Rattle.expansion_laws.proofs.Subtrees.{tree-parts}
use Rattle.expansion_laws.proofs.PartLemmas.{remains-stopped, remains-rebuilt}

-- a kind that isn't above that of vertices is that of vertices
lowest : (k : Kind) → is_above Ve k ≡ false → k ≡ Ve
lowest Ve e = refl
lowest Ed e = absurd cc
lowest Wi e = absurd cc
lowest Fa e = absurd cc
lowest Sh e = absurd cc
lowest So e = absurd cc
lowest CS e = absurd cc
lowest Co e = absurd cc

module _ (s : Step) (rule : s.rule ≡ usual) where
  stopped-lowest : (x : Tree) → is_entered s x ≡ false → kind s x ≡ Ve
  stopped-lowest x e = lowest (kind s x) (ap (λ (r : Rule). is_above r.stop (kind s x)) (sym rule) ∙ e)

  not-pruned : (x : Tree) (below : List Use) → is_pruned s x below ≡ false
  not-pruned x [] =
      ap (λ (r : Rule). is_pruned (record { kind_of_origin = s.kind_of_origin; requests = s.requests; rule = r }) x [])
      rule
  not-pruned x (v ∷ vs) = refl

  all-entered : (x : Tree) → (kind s x ≡ Ve → uses x ≡ []) → entered s x ≡ uses x
  all-entered x h = by_test (is_entered s x)
      (λ e. ap (λ b. if b then uses x else []) e)
      (λ e. ap (λ b. if b then uses x else []) e ∙ sym (h (stopped-lowest x e)))

  stays-over : (x : Tree) → (kind s x ≡ Ve → uses x ≡ []) → (u : Use) (below : List Use) → u.tree ≡ x →
      (uses x ≡ [] → below ≡ []) → remains s u below ≡ rebuilt u below ∷ []
  stays-over x h u below same none = by_test (is_entered s x)
      (λ e. remains-rebuilt s u below (ap (is_entered s) same ∙ e) (not-pruned u.tree below))
      (λ e. (
      let empty : uses x ≡ [] = h (stopped-lowest x e) in
      let own : uses u.tree ≡ below = ap uses same ∙ empty ∙ sym (none empty) in
      remains-stopped s u below (ap (is_entered s) same ∙ e) ∙
      (λ i. a_single u.turn u.word ((sym (tree-parts u.tree) ∙ ap (tree_of (origin u.tree)) own) i) ∷ [])
      ))

pub usual-goes-through : (s : Step) → UsualRuleGoesThroughAll s
usual-goes-through s rule x h = record { all_entered = all-entered s rule x h; stays_over = stays-over s rule x h }
