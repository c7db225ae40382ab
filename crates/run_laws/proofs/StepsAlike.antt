-- Steps that have the same requests for each tree, in the same order: they rewrite alike and have one graph.
use Rattle.std.proofs.Common.{refl, sym, ap, subst, ◌∙◌}
use Rattle.std.specs.Prelude.{◌≡◌, ◌&&◌, ℕ, zero, suc, Bool, None, if◌then◌else◌}
use Rattle.std.specs.Prelude.{List, [], ◌∷◌, ◌++◌, filter}
use Rattle.std.specs.List.{flat_map, last_or, list_any}
use Rattle.lists.proofs.Cases.{by_test}
use Rattle.orientation.specs.declared.kind.Kind.{Kind}
use Rattle.orientation.specs.declared.rule.Rule.{Rule}
use Rattle.expansion_laws.specs.Trees.{Tree, Use}
use Rattle.expansion_laws.specs.Contexts.{Context, at_root, inside}
use Rattle.expansion_laws.specs.Demands.{demands, demands_by}
use Rattle.expansion_laws.specs.Graph.{edges, targets, trees_of}
use Rattle.expansion_laws.specs.Requests.{Request, allows, is_for, match_of}
use Rattle.expansion_laws.specs.Requests.{from_last_unconditional, is_unconditional, requests_for}
use Rattle.expansion_laws.specs.Rewriting.{by_match, results_within, Rewrites, StepsTo}
use Rattle.expansion_laws.specs.Steps.{Step, entered}

pub record AskAlike (rs qs : List Request) : Type 0 where
  pub same : (x : Tree) → requests_for rs x ≡ requests_for qs x

pub ask-back : (rs qs : List Request) → AskAlike rs qs → AskAlike qs rs
ask-back rs qs a = record { same = λ x. sym (a.same x) }

filter-and : {X : Type 0} (p q : X → Bool) (xs : List X) → filter (λ x. p x && q x) xs ≡ filter q (filter p xs)
filter-and p q [] = refl
filter-and p q (x ∷ xs) = by_test (p x)
    (λ e. by_test (q x) (λ f. rw (e, f) (ap (λ l. x ∷ l) (filter-and p q xs))) (λ f. rw (e, f) (filter-and p q xs)))
    (λ e. rw e (filter-and p q xs))

pub match-same : (rs qs : List Request) → AskAlike rs qs → (x : Tree) (here : Context) →
    match_of rs x here ≡ match_of qs x here
match-same rs qs a x here =
    ap (λ l. last_or None l) (filter-and (is_for x) (allows here) rs ∙ ap (filter (allows here)) (a.same x) ∙
    sym (filter-and (is_for x) (allows here) qs))

module _ (kinds : ℕ → Kind) (rule : Rule) where
  -- the step of some requests
  abbrev pub step : List Request → Step
  step rs = record { kind_of_origin = kinds; requests = rs; rule = rule }

  module _ (rs qs : List Request) (a : AskAlike rs qs) where
    pub results-same : (n : ℕ) → results_within (step rs) n ≡ results_within (step qs) n
    unfolding results_within
    results-same zero = refl
    results-same (suc n) =
        λ i c u. by_match (step rs) (λ d v. results-same n i d v) c u (match-same rs qs a u.tree (inside c u) i)

    pub rewrites : (c : Context) (u : Use) (results : List Use) → Rewrites (step rs) c u results →
        Rewrites (step qs) c u results
    rewrites c u results r = (r.0, sym (λ i. results-same r.0 i c u) ∙ r.1)

    pub steps-to : (root new : Use) → StepsTo (step rs) root new → StepsTo (step qs) root new
    steps-to root new h = (h.0, rewrites at_root root h.0 h.1, h.2)

    pub edges-same : edges (step rs) ≡ edges (step qs)
    edges-same =
        λ i x.
        flat_map (λ (r : Request). targets (step rs) x r.act) (from_last_unconditional (a.same x i)) ++
        (if list_any is_unconditional (a.same x i) then [] else trees_of (entered (step rs) x))

    pub demands-same : (x : Tree) (here : Context) → demands (step rs) x here ≡ demands (step qs) x here
    demands-same x here = λ i. demands_by (step rs) x here (match-same rs qs a x here i)

-- steps of the same kinds and rule whose requests are alike
pub record StepAlike (s t : Step) : Type 0 where
  pub kinds : s.kind_of_origin ≡ t.kind_of_origin
  pub rule : s.rule ≡ t.rule
  pub asked : AskAlike s.requests t.requests

pub step-back : (s t : Step) → StepAlike s t → StepAlike t s
step-back s t a =
    record { kinds = sym a.kinds; rule = sym a.rule; asked = ask-back s.requests t.requests a.asked }

-- what goes over between requests that are alike goes over between steps that are
pub lift : (D : Step → Type 0) → ((kinds : ℕ → Kind) (rule : Rule) (rs qs : List Request) → AskAlike rs qs →
    D (step kinds rule rs) → D (step kinds rule qs)) → (s t : Step) → StepAlike s t → D s → D t
lift D h s t a d =
    h t.kind_of_origin t.rule s.requests t.requests a.asked
    (subst D (λ i. record { kind_of_origin = a.kinds i; requests = s.requests; rule = a.rule i }) d)
