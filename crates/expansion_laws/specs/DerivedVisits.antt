-- The visits of a derivation, and where the results of visits stand.
use Rattle.std.specs.Prelude.{◌↔◌, List, [], ◌∷◌, ◌++◌, Contains}
use Rattle.expansion_laws.specs.Trees.{Tree, Use}
use Rattle.expansion_laws.specs.Measures.{OccursIn}
use Rattle.expansion_laws.specs.Contexts.{Context, inside}
use Rattle.expansion_laws.specs.Steps.{Step}
use Rattle.expansion_laws.specs.Rewriting.{RelativeResults, StepsTo}
use Rattle.expansion_laws.specs.Derivations.{Derives, DeriveAll, stopped, unmatched}
use Rattle.expansion_laws.specs.Derivations.{pruned, removed, replaced, none, next}
use Rattle.expansion_laws.specs.Visits.{LeadsTo, IsVisit}

-- what a derivation uses a case for: the trees of uses with their accumulated turns and words
abbrev mutual
  pub visits_of : {s : Step} {c : Context} {u : Use} {results : List Use} → Derives s c u results →
      List (Tree × Context)
  visits_of (stopped {c = c} {u = u} m e) = (u.tree, inside c u) ∷ []
  visits_of (unmatched {c = c} {u = u} m e below p) = (u.tree, inside c u) ∷ visits_of_all below
  visits_of (pruned {c = c} {u = u} m e below p) = (u.tree, inside c u) ∷ visits_of_all below
  visits_of (removed {c = c} {u = u} r m e) = (u.tree, inside c u) ∷ []
  visits_of (replaced {c = c} {u = u} r by m e onward) = (u.tree, inside c u) ∷ visits_of_all onward

  pub visits_of_all : {s : Step} {c : Context} {us results : List Use} → DeriveAll s c us results →
      List (Tree × Context)
  visits_of_all none = []
  visits_of_all (next first rest) = visits_of first ++ visits_of_all rest

-- the visits of a derivation are those that the visit of its use leads to
abbrev pub VisitsAreDerived : Step → Type 0
VisitsAreDerived s =
    (c : Context) (u : Use) (results : List Use) (d : Derives s c u results) (x : Tree) (here : Context) →
    LeadsTo s u.tree (inside c u) x here ↔ Contains (visits_of d) (x, here)

-- the tree of each relative result of a visit occurs in the new root
abbrev pub VisitsResultsOccur : Step → Type 0
VisitsResultsOccur s = (root new : Use) (x : Tree) (here : Context) (parts : List Use) (v : Use) →
    StepsTo s root new → IsVisit s root x here → RelativeResults s x here parts → Contains parts v →
    OccursIn v.tree new.tree
