-- Trees with their labels replaced: twice, and by functions that agree.
use Rattle.std.proofs.Common.{◌≡◌, refl, ap}
use Rattle.std.specs.Prelude.{Contains}
use Rattle.std.proofs.lemmas.List.Elements.{Contains-append_left, Contains-append_right}
use Rattle.lists.proofs.Members.{Contains-here, Contains-there}
use Rattle.expansion_laws.specs.Trees.{LabelledTree, LabelledUses, node, no_use, a_use}
use Rattle.expansion_laws.specs.Measures.{subtrees, subtrees_below}
use Rattle.expansion_laws.specs.Sharing.{relabelled, relabelled_uses}

-- relabelling twice is relabelling once by both
module _ {L M N : Type 0} (f : LabelledTree L → M) (g : LabelledTree M → N) where
  mutual
    pub relabelled-twice : (x : LabelledTree L) → relabelled g (relabelled f x) ≡ relabelled (λ y. g (relabelled f y)) x
    relabelled-twice (node k us) = ap (λ l. node (g (relabelled f (node k us))) l) (uses-twice us)

    uses-twice : (us : LabelledUses L)
        → relabelled_uses g (relabelled_uses f us) ≡ relabelled_uses (λ y. g (relabelled f y)) us
    uses-twice no_use = refl
    uses-twice (a_use t w x others) = λ i. a_use t w (relabelled-twice x i) (uses-twice others i)

-- labels that agree on each subtree make one tree
module _ {L M : Type 0} (f g : LabelledTree L → M) where
  mutual
    pub relabelled-same : (x : LabelledTree L) → ((y : LabelledTree L) → Contains (subtrees x) y → f y ≡ g y)
        → relabelled f x ≡ relabelled g x
    relabelled-same (node k us) h =
        λ i. node (h (node k us) (Contains-here (node k us) (subtrees_below us)) i)
        (uses-same us (λ y m. h y (Contains-there (node k us) y (subtrees_below us) m)) i)

    uses-same : (us : LabelledUses L) → ((y : LabelledTree L) → Contains (subtrees_below us) y → f y ≡ g y)
        → relabelled_uses f us ≡ relabelled_uses g us
    uses-same no_use h = refl
    uses-same (a_use t w x others) h =
        λ i. a_use t w
        (relabelled-same x (λ y m. h y (Contains-append_left (subtrees x) (subtrees_below others) y m)) i)
        (uses-same others (λ y m. h y (Contains-append_right (subtrees x) (subtrees_below others) y m)) i)
