-- Images compose.
use Rattle.std.proofs.Common.{refl, sym, subst}
use Rattle.std.specs.Prelude.{◌↔◌, List, Contains}
use Rattle.orientation.specs.declared.kind.Kind.{Kind}
use Rattle.expansion_laws.specs.Trees.{Tree}
use Rattle.step_history.specs.Composition.{followed_by, no_history}
use Rattle.history_merge.specs.Merged.{ImagesCompose, IsOfRoot, pairs_of}

grouped : (a b c : List (Tree × Tree)) (t x : Tree) →
    followed_by (followed_by (pairs_of a) (pairs_of b)) (pairs_of c) t x ↔ followed_by (pairs_of a) (followed_by (pairs_of b) (pairs_of c)) t x
grouped a b c t x = (
  (λ h. let f = h.1 in (f.0, f.1, (h.0, f.2, h.2))),
  (λ h. let f = h.2 in (f.0, (h.0, h.1, f.1), f.2)),
)

before : (kind_of : Tree → Kind) (root : Tree) (a : List (Tree × Tree)) → ((t x : Tree) → Contains a (t, x) → IsOfRoot kind_of root t) →
    (t x : Tree) → followed_by (no_history kind_of root).images (pairs_of a) t x ↔ Contains a (t, x)
before kind_of root a own t x = (
  (λ h. let f = h.1 in subst (λ (z : Tree). Contains a (z, x)) (sym f.0) h.2),
  (λ m. let o = own t x m in (t, (refl, o.0, o.1), m)),
)

after : (kind_of : Tree → Kind) (root : Tree) (a : List (Tree × Tree)) → ((t x : Tree) → Contains a (t, x) → IsOfRoot kind_of root x) →
    (t x : Tree) → followed_by (pairs_of a) (no_history kind_of root).images t x ↔ Contains a (t, x)
after kind_of root a own t x = (
  (λ h. let f = h.2 in subst (λ (z : Tree). Contains a (t, z)) f.0 h.1),
  (λ m. let o = own t x m in (x, m, (refl, o.0, o.1))),
)

pub images-compose : ImagesCompose
images-compose = record { grouped = grouped; before = before; after = after }
