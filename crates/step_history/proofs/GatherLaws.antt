-- What is gathered of numbers.
use Rattle.std.proofs.Common.{◌≡◌, sym, ap, subst, inl, inr}
use Rattle.std.specs.Prelude.{◌↔◌, ℕ, List, Contains}
use Rattle.lists.specs.Gathering.{Adds}
use Rattle.lists.proofs.Gathering.{adds-one}
use Rattle.shape_pool.specs.declared.node.NodeId.{NodeId}
use Rattle.step_history.specs.Gathering.{IsNoted}

pub adds-noted : (P : ℕ → Type 0) (old new : List ℕ) (x : ℕ) → IsNoted old x new → P x → ((y : ℕ) → P y → x ≡ y) → Adds P old new
adds-noted P old new x (inr e) p only y = adds-one P old new x e p only y
adds-noted P old new x (inl n) p only y = (
  (λ m. inl (subst (λ l. Contains l y) n.1 m)),
  (λ h. subst (λ l. Contains l y) (sym n.1) (elim h [ inl k ↦ k | inr q ↦ subst (λ z. Contains old z) (only y q) n.0 ])),
)

-- ---- numbers of nodes
abbrev pub any_pair : NodeId × NodeId
any_pair = (record { 0 = 0 }, record { 0 = 0 })

abbrev pub id_of : ℕ → NodeId
id_of i = record { 0 = i }

pub named_by : (a b : NodeId) → a.0 ≡ b.0 → a ≡ b
named_by a b e = ap id_of e

-- the members of a slice of a list with those of another
pub members-of : {X : Type 0} (items copy xs : List X) → items ≡ copy → ((y : X) → Contains copy y ↔ Contains xs y) → (y : X) → Contains items y ↔ Contains xs y
members-of items copy xs e same y = ((λ m. (same y).0 (subst (λ l. Contains l y) e m)), (λ m. subst (λ l. Contains l y) (sym e) ((same y).1 m)))
