-- Nodes beside their depths.
use Rattle.std.proofs.Common.{◌≡◌, ◌<◌, ℕ, zero, suc, List, ◌∷◌, [], ◌++◌, length, take}
use Rattle.std.proofs.Common.{arith, ap, subst, refl, slice_get, slice_index_or, Some}
use Rattle.std.specs.Option.{option_map}
use Rattle.lists.proofs.Places.{same_entry}
use Rattle.std.specs.declared.alloc.Global.{Global}
use Rattle.std.specs.declared.rc.Rc.{Rc}
use Rattle.shape_pool.specs.declared.node.Node.{Node}
use Rattle.shape_pool.specs.declared.held.Held.{Held}
use Rattle.shape_pool.specs.Held.{held_of, stored_depth}

pub length-held_of : (ns : List (Rc Node Global)) (ds : List ℕ) → length ds ≡ length ns →
    length (held_of ns ds) ≡ length ns
length-held_of [] ds e = refl
length-held_of (n ∷ ns) [] e = absurd (omega (arith, e))
length-held_of (n ∷ ns) (d ∷ ds) e = ap suc (length-held_of ns ds (omega (arith, e)))

pub node-held_of : (ns : List (Rc Node Global)) (ds : List ℕ) → length ds ≡ length ns → (i : ℕ) (n : Rc Node Global) →
    slice_get ns i ≡ Some n →
    option_map (λ (h : Held). h.node) (slice_get (held_of ns ds) i) ≡ Some n
node-held_of [] ds e i n at = absurd cc
node-held_of (m ∷ ns) [] e i n at = absurd (omega (arith, e))
node-held_of (m ∷ ns) (d ∷ ds) e zero n at = at
node-held_of (m ∷ ns) (d ∷ ds) e (suc i) n at = node-held_of ns ds (omega (arith, e)) i n at

pub depth-held_of : (ns : List (Rc Node Global)) (ds : List ℕ) → length ds ≡ length ns → (i d : ℕ) → i < length ns →
    slice_index_or ds i d ≡ stored_depth (held_of ns ds) i
depth-held_of [] ds e i d lt = absurd (omega (arith, lt))
depth-held_of (m ∷ ns) [] e i d lt = absurd (omega (arith, e))
depth-held_of (m ∷ ns) (x ∷ ds) e zero d lt = refl
depth-held_of (m ∷ ns) (x ∷ ds) e (suc i) d lt = depth-held_of ns ds (omega (arith, e)) i d (omega (arith, lt))

pub push-held_of : (ns : List (Rc Node Global)) (ds : List ℕ) → length ds ≡ length ns → (n : Rc Node Global) (d : ℕ) →
    held_of (ns ++ n ∷ []) (ds ++ d ∷ []) ≡ held_of ns ds ++ (record { node = n; depth = d }) ∷ []
push-held_of [] [] e n d = refl
push-held_of [] (x ∷ ds) e n d = absurd (omega (arith, e))
push-held_of (m ∷ ns) [] e n d = absurd (omega (arith, e))
push-held_of (m ∷ ns) (x ∷ ds) e n d =
    ap (λ (hs : List Held). (record { node = m; depth = x }) ∷ hs) (push-held_of ns ds (omega (arith, e)) n d)

pub take-held_of : (k : ℕ) (ns : List (Rc Node Global)) (ds : List ℕ) →
    held_of (take k ns) (take k ds) ≡ take k (held_of ns ds)
take-held_of zero ns ds = refl
take-held_of (suc k) [] ds = refl
take-held_of (suc k) (n ∷ ns) [] = refl
take-held_of (suc k) (n ∷ ns) (d ∷ ds) =
    ap (λ (hs : List Held). (record { node = n; depth = d }) ∷ hs) (take-held_of k ns ds)

-- what is read at a number
pub node-at : (held : List Held) (i : ℕ) (n : Rc Node Global) →
    option_map (λ (h : Held). h.node) (slice_get held i) ≡ Some n →
    (h : Held) × (slice_get held i ≡ Some h) × (h.node ≡ n)
node-at [] i n e = absurd cc
node-at (h ∷ held) zero n e = (h, refl, same_entry refl e)
node-at (h ∷ held) (suc i) n e = node-at held i n e

-- what is said of a node that is read there
pub node-says : (held : List Held) (i : ℕ) (n : Rc Node Global) →
    option_map (λ (h : Held). h.node) (slice_get held i) ≡ Some n → (P : Rc Node Global → Type 0) →
    ((h : Held) → slice_get held i ≡ Some h → P h.node) → P n
node-says held i n e P f = let q = node-at held i n e in subst P q.2 (f q.0 q.1)
