-- The turns of collecting: one use more, one key more, one place more.
use Rattle.std.proofs.Common.{◌≡◌, ◌≤◌, ◌<◌, ◌+◌, ◌∙◌, ◌++◌, ◌∷◌, ℕ, zero, suc, List, [], Contains, length, take}
use Rattle.std.proofs.Common.{arith, refl, sym, ap, subst, slice_get, Some, inl, inr}
use Rattle.std.specs.Prelude.{Vec}
use Rattle.std.specs.Global.{Global}
use Rattle.std.proofs.lemmas.List.{take_all, length-map}
use Rattle.std.proofs.lemmas.List.Elements.{All-nil, Contains-push_cases}
use Rattle.std.proofs.lemmas.Option.{slice_get_within}
use Rattle.lists.proofs.Cases.{same_or_not}
use Rattle.lists.proofs.Entries.{All-from, All-none}
use Rattle.lists.proofs.Members.{Contains-here, Contains-cases, Contains-map, Contains-none, Contains-map_cases}
use Rattle.lists.proofs.Places.{take-at}
use Rattle.location_words.specs.declared.pair.Pair.{Pair}
use Rattle.expansion_laws.specs.Trees.{Use}
use Rattle.expansion_laws.specs.Contexts.{at_root, inside}
use Rattle.expansion_laws.specs.Steps.{Step}
use Rattle.expansion_laws.specs.Keys.{IsKey, IsKeyOfStep}
use Rattle.expansion_laws.specs.Visits.{itself}
use Rattle.shape_pool.specs.declared.node.UseOf.{UseOf}
use Rattle.shape_pool.specs.Rows.{Row, tree_at}
use Rattle.requests.specs.Plans.{PlannedNode, ids_of}
use Rattle.key_results.specs.declared.key.Key.{Key}
use Rattle.key_results.specs.declared.words.Mover.{Mover}
use Rattle.key_results.specs.Memos.{key_by, context_by, IsHeldKey}
use Rattle.reshape.specs.declared.asked.Asked.{Asked}
use Rattle.reshape.specs.Asking.{moved_use, Asks}
use Rattle.reshape.specs.Collecting.{keys_at, worded, AreFound, IsNoted, IsKeyFrom, HasKeyFrom, HasAsked, AreOfStep}
use Rattle.reshape.specs.Collecting.{IsCollected, AreCollectedFrom, IsDemanded}
use Rattle.reshape.proofs.NoteLaws.{noted-has, noted-all}

-- ---- no keys yet
pub found-none : (rows : List Row) (n : ℕ) (nodes : List PlannedNode) (keys : List Key) (at : List (Vec Key Global))
    (count : ℕ) → keys ≡ [] →
    length at ≡ length nodes → ((p : ℕ) → keys_at at p ≡ []) → count ≡ 0 → AreFound rows n nodes keys at count
found-none rows n nodes keys at count e long none nought =
    subst (λ (l : List Key). AreFound rows n nodes l at count) (sym e) (record {
      long = long;
      held = All-nil (IsHeldKey rows n);
      distinct = tt;
      placed = λ k m. absurd (Contains-none k m);
      back = λ p k m. absurd (Contains-none k (subst (λ (l : List Key). Contains l k) (none p) m));
      counted = nought;
      few = omega (arith, nought);
    })

-- ---- one key more, of a use that the visits of a key ask for
module _ (rows : List Row) (n : ℕ) (nodes : List PlannedNode) (s : Step) (word : ℕ → List Pair) (from : Key) (m : Mover)
    (u : UseOf) (place : ℕ) (key : Key)
    (keys : List Key) (at : List (Vec Key Global)) (count : ℕ) (now : List Key) (now_at : List (Vec Key Global))
    (now_count : ℕ)
    (found : AreFound rows n nodes keys at count) (noted : IsNoted place key keys at now now_at)
    (is_held : IsHeldKey rows n key) (is_at : slice_get (ids_of nodes) place ≡ Some key.id.0) where
  pub one-collected : IsKeyFrom rows s word from m u (key_by word rows key) →
      ((p : ℕ) → slice_get (ids_of nodes) p ≡ Some from.id.0 → place < p) →
      ((root : Use) → IsKeyOfStep s root (key_by word rows from) → IsKeyOfStep s root (key_by word rows key)) →
      IsCollected rows s word nodes from m (u ∷ []) keys at now now_at
  one-collected is before of-step = record {
    has = λ v k. elim (Contains-cases u v [] k) [
      | inl e ↦ subst (HasKeyFrom rows s word now from m) e
          (key, noted-has rows n nodes place key keys at count now now_at now_count found noted is_held is_at, is)
      | inr w ↦ absurd (Contains-none v w)
    ];
    earlier = λ p q e le. noted.others q (λ same. let lt = before p e in omega (arith, lt, le, same));
    sound = λ root all k. noted-all rows n nodes place key keys at count now now_at now_count found noted is_held is_at
        (λ (z : Key). IsKeyOfStep s root (key_by word rows z)) all (of-step root k);
  }

-- ---- one use more
pub collected-none : (rows : List Row) (s : Step) (word : ℕ → List Pair) (nodes : List PlannedNode) (from : Key)
    (m : Mover) (keys : List Key)
    (at : List (Vec Key Global)) → IsCollected rows s word nodes from m [] keys at keys at
collected-none rows s word nodes from m keys at = record {
  has = λ u k. absurd (Contains-none u k);
  earlier = λ p q e le. refl;
  sound = λ root all k. all;
}

pub collected-next : (rows : List Row) (s : Step) (word : ℕ → List Pair) (nodes : List PlannedNode) (from : Key)
    (m : Mover) (us : List UseOf) (i : ℕ) (u : UseOf)
    (keys mid now : List Key) (at mid_at now_at : List (Vec Key Global)) → slice_get us i ≡ Some u →
    ((k : Key) → Contains mid k → Contains now k) →
    IsCollected rows s word nodes from m (take i us) keys at mid mid_at →
    IsCollected rows s word nodes from m (u ∷ []) mid mid_at now now_at →
    IsCollected rows s word nodes from m (take (i + 1) us) keys at now now_at
collected-next rows s word nodes from m us i u keys mid now at mid_at now_at e more a b = record {
  has =
      λ v k. elim (Contains-push_cases (take i us) u v (subst (λ (l : List UseOf). Contains l v) (take-at us i u e) k)) [
        | inl w ↦ (let h = a.has v w in (h.0, more h.0 h.1, h.2))
        | inr same ↦ subst (HasKeyFrom rows s word now from m) same (b.has u (Contains-here u []))
      ];
  earlier = λ p q is le. b.earlier p q is le ∙ a.earlier p q is le;
  sound = λ root all k. b.sound root (a.sound root all k) k;
}

pub collected-all : (rows : List Row) (s : Step) (word : ℕ → List Pair) (nodes : List PlannedNode) (from : Key)
    (m : Mover) (us : List UseOf) (i : ℕ)
    (keys now : List Key) (at now_at : List (Vec Key Global)) → length us ≤ i →
    IsCollected rows s word nodes from m (take i us) keys at now now_at →
    IsCollected rows s word nodes from m us keys at now now_at
collected-all rows s word nodes from m us i keys now at now_at le a =
    subst (λ (l : List UseOf). IsCollected rows s word nodes from m l keys at now now_at) (take_all i us le) a

-- each use that is asked for is demanded
pub asked-demanded : (rows : List Row) (s : Step) (word : ℕ → List Pair) (key : Key) (a : Asked) →
    Asks s word rows key.id.0 (context_by word key) a →
    (u : UseOf) → Contains a.uses.items u → IsDemanded rows s word key a.mover u
asked-demanded rows s word key a asks u m =
    subst (λ (us : List Use). Contains us (moved_use word (tree_at word rows) a.mover u)) (sym asks.asked)
    (Contains-map (moved_use word (tree_at word rows) a.mover) u a.uses.items m)

-- so all that a key asks for is found
pub has-asked : (rows : List Row) (s : Step) (word : ℕ → List Pair) (nodes : List PlannedNode) (key : Key) (a : Asked)
    (keys now : List Key)
    (at now_at : List (Vec Key Global)) → Asks s word rows key.id.0 (context_by word key) a →
    IsCollected rows s word nodes key a.mover a.uses.items keys at now now_at → HasAsked rows s word now key
has-asked rows s word nodes key a keys now at now_at asks c v m =
    let from = Contains-map_cases (moved_use word (tree_at word rows) a.mover) v a.uses.items
    (subst (λ (us : List Use). Contains us v) asks.asked m) in
    let h = c.has from.0 from.1 in
    (h.0, h.1, subst (λ (w : Use). IsKey s w.tree (inside (context_by word key) w) (key_by word rows h.0)) from.2 h.2)

pub asked-more : (rows : List Row) (s : Step) (word : ℕ → List Pair) (keys now : List Key) (k : Key) →
    ((l : Key) → Contains keys l → Contains now l) →
    HasAsked rows s word keys k → HasAsked rows s word now k
asked-more rows s word keys now k more h v m = let l = h v m in (l.0, more l.0 l.1, l.2)

-- ---- one place more
-- no key stands past the places of the plan
pub none-past : (rows : List Row) (n : ℕ) (nodes : List PlannedNode) (keys : List Key) (at : List (Vec Key Global))
    (count q : ℕ) (k : Key) →
    AreFound rows n nodes keys at count → length nodes ≤ q → Contains (keys_at at q) k → ⊥
none-past rows n nodes keys at count q k found le m =
    let b = found.back q k m in
    let within = slice_get_within (ids_of nodes) q k.id.0 b.1 in
    let long = length-map nodes (λ (p : PlannedNode). p.id) in
    omega (arith, within, long, le)

past : (p q r : ℕ) → suc p ≡ q → p ≤ r → (p ≡ r → ⊥) → q ≤ r
past p q zero e le h = absurd (h (omega (arith, le)))
past zero q (suc r) e le h = omega (arith, e)
past (suc p) q (suc r) e le h =
    (let rest = past p (suc p) r refl (omega (arith, le)) (λ z. h (ap suc z)) in omega (arith, rest, e))

pub place-more : (rows : List Row) (s : Step) (word : ℕ → List Pair) (root : Use) (p q : ℕ) (keys now : List Key)
    (at now_at : List (Vec Key Global)) → suc p ≡ q →
    ((k : Key) → Contains keys k → Contains now k) → ((r : ℕ) → p ≤ r → keys_at now_at r ≡ keys_at at r) →
    ((k : Key) → Contains (keys_at now_at p) k → HasAsked rows s word now k) →
    (AreOfStep rows s word root keys → AreOfStep rows s word root now) →
    AreCollectedFrom rows s word root keys at q → AreCollectedFrom rows s word root now now_at p
place-more rows s word root p q keys now at now_at e more later has sound c = record {
  of_step = sound c.of_step;
  first = (let f = c.first in (f.0, more f.0 f.1, f.2));
  closed = λ r k le m. same_or_not r p
      (λ same. has k (subst (λ (x : ℕ). Contains (keys_at now_at x) k) same m))
      (λ other. asked-more rows s word keys now k more
      (c.closed r k (past p q r e le (λ z. other (sym z))) (subst (λ (l : List Key). Contains l k) (later r le) m)));
}

-- ---- the root's key
pub root-collected : (rows : List Row) (n : ℕ) (nodes : List PlannedNode) (s : Step) (word : ℕ → List Pair) (root : Use)
    (key : Key)
    (keys now : List Key) (now_at : List (Vec Key Global)) (count : ℕ) → keys ≡ [] → now ≡ keys ++ key ∷ [] →
    AreFound rows n nodes now now_at count → IsKey s root.tree (inside at_root root) (key_by word rows key) →
    AreCollectedFrom rows s word root now now_at (length nodes)
root-collected rows n nodes s word root key keys now now_at count none is found of-root =
    let only : now ≡ key ∷ [] = is ∙ ap (λ (l : List Key). l ++ key ∷ []) none in
    record {
      of_step =
          subst (AreOfStep rows s word root) (sym only)
          (All-from (λ (z : Key). IsKeyOfStep s root (key_by word rows z)) key []
          (root.tree, inside at_root root, itself, of-root)
          (All-none (λ (z : Key). IsKeyOfStep s root (key_by word rows z))));
      first = (key, subst (λ (l : List Key). Contains l key) (sym only) (Contains-here key []), of-root);
      closed = λ q k le m. absurd (none-past rows n nodes now now_at count q k found le m);
    }

pub none-worded : (keys : List Key) (count : ℕ) → keys ≡ [] → count ≡ 0 → count ≡ worded keys
none-worded keys count e z = z ∙ sym (ap worded e)
