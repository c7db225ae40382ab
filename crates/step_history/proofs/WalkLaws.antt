-- Walks that go over nothing twice meet what is reached.
use Rattle.std.proofs.Common.{◌≡◌, sym, ◌∙◌, ap, subst, append_assoc, append-nil, inl, inr}
use Rattle.std.specs.Prelude.{◌↔◌, ℕ, List, [], ◌∷◌, ◌++◌, Contains}
use Rattle.std.proofs.lemmas.List.Elements.{Contains-append_left, Contains-append_right, Contains-append_cases, Contains-push}
use Rattle.lists.proofs.Members.{Contains-here, Contains-cases, Contains-none}
use Rattle.graph_walks.specs.Walks.{Reaches, itself, along}
use Rattle.shape_pool.specs.Rows.{Row}
use Rattle.shape_pool.specs.Laws.{ids_used}
use Rattle.step_history.specs.Gathering.{IsNoted, IsClosed, Meets}

-- one thing alone
pub Contains-one : {X : Type 0} (x y : X) → Contains (x ∷ []) y → x ≡ y
Contains-one x y m = elim (Contains-cases x y [] m) [ inl e ↦ e | inr k ↦ absurd (Contains-none y k) ]

pub Contains-nothing : {X : Type 0} (xs : List X) (x : X) → xs ≡ [] → Contains xs x → ⊥
Contains-nothing xs x e m = Contains-none x (subst (λ l. Contains l x) e m)

module _ (rows : List Row) where
  pub closed-reaches : (met : List ℕ) → IsClosed rows met → {i j : ℕ} → Reaches (ids_used rows) i j → Contains met i → Contains met j
  closed-reaches met closed itself m = m
  closed-reaches met closed (along {x = x} y e r) m = closed-reaches met closed r (closed x y m e)

  pub meets-none : (old : List ℕ) → IsClosed rows old → Meets rows [] old old
  meets-none old closed = record {
    more = [];
    grows = sym (append-nil old);
    reached = λ i m. absurd (Contains-none i m);
    closed = closed;
    all = λ j m. absurd (Contains-none j m);
  }

  pub meets-already : (i : ℕ) (old : List ℕ) → Contains old i → IsClosed rows old → Meets rows (i ∷ []) old old
  meets-already i old h closed = record {
    more = [];
    grows = sym (append-nil old);
    reached = λ j m. absurd (Contains-none j m);
    closed = closed;
    all = λ j m. subst (λ z. Contains old z) (Contains-one i j m) h;
  }

  pub meets-next : (ids a b c : List ℕ) (j : ℕ) → Meets rows ids a b → Meets rows (j ∷ []) b c → Meets rows (ids ++ j ∷ []) a c
  meets-next ids a b c j x y = record {
    more = x.more ++ y.more;
    grows = y.grows ∙ ap (λ l. l ++ y.more) x.grows ∙ append_assoc a x.more y.more;
    reached = λ i m. elim (Contains-append_cases x.more y.more i m) [
      | inl k ↦ (let r = x.reached i k in (r.0, Contains-append_left ids (j ∷ []) r.0 r.1, r.2))
      | inr k ↦ (let r = y.reached i k in (r.0, Contains-append_right ids (j ∷ []) r.0 r.1, r.2))
    ];
    closed = y.closed;
    all = λ i m. elim (Contains-append_cases ids (j ∷ []) i m) [
      | inl k ↦ subst (λ l. Contains l i) (sym y.grows) (Contains-append_left b y.more i (x.all i k))
      | inr k ↦ y.all i k
    ];
  }

  closed-more : (i : ℕ) (mid : List ℕ) → IsClosed rows mid → ((j : ℕ) → Contains (ids_used rows i) j → Contains mid j) → IsClosed rows (mid ++ i ∷ [])
  closed-more i mid closed all k j m e = elim (Contains-append_cases mid (i ∷ []) k m) [
    | inl h ↦ Contains-append_left mid (i ∷ []) j (closed k j h e)
    | inr h ↦ Contains-append_left mid (i ∷ []) j (all j (subst (λ z. Contains (ids_used rows z) j) (sym (Contains-one i k h)) e))
  ]

  reached-more : (i : ℕ) (more : List ℕ) → ((k : ℕ) → Contains more k → (j : ℕ) × Contains (ids_used rows i) j × Reaches (ids_used rows) j k) →
      (k : ℕ) → Contains more k → (j : ℕ) × Contains (i ∷ []) j × Reaches (ids_used rows) j k
  reached-more i more h k m = let r = h k m in (i, Contains-here i [], along r.0 r.1 r.2)

  pub meets-itself : (i : ℕ) (old mid new : List ℕ) → Meets rows (ids_used rows i) old mid → IsNoted mid i new → Meets rows (i ∷ []) old new
  meets-itself i old mid new x (inl n) = record {
    more = x.more;
    grows = n.1 ∙ x.grows;
    reached = reached-more i x.more x.reached;
    closed = subst (IsClosed rows) (sym n.1) x.closed;
    all = λ j m. subst (λ l. Contains l j) (sym n.1) (subst (λ z. Contains mid z) (Contains-one i j m) n.0);
  }
  meets-itself i old mid new x (inr e) = record {
    more = x.more ++ i ∷ [];
    grows = e ∙ ap (λ l. l ++ i ∷ []) x.grows ∙ append_assoc old x.more (i ∷ []);
    reached = λ k m. elim (Contains-append_cases x.more (i ∷ []) k m) [
      | inl h ↦ reached-more i x.more x.reached k h
      | inr h ↦ (i, Contains-here i [], subst (λ z. Reaches (ids_used rows) i z) (Contains-one i k h) itself)
    ];
    closed = subst (IsClosed rows) (sym e) (closed-more i mid x.closed x.all);
    all = λ j m. subst (λ l. Contains l j) (sym e) (subst (λ z. Contains (mid ++ i ∷ []) z) (Contains-one i j m) (Contains-push mid i));
  }

  -- from nothing a root meets what it reaches
  pub met-reached : (root : ℕ) (met : List ℕ) → Meets rows (root ∷ []) [] met → (i : ℕ) → Contains met i ↔ Reaches (ids_used rows) root i
  met-reached root met x i = (
    (λ m. let r = x.reached i (subst (λ l. Contains l i) x.grows m) in subst (λ z. Reaches (ids_used rows) z i) (sym (Contains-one root r.0 r.1)) r.2),
    (λ r. closed-reaches met x.closed r (x.all root (Contains-here root []))),
  )
