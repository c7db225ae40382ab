-- What a visit asks for, by numbers and among trees.
use Rattle.std.proofs.Common.{◌≡◌, ◌<◌, ℕ, Bool, true, false, List, map, ◌++◌, ◌∷◌, [], All, length, if◌then◌else◌}
use Rattle.std.proofs.Common.{◌≤◌, ◌+◌, take, slice_get}
use Rattle.std.proofs.lemmas.List.{map-append, take_all}
use Rattle.lists.proofs.Places.{take-at}
use Rattle.orientation.specs.declared.turn.Turn.{Turn}
use Rattle.std.proofs.Common.{arith, sym, ◌∙◌, ap, subst, refl, Option, Some, None}
use Rattle.std.specs.Prelude.{◌&&◌, not, is_some}
use Rattle.lists.specs.Sameness.{is_empty}
use Rattle.lists.proofs.Members.{map-map}
use Rattle.orientation.specs.declared.turn.Turn.TheVariants.{Forward}
use Rattle.orientation.specs.declared.kind.Kind.{Kind}
use Rattle.orientation.specs.Kinds.{kind_eq}
use Rattle.orientation.specs.Turns.{composed}
use Rattle.location_words.specs.declared.pair.Pair.{Pair}
use Rattle.location_words.specs.declared.table.WordId.{WordId}
use Rattle.shape_pool.specs.declared.node.NodeId.{NodeId}
use Rattle.location_words.specs.Pairs.{IsWord, mul, inverse}
use Rattle.location_words.specs.Laws.{WordsAreAGroup}
use Rattle.expansion_laws.specs.Trees.{Tree, Use, a_single, origin, uses, tree_of, list_of, uses_of}
use Rattle.expansion_laws.specs.Contexts.{Context, bare, carried}
use Rattle.expansion_laws.specs.Requests.{Request as TreeRequest, match_of, remove, replace}
use Rattle.expansion_laws.specs.Steps.{Step, kind, is_entered, moving_word, new_use, onward}
use Rattle.expansion_laws.specs.Rewriting.{is_pruned, rebuilt}
use Rattle.expansion_laws.specs.Demands.{demands_by, demands_of_act, gathered_by}
use Rattle.shape_pool.specs.declared.node.UseOf.{UseOf}
use Rattle.shape_pool.specs.Rows.{Row, kind_at, origin_at, uses_at, use_by, tree_at, HasPlaces, HaveKinds}
use Rattle.shape_pool.specs.Laws.{IsSound}
use Rattle.requests.specs.Readings.{place_by}
use Rattle.reshape.specs.declared.asked.Asked.{Asked}
use Rattle.key_results.specs.declared.derive.Outcome.TheVariants.{Stays, Rebuilt, Joined}
use Rattle.key_results.specs.declared.words.Mover.{Mover}
use Rattle.key_results.specs.Words.{moved_word}
use Rattle.key_results.specs.Derivations.{made_of}
use Rattle.key_results.specs.Derived.{IsMetAs}
use Rattle.reshape.specs.Asking.{moved_use, turned_use, back_word, IsOneUse, IsHeldAsked, Asks}
use Rattle.std.proofs.lemmas.List.Elements.{All-contains, All-nil}
use Rattle.lists.proofs.Cases.{by_test}
use Rattle.lists.proofs.Each.{All-from_members}
use Rattle.lists.proofs.Members.{Contains-map_cases, Contains-cases, Contains-none}
use Rattle.std.proofs.Common.{Contains, inl, inr}

list_of-uses_of : (us : List Use) → list_of (uses_of us) ≡ us
list_of-uses_of [] = refl
list_of-uses_of (u ∷ us) = ap (λ l. u ∷ l) (list_of-uses_of us)

module _ (rows : List Row) (sound : IsSound rows) (word : ℕ → List Pair) where
  abbrev tree : ℕ → Tree
  tree = tree_at word rows

  pub uses-at-tree : (id : ℕ) → id < length rows → uses (tree id) ≡ map (use_by word tree) (uses_at rows id)
  uses-at-tree id h =
      ap uses (sound.trees_of_uses word id h) ∙ list_of-uses_of (map (use_by word tree) (uses_at rows id))

  pub origin-at-tree : (id : ℕ) → id < length rows → origin (tree id) ≡ origin_at rows id
  origin-at-tree id h = ap origin (sound.trees_of_uses word id h)

  pub kind-at-tree : (s : Step) (kinds : ℕ → Kind) → HaveKinds rows kinds → s.kind_of_origin ≡ kinds → (id : ℕ) →
      id < length rows →
      kind s (tree id) ≡ kind_at rows id
  kind-at-tree s kinds have e id h = (λ i. e i (origin-at-tree id h i)) ∙ have id h

  -- ---- where no request meets the visit
  idle : WordsAreAGroup → (m : Mover) → m.back.0 ≡ 0 → m.by.0 ≡ 0 → word 0 ≡ [] → ((i : ℕ) → IsWord (word i)) →
      (own : ℕ) → moved_word word m own ≡ word own
  idle group m back by none words own =
      let drop : (n : ℕ) → n ≡ 0 → mul (word n) (word own) ≡ word own =
      (λ n e. ap (λ k. mul (word k) (word own)) e ∙ ap (λ w. mul w (word own)) none ∙
      group.identity_outer (word own) (words own)) in
      ap (mul (word m.back.0)) (drop m.by.0 by) ∙ drop m.back.0 back

  plain-uses : WordsAreAGroup → (m : Mover) → m.back.0 ≡ 0 → m.by.0 ≡ 0 → word 0 ≡ [] → ((i : ℕ) → IsWord (word i)) →
      (us : List UseOf) →
      map (moved_use word tree m) (map (turned_use Forward) us) ≡ map (use_by word tree) us
  plain-uses group m back by none words us =
      map-map (turned_use Forward) (moved_use word tree m) (use_by word tree) us
      (λ u h i. a_single u.turn (idle group m back by none words u.place.0 i) (tree u.id.0))

  pub asks-nothing : (s : Step) (id : ℕ) (here : Context) (a : Asked) → match_of s.requests (tree id) here ≡ None →
      is_entered s (tree id) ≡ false →
      a.outcome ≡ Stays → a.uses.items ≡ [] → Asks s word rows id here a
  asks-nothing s id here a m e o none = record {
    asked = ap (demands_by s (tree id) here) m ∙ ap (λ b. if b then uses (tree id) else []) e ∙
        sym (ap (map (moved_use word tree a.mover)) none);
    made = λ parts. ap (λ q. gathered_by s (tree id) here q parts) m ∙
        ap
        (λ b. if b then (if is_pruned s (tree id) parts then [] else rebuilt (bare (tree id)) parts ∷ [])
        else bare (tree id) ∷ []) e ∙
        sym (ap (λ q. made_of q s.rule.prune (is_empty a.uses.items) (tree id) parts) o);
    met = subst (λ q. IsMetAs s (tree id) here q) (sym o) (m, e);
  }

  and-true : (b : Bool) → (b && true) ≡ b
  and-true true = refl
  and-true false = refl

  and-false : (a b : Bool) → (a && b && false) ≡ false
  and-false true true = refl
  and-false true false = refl
  and-false false b = refl

  pruned-by : (s : Step) (x : Tree) (n : Bool) (parts : List Use) → is_empty (uses x) ≡ n →
      is_pruned s x parts ≡ (s.rule.prune && not n && is_empty parts)
  pruned-by s x n [] e = ap (λ b. s.rule.prune && not b) e ∙ sym (and-true (s.rule.prune && not n))
  pruned-by s x n (u ∷ us) e = sym (and-false s.rule.prune (not n))

  empty-map : {X Y : Type 0} (f : X → Y) (xs : List X) → is_empty (map f xs) ≡ is_empty xs
  empty-map f [] = refl
  empty-map f (x ∷ xs) = refl

  pub asks-uses : WordsAreAGroup → word 0 ≡ [] → ((i : ℕ) → IsWord (word i)) →
      (s : Step) (id : ℕ) (here : Context) (a : Asked) → id < length rows →
      match_of s.requests (tree id) here ≡ None → is_entered s (tree id) ≡ true → a.outcome ≡ Rebuilt →
      a.mover.back.0 ≡ 0 → a.mover.by.0 ≡ 0 →
      a.uses.items ≡ map (turned_use Forward) (uses_at rows id) → Asks s word rows id here a
  asks-uses group none words s id here a held m e o back by us =
      let own : uses (tree id) ≡ map (moved_use word tree a.mover) a.uses.items =
      uses-at-tree id held ∙ sym (plain-uses group a.mover back by none words (uses_at rows id)) ∙
      sym (ap (map (moved_use word tree a.mover)) us) in
      let empty : is_empty (uses (tree id)) ≡ is_empty a.uses.items =
      ap is_empty own ∙ empty-map (moved_use word tree a.mover) a.uses.items in
      record {
        asked = ap (demands_by s (tree id) here) m ∙ ap (λ b. if b then uses (tree id) else []) e ∙ own;
        made = λ parts. ap (λ q. gathered_by s (tree id) here q parts) m ∙
            ap
            (λ b. if b then (if is_pruned s (tree id) parts then [] else rebuilt (bare (tree id)) parts ∷ [])
            else bare (tree id) ∷ []) e ∙
            ap (λ b. if b then [] else bare (tree_of (origin (tree id)) parts) ∷ [])
            (pruned-by s (tree id) (is_empty a.uses.items) parts empty) ∙
            sym (ap (λ q. made_of q s.rule.prune (is_empty a.uses.items) (tree id) parts) o);
        met = subst (λ q. IsMetAs s (tree id) here q) (sym o) (m, e);
      }

  -- ---- where a request does
  pub asks-none : (s : Step) (id : ℕ) (here : Context) (a : Asked) (r : TreeRequest) →
      match_of s.requests (tree id) here ≡ Some r → r.act ≡ remove →
      a.outcome ≡ Joined → a.uses.items ≡ [] → Asks s word rows id here a
  asks-none s id here a r m act o none = record {
    asked = ap (demands_by s (tree id) here) m ∙ ap (demands_of_act s (tree id) here r.place) act ∙
        sym (ap (map (moved_use word tree a.mover)) none);
    made =
        λ parts. ap (λ q. gathered_by s (tree id) here q parts) m ∙
        sym (ap (λ q. made_of q s.rule.prune (is_empty a.uses.items) (tree id) parts) o);
    met = subst (λ q. IsMetAs s (tree id) here q) (sym o) (r, m);
  }

  moving : (x : Tree) (here : ℕ) (c : Context) (place : Option WordId) (p : Option (List Pair)) → c.word ≡ word here →
      p ≡ place_by word place →
      moving_word c (bare x) p ≡ back_word word here (is_some place)
  moving x here c None p e q = ap (moving_word c (bare x)) q
  moving x here c (Some w) p e q = ap (moving_word c (bare x)) q ∙ ap inverse e

  by-kinds : (b : Bool) (new : Use) (below us : List Use) → (b ≡ true → new ∷ [] ≡ us) → (b ≡ false → below ≡ us) →
      (if b then new ∷ [] else below) ≡ us
  by-kinds true new below us f g = f refl
  by-kinds false new below us f g = g refl

  pub asks-onward : WordsAreAGroup → word 0 ≡ [] → ((i : ℕ) → IsWord (word i)) → (s : Step) (kinds : ℕ → Kind) →
      HaveKinds rows kinds → s.kind_of_origin ≡ kinds →
      (id here : ℕ) (c : Context) (a : Asked) (r : TreeRequest) (place : Option WordId) (by : UseOf) →
      id < length rows → by.id.0 < length rows → c.word ≡ word here →
      match_of s.requests (tree id) c ≡ Some r → r.place ≡ place_by word place → r.act ≡ replace (use_by word tree by) →
      a.outcome ≡ Joined → word a.mover.back.0 ≡ back_word word here (is_some place) → a.mover.by ≡ by.place →
      (kind_eq (kind_at rows id) (kind_at rows by.id.0) ≡ true → IsOneUse by a.uses.items) →
      (kind_eq (kind_at rows id) (kind_at rows by.id.0) ≡ false →
      a.uses.items ≡ map (turned_use by.turn) (uses_at rows by.id.0)) →
      Asks s word rows id c a
  asks-onward group none words s kinds have ek id here c a r place by held held-by ew m ep act o back own one each =
      let new = a_single by.turn (mul (word a.mover.back.0) (word by.place.0)) (tree by.id.0) in
      let is-new : new_use c (bare (tree id)) r.place (use_by word tree by) ≡ new =
      (λ i. a_single by.turn (mul ((moving (tree id) here c place r.place ew ep ∙ sym back) i) (word by.place.0))
      (tree by.id.0)) in
      let by-word : word a.mover.by.0 ≡ word by.place.0 = ap (λ (w : WordId). word w.0) own in
      let test : kind_eq (kind s (tree id)) (kind s (tree by.id.0)) ≡ kind_eq (kind_at rows id) (kind_at rows by.id.0) =
      (λ i. kind_eq (kind-at-tree s kinds have ek id held i) (kind-at-tree s kinds have ek by.id.0 held-by i)) in
      let single : kind_eq (kind_at rows id) (kind_at rows by.id.0) ≡ true →
      new ∷ [] ≡ map (moved_use word tree a.mover) a.uses.items =
      (λ t. let u = one t in
      let w : mul (word a.mover.back.0) (word by.place.0) ≡ moved_word word a.mover u.0.place.0 =
      ap (mul (word a.mover.back.0))
      (sym (ap (mul (word a.mover.by.0)) (ap word u.3 ∙ none) ∙
      group.identity_inner (word a.mover.by.0) (words a.mover.by.0) ∙ by-word)) in
      (λ i. a_single (sym u.2 i) (w i) (tree ((sym u.4 i).0)) ∷ []) ∙
      sym (ap (map (moved_use word tree a.mover)) u.1)) in
      let several : kind_eq (kind_at rows id) (kind_at rows by.id.0) ≡ false →
      map (carried new.turn new.word) (uses (tree by.id.0)) ≡ map (moved_use word tree a.mover) a.uses.items =
      (λ t. ap (map (carried new.turn new.word)) (uses-at-tree by.id.0 held-by) ∙
      map-map (use_by word tree) (carried new.turn new.word) (λ u. moved_use word tree a.mover (turned_use by.turn u))
      (uses_at rows by.id.0)
      (λ u h i. a_single (composed by.turn u.turn)
      ((sym (group.associative (word a.mover.back.0) (word by.place.0) (word u.place.0)) ∙
      (λ j. mul (word a.mover.back.0) (mul (sym by-word j) (word u.place.0)))) i) (tree u.id.0)) ∙
      sym (map-map (turned_use by.turn) (moved_use word tree a.mover)
      (λ u. moved_use word tree a.mover (turned_use by.turn u)) (uses_at rows by.id.0) (λ u h. refl)) ∙
      sym (ap (map (moved_use word tree a.mover)) (each t))) in
      record {
        asked = ap (demands_by s (tree id) c) m ∙ ap (demands_of_act s (tree id) c r.place) act ∙
            ap (onward s (tree id)) is-new ∙
            ap (λ b. if b then new ∷ [] else map (carried new.turn new.word) (uses (tree by.id.0))) test ∙
            by-kinds (kind_eq (kind_at rows id) (kind_at rows by.id.0)) new
            (map (carried new.turn new.word) (uses (tree by.id.0))) (map (moved_use word tree a.mover) a.uses.items)
            single several;
        made =
            λ parts. ap (λ q. gathered_by s (tree id) c q parts) m ∙
            sym (ap (λ q. made_of q s.rule.prune (is_empty a.uses.items) (tree id) parts) o);
        met = subst (λ q. IsMetAs s (tree id) c q) (sym o) (r, m);
      }

-- ---- uses under a turn, one after the other
pub turned-more : (t : Turn) (us : List UseOf) (i : ℕ) (u r : UseOf) (old new : List UseOf) → slice_get us i ≡ Some u →
    r ≡ turned_use t u →
    old ≡ map (turned_use t) (take i us) → new ≡ old ++ r ∷ [] → new ≡ map (turned_use t) (take (i + 1) us)
turned-more t us i u r old new s e o n =
    n ∙ (λ k. o k ++ e k ∷ []) ∙ sym (map-append (turned_use t) (take i us) (u ∷ [])) ∙
    ap (map (turned_use t)) (sym (take-at us i u s))

pub turned-all : (t : Turn) (us : List UseOf) (i : ℕ) (old : List UseOf) → length us ≤ i →
    old ≡ map (turned_use t) (take i us) →
    old ≡ map (turned_use t) us
turned-all t us i old h o = o ∙ ap (map (turned_use t)) (take_all i us h)

-- ---- what is asked for is held
abbrev IsHeldUse : List Row → ℕ → UseOf → Type 0
IsHeldUse rows n u = (u.id.0 < length rows) × (u.place.0 < n)

pub none-held : (rows : List Row) (n : ℕ) (a : Asked) → 0 < n → a.mover.back.0 ≡ 0 → a.mover.by.0 ≡ 0 →
    a.uses.items ≡ [] → IsHeldAsked rows n a
none-held rows n a some back by none = record {
  mover = (omega (arith, some, back), omega (arith, some, by));
  uses = subst (All (IsHeldUse rows n)) (sym none) (All-nil (IsHeldUse rows n));
}

turned-held : (rows : List Row) (n : ℕ) → IsSound rows → HasPlaces rows n → (t : Turn) (id : ℕ) (us : List UseOf) →
    id < length rows →
    us ≡ map (turned_use t) (uses_at rows id) → All (IsHeldUse rows n) us
turned-held rows n sound places t id us held e =
    All-from_members (IsHeldUse rows n) us (λ u m.
    let from = Contains-map_cases (turned_use t) u (uses_at rows id) (subst (λ (l : List UseOf). Contains l u) e m) in
    let earlier = All-contains (λ (v : UseOf). v.id.0 < id) (uses_at rows id) from.0 (sound.uses_are_earlier id held)
    from.1 in
    let placed = All-contains (λ (v : UseOf). v.place.0 < n) (uses_at rows id) from.0 (places id held) from.1 in
    subst (IsHeldUse rows n) from.2 ((omega (arith, earlier, held)), placed))

pub uses-held : (rows : List Row) (n : ℕ) → IsSound rows → HasPlaces rows n → (t : Turn) (id : ℕ) (a : Asked) → 0 < n →
    id < length rows →
    a.mover.back.0 ≡ 0 → a.mover.by.0 ≡ 0 → a.uses.items ≡ map (turned_use t) (uses_at rows id) → IsHeldAsked rows n a
uses-held rows n sound places t id a some held back by us = record {
  mover = (omega (arith, some, back), omega (arith, some, by));
  uses = turned-held rows n sound places t id a.uses.items held us;
}

one-held : (rows : List Row) (n : ℕ) (by : UseOf) (us : List UseOf) → 0 < n → by.id.0 < length rows → IsOneUse by us →
    All (IsHeldUse rows n) us
one-held rows n by us some held one =
    let id : one.0.id.0 ≡ by.id.0 = ap (λ (k : NodeId). k.0) one.4 in
    let place : one.0.place.0 ≡ 0 = one.3 in
    let is : IsHeldUse rows n one.0 = (omega (arith, held, id), omega (arith, some, place)) in
    subst (All (IsHeldUse rows n)) (sym one.1)
    (All-from_members (IsHeldUse rows n) (one.0 ∷ []) (λ u m.
    elim (Contains-cases one.0 u [] m) [ inl e ↦ subst (IsHeldUse rows n) e is | inr k ↦ absurd (Contains-none u k) ]))

pub onward-held : (rows : List Row) (m n id : ℕ) → IsSound rows → HasPlaces rows n → (by : UseOf) (a : Asked) → 0 < m →
    n ≤ m → by.id.0 < length rows →
    by.place.0 < n → a.mover.back.0 < m → a.mover.by ≡ by.place →
    (kind_eq (kind_at rows id) (kind_at rows by.id.0) ≡ true → IsOneUse by a.uses.items) →
    (kind_eq (kind_at rows id) (kind_at rows by.id.0) ≡ false →
    a.uses.items ≡ map (turned_use by.turn) (uses_at rows by.id.0)) →
    IsHeldAsked rows m a
onward-held rows m n id sound places by a some le held placed back own one each =
    let is : a.mover.by.0 ≡ by.place.0 = ap (λ (w : WordId). w.0) own in
    let wide : HasPlaces rows m = (λ i h. All-from_members (λ (u : UseOf). u.place.0 < m) (uses_at rows i) (λ u k.
    let lt = All-contains (λ (v : UseOf). v.place.0 < n) (uses_at rows i) u (places i h) k in omega (arith, lt, le))) in
    record {
      mover = (back, omega (arith, is, placed, le));
      uses = by_test (kind_eq (kind_at rows id) (kind_at rows by.id.0))
          (λ t. one-held rows m by a.uses.items some held (one t))
          (λ f. turned-held rows m sound wide by.turn by.id.0 a.uses.items held (each f));
    }
