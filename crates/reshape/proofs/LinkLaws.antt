-- Links from a key to those of what its visits ask for.
use Rattle.std.proofs.Common.{◌≡◌, ◌≤◌, ◌<◌, ◌+◌, ◌∙◌, ◌++◌, ◌∷◌, ℕ, List, [], All, Contains, map, length, take}
use Rattle.std.proofs.Common.{arith, refl, sym, ap, subst, slice_get, Option, Some, None, inl, inr}
use Rattle.std.specs.Prelude.{IfSome, IfNone}
use Rattle.std.specs.Option.{option_map_or}
use Rattle.std.proofs.lemmas.List.{length-append, map-append, take_all}
use Rattle.std.proofs.lemmas.List.Elements.{All-contains, All-nil, All-weaker, Contains-append_left, Contains-push}
use Rattle.std.proofs.lemmas.Option.{same_Some, slice_get_within}
use Rattle.lists.specs.Distinct.{IsDistinct}
use Rattle.lists.specs.Sameness.{is_empty}
use Rattle.lists.proofs.Places.{Contains-at, at_place, take-at, slice_get-push}
use Rattle.location_words.specs.declared.pair.Pair.{Pair}
use Rattle.location_words.specs.declared.fault.WordFault.{WordFault}
use Rattle.location_words.specs.declared.fault.WordFault.TheVariants.{Pairs as TooManyPairs, Power as TooLarge}
use Rattle.location_words.specs.declared.fault.WordFault.TheVariants.{NoMemory as NoMemoryForWord}
use Rattle.location_words.specs.Faults.{fault_of, IsDueFault}
use Rattle.location_words.specs.Laws.{LimitsTell}
use Rattle.location_words.specs.Tables.{IsTable}
use Rattle.expansion_laws.specs.Trees.{Use, a_single}
use Rattle.expansion_laws.specs.Contexts.{inside}
use Rattle.expansion_laws.specs.Steps.{Step}
use Rattle.expansion_laws.specs.Keys.{IsKey, Key as TreeKey}
use Rattle.shape_pool.specs.declared.node.NodeId.{NodeId}
use Rattle.shape_pool.specs.declared.node.UseOf.{UseOf}
use Rattle.shape_pool.specs.Rows.{Row, tree_at, HasPlaces}
use Rattle.shape_pool.specs.Laws.{IsSound, TellsBelow}
use Rattle.key_results.specs.declared.derive.Link.{Link}
use Rattle.key_results.specs.declared.derive.Visit.{Visit}
use Rattle.key_results.specs.declared.key.Key.{Key}
use Rattle.key_results.specs.declared.words.Mover.{Mover}
use Rattle.key_results.specs.Derivations.{made_of, AreLinked, IsPlacedVisit}
use Rattle.key_results.specs.Derived.{asked_by, id_at, IsDerivation, IsLinkedFrom, IsMetAs, IsVisitOf}
use Rattle.key_results.specs.Memos.{key_by, context_by, IsHeldKey}
use Rattle.key_results.specs.Words.{moved_word, ReadsWords}
use Rattle.reshape.specs.declared.asked.Asked.{Asked}
use Rattle.reshape.specs.Asking.{moved_use, Asks}
use Rattle.reshape.specs.Collecting.{AreLinksTo, HasKeyFrom, HaveKeysFrom, IsAskedBefore}
use Rattle.reshape.specs.Collecting.{IsDueFrom, IsFoundKey, IsKeyFrom, IsLinkTo}
use Rattle.reshape.proofs.FoundLaws.{key-tells, one-key}
use Rattle.reshape.proofs.NoteLaws.{All-push}
use Rattle.reshape.proofs.OrderLaws.{once-at, word-within}
use Rattle.reshape.proofs.TurnLaws.{asked-demanded}

-- ---- the place of a key
found-some : (keys : List Key) (k : Key) (o : Option ℕ) → IfSome o (λ i. slice_get keys i ≡ Some k) →
    IfNone o (Contains keys k → ⊥) → Contains keys k →
    (i : ℕ) × (o ≡ Some i) × (slice_get keys i ≡ Some k)
found-some keys k None some none m = absurd (none m)
found-some keys k (Some i) some none m = (i, refl, some)

due-none : (w : List Pair) (fault : WordFault) → ((f : WordFault) → fault_of w ≡ Some f → ⊥) →
    IsDueFault (fault_of w) fault → fault ≡ NoMemoryForWord
due-none w (TooManyPairs n) h d = absurd (h (TooManyPairs n) d)
due-none w (TooLarge n) h d = absurd (h (TooLarge n) d)
due-none w NoMemoryForWord h d = refl

module _ (rows : List Row) (sound : IsSound rows) (n : ℕ) (word : ℕ → List Pair) (places : HasPlaces rows n)
    (tells : TellsBelow n word) (s : Step)
    (keys : List Key) (held : All (IsHeldKey rows n) keys) (from : Key) (m : Mover) (u : UseOf) where
  -- the one key of a use is found
  pub found-key : (k : Key) (o : Option ℕ) → k.id ≡ u.id → IsHeldKey rows n k →
      IsKeyFrom rows s word from m u (key_by word rows k) →
      HasKeyFrom rows s word keys from m u → IfSome o (λ i. slice_get keys i ≡ Some k) →
      IfNone o (Contains keys k → ⊥) →
      IsFoundKey rows s word keys from m u o
  found-key k o id k-held is has some none =
      let l = has.0 in
      let v = moved_use word (tree_at word rows) m u in
      let same : k ≡ l = key-tells rows sound word n places tells k l k-held
      (All-contains (IsHeldKey rows n) keys l held has.1)
      (one-key s v.tree (inside (context_by word from) v) (key_by word rows k) (key_by word rows l) is has.2) in
      let f = found-some keys k o some none (subst (Contains keys) (sym same) has.1) in
      (f.0, k, f.1, f.2, id, is)

  -- whose word is within the limits, so that memory is wanting
  pub found-fault : LimitsTell → (table : List (List Pair)) → IsTable table → ReadsWords word table → n ≤ length table →
      (fault : WordFault) →
      IsDueFrom rows s word from m u fault → HasKeyFrom rows s word keys from m u → fault ≡ NoMemoryForWord
  found-fault limits table t r le fault due has =
      let l = has.0 in
      let v = moved_use word (tree_at word rows) m u in
      let same : key_by word rows l ≡ due.0 = one-key s v.tree (inside (context_by word from) v) (key_by word rows l)
      due.0 has.2 due.2 in
      let l-held = All-contains (IsHeldKey rows n) keys l held has.1 in
      due-none due.1 fault
      (λ f e. word-within limits table word t r l.word due.1 f (ap (λ (q : TreeKey). q.word) same ∙ due.3)
      (let lt = l-held.1 in omega (arith, lt, le)) e) due.4

pub some-none : (i : ℕ) → Some i ≡ None → ⊥
some-none i e = absurd cc

pub same-place : (i j : ℕ) → Some i ≡ Some j → i ≡ j
same-place i j e = same_Some i j e

pub keys-wider : (rows : List Row) (n m : ℕ) (keys : List Key) → n ≤ m → All (IsHeldKey rows n) keys →
    All (IsHeldKey rows m) keys
keys-wider rows n m keys le held =
    All-weaker (IsHeldKey rows n) (IsHeldKey rows m) (λ k h. (h.0, (let lt = h.1 in omega (arith, lt, le)))) keys held

pub visit-placed-more : (n m : ℕ) → n ≤ m → (v : Visit) → IsPlacedVisit n v → IsPlacedVisit m v
visit-placed-more n m le v h = (
  ((let a = h.0.0 in omega (arith, a, le)), (let a = h.0.1 in omega (arith, a, le))),
  All-weaker (λ (l : Link). l.place.0 < n) (λ (l : Link). l.place.0 < m) (λ l lt. omega (arith, lt, le)) v.links.items
      h.1,
)

-- ---- one link more
link-use : (s : Step) (word : ℕ → List Pair) (rows : List Row) (keys : List Key) (from : Key) (m : Mover) (u : UseOf)
    (l : Link) →
    IsLinkTo rows s word keys from m u l → asked_by s word rows keys m l ≡ moved_use word (tree_at word rows) m u
link-use s word rows keys from m u l is =
    let id : id_at keys l.key ≡ u.id.0 = ap (λ (o : Option Key). option_map_or (λ (q : Key). q.id.0) o 0) is.3 ∙
    ap (λ (k : NodeId). k.0) is.4 in
    λ i. a_single (is.0 i) (moved_word word m (is.1 i).0) (tree_at word rows (id i))

pub links-none : (rows : List Row) (s : Step) (word : ℕ → List Pair) (keys : List Key) (from : Key) (m : Mover) →
    AreLinksTo rows s word keys from m [] []
links-none rows s word keys from m = record {
  long = refl;
  asked = refl;
  each = All-nil (λ (l : Link). (u : UseOf) × Contains [] u × IsLinkTo rows s word keys from m u l);
}

one-more : (rows : List Row) (s : Step) (word : ℕ → List Pair) (keys : List Key) (from : Key) (m : Mover)
    (us : List UseOf) (u : UseOf) (links new : List Link)
    (l : Link) → new ≡ links ++ l ∷ [] → IsLinkTo rows s word keys from m u l →
    AreLinksTo rows s word keys from m us links →
    AreLinksTo rows s word keys from m (us ++ u ∷ []) new
one-more rows s word keys from m us u links new l e is a =
    subst (AreLinksTo rows s word keys from m (us ++ u ∷ [])) (sym e) (record {
      long =
          (let p = length-append links (l ∷ []) in let q = length-append us (u ∷ []) in let h = a.long in
          omega (arith, p, q, h));
      asked = map-append (asked_by s word rows keys m) links (l ∷ []) ∙
          (λ i. a.asked i ++ link-use s word rows keys from m u l is i ∷ []) ∙
          sym (map-append (moved_use word (tree_at word rows) m) us (u ∷ []));
      each = All-push (λ (k : Link). (v : UseOf) × Contains (us ++ u ∷ []) v × IsLinkTo rows s word keys from m v k) links l
          (All-weaker (λ (k : Link). (v : UseOf) × Contains us v × IsLinkTo rows s word keys from m v k)
          (λ (k : Link). (v : UseOf) × Contains (us ++ u ∷ []) v × IsLinkTo rows s word keys from m v k)
          (λ k h. (h.0, Contains-append_left us (u ∷ []) h.0 h.1, h.2)) links a.each)
          (u, Contains-push us u, is);
    })

pub links-next : (rows : List Row) (s : Step) (word : ℕ → List Pair) (keys : List Key) (from : Key) (m : Mover)
    (us : List UseOf) (i : ℕ) (u : UseOf)
    (links new : List Link) (l : Link) → slice_get us i ≡ Some u → new ≡ links ++ l ∷ [] →
    IsLinkTo rows s word keys from m u l →
    AreLinksTo rows s word keys from m (take i us) links → AreLinksTo rows s word keys from m (take (i + 1) us) new
links-next rows s word keys from m us i u links new l at e is a =
    subst (λ (z : List UseOf). AreLinksTo rows s word keys from m z new) (sym (take-at us i u at))
    (one-more rows s word keys from m (take i us) u links new l e is a)

pub links-all : (rows : List Row) (s : Step) (word : ℕ → List Pair) (keys : List Key) (from : Key) (m : Mover)
    (us : List UseOf) (i : ℕ) (links : List Link) →
    length us ≤ i → AreLinksTo rows s word keys from m (take i us) links → AreLinksTo rows s word keys from m us links
links-all rows s word keys from m us i links le a =
    subst (λ (z : List UseOf). AreLinksTo rows s word keys from m z links) (take_all i us le) a

-- ---- what the visits of a key ask for has its keys before it
pub have-keys : (rows : List Row) (s : Step) (word : ℕ → List Pair) (keys : List Key) (i : ℕ) (key : Key) (a : Asked) →
    Asks s word rows key.id.0 (context_by word key) a → IsAskedBefore rows s word keys i key →
    HaveKeysFrom rows s word keys key a.mover a.uses.items
have-keys rows s word keys i key a asks before u m =
    let demanded = asked-demanded rows s word key a asks u m in
    let b = before (moved_use word (tree_at word rows) a.mover u) demanded in
    (demanded, (b.1, Contains-at keys b.0 b.1 b.3, b.4))

empty-as : {X Y : Type 0} (xs : List X) (ys : List Y) → length xs ≡ length ys → is_empty xs ≡ is_empty ys
empty-as [] [] e = refl
empty-as [] (y ∷ ys) e = absurd (omega (arith, e))
empty-as (x ∷ xs) [] e = absurd (omega (arith, e))
empty-as (x ∷ xs) (y ∷ ys) e = refl

module _ (rows : List Row) (sound : IsSound rows) (n : ℕ) (word : ℕ → List Pair) (places : HasPlaces rows n)
    (tells : TellsBelow n word) (s : Step)
    (keys : List Key) (held : All (IsHeldKey rows n) keys) (once : IsDistinct keys) (key : Key) (a : Asked) (v : Visit)
    (i : ℕ)
    (asks : Asks s word rows key.id.0 (context_by word key) a) (before : IsAskedBefore rows s word keys i key)
    (links : AreLinksTo rows s word keys key a.mover a.uses.items v.links.items) where
  link-before : (l : Link) → (u : UseOf) × Contains a.uses.items u × IsLinkTo rows s word keys key a.mover u l →
      IsLinkedFrom s word rows keys key i a.mover l
  link-before l h =
      let u = h.0 in
      let w = moved_use word (tree_at word rows) a.mover u in
      let is = h.2 in
      let to = is.2 in
      let b = before w (asked-demanded rows s word key a asks u h.1) in
      let to-held = All-contains (IsHeldKey rows n) keys to held (Contains-at keys l.key to is.3) in
      let b-held = All-contains (IsHeldKey rows n) keys b.1 held (Contains-at keys b.0 b.1 b.3) in
      let same : b.1 ≡ to = key-tells rows sound word n places tells b.1 to b-held to-held
      (one-key s w.tree (inside (context_by word key) w) (key_by word rows b.1) (key_by word rows to) b.4 is.5) in
      let place : b.0 ≡ l.key = once-at keys b.0 l.key to once (b.3 ∙ ap Some same) is.3 in
      let lt = b.2 in
      let same-use : asked_by s word rows keys a.mover l ≡ w = link-use s word rows keys key a.mover u l is in
      let at-to : IsKey s (tree_at word rows to.id.0) (inside (context_by word key) w) (key_by word rows to) =
      subst (λ (k : NodeId). IsKey s (tree_at word rows k.0) (inside (context_by word key) w) (key_by word rows to))
      (sym is.4) is.5 in (
        omega (arith, place, lt),
        to,
        is.3,
        subst (λ (z : Use). IsKey s (tree_at word rows to.id.0) (inside (context_by word key) z) (key_by word rows to))
            (sym same-use) at-to,
      )

  pub visit-is : v.id ≡ key.id → v.outcome ≡ a.outcome → v.mover ≡ a.mover → IsVisitOf s word rows keys key i v
  visit-is id outcome mover = record {
    id = id;
    asked =
        asks.asked ∙ sym links.asked ∙ ap (λ (m : Mover). map (asked_by s word rows keys m) v.links.items) (sym mover);
    made = λ parts. asks.made parts ∙
        (λ k. made_of (sym outcome k) s.rule.prune (empty-as a.uses.items v.links.items (sym links.long) k)
        (tree_at word rows key.id.0) parts);
    met = subst (IsMetAs s (tree_at word rows key.id.0) (context_by word key)) (sym outcome) asks.met;
    links = subst (λ (m : Mover). All (IsLinkedFrom s word rows keys key i m) v.links.items) (sym mover)
        (All-weaker (λ (l : Link). (u : UseOf) × Contains a.uses.items u × IsLinkTo rows s word keys key a.mover u l)
        (IsLinkedFrom s word rows keys key i a.mover) link-before v.links.items links.each);
  }

-- ---- one visit more
pub visits-next : (rows : List Row) (s : Step) (word : ℕ → List Pair) (keys : List Key) (i : ℕ) (key : Key)
    (visits new : List Visit) (v : Visit) →
    length visits ≡ i → slice_get keys i ≡ Some key → new ≡ visits ++ v ∷ [] → IsVisitOf s word rows keys key i v →
    ((k : ℕ) (from : Key) (w : Visit) → slice_get keys k ≡ Some from → slice_get visits k ≡ Some w →
    IsVisitOf s word rows keys from k w) →
    (k : ℕ) (from : Key) (w : Visit) → slice_get keys k ≡ Some from → slice_get new k ≡ Some w →
    IsVisitOf s word rows keys from k w
visits-next rows s word keys i key visits new v long at e is each k from w f g =
    elim (slice_get-push visits v w k (subst (λ (l : List Visit). slice_get l k ≡ Some w) e g)) [
      | inl h ↦ each k from w f h
      | inr h ↦ (let place : k ≡ i = h.0 ∙ long in
          let same : key ≡ from = same_Some key from (sym at ∙ ap (slice_get keys) (sym place) ∙ f) in
          subst (λ (z : Visit). IsVisitOf s word rows keys from k z) h.1
          (subst (λ (j : ℕ). IsVisitOf s word rows keys from j v) (sym place)
          (subst (λ (q : Key). IsVisitOf s word rows keys q i v) same is)))
    ]

-- so links lead to earlier keys
pub linked-so : (rows : List Row) (s : Step) (word : ℕ → List Pair) (keys : List Key) (visits : List Visit) →
    IsDerivation s word rows keys visits →
    AreLinked visits
linked-so rows s word keys visits d k v at =
    let within = slice_get_within visits k v at in
    let long = d.long in
    let from = at_place keys k (omega (arith, within, long)) in
    let is = d.each k from.0 v from.1 at in
    All-weaker (IsLinkedFrom s word rows keys from.0 k v.mover) (λ (l : Link). l.key < k) (λ l h. h.0) v.links.items
    is.links
