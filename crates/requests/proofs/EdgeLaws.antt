-- Live requests and edges among numbers stand for those among trees.
use Rattle.std.proofs.Common.{◌≡◌, ◌<◌, ◌↔◌, ◌∙◌, ℕ, Bool, true, false, List, map, ◌++◌, ◌∷◌}
use Rattle.std.proofs.Common.{[], length, arith, sym, ap, subst, refl, Option, Some, None}
use Rattle.std.specs.Prelude.{nat_eq, filter, ◌||◌, ◌&&◌, if◌then◌else◌, is_none}
use Rattle.std.specs.List.{list_any, flat_map}
use Rattle.std.proofs.lemmas.Bool.{eqb-true}
use Rattle.std.proofs.lemmas.List.{map-append}
use Rattle.orientation.specs.declared.kind.Kind.{Kind}
use Rattle.orientation.specs.Kinds.{kind_eq}
use Rattle.orientation.specs.Rules.{is_above}
use Rattle.location_words.specs.declared.pair.Pair.{Pair}
use Rattle.location_words.specs.declared.table.WordId.{WordId}
use Rattle.expansion_laws.specs.Trees.{Tree, Use, origin, uses, uses_of, list_of}
use Rattle.expansion_laws.specs.Equality.{tree_eq}
use Rattle.expansion_laws.specs.Requests.{Request as TreeRequest, is_for as is_for_tree, is_unconditional}
use Rattle.expansion_laws.specs.Requests.{from_last_unconditional, requests_for, live_requests}
use Rattle.expansion_laws.specs.Steps.{entered}
use Rattle.expansion_laws.specs.Graph.{children, trees_of, targets, edges}
use Rattle.shape_pool.specs.declared.node.UseOf.{UseOf}
use Rattle.shape_pool.specs.Rows.{Row, kind_at, origin_at, uses_at, use_by, tree_at}
use Rattle.shape_pool.specs.Laws.{ids_used, IsSound}
use Rattle.requests.specs.declared.request.Request.{Request}
use Rattle.requests.specs.declared.request.Act.{Act}
use Rattle.requests.specs.declared.request.Act.TheVariants.{Remove, Replace}
use Rattle.requests.specs.Numbered.{Table, is_plain, is_for, from_last_plain, live_at, AreHeldIn, IsHeldIn, ActIsHeldIn}
use Rattle.requests.specs.Readings.{IsReading, place_by, act_by, request_by, requests_by, step_by, targets_at, ends_at}
use Rattle.lists.proofs.Cases.{by_test}
use Rattle.lists.proofs.Entries.{All-rest}
use Rattle.requests.proofs.LiveLaws.{nat_eq-self}
use Rattle.requests.proofs.HeldLaws.{held-live}

abbrev pub TreesAreTold : Type 0
TreesAreTold = (x y : Tree) → (tree_eq x y ≡ true) ↔ (x ≡ y)

list_of-uses_of : (us : List Use) → list_of (uses_of us) ≡ us
list_of-uses_of [] = refl
list_of-uses_of (u ∷ us) = ap (λ l. u ∷ l) (list_of-uses_of us)

map-map : {X Y Z : Type 0} (g : Y → Z) (f : X → Y) (xs : List X) → map g (map f xs) ≡ map (λ x. g (f x)) xs
map-map g f [] = refl
map-map g f (x ∷ xs) = ap (λ l. g (f x) ∷ l) (map-map g f xs)

or-true : (d : Bool) → (d || true) ≡ true
or-true true = refl
or-true false = refl

pub same_test : (a b : Bool) → (a ≡ true → b ≡ true) → (b ≡ true → a ≡ true) → a ≡ b
same_test true true f g = refl
same_test true false f g = sym (f refl)
same_test false true f g = g refl
same_test false false f g = refl

module _ (rows : List Row) (word : ℕ → List Pair) (sound : IsSound rows) where
  pub uses-are : (i : ℕ) → i < length rows → uses (tree_at word rows i) ≡
      map (use_by word (tree_at word rows)) (uses_at rows i)
  uses-are i h =
      ap uses (sound.trees_of_uses word i h) ∙ list_of-uses_of (map (use_by word (tree_at word rows)) (uses_at rows i))

  pub origin-is : (i : ℕ) → i < length rows → origin (tree_at word rows i) ≡ origin_at rows i
  origin-is i h = ap origin (sound.trees_of_uses word i h)

  pub children-are : (i : ℕ) → i < length rows →
      children (tree_at word rows i) ≡ map (tree_at word rows) (ids_used rows i)
  children-are i h =
      ap (map (λ (u : Use). u.tree)) (uses-are i h) ∙
      map-map (λ (u : Use). u.tree) (use_by word (tree_at word rows)) (uses_at rows i) ∙
      sym (map-map (tree_at word rows) (λ (u : UseOf). u.id.0) (uses_at rows i))

  plain-is : (r : Request) → is_unconditional (request_by word rows r) ≡ is_plain r
  plain-is r = ap (λ (b : Bool). b && is_none r.turn) (go r.place)
    where
      go : (p : Option WordId) → is_none (place_by word p) ≡ is_none p
      go None = refl
      go (Some w) = refl

  any-are : (rs : List Request) → list_any is_unconditional (requests_by word rows rs) ≡ list_any is_plain rs
  any-are [] = refl
  any-are (r ∷ rs) = ap (λ (b : Bool). b || list_any is_unconditional (requests_by word rows rs)) (plain-is r) ∙
      ap (λ (b : Bool). is_plain r || b) (any-are rs)

  from_last-are : (rs : List Request) → from_last_unconditional (requests_by word rows rs) ≡
      requests_by word rows (from_last_plain rs)
  from_last-are [] = refl
  from_last-are (r ∷ rs) =
      go (list_any is_plain rs) (list_any is_unconditional (requests_by word rows rs)) (any-are rs) (from_last-are rs)
    where
      go : (a b : Bool) → b ≡ a → from_last_unconditional (requests_by word rows rs) ≡
          requests_by word rows (from_last_plain rs) → (if b then from_last_unconditional (requests_by word rows rs)
          else request_by word rows r ∷ requests_by word rows rs) ≡
          requests_by word rows (if a then from_last_plain rs else r ∷ rs)
      go true b e rest =
          ap
          (λ (d : Bool). if d then from_last_unconditional (requests_by word rows rs)
          else request_by word rows r ∷ requests_by word rows rs) e ∙ rest
      go false b e rest =
          ap
          (λ (d : Bool). if d then from_last_unconditional (requests_by word rows rs)
          else request_by word rows r ∷ requests_by word rows rs) e

  module _ (kind : ℕ → Kind) (n : ℕ) (t : Table) (told : TreesAreTold) (reading : IsReading rows t.requests kind word n)
    where
      pub for-is : (i : ℕ) (r : Request) → i < length rows → r.source.0 < length rows →
          is_for_tree (tree_at word rows i) (request_by word rows r) ≡ is_for i r
      for-is i r h k =
          let tells = sound.ids_tell_trees n word reading.placed reading.told r.source.0 i k h in
          let test = told (tree_at word rows r.source.0) (tree_at word rows i) in
          same_test (tree_eq (tree_at word rows r.source.0) (tree_at word rows i)) (nat_eq r.source.0 i)
          (λ e. subst (λ (j : ℕ). nat_eq r.source.0 j ≡ true) (tells.1 (test.0 e)) (nat_eq-self r.source.0))
          (λ e. test.1 (tells.0 (eqb-true r.source.0 i e)))

      requests_for-are : (i : ℕ) (rs : List Request) → i < length rows → AreHeldIn rows rs →
          requests_for (requests_by word rows rs) (tree_at word rows i) ≡ requests_by word rows (filter (is_for i) rs)
      requests_for-are i [] h all = refl
      requests_for-are i (r ∷ rs) h all =
          go (is_for i r) (is_for_tree (tree_at word rows i) (request_by word rows r))
          (for-is i r h ((all 0 r (omega arith)).0))
          (requests_for-are i rs h (All-rest (IsHeldIn rows) r rs all))
        where
          go : (a b : Bool) → b ≡ a → requests_for (requests_by word rows rs) (tree_at word rows i) ≡
              requests_by word rows (filter (is_for i) rs) →
              (if b then request_by word rows r ∷ requests_for (requests_by word rows rs) (tree_at word rows i)
              else requests_for (requests_by word rows rs) (tree_at word rows i)) ≡
              requests_by word rows (if a then r ∷ filter (is_for i) rs else filter (is_for i) rs)
          go true b e rest =
              ap
              (λ (d : Bool). if d then request_by word rows r ∷ requests_for (requests_by word rows rs)
              (tree_at word rows i) else requests_for (requests_by word rows rs) (tree_at word rows i)) e ∙
              ap (λ l. request_by word rows r ∷ l) rest
          go false b e rest =
              ap
              (λ (d : Bool). if d then request_by word rows r ∷ requests_for (requests_by word rows rs)
              (tree_at word rows i) else requests_for (requests_by word rows rs) (tree_at word rows i)) e ∙ rest

      pub live-are : (i : ℕ) → i < length rows → AreHeldIn rows t.requests →
          live_requests (requests_by word rows t.requests) (tree_at word rows i) ≡
          requests_by word rows (live_at t.requests i)
      live-are i h all =
          ap from_last_unconditional (requests_for-are i t.requests h all) ∙ from_last-are (filter (is_for i) t.requests)

      kind-is : (i : ℕ) → i < length rows → kind (origin (tree_at word rows i)) ≡ kind_at rows i
      kind-is i h = ap kind (origin-is i h) ∙ reading.kinds i h

      targets-are : (i : ℕ) (a : Act) → i < length rows → ActIsHeldIn rows a →
          targets (step_by word rows kind t) (tree_at word rows i) (act_by word rows a) ≡
          map (tree_at word rows) (targets_at rows i a)
      targets-are i Remove h k = refl
      targets-are i (Replace by) h k =
          ap
          (λ (x : Kind). if kind_eq x (kind (origin (tree_at word rows by.id.0))) then tree_at word rows by.id.0 ∷ []
          else children (tree_at word rows by.id.0)) (kind-is i h) ∙
          ap
          (λ (x : Kind). if kind_eq (kind_at rows i) x then tree_at word rows by.id.0 ∷ []
          else children (tree_at word rows by.id.0)) (kind-is by.id.0 k) ∙
          ap
          (λ (l : List Tree). if kind_eq (kind_at rows i) (kind_at rows by.id.0) then tree_at word rows by.id.0 ∷ []
          else l) (children-are by.id.0 k) ∙
          go (kind_eq (kind_at rows i) (kind_at rows by.id.0))
        where
          go : (b : Bool) →
              (if b then tree_at word rows by.id.0 ∷ [] else map (tree_at word rows) (ids_used rows by.id.0)) ≡
              map (tree_at word rows) (if b then by.id.0 ∷ [] else ids_used rows by.id.0)
          go true = refl
          go false = refl

      all-targets : (i : ℕ) (rs : List Request) → i < length rows → AreHeldIn rows rs →
          flat_map (λ (r : TreeRequest). targets (step_by word rows kind t) (tree_at word rows i) r.act)
          (requests_by word rows rs) ≡
          map (tree_at word rows) (flat_map (λ (r : Request). targets_at rows i r.act) rs)
      all-targets i [] h all = refl
      all-targets i (r ∷ rs) h all =
          ap
          (λ (l : List Tree).
          l ++ flat_map (λ (q : TreeRequest). targets (step_by word rows kind t) (tree_at word rows i) q.act)
          (requests_by word rows rs)) (targets-are i r.act h ((all 0 r (omega arith)).1)) ∙
          ap (λ (l : List Tree). map (tree_at word rows) (targets_at rows i r.act) ++ l)
          (all-targets i rs h (All-rest (IsHeldIn rows) r rs all)) ∙
          sym (map-append (tree_at word rows) (targets_at rows i r.act)
          (flat_map (λ (q : Request). targets_at rows i q.act) rs))

      any-last : (rs : List Request) → list_any is_plain (from_last_plain rs) ≡ list_any is_plain rs
      any-last [] = refl
      any-last (r ∷ rs) = go (list_any is_plain rs) (is_plain r) (any-last rs)
        where
          go : (a b : Bool) → list_any is_plain (from_last_plain rs) ≡ list_any is_plain rs →
              list_any is_plain (if list_any is_plain rs then from_last_plain rs else r ∷ rs) ≡
              (is_plain r || list_any is_plain rs)
          go a b e = by_test (list_any is_plain rs)
              (λ k. ap (λ (d : Bool). list_any is_plain (if d then from_last_plain rs else r ∷ rs)) k ∙ e ∙ k ∙
              sym (ap (λ (d : Bool). is_plain r || d) k ∙ or-true (is_plain r)))
              (λ k. ap (λ (d : Bool). list_any is_plain (if d then from_last_plain rs else r ∷ rs)) k)

      pub edges-are : (i : ℕ) → i < length rows → AreHeldIn rows t.requests →
          edges (step_by word rows kind t) (tree_at word rows i) ≡ map (tree_at word rows) (ends_at rows t i)
      edges-are i h all =
          ap
          (λ (l : List TreeRequest).
          flat_map (λ (r : TreeRequest). targets (step_by word rows kind t) (tree_at word rows i) r.act) l ++ own)
          (live-are i h all) ∙
          ap (λ (l : List Tree). l ++ own) (all-targets i (live_at t.requests i) h (held-live rows t.requests i all)) ∙
          ap (λ (l : List Tree). map (tree_at word rows) first ++ l) own-are ∙
          sym (map-append (tree_at word rows) first last)
        where
          own : List Tree
          own = if list_any is_unconditional (requests_for (requests_by word rows t.requests) (tree_at word rows i))
              then [] else trees_of (entered (step_by word rows kind t) (tree_at word rows i))

          first : List ℕ
          first = flat_map (λ (r : Request). targets_at rows i r.act) (live_at t.requests i)

          last : List ℕ
          last = if list_any is_plain (live_at t.requests i) then []
              else (if is_above t.rule.stop (kind_at rows i) then ids_used rows i else [])

          into : (b : Bool) → trees_of (if b then uses (tree_at word rows i) else []) ≡
              map (tree_at word rows) (if b then ids_used rows i else [])
          into true = children-are i h
          into false = refl

          out : (b : Bool) (xs : List Tree) (ys : List ℕ) → xs ≡ map (tree_at word rows) ys →
              (if b then [] else xs) ≡ map (tree_at word rows) (if b then [] else ys)
          out true xs ys e = refl
          out false xs ys e = e

          own-are : own ≡ map (tree_at word rows) last
          own-are =
              ap (λ (b : Bool). if b then [] else trees_of (entered (step_by word rows kind t) (tree_at word rows i)))
              (ap (list_any is_unconditional) (requests_for-are i t.requests h all) ∙
              any-are (filter (is_for i) t.requests) ∙ sym (any-last (filter (is_for i) t.requests))) ∙
              ap
              (λ (k : Kind). if list_any is_plain (live_at t.requests i) then []
              else trees_of (if is_above t.rule.stop k then uses (tree_at word rows i) else [])) (kind-is i h) ∙
              out (list_any is_plain (live_at t.requests i))
              (trees_of (if is_above t.rule.stop (kind_at rows i) then uses (tree_at word rows i) else []))
              (if is_above t.rule.stop (kind_at rows i) then ids_used rows i else [])
              (into (is_above t.rule.stop (kind_at rows i)))
