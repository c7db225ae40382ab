-- A target fits a source by numbers exactly where its tree fits the source's.
use Rattle.std.proofs.Common.{◌≡◌, ◌≢◌, ◌<◌, ◌↔◌, ◌∙◌, ℕ, List, map, ◌∷◌, []}
use Rattle.std.proofs.Common.{All, length, arith, refl, sym, ap, subst, inl, inr}
use Rattle.std.proofs.lemmas.List.{length-map}
use Rattle.orientation.specs.declared.kind.Kind.{Kind}
use Rattle.orientation.specs.Kinds.{rank_of}
use Rattle.location_words.specs.declared.pair.Pair.{Pair}
use Rattle.expansion_laws.specs.Trees.{Tree, origin, uses}
use Rattle.expansion_laws.specs.Graph.{children}
use Rattle.shape_pool.specs.declared.node.UseOf.{UseOf}
use Rattle.shape_pool.specs.Rows.{Row, kind_at, uses_at, use_by, tree_at}
use Rattle.shape_pool.specs.Laws.{ids_used, IsSound}
use Rattle.requests.specs.declared.request.Act.{Act}
use Rattle.requests.specs.declared.request.Act.TheVariants.{Remove, Replace}
use Rattle.requests.specs.Numbered.{ActFits, ActIsHeldIn}
use Rattle.shape_pool.specs.Rows.{HaveKinds}
use Rattle.requests.specs.Readings.{TargetFits}
use Rattle.lists.proofs.Entries.{All-from, All-none, All-rest}
use Rattle.requests.proofs.EdgeLaws.{uses-are, origin-is, children-are}

some : {X : Type 0} (xs : List X) → xs ≢ [] → 0 < length xs
some [] n = absurd (n refl)
some (x ∷ xs) n = omega arith

All-mapped : {X Y : Type 0} (P : X → Type 0) (Q : Y → Type 0) (f : X → Y) (xs : List X) → ((x : X) → P x → Q (f x)) →
    All P xs → All Q (map f xs)
All-mapped P Q f [] g all = All-none Q
All-mapped P Q f (x ∷ xs) g all =
    All-from Q (f x) (map f xs) (g x (all 0 x (omega arith))) (All-mapped P Q f xs g (All-rest P x xs all))

module _ (rows : List Row) (word : ℕ → List Pair) (sound : IsSound rows) (kind : ℕ → Kind) (kinds : HaveKinds rows kind)
  where
    kind-of : (i : ℕ) → i < length rows → kind (origin (tree_at word rows i)) ≡ kind_at rows i
    kind-of i h = ap kind (origin-is rows word sound i h) ∙ kinds i h

    to-trees : (q : Kind) (ids : List ℕ) → All (λ k. k < length rows) ids → All (λ k. kind_at rows k ≡ q) ids →
        All (λ x. kind (origin x) ≡ q) (map (tree_at word rows) ids)
    to-trees q [] held all = All-none (λ x. kind (origin x) ≡ q)
    to-trees q (k ∷ ids) held all =
        All-from (λ x. kind (origin x) ≡ q) (tree_at word rows k) (map (tree_at word rows) ids)
        (kind-of k (held 0 k (omega arith)) ∙ all 0 k (omega arith))
        (to-trees q ids (All-rest (λ m. m < length rows) k ids held) (All-rest (λ m. kind_at rows m ≡ q) k ids all))

    from-trees : (q : Kind) (ids : List ℕ) → All (λ k. k < length rows) ids →
        All (λ x. kind (origin x) ≡ q) (map (tree_at word rows) ids) →
        All (λ k. kind_at rows k ≡ q) ids
    from-trees q [] held all = All-none (λ k. kind_at rows k ≡ q)
    from-trees q (k ∷ ids) held all =
        All-from (λ m. kind_at rows m ≡ q) k ids (sym (kind-of k (held 0 k (omega arith))) ∙
        all 0 (tree_at word rows k) (omega arith))
        (from-trees q ids (All-rest (λ m. m < length rows) k ids held)
        (All-rest (λ x. kind (origin x) ≡ q) (tree_at word rows k) (map (tree_at word rows) ids) all))

    pub target-fits : (i : ℕ) (a : Act) → i < length rows → ActIsHeldIn rows a →
        ActFits rows i a ↔ TargetFits word rows kind i a
    target-fits i Remove h k = (λ t. t, λ t. t)
    target-fits i (Replace by) h k =
        let j : ℕ = by.id.0 in
        let ids : List ℕ = ids_used rows j in
        let here : kind (origin (tree_at word rows i)) ≡ kind_at rows i = kind-of i h in
        let there : kind (origin (tree_at word rows j)) ≡ kind_at rows j = kind-of j k in
        let held : All (λ m. m < length rows) ids = All-mapped (λ (u : UseOf). u.id.0 < j) (λ m. m < length rows)
        (λ (u : UseOf). u.id.0) (uses_at rows j)
        (λ u e. omega (arith, e, k)) (sound.uses_are_earlier j k) in
        let kids : children (tree_at word rows j) ≡ map (tree_at word rows) ids = children-are rows word sound j k in
        let long = ap length (uses-are rows word sound j k) in
        let first = length-map (uses_at rows j) (use_by word (tree_at word rows)) in
        let second = length-map (uses_at rows j) (λ (u : UseOf). u.id.0) in (
          λ f. elim f [
            | inl e ↦ inl (there ∙ e ∙ sym here)
            | inr p ↦ inr (
              (let a = ap rank_of here in let b = ap rank_of there in let l = p.0 in omega (arith, a, b, l)),
              (λ e. let n = ap length e in let l = p.1 in omega (arith, n, l, long, first, second)),
              subst (λ (q : Kind). All (λ x. kind (origin x) ≡ q) (children (tree_at word rows j))) (sym here)
                  (subst (λ (l : List Tree). All (λ x. kind (origin x) ≡ kind_at rows i) l) (sym kids)
                  (to-trees (kind_at rows i) ids held p.2)),
            )
          ],
          λ f. elim f [
            | inl e ↦ inl (sym there ∙ e ∙ here)
            | inr p ↦ inr (
              (let a = ap rank_of here in let b = ap rank_of there in let l = p.0 in omega (arith, a, b, l)),
              (let l = some (uses (tree_at word rows j)) p.1 in omega (arith, l, long, first, second)),
              from-trees (kind_at rows i) ids held
                  (subst (λ (l : List Tree). All (λ x. kind (origin x) ≡ kind_at rows i) l) kids
                  (subst (λ (q : Kind). All (λ x. kind (origin x) ≡ q) (children (tree_at word rows j))) here p.2)),
            )
          ],
        )
