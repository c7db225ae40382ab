-- Marks: which numbers have an occurrence to give.
use Rattle.std.proofs.Common.{◌≡◌, ◌∙◌, ◌<◌, ◌≤◌, ◌+◌, refl, ap, sym, subst, arith, inl, inr}
use Rattle.std.proofs.Common.{Bool, true, false, not, ◌&&◌, ◌||◌, ℕ, List, [], ◌∷◌, ◌++◌, map, drop, length, All}
use Rattle.std.proofs.Common.{Option, Some, slice_get}
use Rattle.std.specs.List.{filter, list_any}
use Rattle.std.proofs.lemmas.List.Elements.{All-head, All-tail}
use Rattle.std.proofs.lemmas.Option.{get_or_from_slice_get, slice_get_within}
use Rattle.lists.proofs.Iterators.{next_item}
use Rattle.lists.proofs.Places.{at_place, slice_get-left, slice_get-push}
use Rattle.orientation.specs.declared.kind.Kind.{Kind}
use Rattle.location_words.specs.declared.pair.Pair.{Pair}
use Rattle.expansion_laws.specs.Trees.{uses_of}
use Rattle.shape_pool.specs.declared.node.UseOf.{UseOf}
use Rattle.shape_pool.specs.Rows.{Row, kind_at, uses_at, use_by, tree_at}
use Rattle.shape_pool.specs.Laws.{IsSound}
use Rattle.explorer.specs.Walks.{is_avoided, is_sought, gives, any_gives}
use Rattle.shape_pool.specs.Rows.{HaveKinds}
use Rattle.explorer.specs.Levels.{is_marked, AreMarks}

-- ---- one use more
module _ (marks : List Bool) (us : List UseOf) (i : ℕ) (u : UseOf) (at : slice_get us i ≡ Some u) where
  pub any-here : is_marked marks u ≡ true → list_any (is_marked marks) (drop i us) ≡ true
  any-here m = ap (list_any (is_marked marks)) (next_item us i u at) ∙ (rw m refl)

  pub any-later : is_marked marks u ≡ false →
      list_any (is_marked marks) (drop i us) ≡ list_any (is_marked marks) (drop (i + 1) us)
  any-later m = ap (list_any (is_marked marks)) (next_item us i u at) ∙ (rw m refl)

  pub next-here : is_marked marks u ≡ true →
      filter (is_marked marks) (drop i us) ≡ u ∷ filter (is_marked marks) (drop (i + 1) us)
  next-here m = ap (filter (is_marked marks)) (next_item us i u at) ∙ (rw m refl)

  pub next-later : is_marked marks u ≡ false →
      filter (is_marked marks) (drop i us) ≡ filter (is_marked marks) (drop (i + 1) us)
  next-later m = ap (filter (is_marked marks)) (next_item us i u at) ∙ (rw m refl)

-- ---- what a use's mark says
pub used-before : (rows : List Row) → IsSound rows → (id i : ℕ) (u : UseOf) → id < length rows →
    slice_get (uses_at rows id) i ≡ Some u → u.id.0 < id
used-before rows sound id i u held at =
    let lt = slice_get_within (uses_at rows id) i u at in
    subst (λ (v : UseOf). v.id.0 < id) (get_or_from_slice_get (uses_at rows id) i u u at)
    (sound.uses_are_earlier id held i u lt)

module _ (rows : List Row) (sound : IsSound rows) (find avoid : Option Kind) (marks : List Bool)
    (are : AreMarks rows find avoid marks) (word : ℕ → List Pair) (kind : ℕ → Kind) (kinds : HaveKinds rows kind) where
  pub mark-is : (u : UseOf) → u.id.0 < length marks →
      is_marked marks u ≡ gives kind find avoid (tree_at word rows u.id.0)
  mark-is u lt = get_or_from_slice_get marks u.id.0 (gives kind find avoid (tree_at word rows u.id.0)) false
      (are word kind kinds u.id.0 lt)

  any-marked : (us : List UseOf) → All (λ (u : UseOf). u.id.0 < length marks) us →
      any_gives kind find avoid (uses_of (map (use_by word (tree_at word rows)) us)) ≡ list_any (is_marked marks) us
  any-marked [] h = refl
  any-marked (u ∷ us) h =
      let a = sym (mark-is u (All-head (λ (u : UseOf). u.id.0 < length marks) u us h)) in
      let b = any-marked us (All-tail (λ (u : UseOf). u.id.0 < length marks) u us h) in
      λ j. a j || b j

  -- whether a node has an occurrence to give, by its kind and its uses' marks
  pub has-one : (id : ℕ) → id < length rows → id ≤ length marks →
      gives kind find avoid (tree_at word rows id) ≡
      (not (is_avoided avoid (kind_at rows id)) &&
      (is_sought find (kind_at rows id) || list_any (is_marked marks) (uses_at rows id)))
  has-one id held few =
      let k = kinds id held in
      let below : All (λ (u : UseOf). u.id.0 < length marks) (uses_at rows id) =
      λ i d lt. let a = sound.uses_are_earlier id held i d lt in omega (arith, a, few) in
      let any = any-marked (uses_at rows id) below in
      ap (gives kind find avoid) (sound.trees_of_uses word id held) ∙
      (λ j. not (is_avoided avoid (k j)) && (is_sought find (k j) || any j))

-- ---- one mark more
pub marks-push : (rows : List Row) (find avoid : Option Kind) (marks : List Bool) (m : Bool) →
    AreMarks rows find avoid marks →
    ((word : ℕ → List Pair) (kind : ℕ → Kind) → HaveKinds rows kind →
    m ≡ gives kind find avoid (tree_at word rows (length marks))) →
    AreMarks rows find avoid (marks ++ m ∷ [])
marks-push rows find avoid marks m are is word kind kinds i lt =
    let r = at_place (marks ++ m ∷ []) i lt in
    elim (slice_get-push marks m r.0 i r.1) [
      | inl h ↦
          let w = slice_get_within marks i r.0 h in
          slice_get-left marks (m ∷ []) i w ∙ are word kind kinds i w
      | inr h ↦
          r.1 ∙ ap Some (sym h.1 ∙ is word kind kinds ∙ ap (λ n. gives kind find avoid (tree_at word rows n)) (sym h.0))
    ]

pub marks-none : (rows : List Row) (find avoid : Option Kind) → AreMarks rows find avoid []
marks-none rows find avoid word kind kinds i lt = absurd (omega (arith, lt))
