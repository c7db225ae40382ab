-- The next use of a marked node: of the innermost node that is entered, or the root.
use Rattle.std.proofs.Common.{◌≡◌, ◌∙◌, ◌<◌, ◌+◌, refl, ap, sym, subst, arith, ℕ, true, false, Bool}
use Rattle.std.proofs.Common.{List, [], ◌∷◌, ◌++◌, length, drop, Option, Some, None, slice_get}
use Rattle.std.specs.List.{filter}
use Rattle.std.proofs.lemmas.List.{length-append}
use Rattle.std.proofs.lemmas.Option.{none-some}
use Rattle.expansion_laws.specs.Contexts.{at_root}
use Rattle.shape_pool.specs.declared.node.NodeId.{NodeId}
use Rattle.shape_pool.specs.declared.node.UseOf.{UseOf}
use Rattle.shape_pool.specs.Rows.{Row, uses_at}
use Rattle.shape_pool.specs.Laws.{IsSound}
use Rattle.explorer.specs.Going.{a_place}
use Rattle.explorer.specs.Levels.{Entered, an_entered, Path, innermost, coming_of, is_marked, is_marked_place}
use Rattle.explorer.specs.Levels.{AreLevels, IsEndOfWay, IsNextOnWay, IsNextUse, IsWay}
use Rattle.explorer.specs.Trails.{IsInnermost, IsLeft, IsPast}
use Rattle.explorer.proofs.MarkLemmas.{used-before}
use Rattle.explorer.proofs.WayLemmas.{next-comes, none-comes, levels-push, levels-before, last-held, last-room}
use Rattle.explorer.proofs.WayLemmas.{use-less-deep, use-placed, way-with}

module _ (rows : List Row) (marks : List Bool) (start : Option UseOf) (path : Path)
    (way : IsWay rows (length marks) start path) (id : NodeId) (at : ℕ) (inner : IsInnermost path.levels id at) where
  inside-levels : AreLevels rows (length marks) path.deep 0
      (inner.0 ++ an_entered id at (innermost path.levels) ∷ [])
  inside-levels = subst (λ l. AreLevels rows (length marks) path.deep 0 l) inner.1 way.levels

  pub last-marked : id.0 < length marks
  last-marked =
      last-held rows (length marks) path.deep 0 inner.0 (an_entered id at (innermost path.levels)) inside-levels

  pub last-in-pool : id.0 < length rows
  last-in-pool = let a = last-marked in let b = way.few in omega (arith, a, b)

  -- ---- a use of it comes next
  module _ (path' : Path) (i : ℕ) (past : IsPast path.levels (i + 1) path'.levels) (deep : path'.deep ≡ path.deep) where
    now-at : path'.levels ≡ inner.0 ++ an_entered id (i + 1) (innermost path.levels) ∷ []
    now-at = past inner.0 (an_entered id at (innermost path.levels)) inner.1

    pub next-found : IsSound rows → (path0 : Path) →
        filter (is_marked_place marks) (coming_of rows start path0.levels) ≡
        filter (is_marked_place marks) (coming_of rows start path.levels) →
        (u : UseOf) → slice_get (uses_at rows id.0) i ≡ Some u → IsNextUse marks (uses_at rows id.0) at i →
        IsNextOnWay rows marks start path0 start path' u
    next-found sound path0 same u at-u next =
        let used = used-before rows sound id.0 i u last-in-pool at-u in
        let less = use-less-deep rows sound id.0 i u last-in-pool at-u in
        let room = last-room rows (length marks) path.deep 0 inner.0 (an_entered id at (innermost path.levels))
        inside-levels in
        let long : length path'.levels ≡ length inner.0 + 1 =
        ap (length {A = Entered}) now-at ∙
        length-append inner.0 (an_entered id (i + 1) (innermost path.levels) ∷ []) in
        let held = last-marked in
        record {
          next =
              same ∙
              next-comes rows start marks path.levels inner.0 id at i (innermost path.levels) u inner.1 at-u next
              path'.levels now-at;
          marked = next.marked u at-u;
          held = omega (arith, used, held);
          room = omega (arith, less, room, long, deep);
          placed = λ words places starts. use-placed rows words places id.0 i u last-in-pool at-u;
          start_stays = λ v e. e;
        }

    pub next-way : IsWay rows (length marks) start path'
    next-way =
        let e = an_entered id at (innermost path.levels) in
        let before = levels-before rows (length marks) path.deep 0 inner.0 e inside-levels in
        let room = last-room rows (length marks) path.deep 0 inner.0 e inside-levels in
        way-with rows (length marks) start path path' way deep
        (subst (λ l. AreLevels rows (length marks) path.deep 0 l) (sym now-at)
        (levels-push rows (length marks) path.deep 0 inner.0 (an_entered id (i + 1) (innermost path.levels)) before
        last-marked room))

  -- ---- or it is left
  module _ (path' : Path) (left : IsLeft path.levels path'.levels) (deep : path'.deep ≡ path.deep) where
    now-left : path'.levels ≡ inner.0
    now-left = left inner.0 (an_entered id at (innermost path.levels)) inner.1

    pub left-same : filter (is_marked marks) (drop at (uses_at rows id.0)) ≡ [] →
        filter (is_marked_place marks) (coming_of rows start path.levels) ≡
        filter (is_marked_place marks) (coming_of rows start path'.levels)
    left-same none =
        none-comes rows start marks path.levels inner.0 (an_entered id at (innermost path.levels)) inner.1 none ∙
        ap (λ l. filter (is_marked_place marks) (coming_of rows start l)) (sym now-left)

    pub left-way : IsWay rows (length marks) start path'
    left-way =
        way-with rows (length marks) start path path' way deep
        (subst (λ l. AreLevels rows (length marks) path.deep 0 l) (sym now-left)
        (levels-before rows (length marks) path.deep 0 inner.0 (an_entered id at (innermost path.levels))
        inside-levels))

    pub left-shorter : length path'.levels < length path.levels
    left-shorter =
        let a = ap (length {A = Entered}) now-left in
        let b = ap (length {A = Entered}) inner.1 in
        let c = length-append inner.0 (an_entered id at (innermost path.levels) ∷ []) in
        omega (arith, a, b, c)

-- ---- no node is entered any more
module _ (rows : List Row) (marks : List Bool) (start start' : Option UseOf) (path0 path : Path)
    (same : filter (is_marked_place marks) (coming_of rows start path0.levels) ≡
    filter (is_marked_place marks) (coming_of rows start path.levels))
    (none : path.levels ≡ []) (gone : start' ≡ None) where
  pub end-root : IsWay rows (length marks) start path → (root : UseOf) → start ≡ Some root →
      is_marked marks root ≡ true → IsNextOnWay rows marks start path0 start' path root
  end-root way root is m =
      let r = way.root root is in
      let long = ap (length {A = Entered}) none in
      let one : filter (is_marked_place marks) (a_place at_root root ∷ []) ≡ a_place at_root root ∷ [] = rw m refl in
      record {
        next =
            same ∙ (λ j. filter (is_marked_place marks) (coming_of rows (is j) (none j))) ∙ one ∙
            (λ j. a_place (innermost (sym none j)) root ∷
            filter (is_marked_place marks) (coming_of rows (sym gone j) (sym none j)));
        marked = m;
        held = r.0;
        room = (let a = r.1 in omega (arith, a, long));
        placed = λ words places starts. starts root is;
        start_stays = λ v e. absurd (none-some v (sym gone ∙ e));
      }

  pub end-unmarked : (root : UseOf) → start ≡ Some root → is_marked marks root ≡ false →
      IsEndOfWay rows marks start path0 start' path
  end-unmarked root is m =
      let one : filter (is_marked_place marks) (a_place at_root root ∷ []) ≡ [] = rw m refl in
      record {
        none = same ∙ (λ j. filter (is_marked_place marks) (coming_of rows (is j) (none j))) ∙ one;
        root_gone = gone;
        none_entered = none;
      }

  pub end-none : start ≡ None → IsEndOfWay rows marks start path0 start' path
  end-none is = record {
    none = same ∙ (λ j. filter (is_marked_place marks) (coming_of rows (is j) (none j)));
    root_gone = gone;
    none_entered = none;
  }

  pub end-way : IsWay rows (length marks) start path → IsWay rows (length marks) start' path
  end-way way = record {
    few = way.few;
    root = λ v e. absurd (none-some v (sym gone ∙ e));
    levels = way.levels;
  }
