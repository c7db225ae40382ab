-- One answer of an explorer.
use Rattle.std.proofs.Common.{◌≡◌, ◌∙◌, ◌<◌, refl, ap, sym, subst, ℕ, true, false, Bool}
use Rattle.std.proofs.Common.{List, [], ◌∷◌, ◌++◌, length, Option, Some, None, Ok, Err}
use Rattle.orientation.specs.declared.kind.Kind.{Kind}
use Rattle.location_words.specs.declared.fault.WordFault.{WordFault}
use Rattle.location_words.specs.declared.pair.Pair.{Pair}
use Rattle.location_words.specs.Faults.{fault_of}
use Rattle.expansion_laws.specs.Contexts.{Context}
use Rattle.expansion_laws.specs.Trees.{origin}
use Rattle.shape_pool.specs.declared.node.NodeId.{NodeId}
use Rattle.shape_pool.specs.declared.node.UseOf.{UseOf}
use Rattle.shape_pool.specs.Rows.{Row, kind_at, tree_at}
use Rattle.shape_pool.specs.Laws.{word_in, IsSound}
use Rattle.explorer.specs.declared.found.Found.{Found}
use Rattle.explorer.specs.declared.found.WordLimit.{WordLimit}
use Rattle.explorer.specs.Walks.{Occurrence, an_occurrence, is_sought, is_wanted}
use Rattle.shape_pool.specs.Rows.{HaveKinds}
use Rattle.explorer.specs.Going.{Coming, found, past, over, first_of, limit_of, entered_at_all}
use Rattle.explorer.specs.Going.{IsAnswer, IsGiven}
use Rattle.explorer.specs.Levels.{an_entered, Path, innermost, coming_of, AreMarks}
use Rattle.explorer.specs.Levels.{AreLevels, IsEndOfWay, IsNextOnWay, IsOnItsWay, IsWay}
use Rattle.explorer.specs.Trails.{below}
use Rattle.explorer.proofs.FirstLaws.{first-past, first-found, first-passed}
use Rattle.explorer.proofs.TrailLemmas.{innermost-last}
use Rattle.explorer.proofs.WayLemmas.{none-entered, step-levels, step-on, use-held, way-held, way-with}

-- ---- answers by what is due
module _ (table : List (List Pair)) (rows : List Row) (word : List Pair) (rest : List Occurrence) (d : Coming) where
  pub answer-refused : (due l : WordLimit) → d ≡ past due → l ≡ due → IsAnswer table rows d (Err l) word rest
  answer-refused due l e is = subst (λ c. IsAnswer table rows c (Err l) word rest) (sym e) is

  pub answer-found : (o : Occurrence) (os : List Occurrence) (f : Found) → d ≡ found o os →
      IsGiven table rows word o f → rest ≡ os → IsAnswer table rows d (Ok (Some f)) word rest
  answer-found o os f e given is = subst (λ c. IsAnswer table rows c (Ok (Some f)) word rest) (sym e) (given, is)

  pub answer-over : d ≡ over → rest ≡ [] → IsAnswer table rows d (Ok None) word rest
  answer-over e is = subst (λ c. IsAnswer table rows c (Ok None) word rest) (sym e) is

-- ---- the way goes on
pub still-on-way : (table : List (List Pair)) (rows : List Row) (marks : List Bool) (start start' : Option UseOf)
    (path path' new : Path) (u : UseOf) → IsOnItsWay table rows marks start path →
    IsNextOnWay rows marks start path start' path' u → IsWay rows (length marks) start' new →
    IsOnItsWay table rows marks start' new
still-on-way table rows marks start start' path path' new u on next way = record {
  places = on.places;
  start_placed = λ v e. on.start_placed v (next.start_stays v e);
  way = way;
}

module _ (table : List (List Pair)) (rows : List Row) (sound : IsSound rows) (marks : List Bool)
    (start start' : Option UseOf) (path path' : Path) (u : UseOf)
    (next : IsNextOnWay rows marks start path start' path' u) (on : IsOnItsWay table rows marks start path)
    (way' : IsWay rows (length marks) start' path') (new : Path) (deep : new.deep ≡ path'.deep) where
  -- where the use is refused, nothing is entered
  pub way-refused : new.levels ≡ path'.levels → IsOnItsWay table rows marks start' new
  way-refused is =
      still-on-way table rows marks start start' path path' new u on next
      (way-with rows (length marks) start' path' new way' deep
      (subst (λ l. AreLevels rows (length marks) path'.deep 0 l) (sym is) way'.levels))

  module _ (is : new.levels ≡ path'.levels ++ an_entered u.id 0 (below table (innermost path'.levels) u) ∷ []) where
    pub way-entered : IsOnItsWay table rows marks start' new
    way-entered =
        still-on-way table rows marks start start' path path' new u on next
        (way-with rows (length marks) start' path' new way' deep
        (step-levels table rows sound marks start start' path path' u next way' new.levels is))

    -- the node found stands for the occurrence
    pub is-given : (f : Found) → f.turn ≡ (innermost new.levels).turn → f.id ≡ u.id →
        IsGiven table rows (innermost new.levels).word
        (an_occurrence (below table (innermost path'.levels) u) (tree_at (word_in table) rows u.id.0)) f
    is-given f turn id =
        let here : innermost new.levels ≡ below table (innermost path'.levels) u =
        ap innermost is ∙
        innermost-last path'.levels (an_entered u.id 0 (below table (innermost path'.levels) u)) in
        let held = use-held table rows sound marks start start' path path' u next way' new.levels is in
        record {
          turn = turn ∙ ap (λ (c : Context). c.turn) here;
          held = subst (λ (n : NodeId). n.0 < length rows) (sym id) held;
          tree = ap (λ (n : NodeId). tree_at (word_in table) rows n.0) id;
          word_is = ap (λ (c : Context). c.word) here;
        }

    module _ (kind : ℕ → Kind) (kinds : HaveKinds rows kind) (find avoid : Option Kind)
        (are : AreMarks rows find avoid marks) where
      occurs : entered_at_all table rows kind find avoid (coming_of rows start path.levels) ≡
          an_occurrence (below table (innermost path'.levels) u) (tree_at (word_in table) rows u.id.0) ∷
          entered_at_all table rows kind find avoid (coming_of rows start' new.levels)
      occurs =
          step-on table rows sound marks start start' path path' u next way' new.levels is on.way kind kinds find
          avoid are

      -- whether it is wanted
      wanted-is : is_wanted kind find
          (an_occurrence (below table (innermost path'.levels) u) (tree_at (word_in table) rows u.id.0)) ≡
          is_sought find (kind_at rows u.id.0)
      wanted-is =
          let held = use-held table rows sound marks start start' path path' u next way' new.levels is in
          ap (is_sought find)
          (ap kind (ap origin (sound.trees_of_uses (word_in table) u.id.0 held)) ∙ kinds u.id.0 held)

      pub go-found : fault_of (below table (innermost path'.levels) u).word ≡ None →
          is_sought find (kind_at rows u.id.0) ≡ true →
          first_of (is_wanted kind find)
          (entered_at_all table rows kind find avoid (coming_of rows start path.levels)) ≡
          found (an_occurrence (below table (innermost path'.levels) u) (tree_at (word_in table) rows u.id.0))
          (entered_at_all table rows kind find avoid (coming_of rows start' new.levels))
      go-found e t =
          ap (first_of (is_wanted kind find)) occurs ∙
          first-found (is_wanted kind find)
          (an_occurrence (below table (innermost path'.levels) u) (tree_at (word_in table) rows u.id.0))
          (entered_at_all table rows kind find avoid (coming_of rows start' new.levels)) e (wanted-is ∙ t)

      pub go-passed : fault_of (below table (innermost path'.levels) u).word ≡ None →
          is_sought find (kind_at rows u.id.0) ≡ false →
          first_of (is_wanted kind find)
          (entered_at_all table rows kind find avoid (coming_of rows start path.levels)) ≡
          first_of (is_wanted kind find)
          (entered_at_all table rows kind find avoid (coming_of rows start' new.levels))
      go-passed e t =
          ap (first_of (is_wanted kind find)) occurs ∙
          first-passed (is_wanted kind find)
          (an_occurrence (below table (innermost path'.levels) u) (tree_at (word_in table) rows u.id.0))
          (entered_at_all table rows kind find avoid (coming_of rows start' new.levels)) e (wanted-is ∙ t)

  module _ (kind : ℕ → Kind) (kinds : HaveKinds rows kind) (find avoid : Option Kind)
      (are : AreMarks rows find avoid marks) where
    pub go-past : (f : WordFault) → fault_of (below table (innermost path'.levels) u).word ≡ Some f →
        first_of (is_wanted kind find)
        (entered_at_all table rows kind find avoid (coming_of rows start path.levels)) ≡ past (limit_of f)
    go-past f e =
        let levels = path'.levels ++ an_entered u.id 0 (below table (innermost path'.levels) u) ∷ [] in
        ap (first_of (is_wanted kind find))
        (step-on table rows sound marks start start' path path' u next way' levels refl on.way kind kinds find avoid
        are) ∙
        first-past (is_wanted kind find)
        (an_occurrence (below table (innermost path'.levels) u) (tree_at (word_in table) rows u.id.0))
        (entered_at_all table rows kind find avoid (coming_of rows start' levels)) f e

-- ---- nothing is left
module _ (table : List (List Pair)) (rows : List Row) (sound : IsSound rows) (marks : List Bool)
    (start start' : Option UseOf) (path path' : Path) (end : IsEndOfWay rows marks start path start' path')
    (kind : ℕ → Kind) (kinds : HaveKinds rows kind) (find avoid : Option Kind)
    (are : AreMarks rows find avoid marks) where
  pub go-over : IsWay rows (length marks) start path →
      first_of (is_wanted kind find) (entered_at_all table rows kind find avoid (coming_of rows start path.levels)) ≡
      over
  go-over way =
      ap (first_of (is_wanted kind find))
      (none-entered table rows sound kind kinds find avoid marks are (coming_of rows start path.levels)
      (way-held rows sound (length marks) start path way) end.none)

  pub none-left : entered_at_all table rows kind find avoid (coming_of rows start' path'.levels) ≡ []
  none-left = λ j. entered_at_all table rows kind find avoid (coming_of rows (end.root_gone j) (end.none_entered j))
