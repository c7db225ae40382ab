-- A shape is entered: its occurrences are met, those below it use by use.
use Rattle.std.proofs.Common.{◌≡◌, ◌∙◌, ◌<◌, ◌≤◌, ◌+◌, refl, sym, ap, subst, arith, inl, inr, not, true≢false}
use Rattle.std.specs.Prelude.{ℕ, suc, Bool, true, false, List, [], ◌∷◌, ◌++◌, map, take, drop, length, Contains, None, Some, slice_get}
use Rattle.std.specs.List.{list_any}
use Rattle.std.proofs.lemmas.List.{take_all, length-map}
use Rattle.std.proofs.lemmas.Grind.{flat_map-append}
use Rattle.std.proofs.lemmas.List.Sums.{fold-append}
use Rattle.std.proofs.lemmas.Option.{slice_get_within}
use Rattle.shape_pool.specs.declared.node.NodeId.{NodeId}
use Rattle.lists.proofs.Places.{take-at, split-at, Contains-at}
use Rattle.lists.proofs.Tests.{list_any-found}
use Rattle.location_words.specs.declared.pair.Pair.{Pair}
use Rattle.location_words.specs.Faults.{fault_of}
use Rattle.location_words.specs.Laws.{LimitsTell}
use Rattle.location_words.specs.Pairs.{mul}
use Rattle.location_words.specs.Tables.{IsTable}
use Rattle.expansion_laws.specs.Trees.{Tree, Use, node, tree_of}
use Rattle.expansion_laws.specs.Measures.{depth}
use Rattle.shape_pool.specs.declared.node.UseOf.{UseOf}
use Rattle.shape_pool.specs.Rows.{Row, origin_at, uses_at, use_by, tree_at, HasPlaces}
use Rattle.shape_pool.specs.Laws.{word_in, IsSound}
use Rattle.subshape_maps.specs.declared.shape.ShapeAt.{ShapeAt}
use Rattle.subshape_maps.specs.declared.fault.MapFault.{MapFault}
use Rattle.subshape_maps.specs.Shapes.{Shape, a_shape, shape_eq, occurrences, occurrences_of, with_new, first_places_after}
use Rattle.subshape_maps.specs.Refusals.{most_shapes, AreMet, IsDue, IsDueWord, IsOneTooMany}
use Rattle.subshape_maps.specs.Numbered.{at_eq, shape_by, shapes_by, occurrences_by, IsHeldAt, AreHeld, Grows, IsClosed, IsReady, Meets}
use Rattle.subshape_maps.proofs.FirstPlaces.{with-cases, more-known, append-none}
use Rattle.subshape_maps.proofs.Occurrences.{of_use, of_uses, below-list, use-less-deep}
use Rattle.subshape_maps.proofs.MetLemmas.{ShapesAreTold, met-joined, one-met, known-met, due-later, due-word, due-many, closed-less, closed-with, closed-uses}
use Rattle.lists.proofs.Entries.{All-place, slice_get-mapped}
use Rattle.subshape_maps.proofs.NumberLemmas.{word-at, no-fault, word-stays, places-stay, tree-stays, shapes-stay, held-stay, any-same, noted-is, words-within}

-- the uses of a shape's tree
abbrev pub uses_by : List (List Pair) → List Row → ShapeAt → List Use
uses_by table rows at = map (use_by (word_in table) (tree_at (word_in table) rows)) (uses_at rows at.id.0)

-- After shapes seen before, a shape is met, and the occurrences of these of its uses.
pub record IsEntered (rows : List Row) (old : List (List Pair)) (before : List ShapeAt) (at : ShapeAt) (us : List Use) (table : List (List Pair)) (seen : List ShapeAt) : Type 0 where
  pub words : IsTable table
  pub grows : Grows old table
  pub held : AreHeld table rows seen
  pub shapes : shapes_by table rows seen ≡ first_places_after shape_eq (shapes_by old rows before) (shape_by old rows at ∷ of_uses (word_in old at.word.0) us)
  pub within : AreMet (shapes_by old rows before) (shape_by old rows at ∷ of_uses (word_in old at.word.0) us)
  pub closed : IsClosed (depth (shape_by old rows at).tree) (with_new shape_eq (shapes_by old rows before) (shape_by old rows at))

due-word-first : (met : List Shape) (w : List Pair) (x : Tree) (rest : List Shape) (fault : MapFault) → length met ≤ most_shapes → IsDueWord (fault_of w) fault → IsDue met (occurrences w x ++ rest) fault
due-word-first met w (node k us) rest fault few d = due-word met (a_shape (node k us) w) _ fault few d

module _ (rows : List Row) (sound : IsSound rows) (told : ShapesAreTold) (limits : LimitsTell)
    (old : List (List Pair)) (before : List ShapeAt) (at : ShapeAt) (ready : IsReady old rows before at) where
  abbrev pub met : List Shape
  met = shapes_by old rows before

  -- the occurrences of the shape: itself, and those of its uses
  pub whole : occurrences_by old rows at ≡ shape_by old rows at ∷ of_uses (word_in old at.word.0) (uses_by old rows at)
  whole =
      let w = word_in old at.word.0 in
      let us = uses_by old rows at in
      let o = origin_at rows at.id.0 in
      let e : tree_at (word_in old) rows at.id.0 ≡ tree_of o us = sound.trees_of_uses (word_in old) at.id.0 ready.at_held.0 in
      ap (occurrences w) e ∙ ap (λ l. a_shape (tree_of o us) w ∷ l) (below-list w us) ∙ ap (λ x. a_shape x w ∷ of_uses w us) (sym e)

  -- ---- the shape itself
  fault-none : fault_of (word_in old at.word.0) ≡ None
  fault-none = no-fault limits old at.word.0 ready.words ready.at_held.1

  held-after : (seen : List ShapeAt) → seen ≡ with_new at_eq before at → AreHeld old rows seen
  held-after seen keys s m = elim (with-cases at_eq before at s (subst (λ l. Contains l s) keys m)) [
    | inl h ↦ ready.held s h
    | inr e ↦ subst (λ t. IsHeldAt old rows t) e ready.at_held
  ]

  shapes-after : (seen : List ShapeAt) → seen ≡ with_new at_eq before at → shapes_by old rows seen ≡ with_new shape_eq met (shape_by old rows at)
  shapes-after seen keys = ap (shapes_by old rows) keys ∙ noted-is rows sound told old ready.words ready.places before at ready.held ready.at_held

  few-before : length met ≤ most_shapes
  few-before = let a = length-map before (shape_by old rows) in let b = ready.few in omega (arith, a, b)

  few-after : (seen : List ShapeAt) → seen ≡ with_new at_eq before at → length seen ≤ most_shapes → length (with_new shape_eq met (shape_by old rows at)) ≤ most_shapes
  few-after seen keys few =
      let a = ap length (shapes-after seen keys) in
      let b = length-map seen (shape_by old rows) in
      omega (arith, a, b, few)

  pub entered : (seen : List ShapeAt) (new : Bool) → seen ≡ with_new at_eq before at → new ≡ not (list_any (at_eq at) before) → new ≡ true → length seen ≤ most_shapes →
      IsEntered rows old before at [] old seen
  entered seen new keys is e few = record {
    words = ready.words;
    grows = λ i w h. h;
    held = held-after seen keys;
    shapes = shapes-after seen keys;
    within = one-met met (shape_by old rows at) fault-none (few-after seen keys few);
    closed = fresh (list_any (shape_eq (shape_by old rows at)) met) refl;
  }
    where
      fresh : (b : Bool) → list_any (shape_eq (shape_by old rows at)) met ≡ b → IsClosed (depth (shape_by old rows at).tree) (with_new shape_eq met (shape_by old rows at))
      fresh true f = absurd (true≢false (sym e ∙ is ∙ ap not (any-same rows sound told old ready.words ready.places before at ready.held ready.at_held ∙ f)))
      fresh false f = subst (λ l. IsClosed (depth (shape_by old rows at).tree) l) (sym (rw f refl)) (closed-with met (shape_by old rows at) ready.closed)

  -- a shape that was met before
  pub skipped : (seen : List ShapeAt) (new : Bool) → seen ≡ with_new at_eq before at → new ≡ not (list_any (at_eq at) before) → new ≡ false → Meets old old rows before seen at
  skipped seen new keys is e =
      let s = shape_by old rows at in
      let any : list_any (shape_eq s) met ≡ true = go (list_any (shape_eq s) met) refl in
      let r = list_any-found (shape_eq s) met any in
      let here : Contains met s = subst (λ z. Contains met z) (sym ((told s r.0).0 r.2)) r.1 in
      let all : (y : Shape) → Contains (occurrences_of s) y → Contains met y = λ y m. ready.closed s here (omega arith) y m in
      record {
        held = held-after seen keys;
        shapes = shapes-after seen keys ∙ rw any (sym (more-known shape_eq told met (occurrences_of s) all));
        within = known-met told met (occurrences_of s) all (words-within rows sound told old ready.words ready.places limits before ready.held) few-before;
      }
    where
      go : (b : Bool) → list_any (shape_eq (shape_by old rows at)) met ≡ b → list_any (shape_eq (shape_by old rows at)) met ≡ true
      go true f = f
      go false f = absurd (true≢false (sym (is ∙ ap not (any-same rows sound told old ready.words ready.places before at ready.held ready.at_held ∙ f)) ∙ e))

  pub too-many : (fault : MapFault) → IsOneTooMany (length (with_new at_eq before at)) fault → IsDue met (occurrences_by old rows at) fault
  too-many fault h =
      let a = ap length (shapes-after (with_new at_eq before at) refl) in
      let b = length-map (with_new at_eq before at) (shape_by old rows) in
      let n : length (with_new at_eq before at) ≡ length (with_new shape_eq met (shape_by old rows at)) = omega (arith, a, b) in
      subst (λ l. IsDue met l fault) (sym whole)
      (due-many met (shape_by old rows at) (of_uses (word_in old at.word.0) (uses_by old rows at)) fault few-before fault-none
      (subst (λ m. IsOneTooMany m fault) n h))

  -- ---- the uses of its tree
  module _ (i : ℕ) (u : UseOf) (is : slice_get (uses_at rows at.id.0) i ≡ Some u) where
    abbrev pub one : Use
    one = use_by (word_in old) (tree_at (word_in old) rows) u

    abbrev pub so_far : List Use
    so_far = take i (uses_by old rows at)

    at-one : slice_get (uses_by old rows at) i ≡ Some one
    at-one = slice_get-mapped (use_by (word_in old) (tree_at (word_in old) rows)) (uses_at rows at.id.0) i u is

    one-used : Contains (uses_by old rows at) one
    one-used = Contains-at (uses_by old rows at) i one at-one

    pub used-less : u.id.0 < at.id.0
    used-less = All-place (λ (v : UseOf). v.id.0 < at.id.0) (uses_at rows at.id.0) i u (sound.uses_are_earlier at.id.0 ready.at_held.0) is

    pub used-placed : u.place.0 < length old
    used-placed = All-place (λ (v : UseOf). v.place.0 < length old) (uses_at rows at.id.0) i u (ready.places at.id.0 ready.at_held.0) is

    -- the occurrences of the shape: itself with those of the uses so far, those of this use, and those of the uses after it
    split : (w : List Pair) → of_uses w (uses_by old rows at) ≡ of_uses w so_far ++ (of_use w one ++ of_uses w (drop (i + 1) (uses_by old rows at)))
    split w =
        ap (of_uses w) (split-at (uses_by old rows at) i one at-one) ∙ flat_map-append (of_use w) so_far (one ∷ drop (i + 1) (uses_by old rows at))

    pub due-of-use : (fault : MapFault) → AreMet met (shape_by old rows at ∷ of_uses (word_in old at.word.0) so_far) →
        IsDue (first_places_after shape_eq met (shape_by old rows at ∷ of_uses (word_in old at.word.0) so_far)) (of_use (word_in old at.word.0) one) fault →
        IsDue met (occurrences_by old rows at) fault
    due-of-use fault within due =
        let w = word_in old at.word.0 in
        subst (λ l. IsDue met l fault) (sym (whole ∙ ap (λ l. shape_by old rows at ∷ l) (split w)))
        (due-later met (shape_by old rows at ∷ of_uses w so_far) (of_use w one) (of_uses w (drop (i + 1) (uses_by old rows at))) fault within due)

    -- the use's word is refused
    pub due-of-word : (table : List (List Pair)) (seen : List ShapeAt) → IsEntered rows old before at so_far table seen → (fault : MapFault) →
        IsDueWord (fault_of (mul (word_in table at.word.0) (word_in table u.place.0))) fault → IsDue met (occurrences_by old rows at) fault
    due-of-word table seen here fault due =
        let w = word_in old at.word.0 in
        let a = word-stays old table here.grows at.word.0 ready.at_held.1 in
        let b = word-stays old table here.grows u.place.0 used-placed in
        let e : mul (word_in table at.word.0) (word_in table u.place.0) ≡ mul w (word_in old u.place.0) = λ k. mul (a k) (b k) in
        let now = first_places_after shape_eq met (shape_by old rows at ∷ of_uses w so_far) in
        due-of-use fault here.within
        (subst (λ l. IsDue now l fault) (append-none (of_use w one))
        (due-word-first now (mul w one.word) one.tree [] fault here.within.few (subst (λ (v : List Pair). IsDueWord (fault_of v) fault) e due)))

    module _ (table : List (List Pair)) (seen : List ShapeAt) (here : IsEntered rows old before at so_far table seen)
        (wider : List (List Pair)) (grows : Grows table wider) (words : IsTable wider) (child : ShapeAt) (id : child.id ≡ u.id)
        (joined : slice_get wider child.word.0 ≡ Some (mul (word_in table at.word.0) (word_in table u.place.0))) where
      all-grows : Grows old wider
      all-grows k v e = grows k v (here.grows k v e)

      places-now : HasPlaces rows (length table)
      places-now = places-stay old table here.grows rows ready.places

      child-held : IsHeldAt wider rows child
      child-held = (
        (let a = ap (λ (n : NodeId). n.0) id in let b = used-less in let c = ready.at_held.0 in omega (arith, a, b, c)),
        slice_get_within wider child.word.0 _ joined,
      )

      child-is : shape_by wider rows child ≡ a_shape one.tree (mul (word_in old at.word.0) one.word)
      child-is =
          let a = word-stays old table here.grows at.word.0 ready.at_held.1 in
          let b = word-stays old table here.grows u.place.0 used-placed in
          let word : word_in wider child.word.0 ≡ mul (word_in old at.word.0) (word_in old u.place.0) = word-at wider child.word.0 _ joined ∙ (λ k. mul (a k) (b k)) in
          let held : u.id.0 < length rows = (let l = used-less in let c = ready.at_held.0 in omega (arith, l, c)) in
          let tree : tree_at (word_in wider) rows child.id.0 ≡ tree_at (word_in old) rows u.id.0 =
          ap (λ (n : NodeId). tree_at (word_in wider) rows n.0) id ∙ tree-stays old wider all-grows rows sound ready.places u.id.0 held in
          λ k. a_shape (tree k) (word k)

      seen-is : shapes_by wider rows seen ≡ first_places_after shape_eq met (shape_by old rows at ∷ of_uses (word_in old at.word.0) so_far)
      seen-is = shapes-stay table wider grows rows sound places-now seen here.held ∙ here.shapes

      pub child-ready : IsReady wider rows seen child
      child-ready = record {
        words = words;
        places = places-stay table wider grows rows places-now;
        held = held-stay table wider grows rows sound places-now seen here.held;
        at_held = child-held;
        few = (let a = length-map seen (shape_by wider rows) in let b = ap length seen-is in let c = here.within.few in omega (arith, a, b, c));
        closed =
            let s = shape_by old rows at in
            let deep : suc (depth (tree_at (word_in wider) rows child.id.0)) ≤ depth s.tree =
            (let a = ap (λ (x : Shape). depth x.tree) child-is in
            let b = ap depth (sound.trees_of_uses (word_in old) at.id.0 ready.at_held.0) in
            let c = use-less-deep (origin_at rows at.id.0) (uses_by old rows at) one one-used in
            omega (arith, a, b, c)) in
            subst (λ l. IsClosed (suc (depth (tree_at (word_in wider) rows child.id.0))) l) (sym seen-is)
            (closed-less (suc (depth (tree_at (word_in wider) rows child.id.0))) (depth s.tree) _ deep
            (closed-uses told (depth s.tree) (with_new shape_eq met s) (word_in old at.word.0) so_far here.closed));
      }

      pub due-of-child : (fault : MapFault) → IsDue (shapes_by wider rows seen) (occurrences_by wider rows child) fault → IsDue met (occurrences_by old rows at) fault
      due-of-child fault due =
          due-of-use fault here.within (subst (λ l. IsDue l (of_use (word_in old at.word.0) one) fault) seen-is
          (subst (λ (s : Shape). IsDue (shapes_by wider rows seen) (occurrences_of s) fault) child-is due))

      pub child-entered : (last : List (List Pair)) (seen' : List ShapeAt) → Grows wider last → IsTable last → Meets wider last rows seen seen' child →
          IsEntered rows old before at (take (i + 1) (uses_by old rows at)) last seen'
      child-entered last seen' on t meets =
          let w = word_in old at.word.0 in
          let s = shape_by old rows at in
          let more : of_uses w (take (i + 1) (uses_by old rows at)) ≡ of_uses w so_far ++ of_use w one =
          ap (of_uses w) (take-at (uses_by old rows at) i one at-one) ∙ flat_map-append (of_use w) so_far (one ∷ []) ∙ ap (λ l. of_uses w so_far ++ l) (append-none (of_use w one)) in
          let occurs : occurrences_by wider rows child ≡ of_use w one = ap (λ (x : Shape). occurrences_of x) child-is in
          let within : AreMet (first_places_after shape_eq met (s ∷ of_uses w so_far)) (of_use w one) =
          subst (λ l. AreMet l (of_use w one)) seen-is (subst (λ l. AreMet (shapes_by wider rows seen) l) occurs meets.within) in
          record {
            words = t;
            grows = λ k v e. on k v (all-grows k v e);
            held = meets.held;
            shapes =
                meets.shapes ∙ (λ k. first_places_after shape_eq (seen-is k) (occurs k)) ∙
                sym (fold-append (with_new shape_eq) met (s ∷ of_uses w so_far) (of_use w one)) ∙
                ap (λ l. first_places_after shape_eq met (s ∷ l)) (sym more);
            within = subst (λ l. AreMet met (s ∷ l)) (sym more) (met-joined met (s ∷ of_uses w so_far) (of_use w one) here.within within);
            closed = here.closed;
          }

  -- all uses are gone through
  pub left : (i : ℕ) (table : List (List Pair)) (seen : List ShapeAt) → length (uses_at rows at.id.0) ≤ i → IsEntered rows old before at (take i (uses_by old rows at)) table seen →
      Meets old table rows before seen at
  left i table seen h here =
      let w = word_in old at.word.0 in
      let long = length-map (uses_at rows at.id.0) (use_by (word_in old) (tree_at (word_in old) rows)) in
      let e : take i (uses_by old rows at) ≡ uses_by old rows at = take_all i (uses_by old rows at) (omega (arith, h, long)) in
      let occurs : shape_by old rows at ∷ of_uses w (take i (uses_by old rows at)) ≡ occurrences_by old rows at = ap (λ l. shape_by old rows at ∷ of_uses w l) e ∙ sym whole in
      record {
        held = here.held;
        shapes = here.shapes ∙ ap (first_places_after shape_eq met) occurs;
        within = subst (λ l. AreMet met l) occurs here.within;
      }
