-- The tree of a record by its uses, and what it has of uses.
use Rattle.std.proofs.Common.{◌≡◌, ◌<◌, ◌≤◌, ◌+◌, ◌-◌, sym, ◌∙◌, ap, subst, arith, slice_index_or, take, drop}
use Rattle.std.specs.Prelude.{ℕ, zero, suc, Some, List, [], ◌∷◌, ◌++◌, map, length, reverse, All, slice_get}
use Rattle.std.proofs.lemmas.List.{length-map, length-reverse, map-append}
use Rattle.std.proofs.lemmas.List.{take_more, take-append-drop, drop_more, take_all}
use Rattle.std.proofs.lemmas.Option.{slice_get-get_or, slice_get-map, same_Some}
use Rattle.std.specs.Option.{option_map}
use Rattle.std.proofs.lemmas.List.Elements.{All-contains}
use Rattle.lists.proofs.Places.{Contains-at, slice_get-reverse}
use Rattle.expansion_laws.specs.declared.fault.ExpandFault.{ExpandFault}
use Rattle.expansion_laws.specs.declared.fault.ExpandFault.TheVariants.{TooBig, Word, NoMemory}
use Rattle.expansion_laws.specs.declared.records.PlainUse.{PlainUse}
use Rattle.expansion_laws.specs.declared.records.PlainRecord.{PlainRecord}
use Rattle.expansion_laws.specs.declared.plain.TreeUse.{TreeUse}
use Rattle.expansion_laws.specs.Trees.{Tree, Use, a_single, uses, tree_of, uses_of}
use Rattle.expansion_laws.specs.Measures.{use_count, uses_count}
use Rattle.expansion_laws.specs.Expansion.{NumberedUse, expanded, trees_of_file, tree_of_number, NamesAbove, IsNumberOf}
use Rattle.expansion_laws.specs.Plain.{shown_use}
use Rattle.expansion_laws.specs.PlainFile.{numbered_use, rows, IsDueExpansion}
use Rattle.expansion_laws.proofs.Subtrees.{tree-parts}
use Rattle.expansion_laws.proofs.FileTrees.{uses-of_number, origin-of_number}

-- ---- how many uses
abbrev count : List Use → ℕ
count us = uses_count (uses_of us)

count-append : (us vs : List Use) → count (us ++ vs) ≡ count us + count vs
count-append [] vs = omega arith
count-append (u ∷ us) vs = let e = count-append us vs in omega (arith, e)

-- ---- the numbers that a record names
named-at : (first : ℕ) (records : List (List NumberedUse)) → NamesAbove first records →
    (i : ℕ) (us : List NumberedUse) → slice_get records i ≡ Some us →
    All (λ u. (first + i < u.number) × (u.number < first + length records)) us
named-at first [] h i us e = absurd cc
named-at first (vs ∷ rest) h zero us e =
    subst (λ l. All (λ (u : NumberedUse). (first + 0 < u.number) × (u.number < first + length (vs ∷ rest))) l)
    (same_Some vs us e)
    (λ k d lt. (let b = h.0 k d lt in let low = b.0 in let high = b.1 in (omega (arith, low), omega (arith, high))))
named-at first (vs ∷ rest) h (suc i) us e =
    λ k d lt. (let b = named-at (suc first) rest h.1 i us e k d lt in let low = b.0 in let high = b.1 in
    (omega (arith, low), omega (arith, high)))

module _ (records : List PlainRecord) (k : ℕ) (items : List PlainUse) (d : PlainRecord)
    (number : IsNumberOf (length records) k)
    (names : NamesAbove 1 (reverse (rows records))) (is : items ≡ (slice_index_or records (length records - k) d).uses)
  where
    same_length : length (rows records) ≡ length records
    same_length = length-map records (λ (r : PlainRecord). map numbered_use r.uses)

    number_of_rows : IsNumberOf (length (rows records)) k
    number_of_rows = let low = number.0 in let high = number.1 in let e = same_length in (low, omega (arith, high, e))

    row : slice_get (rows records) (length (rows records) - k) ≡ Some (map numbered_use items)
    row =
        let low = number.0 in let high = number.1 in
        ap (λ n. slice_get (rows records) (n - k)) same_length
        ∙ slice_get-map (λ (r : PlainRecord). map numbered_use r.uses) records (length records - k)
        ∙ ap (option_map (λ (r : PlainRecord). map numbered_use r.uses))
        (slice_get-get_or records (length records - k) d (omega (arith, low, high)))
        ∙ ap (λ us. Some (map numbered_use us)) (sym is)

    abbrev below : List PlainUse → List Use
    below us = map (expanded 1 (trees_of_file (rows records))) (map numbered_use us)

    shape : tree_of_number (rows records) k ≡ tree_of k (below items)
    shape =
        sym (tree-parts (tree_of_number (rows records) k))
        ∙ ap (λ n. tree_of n (uses (tree_of_number (rows records) k)))
        (origin-of_number (rows records) k number_of_rows)
        ∙ ap (tree_of k) (uses-of_number (rows records) names k (map numbered_use items) number_of_rows row)

    whole : use_count (tree_of_number (rows records) k) ≡ count (below items)
    whole = ap use_count shape

    module _ (i : ℕ) (u : PlainUse) (lt : i < length items) (at : u ≡ slice_index_or items i u) where
      at_place : slice_get items i ≡ Some u
      at_place = slice_get-get_or items i u lt ∙ ap Some (sym at)

      -- the record that is named stands above, and is there
      pub child-number : (k < u.number) × (u.number ≤ length records)
      child-number =
          let low = number.0 in let high = number.1 in let e = same_length in
          let turned = length-reverse (rows records) in
          let there : slice_get (reverse (rows records)) (k - 1) ≡ Some (map numbered_use items) =
          slice_get-reverse (rows records) (k - 1) (omega (arith, low, high, e))
          ∙
          ap (λ n. slice_get (rows records) n)
          (let same : length (rows records) - suc (k - 1) ≡ length (rows records) - k = omega (arith, low) in same) ∙
          row in
          let one =
          All-contains
          (λ (v : NumberedUse). (1 + (k - 1) < v.number) × (v.number < 1 + length (reverse (rows records))))
          (map numbered_use items) (numbered_use u)
          (named-at 1 (reverse (rows records)) names (k - 1) (map numbered_use items) there)
          (Contains-at (map numbered_use items) i (numbered_use u)
          (slice_get-map numbered_use items i ∙ ap (option_map numbered_use) at_place)) in
          let a = one.0 in let b = one.1 in
          (omega (arith, a, low), omega (arith, b, turned, e))

      -- the uses up to this one
      below-more : below (take (i + 1) items) ≡ below (take i items) ++
          a_single u.turn u.word (tree_of_number (rows records) u.number) ∷ []
      below-more =
          ap below (take_more items i u lt)
          ∙ ap (λ v. below (take i items ++ v ∷ [])) (sym at)
          ∙ ap (map (expanded 1 (trees_of_file (rows records)))) (map-append numbered_use (take i items) (u ∷ []))
          ∙ map-append (expanded 1 (trees_of_file (rows records))) (map numbered_use (take i items))
          (numbered_use u ∷ [])

      pub one-more : (made new : List TreeUse) (v : TreeUse) → new ≡ made ++ v ∷ [] →
          shown_use v ≡ a_single u.turn u.word (tree_of_number (rows records) u.number) →
          map shown_use made ≡ below (take i items) → map shown_use new ≡ below (take (i + 1) items)
      one-more made new v e f h =
          ap (map shown_use) e ∙ map-append shown_use made (v ∷ []) ∙ (λ j. h j ++ f j ∷ []) ∙ sym below-more

      -- the count of the whole is that of the uses so far, of this one and of the others
      parts : (rest : ℕ) × (use_count (tree_of_number (rows records) k) ≡
          count (below (take i items)) + suc (use_count (tree_of_number (rows records) u.number)) + rest)
      parts =
          let split : below items ≡ below (take i items) ++ below (drop i items) =
          ap below (sym (take-append-drop i items))
          ∙ ap (map (expanded 1 (trees_of_file (rows records)))) (map-append numbered_use (take i items) (drop i items))
          ∙ map-append (expanded 1 (trees_of_file (rows records))) (map numbered_use (take i items))
          (map numbered_use (drop i items)) in
          let next : below (drop i items) ≡ a_single u.turn u.word (tree_of_number (rows records) u.number) ∷
          below (drop (i + 1) items) =
          ap below (drop_more items i u lt ∙ ap (λ v. v ∷ drop (i + 1) items) (sym at)) in
          let all = whole ∙ ap count split ∙ count-append (below (take i items)) (below (drop i items)) in
          let second : count (below (drop i items)) ≡ suc
          (use_count (tree_of_number (rows records) u.number) + count (below (drop (i + 1) items))) = ap count next in
          (count (below (drop (i + 1) items)), omega (arith, all, second))

      module _ (made : List TreeUse) (left budget : ℕ) (so_far : map shown_use made ≡ below (take i items))
          (spent : left + count (map shown_use made) ≡ budget) where
        spent_on : left + count (below (take i items)) ≡ budget
        spent_on = ap (λ us. left + count us) (sym so_far) ∙ spent

        pub none-left : left ≡ 0 → budget < use_count (tree_of_number (rows records) k)
        none-left e = let p = parts.1 in let s = spent_on in omega (arith, e, p, s)

        -- a fault of the child is one of the whole
        pub child-fault : (left ≡ 0 → ⊥) → (fault : ExpandFault) →
            IsDueExpansion (use_count (tree_of_number (rows records) u.number)) (left - 1) fault →
            IsDueExpansion (use_count (tree_of_number (rows records) k)) budget fault
        child-fault ne TooBig h = let p = parts.1 in let s = spent_on in omega (arith, ne, h, p, s)
        child-fault ne (Word fault) h = h
        child-fault ne NoMemory h = tt

        pub spent-more : (left ≡ 0 → ⊥) → (new : List TreeUse) (v : TreeUse) (after : ℕ) → new ≡ made ++ v ∷ [] →
            shown_use v ≡ a_single u.turn u.word (tree_of_number (rows records) u.number) →
            after + use_count (tree_of_number (rows records) u.number) ≡ left - 1 →
            after + count (map shown_use new) ≡ budget
        spent-more ne new v after e f h =
            let a : count (map shown_use new) ≡ count (map shown_use made) +
            suc (use_count (tree_of_number (rows records) u.number) + 0) =
            ap count (ap (map shown_use) e ∙ map-append shown_use made (v ∷ []) ∙ (λ j. map shown_use made ++ f j ∷ []))
            ∙ count-append (map shown_use made) (a_single u.turn u.word (tree_of_number (rows records) u.number) ∷
            []) in
            omega (arith, ne, a, h, spent)

    -- at the end
    module _ (i : ℕ) (made : List TreeUse) (so_far : map shown_use made ≡ below (take i items)) (end : length items ≤ i)
      where
        all : map shown_use made ≡ below items
        all = so_far ∙ ap below (take_all i items end)

        pub tree-made : (x : Tree) → x ≡ tree_of k (map shown_use made) → x ≡ tree_of_number (rows records) k
        tree-made x e = e ∙ ap (tree_of k) all ∙ sym shape

        pub spent-all : (left budget : ℕ) → left + count (map shown_use made) ≡ budget →
            left + use_count (tree_of_number (rows records) k) ≡ budget
        spent-all left budget h = let a = ap count all in let w = whole in omega (arith, a, w, h)
