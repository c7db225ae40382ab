-- Why a map of shapes is refused is why a listing is.
use Rattle.std.proofs.Common.{◌≡◌, ◌∙◌, ◌<◌, ◌≤◌, refl, sym, ap, arith, subst}
use Rattle.std.specs.Prelude.{ℕ, ◌+◌, Bool, true, false, List, [], ◌∷◌, ◌++◌, length, Option, None, Some}
use Rattle.std.specs.Prelude.{if◌then◌else◌}
use Rattle.std.specs.Option.{option_map, option_or}
use Rattle.std.specs.List.{list_any}
use Rattle.std.proofs.lemmas.Bool.{le-ltb, lt-ltb}
use Rattle.std.proofs.lemmas.List.{length_push}
use Rattle.lists.proofs.Members.{Contains-here, Contains-there}
use Rattle.location_words.specs.declared.pair.Pair.{Pair}
use Rattle.location_words.specs.declared.fault.WordFault.{WordFault}
use Rattle.location_words.specs.declared.fault.WordFault.TheVariants as word_faults
use Rattle.location_words.specs.Faults.{fault_of}
use Rattle.subshape_maps.specs.declared.fault.MapFault.{MapFault}
use Rattle.subshape_maps.specs.declared.fault.MapFault.TheVariants as map_faults
use Rattle.subshape_maps.specs.Shapes.{Shape, first_places_after, shape_eq, with_new}
use Rattle.subshape_maps.specs.Refusals.{most_shapes, AreMet}
use Rattle.subshape_maps.specs.Refusals.{IsDue as IsDueMap}
use Rattle.subshape_maps.specs.Above.{most_above, IsDueAbove}
use Rattle.shape_listing.specs.declared.fault.ListingFault.{ListingFault}
use Rattle.shape_listing.specs.declared.fault.ListingFault.TheVariants.{Keys, WordPairs, WordPower, Pairs, NoMemory}
use Rattle.shape_listing.specs.Causes.{keys_due, meeting_due, of_map, of_word, pairs_due, word_due, IsDue}

-- ---- lists of shapes only grow
grown : (met : List Shape) (s : Shape) → length met ≤ length (with_new shape_eq met s)
grown met s = go (list_any (shape_eq s) met)
  where
    go : (b : Bool) → length met ≤ length (if b then met else met ++ s ∷ [])
    go true = omega arith
    go false = let e = length_push met s in omega (arith, e)

all-grown : (met more : List Shape) → length met ≤ length (first_places_after shape_eq met more)
all-grown met [] = omega arith
all-grown met (s ∷ more) =
    let one = grown met s in let all = all-grown (with_new shape_eq met s) more in omega (arith, one, all)

-- ---- one shape within the limits
no-word : (w : List Pair) → fault_of w ≡ None → word_due w ≡ None
no-word w e = ap (option_map of_word) e

few-keys : (met : List Shape) → length met ≤ most_shapes → keys_due met ≡ None
few-keys met few = ap (λ b. if b then Some (Keys (most_shapes + 1)) else None) (le-ltb most_shapes (length met) few)

many-keys : (met : List Shape) → most_shapes < length met → keys_due met ≡ Some (Keys (most_shapes + 1))
many-keys met many =
    ap (λ b. if b then Some (Keys (most_shapes + 1)) else None) (lt-ltb most_shapes (length met) many)

module _ (met : List Shape) (s : Shape) (more : List Shape) (are : AreMet met (s ∷ more)) where
  met-one : keys_due (with_new shape_eq met s) ≡ None
  met-one =
      let few = are.few in let all = all-grown (with_new shape_eq met s) more in
      few-keys (with_new shape_eq met s) (omega (arith, few, all))

  met-rest : AreMet (with_new shape_eq met s) more
  met-rest = record { words = λ y m. are.words y (Contains-there s y more m); few = are.few }

  -- such a shape is passed by
  passed : (after : List Shape)
      → meeting_due met (s ∷ after) ≡ meeting_due (with_new shape_eq met s) after
  passed after = λ i.
      option_or (no-word s.word (are.words s (Contains-here s more)) i)
      (option_or (met-one i) (meeting_due (with_new shape_eq met s) after))

-- ---- all are met
pub none-due : (met more : List Shape) → AreMet met more → meeting_due met more ≡ None
none-due met [] are = refl
none-due met (s ∷ more) are =
    passed met s more are more ∙ none-due (with_new shape_eq met s) more (met-rest met s more are)

-- ---- the first that isn't
module _ (s : Shape) (after : List Shape) where
  -- what is due when it comes
  abbrev here-due : List Shape → Option ListingFault
  here-due met = meeting_due met (s ∷ after)

  at-last : (met before : List Shape) → AreMet met before
      → meeting_due met (before ++ s ∷ after) ≡ here-due (first_places_after shape_eq met before)
  at-last met [] are = refl
  at-last met (b ∷ before) are =
      passed met b before are (before ++ s ∷ after)
      ∙ at-last (with_new shape_eq met b) before (met-rest met b before are)

  all-before : (met before : List Shape)
      → first_places_after shape_eq met (before ++ s ∷ [])
      ≡ with_new shape_eq (first_places_after shape_eq met before) s
  all-before met [] = refl
  all-before met (b ∷ before) = all-before (with_new shape_eq met b) before

  word-here : (met : List Shape) (f : WordFault) → fault_of s.word ≡ Some f → here-due met ≡ Some (of_word f)
  word-here met f e =
      ap (λ o. option_or (option_map of_word o) (option_or (keys_due (with_new shape_eq met s))
      (meeting_due (with_new shape_eq met s) after))) e

  keys-here : (met : List Shape) → fault_of s.word ≡ None → most_shapes < length (with_new shape_eq met s)
      → here-due met ≡ Some (Keys (most_shapes + 1))
  keys-here met e many =
      ap (λ o. option_or (option_map of_word o) (option_or (keys_due (with_new shape_eq met s))
      (meeting_due (with_new shape_eq met s) after))) e
      ∙ ap (λ o. option_or o (meeting_due (with_new shape_eq met s) after))
      (many-keys (with_new shape_eq met s) many)

-- ---- as a map is refused, so is a listing
due-word : (due : Option ListingFault) (f : WordFault) → due ≡ Some (of_word f) → IsDue due (of_word f)
due-word due (word_faults.Pairs n) e = e
due-word due (word_faults.Power n) e = e
due-word due word_faults.NoMemory e = tt

pub map-refused : (shapes : List Shape) (f : MapFault) → IsDueMap [] shapes f
    → IsDue (meeting_due [] shapes) (of_map f)
map-refused shapes (map_faults.Word f) h =
    due-word (meeting_due [] shapes) f
    (ap (meeting_due []) h.3.parts ∙ at-last h.1 h.2 [] h.0 h.3.within
    ∙ word-here h.1 h.2 (first_places_after shape_eq [] h.0) f h.4)
map-refused shapes (map_faults.Keys n) h =
    ap (meeting_due []) h.3.parts ∙ at-last h.1 h.2 [] h.0 h.3.within
    ∙ keys-here h.1 h.2 (first_places_after shape_eq [] h.0) h.4
    (subst (λ l. most_shapes < length l) (all-before h.1 h.2 [] h.0) h.5)
    ∙ ap (λ k. Some (Keys k)) (sym h.6)
map-refused shapes (map_faults.Pairs n) h = absurd h
map-refused shapes map_faults.NoMemory h = tt

-- ---- and with pairs
pub few-pairs : (due : Option ListingFault) (pairs : ℕ) → due ≡ None → pairs ≤ most_above
    → option_or due (pairs_due pairs) ≡ None
few-pairs due pairs e few = λ i.
    option_or (e i) ((if le-ltb most_above pairs few i then Some (Pairs (most_above + 1)) else None))

more-due : (due next : Option ListingFault) (f : ListingFault) → IsDue due f → IsDue (option_or due next) f
more-due (Some d) next f h = h
more-due None next (Keys n) h = absurd cc
more-due None next (WordPairs n) h = absurd cc
more-due None next (WordPower n) h = absurd cc
more-due None next (Pairs n) h = absurd cc
more-due None next NoMemory h = tt

pub above-refused : (shapes : List Shape) (pairs : ℕ) (f : MapFault) → IsDueAbove shapes pairs f
    → IsDue (option_or (meeting_due [] shapes) (pairs_due pairs)) (of_map f)
above-refused shapes pairs (map_faults.Word f) h =
    more-due (meeting_due [] shapes) (pairs_due pairs) (of_word f) (map-refused shapes (map_faults.Word f) h)
above-refused shapes pairs (map_faults.Keys n) h =
    more-due (meeting_due [] shapes) (pairs_due pairs) (Keys n) (map-refused shapes (map_faults.Keys n) h)
above-refused shapes pairs (map_faults.Pairs n) h =
    ap (λ o. option_or o (pairs_due pairs)) (none-due [] shapes h.0)
    ∙ ap (λ b. if b then Some (Pairs (most_above + 1)) else None) (lt-ltb most_above pairs h.1)
    ∙ ap (λ k. Some (Pairs k)) (sym h.2)
above-refused shapes pairs map_faults.NoMemory h = tt
