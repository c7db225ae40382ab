-- Why a listing is refused.
use Rattle.std.specs.Prelude.{◌≡◌, ℕ, zero, suc, ◌+◌, Bool, nat_lt, if◌then◌else◌}
use Rattle.std.specs.Prelude.{List, [], ◌∷◌, length, Option, None, Some}
use Rattle.std.specs.Option.{option_map, option_or}
use Rattle.orientation.specs.declared.kind.Kind.{Kind}
use Rattle.location_words.specs.declared.pair.Pair.{Pair}
use Rattle.location_words.specs.declared.fault.WordFault.{WordFault}
use Rattle.location_words.specs.declared.fault.WordFault.TheVariants as word_faults
use Rattle.location_words.specs.Faults.{fault_of}
use Rattle.expansion_laws.specs.Trees.{Use}
use Rattle.subshape_maps.specs.declared.fault.MapFault.{MapFault}
use Rattle.subshape_maps.specs.declared.fault.MapFault.TheVariants as map_faults
use Rattle.subshape_maps.specs.Shapes.{Shape, shape_eq, with_new, occurrences}
use Rattle.subshape_maps.specs.Refusals.{most_shapes}
use Rattle.subshape_maps.specs.Above.{above_of, most_above, pairs_of}
use Rattle.explorer.specs.declared.found.WordLimit.{WordLimit}
use Rattle.explorer.specs.Walks.{Occurrence, entered, is_wanted}
use Rattle.shape_listing.specs.declared.fault.ListingFault.{ListingFault}
use Rattle.shape_listing.specs.declared.fault.ListingFault.TheVariants.{Keys, WordPairs, WordPower, Pairs, NoMemory}
use Rattle.shape_listing.specs.declared.listing.Listing.{Listing}
use Rattle.shape_listing.specs.declared.listing.Listing.TheVariants.{Shapes, Above, Walk}
use Rattle.shape_listing.specs.Texts.{own_context}

-- a refusal is the one that is due, unless memory is wanting
abbrev pub IsDue : Option ListingFault → ListingFault → Type 0
IsDue due (Keys n) = due ≡ Some (Keys n)
IsDue due (WordPairs n) = due ≡ Some (WordPairs n)
IsDue due (WordPower n) = due ≡ Some (WordPower n)
IsDue due (Pairs n) = due ≡ Some (Pairs n)
IsDue due NoMemory = Unit {0}

-- ---- words

abbrev pub of_word : WordFault → ListingFault
of_word (word_faults.Pairs n) = WordPairs n
of_word (word_faults.Power n) = WordPower n
of_word word_faults.NoMemory = NoMemory

-- the limit that a word passes
abbrev pub word_due : List Pair → Option ListingFault
word_due w = option_map of_word (fault_of w)

-- ---- shapes that are met

-- more shapes of any kind than there may be
abbrev pub keys_due : List Shape → Option ListingFault
keys_due met = if nat_lt most_shapes (length met) then Some (Keys (most_shapes + 1)) else None

-- More shapes are met after others: at each first its word is tested, and then the number of all, each once.
abbrev pub meeting_due : List Shape → List Shape → Option ListingFault
meeting_due met [] = None
meeting_due met (s ∷ more) =
    let all = with_new shape_eq met s in
    option_or (word_due s.word) (option_or (keys_due all) (meeting_due all more))

-- all shapes of a root are met, of whatever kind
abbrev pub map_due : Use → Option ListingFault
map_due root = meeting_due [] (occurrences root.word root.tree)

-- more pairs of a shape and one above it than there may be
abbrev pub pairs_due : ℕ → Option ListingFault
pairs_due pairs = if nat_lt most_above pairs then Some (Pairs (most_above + 1)) else None

-- ---- occurrences that are entered

-- those that are entered up to so many that are wanted
abbrev pub entered_to : (Occurrence → Bool) → ℕ → List Occurrence → List Occurrence
entered_to wanted count [] = []
entered_to wanted zero (o ∷ os) = []
entered_to wanted (suc n) (o ∷ os) = o ∷ entered_to wanted (if wanted o then n else suc n) os

-- their words are tested in order
abbrev pub words_due : List Occurrence → Option ListingFault
words_due [] = None
words_due (o ∷ os) = option_or (word_due o.here.word) (words_due os)

-- ---- each listing, where origins have these kinds

module _ (kind : ℕ → Kind) where
  -- all shapes are met, and then the pairs of all are counted
  abbrev pub above_due : Kind → Kind → Use → Option ListingFault
  above_due low high root =
      option_or (map_due root) (pairs_due (pairs_of (above_of kind low high root.word root.tree)))

  -- words that are met only after the last occurrence that is listed aren't tested
  abbrev pub walk_due : Option Kind → ℕ → Use → Option ListingFault
  walk_due asked count root =
      words_due
      (entered_to (is_wanted kind asked) count (entered kind asked None (own_context root) root.tree))

  abbrev pub due_of : Listing → Use → Option ListingFault
  due_of (Shapes asked) root = map_due root
  due_of (Above low high) root = above_due low high root
  due_of (Walk asked count) root = walk_due asked count root

-- ---- as the crates below tell it

abbrev pub of_map : MapFault → ListingFault
of_map (map_faults.Word f) = of_word f
of_map (map_faults.Keys n) = Keys n
of_map (map_faults.Pairs n) = Pairs n
of_map map_faults.NoMemory = NoMemory

abbrev pub of_limit : WordLimit → ListingFault
of_limit l = if l.pairs then WordPairs l.count else WordPower l.count
