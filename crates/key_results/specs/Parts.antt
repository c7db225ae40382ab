-- Results before their nodes are made: uses of the tree that comes of each key.
use Rattle.std.specs.Prelude.{◌≡◌, ◌&&◌, not, ℕ, ◌<◌, Bool, true, false, List, [], ◌∷◌, map, length, All, Contains}
use Rattle.std.specs.Prelude.{Some, slice_get, if◌then◌else◌}
use Rattle.std.specs.List.{flat_map}
use Rattle.std.specs.Option.{option_map_or}
use Rattle.lists.specs.Sameness.{is_empty}
use Rattle.location_words.specs.declared.pair.Pair.{Pair}
use Rattle.expansion_laws.specs.Trees.{Tree, Use, a_single, tree_of}
use Rattle.expansion_laws.specs.Contexts.{bare}
use Rattle.key_results.specs.declared.derive.Outcome.{Outcome}
use Rattle.key_results.specs.declared.derive.Outcome.TheVariants.{Stays, Rebuilt, Joined}
use Rattle.key_results.specs.declared.derive.Link.{Link}
use Rattle.key_results.specs.declared.derive.Visit.{Visit}
use Rattle.key_results.specs.declared.words.Mover.{Mover}
use Rattle.key_results.specs.declared.parts.Part.{Part}
use Rattle.key_results.specs.declared.parts.Outgrowth.{Outgrowth}
use Rattle.key_results.specs.Derivations.{results_at, joined_by, linked}

-- the use that a part stands for, given the tree that comes of each key
abbrev pub use_of_part : (ℕ → List Pair) → (ℕ → Tree) → Part → Use
use_of_part word own p = a_single p.turn (word p.place.0) (own p.of)

-- a part is of a key before one, and its word has a number below n
abbrev pub IsHeldPart : ℕ → ℕ → Part → Type 0
IsHeldPart k n p = (p.of < k) × (p.place.0 < n)

-- the tree of the first use
abbrev pub first_tree : List Use → Tree
first_tree [] = tree_of 0 []
first_tree (u ∷ us) = u.tree

-- the tree that comes of a key which has one of its own: that of its one result
abbrev pub own_at : List (List Use) → ℕ → Tree
own_at results k = first_tree (results_at results k)

-- whether a tree of its own comes of a key
abbrev pub has_own : Outcome → Bool → Bool → Bool → Bool
has_own Stays prune no_links no_parts = true
has_own Rebuilt prune no_links no_parts = not (prune && not no_links && no_parts)
has_own Joined prune no_links no_parts = false

-- the results of a key, by what comes of it
abbrev pub results_by : (ℕ → List Pair) → (ℕ → Tree) → ℕ → Outgrowth → List Use
results_by word own k o = if o.own then bare (own k) ∷ [] else map (use_of_part word own) o.parts.items

-- what comes of a visit: the joined results of what it asks for, and whether a tree of its own comes of it
pub record IsOutgrowth (word : ℕ → List Pair) (results : List (List Use)) (prune : Bool) (v : Visit) (o : Outgrowth) :
    Type 0 where
  pub parts : joined_by word v.mover results v.links.items ≡ map (use_of_part word (own_at results)) o.parts.items
  pub own : o.own ≡ has_own v.outcome prune (is_empty v.links.items) (is_empty o.parts.items)

-- parts are of earlier keys
abbrev pub AreHeldParts : ℕ → List Outgrowth → Type 0
AreHeldParts n outgrowths =
    (k : ℕ) (o : Outgrowth) → slice_get outgrowths k ≡ Some o → All (IsHeldPart k n) o.parts.items

-- whether a tree of its own comes of a key
abbrev pub is_own_at : List Outgrowth → ℕ → Bool
is_own_at outgrowths k = option_map_or (λ (o : Outgrowth). o.own) (slice_get outgrowths k) false

-- parts are uses of such trees
abbrev pub ArePartsOfOwn : List Outgrowth → List Part → Type 0
ArePartsOfOwn outgrowths ps = All (λ (p : Part). is_own_at outgrowths p.of ≡ true) ps

abbrev pub AreOfOwn : List Outgrowth → Type 0
AreOfOwn outgrowths = All (λ (o : Outgrowth). ArePartsOfOwn outgrowths o.parts.items) outgrowths

-- the words of uses
abbrev pub words_of : List Use → List (List Pair)
words_of us = map (λ (u : Use). u.word) us

-- the results of a key that has come to something, and those to which links lead
abbrev pub results_in : (ℕ → List Pair) → (ℕ → Tree) → List Outgrowth → ℕ → List Use
results_in word own outgrowths k = option_map_or (results_by word own k) (slice_get outgrowths k) []

abbrev pub joined_parts : (ℕ → List Pair) → (ℕ → Tree) → Mover → List Outgrowth → List Link → List Use
joined_parts word own m outgrowths links =
    flat_map (λ (l : Link). map (linked word m l) (results_in word own outgrowths l.key)) links

-- what comes of all visits
pub record AreOutgrowths (word : ℕ → List Pair) (results : List (List Use)) (prune : Bool) (visits : List Visit)
    (outgrowths : List Outgrowth) : Type 0 where
  pub long : length outgrowths ≡ length visits
  pub each : (k : ℕ) (v : Visit) (o : Outgrowth) → slice_get visits k ≡ Some v → slice_get outgrowths k ≡ Some o →
      IsOutgrowth word results prune v o

-- a word of the joined results of what some visit asks for
abbrev pub IsJoinedWord : (ℕ → List Pair) → List (List Use) → List Visit → List Pair → Type 0
IsJoinedWord word results visits w =
    (v : Visit) × Contains visits v × Contains (words_of (joined_by word v.mover results v.links.items)) w
