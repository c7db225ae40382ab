-- The command line that the words after the program's name spell.
use Rattle.std.specs.Prelude.{◌≡◌, ℕ, Bool, not, ◌&&◌, ◌||◌, if◌then◌else◌}
use Rattle.std.specs.Prelude.{nat_eq, nat_le, nat_lt, List, [], ◌∷◌, codes}
use Rattle.std.specs.Prelude.{Option, None, Some, is_some}
use Rattle.std.specs.Option.{option_map, option_or}
use Rattle.std.specs.Cmp.Lexicographic.{pointwise}
use Rattle.orientation.specs.declared.kind.Kind.{Kind}
use Rattle.orientation.specs.Kinds.{kind_of_letters, kind_of_name, rank_of}
use Rattle.brep_tokens.specs.Forms.{number_of}
use Rattle.shape_listing.specs.declared.listing.Listing.{Listing}
use Rattle.shape_listing.specs.declared.listing.Listing.TheVariants.{Shapes, Above, Walk}
use Rattle.brep_run.specs.declared.command_line.CommandLine as parsed
use Rattle.brep_run.specs.declared.command_line.CommandLine.TheVariants.{Copy, Rewrite, Lists, Later, Wrong}

pub data CommandLine : Type 0 where
  -- to read the one name and to write the other
  copies : List ℕ → List ℕ → CommandLine
  -- to read a file and a script, and to write the rewritten file and its history
  rewrites : List ℕ → List ℕ → List ℕ → List ℕ → CommandLine
  -- to read the one name, and to write what is listed of its file to the other
  lists : List ℕ → Listing → List ℕ → CommandLine
  -- a command that isn't built yet
  later : CommandLine
  -- no command
  wrong : CommandLine

abbrev pub is_word : List ℕ → List ℕ → Bool
is_word a b = pointwise nat_eq a b

-- one name may not be read and written, but `-` may: it is standard input where it is read, and standard output where
-- it is written
abbrev pub may_copy : List ℕ → List ℕ → Bool
may_copy source target = not (is_word source target) || is_word source (codes "-")

abbrev pub copy_of_names : List (List ℕ) → CommandLine
copy_of_names [] = wrong
copy_of_names (a ∷ []) = wrong
copy_of_names (a ∷ b ∷ []) = if may_copy a b then copies a b else wrong
copy_of_names (a ∷ b ∷ c ∷ rest) = wrong

-- the two names that are read differ, and the two that are written, also from `-`; else they are names as for a copy
abbrev pub may_rewrite : List ℕ → List ℕ → List ℕ → List ℕ → Bool
may_rewrite source script target history =
    (not (is_word source script) && not (is_word target history))
    && ((may_copy source target && may_copy source history) && (may_copy script target && may_copy script history))

abbrev pub rewrite_of_names : List (List ℕ) → CommandLine
rewrite_of_names [] = wrong
rewrite_of_names (a ∷ []) = wrong
rewrite_of_names (a ∷ b ∷ []) = wrong
rewrite_of_names (a ∷ b ∷ c ∷ []) = wrong
rewrite_of_names (a ∷ b ∷ c ∷ d ∷ []) = if may_rewrite a b c d then rewrites a b c d else wrong
rewrite_of_names (a ∷ b ∷ c ∷ d ∷ e ∷ rest) = wrong

-- ---- what is listed

-- the kind that a word names; the word `All` names every kind
abbrev pub kind_or_all : List ℕ → Option (Option Kind)
kind_or_all word = if is_word word (codes "All") then Some None else option_map Some (kind_of_name word)

-- a kind and a higher one
abbrev pub low_and_high : Option Kind → Option Kind → Option Listing
low_and_high None high = None
low_and_high (Some low) None = None
low_and_high (Some low) (Some high) = if nat_lt (rank_of low) (rank_of high) then Some (Above low high) else None

-- two names of kinds with a colon between them
abbrev pub kinds_named : List ℕ → Option Listing
kinds_named [] = None
kinds_named (a ∷ []) = None
kinds_named (a ∷ b ∷ []) = None
kinds_named (a ∷ b ∷ m ∷ []) = None
kinds_named (a ∷ b ∷ m ∷ c ∷ []) = None
kinds_named (a ∷ b ∷ m ∷ c ∷ d ∷ []) =
    if nat_eq m 58 then low_and_high (kind_of_letters a b) (kind_of_letters c d) else None
kinds_named (a ∷ b ∷ m ∷ c ∷ d ∷ e ∷ rest) = None

-- the shapes of a kind, or those of a kind with the ones of a higher kind above them
abbrev pub shapes_named : List ℕ → Option Listing
shapes_named word = option_or (option_map Shapes (kind_or_all word)) (kinds_named word)

-- a number that isn't greater
abbrev pub at_most : ℕ → Option ℕ → Option ℕ
at_most most None = None
at_most most (Some n) = if nat_le n most then Some n else None

-- the greatest number of occurrences that are listed
abbrev pub most_listed : ℕ
most_listed = 1000000

abbrev pub walk_of : Option (Option Kind) → Option ℕ → Option Listing
walk_of None count = None
walk_of (Some kind) None = None
walk_of (Some kind) (Some count) = Some (Walk kind count)

-- the first occurrences of a kind
abbrev pub walk_named : List ℕ → List ℕ → Option Listing
walk_named kind count = walk_of (kind_or_all kind) (at_most most_listed (number_of count))

abbrev pub lists_to : List ℕ → Option Listing → List ℕ → CommandLine
lists_to source None target = wrong
lists_to source (Some listing) target = if may_copy source target then lists source listing target else wrong

abbrev pub list_of_names : List (List ℕ) → CommandLine
list_of_names [] = wrong
list_of_names (a ∷ []) = wrong
list_of_names (a ∷ b ∷ []) = wrong
list_of_names (a ∷ kind ∷ c ∷ []) = lists_to a (shapes_named kind) c
list_of_names (a ∷ b ∷ c ∷ d ∷ rest) = wrong

abbrev pub walk_of_names : List (List ℕ) → CommandLine
walk_of_names [] = wrong
walk_of_names (a ∷ []) = wrong
walk_of_names (a ∷ b ∷ []) = wrong
walk_of_names (a ∷ b ∷ c ∷ []) = wrong
walk_of_names (a ∷ kind ∷ count ∷ d ∷ []) = lists_to a (walk_named kind count) d
walk_of_names (a ∷ b ∷ c ∷ d ∷ e ∷ rest) = wrong

-- ---- what is made

-- the greatest number of levels of a file that is made
abbrev pub most_levels : ℕ
most_levels = 200

abbrev pub may_make : List ℕ → List ℕ → Bool
may_make seed levels = is_some (number_of seed) && is_some (at_most most_levels (number_of levels))

abbrev pub gen_of_names : List (List ℕ) → CommandLine
gen_of_names [] = wrong
gen_of_names (a ∷ []) = wrong
gen_of_names (a ∷ b ∷ []) = wrong
gen_of_names (seed ∷ levels ∷ c ∷ []) = if may_make seed levels then later else wrong
gen_of_names (a ∷ b ∷ c ∷ d ∷ rest) = wrong

-- ---- the words

abbrev pub other_line : List ℕ → List (List ℕ) → CommandLine
other_line word rest =
    if is_word word (codes "list") then list_of_names rest
    else (if is_word word (codes "walk") then walk_of_names rest
    else (if is_word word (codes "gen") then gen_of_names rest else wrong))

-- no words at all are the same as `copy - -`
unfoldable pub command_line_of : List (List ℕ) → CommandLine
command_line_of [] = copies (codes "-") (codes "-")
command_line_of (word ∷ rest) =
    if is_word word (codes "copy") then copy_of_names rest
    else (if is_word word (codes "rewrite") then rewrite_of_names rest else other_line word rest)

-- the program's own value, whose names are borrowed from the words, is that command line
abbrev pub IsCommandLine : parsed.CommandLine → CommandLine → Type 0
IsCommandLine (Copy source target) line = line ≡ copies source.now target.now
IsCommandLine (Rewrite source script target history) line = line ≡ rewrites source.now script.now target.now history.now
IsCommandLine (Lists source listing target) line = line ≡ lists source.now listing target.now
IsCommandLine Later line = line ≡ later
IsCommandLine Wrong line = line ≡ wrong

-- a name is read
abbrev pub HasInput : CommandLine → Type 0
HasInput (copies source target) = Unit {0}
HasInput (rewrites source script target history) = Unit {0}
HasInput (lists source listing target) = Unit {0}
HasInput later = ⊥
HasInput wrong = ⊥
