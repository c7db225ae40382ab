-- Rewriting by a plain slow program: the tests that it makes, in the order of the derivation, and what they come to.
use Rattle.std.specs.Prelude.{◌≡◌, ℕ, zero, suc, if◌then◌else◌, Option, None, Some, Result}
use Rattle.std.specs.Prelude.{Ok, Err, List, [], ◌∷◌, ◌++◌, map, slice_get, unwrap_or}
use Rattle.std.specs.List.{flat_map}
use Rattle.orientation.specs.declared.kind.Kind.{Kind}
use Rattle.orientation.specs.declared.kind.Kind.TheVariants.{Co}
use Rattle.orientation.specs.Kinds.{kind_eq}
use Rattle.orientation.specs.declared.rule.Rule.{Rule}
use Rattle.location_words.specs.declared.pair.Pair.{Pair}
use Rattle.location_words.specs.declared.fault.WordFault.{WordFault}
use Rattle.location_words.specs.Faults.{fault_of}
use Rattle.expansion_laws.specs.declared.fault.ExpandFault.{ExpandFault}
use Rattle.expansion_laws.specs.declared.fault.ExpandFault.TheVariants.{TooBig, Word, NoMemory}
use Rattle.expansion_laws.specs.declared.plain.TreeUse.{TreeUse}
use Rattle.expansion_laws.specs.declared.requests.SlowRequest.{SlowRequest}
use Rattle.expansion_laws.specs.Trees.{Tree, Use}
use Rattle.expansion_laws.specs.Contexts.{Context, at_root, inside}
use Rattle.expansion_laws.specs.Requests.{Act, remove, replace, Request, match_of}
use Rattle.expansion_laws.specs.Steps.{Step, kind, entered, new_use, onward}
use Rattle.expansion_laws.specs.Plain.{shown_tree, shown_use}

-- ---- the step
abbrev pub act_of : Option TreeUse → Act
act_of None = remove
act_of (Some by) = replace (shown_use by)

-- the request that a plain one stands for
abbrev pub shown_request : SlowRequest → Request
shown_request r = record { source = shown_tree r.source; place = r.place; turn = r.turn; act = act_of r.target }

-- the kind of an origin: those of the origins from 1 on are listed, and all others are compounds
abbrev pub kind_at : List Kind → ℕ → Kind
kind_at kinds zero = Co
kind_at kinds (suc k) = unwrap_or (slice_get kinds k) Co

abbrev pub slow_step : List SlowRequest → List Kind → Rule → Step
slow_step requests kinds rule =
    record { kind_of_origin = kind_at kinds; requests = map shown_request requests; rule = rule }

-- ---- the tests
-- a test of the number of visits so far, or of a word
pub data Test : Type 0 where
  a_visit : Test
  of_word : (word : List Pair) → Test

-- the words that are tested at a replace: that of the new use and, where the kinds differ, those of the target's uses
-- under it
abbrev pub later_words : Step → Tree → Use → List (List Pair)
later_words s source new =
    if kind_eq (kind s source) (kind s new.tree) then [] else map (λ u. u.word) (onward s source new)

module _ (s : Step) (again : Context → Use → List Test) where
  -- the tests after a match, by its act, where `again` gives those of further uses
  abbrev pub tests_by_act : Context → Use → Option (List Pair) → Act → List Test
  tests_by_act c u place remove = []
  tests_by_act c u place (replace by) =
      of_word (new_use c u place by).word ∷
      map of_word (later_words s u.tree (new_use c u place by)) ++
      flat_map (again c) (onward s u.tree (new_use c u place by))

  abbrev pub tests_by_match : Context → Use → Option Request → List Test
  tests_by_match c u None = flat_map (again (inside c u)) (entered s u.tree)
  tests_by_match c u (Some r) = tests_by_act c u r.place r.act

-- the tests that are made while a use is rewritten, in their order, down to so many levels of the derivation: at each
-- visit one of the number of visits, one of the accumulated word, and those of a replace
unfoldable pub tests_within : Step → ℕ → Context → Use → List Test
tests_within s zero c u = []
tests_within s (suc n) c u =
    a_visit ∷ of_word (inside c u).word ∷
    tests_by_match s (λ d v. tests_within s n d v) c u (match_of s.requests u.tree (inside c u))

-- ---- what they come to
abbrev pub unless : Option WordFault → Result ℕ ExpandFault → Result ℕ ExpandFault
unless None rest = rest
unless (Some fault) rest = Err (Word fault)

-- where so many visits are allowed: how many of them are left, or the fault of the first test that fails
abbrev pub outcome : List Test → ℕ → Result ℕ ExpandFault
outcome [] left = Ok left
outcome (a_visit ∷ tests) zero = Err TooBig
outcome (a_visit ∷ tests) (suc left) = outcome tests left
outcome (of_word w ∷ tests) left = unless (fault_of w) (outcome tests left)

-- what the tests of the root come to. Each level of the derivation takes a visit, so no more levels than visits are
-- looked at
abbrev pub slow_outcome : Step → Use → ℕ → Result ℕ ExpandFault
slow_outcome s root budget = outcome (tests_within s (suc budget) at_root root) budget

-- a fault that is answered is that of the first test that fails, unless it is want of memory
abbrev pub IsDueOutcome : Result ℕ ExpandFault → ExpandFault → Type 0
IsDueOutcome due TooBig = due ≡ Err TooBig
IsDueOutcome due (Word fault) = due ≡ Err (Word fault)
IsDueOutcome due NoMemory = Unit {0}
