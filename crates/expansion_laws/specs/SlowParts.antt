-- The parts of the plain slow rewriting: what each function of it gives, and what it refuses.
use Rattle.std.specs.Prelude.{◌≡◌, ℕ, ◌<◌, Option, Some, Ok, List, map}
use Rattle.std.specs.List.{flat_map}
use Rattle.std.specs.Option.{option_map}
use Rattle.location_words.specs.declared.pair.Pair.{Pair}
use Rattle.location_words.specs.declared.fault.WordFault.{WordFault}
use Rattle.expansion_laws.specs.declared.fault.ExpandFault.{ExpandFault}
use Rattle.expansion_laws.specs.declared.fault.ExpandFault.TheVariants.{TooBig, Word, NoMemory}
use Rattle.expansion_laws.specs.declared.moving.Rules.{Rules}
use Rattle.expansion_laws.specs.declared.moving.Here.{Here}
use Rattle.expansion_laws.specs.declared.moving.Seen.{Seen}
use Rattle.expansion_laws.specs.Trees.{Use, a_single, uses}
use Rattle.expansion_laws.specs.Contexts.{Context, inside, carried}
use Rattle.expansion_laws.specs.Requests.{Act, match_of}
use Rattle.expansion_laws.specs.Steps.{Step, entered}
use Rattle.expansion_laws.specs.Rewriting.{all_results, remains, by_act, by_match, results_within}
use Rattle.expansion_laws.specs.Plain.{shown_tree}
use Rattle.expansion_laws.specs.SlowRewriting.{Test, of_word, tests_by_act, tests_by_match}
use Rattle.expansion_laws.specs.SlowRewriting.{tests_within, outcome, slow_step, IsDueOutcome}

abbrev pub step_by : Rules → Step
step_by rules = slow_step rules.requests.now rules.kinds.now rules.rule

abbrev pub context : Here → Context
context h = record { turn = h.turn; word = h.word }

abbrev pub seen_use : Seen → Use
seen_use u = a_single u.turn u.word (shown_tree u.tree.now)

-- the uses of a use's tree, as they stand under that use
abbrev pub under : Use → List Use
under new = map (carried new.turn new.word) (uses new.tree)

-- ---- words
abbrev pub words_of : List Use → List (List Pair)
words_of us = map (λ u. u.word) us

-- the fault of a word that is refused, unless it is want of memory
abbrev pub IsDueWord : Option WordFault → ExpandFault → Type 0
IsDueWord due TooBig = ⊥
IsDueWord due (Word fault) = due ≡ Some fault
IsDueWord due NoMemory = Unit {0}

-- words that are all within the limits, and words of which the first that isn't has this fault
pub record Pass (ws : List (List Pair)) : Type 0 where
  pub stays : (left : ℕ) → outcome (map of_word ws) left ≡ Ok left

pub record Fail (ws : List (List Pair)) (fault : ExpandFault) : Type 0 where
  pub due : (left : ℕ) → IsDueOutcome (outcome (map of_word ws) left) fault

-- ---- parts of a derivation
-- what a part of a derivation gives with so many levels, and the tests that it makes
pub record Part : Type 0 where
  pub found : ℕ → Option (List Use)
  pub tests : ℕ → List Test

module _ (s : Step) where
  -- that of a use, of several, of a use whose match is looked up, of one without a match, and of an act
  abbrev pub part_of : Context → Use → Part
  part_of c u = record { found = λ n. results_within s n c u; tests = λ n. tests_within s n c u }

  abbrev pub part_of_all : Context → List Use → Part
  part_of_all c us =
      record {
        found = λ n. all_results (λ v. results_within s n c v) us;
        tests = λ n. flat_map (λ v. tests_within s n c v) us;
      }

  abbrev pub part_of_match : Context → Use → Part
  part_of_match c u = record {
    found = λ n. by_match s (λ d v. results_within s n d v) c u (match_of s.requests u.tree (inside c u));
    tests = λ n. tests_by_match s (λ d v. tests_within s n d v) c u (match_of s.requests u.tree (inside c u));
  }

  abbrev pub part_of_remaining : Context → Use → Part
  part_of_remaining here u = record {
    found = λ n. option_map (remains s u) (all_results (λ v. results_within s n here v) (entered s u.tree));
    tests = λ n. flat_map (λ v. tests_within s n here v) (entered s u.tree);
  }

  abbrev pub part_of_act : Context → Use → Option (List Pair) → Act → Part
  part_of_act c u place act = record {
    found = λ n. by_act s (λ d v. results_within s n d v) c u place act;
    tests = λ n. tests_by_act s (λ d v. tests_within s n d v) c u place act;
  }

-- with more levels than visits are allowed the part has these results, and leaves so many visits
pub record Gives (part : Part) (left : ℕ) (made : List Use) (rest : ℕ) : Type 0 where
  pub results : (n : ℕ) → left < n → part.found n ≡ Some made
  pub tested : (n : ℕ) → left < n → outcome (part.tests n) left ≡ Ok rest

-- the first of its tests that fails has this fault, unless it is want of memory
pub record Refuses (part : Part) (left : ℕ) (fault : ExpandFault) : Type 0 where
  pub due : (n : ℕ) → left < n → IsDueOutcome (outcome (part.tests n) left) fault
