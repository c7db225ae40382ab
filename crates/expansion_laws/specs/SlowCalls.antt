-- What the calls of the plain slow rewriting give, said by the plain values that they are passed.
use Rattle.std.specs.Prelude.{ℕ, Bool, Result, Option, List, map}
use Rattle.orientation.specs.declared.kind.Kind.{Kind}
use Rattle.orientation.specs.declared.rule.Rule.{Rule}
use Rattle.orientation.specs.Kinds.{kind_eq}
use Rattle.location_words.specs.declared.pair.Pair.{Pair}
use Rattle.expansion_laws.specs.declared.fault.ExpandFault.{ExpandFault}
use Rattle.expansion_laws.specs.declared.plain.Tree.{Tree as PlainTree}
use Rattle.expansion_laws.specs.declared.plain.TreeUse.{TreeUse}
use Rattle.expansion_laws.specs.declared.requests.SlowRequest.{SlowRequest}
use Rattle.expansion_laws.specs.declared.moving.Rules.{Rules}
use Rattle.expansion_laws.specs.declared.moving.Here.{Here}
use Rattle.expansion_laws.specs.declared.moving.Seen.{Seen}
use Rattle.expansion_laws.specs.declared.rewriting.Rewritten.{Rewritten}
use Rattle.expansion_laws.specs.Trees.{Use}
use Rattle.expansion_laws.specs.Requests.{Request, match_of, replace}
use Rattle.expansion_laws.specs.Steps.{kind, new_use, onward}
use Rattle.expansion_laws.specs.Rewriting.{rebuilt, remains, StepsTo}
use Rattle.expansion_laws.specs.Plain.{shown_tree, shown_use}
use Rattle.expansion_laws.specs.SlowRewriting.{later_words, shown_request, slow_outcome, slow_step}
use Rattle.expansion_laws.specs.SlowParts.{context, part_of, part_of_act, part_of_all, part_of_match}
use Rattle.expansion_laws.specs.SlowParts.{part_of_remaining, seen_use, step_by, Gives, Part}

-- what the tests of a root come to, under a step of these requests
abbrev pub root_outcome : List SlowRequest → List Kind → Rule → TreeUse → ℕ → Result ℕ ExpandFault
root_outcome requests kinds rule root budget = slow_outcome (slow_step requests kinds rule) (shown_use root) budget

-- a step of these requests takes the root to the new one
abbrev pub RootBecomes : List SlowRequest → List Kind → Rule → TreeUse → TreeUse → Type 0
RootBecomes requests kinds rule root new = StepsTo (slow_step requests kinds rule) (shown_use root) (shown_use new)

-- the request that a tree's occurrence meets, in a context
abbrev pub met_request : List SlowRequest → PlainTree → Here → Option Request
met_request requests tree here = match_of (map shown_request requests) (shown_tree tree) (context here)

-- whether two trees have one kind, under the rules
abbrev pub have_one_kind : Rules → PlainTree → PlainTree → Bool
have_one_kind rules a b = kind_eq (kind (step_by rules) (shown_tree a)) (kind (step_by rules) (shown_tree b))

-- the new use that a replace puts in a use's place; the uses that go on after it, for a tree of the source's kind; and
-- the words that are tested for these
abbrev pub use_instead : Here → Seen → Option (List Pair) → TreeUse → Use
use_instead here one place by = new_use (context here) (seen_use one) place (shown_use by)

abbrev pub uses_onward : Rules → PlainTree → Seen → List Use
uses_onward rules source new = onward (step_by rules) (shown_tree source) (seen_use new)

abbrev pub words_onward : Rules → PlainTree → Seen → List (List Pair)
words_onward rules source new = later_words (step_by rules) (shown_tree source) (seen_use new)

-- what remains of a use that no request meets, over the results of its tree's uses; and the use over these
abbrev pub remaining_uses : Rules → Seen → List TreeUse → List Use
remaining_uses rules one below = remains (step_by rules) (seen_use one) (map shown_use below)

abbrev pub rebuilt_use : Seen → List TreeUse → Use
rebuilt_use one below = rebuilt (seen_use one) (map shown_use below)

-- the part of a derivation that a call goes through: that of a use, of several, of a use whose match is looked up, of
-- one without a match, and of a replace
abbrev pub use_part : Rules → Here → Seen → Part
use_part rules here one = part_of (step_by rules) (context here) (seen_use one)

abbrev pub uses_part : Rules → Here → List Seen → Part
uses_part rules here uses = part_of_all (step_by rules) (context here) (map seen_use uses)

abbrev pub match_part : Rules → Here → Seen → Part
match_part rules here one = part_of_match (step_by rules) (context here) (seen_use one)

abbrev pub remaining_part : Rules → Here → Seen → Part
remaining_part rules inside one = part_of_remaining (step_by rules) (context inside) (seen_use one)

abbrev pub replace_part : Rules → Here → Seen → Option (List Pair) → TreeUse → Part
replace_part rules here one place by =
    part_of_act (step_by rules) (context here) (seen_use one) place (replace (shown_use by))

-- the part gives what was rewritten, and leaves as many visits as are left
abbrev pub GivesRewritten : Part → ℕ → Rewritten → Type 0
GivesRewritten part left r = Gives part left (map shown_use r.results.items) r.left
