-- What the relative results of a visit are made of.
use Rattle.std.specs.Prelude.{Option, None, Some, List, []}
use Rattle.location_words.specs.declared.pair.Pair.{Pair}
use Rattle.expansion_laws.specs.Trees.{Tree, Use}
use Rattle.expansion_laws.specs.Contexts.{Context, bare}
use Rattle.expansion_laws.specs.Requests.{Request, Act, remove, replace, match_of}
use Rattle.expansion_laws.specs.Steps.{Step, entered, onward, new_use}
use Rattle.expansion_laws.specs.Rewriting.{remains}

-- a visit of a tree with an accumulated turn and word
module _ (s : Step) (x : Tree) (here : Context) where
  -- the uses that go on, by the act of a match
  abbrev pub demands_of_act : Option (List Pair) → Act → List Use
  demands_of_act place remove = []
  demands_of_act place (replace by) = onward s x (new_use here (bare x) place by)

  -- the uses whose results are joined: with no match those of the tree that are entered, else those that go on
  abbrev pub demands_by : Option Request → List Use
  demands_by None = entered s x
  demands_by (Some r) = demands_of_act r.place r.act

  -- what is made of the joined results: with no match what remains of the tree
  abbrev pub gathered_by : Option Request → List Use → List Use
  gathered_by None parts = remains s (bare x) parts
  gathered_by (Some r) parts = parts

  -- the uses that the visit asks for, all of them in the context of the visit
  abbrev pub demands : List Use
  demands = demands_by (match_of s.requests x here)

  -- the visit's relative results, by the joined results of its demands
  abbrev pub gathered : List Use → List Use
  gathered = gathered_by (match_of s.requests x here)
