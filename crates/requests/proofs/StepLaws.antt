-- Numbers stand for trees.
use Rattle.std.proofs.Common.{List}
use Rattle.location_words.specs.Laws.{TestTells}
use Rattle.shape_pool.specs.Rows.{Row}
use Rattle.shape_pool.specs.Laws.{IsSound}
use Rattle.requests.specs.Numbered.{Table}
use Rattle.requests.specs.Readings.{StandsForStep}
use Rattle.requests.proofs.EdgeLaws.{TreesAreTold, live-are, edges-are}
use Rattle.requests.proofs.MatchLaws.{match-are}

pub stands-for-step : (rows : List Row) (t : Table) → IsSound rows → TreesAreTold → TestTells → StandsForStep rows t
stands-for-step rows t sound told words = record {
  live = λ kind word n i reading all h. live-are rows word sound kind n t told reading i h all;
  edges_are = λ kind word n i reading all h. edges-are rows word sound kind n t told reading i h all;
  match =
      λ kind word n i w turn reading all h k. match-are rows word sound kind n t told words reading i w turn h k all;
}
