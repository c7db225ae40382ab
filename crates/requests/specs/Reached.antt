-- What is held of the graph of what a root reaches. Nodes have places in it, in the order in which they are met.
use Rattle.std.specs.Prelude.{◌≡◌, ℕ, ◌<◌, ◌≤◌, List, [], ◌∷◌, ◌++◌, All, map, length, slice_index_or}
use Rattle.lists.specs.Distinct.{IsDistinct}
use Rattle.graph_walks.specs.Graph.{ends_of}
use Rattle.shape_pool.specs.Rows.{Row}
use Rattle.requests.specs.Numbered.{Table}
use Rattle.requests.specs.Readings.{ends_at}

-- the number that was met at a place
abbrev pub met_at : List ℕ → ℕ → ℕ
met_at met place = slice_index_or met place 0

-- numbers below n, each once
pub record AreMet (n : ℕ) (met : List ℕ) : Type 0 where
  pub distinct : IsDistinct met
  pub held : All (λ x. x < n) met

-- The graph has one node more, with edges to these ends: their places are those of the numbers that were met, and of
-- some more.
pub record HasOneMore (n : ℕ) (ends met : List ℕ) (graph : List (List ℕ)) (met' : List ℕ) (graph' : List (List ℕ)) :
    Type 0 where
  pub places : List ℕ
  pub added : graph' ≡ graph ++ places ∷ []
  pub named : map (met_at met') places ≡ ends
  pub within : All (λ p. p < length met') places
  pub more : List ℕ
  pub grown : met' ≡ met ++ more
  pub are_met : AreMet n met'

-- Each node of the graph, at the first places, has the ends of the edges from its number. The root was met first.
pub record IsGoneThrough (rows : List Row) (t : Table) (root : ℕ) (met : List ℕ) (graph : List (List ℕ)) : Type 0 where
  pub some : 0 < length met
  pub first : met_at met 0 ≡ root
  pub are_met : AreMet (length rows) met
  pub few : length graph ≤ length met
  pub within : All (λ ends. All (λ p. p < length met) ends) graph
  pub ends : (p : ℕ) → p < length graph → ends_at rows t (met_at met p) ≡ map (met_at met) (ends_of graph p)

-- all that was met is gone through
pub record IsReached (rows : List Row) (t : Table) (root : ℕ) (met : List ℕ) (graph : List (List ℕ)) : Type 0 where
  pub gone : IsGoneThrough rows t root met graph
  pub all : length graph ≡ length met
