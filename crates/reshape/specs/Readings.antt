-- What the numbers of a rewriting stand for: the step that a plan carries out, under each reading of the words and of
-- the kinds.
use Rattle.std.specs.Prelude.{◌≡◌, ℕ, ◌<◌, List, All}
use Rattle.orientation.specs.declared.kind.Kind.{Kind}
use Rattle.location_words.specs.declared.pair.Pair.{Pair}
use Rattle.expansion_laws.specs.Steps.{Step}
use Rattle.shape_pool.specs.Rows.{Row, HaveKinds}
use Rattle.requests.specs.declared.request.Request.{Request}
use Rattle.requests.specs.declared.request.Act.{Act}
use Rattle.requests.specs.declared.request.Act.TheVariants.{Remove, Replace}
use Rattle.requests.specs.Numbered.{Table, AreHeldIn, ActFits}
use Rattle.requests.specs.Plans.{StepPlan, IsPlan}
use Rattle.requests.specs.Readings.{IsPlaceBelow, step_by}
use Rattle.key_results.specs.Words.{ReadsWords}

-- the words that a request names have numbers below n
abbrev pub ActIsPlaced : ℕ → Act → Type 0
ActIsPlaced n Remove = Unit {0}
ActIsPlaced n (Replace by) = by.place.0 < n

abbrev pub IsPlaced : ℕ → Request → Type 0
IsPlaced n r = IsPlaceBelow n r.place × ActIsPlaced n r.act

-- The plan is one of the step of a table from a root. The table's requests name held numbers and words with numbers
-- below n, and each target fits its source.
pub record IsCarriedOut (rows : List Row) (n : ℕ) (root : ℕ) (plan : StepPlan) (t : Table) : Type 0 where
  pub planned : IsPlan rows t root plan
  pub held : AreHeldIn rows t.requests
  pub placed : All (IsPlaced n) t.requests
  pub fit : All (λ (r : Request). ActFits rows r.source.0 r.act) t.requests

-- there is such a table
abbrev pub HasTable : List Row → ℕ → StepPlan → Type 0
HasTable rows n plan = (root : ℕ) × (t : Table) × IsCarriedOut rows n root plan t

-- a reading gives origins their kinds, and numbers the words of a table
pub record Reads (rows : List Row) (table : List (List Pair)) (kind : ℕ → Kind) (word : ℕ → List Pair) : Type 0 where
  pub kinds : HaveKinds rows kind
  pub told : ReadsWords word table

-- a plan carries out the step, that of a table, in a reading of the words
pub record IsStepOf (rows : List Row) (n root : ℕ) (plan : StepPlan) (table : List (List Pair)) (s : Step)
    (word : ℕ → List Pair) : Type 0 where
  pub given : Table
  pub kind : ℕ → Kind
  pub carried : IsCarriedOut rows n root plan given
  pub reads : Reads rows table kind word
  pub is : s ≡ step_by word rows kind given

-- a fact of each step that a plan carries out from a root, and from any
abbrev pub InRootSteps : List Row → ℕ → ℕ → StepPlan → List (List Pair) → (Step → (ℕ → List Pair) → Type 0) → Type 0
InRootSteps rows n root plan table P =
    (s : Step) (word : ℕ → List Pair) → IsStepOf rows n root plan table s word → P s word

abbrev pub InAnySteps : List Row → ℕ → StepPlan → List (List Pair) → (Step → (ℕ → List Pair) → Type 0) → Type 0
InAnySteps rows n plan table P = (root : ℕ) → InRootSteps rows n root plan table P

-- the same by the table of requests and the kinds of origins
abbrev pub InSteps : List Row → ℕ → ℕ → StepPlan → List (List Pair) → (Step → (ℕ → List Pair) → Type 0) → Type 0
InSteps rows n root plan table P =
    (t : Table) (kind : ℕ → Kind) (word : ℕ → List Pair) → IsCarriedOut rows n root plan t →
    Reads rows table kind word →
    P (step_by word rows kind t) word
