-- Requests that a step may carry out.
use Rattle.std.specs.Prelude.{ℕ, List, All}
use Rattle.shape_pool.specs.Rows.{Row}
use Rattle.requests.specs.declared.request.Request.{Request}
use Rattle.requests.specs.Numbered.{AreHeldIn, ActFits}
use Rattle.reshape.specs.Readings.{IsPlaced}

-- they name held nodes and words with numbers below n, and their targets fit
pub record AreReady (rows : List Row) (n : ℕ) (requests : List Request) : Type 0 where
  pub held : AreHeldIn rows requests
  pub placed : All (IsPlaced n) requests
  pub fit : All (λ (r : Request). ActFits rows r.source.0 r.act) requests
