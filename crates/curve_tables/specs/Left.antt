-- What the readers of curves have still to read.
use Rattle.std.specs.Prelude.{◌≡◌, List, IsSome, Option, Some, None, Ok}
use Rattle.lists.specs.Results.{◌>>=◌}
use Rattle.entry_readers.specs.Reading.{Read}
use Rattle.brep_tokens.specs.declared.text.Token.{Token}
use Rattle.curve_tables.specs.Curves.{curve2_of, curve3_of}
use Rattle.curve_tables.specs.ChainLeft.{Waits, chain_left}
use Rattle.curve_tables.specs.declared.curve2.Curve2.{Curve2}
use Rattle.curve_tables.specs.declared.curve3.Curve3.{Curve3}
use Rattle.curve_tables.specs.declared.chain.ChainReader.{ChainReader}
use Rattle.curve_tables.specs.declared.reader2.Curve2Reader.{Curve2Reader}
use Rattle.curve_tables.specs.declared.reader3.Curve3Reader.{Curve3Reader}

-- ---- 2D curves

-- a curve that is whole leaves the tokens as they are
abbrev pub rest_of_curve2 : Option Curve2 → ChainReader → List Token → Read Curve2
rest_of_curve2 None r ts = chain_left r ts >>= λ c. Ok (curve2_of c.0, c.1)
rest_of_curve2 (Some c) r ts = Ok (c, ts)

-- What is left to read.
abbrev pub curve2_left : Curve2Reader → List Token → Read Curve2
curve2_left r ts = rest_of_curve2 r.whole r.chain ts

-- No token was refused yet, and one is due.
pub record IsWaiting2 (r : Curve2Reader) : Type 0 where
  pub none : r.whole ≡ None
  pub waits : Waits r.chain

-- The curve is whole.
abbrev pub IsDone2 : Curve2Reader → Type 0
IsDone2 r = IsSome r.whole

-- ---- 3D curves

abbrev pub rest_of_curve3 : Option Curve3 → ChainReader → List Token → Read Curve3
rest_of_curve3 None r ts = chain_left r ts >>= λ c. Ok (curve3_of c.0, c.1)
rest_of_curve3 (Some c) r ts = Ok (c, ts)

-- What is left to read.
abbrev pub curve3_left : Curve3Reader → List Token → Read Curve3
curve3_left r ts = rest_of_curve3 r.whole r.chain ts

-- No token was refused yet, and one is due.
pub record IsWaiting3 (r : Curve3Reader) : Type 0 where
  pub none : r.whole ≡ None
  pub waits : Waits r.chain

-- The curve is whole.
abbrev pub IsDone3 : Curve3Reader → Type 0
IsDone3 r = IsSome r.whole
