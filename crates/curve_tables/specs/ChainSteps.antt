-- What a step of the reader of a curve makes of what is left to read.
use Rattle.std.specs.Prelude.{◌≡◌, ℕ, List, Result}
use Rattle.entry_readers.specs.Reading.{Read}
use Rattle.entry_readers.specs.Takes.{StepsOn}
use Rattle.brep_tokens.specs.declared.fault.ReadStop.{ReadStop}
use Rattle.brep_tokens.specs.declared.text.Token.{Token}
use Rattle.curve_tables.specs.ChainLeft.{at_stage, chain_left}
use Rattle.curve_tables.specs.Chains.{Chain, chain_at, coded_at, leaf_at, wrapped_at}
use Rattle.curve_tables.specs.declared.chain.ChainReader.{ChainReader}
use Rattle.curve_tables.specs.declared.parts.Form.{Form}
use Rattle.curve_tables.specs.declared.parts.Wrap.{Wrap}
use Rattle.curve_tables.specs.declared.stage.Stage.{Stage}

-- a token was taken that is due at this stage, and the stage is still the same
abbrev pub StaysAt : Stage → ChainReader → Token → ChainReader → Result (Unit {0}) ReadStop → Type 0
StaysAt stage old t new result = StepsOn (at_stage stage old) t (at_stage stage new) result

-- a token was taken that is due at this stage
abbrev pub StepsFrom : Stage → ChainReader → Token → ChainReader → Result (Unit {0}) ReadStop → Type 0
StepsFrom stage old t new result = StepsOn (at_stage stage old) t (chain_left new) result

-- what this code begins is due
abbrev pub OpensCode : ChainReader → ℕ → ChainReader → Type 0
OpensCode old code new =
    (ts : List Token) → chain_left new ts ≡ coded_at old.dimension old.frames (chain_at old.dimension old.room) code ts

-- the decimals of a trimmed or offset curve are due, and then its basis
abbrev pub OpensWrap : ChainReader → Wrap → ChainReader → Type 0
OpensWrap old wrap new =
    (ts : List Token) → chain_left new ts ≡ wrapped_at old.dimension wrap old.frames
    (chain_at old.dimension old.room) ts

-- so many decimals of this form are due, and then so many knots
abbrev pub OpensLeaf : ChainReader → Form → ℕ → ℕ → ChainReader → Type 0
OpensLeaf old form decimals knots new =
    (ts : List Token) → chain_left new ts ≡ leaf_at old.dimension old.frames form decimals knots ts
