-- Numbers and flags are spelled as decimals are.
use Rattle.std.specs.Prelude.{ℕ, Bool}
use Rattle.std.specs.Fmt.{decimal}
use Rattle.brep_tokens.specs.Forms.{flag_text}
use Rattle.entry_readers.specs.Begins.{IsDecimal, IsSmall}

pub record FieldsAreDecimals : Type 0 where
  pub number : (n : ℕ) → IsSmall n → IsDecimal (decimal n)
  pub flag : (b : Bool) → IsDecimal (flag_text b)
