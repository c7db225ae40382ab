-- Classes of bytes.
use Rattle.std.specs.Prelude.{ℕ, Bool, ◌&&◌, ◌||◌, nat_le, ◌==◌, not}

-- the bytes 9 to 13 and 32
abbrev pub is_white : ℕ → Bool
is_white b = (nat_le 9 b && nat_le b 13) || (b == 32)

-- what may stand at the end of the version line: the bytes 9, 13 and 32
abbrev pub is_trailing : ℕ → Bool
is_trailing b = (b == 9) || ((b == 13) || (b == 32))

abbrev pub is_line_end : ℕ → Bool
is_line_end b = b == 10

abbrev pub is_dark : ℕ → Bool
is_dark b = not (is_white b)

abbrev pub is_digit : ℕ → Bool
is_digit b = nat_le 48 b && nat_le b 57

-- `+`, `-`, `i` or `e`
abbrev pub is_sign : ℕ → Bool
is_sign b = (b == 43) || ((b == 45) || ((b == 105) || (b == 101)))

-- `0` or `1`
abbrev pub is_flag : ℕ → Bool
is_flag b = (b == 48) || (b == 49)
