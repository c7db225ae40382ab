-- How the counts of a desk rise, and when a call may answer that it failed.
use Rattle.std.specs.Prelude.{◌≡◌, ℕ, ◌+◌, ◌-◌, ◌^◌, ◌≤◌, min, Bool, false, IsTrue, Result, OnErr, OnOk}

-- one more, up to the last number of 64 bits
abbrev pub raised : ℕ → ℕ
raised count = min (count + 1) (2 ^ 64 - 1)

-- a count that rose, or stands at the last number of 64 bits
abbrev pub Rose : ℕ → ℕ → Type 0
Rose old new = min (old + 1) (2 ^ 64 - 1) ≤ new

-- The count of faults never falls. A call failed only where it rose, and one that did not fail kept it.
pub record HasCause {T E : Type 0} (old new : ℕ) (result : Result T E) : Type 0 where
  pub later : old ≤ new
  pub failed : OnErr result (Rose old new)
  pub no_fault : OnOk result (new ≡ old)

-- Where a count of calls is told, a call that counts raised it, and any other call kept it.
pub record CountsCall (told : Bool) (old new : ℕ) (counts : Bool) : Type 0 where
  pub later : IsTrue told → old ≤ new
  pub rose : IsTrue told → IsTrue counts → Rose old new
  pub kept : IsTrue told → counts ≡ false → new ≡ old
