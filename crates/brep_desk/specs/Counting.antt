-- How a desk in memory counts refused calls, stray calls and calls of writing.
use Rattle.std.specs.Prelude.{ℕ, Bool, true, false}
use Rattle.brep_desk.specs.Causes.{raised}
use Rattle.brep_desk.specs.declared.counts.Counts.{Counts}
use Rattle.brep_desk.specs.declared.counts.Refusal.{Refusal}
use Rattle.brep_desk.specs.declared.counts.Refusal.TheVariants.{Fault, NoMemory}

-- the count of faults for want of memory, after a refusal
abbrev pub short_after : Refusal → ℕ → ℕ
short_after Fault short = short
short_after NoMemory short = raised short

-- a count of calls, after one that it counts or doesn't
abbrev pub after_call : Bool → ℕ → ℕ
after_call true count = raised count
after_call false count = count

-- the counts with one more call, and with these counts of stray calls and of calls of writing
abbrev pub with_call : Counts → ℕ → ℕ → Counts
with_call counts strays writing_calls = record counts {
  calls = raised counts.calls;
  strays = strays;
  writing_calls = writing_calls;
}

-- the counts with one more fault, which is one for want of memory or isn't
abbrev pub with_refusal : Refusal → Counts → Counts
with_refusal refusal counts = record counts {
  faults = raised counts.faults;
  short = short_after refusal counts.short;
}
