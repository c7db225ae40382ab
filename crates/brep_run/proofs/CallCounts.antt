-- The count of calls of writing over one call after another.
use Rattle.std.proofs.Common.{◌≤◌, ℕ, subst, ◌∙◌, arith}
use Rattle.brep_desk.specs.Shown.{Shown, Tells}
use Rattle.brep_desk.specs.Causes.{Rose}
use Rattle.brep_desk.specs.WritingCalls.{KeepsWritingCalls, RoseWritingCalls}
use Rattle.brep_run.specs.Outcomes.{IfDeskFault, OnWriting}
use Rattle.brep_run.specs.Copy.{Counts}
use Rattle.brep_run.specs.declared.outcome.Outcome.{Outcome}
use Rattle.brep_run.specs.declared.outcome.Outcome.TheVariants.{Done, Usage, NotBuilt, File, Script, Cycle}
use Rattle.brep_run.specs.declared.outcome.Outcome.TheVariants.{Limit, ReadDesk, WriteDesk, NoMemory}

pub kept-rose : (t : Tells) (x y z : Shown) → KeepsWritingCalls t x y → RoseWritingCalls t y z → RoseWritingCalls t x z
kept-rose t x y z kept rose told = subst (λ (n : ℕ). Rose n z.writing_calls) (kept told) (rose told)

pub kept-kept : (t : Tells) (x y z : Shown) → KeepsWritingCalls t x y → KeepsWritingCalls t y z
    → KeepsWritingCalls t x z
kept-kept t x y z first second told = second told ∙ first told

-- what holds in any case holds after each outcome of writing
pub on-writing : (o : Outcome) (P : Type 0) → P → OnWriting o P
on-writing Done P p = p
on-writing Usage P p = tt
on-writing NotBuilt P p = tt
on-writing (File fault) P p = tt
on-writing (Script fault) P p = tt
on-writing (Cycle walk) P p = tt
on-writing (Limit which count) P p = tt
on-writing (ReadDesk before after) P p = tt
on-writing (WriteDesk before after file taken) P p = p
on-writing NoMemory P p = tt

-- two reads, and then a writing
pub rose-after_reads : (t : Tells) (x y z w : Shown) (o : Outcome) → KeepsWritingCalls t x y → KeepsWritingCalls t y z
    → RoseWritingCalls t z w → OnWriting o (RoseWritingCalls t x w)
rose-after_reads t x y z w o first second rose =
    on-writing o (RoseWritingCalls t x w) (kept-rose t x z w (kept-kept t x y z first second) rose)

-- the counts of a fault after a call that raised none, or some
pub counts-after : (m n x : ℕ) (o : Outcome) → m ≤ n → IfDeskFault o (Counts n x) → IfDeskFault o (Counts m x)
counts-after m n x Done le h = tt
counts-after m n x Usage le h = tt
counts-after m n x NotBuilt le h = tt
counts-after m n x (File fault) le h = tt
counts-after m n x (Script fault) le h = tt
counts-after m n x (Cycle walk) le h = tt
counts-after m n x (Limit which count) le h = tt
counts-after m n x (ReadDesk before after) le h =
    record { from = (let low = h.from in omega (arith, le, low)); to = h.to; rose = h.rose }
counts-after m n x (WriteDesk before after file taken) le h =
    record { from = (let low = h.from in omega (arith, le, low)); to = h.to; rose = h.rose }
counts-after m n x NoMemory le h = tt

pub up-both : (a b d : ℕ) → a ≤ b → b ≤ d → a ≤ d
up-both a b d first second = omega (arith, first, second)
