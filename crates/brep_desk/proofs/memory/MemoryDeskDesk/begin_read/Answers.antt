use Rattle.std.proofs.Common.{inl, inr, refl, ◌∙◌}
use Rattle.brep_desk.proofs.Begun.{AllBegun-reading}
use Rattle.brep_desk.proofs.Keeping.{refusal_is}
use Rattle.brep_desk.proofs.Files.{is_to_fail, is_not_to_fail}
use Rattle.brep_desk.proofs.memory.MemoryDeskDesk.begin_read.Goals as goal

pub returns-then-contains-clause-refused : goal.returns-then-contains-clause-refused
returns-then-contains-clause-refused c =
    inl (inl (is_to_fail _ _ _ _ _ c.deref-2.ensures.value c.next_call-call.ensures.number c.contains.ensures.value
    c.if-contains.true))

pub invariant_of-self-in-Ok-1 : goal.invariant_of-self-in-Ok-1
invariant_of-self-in-Ok-1 c = record {
  begun =
      AllBegun-reading _ _ _ _ _ ((c.in-Ok.ensures.begins c.args.self.now.outputs.items c.args.self.now.counts
      c.args.self.now.counts).opened refl) c.args.self.now.begun;
  some = c.args.self.now.some;
}

pub returns-in-Ok-clause-begins : goal.returns-in-Ok-clause-begins
returns-in-Ok-clause-begins c =
    rw c.deref-3.ensures.value at (c.in-Ok.ensures.begins c.args.self.now.outputs.items c.args.self.now.counts
    c.next_call-call.new.self)

pub returns-in-Err-clause-due : goal.returns-in-Err-clause-due
returns-in-Err-clause-due c cause = (
  refl,
  elim cause [
    | inl fails ↦ is_not_to_fail _ _ _ _ _ c.deref-2.ensures.value c.next_call-call.ensures.number
        c.contains.ensures.value c.if-contains.false fails
    | inr other ↦ c.refuse-in-Err.ensures.enough
        (refusal_is _ _ _ c.in-Err.is (c.begin_reading.ensures.due (rw (← c.deref-3.ensures.value) at other)))
        ∙ c.next_call-call.ensures.enough
  ],
)
