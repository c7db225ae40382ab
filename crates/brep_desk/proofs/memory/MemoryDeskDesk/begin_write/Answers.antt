use Rattle.std.proofs.Common.{inl, inr, refl, ◌∙◌}
use Rattle.brep_desk.proofs.Begun.{AllBegun-writing}
use Rattle.brep_desk.proofs.Keeping.{refusal_is}
use Rattle.brep_desk.proofs.Files.{is_to_fail, is_not_to_fail}
use Rattle.brep_desk.proofs.memory.MemoryDeskDesk.begin_write.Goals as goal

pub returns-then-contains-clause-refused : goal.returns-then-contains-clause-refused
returns-then-contains-clause-refused c =
    inl (inl (is_to_fail _ _ _ _ _ c.deref.ensures.value c.next_call-call.ensures.number c.contains.ensures.value
    c.if-contains.true))

pub invariant_of-self-in-Ok-1 : goal.invariant_of-self-in-Ok-1
invariant_of-self-in-Ok-1 c =
    let begins = c.in-Ok.ensures.begins c.args.self.now.files.items c.args.self.now.counts c.args.self.now.counts in
    record {
      begun = AllBegun-writing _ _ _ _ _ _ (begins.opened refl) (begins.written refl) c.args.self.now.begun;
      some = c.args.self.now.some;
    }

pub returns-in-Ok-clause-begins : goal.returns-in-Ok-clause-begins
returns-in-Ok-clause-begins c =
    c.in-Ok.ensures.begins c.args.self.now.files.items c.args.self.now.counts c.next_call-call.new.self

pub returns-in-Err-clause-due : goal.returns-in-Err-clause-due
returns-in-Err-clause-due c cause = (
  refl,
  elim cause [
    | inl fails ↦ is_not_to_fail _ _ _ _ _ c.deref.ensures.value c.next_call-call.ensures.number
        c.contains.ensures.value c.if-contains.false fails
    | inr other ↦ c.refuse-in-Err.ensures.enough (refusal_is _ _ _ c.in-Err.is (c.begin_writing.ensures.due other))
        ∙ c.next_call-call.ensures.enough
  ],
)
