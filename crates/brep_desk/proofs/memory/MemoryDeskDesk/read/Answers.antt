use Rattle.std.proofs.Common.{arith, inl, refl, ap, ◌∙◌}
use Rattle.std.proofs.lemmas.List.{with_items_is}
use Rattle.brep_desk.specs.Kept.{state_in}
use Rattle.brep_desk.proofs.Begun.{AllBegun-same}
use Rattle.brep_desk.proofs.Files.{is_to_fail}
use Rattle.brep_desk.proofs.memory.MemoryDeskDesk.read.Goals as goal

pub returns-then-contains-clause-refused : goal.returns-then-contains-clause-refused
returns-then-contains-clause-refused c =
    inl (is_to_fail _ _ _ _ _ c.deref-2.ensures.value c.next_call-call.ensures.number c.contains.ensures.value
    c.if-contains.true)

pub invariant_of-self-in-Some-1 : goal.invariant_of-self-in-Some-1
invariant_of-self-in-Some-1 c = record {
  begun =
      AllBegun-same _ _ _ _ (ap state_in (with_items_is c.args.self.now.channels c.read.new.channels (omega arith))
      ∙ c.in-Some.ensures.opened ∙ ap state_in c.deref_mut.ensures.value) refl c.args.self.now.begun;
  some = c.args.self.now.some;
}
