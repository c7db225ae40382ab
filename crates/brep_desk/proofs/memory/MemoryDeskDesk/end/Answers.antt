use Rattle.std.proofs.Common.{arith, inl, refl}
use Rattle.brep_desk.proofs.Begun.{AllBegun-closed}
use Rattle.std.proofs.lemmas.List.{with_items_is}
use Rattle.brep_desk.proofs.Keeping.{Ends-by}
use Rattle.brep_desk.proofs.Files.{is_to_fail}
use Rattle.brep_desk.proofs.memory.MemoryDeskDesk.end.Goals as goal

pub returns-then-contains-clause-refused : goal.returns-then-contains-clause-refused
returns-then-contains-clause-refused c =
    inl (is_to_fail _ _ _ _ _ c.deref-3.ensures.value c.next_call-call.ensures.number c.contains.ensures.value
    c.if-contains.true)

pub invariant_of-self-then-end_channel : goal.invariant_of-self-then-end_channel
invariant_of-self-then-end_channel c =
    let now = with_items_is c.args.self.now.channels c.end_channel.new.channels (omega arith) in
    let ends =
    Ends-by _ _ _ _ _ _ _ _ c.args.self.now.counts c.args.self.now.counts c.deref_mut.ensures.value now
    (c.if-end_channel.ensures.ends c.args.self.now.files.items c.args.self.now.counts c.args.self.now.counts) in
    record {
      begun = AllBegun-closed _ _ _ _ _ (ends.opened refl) ends.written c.args.self.now.begun;
      some = c.args.self.now.some;
    }

pub returns-then-end_channel-clause-ends : goal.returns-then-end_channel-clause-ends
returns-then-end_channel-clause-ends c =
    let now = with_items_is c.args.self.now.channels c.end_channel.new.channels (omega arith) in
    Ends-by _ _ _ _ _ _ _ _ c.args.self.now.counts c.next_call-call.new.self c.deref_mut.ensures.value now
    (c.if-end_channel.ensures.ends c.args.self.now.files.items c.args.self.now.counts c.next_call-call.new.self)
