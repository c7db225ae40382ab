use Rattle.std.proofs.Common.{◌≡◌, List, Ok, Err, ◌-◌, ◌<◌, [], ◌∷◌, ap, sym, ◌∙◌, arith}
use Rattle.entry_readers.specs.Reading.{more}
use Rattle.brep_tokens.specs.declared.text.Token.{Token}
use Rattle.entry_readers.specs.Entries.{entries_from}
use Rattle.entry_readers.proofs.Steps.{fresh, fresh_open, moved}
use Rattle.entry_readers.proofs.section.Section.take.Goals as goal

pub returns-else-self-eq0 : goal.returns-else-self-eq0
returns-else-self-eq0 g c =
    let due : 0 < c.args.self.now.due - 1 = omega (arith, c.if-self-eq0.false) in
    let left : (ts : List Token) → g.R.EntryReader.left c.replace-reader.new.dest ts ≡ g.R.EntryReader.read ts =
    λ ts. rw c.replace-reader.ensures.after (c.begin.ensures.left ts) in
    let is_open : g.R.EntryReader.left c.replace-reader.new.dest [] ≡ Err more =
    rw c.replace-reader.ensures.after c.begin.ensures.open in
    let took = rw c.in-Whole.is at c.in_ok-take_token.ensures in
    let grown = c.in_ok-append-in-Whole.ensures in
    let read : (rest : List Token) → g.R.EntryReader.left c.args.self.now.reader (c.args.t.now ∷ rest) ≡ Ok
    (c.finish.result, rest) =
    λ rest. sym (took.0 rest) ∙ rw (← c.replace-reader.ensures.value) (c.finish.ensures rest) in (
      λ rest. fresh g.R.EntryReader.read (g.R.EntryReader.left c.replace-reader.new.dest) c.append.new.entries.items
          (c.args.self.now.due - 1) due left rest
          ∙ ap (λ xs. entries_from g.R.EntryReader.read xs (c.args.self.now.due - 1) rest) grown
          ∙ sym (moved g.R.EntryReader.read (g.R.EntryReader.left c.args.self.now.reader) c.args.self.now.entries.items
          c.args.self.now.due c.requires.due c.finish.result (c.args.t.now ∷ rest) rest (read rest)),
      fresh_open g.R.EntryReader.read (g.R.EntryReader.left c.replace-reader.new.dest) c.append.new.entries.items
          (c.args.self.now.due - 1) due is_open,
      (due, rw c.replace-reader.ensures.after c.begin.ensures.waits),
    )
