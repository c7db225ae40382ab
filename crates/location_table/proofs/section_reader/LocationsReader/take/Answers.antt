-- An entry is whole, and more are due.
use Rattle.std.proofs.Common.{◌≡◌, List, Ok, Err, ℕ, ◌-◌, ◌+◌, ◌<◌, ◌≤◌, length, [], ◌∷◌, ◌++◌, ap, sym, ◌∙◌, arith}
use Rattle.std.proofs.Common.{length-append}
use Rattle.brep_tokens.specs.declared.text.Token.{Token}
use Rattle.entry_readers.specs.Reading.{more}
use Rattle.location_table.specs.declared.entry.LocationEntry.{LocationEntry}
use Rattle.location_table.specs.Held.{most_entries}
use Rattle.location_table.specs.Left.{entry_of, location_left, IsWaiting}
use Rattle.location_table.specs.Locations.{location_at}
use Rattle.location_table.specs.Sections.{locations_from}
use Rattle.location_table.proofs.SectionLaws.{fresh, fresh_open, moved}
use Rattle.location_table.proofs.section_reader.LocationsReader.take.Goals as goal

pub returns-else-self-eq0 : goal.returns-else-self-eq0
returns-else-self-eq0 c =
    let before : List LocationEntry = c.args.self.now.section in
    let n : ℕ = c.args.self.now.due in
    let x : LocationEntry = entry_of c.replace-reader.result in
    let now : List LocationEntry = c.add_to.new.section in
    let grown : now ≡ before ++ x ∷ [] = c.in_ok-add_to-in-Whole.ensures.ok in
    let due : 0 < n - 1 = omega (arith, c.if-self-eq0.false) in
    let left : (ts : List Token) → location_left now c.replace-reader.new.dest ts ≡ location_at now ts =
    λ ts. rw c.replace-reader.ensures.after (c.new.ensures.left now ts) in
    let is_open : location_left now c.replace-reader.new.dest [] ≡ Err more =
    rw c.replace-reader.ensures.after (c.new.ensures.open now) in
    let waits : IsWaiting now c.replace-reader.new.dest = rw c.replace-reader.ensures.after (c.new.ensures.waits now) in
    let took = rw c.in-Whole.is at c.in_ok-take.ensures in
    let read : (rest : List Token) → location_left before c.args.self.now.reader (c.args.t.now ∷ rest) ≡ Ok (x, rest) =
    λ rest. sym (took.0 rest) ∙ ap (λ r. location_left before r rest) (sym c.replace-reader.ensures.value)
    ∙ c.in_ok-add_to-in-Whole.ensures.read rest in
    let room : length now + (n - 1) ≤ most_entries =
    omega (arith, c.requires.room, c.requires.due, ap length grown, length-append before (x ∷ [])) in (
      λ rest. fresh (location_left now c.replace-reader.new.dest) now (n - 1) due left rest
          ∙ ap (λ es. locations_from es (n - 1) rest) grown
          ∙ sym (moved (location_left before c.args.self.now.reader) before n c.requires.due x
          (c.args.t.now ∷ rest) rest (read rest)),
      fresh_open (location_left now c.replace-reader.new.dest) now (n - 1) due is_open,
      record { due = due; room = room; waits = waits },
    )
