use Rattle.std.proofs.Common.{◌≡◌, List, [], ◌∷◌, Ok, Err, refl, sym, ◌∙◌}
use Rattle.entry_readers.specs.Reading.{more}
use Rattle.brep_tokens.specs.declared.text.Token.{Token}
use Rattle.tshape_data.specs.HeadLeft.{head_left}
use Rattle.brep_file.specs.RecordLeft.{bounds_of, so_far_of, uses_left}
use Rattle.brep_file.proofs.UsesOpen.{waiting_open}
use Rattle.brep_file.proofs.reader.record.RecordReader.take_head.Goals as goal

pub returns-in-More : goal.returns-in-More
returns-in-More c =
    let took = rw c.in-More.is at c.in_ok-take.ensures in
    rw c.requires.none (
      λ rest. rw (took.0 rest) refl,
      rw took.1 refl,
      record {
        waits = took.2;
        few = λ ts rest head e. c.requires.waits.few (c.args.t.now ∷ ts) rest head (sym (took.0 ts) ∙ e);
        uses = c.requires.waits.uses;
      },
    )

pub returns-in-Whole : goal.returns-in-Whole
returns-in-Whole c =
    let took = rw c.in-Whole.is at c.in_ok-take.ensures in
    let read : (rest : List Token) → head_left c.args.self.now.reader (c.args.t.now ∷ rest) ≡ Ok (c.done.result, rest) =
    λ rest. sym (took.0 rest) ∙ rw (← c.replace-reader.ensures.value) (c.done.ensures rest) in
    let is_open : uses_left (bounds_of c.args.bounds) (so_far_of c.args.so_far.now) c.done.result.kind
    c.args.self.now.uses [] ≡ Err more =
    waiting_open c.args.self.now.uses.stage (bounds_of c.args.bounds) (so_far_of c.args.so_far.now) c.done.result.kind
    c.args.so_far.now.uses c.args.self.now.uses.gathered c.requires.waits.uses in (
      λ rest. rw (read rest) refl,
      rw is_open refl,
      (c.requires.waits.uses, c.requires.waits.few (c.args.t.now ∷ []) [] c.done.result (read [])),
    )
