use Rattle.std.proofs.Common.{◌≡◌, ◌+◌, ◌-◌, ◌<◌, ◌≤◌, List, ◌∷◌, length, Ok, refl, ap, sym, ◌∙◌, arith}
use Rattle.std.proofs.lemmas.List.{length-append}
use Rattle.brep_tokens.specs.declared.text.Token.{Token}
use Rattle.tshape_data.specs.Sound.{rep_count}
use Rattle.brep_file.specs.Many.{many_from}
use Rattle.brep_file.specs.RecordLeft.{AreFew, HasFewReps, bounds_of, gathered_of, most_uses, record_left, so_far_of}
use Rattle.brep_file.specs.RecordReading.{record_at, with_record}
use Rattle.brep_file.proofs.Steps.{fresh, fresh_open, moved}
use Rattle.brep_file.proofs.reader.records.RecordsReaderPartReader.take_token.Goals as goal

pub new-requires-clause-few : goal.new-requires-clause-few
new-requires-clause-few c =
    let took = rw c.in-Whole.is at c.in_ok-take.ensures in
    let few : HasFewReps c.args.self.now.so_far.reps c.done-head.result.0 =
    c.done-head.ensures.reps c.args.self.now.so_far.uses c.args.self.now.so_far.reps took.1 in
    let reps : c.push.new.self.reps ≡ c.args.self.now.so_far.reps + rep_count c.done-head.result.0.payload =
    ap (λ z. z.reps) c.in_ok-push-in-Whole.ensures in
    omega (arith, few, reps)

pub returns-else-self-eq0 : goal.returns-else-self-eq0
returns-else-self-eq0 c =
    let b = bounds_of c.args.self.now.bounds in
    let s = so_far_of c.args.self.now.so_far in
    let longer = so_far_of c.push.new.self in
    let head = c.done-head.result.0 in
    let made = gathered_of c.done-head.result.1 in
    let due : 0 < c.args.self.now.due - 1 = omega (arith, c.if-self-eq0.false) in
    let took = rw c.in-Whole.is at c.in_ok-take.ensures in
    let read : (rest : List Token) → record_left b s c.args.self.now.reader (c.args.t.now ∷ rest) ≡ Ok
    (with_record s head made, rest) =
    λ rest. sym (took.0 rest) ∙ c.done-head.ensures.left b s rest in
    let few : AreFew c.args.self.now.so_far.uses c.done-head.result.1 =
    c.done-head.ensures.few c.args.self.now.so_far.uses c.args.self.now.so_far.reps took.1 in
    let few_reps : HasFewReps c.args.self.now.so_far.reps head =
    c.done-head.ensures.reps c.args.self.now.so_far.uses c.args.self.now.so_far.reps took.1 in
    let seen : length longer.seen ≡ length s.seen + 1 = ap (λ z. length z.seen) c.in_ok-push-in-Whole.ensures
    ∙ length-append s.seen _ in
    let uses : longer.uses ≡ s.uses + length made.uses = ap (λ z. z.uses) c.in_ok-push-in-Whole.ensures in
    let reps : longer.reps ≡ s.reps + rep_count head.payload = ap (λ z. z.reps) c.in_ok-push-in-Whole.ensures in
    let within : longer.uses ≤ most_uses = omega (arith, uses, few.within) in (
      λ rest. fresh (record_at b) (record_left b longer c.new.result) longer (c.args.self.now.due - 1) due
          (λ ts. c.new.ensures.left longer ts refl) rest
          ∙ ap (λ z. many_from (record_at b) z (c.args.self.now.due - 1) rest) c.in_ok-push-in-Whole.ensures
          ∙ sym (moved (record_at b) (record_left b s c.args.self.now.reader) s c.args.self.now.due c.requires.due
          (with_record s head made) (c.args.t.now ∷ rest) rest (read rest)),
      fresh_open (record_at b) (record_left b longer c.new.result) longer (c.args.self.now.due - 1) due
          (c.new.ensures.open b longer),
      record {
        due = due;
        count = omega (arith, seen, c.requires.count, c.requires.due);
        version = c.requires.version;
        uses = within;
        reps = omega (arith, reps, few_reps);
        waits = c.new.ensures.waits longer.uses within;
      },
    )
