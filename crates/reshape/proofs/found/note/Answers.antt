-- The key was found before, or is held now.
use Rattle.std.proofs.Common.{refl, inl, inr, true≢false, sym, ◌∙◌}
use Rattle.lists.proofs.Errors.{IfErr-on}
use Rattle.key_results.specs.declared.fault.ApplyFault.TheVariants.{NoMemory}
use Rattle.reshape.specs.Collecting.{IsDueKey}
use Rattle.reshape.proofs.NoteLaws.{note-counted}
use Rattle.reshape.proofs.found.note.Goals as goal

pub returns-then-is_among-clause-noted : goal.returns-then-is_among-clause-noted
returns-then-is_among-clause-noted c = record {
  long = refl;
  others = λ q h. refl;
  own = inl (c.is_among.ensures.0 c.if-is_among.true, refl, refl);
}

pub returns-in_err-count-clause-refused : goal.returns-in_err-count-clause-refused
returns-in_err-count-clause-refused c =
    IfErr-on c.from_residual.result c.in_err-count.field-0.0
    (IsDueKey c.args.key c.args.found.now.keys.keys c.args.found.now.worded) c.from_residual.ensures.1
    (inr (
      c.in_err-count.ensures.refused.0,
      (λ m. true≢false (sym (c.is_among.ensures.1 m) ∙ c.if-is_among.false)),
      c.in_err-count.ensures.refused.1,
      c.in_err-count.ensures.refused.2,
    ))

pub hold-requires-clause-new : goal.hold-requires-clause-new
hold-requires-clause-new c = λ m. true≢false (sym (c.is_among.ensures.1 m) ∙ c.if-is_among.false)

pub returns-in_err-hold-clause-refused : goal.returns-in_err-hold-clause-refused
returns-in_err-hold-clause-refused c =
    IfErr-on c.from_residual-in_err-hold.result NoMemory
    (IsDueKey c.args.key c.args.found.now.keys.keys c.args.found.now.worded)
    c.from_residual-in_err-hold.ensures.1 (inl refl)

pub returns-clause-noted : goal.returns-clause-noted
returns-clause-noted c = c.in_ok-hold.ensures

pub returns-clause-counted : goal.returns-clause-counted
returns-clause-counted c =
    note-counted c.args.place c.args.key c.args.found.now.keys.keys c.args.found.now.at.items _ _
    c.args.found.now.worded c.in_ok-count.count
    (λ m. true≢false (sym (c.is_among.ensures.1 m) ∙ c.if-is_among.false)) c.in_ok-hold.ensures c.requires.counted
    c.in_ok-count.ensures.with_word c.in_ok-count.ensures.without
