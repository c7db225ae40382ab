-- The requests name held nodes; the target fits each, or one of them not.
use Rattle.std.proofs.Common.{◌∙◌, inr, reverse, subst, sym, All}
use Rattle.requests.specs.declared.request.Request.{Request}
use Rattle.requests.specs.Numbered.{ActFits, AreHeldIn}
use Rattle.shape_pool.specs.declared.node.UseOf.{UseOf}
use Rattle.script_requests.specs.Named.{AreNamed}
use Rattle.script_requests.specs.Numbered.{HasMisfit, IsReplaceFault, OrWants}
use Rattle.script_requests.proofs.HeldLaws.{all-held, one-held}
use Rattle.script_requests.proofs.RequestLaws.{made-fit, made-held, misfit, place-kept}
use Rattle.script_requests.proofs.asking.replacing.Goals as goal

pub all_fit-requires : goal.all_fit-requires
all_fit-requires c =
    let rows = c.args.pool.now in
    let by : UseOf = record { turn = c.args.tgt.turn; place = c.in_ok-word.word; id = c.in_ok-target.target } in
    let ids = c.as_slice.result.now in
    let named =
    subst (λ l. AreNamed rows (reverse c.args.versions.now) c.args.sel.name l) (sym c.as_slice.ensures)
    c.in_ok-sources.ensures in
    subst (λ l. AreHeldIn rows l) (sym (c.as_slice-2.ensures ∙ c.in_ok-asked.ensures))
    (made-held rows c.in_ok-place.place c.args.sel.turn by ids
    (one-held rows c.args.versions.now c.requires.versions c.args.tgt.name c.in_ok-target.target
    c.in_ok-target.ensures.only)
    (all-held rows c.args.versions.now c.requires.versions c.args.sel.name ids named))

pub returns-then-not-branch-clause-refused : goal.returns-then-not-branch-clause-refused
returns-then-not-branch-clause-refused c =
    let rows = c.args.pool.now in
    let vs = reverse c.args.versions.now in
    let by : UseOf = record { turn = c.args.tgt.turn; place = c.in_ok-word.word; id = c.in_ok-target.target } in
    let ids = c.as_slice.result.now in
    let named = subst (λ l. AreNamed rows vs c.args.sel.name l) (sym c.as_slice.ensures) c.in_ok-sources.ensures in
    let wrong = misfit rows c.in_ok-place.place c.args.sel.turn by ids
    (subst (λ l. HasMisfit rows l) (c.as_slice-2.ensures ∙ c.in_ok-asked.ensures)
    (c.in_ok-all_fit.ensures.wrong c.if-not-branch.true)) in
    subst (OrWants (IsReplaceFault rows vs c.args.line c.args.sel c.args.tgt)) (sym c.refused.ensures)
    (inr (
      c.in_ok-target.target,
      wrong.0,
      ids,
      c.in_ok-target.ensures.only,
      named,
      wrong.1,
      wrong.2,
      (cc),
    ))

pub returns-clause-asked : goal.returns-clause-asked
returns-clause-asked c =
    let rows = c.args.pool.now in
    let by : UseOf = record { turn = c.args.tgt.turn; place = c.in_ok-word.word; id = c.in_ok-target.target } in
    let ids = c.as_slice.result.now in record {
      target = c.in_ok-target.target;
      is_target = c.in_ok-target.ensures.only;
      ids = ids;
      named =
          subst (λ l. AreNamed rows (reverse c.args.versions.now) c.args.sel.name l) (sym c.as_slice.ensures)
          c.in_ok-sources.ensures;
      place = c.in_ok-place.place;
      is_place =
          place-kept c.args.file.now c.place_of.new.words c.word_of.new.words c.args.sel.place c.in_ok-place.place
          c.word_of.ensures.kept c.in_ok-place.ensures.place;
      word = c.in_ok-word.word;
      is_word = c.in_ok-word.ensures.word;
      fits =
          made-fit rows c.in_ok-place.place c.args.sel.turn by ids
          (subst (λ l. All (λ (q : Request). ActFits rows q.source.0 q.act) l)
          (c.as_slice-2.ensures ∙ c.in_ok-asked.ensures)
          (c.in_ok-all_fit.ensures.right c.if-not-branch.false));
      are = c.in_ok-asked.ensures;
    }
