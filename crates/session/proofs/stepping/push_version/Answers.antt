-- The last version's root is that of the view.
use Rattle.std.proofs.Common.{◌≡◌, ◌∙◌, ap, subst, sym, length, reverse, OnOk}
use Rattle.reshape.specs.Answers.{IsWithinLimits, RisesByKeys}
use Rattle.reshape.specs.Readings.{InSteps}
use Rattle.script_requests.specs.Named.{last_root}
use Rattle.session.proofs.stepping.push_version.Goals as goal
use Rattle.session.proofs.stepping.push_version.Goals.{in-Ok, in-Err}

pub returns-in_err-version-clause-steps : goal.returns-in_err-version-clause-steps
returns-in_err-version-clause-steps g c =
    let rows = c.args.pool.now in
    let e : c.last_root-root.result ≡ last_root c.args.first (reverse c.args.versions.now.items) =
    c.last_root-root.ensures ∙ ap (λ l. last_root c.args.first (reverse l)) c.as_slice.ensures.value in
    subst (λ r. InSteps rows (length c.args.words.now) r.id.0 c.args.plan.now c.version_of.new.words
    (RisesByKeys rows r c.args.steps.now c.version_of.new.steps)) e c.version_of.ensures.steps

pub returns-clause-within : goal.returns-clause-within
returns-clause-within g c =
    let rows = c.args.pool.now in
    let e : c.last_root-root.result ≡ last_root c.args.first (reverse c.args.versions.now.items) =
    c.last_root-root.ensures ∙ ap (λ l. last_root c.args.first (reverse l)) c.as_slice.ensures.value in
    elim c.match-push.branch [
      | in-Ok w ↦
          subst (λ r. OnOk r (InSteps rows (length c.args.words.now)
          (last_root c.args.first (reverse c.args.versions.now.items)).id.0 c.args.plan.now
          c.version_of.new.words (IsWithinLimits rows (last_root c.args.first (reverse c.args.versions.now.items)))))
          (sym w.result-is)
          (subst (λ r. InSteps rows (length c.args.words.now) r.id.0 c.args.plan.now c.version_of.new.words
          (IsWithinLimits rows r)) e c.in_ok-version.ensures.within)
      | in-Err w ↦
          subst (λ r. OnOk r (InSteps rows (length c.args.words.now)
          (last_root c.args.first (reverse c.args.versions.now.items)).id.0 c.args.plan.now
          c.version_of.new.words (IsWithinLimits rows (last_root c.args.first (reverse c.args.versions.now.items)))))
          (sym w.result-is) tt
    ]

pub returns-clause-steps : goal.returns-clause-steps
returns-clause-steps g c =
    let rows = c.args.pool.now in
    let e : c.last_root-root.result ≡ last_root c.args.first (reverse c.args.versions.now.items) =
    c.last_root-root.ensures ∙ ap (λ l. last_root c.args.first (reverse l)) c.as_slice.ensures.value in
    subst (λ r. InSteps rows (length c.args.words.now) r.id.0 c.args.plan.now c.version_of.new.words
    (RisesByKeys rows r c.args.steps.now c.version_of.new.steps)) e c.version_of.ensures.steps
