use Rattle.std.proofs.Common.{◌≡◌, ℕ, List, [], ◌∷◌, ◌++◌, length, ap, sym, ◌∙◌, arith}
use Rattle.std.specs.Prelude.{codes}
use Rattle.std.specs.Fmt.{decimal}
use Rattle.std.proofs.lemmas.List.{append-nil}
use Rattle.brep_tokens.specs.Written.{line_text, lines_text}
use Rattle.history_text.specs.HistoryText.{origin_lines}
use Rattle.history_text.proofs.SendingLaws.{Sends-on, Stopped-first, Stopped-line, Sent-line, Sent-as}
use Rattle.history_text.proofs.LineLaws.{all, origin_at, length-origin_lines, some_within}
use Rattle.history_text.proofs.text.put_origins.Goals as goal

pub returns-in_err-put-clause-sends : goal.returns-in_err-put-clause-sends
returns-in_err-put-clause-sends g c =
    let lines : List (List (List ℕ)) = origin_lines c.args.origins.now in
    let count : c.len.result ≡ length lines = c.len.ensures ∙ sym (length-origin_lines c.args.origins.now) in
    let head : c.as_slice.result.now ≡ line_text (codes "records" ∷ decimal (length lines) ∷ []) =
    c.as_slice.ensures.value ∙ c.count_line.ensures ∙ ap (λ k. line_text (codes "records" ∷ decimal k ∷ [])) count in
    Sends-on _ _ _ _ _ _ _ _ c.in_err-put.field-0.0 c.from_residual.ensures.1
    (Stopped-first _ _ _ _ _ _ (lines_text lines) _ _ (ap (λ z. z ++ lines_text lines) (sym head)) c.in_err-put.ensures.sends)

pub returns-in_err-put-2-clause-sends : goal.returns-in_err-put-2-clause-sends
returns-in_err-put-2-clause-sends g c =
    Sends-on _ _ _ _ _ _ _ _ c.in_err-put-2.field-0.0 c.from_residual-in_err-put-2.ensures.1
    (Stopped-line _ _ _ _ _ _ _ (line_text (codes "records" ∷ decimal (length (origin_lines c.args.origins.now)) ∷ [])) (origin_lines c.args.origins.now) c.loop-origin.at _ _ _
    (let lt = some_within c.args.origins.now c.loop-origin.at _ c.in-Some.ensures.some in omega (arith, lt, length-origin_lines c.args.origins.now))
    (origin_at c.args.origins.now c.loop-origin.at _ c.in-Some.ensures.some) (c.as_slice-in-Some.ensures.value ∙ c.pair_line.ensures) c.loop-origin.invariant.sent c.in_err-put-2.ensures.sends)

pub loop-origin-preserved : goal.loop-origin-preserved
loop-origin-preserved g c = record {
  no_fault = c.in_ok-put-2.ensures.no_fault ∙ c.loop-origin.invariant.no_fault;
  within = (let lt = some_within c.args.origins.now c.loop-origin.at _ c.in-Some.ensures.some in omega (arith, lt));
  sent = Sent-line _ _ _ _ _ _ _ _ (line_text (codes "records" ∷ decimal (length (origin_lines c.args.origins.now)) ∷ [])) (origin_lines c.args.origins.now) c.loop-origin.at _ _
      (let lt = some_within c.args.origins.now c.loop-origin.at _ c.in-Some.ensures.some in omega (arith, lt, length-origin_lines c.args.origins.now))
      (origin_at c.args.origins.now c.loop-origin.at _ c.in-Some.ensures.some) (c.as_slice-in-Some.ensures.value ∙ c.pair_line.ensures) c.loop-origin.invariant.sent c.in_ok-put-2.ensures.sends;
}

pub returns-clause-sends : goal.returns-clause-sends
returns-clause-sends g c = Sent-as _ _ _ _ _ _ _ _ (all (line_text (codes "records" ∷ decimal (length (origin_lines c.args.origins.now)) ∷ [])) (origin_lines c.args.origins.now) c.loop-origin.at (omega (arith, c.in_default.ensures.none, length-origin_lines c.args.origins.now))) c.loop-origin.invariant.sent

pub loop-origin-init : goal.loop-origin-init
loop-origin-init g c =
    let lines : List (List (List ℕ)) = origin_lines c.args.origins.now in
    let count : c.len.result ≡ length lines = c.len.ensures ∙ sym (length-origin_lines c.args.origins.now) in
    let head : c.as_slice.result.now ≡ line_text (codes "records" ∷ decimal (length lines) ∷ []) =
    c.as_slice.ensures.value ∙ c.count_line.ensures ∙ ap (λ k. line_text (codes "records" ∷ decimal k ∷ [])) count in
    record {
      no_fault = c.in_ok-put.ensures.no_fault;
      within = omega arith;
      sent = Sent-as _ _ _ _ _ _ _ _ (head ∙ sym (append-nil (line_text (codes "records" ∷ decimal (length lines) ∷ [])))) c.in_ok-put.ensures.sends;
    }

pub loop-origin-smaller : goal.loop-origin-smaller
loop-origin-smaller g c = let lt = some_within c.args.origins.now c.loop-origin.at _ c.in-Some.ensures.some in omega (arith, lt)
