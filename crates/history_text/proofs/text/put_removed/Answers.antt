use Rattle.std.proofs.Common.{◌≡◌, ℕ, List, [], ◌∷◌, ◌++◌, length, map, ap, sym, ◌∙◌, arith}
use Rattle.std.specs.Prelude.{codes}
use Rattle.std.specs.Fmt.{decimal}
use Rattle.std.proofs.lemmas.List.{length-map}
use Rattle.brep_tokens.specs.Written.{line_text, lines_text}
use Rattle.history_text.specs.HistoryText.{number_words}
use Rattle.history_text.proofs.SendingLaws.{Sends-on, Stopped-first, Stopped-line, Sent-line, Sent-as}
use Rattle.history_text.proofs.LineLaws.{all, number_at, some_within}
use Rattle.history_text.proofs.text.put_removed.Goals as goal

pub returns-in_err-put-clause-sends : goal.returns-in_err-put-clause-sends
returns-in_err-put-clause-sends g c =
    let lines : List (List (List ℕ)) = map number_words c.args.removed.now in
    let count : c.len.result ≡ length lines = c.len.ensures ∙ sym (length-map c.args.removed.now number_words) in
    let head : c.as_slice.result.now ≡ line_text (codes "removed" ∷ decimal (length lines) ∷ []) =
    c.as_slice.ensures.value ∙ c.count_line.ensures ∙ ap (λ k. line_text (codes "removed" ∷ decimal k ∷ [])) count in
    Sends-on _ _ _ _ _ _ _ _ c.in_err-put.field-0.0 c.from_residual.ensures.1
    (Stopped-first _ _ _ _ _ _ (lines_text lines) _ _ (ap (λ z. z ++ lines_text lines) (sym head)) c.in_err-put.ensures.sends)

pub returns-in_err-put-2-clause-sends : goal.returns-in_err-put-2-clause-sends
returns-in_err-put-2-clause-sends g c =
    Sends-on _ _ _ _ _ _ _ _ c.in_err-put-2.field-0.0 c.from_residual-in_err-put-2.ensures.1
    (Stopped-line _ _ _ _ _ _ _ (line_text (codes "removed" ∷ decimal (length (map number_words c.args.removed.now)) ∷ [])) (map number_words c.args.removed.now) c.loop-number.at _ _ _
    (let lt = some_within c.args.removed.now c.loop-number.at _ c.in-Some.ensures.some in omega (arith, lt, length-map c.args.removed.now number_words))
    (number_at c.args.removed.now c.loop-number.at _ c.in-Some.ensures.some) (c.as_slice-in-Some.ensures.value ∙ c.number_line.ensures) c.loop-number.invariant.sent c.in_err-put-2.ensures.sends)

pub loop-number-preserved : goal.loop-number-preserved
loop-number-preserved g c = record {
  no_fault = c.in_ok-put-2.ensures.no_fault ∙ c.loop-number.invariant.no_fault;
  within = (let lt = some_within c.args.removed.now c.loop-number.at _ c.in-Some.ensures.some in omega (arith, lt));
  sent = Sent-line _ _ _ _ _ _ _ _ (line_text (codes "removed" ∷ decimal (length (map number_words c.args.removed.now)) ∷ [])) (map number_words c.args.removed.now) c.loop-number.at _ _
      (let lt = some_within c.args.removed.now c.loop-number.at _ c.in-Some.ensures.some in omega (arith, lt, length-map c.args.removed.now number_words))
      (number_at c.args.removed.now c.loop-number.at _ c.in-Some.ensures.some) (c.as_slice-in-Some.ensures.value ∙ c.number_line.ensures) c.loop-number.invariant.sent c.in_ok-put-2.ensures.sends;
}

pub returns-clause-sends : goal.returns-clause-sends
returns-clause-sends g c = Sent-as _ _ _ _ _ _ _ _ (all (line_text (codes "removed" ∷ decimal (length (map number_words c.args.removed.now)) ∷ [])) (map number_words c.args.removed.now) c.loop-number.at (omega (arith, c.in_default.ensures.none, length-map c.args.removed.now number_words))) c.loop-number.invariant.sent
