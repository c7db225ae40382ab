use Rattle.std.proofs.Common.{◌≡◌, ℕ, ◌+◌, ◌-◌, ◌<◌, List, length, take, drop, Some, inl, inr, ap, sym, ◌∙◌, arith}
use Rattle.std.proofs.lemmas.Bool.{cases_lt}
use Rattle.std.proofs.lemmas.List.{length-drop, take_all}
use Rattle.history_text.proofs.LineCuts.{cut_found, cut_missing}
use Rattle.history_text.proofs.line_forms.cut_at.Goals as goal

pub returns-then-size-bytes : goal.returns-then-size-bytes
returns-then-size-bytes c =
    cut_missing c.args.c c.args.bytes.now (λ k below. c.size_before-size.ensures.others k (omega (arith, below, c.if-size-bytes.true)))

pub returns : goal.returns
returns c =
    let size = c.size_before-size.result in
    let bytes = c.args.bytes.now in
    let within : size < length bytes =
    elim (cases_lt size (length bytes)) [
      | inl lt ↦ lt
      | inr le ↦ absurd (c.if-size-bytes.false (omega (arith, le, c.size_before-size.ensures.fits)))
    ] in
    let rest : take (length bytes - (size + 1)) (drop (size + 1) bytes) ≡ drop (size + 1) bytes =
    take_all (length bytes - (size + 1)) (drop (size + 1) bytes) (omega (arith, length-drop (size + 1) bytes)) in
    cut_found c.args.c bytes size within c.size_before-size.ensures.others (c.size_before-size.ensures.stops within)
    ∙ ap (λ (z : List ℕ). Some (take size bytes, z)) (sym rest)
