-- A token's text inline: its bytes, and zeros behind them.
use Rattle.std.specs.Prelude.{◌≡◌, ℕ, ◌-◌, ◌≤◌, List, ◌++◌, length, take, drop, replicate}
use Rattle.std.proofs.Common.{sym, subst, ap, ◌∙◌}
use Rattle.std.proofs.lemmas.List.{take-append-drop, length-take-le}
use Rattle.brep_tokens.specs.declared.text.TokenText.TheInside.{Inside}

pub record IsText (s : Inside) : Type 0 where
  pub size : length s.bytes ≡ 128
  pub fits : s.len ≤ 128
  pub zeros : drop s.len s.bytes ≡ replicate (128 - s.len) 0

abbrev pub text_of : Inside → List ℕ
text_of s = take s.len s.bytes

abbrev pub back : List ℕ → Inside
back text = record { bytes = text ++ replicate (128 - length text) 0; len = length text }

pub back_ok : (s : Inside) → IsText s → back (text_of s) ≡ s
back_ok s is =
    let size : length (take s.len s.bytes) ≡ s.len =
    length-take-le s.len s.bytes (subst (λ n. s.len ≤ n) (sym is.size) is.fits) in
    let whole : take s.len s.bytes ++ replicate (128 - length (take s.len s.bytes)) 0 ≡ s.bytes =
    ap (λ n. take s.len s.bytes ++ replicate (128 - n) 0) size ∙ ap (λ z. take s.len s.bytes ++ z) (sym is.zeros)
    ∙ take-append-drop s.len s.bytes in
    let filled : back (text_of s) ≡ record { bytes = s.bytes; len = length (take s.len s.bytes) } =
    ap (λ (z : List ℕ). record { bytes = z; len = length (take s.len s.bytes) }) whole in
    let sized : record { bytes = s.bytes; len = length (take s.len s.bytes) } ≡ s =
    ap (λ (n : ℕ). record { bytes = s.bytes; len = n }) size in
    filled ∙ sized
