-- What a version line says, and where the text after it begins.
use Rattle.std.proofs.Common.{◌≡◌, ℕ, ◌+◌, ◌-◌, ◌<◌, ◌≤◌, inl, inr, true, false, List, ◌∷◌, nat_eq, get_or, length}
use Rattle.std.proofs.Common.{take, drop, refl, sym, subst, arith}
use Rattle.std.proofs.lemmas.List.{drop-drop, drop_all, drop_more, take_rest}
use Rattle.std.proofs.lemmas.Bool.{cases_lt}
use Rattle.brep_tokens.specs.Tokens.{version, unread, words_at, line_says, line_size, is_line, version_line}
use Rattle.brep_tokens.specs.Tokens.{version_mark, head_at}
use Rattle.std.specs.List.{starts_with}

module _ (bytes : List ℕ) (at line end next : ℕ) (ends : end ≡ at + line_size (drop at bytes)) where
  pub size_is : end - at ≡ line_size (drop at bytes)
  size_is = omega (arith, ends)

  pub says_first : is_line (version_line 1) (take (end - at) (drop at bytes)) ≡ true
      → line_says line at (drop at bytes) ≡ version 1 (at + (line_size (drop at bytes) + 1))
      (drop (line_size (drop at bytes) + 1) (drop at bytes))
  unfolding line_says
  says_first is =
      let h = rw size_is at is in
      rw h refl

  pub says_second : is_line (version_line 1) (take (end - at) (drop at bytes)) ≡ false
      → is_line (version_line 2) (take (end - at) (drop at bytes)) ≡ true
      → line_says line at (drop at bytes) ≡ version 2 (at + (line_size (drop at bytes) + 1))
      (drop (line_size (drop at bytes) + 1) (drop at bytes))
  unfolding line_says
  says_second unlike is =
      let h = rw size_is at is in
      let k = rw size_is at unlike in
      rw (k, h) refl

  pub says_none : is_line (version_line 1) (take (end - at) (drop at bytes)) ≡ false
      → is_line (version_line 2) (take (end - at) (drop at bytes)) ≡ false
      → line_says line at (drop at bytes) ≡ unread line at
  unfolding line_says
  says_none unlike unlike2 =
      let h = rw size_is at unlike2 in
      let k = rw size_is at unlike in
      rw (k, h) refl

  pub words_after : end ≤ length bytes → (end < length bytes → next ≡ end + 1) → (length bytes ≤ end → next ≡ end)
      → words_at (at + (line_size (drop at bytes) + 1)) (drop (line_size (drop at bytes) + 1) (drop at bytes))
      ≡ words_at next (drop next bytes)
  words_after fits one none =
      elim (cases_lt end (length bytes)) [
        | inl lt ↦ (let e : at + (line_size (drop at bytes) + 1) ≡ next = omega (arith, ends, one lt) in
            rw (drop-drop (line_size (drop at bytes) + 1) at bytes, e) refl)
        | inr le ↦ (let past : length bytes ≤ next = omega (arith, none le) in
            let far : length bytes ≤ at + (line_size (drop at bytes) + 1) = omega (arith, ends) in
            rw (
              drop-drop (line_size (drop at bytes) + 1) at bytes,
              drop_all (at + (line_size (drop at bytes) + 1)) bytes far,
              drop_all next bytes past,
            ) refl)
      ]

mark_list : (line k : ℕ) (b : ℕ) (bs : List ℕ) → starts_with nat_eq (b ∷ bs) version_mark ≡ true
    → head_at true line k (b ∷ bs) ≡ line_says line k (b ∷ bs)
mark_list line k b bs h = rw h refl

pub mark_says : (bytes : List ℕ) (line at : ℕ) → at < length bytes
    → starts_with nat_eq (take (length bytes - at) (drop at bytes)) version_mark ≡ true
    → head_at true line at (drop at bytes) ≡ line_says line at (drop at bytes)
mark_says bytes line at lt h =
    let first = drop_more bytes at 0 lt in
    let g = rw (take_rest, first) at h in
    subst (λ xs. head_at true line at xs ≡ line_says line at xs) (sym first)
    (mark_list line at (get_or bytes at 0) (drop (at + 1) bytes) g)
