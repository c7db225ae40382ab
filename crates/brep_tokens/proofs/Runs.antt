-- Runs of bytes other than white space, as a scan over the indices finds them.
use Rattle.std.proofs.Common.{◌≡◌, ℕ, zero, suc, ◌+◌, ◌-◌, ◌<◌, ◌≤◌, inl, inr, true, false, List, ◌∷◌, length, get_or}
use Rattle.std.proofs.Common.{take, drop, leb, refl, sym, ap, subst, ◌∙◌, arith}
use Rattle.std.proofs.lemmas.List.{drop_more, drop_all, length-take, length-take-le, length-drop, take-take, drop-take}
use Rattle.std.proofs.lemmas.List.{drop-drop}
use Rattle.std.proofs.lemmas.Bool.{cases_lt, leb-true, lt-leb}
use Rattle.brep_tokens.specs.Bytes.{is_white}
use Rattle.brep_tokens.specs.Tokens.{starts_white, runs_at, words_at, parts, is_joined}
use Rattle.brep_tokens.proofs.NumberForms.{and_left}

pub runs-white : (bytes : List ℕ) (i : ℕ) → i < length bytes → is_white (get_or bytes i 0) ≡ true
    → runs_at i (drop i bytes) ≡ runs_at (i + 1) (drop (i + 1) bytes)
runs-white bytes i lt white = rw (drop_more bytes i 0 lt, white) refl

starts-dark : (bytes : List ℕ) (i : ℕ) → i < length bytes → is_white (get_or bytes i 0) ≡ false
    → starts_white (drop i bytes) ≡ false
starts-dark bytes i lt dark = rw (drop_more bytes i 0 lt) dark

pub runs-run : (n : ℕ) (bytes : List ℕ) (i : ℕ) → i + suc n ≤ length bytes
    → ((k : ℕ) → i ≤ k → k < i + suc n → is_white (get_or bytes k 0) ≡ false)
    → starts_white (drop (i + suc n) bytes) ≡ true
    → runs_at i (drop i bytes) ≡ record { offset = i; text = take (suc n) (drop i bytes) } ∷ runs_at (i + suc n)
    (drop (i + suc n) bytes)
runs-run zero bytes i fits dark stops =
    let lt : i < length bytes = omega arith in
    let d : is_white (get_or bytes i 0) ≡ false = dark i (omega arith) (omega arith) in
    rw (drop_more bytes i 0 lt, d, stops) refl
runs-run (suc n) bytes i fits dark stops =
    let lt : i < length bytes = omega arith in
    let d : is_white (get_or bytes i 0) ≡ false = dark i (omega arith) (omega arith) in
    let goes : starts_white (drop (i + 1) bytes) ≡ false = starts-dark bytes (i + 1) (omega arith)
    (dark (i + 1) (omega arith) (omega arith)) in
    let e : (i + 1) + suc n ≡ i + suc (suc n) = omega arith in
    let rest = runs-run n bytes (i + 1) (omega arith) (λ k from to. dark k (omega arith) (omega arith)) (rw e stops) in
    rw (drop_more bytes i 0 lt, d, goes, rest, e) refl

-- the same between two places
pub runs-between : (bytes : List ℕ) (i j : ℕ) → i < j → j ≤ length bytes
    → ((k : ℕ) → i ≤ k → k < j → is_white (get_or bytes k 0) ≡ false) → starts_white (drop j bytes) ≡ true
    → runs_at i (drop i bytes) ≡ record { offset = i; text = take (j - i) (drop i bytes) } ∷ runs_at j (drop j bytes)
runs-between bytes i j lt fits dark stops =
    let n : ℕ = j - i - 1 in
    let e : i + suc (j - i - 1) ≡ j = omega arith in
    let size : suc (j - i - 1) ≡ j - i = omega arith in
    let one = runs-run (j - i - 1) bytes i (omega arith) (λ k from to. dark k from (omega arith)) (rw e stops) in
    rw (e, size) at one

starts-white : (bytes : List ℕ) (j : ℕ) → j ≤ length bytes → (j < length bytes → is_white (get_or bytes j 0) ≡ true)
    → starts_white (drop j bytes) ≡ true
starts-white bytes j fits stops =
    elim (cases_lt j (length bytes)) [
      | inl lt ↦ rw (drop_more bytes j 0 lt) (stops lt)
      | inr le ↦ rw (drop_all j bytes le) refl
    ]

-- ---- runs that are two tokens

pub joined-long : (t : List ℕ) → is_joined t ≡ true → 3 ≤ length t
joined-long t h = leb-true 3 (length t) (and_left (leb 3 (length t)) _ h)

pub joined-two : (t : List ℕ) → length t ≡ 2 → is_joined t ≡ false
joined-two t h = rw (lt-leb 3 (length t) (omega arith)) refl

pub first-plain : (bytes : List ℕ) (at start end : ℕ) → runs_at start (drop start bytes) ≡ runs_at at (drop at bytes)
    → start < end → end ≤ length bytes
    → ((k : ℕ) → start ≤ k → k < end → is_white (get_or bytes k 0) ≡ false)
    → (end < length bytes → is_white (get_or bytes end 0) ≡ true)
    → is_joined (take (end - start) (drop start bytes)) ≡ false
    → words_at at (drop at bytes) ≡ record { offset = start; text = take (end - start) (drop start bytes) }
    ∷ words_at end (drop end bytes)
unfolding parts
first-plain bytes at start end same lt fits dark stops plain =
    let runs = runs-between bytes start end lt fits dark (starts-white bytes end fits stops) in
    rw (← same, runs, plain) refl

pub first-joined : (bytes : List ℕ) (at start end : ℕ) → runs_at start (drop start bytes) ≡ runs_at at (drop at bytes)
    → start < end → end ≤ length bytes
    → ((k : ℕ) → start ≤ k → k < end → is_white (get_or bytes k 0) ≡ false)
    → (end < length bytes → is_white (get_or bytes end 0) ≡ true)
    → is_joined (take (end - start) (drop start bytes)) ≡ true
    → words_at at (drop at bytes) ≡ record { offset = start; text = take (end - 2 - start) (drop start bytes) }
    ∷ words_at (end - 2) (drop (end - 2) bytes)
unfolding parts
first-joined bytes at start end same lt fits dark stops joined =
    let t : List ℕ = take (end - start) (drop start bytes) in
    let size : length (take (end - start) (drop start bytes)) ≡ end - start =
    length-take-le (end - start) (drop start bytes) (omega (arith, length-drop start bytes)) in
    let long : 3 ≤ end - start = omega (arith, joined-long (take (end - start) (drop start bytes)) joined, size) in
    let runs = runs-between bytes start end lt fits dark (starts-white bytes end fits stops) in
    let tail = runs-between bytes (end - 2) end (omega arith) fits (λ k from to. dark k (omega arith) to)
    (starts-white bytes end fits stops) in
    let two : length (take (end - (end - 2)) (drop (end - 2) bytes)) ≡ 2 =
    length-take-le (end - (end - 2)) (drop (end - 2) bytes) (omega (arith, length-drop (end - 2) bytes))
    ∙ omega arith in
    let alone : is_joined (take (end - (end - 2)) (drop (end - 2) bytes)) ≡ false =
    joined-two (take (end - (end - 2)) (drop (end - 2) bytes)) two in
    let front : take (length (take (end - start) (drop start bytes)) - 2) (take (end - start) (drop start bytes)) ≡ take
    (end - 2 - start) (drop start bytes) =
    (let n : length (take (end - start) (drop start bytes)) - 2 ≡ end - 2 - start = omega (arith, size) in
    rw n (take-take (end - 2 - start) (end - start) (drop start bytes) (omega arith))) in
    let place : start + (length (take (end - start) (drop start bytes)) - 2) ≡ end - 2 = omega (arith, size) in
    let back : drop (length (take (end - start) (drop start bytes)) - 2) (take (end - start) (drop start bytes)) ≡ take
    (end - (end - 2)) (drop (end - 2) bytes) =
    (let n : length (take (end - start) (drop start bytes)) - 2 ≡ end - 2 - start = omega (arith, size) in
    let m : end - start ≡ (end - 2 - start) + (end - (end - 2)) = omega arith in
    let k : start + (end - 2 - start) ≡ end - 2 = omega arith in
    rw n (rw m (drop-take (end - 2 - start) (end - (end - 2)) (drop start bytes)) ∙ ap (take (end - (end - 2)))
    (drop-drop (end - 2 - start) start bytes ∙ ap (λ x. drop x bytes) k))) in
    rw (← same, runs, joined, front, place, back, tail, alone) refl

pub moved : (bytes : List ℕ) (i j : ℕ) → i ≤ j → i < length bytes → is_white (get_or bytes i 0) ≡ false
    → (j < length bytes → is_white (get_or bytes j 0) ≡ true) → i < j
moved bytes i j le lt dark stops =
    elim (cases_lt i j) [
      | inl less ↦ less
      | inr back ↦ (let e : j ≡ i = omega arith in
          let white : is_white (get_or bytes i 0) ≡ true = subst (λ n. is_white (get_or bytes n 0) ≡ true) e
          (stops (omega arith)) in
          let clash : true ≡ false = sym white ∙ dark in
          absurd cc)
    ]

pub longer : (bytes : List ℕ) (start end : ℕ) → end ≤ length bytes
    → is_joined (take (end - start) (drop start bytes)) ≡ true → start + 3 ≤ end
longer bytes start end fits joined =
    omega (
      arith,
      joined-long (take (end - start) (drop start bytes)) joined,
      length-take (end - start) (drop start bytes),
      length-drop start bytes,
    )
