-- The first line of a text, and how many lines it has.
use Rattle.std.proofs.Common.{◌≡◌, ℕ, zero, suc, ◌-◌, ◌<◌, ◌≤◌, inl, inr, Bool, true, false, ◌==◌, ltb, ◌&&◌}
use Rattle.std.proofs.Common.{if◌then◌else◌, List, [], ◌∷◌, length, get_or, take, drop, refl, sym, ap, ◌∙◌, arith}
use Rattle.std.proofs.lemmas.Bool.{lt-ltb}
use Rattle.std.proofs.lemmas.Bool.Decides.{eqb_tells}
use Rattle.std.proofs.lemmas.List.Sums.{sum_by-cons}
use Rattle.std.proofs.lemmas.List.{length-drop, nil_from_length, take_all}
use Rattle.script_text.specs.Lines.{before_return, line_size, onto_line, script_line_count, script_lines}

abbrev ends : List ℕ → Bool
ends [] = true
ends (b ∷ bs) = false

-- a line without one byte 13 at its end, byte by byte
abbrev cut : List ℕ → List ℕ
cut [] = []
cut (b ∷ bs) = if ends bs && (b == 13) then [] else b ∷ cut bs

cut_drops : (n : ℕ) (xs : List ℕ) → length xs ≡ suc n → get_or xs n 0 ≡ 13 → take n xs ≡ cut xs
cut_drops n [] e h = absurd (omega arith)
cut_drops zero (b ∷ []) e h = rw h refl
cut_drops zero (b ∷ c ∷ cs) e h = absurd (omega arith)
cut_drops (suc n) (b ∷ []) e h = absurd (omega arith)
cut_drops (suc n) (b ∷ c ∷ cs) e h = ap (λ z. b ∷ z) (cut_drops n (c ∷ cs) (omega arith) h)

cut_stays : (n : ℕ) (xs : List ℕ) → length xs ≡ suc n → (get_or xs n 0 == 13) ≡ false → xs ≡ cut xs
cut_stays n [] e h = absurd (omega arith)
cut_stays zero (b ∷ []) e h = rw h refl
cut_stays zero (b ∷ c ∷ cs) e h = absurd (omega arith)
cut_stays (suc n) (b ∷ []) e h = absurd (omega arith)
cut_stays (suc n) (b ∷ c ∷ cs) e h = ap (λ z. b ∷ z) (cut_stays n (c ∷ cs) (omega arith) h)

cut_is : (xs : List ℕ) → before_return xs ≡ cut xs
cut_is [] = refl
cut_is (b ∷ bs) =
    let e : length (b ∷ bs) - 1 ≡ length bs = omega arith in
    let some : ltb 0 (suc (length bs)) ≡ true = lt-ltb 0 (suc (length bs)) (omega arith) in
    elim (eqb_tells (get_or (b ∷ bs) (length bs) 0) 13) [
      | inl is ↦ rw (e, is.0, some) (cut_drops (length bs) (b ∷ bs) refl is.1)
      | inr other ↦ rw (e, other.0, some) (cut_stays (length bs) (b ∷ bs) refl other.0)
    ]

ended_more : (b : ℕ) (bs next : List ℕ) (c : ℕ) → (b == 10) ≡ false → drop (line_size bs) bs ≡ c ∷ next
    → script_lines bs ≡ cut (take (line_size bs) bs) ∷ script_lines next
    → script_lines (b ∷ bs) ≡ cut (take (line_size (b ∷ bs)) (b ∷ bs)) ∷ script_lines next
ended_more b [] next c other e rest = absurd cc
ended_more b (d ∷ ds) next c other e rest =
    elim (eqb_tells d 10) [
      | inl is ↦ (let f = rw is.0 at e in
          let same : ds ≡ next = cc in
          elim (eqb_tells b 13) [
            | inl returns ↦ rw (other, is.0, returns.0, same) refl
            | inr stays ↦ rw (other, is.0, stays.0, same) refl
          ])
      | inr goes ↦ rw (other, goes.0) (rw goes.0 at (ap (onto_line b) rest))
    ]

lines_ended : (bytes next : List ℕ) (c : ℕ) → drop (line_size bytes) bytes ≡ c ∷ next
    → script_lines bytes ≡ cut (take (line_size bytes) bytes) ∷ script_lines next
lines_ended [] next c e = absurd cc
lines_ended (b ∷ bs) next c e =
    elim (eqb_tells b 10) [
      | inl is ↦ (let f = rw is.0 at e in
          let same : bs ≡ next = cc in
          rw (is.0, same) refl)
      | inr other ↦ (let f : drop (line_size bs) bs ≡ c ∷ next = rw other.0 at e in
          ended_more b bs next c other.0 f (lines_ended bs next c f))
    ]

open_more : (b : ℕ) (bs : List ℕ) → (b == 10) ≡ false → drop (line_size bs) bs ≡ []
    → (0 < length bs → drop (line_size bs) bs ≡ [] → script_lines bs ≡ bs ∷ []) → script_lines (b ∷ bs) ≡ (b ∷ bs) ∷ []
open_more b [] other e rest = rw other refl
open_more b (d ∷ ds) other e rest =
    elim (eqb_tells d 10) [
      | inl is ↦ (let f = rw is.0 at e in absurd cc)
      | inr goes ↦ rw (other, goes.0) (rw goes.0 at (ap (onto_line b) (rest (omega arith) e)))
    ]

lines_open : (bytes : List ℕ) → 0 < length bytes → drop (line_size bytes) bytes ≡ [] → script_lines bytes ≡ bytes ∷ []
lines_open [] some e = absurd (omega arith)
lines_open (b ∷ bs) some e =
    elim (eqb_tells b 10) [
      | inl is ↦ (let f = rw is.0 at e in absurd cc)
      | inr other ↦ open_more b bs other.0 (rw other.0 at e) (lines_open bs)
    ]

-- where no byte 10 follows, the first line is all
pub open_line : (bytes line end : List ℕ) (size : ℕ) → 0 < length bytes → size ≡ line_size bytes
    → line ≡ take size bytes → end ≡ drop size bytes → length end ≡ 0
    → script_lines bytes ≡ line ∷ script_lines end
open_line bytes line end size some is line_is end_is none =
    let nil : end ≡ [] = nil_from_length end none in
    let all : drop (line_size bytes) bytes ≡ [] = ap (λ (n : ℕ). drop n bytes) (sym is) ∙ sym end_is ∙ nil in
    let long : length bytes ≤ size = omega (arith, length-drop size bytes, ap (λ (z : List ℕ). length z) end_is) in
    let whole : line ≡ bytes = line_is ∙ take_all size bytes long in
    rw (nil, whole) (lines_open bytes some all)

-- where a byte 10 follows, it is what stands before it
pub ended_line : (bytes line end next : List ℕ) (size : ℕ) → size ≡ line_size bytes → line ≡ take size bytes
    → end ≡ drop size bytes → 0 < length end → next ≡ drop 1 end
    → script_lines bytes ≡ before_return line ∷ script_lines next
ended_line bytes line [] next size is line_is end_is some next_is = absurd (omega arith)
ended_line bytes line (c ∷ cs) next size is line_is end_is some next_is =
    let all : drop (line_size bytes) bytes ≡ c ∷ cs = ap (λ (n : ℕ). drop n bytes) (sym is) ∙ sym end_is in
    let first = lines_ended bytes cs c all in
    let here : cut line ≡ cut (take (line_size bytes) bytes) =
    ap (λ (z : List ℕ). cut z) (line_is ∙ ap (λ (n : ℕ). take n bytes) is) in
    rw (next_is, cut_is line, here) first

-- ---- how many lines there are

some_onto : (b : ℕ) (ls : List (List ℕ)) → 0 < length (onto_line b ls)
some_onto b [] = omega arith
some_onto b (l ∷ ls) = omega arith

length_onto : (b : ℕ) (ls : List (List ℕ)) → 0 < length ls → length (onto_line b ls) ≡ length ls
length_onto b [] some = absurd (omega arith)
length_onto b (l ∷ ls) some = refl

kept : (x : Bool) (b : ℕ) (ls : List (List ℕ)) → 0 < length ls → length (if x then ls else onto_line b ls) ≡ length ls
kept true b ls some = refl
kept false b ls some = length_onto b ls some

some_kept : (x : Bool) (b : ℕ) (ls : List (List ℕ)) → 0 < length ls → 0 < length (if x then ls else onto_line b ls)
some_kept x b ls some = omega (arith, kept x b ls some)

lines_some : (b : ℕ) (bs : List ℕ) → 0 < length (script_lines (b ∷ bs))
lines_some b [] =
    elim (eqb_tells b 10) [
      | inl is ↦ rw is.0 (omega arith)
      | inr other ↦ rw other.0 (omega arith)
    ]
lines_some b (d ∷ ds) =
    elim (eqb_tells b 10) [
      | inl is ↦ rw is.0 (omega arith)
      | inr other ↦ rw other.0 (some_kept ((d == 10) && (b == 13)) b (script_lines (d ∷ ds)) (lines_some d ds))
    ]

-- there are as many lines as are counted
pub lines_counted : (bytes : List ℕ) → length (script_lines bytes) ≡ script_line_count bytes
lines_counted [] = refl
lines_counted (b ∷ []) =
    elim (eqb_tells b 10) [
      | inl is ↦ rw is.0 refl
      | inr other ↦ rw other.0 refl
    ]
lines_counted (b ∷ d ∷ ds) =
    let rest = lines_counted (d ∷ ds) in
    elim (eqb_tells b 10) [
      | inl is ↦ (let one = rw is.0 at (sum_by-cons (λ (x : ℕ). if x == 10 then 1 else 0) b (d ∷ ds)) in
          rw is.0 (omega (arith, rest, one)))
      | inr other ↦ rw other.0 (kept ((d == 10) && (b == 13)) b (script_lines (d ∷ ds)) (lines_some d ds) ∙ rest)
    ]
