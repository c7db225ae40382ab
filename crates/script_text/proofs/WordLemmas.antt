-- The first word of a line.
use Rattle.std.proofs.Common.{◌≡◌, ℕ, ◌<◌, ◌≤◌, Bool, true, false, List, [], ◌∷◌, length, take, drop, refl, sym, ◌∙◌}
use Rattle.std.proofs.Common.{arith}
use Rattle.std.proofs.lemmas.List.{length-drop}
use Rattle.script_text.specs.Words.{is_blank, starts_blank, word_size, words_of}

size_zero : (bs : List ℕ) → starts_blank bs ≡ true → word_size bs ≡ 0
size_zero [] h = refl
size_zero (b ∷ bs) h = rw h refl

pub size_some : (bs : List ℕ) → starts_blank bs ≡ false → 0 < word_size bs
size_some [] h = absurd cc
size_some (b ∷ bs) h = rw h (omega arith)

first_at : (x : Bool) (b : ℕ) (bs : List ℕ) → is_blank b ≡ false → starts_blank bs ≡ x
    → (starts_blank bs ≡ false → words_of bs ≡ take (word_size bs) bs ∷ words_of (drop (word_size bs) bs))
    → words_of (b ∷ bs) ≡ take (word_size (b ∷ bs)) (b ∷ bs) ∷ words_of (drop (word_size (b ∷ bs)) (b ∷ bs))
first_at true b bs dark ends further = rw (dark, ends, size_zero bs ends) refl
first_at false b bs dark goes further = rw (dark, goes, further goes) refl

-- the first word goes up to the first space or tab
pub first_of_words : (bs : List ℕ) → starts_blank bs ≡ false
    → words_of bs ≡ take (word_size bs) bs ∷ words_of (drop (word_size bs) bs)
first_of_words [] h = absurd cc
first_of_words (b ∷ bs) h = first_at (starts_blank bs) b bs h refl (first_of_words bs)

pub first_word_of : (line dark front back : List ℕ) (size : ℕ) → words_of dark ≡ words_of line
    → length dark ≤ length line → starts_blank dark ≡ false → size ≡ word_size dark → size ≤ length dark
    → front ≡ take size dark → back ≡ drop size dark → (words_of line ≡ front ∷ words_of back)
    × (length back < length line)
first_word_of line dark front back size same short goes is fits front_is back_is =
    let some : 0 < size = omega (arith, is, size_some dark goes) in
    let first = rw (← is) at (first_of_words dark goes) in
    (sym same ∙ (rw (front_is, back_is) first), rw back_is (omega (arith, length-drop size dark)))
