-- Words that are joined by one space are the words of the line; and no line of these words is shorter.
use Rattle.std.proofs.Common.{◌≡◌, ℕ, ◌+◌, ◌<◌, ◌≤◌, Bool, true, false, ◌&&◌, List, [], ◌∷◌, ◌++◌, length, map, codes}
use Rattle.std.proofs.Common.{Option, Some, None, refl, sym, ap, ◌∙◌, append_assoc, arith}
use Rattle.std.specs.Fmt.{decimal}
use Rattle.std.specs.List.{AllByRecursion, join_with_byte, list_all}
use Rattle.std.proofs.lemmas.Bool.{ltb-true}
use Rattle.std.proofs.lemmas.Bool.Decides.{nat_tests}
use Rattle.std.proofs.lemmas.List.{append-nil, length-append}
use Rattle.brep_tokens.specs.Bytes.{is_dark, is_sign}
use Rattle.brep_tokens.specs.Written.{IsDarkWord, is_dark_word, IsPlain, WrittenIsRead}
use Rattle.orientation.specs.Kinds.{name_of}
use Rattle.orientation.specs.Turns.{sign_of}
use Rattle.orientation.specs.declared.kind.Kind.{Kind}
use Rattle.orientation.specs.declared.kind.Kind.TheVariants.{Ve, Ed, Wi, Fa, Sh, So, CS, Co}
use Rattle.orientation.specs.declared.turn.Turn.{Turn}
use Rattle.orientation.specs.declared.turn.Turn.TheVariants.{Forward, Reversed, Internal, External}
use Rattle.script_text.specs.Spelling.{spell_mention, spell_number, spelling}
use Rattle.script_text.specs.Words.{is_blank, onto_word, starts_blank, words_of}
use Rattle.script_text.specs.Writing.{after_spaces}
use Rattle.script_text.specs.declared.phrase.Mention.{Mention}
use Rattle.script_text.specs.declared.phrase.Phrase.{Phrase}
use Rattle.script_text.specs.declared.phrase.Phrase.TheVariants.{Replace, Remove, Merge, Sew, Apply, Undo, Until, Prune}
use Rattle.script_text.specs.declared.phrase.Phrase.TheVariants.{OutputFirst}

both_true : (a b : Bool) → (a && b) ≡ true → (a ≡ true) × (b ≡ true)
both_true true b h = (refl, h)
both_true false b h = absurd cc

dark_unblank : (b : ℕ) → is_dark b ≡ true → is_blank b ≡ false
dark_unblank b h = grind (arith, nat_tests)

-- ---- the words of a line

ends_here : (x : Bool) (b : ℕ) (bs : List ℕ) → starts_blank bs ≡ x → x ≡ true → is_blank b ≡ false
    → words_of (b ∷ bs) ≡ (b ∷ []) ∷ words_of bs
ends_here true b bs starts is dark = rw (dark, starts) refl
ends_here false b bs starts is dark = absurd cc

goes_on : (b : ℕ) (bs w : List ℕ) (ws : List (List ℕ)) → starts_blank bs ≡ false → is_blank b ≡ false
    → words_of bs ≡ w ∷ ws → words_of (b ∷ bs) ≡ (b ∷ w) ∷ ws
goes_on b bs w ws starts dark e = rw (dark, starts, e) refl

-- a word before a blank, or at the end
word_then : (w rest : List ℕ) → 0 < length w → list_all is_dark w ≡ true → starts_blank rest ≡ true
    → words_of (w ++ rest) ≡ w ∷ words_of rest
word_then [] rest some dark ends = absurd (omega (arith, some))
word_then (b ∷ []) rest some dark ends =
    ends_here true b rest ends refl (dark_unblank b (both_true (is_dark b) true dark).0)
word_then (b ∷ c ∷ w) rest some dark ends =
    let first = both_true (is_dark b) (list_all is_dark (c ∷ w)) dark in
    let second = both_true (is_dark c) (list_all is_dark w) first.1 in
    goes_on b (c ∷ w ++ rest) (c ∷ w) (words_of rest) (dark_unblank c second.0) (dark_unblank b first.0)
    (word_then (c ∷ w) rest (omega arith) first.1 ends)

dark_word : (w : List ℕ) → IsDarkWord w → (0 < length w) × (list_all is_dark w ≡ true)
dark_word w is = (let both = both_true _ (list_all is_dark w) is in (ltb-true 0 (length w) both.0, both.1))

pub words_back : (ws : List (List ℕ)) → AllByRecursion IsDarkWord ws → words_of (join_with_byte 32 ws) ≡ ws
words_back [] dark = refl
words_back (w ∷ []) dark =
    let is = dark_word w dark.0 in
    ap words_of (sym (append-nil w)) ∙ word_then w [] is.0 is.1 refl
words_back (w ∷ v ∷ ws) dark =
    let is = dark_word w dark.0 in
    word_then w (32 ∷ join_with_byte 32 (v ∷ ws)) is.0 is.1 refl ∙ ap (λ (z : List (List ℕ)). w ∷ z)
    (words_back (v ∷ ws) dark.1)

-- the first word, and each other one after a space
pub joined_is : (w : List ℕ) (ws : List (List ℕ)) → join_with_byte 32 (w ∷ ws) ≡ w ++ after_spaces ws
joined_is w [] = sym (append-nil w)
joined_is w (v ∷ ws) = ap (λ (z : List ℕ). w ++ 32 ∷ z) (joined_is v ws)

pub after_both : (xs ys : List (List ℕ)) → after_spaces (xs ++ ys) ≡ after_spaces xs ++ after_spaces ys
after_both [] ys = refl
after_both (x ∷ xs) ys = ap (λ (z : List ℕ). (32 ∷ x) ++ z) (after_both xs ys)
    ∙ sym (append_assoc (32 ∷ x) (after_spaces xs) (after_spaces ys))

pub joined_after : (old begun done verb : List ℕ) (ws vs : List (List ℕ)) → begun ≡ old ++ verb → ws ≡ vs
    → done ≡ begun ++ after_spaces ws → done ≡ old ++ join_with_byte 32 (verb ∷ vs)
joined_after old begun done verb ws vs begins same whole =
    whole ∙ ap (λ (z : List ℕ). z ++ after_spaces ws) begins ∙ append_assoc old verb (after_spaces ws)
    ∙ ap (λ (z : List (List ℕ)). old ++ (verb ++ after_spaces z)) same ∙ ap (λ (z : List ℕ). old ++ z)
    (sym (joined_is verb vs))

-- ---- the words of a phrase

plain_dark : (w : List ℕ) → IsPlain w → IsDarkWord w
plain_dark w is = (both_true (is_dark_word w) _ is).0

sign_is : (t : Turn) → is_sign (sign_of t) ≡ true
sign_is Forward = refl
sign_is Reversed = refl
sign_is Internal = refl
sign_is External = refl

name_dark : (k : Kind) → IsDarkWord (name_of k)
name_dark Ve = refl
name_dark Ed = refl
name_dark Wi = refl
name_dark Fa = refl
name_dark Sh = refl
name_dark So = refl
name_dark CS = refl
name_dark Co = refl

module _ (written : WrittenIsRead) where
  number_dark : (n : ℕ) → IsDarkWord (decimal n)
  number_dark n = plain_dark (decimal n) (written.numbers n)

  mention_by : (s : Option Turn) (n : ℕ) → IsDarkWord (spell_mention (record { sign = s; number = n }))
  mention_by None n = number_dark n
  mention_by (Some t) n = plain_dark (sign_of t ∷ decimal n) (written.use_signs (sign_of t) n (sign_is t))

  mention_dark : (m : Mention) → IsDarkWord (spell_mention m)
  mention_dark m = mention_by m.sign m.number

  mentions_dark : (ms : List Mention) → AllByRecursion IsDarkWord (map spell_mention ms)
  mentions_dark [] = tt
  mentions_dark (m ∷ ms) = (mention_dark m, mentions_dark ms)

  number_then : (word : List ℕ) (o : Option ℕ) (rest : List (List ℕ)) → IsDarkWord word → AllByRecursion IsDarkWord rest
      → AllByRecursion IsDarkWord (spell_number word o ++ rest)
  number_then word None rest is further = further
  number_then word (Some n) rest is further = (is, (number_dark n, further))

  number_alone : (word : List ℕ) (o : Option ℕ) → IsDarkWord word → AllByRecursion IsDarkWord (spell_number word o)
  number_alone word None is = tt
  number_alone word (Some n) is = (is, (number_dark n, tt))

  pub spelling_dark : (p : Phrase) → AllByRecursion IsDarkWord (spelling p)
  spelling_dark (Replace s place t l) = (
    refl,
    (
      mention_dark s,
      number_then (codes "at") place (codes "by" ∷ spell_mention t ∷ spell_number (codes "loc") l) refl
          (refl, (mention_dark t, number_alone (codes "loc") l refl)),
    ),
  )
  spelling_dark (Remove s place) = (refl, (mention_dark s, number_alone (codes "at") place refl))
  spelling_dark (Merge ms) = (refl, mentions_dark ms)
  spelling_dark (Sew ms) = (refl, mentions_dark ms)
  spelling_dark Apply = (refl, tt)
  spelling_dark Undo = (refl, tt)
  spelling_dark (Until kind) = (refl, (name_dark kind, tt))
  spelling_dark Prune = (refl, tt)
  spelling_dark OutputFirst = (refl, (refl, (refl, tt)))

  pub spelling_back : (p : Phrase) → words_of (join_with_byte 32 (spelling p)) ≡ spelling p
  spelling_back p = words_back (spelling p) (spelling_dark p)

-- ---- sizes

-- the bytes of words, and one more for each word
abbrev pub size_of : List (List ℕ) → ℕ
size_of [] = 0
size_of (w ∷ ws) = length w + 1 + size_of ws

pub joined_size : (ws : List (List ℕ)) → 0 < length ws → length (join_with_byte 32 ws) + 1 ≡ size_of ws
joined_size [] some = absurd (omega (arith, some))
joined_size (w ∷ []) some = omega arith
joined_size (w ∷ v ∷ ws) some =
    let rest = joined_size (v ∷ ws) (omega arith) in
    let all = length-append w (32 ∷ join_with_byte 32 (v ∷ ws)) in
    omega (arith, rest, all)

onto_size : (b : ℕ) (ws : List (List ℕ)) (n : ℕ) → size_of ws ≤ n + 1 → size_of (onto_word b ws) ≤ n + 2
onto_size b [] n fits = omega arith
onto_size b (w ∷ ws) n fits = omega (arith, fits)

record Fits (line : List ℕ) : Type 0 where
  all : size_of (words_of line) ≤ length line + 1
  ended : starts_blank line ≡ true → size_of (words_of line) ≤ length line

fits_at : (x y : Bool) (b : ℕ) (bs : List ℕ) → is_blank b ≡ x → starts_blank bs ≡ y → Fits bs → Fits (b ∷ bs)
fits_at true y b bs blank starts fits =
    let same : words_of (b ∷ bs) ≡ words_of bs = rw blank refl in
    let less = fits.all in
    record { all = rw same (omega (arith, less)); ended = λ h. rw same (omega (arith, less)) }
fits_at false true b bs blank starts fits =
    let same : words_of (b ∷ bs) ≡ (b ∷ []) ∷ words_of bs = rw (blank, starts) refl in
    let less = fits.ended starts in
    record { all = rw same (omega (arith, less)); ended = λ h. absurd cc }
fits_at false false b bs blank starts fits =
    let same : words_of (b ∷ bs) ≡ onto_word b (words_of bs) = rw (blank, starts) refl in
    let less = onto_size b (words_of bs) (length bs) fits.all in
    record { all = rw same (omega (arith, less)); ended = λ h. absurd cc }

fits : (line : List ℕ) → Fits line
fits [] = record { all = omega arith; ended = λ h. omega arith }
fits (b ∷ bs) = fits_at (is_blank b) (starts_blank bs) b bs refl refl (fits bs)

pub line_size_fits : (line : List ℕ) → size_of (words_of line) ≤ length line + 1
line_size_fits line = (fits line).all
