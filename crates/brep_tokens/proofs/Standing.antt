-- Each token's bytes stand in the text at its offset.
use Rattle.std.proofs.Common.{◌≡◌, ℕ, zero, suc, ◌+◌, ◌-◌, ◌≤◌, Bool, true, false, ◌&&◌, nat_eq, if◌then◌else◌, List}
use Rattle.std.proofs.Common.{[], ◌∷◌, ◌++◌, length, take, drop, Some, None, refl, sym, ap, subst, ◌∙◌, arith}
use Rattle.std.specs.List.{AllByRecursion, flat_map, list_all, starts_with}
use Rattle.std.proofs.lemmas.List.{drop-drop, drop-take, length-take-le, length-drop, take-take}
use Rattle.brep_tokens.specs.Bytes.{is_dark, is_line_end, is_white}
use Rattle.brep_tokens.specs.Laws.{StandsIn}
use Rattle.brep_tokens.specs.Tokens.{Head, Word, after_head, head_at, is_joined, is_line, line_says, line_size, missing}
use Rattle.brep_tokens.specs.Tokens.{onto, parts, runs_at, starts_white, tokens_of, unread, version, version_line}
use Rattle.brep_tokens.specs.Tokens.{version_mark, words_at}
use Rattle.brep_tokens.proofs.NumberForms.{and_left, and_right}
use Rattle.brep_tokens.proofs.Runs.{joined-long}

next_drop : (bytes : List ℕ) (k b : ℕ) (bs : List ℕ) → drop k bytes ≡ b ∷ bs → drop (k + 1) bytes ≡ bs
next_drop bytes k b bs e = sym (drop-drop 1 k bytes) ∙ ap (drop 1) e

white_not_dark : (b : ℕ) → is_white b ≡ false → is_dark b ≡ true
white_not_dark b h = rw h refl

-- ---- runs

abbrev FirstAt : ℕ → List Word → Type 0
FirstAt k [] = Unit {0}
FirstAt k (w ∷ ws) = w.offset ≡ k

onto_first : (k b : ℕ) (ws : List Word) → FirstAt k (onto k b ws)
onto_first k b [] = refl
onto_first k b (w ∷ ws) = refl

first_if : (x : Bool) (k : ℕ) (v ws : List Word) → FirstAt k v → FirstAt k ws → FirstAt k (if x then v else ws)
first_if true k v ws h g = h
first_if false k v ws h g = g

first_at : (k : ℕ) (bs : List ℕ) → starts_white bs ≡ false → FirstAt k (runs_at k bs)
first_at k [] h = tt
first_at k (b ∷ bs) h =
    let alone : List Word = record { offset = k; text = b ∷ [] } ∷ runs_at (k + 1) bs in
    rw h (first_if (starts_white bs) k alone (onto k b (runs_at (k + 1) bs)) refl (onto_first k b (runs_at (k + 1) bs)))

one_stands : (bytes : List ℕ) (k b : ℕ) (bs : List ℕ) → drop k bytes ≡ b ∷ bs → is_white b ≡ false
    → StandsIn bytes (record { offset = k; text = b ∷ [] })
one_stands bytes k b bs e dark = record { some = omega arith; dark = rw (white_not_dark b dark) refl; here = rw e refl }

onto_stands : (bytes : List ℕ) (k b : ℕ) (bs : List ℕ) (ws : List Word) → drop k bytes ≡ b ∷ bs → is_white b ≡ false
    → FirstAt (k + 1) ws → AllByRecursion (StandsIn bytes) ws → AllByRecursion (StandsIn bytes) (onto k b ws)
onto_stands bytes k b bs [] e dark first all = (one_stands bytes k b bs e dark, tt)
onto_stands bytes k b bs (w ∷ ws) e dark first all =
    let rest : drop w.offset bytes ≡ bs = ap (λ n. drop n bytes) first ∙ next_drop bytes k b bs e in
    let here : take (length w.text) bs ≡ w.text = ap (take (length w.text)) (sym rest) ∙ all.0.here in
    let dark_all : list_all is_dark (b ∷ w.text) ≡ true = rw (white_not_dark b dark, all.0.dark) refl in
    (record { some = omega arith; dark = dark_all; here = rw e (ap (λ z. b ∷ z) here) }, all.1)

runs_if : (bytes : List ℕ) (x y : Bool) (us vs ws : List Word)
    → (x ≡ true → AllByRecursion (StandsIn bytes) us) → (x ≡ false → y ≡ true → AllByRecursion (StandsIn bytes) vs)
    → (x ≡ false → y ≡ false → AllByRecursion (StandsIn bytes) ws)
    → AllByRecursion (StandsIn bytes) (if x then us else (if y then vs else ws))
runs_if bytes true y us vs ws h g f = h refl
runs_if bytes false true us vs ws h g f = g refl refl
runs_if bytes false false us vs ws h g f = f refl refl

runs_stand : (bytes bs : List ℕ) (k : ℕ) → drop k bytes ≡ bs → AllByRecursion (StandsIn bytes) (runs_at k bs)
runs_stand bytes [] k e = tt
runs_stand bytes (b ∷ bs) k e =
    let more = runs_stand bytes bs (k + 1) (next_drop bytes k b bs e) in
    runs_if bytes (is_white b) (starts_white bs) (runs_at (k + 1) bs)
    (record { offset = k; text = b ∷ [] } ∷ runs_at (k + 1) bs) (onto k b (runs_at (k + 1) bs))
    (λ white. more) (λ dark stops. (one_stands bytes k b bs e dark, more))
    (λ dark goes. onto_stands bytes k b bs (runs_at (k + 1) bs) e dark (first_at (k + 1) bs goes) more)

-- ---- tokens

list_all_take : (p : ℕ → Bool) (xs : List ℕ) (n : ℕ) → list_all p xs ≡ true → (list_all p (take n xs) ≡ true)
    × (list_all p (drop n xs) ≡ true)
list_all_take p [] zero all = (refl, refl)
list_all_take p [] (suc n) all = (refl, refl)
list_all_take p (x ∷ xs) zero all = (refl, all)
list_all_take p (x ∷ xs) (suc n) all =
    let more = list_all_take p xs n (and_right (p x) (list_all p xs) all) in
    (rw (and_left (p x) (list_all p xs) all, more.0) refl, more.1)

all_append : (bytes : List ℕ) (us vs : List Word) → AllByRecursion (StandsIn bytes) us
    → AllByRecursion (StandsIn bytes) vs → AllByRecursion (StandsIn bytes) (us ++ vs)
all_append bytes [] vs h g = g
all_append bytes (u ∷ us) vs h g = (h.0, all_append bytes us vs h.1 g)

front_stands : (bytes : List ℕ) (w : Word) → StandsIn bytes w → 3 ≤ length w.text
    → StandsIn bytes (record { offset = w.offset; text = take (length w.text - 2) w.text })
front_stands bytes w is long =
    let size : length (take (length w.text - 2) w.text) ≡ length w.text - 2 = length-take-le (length w.text - 2) w.text
    (omega arith) in
    record {
      some = omega (arith, size, long);
      dark = (list_all_take is_dark w.text (length w.text - 2) is.dark).0;
      here = ap (λ n. take n (drop w.offset bytes)) size
          ∙ sym (take-take (length w.text - 2) (length w.text) (drop w.offset bytes) (omega arith))
          ∙ ap (take (length w.text - 2)) is.here;
    }

back_stands : (bytes : List ℕ) (w : Word) → StandsIn bytes w → 3 ≤ length w.text
    → StandsIn bytes (record { offset = w.offset + (length w.text - 2); text = drop (length w.text - 2) w.text })
back_stands bytes w is long =
    let size : length (drop (length w.text - 2) w.text) ≡ 2 = length-drop (length w.text - 2) w.text
    ∙ omega (arith, long) in
    let whole : length w.text - 2 + 2 ≡ length w.text = omega (arith, long) in
    let cut : drop (length w.text - 2) (take (length w.text) (drop w.offset bytes)) ≡ take 2
    (drop (length w.text - 2) (drop w.offset bytes)) =
    subst (λ n. drop (length w.text - 2) (take n (drop w.offset bytes)) ≡ take 2
    (drop (length w.text - 2) (drop w.offset bytes))) whole
    (drop-take (length w.text - 2) 2 (drop w.offset bytes)) in
    record {
      some = omega (arith, size);
      dark = (list_all_take is_dark w.text (length w.text - 2) is.dark).1;
      here = ap (λ n. take n (drop (w.offset + (length w.text - 2)) bytes)) size
          ∙ ap (take 2) (sym (drop-drop (length w.text - 2) w.offset bytes)) ∙ sym cut
          ∙ ap (drop (length w.text - 2)) is.here;
    }

parts_if : (bytes : List ℕ) (x : Bool) (u v w : Word) → (x ≡ true → StandsIn bytes u × StandsIn bytes v)
    → StandsIn bytes w → AllByRecursion (StandsIn bytes) (if x then u ∷ v ∷ [] else w ∷ [])
parts_if bytes true u v w h g = ((h refl).0, ((h refl).1, tt))
parts_if bytes false u v w h g = (g, tt)

parts_stand : (bytes : List ℕ) (w : Word) → StandsIn bytes w → AllByRecursion (StandsIn bytes) (parts w)
unfolding parts
parts_stand bytes w is =
    parts_if bytes (is_joined w.text) (record { offset = w.offset; text = take (length w.text - 2) w.text })
    (record { offset = w.offset + (length w.text - 2); text = drop (length w.text - 2) w.text }) w
    (λ joined. (
      front_stands bytes w is (joined-long w.text joined),
      back_stands bytes w is (joined-long w.text joined),
    )) is

all_parts : (bytes : List ℕ) (ws : List Word) → AllByRecursion (StandsIn bytes) ws
    → AllByRecursion (StandsIn bytes) (flat_map parts ws)
all_parts bytes [] all = tt
all_parts bytes (w ∷ ws) all = all_append bytes (parts w) (flat_map parts ws) (parts_stand bytes w all.0)
    (all_parts bytes ws all.1)

-- ---- the text after the version line

abbrev LeavesRest : List ℕ → Head → Type 0
LeavesRest bytes missing = Unit {0}
LeavesRest bytes (unread line k) = Unit {0}
LeavesRest bytes (version v k rest) = drop k bytes ≡ rest

line_if : (bytes : List ℕ) (first second : Bool) (line k after : ℕ) (rest : List ℕ) → drop after bytes ≡ rest
    → LeavesRest bytes (if first then version 1 after rest else
    (if second then version 2 after rest else unread line k))
line_if bytes true second line k after rest e = e
line_if bytes false true line k after rest e = e
line_if bytes false false line k after rest e = tt

line_leaves : (bytes : List ℕ) (line k : ℕ) (bs : List ℕ) → drop k bytes ≡ bs → LeavesRest bytes (line_says line k bs)
unfolding line_says
line_leaves bytes line k bs e =
    let size : ℕ = line_size bs + 1 in
    line_if bytes (is_line (version_line 1) (take (line_size bs) bs))
    (is_line (version_line 2) (take (line_size bs) bs)) line k (k + (line_size bs + 1)) (drop (line_size bs + 1) bs)
    (sym (drop-drop (line_size bs + 1) k bytes) ∙ ap (drop (line_size bs + 1)) e)

if_leaves : (bytes : List ℕ) (x : Bool) (h g : Head) → LeavesRest bytes h → LeavesRest bytes g
    → LeavesRest bytes (if x then h else g)
if_leaves bytes true h g p q = p
if_leaves bytes false h g p q = q

head_leaves : (bytes bs : List ℕ) (start : Bool) (line k : ℕ) → drop k bytes ≡ bs
    → LeavesRest bytes (head_at start line k bs)
head_leaves bytes [] start line k e = tt
head_leaves bytes (b ∷ bs) start line k e =
    let next : ℕ = line + (if is_line_end b then 1 else 0) in
    if_leaves bytes (start && starts_with nat_eq (b ∷ bs) version_mark) (line_says line k (b ∷ bs))
    (head_at (is_line_end b) next (k + 1) bs)
    (line_leaves bytes line k (b ∷ bs) e) (head_leaves bytes bs (is_line_end b) next (k + 1) (next_drop bytes k b bs e))

abbrev Pair : Type 0
Pair = ℕ × List Word

pair_is : (p q : Pair) → Some p ≡ Some q → p ≡ q
pair_is p q e = cc

no_pair : (q : Pair) → None ≡ Some q → ⊥
no_pair q e = cc

head_stands : (bytes : List ℕ) (h : Head) (v : ℕ) (ws : List Word) → LeavesRest bytes h → after_head h ≡ Some (v, ws)
    → AllByRecursion (StandsIn bytes) ws
head_stands bytes missing v ws leaves e = absurd (no_pair (v, ws) e)
head_stands bytes (unread line k) v ws leaves e = absurd (no_pair (v, ws) e)
head_stands bytes (version u k rest) v ws leaves e =
    subst (AllByRecursion (StandsIn bytes)) (ap (λ (q : Pair). q.1) (pair_is (u, words_at k rest) (v, ws) e))
    (all_parts bytes (runs_at k rest) (runs_stand bytes rest k leaves))

pub tokens_stand : (bytes : List ℕ) (v : ℕ) (ws : List Word) → tokens_of bytes ≡ Some (v, ws)
    → AllByRecursion (StandsIn bytes) ws
unfolding tokens_of
tokens_stand bytes v ws e = head_stands bytes (head_at true 1 0 bytes) v ws (head_leaves bytes bytes true 1 0 refl) e
