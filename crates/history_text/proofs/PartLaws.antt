-- Each part of a history is read exactly as it is spelled.
use Rattle.std.proofs.Common.{◌≡◌, ℕ, ◌+◌, ◌≤◌, Bool, true, ◌&&◌, ◌==◌, List, [], ◌∷◌, ◌++◌, length, map, Option, Some, None, Ok, refl, sym, ap, subst, ◌∙◌, arith}
use Rattle.std.specs.Prelude.{codes, nat_le, nat_lt}
use Rattle.std.specs.Fmt.{decimal}
use Rattle.std.specs.List.{AllByRecursion, enumerate_from, join_with_byte}
use Rattle.std.proofs.lemmas.Bool.{eqb-true, eq-eqb, leb-true, le-leb}
use Rattle.std.proofs.lemmas.List.{length-append, length-map}
use Rattle.brep_tokens.specs.Laws.{FormsAreExact}
use Rattle.brep_tokens.specs.Written.{lines_text}
use Rattle.history_text.specs.HistoryText.{ArePairs, Ascend, IsPairOf, IsShort, is_pair_below, number_words, origin_lines, pair_words, section}
use Rattle.history_text.specs.LineForms.{is_above, last_of, origin_due, pair_due, pair_of_line, passing, removed_due}
use Rattle.history_text.specs.Reading.{Left, origins_at, pairs_at, removed_at}
use Rattle.history_text.proofs.FormLaws.{and_left, and_right, number_again, number_there, pair_again, pair_there, passing_again, passing_some}
use Rattle.history_text.proofs.LineCuts.{Lacks, Lacks-append, decimal_lacks, lacks_test, last_push, map_some}
use Rattle.history_text.proofs.LineLaws.{length-origin_lines}
use Rattle.history_text.proofs.SectionLaws.{AllFit, AreRows, rows, section_there}
use Rattle.history_text.proofs.Spans.{Spans, spans_section}

-- ---- lists that ascend

-- each is above the one before it, and the first above this one
abbrev Chain : {A : Type 0} → (A → A → Bool) → Option A → List A → Type 0
Chain below last [] = Unit {0}
Chain below last (x ∷ xs) = (is_above below last x ≡ true) × Chain below (Some x) xs

module _ {A : Type 0} (below : A → A → Bool) where
  chain_ascends : (x : A) (xs : List A) → Chain below (Some x) xs → Ascend below (x ∷ xs)
  chain_ascends x [] c = tt
  chain_ascends x (y ∷ ys) c = (c.0, chain_ascends y ys c.1)

  ascends : (xs : List A) → Chain below None xs → Ascend below xs
  ascends [] c = tt
  ascends (x ∷ xs) c = chain_ascends x xs c.1

  ascends_chain : (x : A) (xs : List A) → Ascend below (x ∷ xs) → Chain below (Some x) xs
  ascends_chain x [] c = tt
  ascends_chain x (y ∷ ys) c = (c.0, ascends_chain y ys c.1)

  chain : (xs : List A) → Ascend below xs → Chain below None xs
  chain [] c = tt
  chain (x ∷ xs) c = (refl, ascends_chain x xs c)

-- it has a fact, and is above the last
abbrev AboveFits : {A : Type 0} → (A → Type 0) → (A → A → Bool) → List A → A → Type 0
AboveFits P below said x = P x × (is_above below (last_of said) x ≡ true)

module _ {A : Type 0} (P : A → Type 0) (below : A → A → Bool) where
  fit_parts : (said xs : List A) → AllFit (AboveFits P below) said xs → AllByRecursion P xs × Chain below (last_of said) xs
  fit_parts said [] f = (tt, tt)
  fit_parts said (x ∷ xs) f =
      let more = fit_parts (said ++ x ∷ []) xs f.1 in
      ((f.0.0, more.0), (f.0.1, subst (λ (o : Option A). Chain below o xs) (last_push said x) more.1))

  parts_fit : (said xs : List A) → AllByRecursion P xs → Chain below (last_of said) xs → AllFit (AboveFits P below) said xs
  parts_fit said [] all c = tt
  parts_fit said (x ∷ xs) all c =
      ((all.0, c.0), parts_fit (said ++ x ∷ []) xs all.1 (subst (λ (o : Option A). Chain below o xs) (sym (last_push said x)) c.1))

rows_map : {A : Type 0} (words : A → List (List ℕ)) (said xs : List A) → rows (λ before x. words x) said xs ≡ map words xs
rows_map words said [] = refl
rows_map words said (x ∷ xs) = ap (λ z. words x ∷ z) (rows_map words (said ++ x ∷ []) xs)

-- so many lines under their count
section_is : {A : Type 0} (word : List ℕ) (xs : List A) (lines : List (List (List ℕ))) → length lines ≡ length xs
    → (word ∷ decimal (length xs) ∷ []) ∷ lines ≡ section word lines
section_is word xs lines count = ap (λ (k : ℕ). (word ∷ decimal k ∷ []) ∷ lines) (sym count)

-- ---- pairs

abbrev pairs_words : List (ℕ × ℕ) → ℕ × ℕ → List (List ℕ)
pairs_words before p = pair_words p

abbrev PairFits : ℕ → List (ℕ × ℕ) → ℕ × ℕ → Type 0
PairFits written said p = AboveFits (IsPairOf written) is_pair_below said p

abbrev pair_test : ℕ → List (ℕ × ℕ) → ℕ × ℕ → Bool
pair_test written said p = (nat_le 1 p.1 && nat_le p.1 written) && is_above is_pair_below (last_of said) p

pairs_lines : (word : List ℕ) (ps : List (ℕ × ℕ)) → (word ∷ decimal (length ps) ∷ []) ∷ rows pairs_words [] ps ≡ section word (map pair_words ps)
pairs_lines word ps =
    ap (λ (z : List (List (List ℕ))). (word ∷ decimal (length ps) ∷ []) ∷ z) (rows_map pair_words [] ps)
    ∙ section_is word ps (map pair_words ps) (length-map ps pair_words)

two_lack : (a b : ℕ) → IsShort a → IsShort b → Lacks 10 (decimal a ++ 32 ∷ decimal b)
two_lack a b one two = Lacks-append 10 (decimal a) (32 ∷ decimal b) (decimal_lacks 10 a (omega arith) one) (refl, decimal_lacks 10 b (omega arith) two)

test_parts : (written : ℕ) (said : List (ℕ × ℕ)) (p : ℕ × ℕ) → pair_test written said p ≡ true → (1 ≤ p.1) × (p.1 ≤ written) × (is_above is_pair_below (last_of said) p ≡ true)
test_parts written said p is =
    let range = and_left (nat_le 1 p.1 && nat_le p.1 written) (is_above is_pair_below (last_of said) p) is in (
      leb-true 1 p.1 (and_left (nat_le 1 p.1) (nat_le p.1 written) range),
      leb-true p.1 written (and_right (nat_le 1 p.1) (nat_le p.1 written) range),
      and_right (nat_le 1 p.1 && nat_le p.1 written) (is_above is_pair_below (last_of said) p) is,
    )

test_again : (written : ℕ) (said : List (ℕ × ℕ)) (p : ℕ × ℕ) → PairFits written said p → pair_test written said p ≡ true
test_again written said p fit = rw (le-leb 1 p.1 fit.0.1, le-leb p.1 written fit.0.2, fit.1) refl

module _ (forms : FormsAreExact) where
  pairs_are : (written : ℕ) → IsShort written → AreRows (pair_due written) pairs_words (PairFits written)
  pairs_are written small = record {
    there = λ said line p e. (
        let s = passing_some (pair_test written said) (pair_of_line line) p e in
        let l = pair_there forms line p s.0 in
        let t = test_parts written said p s.1 in
        (((l.0.0, t.0, t.1), t.2), l.1));
    again = λ said p fit. (
        let short : IsShort p.1 = omega (arith, fit.0.2, small) in
        ap (passing (pair_test written said)) (pair_again forms p.0 p.1 fit.0.0 short) ∙ passing_again (pair_test written said) p (test_again written said p fit));
    lacks = λ said p fit. two_lack p.0 p.1 fit.0.0 (omega (arith, fit.0.2, small));
  }

  pub pairs_there : (word : List ℕ) (written : ℕ) (old : Left) (ps : List (ℕ × ℕ)) (left : Left) → IsShort written → pairs_at word written old ≡ Ok (ps, left)
      → ArePairs written ps × (old.bytes ≡ lines_text (section word (map pair_words ps)) ++ left.bytes)
  pairs_there word written old ps left small e =
      let s = section_there (pair_due written) pairs_words (PairFits written) (pairs_are written small) forms word old ps left e in
      let f = fit_parts (IsPairOf written) is_pair_below [] ps s.1 in (
        record { each = f.0; ascend = ascends is_pair_below ps f.1; short = s.0 },
        s.2 ∙ ap (λ (z : List (List (List ℕ))). lines_text z ++ left.bytes) (pairs_lines word ps),
      )

  pub pairs_span : (word : List ℕ) (written : ℕ) (ps : List (ℕ × ℕ)) → Lacks 10 word → Lacks 32 word → IsShort written → ArePairs written ps
      → Spans (pairs_at word written) (section word (map pair_words ps)) ps
  pairs_span word written ps ten blank small are =
      subst (λ (z : List (List (List ℕ))). Spans (pairs_at word written) z ps) (pairs_lines word ps)
      (spans_section (pair_due written) pairs_words (PairFits written) (pairs_are written small) forms word ps ten blank are.short
      (parts_fit (IsPairOf written) is_pair_below [] ps are.each (chain is_pair_below ps are.ascend)))

  -- ---- removed numbers

  abbrev removed_words : List ℕ → ℕ → List (List ℕ)
  removed_words before n = number_words n

  removed_lines : (ns : List ℕ) → (codes "removed" ∷ decimal (length ns) ∷ []) ∷ rows removed_words [] ns ≡ section (codes "removed") (map number_words ns)
  removed_lines ns =
      ap (λ (z : List (List (List ℕ))). (codes "removed" ∷ decimal (length ns) ∷ []) ∷ z) (rows_map number_words [] ns)
      ∙ section_is (codes "removed") ns (map number_words ns) (length-map ns number_words)

  removed_are : AreRows removed_due removed_words (AboveFits IsShort nat_lt)
  removed_are = record {
    there = λ said line n e. (
        let s = passing_some (is_above nat_lt (last_of said)) _ n e in
        let is = number_there forms line n s.0 in
        ((is.small, s.1), is.spelled));
    again = λ said n fit. ap (passing (is_above nat_lt (last_of said))) (number_again forms n fit.0) ∙ passing_again (is_above nat_lt (last_of said)) n fit.1;
    lacks = λ said n fit. decimal_lacks 10 n (omega arith) fit.0;
  }

  pub removed_there : (old : Left) (ns : List ℕ) (left : Left) → removed_at old ≡ Ok (ns, left)
      → (AllByRecursion IsShort ns × Ascend nat_lt ns × IsShort (length ns)) × (old.bytes ≡ lines_text (section (codes "removed") (map number_words ns)) ++ left.bytes)
  removed_there old ns left e =
      let s = section_there removed_due removed_words (AboveFits IsShort nat_lt) removed_are forms (codes "removed") old ns left e in
      let f = fit_parts IsShort nat_lt [] ns s.1 in (
        (f.0, ascends nat_lt ns f.1, s.0),
        s.2 ∙ ap (λ (z : List (List (List ℕ))). lines_text z ++ left.bytes) (removed_lines ns),
      )

  pub removed_span : (ns : List ℕ) → AllByRecursion IsShort ns → Ascend nat_lt ns → IsShort (length ns) → Spans removed_at (section (codes "removed") (map number_words ns)) ns
  removed_span ns all ascend short =
      subst (λ (z : List (List (List ℕ))). Spans removed_at z ns) (removed_lines ns)
      (spans_section removed_due removed_words (AboveFits IsShort nat_lt) removed_are forms (codes "removed") ns
      (lacks_test 10 (codes "removed") refl) (lacks_test 32 (codes "removed") refl) short
      (parts_fit IsShort nat_lt [] ns all (chain nat_lt ns ascend)))

  -- ---- origins

  abbrev origin_words : List ℕ → ℕ → List (List ℕ)
  origin_words before o = pair_words (length before + 1, o)

  abbrev OriginFits : List ℕ → ℕ → Type 0
  OriginFits before o = IsShort (length before + 1) × IsShort o

  abbrev origin_test : List ℕ → ℕ × ℕ → Bool
  origin_test said p = p.0 == length said + 1

  origin_is : (said line : List ℕ) (p : ℕ × ℕ) (o : ℕ) → pair_of_line line ≡ Some p → origin_test said p ≡ true → p.1 ≡ o → OriginFits said o × (line ≡ join_with_byte 32 (origin_words said o))
  origin_is said line p o e is same =
      let l = pair_there forms line p e in
      let step : p.0 ≡ length said + 1 = eqb-true p.0 (length said + 1) is in
      ((subst IsShort step l.0.0, subst IsShort same l.0.1), l.1 ∙ ap (λ k. decimal k ++ 32 ∷ decimal p.1) step ∙ ap (λ k. decimal (length said + 1) ++ 32 ∷ decimal k) same)

  origins_are : AreRows origin_due origin_words OriginFits
  origins_are = record {
    there = λ said line o e. (
        let m = map_some (λ (p : ℕ × ℕ). p.1) (passing (origin_test said) (pair_of_line line)) o e in
        let s = passing_some (origin_test said) (pair_of_line line) m.0 m.1 in
        origin_is said line m.0 o s.0 s.1 m.2);
    again = λ said o fit. (
        let same : (length said + 1 == length said + 1) ≡ true = eq-eqb (length said + 1) (length said + 1) refl in
        rw (pair_again forms (length said + 1) o fit.0 fit.1, same) refl);
    lacks = λ said o fit. two_lack (length said + 1) o fit.0 fit.1;
  }

  origin_rows : (said os : List ℕ) → rows origin_words said os ≡ map pair_words (enumerate_from (length said + 1) os)
  origin_rows said [] = refl
  origin_rows said (o ∷ os) =
      let e : length (said ++ o ∷ []) + 1 ≡ length said + 1 + 1 = omega (arith, length-append said (o ∷ [])) in
      ap (λ z. origin_words said o ∷ z) (origin_rows (said ++ o ∷ []) os ∙ ap (λ k. map pair_words (enumerate_from k os)) e)

  origins_lines : (os : List ℕ) → (codes "records" ∷ decimal (length os) ∷ []) ∷ rows origin_words [] os ≡ section (codes "records") (origin_lines os)
  origins_lines os =
      ap (λ (z : List (List (List ℕ))). (codes "records" ∷ decimal (length os) ∷ []) ∷ z) (origin_rows [] os)
      ∙ section_is (codes "records") os (origin_lines os) (length-origin_lines os)

  origins_short : (said os : List ℕ) → AllFit OriginFits said os → AllByRecursion IsShort os
  origins_short said [] f = tt
  origins_short said (o ∷ os) f = (f.0.1, origins_short (said ++ o ∷ []) os f.1)

  origins_fit : (said os : List ℕ) → IsShort (length said + length os) → AllByRecursion IsShort os → AllFit OriginFits said os
  origins_fit said [] small all = tt
  origins_fit said (o ∷ os) small all =
      let more : IsShort (length (said ++ o ∷ []) + length os) = omega (arith, small, length-append said (o ∷ [])) in
      ((omega (arith, small), all.0), origins_fit (said ++ o ∷ []) os more all.1)

  pub origins_there : (old : Left) (os : List ℕ) (left : Left) → origins_at old ≡ Ok (os, left)
      → (AllByRecursion IsShort os × IsShort (length os)) × (old.bytes ≡ lines_text (section (codes "records") (origin_lines os)) ++ left.bytes)
  origins_there old os left e =
      let s = section_there origin_due origin_words OriginFits origins_are forms (codes "records") old os left e in (
        (origins_short [] os s.1, s.0),
        s.2 ∙ ap (λ (z : List (List (List ℕ))). lines_text z ++ left.bytes) (origins_lines os),
      )

  pub origins_span : (os : List ℕ) → AllByRecursion IsShort os → IsShort (length os) → Spans origins_at (section (codes "records") (origin_lines os)) os
  origins_span os all short =
      subst (λ (z : List (List (List ℕ))). Spans origins_at z os) (origins_lines os)
      (spans_section origin_due origin_words OriginFits origins_are forms (codes "records") os
      (lacks_test 10 (codes "records") refl) (lacks_test 32 (codes "records") refl) short
      (origins_fit [] os (omega (arith, short)) all))
