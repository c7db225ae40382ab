-- Each form of tokens is read exactly as it is spelled.
use Rattle.std.proofs.Common.{◌≡◌, ℕ, zero, suc, Bool, List, [], ◌∷◌, ◌++◌, length, Option, Some, None, Ok, refl, sym}
use Rattle.std.proofs.Common.{ap, subst, ◌∙◌, append_assoc, append-nil, ◌≤◌, ◌&&◌, nat_le, nat_eq, arith}
use Rattle.std.proofs.lemmas.Bool.Decides.{nat_tests}
use Rattle.std.specs.List.{AllByRecursion}
use Rattle.std.specs.Fmt.{decimal}
use Rattle.std.specs.Cmp.Lexicographic.{pointwise}
use Rattle.std.proofs.lemmas.Bool.{le-leb}
use Rattle.std.proofs.lemmas.Slice.Eq.{bytes_eq-Decides}
use Rattle.brep_tokens.specs.Forms.{flag_of, flag_text, is_decimal, number_of}
use Rattle.brep_tokens.specs.Laws.{FormsAreExact}
use Rattle.lists.specs.Results.{◌>>=◌}
use Rattle.entry_readers.specs.Reading.{fault, at_token, refused, spelled, word_at, decimal_at, number_at, flag_at}
use Rattle.entry_readers.specs.Reading.{in_range, ranged_at, decimals_from, numbers_from, Knots, with_knot, knots_from}
use Rattle.entry_readers.specs.Begins.{Begins, IsDecimal, AreDecimals, IsSmall, IsRanged, AreRanged, zipped}
use Rattle.entry_readers.specs.Begins.{spell_numbers, spell_knots, AreKnots, FieldsAreExact}
use Rattle.brep_tokens.specs.declared.text.Token.{Token}
use Rattle.brep_tokens.specs.declared.fault.ReadCode.{ReadCode}
use Rattle.brep_tokens.specs.declared.fault.ReadCode.TheVariants as codes
use Rattle.lists.proofs.Results.{bind_ok, guard_ok, ok_is}
use Rattle.entry_readers.proofs.Joins.{Begins-split, Begins-then}

word_takes : (word : List ℕ) (ts rest : List Token) (x : Unit {0}) → word_at word ts ≡ Ok (x, rest)
    → Begins ts (word ∷ []) rest
word_takes word [] rest x e = absurd cc
word_takes word (t ∷ ts) rest x e =
    let g = guard_ok (pointwise nat_eq t.text word) (refused codes.WordExpected t) (tt, ts) (x, rest) e in
    ((bytes_eq-Decides t.text word).0 g.0, ap (λ (p : Unit {0} × List Token). p.1) g.1)

word_again : (word : List ℕ) (ts rest : List Token) → Begins ts (word ∷ []) rest → word_at word ts ≡ Ok (tt, rest)
word_again word [] rest b = absurd b
word_again word (t ∷ ts) rest b = rw (b.0, (bytes_eq-Decides word word).1 refl, b.1) refl

texts_takes : (ts rest : List Token) (x : List ℕ) → decimal_at ts ≡ Ok (x, rest) → Begins ts (x ∷ []) rest × IsDecimal x
texts_takes [] rest x e = absurd cc
texts_takes (t ∷ ts) rest x e =
    let g = guard_ok (is_decimal t.text) (refused codes.DecimalExpected t) (t.text, ts) (x, rest) e in (
      (ap (λ (p : List ℕ × List Token). p.0) g.1, ap (λ (p : List ℕ × List Token). p.1) g.1),
      subst IsDecimal (ap (λ (p : List ℕ × List Token). p.0) g.1) g.0,
    )

texts_again : (ts rest : List Token) (x : List ℕ) → Begins ts (x ∷ []) rest → IsDecimal x → decimal_at ts ≡ Ok (x, rest)
texts_again [] rest x b is = absurd b
texts_again (t ∷ ts) rest x b is = rw (b.0, is, b.1) refl

spelled_ok : {A : Type 0} (code : ReadCode) (t : Token) (ts rest : List Token) (o : Option A) (x : A)
    → spelled code t ts o ≡ Ok (x, rest) → (o ≡ Some x) × (ts ≡ rest)
spelled_ok code t ts rest (Some y) x e =
    let p = ok_is (y, ts) (x, rest) e in
    (ap (λ q. Some q.0) p, ap (λ q. q.1) p)
spelled_ok code t ts rest None x e = absurd cc

module _ (forms : FormsAreExact) where
  number_takes : (ts rest : List Token) (n : ℕ) → number_at ts ≡ Ok (n, rest)
      → Begins ts (decimal n ∷ []) rest × IsSmall n
  number_takes [] rest n e = absurd cc
  number_takes (t ∷ ts) rest n e =
      let s = spelled_ok codes.NumberExpected t ts rest (number_of t.text) n e in
      let is = (forms.numbers t.text n).0 s.0 in
      ((is.spelled, s.1), is.small)

  number_again : (ts rest : List Token) (n : ℕ) → Begins ts (decimal n ∷ []) rest → IsSmall n
      → number_at ts ≡ Ok (n, rest)
  number_again [] rest n b is = absurd b
  number_again (t ∷ ts) rest n b is =
      rw (b.0, (forms.numbers (decimal n) n).1 (record { small = is; spelled = refl }), b.1) refl

  flag_takes : (ts rest : List Token) (b : Bool) → flag_at ts ≡ Ok (b, rest) → Begins ts (flag_text b ∷ []) rest
  flag_takes [] rest b e = absurd cc
  flag_takes (t ∷ ts) rest b e =
      let s = spelled_ok codes.FlagExpected t ts rest (flag_of t.text) b e in
      ((forms.flags t.text b).0 s.0, s.1)

  flag_again : (ts rest : List Token) (b : Bool) → Begins ts (flag_text b ∷ []) rest → flag_at ts ≡ Ok (b, rest)
  flag_again [] rest b g = absurd g
  flag_again (t ∷ ts) rest b g = rw ((forms.flags t.text b).1 g.0, g.1) refl

  ranged_takes_one : (low high n : ℕ) (t : Token) (ts : List Token) (m : ℕ × List Token)
      → in_range low high t (n, ts) ≡ Ok m → ((n, ts) ≡ m) × (low ≤ n) × (n ≤ high)
  ranged_takes_one low high n t ts m e =
      let g = guard_ok (nat_le low n && nat_le n high) (fault (at_token codes.IndexOutOfRange n high t)) (n, ts) m e in
      (g.1, grind (arith, nat_tests, g.0), grind (arith, nat_tests, g.0))

  ranged_takes : (low high : ℕ) (ts rest : List Token) (n : ℕ) → ranged_at low high ts ≡ Ok (n, rest)
      → Begins ts (decimal n ∷ []) rest × IsRanged low high n
  ranged_takes low high [] rest n e = absurd cc
  ranged_takes low high (t ∷ ts) rest n e =
      let b = bind_ok (number_at (t ∷ ts)) (in_range low high t) (n, rest) e in
      let i = ranged_takes_one low high b.0.0 t b.0.1 (n, rest) b.2 in
      let one = number_takes (t ∷ ts) rest n (subst (λ (p : ℕ × List Token). number_at (t ∷ ts) ≡ Ok p) i.0 b.1) in
      let same : b.0.0 ≡ n = ap (λ (p : ℕ × List Token). p.0) i.0 in
      (one.0, record { small = one.1; from = subst (λ m. low ≤ m) same i.1; to = subst (λ m. m ≤ high) same i.2 })

  ranged_again : (low high : ℕ) (ts rest : List Token) (n : ℕ) → Begins ts (decimal n ∷ []) rest → IsRanged low high n
      → ranged_at low high ts ≡ Ok (n, rest)
  ranged_again low high [] rest n b is = absurd b
  ranged_again low high (t ∷ ts) rest n b is =
      let one = number_again (t ∷ ts) rest n b is.small in
      rw (one, le-leb low n is.from, le-leb n high is.to) refl

  numbers_takes : (low high n : ℕ) (numbers : List ℕ) (ts rest : List Token) (xs : List ℕ)
      → numbers_from low high numbers n ts ≡ Ok (xs, rest)
      → (new : List ℕ) × (xs ≡ numbers ++ new) × Begins ts (spell_numbers new) rest × AreRanged low high n new
  numbers_takes low high zero numbers ts rest xs e =
      let p = ok_is (numbers, ts) (xs, rest) e in
      ([], sym (ap (λ q. q.0) p) ∙ sym (append-nil numbers), ap (λ q. q.1) p, (refl, tt))
  numbers_takes low high (suc n) numbers ts rest xs e =
      let b = bind_ok (ranged_at low high ts) (λ d. numbers_from low high (numbers ++ d.0 ∷ []) n d.1) (xs, rest) e in
      let one = ranged_takes low high ts b.0.1 b.0.0 b.1 in
      let more = numbers_takes low high n (numbers ++ b.0.0 ∷ []) b.0.1 rest xs b.2 in (
        b.0.0 ∷ more.0,
        more.1 ∙ append_assoc numbers (b.0.0 ∷ []) more.0,
        Begins-then ts (decimal b.0.0 ∷ []) b.0.1
            (spell_numbers more.0) rest one.0 more.2,
        (ap suc more.3.0, (one.1, more.3.1)),
      )

  numbers_again : (low high : ℕ) (numbers : List ℕ) (ts rest : List Token) (new : List ℕ)
      → Begins ts (spell_numbers new) rest → AllByRecursion (IsRanged low high) new
      → numbers_from low high numbers (length new) ts ≡ Ok (numbers ++ new, rest)
  numbers_again low high numbers ts rest [] b all = rw (b, append-nil numbers) refl
  numbers_again low high numbers [] rest (x ∷ new) b all = absurd b
  numbers_again low high numbers (t ∷ ts) rest (x ∷ new) b all =
      let one : ranged_at low high (t ∷ ts) ≡ Ok (x, ts) = ranged_again low high (t ∷ ts) ts x (b.0, refl) all.0 in
      rw (one, numbers_again low high (numbers ++ x ∷ []) ts rest new b.1 all.1, append_assoc numbers (x ∷ []) new) refl

  pub decimals_takes : (n : ℕ) (texts : List (List ℕ)) (ts rest : List Token) (xs : List (List ℕ))
      → decimals_from texts n ts ≡ Ok (xs, rest)
      → (new : List (List ℕ)) × (xs ≡ texts ++ new) × Begins ts new rest × AreDecimals n new
  decimals_takes zero texts ts rest xs e =
      let p = ok_is (texts, ts) (xs, rest) e in
      ([], sym (ap (λ q. q.0) p) ∙ sym (append-nil texts), ap (λ q. q.1) p, (refl, tt))
  decimals_takes (suc n) texts ts rest xs e =
      let b = bind_ok (decimal_at ts) (λ d. decimals_from (texts ++ d.0 ∷ []) n d.1) (xs, rest) e in
      let one = texts_takes ts b.0.1 b.0.0 b.1 in
      let more = decimals_takes n (texts ++ b.0.0 ∷ []) b.0.1 rest xs b.2 in (
        b.0.0 ∷ more.0,
        more.1 ∙ append_assoc texts (b.0.0 ∷ []) more.0,
        Begins-then ts (b.0.0 ∷ []) b.0.1 more.0 rest one.0 more.2,
        (ap suc more.3.0, (one.1, more.3.1)),
      )

  pub decimals_again : (texts : List (List ℕ)) (ts rest : List Token) (new : List (List ℕ)) → Begins ts new rest
      → AllByRecursion IsDecimal new → decimals_from texts (length new) ts ≡ Ok (texts ++ new, rest)
  decimals_again texts ts rest [] b all = rw (b, append-nil texts) refl
  decimals_again texts [] rest (x ∷ new) b all = absurd b
  decimals_again texts (t ∷ ts) rest (x ∷ new) b all =
      let one : decimal_at (t ∷ ts) ≡ Ok (x, ts) = texts_again (t ∷ ts) ts x (b.0, refl) all.0 in
      rw (one, decimals_again (texts ++ x ∷ []) ts rest new b.1 all.1, append_assoc texts (x ∷ []) new) refl

  knots_takes : (n : ℕ) (k : Knots) (ts rest : List Token) (x : Knots) → knots_from k n ts ≡ Ok (x, rest)
      → (new : Knots) × (x ≡ record { texts = k.texts ++ new.texts; counts = k.counts ++ new.counts })
      × Begins ts (spell_knots new) rest × AreKnots n new
  knots_takes zero k ts rest x e =
      let p = ok_is (k, ts) (x, rest) e in (
        record { texts = []; counts = [] },
        sym (ap (λ q. q.0) p) ∙ rw (append-nil k.texts, append-nil k.counts) refl,
        ap (λ q. q.1) p,
        record { texts = (refl, tt); counts = (refl, tt) },
      )
  knots_takes (suc n) k ts rest x e =
      let d = bind_ok (decimal_at ts) (λ d. number_at d.1 >>= λ c. knots_from (with_knot k d.0 c.0) n c.1)
      (x, rest) e in
      let c = bind_ok (number_at d.0.1) (λ c. knots_from (with_knot k d.0.0 c.0) n c.1) (x, rest) d.2 in
      let one = texts_takes ts d.0.1 d.0.0 d.1 in
      let two = number_takes d.0.1 c.0.1 c.0.0 c.1 in
      let more = knots_takes n (with_knot k d.0.0 c.0.0) c.0.1 rest x c.2 in (
        record { texts = d.0.0 ∷ more.0.texts; counts = c.0.0 ∷ more.0.counts },
        more.1 ∙ rw (
          append_assoc k.texts (d.0.0 ∷ []) more.0.texts,
          append_assoc k.counts (c.0.0 ∷ []) more.0.counts,
        ) refl,
        Begins-then ts (d.0.0 ∷ []) d.0.1 (decimal c.0.0 ∷ spell_knots more.0) rest one.0
            (Begins-then d.0.1 (decimal c.0.0 ∷ []) c.0.1 (spell_knots more.0) rest two.0 more.2),
        record {
          texts = (ap suc more.3.texts.0, (one.1, more.3.texts.1));
          counts =
              (ap suc more.3.counts.0, (two.1, more.3.counts.1));
        },
      )

  knots_again : (n : ℕ) (k : Knots) (ts rest : List Token) (xs : List (List ℕ)) (ns : List ℕ)
      → Begins ts (zipped xs ns) rest → AreKnots n (record { texts = xs; counts = ns })
      → knots_from k n ts ≡ Ok (record { texts = k.texts ++ xs; counts = k.counts ++ ns }, rest)
  knots_again n k ts rest [] [] b are = rw (← are.texts.0, b, append-nil k.texts, append-nil k.counts) refl
  knots_again n k ts rest [] (m ∷ ns) b are = absurd (omega (arith, are.texts.0, are.counts.0))
  knots_again n k ts rest (x ∷ xs) [] b are = absurd (omega (arith, are.texts.0, are.counts.0))
  knots_again zero k ts rest (x ∷ xs) (m ∷ ns) b are = absurd (omega (arith, are.texts.0))
  knots_again (suc n) k [] rest (x ∷ xs) (m ∷ ns) b are = absurd b
  knots_again (suc n) k (t ∷ []) rest (x ∷ xs) (m ∷ ns) b are = absurd b.1
  knots_again (suc n) k (t ∷ u ∷ ts) rest (x ∷ xs) (m ∷ ns) b are =
      let one : decimal_at (t ∷ u ∷ ts) ≡ Ok (x, u ∷ ts) =
      texts_again (t ∷ u ∷ ts) (u ∷ ts) x (b.0, refl) are.texts.1.0 in
      let two : number_at (u ∷ ts) ≡ Ok (m, ts) = number_again (u ∷ ts) ts m (b.1.0, refl) are.counts.1.0 in
      let more = knots_again n (with_knot k x m) ts rest xs ns b.1.1
      (record {
        texts = (omega (arith, are.texts.0), are.texts.1.1);
        counts =
            (omega (arith, are.counts.0), are.counts.1.1);
      }) in
      rw (one, two, more, append_assoc k.texts (x ∷ []) xs, append_assoc k.counts (m ∷ []) ns) refl

  pub fields_are_exact : FieldsAreExact
  fields_are_exact = record {
    joined = Begins-then;
    split = Begins-split;
    word = λ text. record {
      takes = λ ts rest x e. (word_takes text ts rest x e, tt);
      again =
          λ ts rest x b _. word_again text ts rest b;
    };
    texts = record { takes = texts_takes; again = texts_again };
    number = record { takes = number_takes; again = number_again };
    flag = record {
      takes = λ ts rest b e. (flag_takes ts rest b e, tt);
      again =
          λ ts rest b g _. flag_again ts rest b g;
    };
    decimals = λ n. record {
      takes = λ ts rest xs e. (let d = decimals_takes n [] ts rest xs e in rw d.1 (d.2, d.3));
      again = λ ts rest xs b are. rw (← are.0) (decimals_again [] ts rest xs b are.1);
    };
    ranged = λ low high. record { takes = ranged_takes low high; again = ranged_again low high };
    numbers = λ low high n. record {
      takes = λ ts rest xs e. (let d = numbers_takes low high n [] ts rest xs e in rw d.1 (d.2, d.3));
      again = λ ts rest xs b are. rw (← are.0) (numbers_again low high [] ts rest xs b are.1);
    };
    knots = λ n. record {
      takes = λ ts rest x e. (let d = knots_takes n (record { texts = []; counts = [] }) ts rest x e in
          rw d.1 (d.2, d.3));
      again = λ ts rest x b are. knots_again n (record { texts = []; counts = [] }) ts rest x.texts x.counts b are;
    };
  }
