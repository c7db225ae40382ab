-- A location is read exactly as it is spelled.
use Rattle.std.proofs.Common.{◌≡◌, ℕ, ℤ, ◌<◌, ◌≤◌, ◌==◌, ◌||◌, ◌⊎◌, inl, inr, true, false, if◌then◌else◌, List, [], ◌∷◌}
use Rattle.std.proofs.Common.{◌++◌, length, Option, Some, None, Ok, Err, refl, sym, ap, subst, ◌∙◌, append_assoc}
use Rattle.std.proofs.Common.{append-nil, arith}
use Rattle.std.specs.Prelude.{nat_abs, ◌^◌}
use Rattle.std.specs.List.{AllByRecursion}
use Rattle.std.specs.Fmt.{decimal, signed_decimal}
use Rattle.std.proofs.lemmas.Bool.Decides.{nat_tests}
use Rattle.brep_tokens.specs.Forms.{power_of}
use Rattle.brep_tokens.specs.Laws.{FormsAreExact}
use Rattle.brep_tokens.specs.Written.{IsPlain, WrittenIsRead}
use Rattle.location_table.specs.Laws.{LocationsAreExact}
use Rattle.brep_tokens.specs.declared.text.Token.{Token}
use Rattle.brep_tokens.specs.declared.fault.ReadCode.{ReadCode}
use Rattle.brep_tokens.specs.declared.fault.ReadCode.TheVariants as codes
use Rattle.entry_readers.specs.Reading.{fault, at_token, spelled, decimals_at, number_at, ranged_at}
use Rattle.entry_readers.specs.Begins.{Begins, AreDecimals, IsDecimal, FieldsAreExact}
use Rattle.lists.proofs.Results.{bind_ok, guard_ok, ok_is}
use Rattle.location_words.specs.declared.pair.Pair.{Pair}
use Rattle.lists.proofs.Cases.{by_test}
use Rattle.location_table.specs.declared.entry.Factor.{Factor}
use Rattle.location_table.specs.declared.entry.LocationEntry.{LocationEntry}
use Rattle.location_table.specs.declared.entry.LocationEntry.TheVariants.{Datum, Product}
use Rattle.location_table.specs.Words.{at_place, word_of_factors, words_of}
use Rattle.location_table.specs.Limits.{Passed, passed, AreWithin}
use Rattle.location_table.specs.Locations.{code_at, datum_at, factor, factors_from, location_at, power_at, power_from}
use Rattle.location_table.specs.Locations.{product_at, signed_at, spell_location, unless_passed, HasForm}
use Rattle.location_table.specs.Locations.{IsSoundLocation}
use Rattle.location_table.specs.Spell.{spell_factors}
use Rattle.location_table.proofs.LimitLaws.{none_passed, passed_none, PassesNone}
use Rattle.location_table.proofs.Places.{word_push}

spelled_ok : {A : Type 0} (code : ReadCode) (t : Token) (ts rest : List Token) (o : Option A) (x : A)
    → spelled code t ts o ≡ Ok (x, rest) → (o ≡ Some x) × (ts ≡ rest)
spelled_ok code t ts rest (Some y) x e =
    let p = ok_is (y, ts) (x, rest) e in
    (ap (λ q. Some q.0) p, ap (λ q. q.1) p)
spelled_ok code t ts rest None x e = absurd cc

unless_ok : (t : Token) (p : ℤ × List Token) (o : Option Passed) (q : ℤ × List Token) → unless_passed t p o ≡ Ok q
    → (o ≡ None) × (p ≡ q)
unless_ok t p None q e = (refl, ok_is p q e)
unless_ok t p (Some l) q e = absurd cc

one_or_two : (n : ℕ) → ((n == 1) || (n == 2)) ≡ true → (n ≡ 1) ⊎ (n ≡ 2)
one_or_two n e = by_test (n == 1) (λ h. inl (grind (arith, nat_tests, h))) (λ h. inr (grind (arith, nat_tests, h, e)))

not_none : (n : ℕ) → 1 ≤ n → (n == 0) ≡ false
not_none n h = grind (arith, nat_tests, h)

module _ (forms : FormsAreExact) (fields : FieldsAreExact) where
  -- ---- a power
  signed_takes : (ts rest : List Token) (p : ℤ) → signed_at ts ≡ Ok (p, rest) → Begins ts (signed_decimal p ∷ []) rest
      × (nat_abs p < 10 ^ 18)
  signed_takes [] rest p e = absurd cc
  signed_takes (t ∷ ts) rest p e =
      let s = spelled_ok codes.NumberExpected t ts rest (power_of t.text) p e in
      let is = (forms.powers t.text p).0 s.0 in
      ((is.spelled, s.1), is.small)

  signed_again : (t : Token) (ts : List Token) (p : ℤ) → t.text ≡ signed_decimal p → nat_abs p < 10 ^ 18
      → signed_at (t ∷ ts) ≡ Ok (p, ts)
  signed_again t ts p b small =
      rw (b, (forms.powers (signed_decimal p) p).1 (record { small = small; spelled = refl })) refl

  power_takes : (w v : List Pair) (t : Token) (ts rest : List Token) (p : ℤ) → power_at w v (t ∷ ts) ≡ Ok (p, rest)
      → (t.text ≡ signed_decimal p) × (ts ≡ rest) × (nat_abs p < 10 ^ 18) × PassesNone w v p
  power_takes w v t ts rest p e =
      let b = bind_ok (signed_at (t ∷ ts)) (λ p. unless_passed t p (passed w v p.0)) (p, rest) e in
      let u = unless_ok t b.0 (passed w v b.0.0) (p, rest) b.2 in
      let same : b.0.0 ≡ p = ap (λ (q : ℤ × List Token). q.0) u.1 in
      let one = signed_takes (t ∷ ts) rest p (subst (λ (q : ℤ × List Token). signed_at (t ∷ ts) ≡ Ok q) u.1 b.1) in
      (one.0.0, one.0.1, one.1, none_passed w v p (subst (λ q. passed w v q ≡ None) same u.0))

  power_again : (w v : List Pair) (t : Token) (ts : List Token) (p : ℤ) → t.text ≡ signed_decimal p
      → nat_abs p < 10 ^ 18 → PassesNone w v p → power_at w v (t ∷ ts) ≡ Ok (p, ts)
  power_again w v t ts p b small passes = rw (signed_again t ts p b small, passed_none w v p passes) refl

  -- ---- a code
  code_takes : (ts rest : List Token) (n : ℕ) → code_at ts ≡ Ok (n, rest) → Begins ts (decimal n ∷ []) rest
      × ((n ≡ 1) ⊎ (n ≡ 2))
  code_takes [] rest n e = absurd cc
  code_takes (t ∷ ts) rest n e =
      let b = bind_ok (number_at (t ∷ ts)) (λ n. if (n.0 == 1) || (n.0 == 2) then Ok n
      else Err (fault (at_token codes.UnknownCode n.0 0 t))) (n, rest) e in
      let g = guard_ok ((b.0.0 == 1) || (b.0.0 == 2)) (fault (at_token codes.UnknownCode b.0.0 0 t)) b.0
      (n, rest) b.2 in
      let same : b.0.0 ≡ n = ap (λ (q : ℕ × List Token). q.0) g.1 in (
        (fields.number.takes (t ∷ ts) rest n (subst (λ (q : ℕ × List Token). number_at (t ∷ ts) ≡ Ok q) g.1 b.1)).0,
        one_or_two n (subst (λ m. ((m == 1) || (m == 2)) ≡ true) same g.0),
      )

  code_again : (t : Token) (ts : List Token) (n : ℕ) → t.text ≡ decimal n → (n ≡ 1) ⊎ (n ≡ 2)
      → code_at (t ∷ ts) ≡ Ok (n, ts)
  code_again t ts n b (inl is) =
      let one : number_at (t ∷ ts) ≡ Ok (n, ts) = fields.number.again (t ∷ ts) ts n (b, refl) (rw is (omega arith)) in
      rw (one, is) refl
  code_again t ts n b (inr is) =
      let one : number_at (t ∷ ts) ≡ Ok (n, ts) = fields.number.again (t ∷ ts) ts n (b, refl) (rw is (omega arith)) in
      rw (one, is) refl

  -- ---- factors
  module _ (count : ℕ) (words : List (List Pair)) where
    -- the factors that are read after these
    record More (factors : List Factor) (ts rest : List Token) (all : List Factor) : Type 0 where
      new : List Factor
      joined : all ≡ factors ++ new
      begins : Begins ts (spell_factors new) rest
      within : AreWithin count words (word_of_factors words factors) new
      forms_are : AllByRecursion HasForm new

    mutual
      factors_takes : (factors : List Factor) (ts rest : List Token) (all : List Factor)
          → factors_from count words factors ts ≡ Ok (all, rest) → More factors ts rest all
      factors_takes factors [] rest all e = absurd cc
      factors_takes factors (t ∷ ts) rest all e =
          let b = bind_ok (ranged_at 0 count (t ∷ ts)) (λ place. if place.0 == 0 then Ok (factors, ts)
          else power_from count words factors place.0 ts) (all, rest) e in
          let one = (fields.ranged 0 count).takes (t ∷ ts) b.0.1 b.0.0 b.1 in
          by_test (b.0.0 == 0)
          (λ h.
          let z : b.0.0 ≡ 0 = grind (arith, nat_tests, h) in
          let p = ok_is (factors, ts) (all, rest)
          (subst (λ c. (if c then Ok (factors, ts) else power_from count words factors b.0.0 ts) ≡ Ok
          (all, rest)) h b.2) in
          record {
            new = [];
            joined = sym (ap (λ (q : List Factor × List Token). q.0) p) ∙ sym (append-nil factors);
            begins = (one.0.0 ∙ ap decimal z, ap (λ (q : List Factor × List Token). q.1) p);
            within = tt;
            forms_are = tt;
          })
          (λ h. power_takes_from factors t b.0.0 ts rest all one.0.0 one.1.small (grind (arith, nat_tests, h)) one.1.to
          (subst (λ c. (if c then Ok (factors, ts) else power_from count words factors b.0.0 ts) ≡ Ok
          (all, rest)) h b.2))

      power_takes_from : (factors : List Factor) (t : Token) (place : ℕ) (ts rest : List Token) (all : List Factor)
          → t.text ≡ decimal place → place < 10 ^ 18 → 1 ≤ place → place ≤ count
          → power_from count words factors place ts ≡ Ok (all, rest)
          → More factors (t ∷ ts) rest all
      power_takes_from factors t place [] rest all text small from to e = absurd cc
      power_takes_from factors t place (u ∷ ts) rest all text small from to e =
          let b = bind_ok (power_at (word_of_factors words factors) (at_place words place) (u ∷ ts))
          (λ p. factors_from count words (factors ++ factor place p.0 ∷ []) ts) (all, rest) e in
          let one = power_takes (word_of_factors words factors) (at_place words place) u ts b.0.1 b.0.0 b.1 in
          let f : Factor = factor place b.0.0 in
          let more = factors_takes (factors ++ f ∷ []) ts rest all b.2 in
          record {
            new = f ∷ more.new;
            joined = more.joined ∙ append_assoc factors (f ∷ []) more.new;
            begins = (text, (one.0, more.begins));
            within = (
              record {
                from = from;
                earlier = to;
                factors = one.3.factors;
                power = one.3.power_is;
                word =
                    one.3.product;
              },
              subst (λ w. AreWithin count words w more.new) (word_push words factors f) more.within,
            );
            forms_are = ((small, one.2), more.forms_are);
          }

    factors_again : (factors new : List Factor) (ts rest : List Token) → Begins ts (spell_factors new) rest
        → AreWithin count words (word_of_factors words factors) new → AllByRecursion HasForm new
        → factors_from count words factors ts ≡ Ok (factors ++ new, rest)
    factors_again factors [] [] rest b are small = absurd b
    factors_again factors [] (t ∷ ts) rest b are small =
        let one : ranged_at 0 count (t ∷ ts) ≡ Ok (0, ts) = (fields.ranged 0 count).again (t ∷ ts) ts 0 (b.0, refl)
        (record { small = omega arith; from = omega arith; to = omega arith }) in
        rw (one, b.1, append-nil factors) refl
    factors_again factors (f ∷ new) [] rest b are small = absurd b
    factors_again factors (f ∷ new) (t ∷ []) rest b are small = absurd b.1
    factors_again factors (f ∷ new) (t ∷ u ∷ ts) rest b are small =
        let one : ranged_at 0 count (t ∷ u ∷ ts) ≡ Ok (f.place, u ∷ ts) =
        (fields.ranged 0 count).again (t ∷ u ∷ ts) (u ∷ ts) f.place (b.0, refl)
        (record { small = small.0.0; from = omega arith; to = are.0.earlier }) in
        let two : power_at (word_of_factors words factors) (at_place words f.place) (u ∷ ts) ≡ Ok (f.power, ts) =
        power_again (word_of_factors words factors) (at_place words f.place) u ts f.power b.1.0 small.0.1
        (record { factors = are.0.factors; power_is = are.0.power; product = are.0.word }) in
        let more = factors_again (factors ++ f ∷ []) new ts rest b.1.1
        (subst (λ w. AreWithin count words w new) (sym (word_push words factors f)) are.1) small.1 in
        rw (one, not_none f.place are.0.from, two, more, append_assoc factors (f ∷ []) new) refl

  -- ---- an entry
  datum_takes : (ts rest : List Token) (x : LocationEntry) → datum_at ts ≡ Ok (x, rest)
      → (texts : List (List ℕ)) × (x ≡ Datum texts) × Begins ts texts rest × AreDecimals 12 texts
  datum_takes ts rest x e =
      let b = bind_ok (decimals_at 12 ts) (λ (d : List (List ℕ) × List Token). Ok (Datum d.0, d.1)) (x, rest) e in
      let p = ok_is (Datum b.0.0, b.0.1) (x, rest) b.2 in
      let one = (fields.decimals 12).takes ts b.0.1 b.0.0 b.1 in (
        b.0.0,
        sym (ap (λ (q : LocationEntry × List Token). q.0) p),
        subst (λ (r : List Token). Begins ts b.0.0 r)
            (ap (λ (q : LocationEntry × List Token). q.1) p) one.0,
        one.1,
      )

  product_takes : (before : List LocationEntry) (ts rest : List Token) (x : LocationEntry)
      → product_at before ts ≡ Ok (x, rest)
      → (factors : List Factor) × (x ≡ Product factors) × Begins ts (spell_factors factors) rest
      × IsSoundLocation before (Product factors)
  product_takes before ts rest x e =
      let b = bind_ok (factors_from (length before) (words_of before) [] ts)
      (λ (f : List Factor × List Token). Ok (Product f.0, f.1)) (x, rest) e in
      let p = ok_is (Product b.0.0, b.0.1) (x, rest) b.2 in
      let one = factors_takes (length before) (words_of before) [] ts b.0.1 b.0.0 b.1 in (
        one.new,
        sym (ap (λ (q : LocationEntry × List Token). q.0) p) ∙ ap Product one.joined,
        subst (λ (r : List Token). Begins ts (spell_factors one.new) r)
            (ap (λ (q : LocationEntry × List Token). q.1) p) one.begins,
        (one.within, one.forms_are),
      )

  entry_takes : (before : List LocationEntry) (n : ℕ) (ts rest : List Token) (x : LocationEntry) → (n ≡ 1) ⊎ (n ≡ 2)
      → (if n == 1 then datum_at ts else product_at before ts) ≡ Ok (x, rest)
      → (t : Token) → t.text ≡ decimal n → Begins (t ∷ ts) (spell_location x) rest × IsSoundLocation before x
  entry_takes before n ts rest x (inl is) e t text =
      let one = datum_takes ts rest x
      (subst (λ m. (if m == 1 then datum_at ts else product_at before ts) ≡ Ok (x, rest)) is e) in
      rw one.1 ((text ∙ ap decimal is, one.2), one.3)
  entry_takes before n ts rest x (inr is) e t text =
      let one = product_takes before ts rest x
      (subst (λ m. (if m == 1 then datum_at ts else product_at before ts) ≡ Ok (x, rest)) is e) in
      rw one.1 ((text ∙ ap decimal is, one.2), one.3)

  location_takes : (before : List LocationEntry) (ts rest : List Token) (x : LocationEntry)
      → location_at before ts ≡ Ok (x, rest) → Begins ts (spell_location x) rest × IsSoundLocation before x
  location_takes before [] rest x e = absurd cc
  location_takes before (t ∷ ts) rest x e =
      let b = bind_ok (code_at (t ∷ ts)) (λ code. if code.0 == 1 then datum_at code.1
      else product_at before code.1) (x, rest) e in
      let one = code_takes (t ∷ ts) b.0.1 b.0.0 b.1 in
      let again = subst (λ (r : List Token). (if b.0.0 == 1 then datum_at r else product_at before r) ≡ Ok (x, rest))
      (sym one.0.1) b.2 in
      entry_takes before b.0.0 ts rest x one.1 again t one.0.0

  location_again : (before : List LocationEntry) (ts rest : List Token) (x : LocationEntry)
      → Begins ts (spell_location x) rest → IsSoundLocation before x → location_at before ts ≡ Ok (x, rest)
  location_again before [] rest (Datum texts) b is = absurd b
  location_again before [] rest (Product factors) b is = absurd b
  location_again before (t ∷ ts) rest (Datum texts) b is =
      let one : decimals_at 12 ts ≡ Ok (texts, rest) = (fields.decimals 12).again ts rest texts b.1 is in
      rw (code_again t ts 1 b.0 (inl refl), one) refl
  location_again before (t ∷ ts) rest (Product factors) b is =
      let one : factors_from (length before) (words_of before) [] ts ≡ Ok (factors, rest) =
      factors_again (length before) (words_of before) [] factors ts rest b.1 is.0 is.1 in
      rw (code_again t ts 2 b.0 (inr refl), one) refl

  -- ---- plain words
  module _ (written : WrittenIsRead) where
    plain_decimals : (texts : List (List ℕ)) → AllByRecursion IsDecimal texts → AllByRecursion IsPlain texts
    plain_decimals [] are = tt
    plain_decimals (x ∷ texts) are = (written.decimals x are.0, plain_decimals texts are.1)

    plain_factors : (factors : List Factor) → AllByRecursion IsPlain (spell_factors factors)
    plain_factors [] = (written.numbers 0, tt)
    plain_factors (f ∷ factors) = (written.numbers f.place, (written.powers f.power, plain_factors factors))

    plain : (before : List LocationEntry) (x : LocationEntry) → IsSoundLocation before x
        → AllByRecursion IsPlain (spell_location x)
    plain before (Datum texts) is = (written.numbers 1, plain_decimals texts is.1)
    plain before (Product factors) is = (written.numbers 2, plain_factors factors)

    pub locations_are_exact : LocationsAreExact
    locations_are_exact = record {
      location = λ before. record { takes = location_takes before; again = location_again before };
      forms = plain;
    }
