-- Each text of a sound surface is a decimal, and it can be spelled where its texts fit tokens.
use Rattle.std.proofs.Common.{◌≡◌, ℕ, suc, ◌≤◌, List, [], ◌∷◌, ◌++◌, length, sym, arith}
use Rattle.std.specs.List.{AllByRecursion}
use Rattle.std.specs.Fmt.{decimal}
use Rattle.entry_readers.specs.Begins.{IsDecimal, IsSmall, zipped}
use Rattle.entry_readers.specs.FieldForms.{FieldsAreDecimals}
use Rattle.entry_readers.specs.Spelled.{AreShort}
use Rattle.curve_tables.specs.Laws.{CurvesAreExact}
use Rattle.curve_tables.specs.Spelling.{spelling3}
use Rattle.surface_tables.specs.Shapes.{CanSpellSurface}
use Rattle.surface_tables.specs.Sound.{IsSoundIn}
use Rattle.surface_tables.specs.Spelling.{spell_surface}
use Rattle.surface_tables.specs.declared.surface.Surface.{Surface, Plain, Swept, Bezier, BSpline, Trimmed', Offset'}
use Rattle.surface_tables.specs.declared.surface.Surface.{end_of-Surface, more_of-Surface}

all_join : (P : List ℕ → Type 0) (xs ys : List (List ℕ)) → AllByRecursion P xs → AllByRecursion P ys
    → AllByRecursion P (xs ++ ys)
all_join P [] ys a b = b
all_join P (x ∷ xs) ys a b = (a.0, all_join P xs ys a.1 b)

all_front : (P : List ℕ → Type 0) (xs ys : List (List ℕ)) → AllByRecursion P (xs ++ ys) → AllByRecursion P xs
all_front P [] ys a = tt
all_front P (x ∷ xs) ys a = (a.0, all_front P xs ys a.1)

all_back : (P : List ℕ → Type 0) (xs ys : List (List ℕ)) → AllByRecursion P (xs ++ ys) → AllByRecursion P ys
all_back P [] ys a = a
all_back P (x ∷ xs) ys a = all_back P xs ys a.1

-- a token's length
abbrev IsShort : List ℕ → Type 0
IsShort text = length text ≤ 128

pairs_short : (xs : List (List ℕ)) (ns : List ℕ) → length ns ≡ length xs → AreShort (zipped xs ns) → AreShort xs
pairs_short [] ns even short = tt
pairs_short (x ∷ xs) [] even short = absurd (omega (arith, even))
pairs_short (x ∷ xs) (n ∷ ns) even short = (short.0, pairs_short xs ns (omega (arith, even)) short.1.1)

module _ (fields : FieldsAreDecimals) (curves : CurvesAreExact) where
  pairs_forms : (xs : List (List ℕ)) (ns : List ℕ) → AllByRecursion IsDecimal xs → AllByRecursion IsSmall ns
      → AllByRecursion IsDecimal (zipped xs ns)
  pairs_forms [] ns a b = tt
  pairs_forms (x ∷ xs) [] a b = tt
  pairs_forms (x ∷ xs) (n ∷ ns) a b = (a.0, (fields.number n b.0, pairs_forms xs ns a.1 b.1))

  pub forms : (s : Surface) (nest : ℕ) → IsSoundIn nest s → AllByRecursion IsDecimal (spell_surface s)
  forms (Plain code texts) nest is = (fields.number code (omega (arith, is.to)), is.decimals.1)
  forms (Swept code texts curve) nest is = (
    fields.number code (omega (arith, is.to)),
    all_join IsDecimal texts (spelling3 curve) is.decimals.1
        (curves.forms3 (suc nest) curve is.inner),
  )
  forms (Bezier u v n m poles) nest is = (
    fields.number 8 (omega arith),
    (fields.flag u, (fields.flag v, (fields.number n is.u_small, (fields.number m is.v_small, is.decimals.1)))),
  )
  forms (BSpline f n m p q poles uknots umult vknots vmult) nest is =
      let knots : AllByRecursion IsDecimal (zipped uknots umult ++ zipped vknots vmult) =
      all_join IsDecimal (zipped uknots umult) (zipped vknots vmult)
      (pairs_forms uknots umult is.u.pairs.texts.1 is.u.pairs.counts.1)
      (pairs_forms vknots vmult is.v.pairs.texts.1 is.v.pairs.counts.1) in
      let rest : AllByRecursion IsDecimal (poles ++ (zipped uknots umult ++ zipped vknots vmult)) =
      all_join IsDecimal poles (zipped uknots umult ++ zipped vknots vmult) is.decimals.1 knots in
      let counts : AllByRecursion IsDecimal (decimal p ∷ decimal q ∷ decimal (length uknots) ∷ decimal (length vknots)
      ∷ (poles ++ (zipped uknots umult ++ zipped vknots vmult))) = (
        fields.number p is.numbers.upoles_small,
        (
          fields.number q is.numbers.vpoles_small,
          (fields.number (length uknots) is.u.small, (fields.number (length vknots) is.v.small, rest)),
        ),
      ) in (
        fields.number 9 (omega arith),
        (
          fields.flag f.urational,
          (
            fields.flag f.vrational,
            (
              fields.flag f.uflag,
              (
                fields.flag f.vflag,
                (fields.number n is.numbers.udegree_small, (fields.number m is.numbers.vdegree_small, counts)),
              ),
            ),
          ),
        ),
      )
  forms (Trimmed' texts place (more_of-Surface s end_of-Surface)) nest is = (
    fields.number 10 (omega arith),
    all_join IsDecimal texts (spell_surface s) is.0.decimals.1
        (forms s (suc nest) is.1),
  )
  forms (Offset' texts place (more_of-Surface s end_of-Surface)) nest is = (
    fields.number 11 (omega arith),
    all_join IsDecimal texts (spell_surface s) is.0.decimals.1
        (forms s (suc nest) is.1),
  )

  pub spells : (s : Surface) (nest : ℕ) → IsSoundIn nest s → AreShort (spell_surface s) → CanSpellSurface s
  spells (Plain code texts) nest is short =
      record { from = is.from; to = is.to; decimals = record { many = is.decimals.0; short = short.1 } }
  spells (Swept code texts curve) nest is short = record {
    from = is.from;
    to = is.to;
    decimals = record { many = is.decimals.0; short = all_front IsShort texts (spelling3 curve) short.1 };
    inner = curves.spells3 (suc nest) curve is.inner (all_back IsShort texts (spelling3 curve) short.1);
  }
  spells (Bezier u v n m poles) nest is short = record { many = is.decimals.0; short = short.1.1.1.1.1 }
  spells (BSpline f n m p q poles uknots umult vknots vmult) nest is short =
      let rest : AreShort (poles ++ (zipped uknots umult ++ zipped vknots vmult)) = short.1.1.1.1.1.1.1.1.1.1.1 in
      let knots : AreShort (zipped uknots umult ++ zipped vknots vmult) =
      all_back IsShort poles (zipped uknots umult ++ zipped vknots vmult) rest in
      record {
        decimals = record {
          many = is.decimals.0;
          short = all_front IsShort poles (zipped uknots umult ++ zipped vknots vmult) rest;
        };
        u = record {
          many = sym is.u.pairs.counts.0;
          short =
              pairs_short uknots umult is.u.pairs.counts.0
              (all_front IsShort (zipped uknots umult) (zipped vknots vmult) knots);
        };
        v = record {
          many = sym is.v.pairs.counts.0;
          short =
              pairs_short vknots vmult is.v.pairs.counts.0
              (all_back IsShort (zipped uknots umult) (zipped vknots vmult) knots);
        };
      }
  spells (Trimmed' texts place (more_of-Surface s end_of-Surface)) nest is short = (
    record { many = is.0.decimals.0; short = all_front IsShort texts (spell_surface s) short.1 },
    spells s (suc nest) is.1 (all_back IsShort texts (spell_surface s) short.1),
  )
  spells (Offset' texts place (more_of-Surface s end_of-Surface)) nest is short = (
    record { many = is.0.decimals.0; short = all_front IsShort texts (spell_surface s) short.1 },
    spells s (suc nest) is.1 (all_back IsShort texts (spell_surface s) short.1),
  )
