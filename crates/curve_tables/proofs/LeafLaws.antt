-- A curve that was taken apart, in either dimension: what makes it sound, its texts, and which can be spelled.
use Rattle.std.proofs.Common.{◌≡◌, ℕ, ◌+◌, ◌<◌, ◌≤◌, Bool, List, [], ◌∷◌, ◌++◌, length, refl, arith}
use Rattle.std.specs.List.{AllByRecursion}
use Rattle.entry_readers.specs.Begins.{AreDecimals, AreKnots, IsDecimal, IsSmall, zipped}
use Rattle.entry_readers.specs.FieldForms.{FieldsAreDecimals}
use Rattle.entry_readers.specs.Reading.{Knots}
use Rattle.entry_readers.specs.Spelled.{AreShort}
use Rattle.curve_tables.specs.Parts.{IsForm, IsSoundChain, form_size}
use Rattle.curve_tables.specs.Sound.{IsBSpline, IsBezier, IsPlain}
use Rattle.curve_tables.specs.declared.parts.Dimension.{Dimension}
use Rattle.curve_tables.specs.declared.parts.Form.TheVariants.{Plain, Bezier, BSpline}

pub all_join : (P : List ℕ → Type 0) (xs ys : List (List ℕ)) → AllByRecursion P xs → AllByRecursion P ys
    → AllByRecursion P (xs ++ ys)
all_join P [] ys a b = b
all_join P (x ∷ xs) ys a b = (a.0, all_join P xs ys a.1 b)

pub all_front : (P : List ℕ → Type 0) (xs ys : List (List ℕ)) → AllByRecursion P (xs ++ ys) → AllByRecursion P xs
all_front P [] ys a = tt
all_front P (x ∷ xs) ys a = (a.0, all_front P xs ys a.1)

pub all_back : (P : List ℕ → Type 0) (xs ys : List (List ℕ)) → AllByRecursion P (xs ++ ys) → AllByRecursion P ys
all_back P [] ys a = a
all_back P (x ∷ xs) ys a = all_back P xs ys a.1

-- a token's length
abbrev pub IsShort : List ℕ → Type 0
IsShort text = length text ≤ 128

-- no knots

pub no_pairs : (xs : List (List ℕ)) (ns : List ℕ) → length xs ≡ 0 → zipped xs ns ≡ []
no_pairs [] ns e = refl
no_pairs (x ∷ xs) ns e = absurd (omega (arith, e))

abbrev pub without_knots : Knots
without_knots = record { texts = []; counts = [] }

pub no_knots : AreKnots 0 without_knots
no_knots = record { texts = (refl, tt); counts = (refl, tt) }

-- ---- knots with their multiplicities

module _ (fields : FieldsAreDecimals) where
  pub pairs_forms : (xs : List (List ℕ)) (ns : List ℕ) → AllByRecursion IsDecimal xs → AllByRecursion IsSmall ns
      → AllByRecursion IsDecimal (zipped xs ns)
  pairs_forms [] ns a b = tt
  pairs_forms (x ∷ xs) [] a b = tt
  pairs_forms (x ∷ xs) (n ∷ ns) a b = (a.0, (fields.number n b.0, pairs_forms xs ns a.1 b.1))

pub pairs_short : (xs : List (List ℕ)) (ns : List ℕ) → length ns ≡ length xs → AreShort (zipped xs ns) → AreShort xs
pairs_short [] ns even short = tt
pairs_short (x ∷ xs) [] even short = absurd (omega (arith, even))
pairs_short (x ∷ xs) (n ∷ ns) even short = (short.0, pairs_short xs ns (omega (arith, even)) short.1.1)

-- ---- the leaf

module _ (d : Dimension) (nest : ℕ) (texts : List (List ℕ)) (knots : Knots) where
  pub plain_sound : (code : ℕ) → nest < 64 → IsForm (Plain code) (length knots.texts)
      → AreDecimals (form_size d (Plain code)) texts → IsPlain d nest code texts
  plain_sound code lt is are = record { nested = lt; from = is.0; to = is.1; decimals = are }

  pub bezier_sound : (rational : Bool) (degree : ℕ) → nest < 64 → IsForm (Bezier rational degree) (length knots.texts)
      → AreDecimals (form_size d (Bezier rational degree)) texts → IsBezier d nest rational degree texts
  bezier_sound rational degree lt is are = record { nested = lt; small = is.0; decimals = are }

  pub spline_sound : (rational flag : Bool) (degree poles : ℕ) → nest < 64
      → IsForm (BSpline rational flag degree poles) (length knots.texts)
      → AreDecimals (form_size d (BSpline rational flag degree poles)) texts → AreKnots (length knots.texts) knots
      → IsBSpline d nest rational degree poles texts knots.texts knots.counts
  spline_sound rational flag degree poles lt is are pairs = record {
    nested = lt;
    small = is.0;
    count_small = is.1;
    knots_small = is.2;
    decimals = are;
    knot_decimals = pairs.texts;
    even = pairs.counts.0;
    each_small = pairs.counts.1;
  }

-- a curve without a basis, taken apart
module _ (d : Dimension) (nest room : ℕ) (fits : nest + room ≡ 64) where
  pub of_plain : (code : ℕ) (texts : List (List ℕ)) → IsPlain d nest code texts
      → IsSoundChain d room (record { frames = []; form = Plain code; texts = texts; knots = without_knots })
  of_plain code texts is = record {
    nest = omega (arith, is.nested, fits);
    frames = tt;
    form = (is.from, is.to, refl);
    texts = is.decimals;
    knots = no_knots;
  }

  pub of_bezier : (rational : Bool) (degree : ℕ) (poles : List (List ℕ)) → IsBezier d nest rational degree poles
      → IsSoundChain d room (record {
        frames = [];
        form = Bezier rational degree;
        texts = poles;
        knots = without_knots;
      })
  of_bezier rational degree poles is = record {
    nest = omega (arith, is.nested, fits);
    frames = tt;
    form = (is.small, refl);
    texts = is.decimals;
    knots = no_knots;
  }

  pub of_spline : (rational flag : Bool) (degree count : ℕ) (poles knots : List (List ℕ)) (multiplicities : List ℕ)
      → IsBSpline d nest rational degree count poles knots multiplicities
      → IsSoundChain d room (record {
        frames = [];
        form = BSpline rational flag degree count;
        texts = poles;
        knots = record { texts = knots; counts = multiplicities };
      })
  of_spline rational flag degree count poles knots multiplicities is = record {
    nest = omega (arith, is.nested, fits);
    frames = tt;
    form = (is.small, is.count_small, is.knots_small);
    texts = is.decimals;
    knots = record { texts = is.knot_decimals; counts = (is.even, is.each_small) };
  }
