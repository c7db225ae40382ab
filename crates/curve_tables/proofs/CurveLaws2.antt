-- A 2D curve is read exactly as it is spelled.
use Rattle.std.proofs.Common.{◌≡◌, ℕ, zero, suc, ◌+◌, ◌<◌, List, [], ◌∷◌, ◌++◌, length, Ok, refl, sym, ap, subst, ◌∙◌}
use Rattle.std.proofs.Common.{append_assoc, append-nil, arith}
use Rattle.std.specs.List.{AllByRecursion, flat_map}
use Rattle.std.specs.Fmt.{decimal}
use Rattle.entry_readers.specs.Begins.{AreDecimals, AreKnots, Begins, IsDecimal, IsExact, spell_knots, zipped}
use Rattle.entry_readers.specs.FieldForms.{FieldsAreDecimals}
use Rattle.lists.specs.Results.{◌>>=◌}
use Rattle.entry_readers.specs.Reading.{Knots, Read}
use Rattle.entry_readers.specs.Spelled.{AreShort}
use Rattle.lists.proofs.Results.{bind_ok, ok_is}
use Rattle.brep_tokens.specs.declared.text.Token.{Token}
use Rattle.curve_tables.specs.Chains.{Chain, chain_at}
use Rattle.curve_tables.specs.Curves.{curve2_of, framed2, leaf2, wrapped2}
use Rattle.curve_tables.specs.Parts.{ChainsAreExact, IsForm, IsFrame, IsSoundChain, form_size, spell_chain, spell_form}
use Rattle.curve_tables.specs.Parts.{spell_frame, wrap_code}
use Rattle.curve_tables.specs.Shapes.{CanSpell2}
use Rattle.curve_tables.specs.Sound.{IsSoundIn2, IsWrapped}
use Rattle.curve_tables.specs.Spelling.{spelling2}
use Rattle.curve_tables.specs.declared.curve2.Curve2.{Curve2, end_of-Curve2, more_of-Curve2}
use Rattle.curve_tables.specs.declared.curve2.Curve2 as two
use Rattle.curve_tables.specs.declared.parts.Dimension.TheVariants.{Plane}
use Rattle.curve_tables.specs.declared.parts.Form.{Form}
use Rattle.curve_tables.specs.declared.parts.Form.TheVariants.{Plain, Bezier, BSpline}
use Rattle.curve_tables.specs.declared.parts.Frame.{Frame}
use Rattle.curve_tables.specs.declared.parts.Wrap.{Wrap}
use Rattle.curve_tables.specs.declared.parts.Wrap.TheVariants.{Trimmed, Offset}
use Rattle.curve_tables.proofs.Equations2.{is_offset, is_trimmed, sound_around, spelling_around}
use Rattle.curve_tables.proofs.LeafLaws.{IsShort, all_back, all_front, all_join, bezier_sound, no_pairs, of_bezier}
use Rattle.curve_tables.proofs.LeafLaws.{of_plain, of_spline, pairs_forms, pairs_short, plain_sound, spline_sound}
use Rattle.curve_tables.proofs.LeafLaws.{without_knots}

-- ---- the spelling of the curve of a chain

leaf_spelled : (f : Form) (texts : List (List ℕ)) (k : Knots) → IsForm f (length k.texts)
    → spelling2 (leaf2 f texts k) ≡ spell_form f (length k.texts) ++ (texts ++ spell_knots k)
leaf_spelled (Plain code) texts k is = rw (no_pairs k.texts k.counts is.2, append-nil texts) refl
leaf_spelled (Bezier rational degree) texts k is = rw (no_pairs k.texts k.counts is.1, append-nil texts) refl
leaf_spelled (BSpline rational flag degree poles) texts k is = refl

framed_spelled : (fs : List Frame) (c : Curve2) → spelling2 (framed2 fs c) ≡ flat_map spell_frame fs ++ spelling2 c
framed_spelled [] c = refl
framed_spelled (f ∷ fs) c =
    spelling_around f.texts (framed2 fs c) f.wrap
    ∙ ap (λ (z : List (List ℕ)). decimal (wrap_code f.wrap) ∷ (f.texts ++ z)) (framed_spelled fs c)
    ∙ ap (λ (z : List (List ℕ)). decimal (wrap_code f.wrap) ∷ z)
    (sym (append_assoc f.texts (flat_map spell_frame fs) (spelling2 c)))

spelled : (c : Chain) → IsForm c.form (length c.knots.texts) → spelling2 (curve2_of c) ≡ spell_chain c
spelled c is = framed_spelled c.frames (leaf2 c.form c.texts c.knots)
    ∙ ap (λ (z : List (List ℕ)). flat_map spell_frame c.frames ++ z) (leaf_spelled c.form c.texts c.knots is)

-- ---- the curve of a sound chain is sound

leaf_sound : (nest : ℕ) (f : Form) (texts : List (List ℕ)) (k : Knots) → nest < 64 → IsForm f (length k.texts)
    → AreDecimals (form_size Plane f) texts → AreKnots (length k.texts) k → IsSoundIn2 nest (leaf2 f texts k)
leaf_sound nest (Plain code) texts k lt is are pairs = plain_sound Plane nest texts k code lt is are
leaf_sound nest (Bezier rational degree) texts k lt is are pairs =
    bezier_sound Plane nest texts k rational degree lt is are
leaf_sound nest (BSpline rational flag degree poles) texts k lt is are pairs =
    spline_sound Plane nest texts k rational flag degree poles lt is are pairs

framed_sound : (fs : List Frame) (c : Curve2) (nest : ℕ) → length fs + nest < 64 → AllByRecursion (IsFrame Plane) fs
    → IsSoundIn2 (length fs + nest) c → IsSoundIn2 nest (framed2 fs c)
framed_sound [] c nest lt each is = subst (λ (n : ℕ). IsSoundIn2 n c) (omega arith) is
framed_sound (f ∷ fs) c nest lt each is =
    sound_around f.texts (framed2 fs c) nest f.wrap (record { nested = omega (arith, lt); decimals = each.0 })
    (framed_sound fs c (suc nest) (omega (arith, lt)) each.1 (subst (λ (n : ℕ). IsSoundIn2 n c) (omega arith) is))

sound : (nest room : ℕ) → nest + room ≡ 64 → (c : Chain) → IsSoundChain Plane room c → IsSoundIn2 nest (curve2_of c)
sound nest room fits c is =
    framed_sound c.frames (leaf2 c.form c.texts c.knots) nest (omega (arith, is.nest, fits)) is.frames
    (leaf_sound (length c.frames + nest) c.form c.texts c.knots (omega (arith, is.nest, fits)) is.form
    is.texts is.knots)

-- ---- a sound curve is that of a sound chain

pub record Apart (room : ℕ) (c : Curve2) : Type 0 where
  pub chain : Chain
  pub is_sound : IsSoundChain Plane room chain
  pub same : curve2_of chain ≡ c

around : (nest room : ℕ) → nest + suc room ≡ 64 → (w : Wrap) (texts : List (List ℕ)) (c : Curve2)
    → IsWrapped Plane nest w texts → Apart room c → Apart (suc room) (wrapped2 w texts c)
around nest room fits w texts c wraps a = record {
  chain = record {
    frames = record { wrap = w; texts = texts } ∷ a.chain.frames;
    form = a.chain.form;
    texts = a.chain.texts;
    knots = a.chain.knots;
  };
  is_sound = record {
    nest = omega (arith, a.is_sound.nest);
    frames = (wraps.decimals, a.is_sound.frames);
    form = a.is_sound.form;
    texts = a.is_sound.texts;
    knots = a.is_sound.knots;
  };
  same = ap (wrapped2 w texts) a.same;
}

apart : (c : Curve2) (nest room : ℕ) → nest + room ≡ 64 → IsSoundIn2 nest c → Apart room c
apart (two.Plain code texts) nest room fits is =
    record {
      chain = record { frames = []; form = Plain code; texts = texts; knots = without_knots };
      is_sound = of_plain Plane nest room fits code texts is;
      same = refl;
    }
apart (two.Bezier rational degree poles) nest room fits is =
    record {
      chain = record { frames = []; form = Bezier rational degree; texts = poles; knots = without_knots };
      is_sound = of_bezier Plane nest room fits rational degree poles is;
      same = refl;
    }
apart (two.BSpline rational flag degree count poles knots multiplicities) nest room fits is = record {
  chain = record {
    frames = [];
    form = BSpline rational flag degree count;
    texts = poles;
    knots = record { texts = knots; counts = multiplicities };
  };
  is_sound = of_spline Plane nest room fits rational flag degree count poles knots multiplicities is;
  same = refl;
}
apart (two.Trimmed' texts place (more_of-Curve2 c end_of-Curve2)) nest zero fits is =
    absurd (omega (arith, fits, is.0.nested))
apart (two.Trimmed' texts place (more_of-Curve2 c end_of-Curve2)) nest (suc room) fits is =
    subst (λ (z : Curve2). Apart (suc room) z) (is_trimmed texts place c)
    (around nest room fits Trimmed texts c is.0 (apart c (suc nest) room (omega (arith, fits)) is.1))
apart (two.Offset' texts place (more_of-Curve2 c end_of-Curve2)) nest zero fits is =
    absurd (omega (arith, fits, is.0.nested))
apart (two.Offset' texts place (more_of-Curve2 c end_of-Curve2)) nest (suc room) fits is =
    subst (λ (z : Curve2). Apart (suc room) z) (is_offset texts place c)
    (around nest room fits Offset texts c is.0 (apart c (suc nest) room (omega (arith, fits)) is.1))

-- ---- reading

abbrev pub read_at : ℕ → List Token → Read Curve2
read_at room ts = chain_at Plane room [] ts >>= λ c. Ok (curve2_of c.0, c.1)

module _ (chains : ChainsAreExact) (nest room : ℕ) (fits : nest + room ≡ 64) where
  pub exact : IsExact (read_at room) spelling2 (IsSoundIn2 nest)
  exact = record {
    takes = λ ts rest x e. (
        let b = bind_ok (chain_at Plane room [] ts) (λ c. Ok (curve2_of c.0, c.1)) (x, rest) e in
        let p = ok_is (curve2_of b.0.0, b.0.1) (x, rest) b.2 in
        let law = (chains Plane room).takes ts b.0.1 b.0.0 b.1 in
        let begins : Begins ts (spelling2 (curve2_of b.0.0)) b.0.1 =
        subst (λ (z : List (List ℕ)). Begins ts z b.0.1) (sym (spelled b.0.0 law.1.form)) law.0 in
        subst (λ (q : Curve2 × List Token). Begins ts (spelling2 q.0) q.1 × IsSoundIn2 nest q.0) p
        (begins, sound nest room fits b.0.0 law.1));
    again = λ ts rest x b is. (
        let a = apart x nest room fits is in
        let begins : Begins ts (spell_chain a.chain) rest =
        subst (λ (z : List (List ℕ)). Begins ts z rest) (ap spelling2 (sym a.same)
        ∙ spelled a.chain a.is_sound.form) b in
        let read : chain_at Plane room [] ts ≡ Ok (a.chain, rest) =
        (chains Plane room).again ts rest a.chain begins a.is_sound in
        rw (read, a.same) refl);
  }

-- ---- each text is a decimal

module _ (fields : FieldsAreDecimals) where
  pub forms : (c : Curve2) (nest : ℕ) → IsSoundIn2 nest c → AllByRecursion IsDecimal (spelling2 c)
  forms (two.Plain code texts) nest is = (fields.number code (omega (arith, is.to)), is.decimals.1)
  forms (two.Bezier rational degree poles) nest is =
      (fields.number 6 (omega arith), (fields.flag rational, (fields.number degree is.small, is.decimals.1)))
  forms (two.BSpline rational flag degree count poles knots multiplicities) nest is =
      let rest : AllByRecursion IsDecimal (poles ++ zipped knots multiplicities) =
      all_join IsDecimal poles (zipped knots multiplicities) is.decimals.1
      (pairs_forms fields knots multiplicities is.knot_decimals.1 is.each_small) in
      let counts : AllByRecursion IsDecimal (decimal degree ∷ decimal count ∷ decimal (length knots)
      ∷ (poles ++ zipped knots multiplicities)) = (
        fields.number degree is.small,
        (fields.number count is.count_small, (fields.number (length knots) is.knots_small, rest)),
      ) in
      (fields.number 7 (omega arith), (fields.flag rational, (fields.flag flag, counts)))
  forms (two.Trimmed' texts place (more_of-Curve2 c end_of-Curve2)) nest is =
      (fields.number 8 (omega arith), all_join IsDecimal texts (spelling2 c) is.0.decimals.1 (forms c (suc nest) is.1))
  forms (two.Offset' texts place (more_of-Curve2 c end_of-Curve2)) nest is =
      (fields.number 9 (omega arith), all_join IsDecimal texts (spelling2 c) is.0.decimals.1 (forms c (suc nest) is.1))

-- ---- a sound curve whose texts fit tokens can be spelled

pub spells : (c : Curve2) (nest : ℕ) → IsSoundIn2 nest c → AreShort (spelling2 c) → CanSpell2 c
spells (two.Plain code texts) nest is short =
    record { from = is.from; to = is.to; decimals = record { many = is.decimals.0; short = short.1 } }
spells (two.Bezier rational degree poles) nest is short = record { many = is.decimals.0; short = short.1.1.1 }
spells (two.BSpline rational flag degree count poles knots multiplicities) nest is short =
    let rest : AreShort (poles ++ zipped knots multiplicities) = short.1.1.1.1.1.1 in
    record {
      decimals = record { many = is.decimals.0; short = all_front IsShort poles (zipped knots multiplicities) rest };
      knot_decimals = record {
        many = sym is.even;
        short = pairs_short knots multiplicities is.even (all_back IsShort poles (zipped knots multiplicities) rest);
      };
    }
spells (two.Trimmed' texts place (more_of-Curve2 c end_of-Curve2)) nest is short = (
  record { many = is.0.decimals.0; short = all_front IsShort texts (spelling2 c) short.1 },
  spells c (suc nest) is.1 (all_back IsShort texts (spelling2 c) short.1),
)
spells (two.Offset' texts place (more_of-Curve2 c end_of-Curve2)) nest is short = (
  record { many = is.0.decimals.0; short = all_front IsShort texts (spelling2 c) short.1 },
  spells c (suc nest) is.1 (all_back IsShort texts (spelling2 c) short.1),
)
