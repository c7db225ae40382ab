-- What is read as a chain is spelled so.
use Rattle.std.proofs.lemmas.Bool.Decides.{nat_tests}
use Rattle.std.proofs.lemmas.Bool.{eqb-true}
use Rattle.std.proofs.Common.{◌⊎◌, inl, inr, ◌≡◌, ℕ, zero, suc, ◌+◌, ◌*◌, ◌<◌, ◌≤◌, Bool, true, false, if◌then◌else◌}
use Rattle.std.proofs.Common.{◌==◌, List, [], ◌∷◌, ◌++◌, length, Result, Ok, Err, refl, sym, ap, subst, ◌∙◌}
use Rattle.std.proofs.Common.{append_assoc, append-nil, arith}
use Rattle.std.specs.List.{AllByRecursion, flat_map}
use Rattle.std.specs.Fmt.{decimal}
use Rattle.lists.specs.Results.{◌>>=◌}
use Rattle.entry_readers.specs.Reading.{Read, Refusal, fault, at_token, number_at, flag_at, decimals_at, knots_at}
use Rattle.brep_tokens.specs.Forms.{flag_text}
use Rattle.entry_readers.specs.Begins.{Begins, AreDecimals, AreKnots, IsSmall, spell_knots, FieldsAreExact}
use Rattle.brep_tokens.specs.declared.text.Token.{Token}
use Rattle.brep_tokens.specs.declared.fault.ReadCode.TheVariants as codes
use Rattle.lists.proofs.Results.{bind_ok, guard_ok, ok_is}
use Rattle.curve_tables.specs.Counts.{plain_size, per_pole, wrap_size}
use Rattle.curve_tables.specs.Chains.{Chain, chain_at, code_at, coded_at, leaf_at, bezier_at, spline_at, wrapped_at}
use Rattle.curve_tables.specs.Chains.{is_code}
use Rattle.curve_tables.specs.Parts.{wrap_code, spell_frame, spell_form, spell_leaf, form_size, IsForm, IsFrame}
use Rattle.curve_tables.specs.declared.parts.Dimension.{Dimension}
use Rattle.curve_tables.specs.declared.parts.Form.{Form}
use Rattle.curve_tables.specs.declared.parts.Form.TheVariants.{Plain, Bezier, BSpline}
use Rattle.curve_tables.specs.declared.parts.Frame.{Frame}
use Rattle.curve_tables.specs.declared.parts.Wrap.{Wrap}
use Rattle.curve_tables.specs.declared.parts.Wrap.TheVariants.{Trimmed, Offset}

module _ (fields : FieldsAreExact) where
  -- ---- the code

  code_takes : (ts rest : List Token) (n : ℕ) (t : Token) → code_at ts ≡ Ok ((n, t), rest)
      → Begins ts (decimal n ∷ []) rest × (is_code n ≡ true)
  code_takes [] rest n t e = absurd cc
  code_takes (u ∷ ts) rest n t e =
      let b = bind_ok (number_at (u ∷ ts)) (λ m. if is_code m.0 then Ok ((m.0, u), m.1)
      else Err (fault (at_token codes.UnknownCode m.0 0 u))) ((n, t), rest) e in
      let g = guard_ok (is_code b.0.0) (fault (at_token codes.UnknownCode b.0.0 0 u)) ((b.0.0, u), b.0.1)
      ((n, t), rest) b.2 in
      let same : b.0.0 ≡ n = ap (λ p. p.0.0) g.1 in
      let left : b.0.1 ≡ rest = ap (λ p. p.1) g.1 in
      let one : Begins (u ∷ ts) (decimal b.0.0 ∷ []) b.0.1 = (fields.number.takes (u ∷ ts) b.0.1 b.0.0 b.1).0 in
      ((one.0 ∙ ap decimal same, one.1 ∙ left), ap is_code (sym same) ∙ g.0)

  pub code_again : (ts rest : List Token) (n : ℕ) → Begins ts (decimal n ∷ []) rest → IsSmall n → is_code n ≡ true
      → (t : Token) × (code_at ts ≡ Ok ((n, t), rest))
  code_again [] rest n b small is = absurd b
  code_again (u ∷ ts) rest n b small is =
      let one : number_at (u ∷ ts) ≡ Ok (n, rest) = fields.number.again (u ∷ ts) rest n b small in
      (u, rw (one, is) refl)

  -- ---- a leaf: decimals and knots

  pub record IsLeaf (fs : List Frame) (f : Form) (size count : ℕ) (ts rest : List Token) (c : Chain) : Type 0 where
    pub frames : c.frames ≡ fs
    pub form : c.form ≡ f
    pub begins : Begins ts (c.texts ++ spell_knots c.knots) rest
    pub texts : AreDecimals size c.texts
    pub knots : AreKnots count c.knots

  leaf_takes : (d : Dimension) (frames : List Frame) (form : Form) (size count : ℕ) (ts rest : List Token) (c : Chain)
      → leaf_at d frames form size count ts ≡ Ok (c, rest) → IsLeaf frames form size count ts rest c
  leaf_takes d frames form size count ts rest c e =
      let x = bind_ok (decimals_at size ts) (λ texts. knots_at count texts.1
      >>= λ knots. Ok (record { frames = frames; form = form; texts = texts.0; knots = knots.0 }, knots.1))
      (c, rest) e in
      let k = bind_ok (knots_at count x.0.1)
      (λ knots. Ok (record { frames = frames; form = form; texts = x.0.0; knots = knots.0 }, knots.1))
      (c, rest) x.2 in
      let p = ok_is (record { frames = frames; form = form; texts = x.0.0; knots = k.0.0 }, k.0.1) (c, rest) k.2 in
      let one = (fields.decimals size).takes ts x.0.1 x.0.0 x.1 in
      let two = (fields.knots count).takes x.0.1 k.0.1 k.0.0 k.1 in
      let leaf : IsLeaf frames form size count ts k.0.1 (record {
        frames = frames;
        form = form;
        texts = x.0.0;
        knots = k.0.0;
      }) =
      record {
        frames = refl;
        form = refl;
        begins = fields.joined ts x.0.0 x.0.1 (spell_knots k.0.0) k.0.1 one.0 two.0;
        texts = one.1;
        knots = two.1;
      } in
      subst (λ (q : Chain × List Token). IsLeaf frames form size count ts q.1 q.0) p leaf

  pub leaf_again : (d : Dimension) (c : Chain) (size count : ℕ) (ts rest : List Token)
      → Begins ts (c.texts ++ spell_knots c.knots) rest → AreDecimals size c.texts → AreKnots count c.knots
      → leaf_at d c.frames c.form size count ts ≡ Ok (c, rest)
  leaf_again d c size count ts rest b texts knots =
      let s = fields.split ts c.texts (spell_knots c.knots) rest b in
      rw (
        (fields.decimals size).again ts s.0 c.texts s.1 texts,
        (fields.knots count).again s.0 rest c.knots s.2 knots,
      ) refl

  -- ---- the numbers of a curve, and its leaf

  -- what was read of a curve without a basis, behind these texts of it
  pub record IsCurve (d : Dimension) (fs : List Frame) (before : List (List ℕ)) (ts rest : List Token)
      (c : Chain) : Type 0 where
    pub frames : c.frames ≡ fs
    pub form : IsForm c.form (length c.knots.texts)
    pub texts : AreDecimals (form_size d c.form) c.texts
    pub knots : AreKnots (length c.knots.texts) c.knots
    pub begins : (all : List Token) → Begins all before ts → Begins all (spell_leaf c) rest

  of_leaf : (d : Dimension) (fs : List Frame) (form : Form) (count : ℕ) (ts rest : List Token) (c : Chain)
      → IsForm form count → IsLeaf fs form (form_size d form) count ts rest c
      → IsCurve d fs (spell_form form count) ts rest c
  of_leaf d fs form count ts rest c is leaf =
      let n : length c.knots.texts ≡ count = leaf.knots.texts.0 in
      record {
        frames = leaf.frames;
        form = rw (n, leaf.form) is;
        texts = rw leaf.form leaf.texts;
        knots = rw n leaf.knots;
        begins = λ all b. rw (n, leaf.form)
            (fields.joined all (spell_form form count) ts (c.texts ++ spell_knots c.knots) rest b leaf.begins);
      }

  -- one more text in front
  step : (d : Dimension) (fs : List Frame) (before : List (List ℕ)) (text : List ℕ) (ts mid rest : List Token)
      (c : Chain) → Begins ts (text ∷ []) mid → IsCurve d fs (before ++ text ∷ []) mid rest c
      → IsCurve d fs before ts rest c
  step d fs before text ts mid rest c one is = record {
    frames = is.frames;
    form = is.form;
    texts = is.texts;
    knots = is.knots;
    begins = λ all b. is.begins all (fields.joined all before ts (text ∷ []) mid b one);
  }

  module _ (d : Dimension) (fs : List Frame) where
    plain_takes : (code : ℕ) (ts rest : List Token) (c : Chain) → 1 ≤ code → code ≤ 5
        → leaf_at d fs (Plain code) (plain_size d code) 0 ts ≡ Ok (c, rest) → IsCurve d fs (decimal code ∷ []) ts rest c
    plain_takes code ts rest c low high e = of_leaf d fs (Plain code) 0 ts rest c (low, high, refl)
        (leaf_takes d fs (Plain code) (plain_size d code) 0 ts rest c e)

    abbrev bezier_of : Bool → ℕ × List Token → Read Chain
    bezier_of rational degree =
        leaf_at d fs (Bezier rational degree.0) ((degree.0 + 1) * per_pole d rational) 0 degree.1

    bezier_degree : (rational : Bool) (ts rest : List Token) (c : Chain)
        → (number_at ts >>= bezier_of rational) ≡ Ok (c, rest)
        → IsCurve d fs (decimal 6 ∷ flag_text rational ∷ []) ts rest c
    bezier_degree rational ts rest c e =
        let b = bind_ok (number_at ts) (bezier_of rational) (c, rest) e in
        let one = fields.number.takes ts b.0.1 b.0.0 b.1 in
        step d fs (decimal 6 ∷ flag_text rational ∷ []) (decimal b.0.0) ts b.0.1 rest c one.0
        (of_leaf d fs (Bezier rational b.0.0) 0 b.0.1 rest c (one.1, refl)
        (leaf_takes d fs (Bezier rational b.0.0) ((b.0.0 + 1) * per_pole d rational) 0 b.0.1 rest c b.2))

    bezier_takes : (ts rest : List Token) (c : Chain) → bezier_at d fs ts ≡ Ok (c, rest)
        → IsCurve d fs (decimal 6 ∷ []) ts rest c
    bezier_takes ts rest c e =
        let b = bind_ok (flag_at ts) (λ rational. number_at rational.1 >>= bezier_of rational.0) (c, rest) e in
        step d fs (decimal 6 ∷ []) (flag_text b.0.0) ts b.0.1 rest c (fields.flag.takes ts b.0.1 b.0.0 b.1).0
        (bezier_degree b.0.0 b.0.1 rest c b.2)

    -- what is read behind each number of a B-spline curve
    abbrev spline_knots_of : Bool → Bool → ℕ → ℕ → ℕ × List Token → Read Chain
    spline_knots_of rational flag degree poles knots =
        leaf_at d fs (BSpline rational flag degree poles) (poles * per_pole d rational) knots.0 knots.1

    abbrev spline_poles_of : Bool → Bool → ℕ → ℕ × List Token → Read Chain
    spline_poles_of rational flag degree poles = number_at poles.1 >>= spline_knots_of rational flag degree poles.0

    abbrev spline_degree_of : Bool → Bool → ℕ × List Token → Read Chain
    spline_degree_of rational flag degree = number_at degree.1 >>= spline_poles_of rational flag degree.0

    abbrev spline_flag_of : Bool → Bool × List Token → Read Chain
    spline_flag_of rational flag = number_at flag.1 >>= spline_degree_of rational flag.0

    spline_knots : (rational flag : Bool) (degree poles : ℕ) (ts rest : List Token) (c : Chain) → IsSmall degree
        → IsSmall poles → (number_at ts >>= spline_knots_of rational flag degree poles) ≡ Ok (c, rest)
        → IsCurve d fs (decimal 7 ∷ flag_text rational ∷ flag_text flag ∷ decimal degree ∷ decimal poles ∷ []) ts rest c
    spline_knots rational flag degree poles ts rest c small1 small2 e =
        let b = bind_ok (number_at ts) (spline_knots_of rational flag degree poles) (c, rest) e in
        let one = fields.number.takes ts b.0.1 b.0.0 b.1 in
        step d fs (decimal 7 ∷ flag_text rational ∷ flag_text flag ∷ decimal degree ∷ decimal poles ∷ [])
        (decimal b.0.0) ts b.0.1 rest c one.0
        (of_leaf d fs (BSpline rational flag degree poles) b.0.0 b.0.1 rest c (small1, small2, one.1)
        (leaf_takes d fs (BSpline rational flag degree poles) (poles * per_pole d rational) b.0.0 b.0.1 rest c b.2))

    spline_poles : (rational flag : Bool) (degree : ℕ) (ts rest : List Token) (c : Chain) → IsSmall degree
        → (number_at ts >>= spline_poles_of rational flag degree) ≡ Ok (c, rest)
        → IsCurve d fs (decimal 7 ∷ flag_text rational ∷ flag_text flag ∷ decimal degree ∷ []) ts rest c
    spline_poles rational flag degree ts rest c small e =
        let b = bind_ok (number_at ts) (spline_poles_of rational flag degree) (c, rest) e in
        let one = fields.number.takes ts b.0.1 b.0.0 b.1 in
        step d fs (decimal 7 ∷ flag_text rational ∷ flag_text flag ∷ decimal degree ∷ []) (decimal b.0.0) ts b.0.1 rest
        c one.0 (spline_knots rational flag degree b.0.0 b.0.1 rest c small one.1 b.2)

    spline_degree : (rational flag : Bool) (ts rest : List Token) (c : Chain)
        → (number_at ts >>= spline_degree_of rational flag) ≡ Ok (c, rest)
        → IsCurve d fs (decimal 7 ∷ flag_text rational ∷ flag_text flag ∷ []) ts rest c
    spline_degree rational flag ts rest c e =
        let b = bind_ok (number_at ts) (spline_degree_of rational flag) (c, rest) e in
        let one = fields.number.takes ts b.0.1 b.0.0 b.1 in
        step d fs (decimal 7 ∷ flag_text rational ∷ flag_text flag ∷ []) (decimal b.0.0) ts b.0.1 rest c one.0
        (spline_poles rational flag b.0.0 b.0.1 rest c one.1 b.2)

    spline_flag : (rational : Bool) (ts rest : List Token) (c : Chain)
        → (flag_at ts >>= spline_flag_of rational) ≡ Ok (c, rest)
        → IsCurve d fs (decimal 7 ∷ flag_text rational ∷ []) ts rest c
    spline_flag rational ts rest c e =
        let b = bind_ok (flag_at ts) (spline_flag_of rational) (c, rest) e in
        step d fs (decimal 7 ∷ flag_text rational ∷ []) (flag_text b.0.0) ts b.0.1 rest c
        (fields.flag.takes ts b.0.1 b.0.0 b.1).0 (spline_degree rational b.0.0 b.0.1 rest c b.2)

    spline_takes : (ts rest : List Token) (c : Chain) → spline_at d fs ts ≡ Ok (c, rest)
        → IsCurve d fs (decimal 7 ∷ []) ts rest c
    spline_takes ts rest c e =
        let b = bind_ok (flag_at ts) (λ rational. flag_at rational.1 >>= spline_flag_of rational.0) (c, rest) e in
        step d fs (decimal 7 ∷ []) (flag_text b.0.0) ts b.0.1 rest c (fields.flag.takes ts b.0.1 b.0.0 b.1).0
        (spline_flag b.0.0 b.0.1 rest c b.2)

  -- ---- the frames around it

  pub record IsChain (d : Dimension) (room : ℕ) (fs : List Frame) (ts rest : List Token) (c : Chain) : Type 0 where
    pub new : List Frame
    pub frames : c.frames ≡ fs ++ new
    pub nest : length new < room
    pub each : AllByRecursion (IsFrame d) new
    pub form : IsForm c.form (length c.knots.texts)
    pub texts : AreDecimals (form_size d c.form) c.texts
    pub knots : AreKnots (length c.knots.texts) c.knots
    pub begins : Begins ts (flat_map spell_frame new ++ spell_leaf c) rest

  alone : (d : Dimension) (n : ℕ) (fs : List Frame) (code : ℕ) (all ts rest : List Token) (c : Chain)
      → Begins all (decimal code ∷ []) ts → IsCurve d fs (decimal code ∷ []) ts rest c → IsChain d (suc n) fs all rest c
  alone d n fs code all ts rest c b is = record {
    new = [];
    frames = is.frames ∙ sym (append-nil fs);
    nest = omega arith;
    each = tt;
    form = is.form;
    texts = is.texts;
    knots = is.knots;
    begins = is.begins all b;
  }

  inside : (d : Dimension) (n : ℕ) (fs : List Frame) (wrap : Wrap) (texts : List (List ℕ))
      (all ts mid rest : List Token) (c : Chain) → Begins all (decimal (wrap_code wrap) ∷ []) ts → Begins ts texts mid
      → AreDecimals (wrap_size d wrap) texts
      → IsChain d n (fs ++ record { wrap = wrap; texts = texts } ∷ []) mid rest c → IsChain d (suc n) fs all rest c
  inside d n fs wrap texts all ts mid rest c b1 b2 are is = record {
    new = record { wrap = wrap; texts = texts } ∷ is.new;
    frames = is.frames ∙ append_assoc fs (record { wrap = wrap; texts = texts } ∷ []) is.new;
    nest = omega (arith, is.nest);
    each = (are, is.each);
    form = is.form;
    texts = is.texts;
    knots = is.knots;
    begins = subst (λ (z : List (List ℕ)). Begins all (decimal (wrap_code wrap) ∷ z) rest)
        (sym (append_assoc texts (flat_map spell_frame is.new) (spell_leaf c)))
        (fields.joined all (decimal (wrap_code wrap) ∷ []) ts (texts ++ (flat_map spell_frame is.new ++ spell_leaf c))
        rest b1 (fields.joined ts texts mid (flat_map spell_frame is.new ++ spell_leaf c) rest b2 is.begins));
  }

  abbrev stopped : {A : Type 0} → Refusal → Result A Refusal
  stopped r = Err r

  never : {A : Type 0} (r : Refusal) (x : A) → stopped r ≡ Ok x → ⊥
  never r x e = absurd cc

  chosen : {A : Type 0} (b : Bool) (x y z : A) → (if b then x else y) ≡ z
      → ((b ≡ true) × (x ≡ z)) ⊎ ((b ≡ false) × (y ≡ z))
  chosen true x y z e = inl (refl, e)
  chosen false x y z e = inr (refl, e)

  plain_low : (n : ℕ) → is_code n ≡ true → 1 ≤ n
  plain_low n is = grind (arith, nat_tests)

  plain_high : (n : ℕ) → is_code n ≡ true → (n == 6) ≡ false → (n == 7) ≡ false → (n == 8) ≡ false
      → (n == 9) ≡ false → n ≤ 5
  plain_high n is a b c d = grind (arith, nat_tests)

  module _ (d : Dimension) (n : ℕ) (fs : List Frame) (code : ℕ) (all ts rest : List Token) (c : Chain)
      (b : Begins all (decimal code ∷ []) ts) where
    abbrev Inner : Type 0
    Inner = (fs' : List Frame) (ts' : List Token) → chain_at d n fs' ts' ≡ Ok (c, rest) → IsChain d n fs' ts' rest c

    wrapped_takes : Inner → (wrap : Wrap) → code ≡ wrap_code wrap
        → wrapped_at d wrap fs (chain_at d n) ts ≡ Ok (c, rest) → IsChain d (suc n) fs all rest c
    wrapped_takes inner wrap is e =
        let x = bind_ok (decimals_at (wrap_size d wrap) ts)
        (λ texts. chain_at d n (fs ++ record { wrap = wrap; texts = texts.0 } ∷ []) texts.1) (c, rest) e in
        let one = (fields.decimals (wrap_size d wrap)).takes ts x.0.1 x.0.0 x.1 in
        inside d n fs wrap x.0.0 all ts x.0.1 rest c (subst (λ (k : ℕ). Begins all (decimal k ∷ []) ts) is b) one.0
        one.1 (inner (fs ++ record { wrap = wrap; texts = x.0.0 } ∷ []) x.0.1 x.2)

    coded_takes : Inner → is_code code ≡ true → coded_at d fs (chain_at d n) code ts ≡ Ok (c, rest)
        → IsChain d (suc n) fs all rest c
    coded_takes inner is e =
        elim (chosen (code == 6) (bezier_at d fs ts) _ (Ok (c, rest)) e) [
          | inl six ↦ alone d n fs 6 all ts rest c (subst (λ (k : ℕ). Begins all (decimal k ∷ []) ts)
              (eqb-true code 6 six.0) b) (bezier_takes d fs ts rest c six.1)
          | inr no6 ↦ elim (chosen (code == 7) (spline_at d fs ts) _ (Ok (c, rest)) no6.1) [
            | inl seven ↦ alone d n fs 7 all ts rest c (subst (λ (k : ℕ). Begins all (decimal k ∷ []) ts)
                (eqb-true code 7 seven.0) b) (spline_takes d fs ts rest c seven.1)
            | inr no7 ↦ elim (chosen (code == 8) (wrapped_at d Trimmed fs (chain_at d n) ts) _ (Ok (c, rest)) no7.1) [
              | inl eight ↦ wrapped_takes inner Trimmed (eqb-true code 8 eight.0) eight.1
              | inr no8 ↦ elim (chosen (code == 9) (wrapped_at d Offset fs (chain_at d n) ts) _ (Ok (c, rest)) no8.1) [
                | inl nine ↦ wrapped_takes inner Offset (eqb-true code 9 nine.0) nine.1
                | inr no9 ↦ alone d n fs code all ts rest c b (plain_takes d fs code ts rest c (plain_low code is)
                    (plain_high code is no6.0 no7.0 no8.0 no9.0) no9.1)
              ]
            ]
          ]
        ]

  pub chain_takes : (d : Dimension) (room : ℕ) (fs : List Frame) (ts rest : List Token) (c : Chain)
      → chain_at d room fs ts ≡ Ok (c, rest) → IsChain d room fs ts rest c
  chain_takes d zero fs ts rest c e =
      let b = bind_ok (code_at ts) (λ k. Err (fault (at_token codes.NestLimit 65 64 k.0.1))) (c, rest) e in
      absurd (never (fault (at_token codes.NestLimit 65 64 b.0.0.1)) (c, rest) b.2)
  chain_takes d (suc n) fs all rest c e =
      let b = bind_ok (code_at all) (λ k. coded_at d fs (chain_at d n) k.0.0 k.1) (c, rest) e in
      let k = code_takes all b.0.1 b.0.0.0 b.0.0.1 b.1 in
      coded_takes d n fs b.0.0.0 all b.0.1 rest c k.0 (λ fs' ts' h. chain_takes d n fs' ts' rest c h) k.1 b.2
