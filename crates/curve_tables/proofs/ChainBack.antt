-- A chain is read again where it is spelled; so chains are read exactly as they are spelled.
use Rattle.std.proofs.lemmas.Bool.Decides.{nat_tests}
use Rattle.std.proofs.Common.{◌≡◌, ℕ, zero, suc, ◌+◌, ◌*◌, ◌<◌, ◌≤◌, Bool, true, false}
use Rattle.std.proofs.Common.{◌==◌, List, [], ◌∷◌, ◌++◌, length, Ok, refl, sym, subst, ◌∙◌}
use Rattle.std.proofs.Common.{append_assoc, append-nil, arith}
use Rattle.std.specs.List.{AllByRecursion, flat_map}
use Rattle.std.specs.Fmt.{decimal}
use Rattle.brep_tokens.specs.Forms.{flag_text}
use Rattle.entry_readers.specs.Begins.{Begins, AreDecimals, AreKnots, IsSmall, spell_knots, FieldsAreExact}
use Rattle.brep_tokens.specs.declared.text.Token.{Token}
use Rattle.curve_tables.specs.Counts.{plain_size, per_pole, wrap_size}
use Rattle.curve_tables.specs.Chains.{Chain, chain_at, coded_at, leaf_at, bezier_at, spline_at}
use Rattle.curve_tables.specs.Chains.{is_code}
use Rattle.curve_tables.specs.Parts.{wrap_code, spell_frame, spell_form, spell_leaf, form_size, IsForm, IsFrame}
use Rattle.curve_tables.specs.Parts.{ChainsAreExact}
use Rattle.curve_tables.specs.declared.parts.Dimension.{Dimension}
use Rattle.curve_tables.specs.declared.parts.Form.{Form}
use Rattle.curve_tables.specs.declared.parts.Form.TheVariants.{Plain, Bezier, BSpline}
use Rattle.curve_tables.specs.declared.parts.Frame.{Frame}
use Rattle.curve_tables.specs.declared.parts.Wrap.{Wrap}
use Rattle.curve_tables.specs.declared.parts.Wrap.TheVariants.{Trimmed, Offset}
use Rattle.curve_tables.proofs.ChainLaws.{chain_takes, code_again, leaf_again}

module _ (fields : FieldsAreExact) where
  bezier_again : (d : Dimension) (c : Chain) (rational : Bool) (degree : ℕ) (ts rest : List Token)
      → c.form ≡ Bezier rational degree → IsSmall degree → AreDecimals ((degree + 1) * per_pole d rational) c.texts
      → AreKnots 0 c.knots
      → Begins ts (flag_text rational ∷ decimal degree ∷ (c.texts ++ spell_knots c.knots)) rest
      → bezier_at d c.frames ts ≡ Ok (c, rest)
  bezier_again d c rational degree ts rest form small texts knots b =
      let s1 = fields.split ts (flag_text rational ∷ []) (decimal degree ∷ (c.texts ++ spell_knots c.knots)) rest b in
      let s2 = fields.split s1.0 (decimal degree ∷ []) (c.texts ++ spell_knots c.knots) rest s1.2 in
      rw (fields.flag.again ts s1.0 rational s1.1 tt, fields.number.again s1.0 s2.0 degree s2.1 small, ← form)
      (leaf_again fields d c ((degree + 1) * per_pole d rational) 0 s2.0 rest s2.2 texts knots)

  spline_again : (d : Dimension) (c : Chain) (rational flag : Bool) (degree poles count : ℕ) (ts rest : List Token)
      → c.form ≡ BSpline rational flag degree poles → IsSmall degree → IsSmall poles → IsSmall count
      → AreDecimals (poles * per_pole d rational) c.texts → AreKnots count c.knots
      → Begins ts (flag_text rational ∷ flag_text flag ∷ decimal degree ∷ decimal poles ∷ decimal count
      ∷ (c.texts ++ spell_knots c.knots)) rest → spline_at d c.frames ts ≡ Ok (c, rest)
  spline_again d c rational flag degree poles count ts rest form small1 small2 small3 texts knots b =
      let end : List (List ℕ) = c.texts ++ spell_knots c.knots in
      let s1 = fields.split ts (flag_text rational ∷ [])
      (flag_text flag ∷ decimal degree ∷ decimal poles ∷ decimal count ∷ (c.texts ++ spell_knots c.knots)) rest b in
      let s2 = fields.split s1.0 (flag_text flag ∷ [])
      (decimal degree ∷ decimal poles ∷ decimal count ∷ (c.texts ++ spell_knots c.knots)) rest s1.2 in
      let s3 = fields.split s2.0 (decimal degree ∷ [])
      (decimal poles ∷ decimal count ∷ (c.texts ++ spell_knots c.knots)) rest s2.2 in
      let s4 = fields.split s3.0 (decimal poles ∷ []) (decimal count ∷ (c.texts ++ spell_knots c.knots)) rest s3.2 in
      let s5 = fields.split s4.0 (decimal count ∷ []) (c.texts ++ spell_knots c.knots) rest s4.2 in
      rw (
        fields.flag.again ts s1.0 rational s1.1 tt,
        fields.flag.again s1.0 s2.0 flag s2.1 tt,
        fields.number.again s2.0 s3.0 degree s3.1 small1,
        fields.number.again s3.0 s4.0 poles s4.1 small2,
        fields.number.again s4.0 s5.0 count s5.1 small3,
        ← form,
      )
      (leaf_again fields d c (poles * per_pole d rational) count s5.0 rest s5.2 texts knots)

  plain_not : (code k : ℕ) → code ≤ 5 → 5 < k → (code == k) ≡ false
  plain_not code k low high = grind (arith, nat_tests)

  plain_code : (code : ℕ) → 1 ≤ code → code ≤ 5 → is_code code ≡ true
  plain_code code low high = grind (arith, nat_tests)

  small : (n : ℕ) → n ≤ 9 → IsSmall n
  small n le = omega arith

  module _ (d : Dimension) (n : ℕ) (fs : List Frame) (c : Chain) (ts rest : List Token) where
    -- a code was read, and what it begins
    opened : (code : ℕ) (mid : List Token) → Begins ts (decimal code ∷ []) mid → code ≤ 9 → is_code code ≡ true
        → coded_at d fs (chain_at d n) code mid ≡ Ok (c, rest) → chain_at d (suc n) fs ts ≡ Ok (c, rest)
    opened code mid b le is e =
        let k = code_again fields ts mid code b (small code le) is in
        rw k.1 e

    leaf_again_at : (f : Form) → c.form ≡ f → fs ≡ c.frames → IsForm f (length c.knots.texts)
        → AreDecimals (form_size d f) c.texts → AreKnots (length c.knots.texts) c.knots
        → Begins ts (spell_form f (length c.knots.texts) ++ (c.texts ++ spell_knots c.knots)) rest
        → chain_at d (suc n) fs ts ≡ Ok (c, rest)
    leaf_again_at (Plain code) form frames is texts knots b =
        let s = fields.split ts (decimal code ∷ []) (c.texts ++ spell_knots c.knots) rest b in
        let leaf : leaf_at d fs (Plain code) (plain_size d code) 0 s.0 ≡ Ok (c, rest) =
        rw (frames, ← form) (leaf_again fields d c (plain_size d code) 0 s.0 rest s.2 texts
        (subst (λ (m : ℕ). AreKnots m c.knots) is.2 knots)) in
        opened code s.0 s.1 (omega (arith, is.1)) (plain_code code is.0 is.1)
        (rw (
          plain_not code 6 is.1 (omega arith),
          plain_not code 7 is.1 (omega arith),
          plain_not code 8 is.1 (omega arith),
          plain_not code 9 is.1 (omega arith),
        ) leaf)
    leaf_again_at (Bezier rational degree) form frames is texts knots b =
        let s = fields.split ts (decimal 6 ∷ [])
        (flag_text rational ∷ decimal degree ∷ (c.texts ++ spell_knots c.knots)) rest b in
        opened 6 s.0 s.1 (omega arith) refl
        (rw frames (bezier_again d c rational degree s.0 rest form is.0 texts
        (subst (λ (m : ℕ). AreKnots m c.knots) is.1 knots) s.2))
    leaf_again_at (BSpline rational flag degree poles) form frames is texts knots b =
        let s = fields.split ts (decimal 7 ∷ []) (flag_text rational ∷ flag_text flag ∷ decimal degree ∷ decimal poles
        ∷ decimal (length c.knots.texts) ∷ (c.texts ++ spell_knots c.knots)) rest b in
        opened 7 s.0 s.1 (omega arith) refl
        (rw frames (spline_again d c rational flag degree poles (length c.knots.texts) s.0 rest form is.0 is.1 is.2
        texts knots s.2))

    frame_again_at : (wrap : Wrap) (texts : List (List ℕ)) (mid : List Token) → AreDecimals (wrap_size d wrap) texts
        → Begins ts (decimal (wrap_code wrap) ∷ texts) mid
        → chain_at d n (fs ++ record { wrap = wrap; texts = texts } ∷ []) mid ≡ Ok (c, rest)
        → chain_at d (suc n) fs ts ≡ Ok (c, rest)
    frame_again_at Trimmed texts mid are b inner =
        let s = fields.split ts (decimal 8 ∷ []) texts mid b in
        opened 8 s.0 s.1 (omega arith) refl (rw ((fields.decimals 2).again s.0 mid texts s.2 are) inner)
    frame_again_at Offset texts mid are b inner =
        let s = fields.split ts (decimal 9 ∷ []) texts mid b in
        opened 9 s.0 s.1 (omega arith) refl
        (rw ((fields.decimals (wrap_size d Offset)).again s.0 mid texts s.2 are) inner)

  chain_again : (d : Dimension) (room : ℕ) (new fs : List Frame) (c : Chain) (ts rest : List Token)
      → c.frames ≡ fs ++ new → length new < room → AllByRecursion (IsFrame d) new
      → IsForm c.form (length c.knots.texts) → AreDecimals (form_size d c.form) c.texts
      → AreKnots (length c.knots.texts) c.knots
      → Begins ts (flat_map spell_frame new ++ spell_leaf c) rest → chain_at d room fs ts ≡ Ok (c, rest)
  chain_again d zero new fs c ts rest frames nest each form texts knots b = absurd (omega (arith, nest))
  chain_again d (suc n) [] fs c ts rest frames nest each form texts knots b =
      leaf_again_at d n fs c ts rest c.form refl (sym (frames ∙ append-nil fs)) form texts knots b
  chain_again d (suc n) (f ∷ new) fs c ts rest frames nest each form texts knots b =
      let whole : Begins ts ((decimal (wrap_code f.wrap) ∷ f.texts) ++ (flat_map spell_frame new ++ spell_leaf c))
      rest =
      subst (λ (z : List (List ℕ)). Begins ts (decimal (wrap_code f.wrap) ∷ z) rest)
      (append_assoc f.texts (flat_map spell_frame new) (spell_leaf c)) b in
      let s = fields.split ts (decimal (wrap_code f.wrap) ∷ f.texts)
      (flat_map spell_frame new ++ spell_leaf c) rest whole in
      frame_again_at d n fs c ts rest f.wrap f.texts s.0 each.0 s.1
      (chain_again d n new (fs ++ f ∷ []) c s.0 rest (frames ∙ sym (append_assoc fs (f ∷ []) new))
      (omega (arith, nest)) each.1 form texts knots s.2)

  pub chains_are_exact : ChainsAreExact
  chains_are_exact d room = record {
    takes = λ ts rest c e. (let is = chain_takes fields d room [] ts rest c e in (
      subst (λ (fs : List Frame). Begins ts (flat_map spell_frame fs ++ spell_leaf c) rest) (sym is.frames) is.begins,
      record {
        nest = subst (λ (fs : List Frame). length fs < room) (sym is.frames) is.nest;
        frames = subst (λ (fs : List Frame). AllByRecursion (IsFrame d) fs) (sym is.frames) is.each;
        form = is.form;
        texts = is.texts;
        knots = is.knots;
      },
    ));
    again = λ ts rest c b is. chain_again d room c.frames [] c ts rest refl is.nest is.frames is.form
        is.texts is.knots b;
  }
