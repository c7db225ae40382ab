-- What a code begins is read exactly as it is spelled.
use Rattle.std.proofs.lemmas.Bool.Decides.{nat_tests}
use Rattle.std.proofs.lemmas.Bool.{eqb-true}
use Rattle.std.proofs.Common.{◌⊎◌, inl, inr, ◌≡◌, ℕ, suc, ◌*◌, ◌<◌, ◌≤◌, ◌==◌, Bool, true, false, if◌then◌else◌, List}
use Rattle.std.proofs.Common.{[], ◌∷◌, ◌++◌, length, Ok, refl, sym, ap, subst, ◌∙◌, arith}
use Rattle.std.specs.Fmt.{decimal}
use Rattle.lists.specs.Results.{◌>>=◌}
use Rattle.entry_readers.specs.Reading.{Knots, decimals_at, knots_at}
use Rattle.entry_readers.specs.Begins.{AreDecimals, AreKnots, Begins, FieldsAreExact, IsSmall, spell_knots, zipped}
use Rattle.lists.proofs.Results.{bind_ok, ok_is}
use Rattle.brep_tokens.specs.declared.text.Token.{Token}
use Rattle.curve_tables.specs.Curves.{curve3_at}
use Rattle.curve_tables.specs.Laws.{CurvesAreExact}
use Rattle.curve_tables.specs.Sound.{IsSound3}
use Rattle.curve_tables.specs.Spelling.{spelling3}
use Rattle.curve_tables.specs.declared.curve3.Curve3.{Curve3}
use Rattle.surface_tables.specs.Bodies.{body_of, form_size}
use Rattle.surface_tables.specs.Counts.{per_pole, plain_size, swept_size, wrap_size}
use Rattle.surface_tables.specs.HeaderLeft.{net_of}
use Rattle.surface_tables.specs.Headers.{bezier_at, is_code, spline_at}
use Rattle.surface_tables.specs.Sound.{AreKnotsOf, AreNumbers, IsBSpline, IsBezier, IsSoundIn, IsWrapped}
use Rattle.surface_tables.specs.Spelling.{spell_surface}
use Rattle.surface_tables.specs.Surfaces.{body_at, net_surface, part_at}
use Rattle.surface_tables.specs.declared.parts.Form.TheVariants as forms
use Rattle.surface_tables.specs.declared.parts.Part.{Part}
use Rattle.surface_tables.specs.declared.parts.Part.TheVariants as parts
use Rattle.surface_tables.specs.declared.parts.Wrap.{Wrap}
use Rattle.surface_tables.specs.declared.parts.Wrap.TheVariants.{Trimmed, Offset}
use Rattle.surface_tables.specs.declared.surface.SurfaceFlags.{SurfaceFlags}
use Rattle.surface_tables.specs.declared.surface.Surface.TheVariants as surfaces
use Rattle.surface_tables.proofs.Equations.{wrap_code}
use Rattle.surface_tables.proofs.HeaderLaws.{bezier_again, bezier_takes, bezier_texts, count_texts, counts_again}
use Rattle.surface_tables.proofs.HeaderLaws.{counts_take, flag_texts, flags_again, flags_take}

-- ---- what a part is that was read after its code: a sound surface with its spelling, or the front of a sound frame

abbrev pub PartIs : ℕ → ℕ → List Token → List Token → Part → Type 0
PartIs nest code ts rest (parts.Leaf s) = ((all : List Token) → Begins all (decimal code ∷ []) ts
    → Begins all (spell_surface s) rest) × IsSoundIn nest s
PartIs nest code ts rest (parts.Open f) = (code ≡ wrap_code f.wrap) × Begins ts f.texts rest
    × IsWrapped nest f.wrap f.texts

-- a part, and the tokens after it
abbrev after : Part → List Token → Part × List Token
after p ts = (p, ts)

chosen : {A : Type 0} (b : Bool) (x y z : A) → (if b then x else y) ≡ z
    → ((b ≡ true) × (x ≡ z)) ⊎ ((b ≡ false) × (y ≡ z))
chosen true x y z e = inl (refl, e)
chosen false x y z e = inr (refl, e)

same_test : (b : Bool) → (if b then true else false) ≡ b
same_test true = refl
same_test false = refl

plain_low : (n : ℕ) → is_code n ≡ true → 1 ≤ n
plain_low n is = grind (arith, nat_tests)

plain_high : (n : ℕ) → is_code n ≡ true → (n == 6) ≡ false → (n == 7) ≡ false → (n == 8) ≡ false → (n == 9) ≡ false
    → (n == 10) ≡ false → (n == 11) ≡ false → n ≤ 5
plain_high n is a b c d e f = grind (arith, nat_tests)

plain_not : (code k : ℕ) → code ≤ 5 → 5 < k → (code == k) ≡ false
plain_not code k low high = grind (arith, nat_tests)

six_or_seven : (code : ℕ) → 6 ≤ code → code ≤ 7 → (code ≡ 6) ⊎ (code ≡ 7)
six_or_seven code low high = elim (chosen (code == 6) true false (code == 6) (same_test (code == 6))) [
  | inl e ↦ inl (eqb-true code 6 e.0)
  | inr e ↦ inr (grind (arith, nat_tests, e.0))
]

pub plain_code : (code : ℕ) → 1 ≤ code → code ≤ 5 → is_code code ≡ true
plain_code code low high = grind (arith, nat_tests)

pub swept_code : (code : ℕ) → 6 ≤ code → code ≤ 7 → is_code code ≡ true
swept_code code low high = grind (arith, nat_tests)

module _ (fields : FieldsAreExact) (curves : CurvesAreExact) (nest : ℕ) (nested : nest < 64) where
  plain_takes : (code : ℕ) → 1 ≤ code → code ≤ 5 → (ts rest : List Token) (p : Part)
      → body_at (suc nest) (body_of (forms.Plain code)) ts ≡ Ok (p, rest) → PartIs nest code ts rest p
  plain_takes code low high ts rest p e =
      let x = bind_ok (decimals_at (plain_size code) ts)
      (λ texts. Ok (parts.Leaf (surfaces.Plain code texts.0), texts.1)) (p, rest) e in
      let q = ok_is (parts.Leaf (surfaces.Plain code x.0.0), x.0.1) (p, rest) x.2 in
      let one = (fields.decimals (plain_size code)).takes ts x.0.1 x.0.0 x.1 in
      let here : PartIs nest code ts x.0.1 (parts.Leaf (surfaces.Plain code x.0.0)) = (
        λ all b. fields.joined all (decimal code ∷ []) ts x.0.0 x.0.1 b one.0,
        record {
          nested = nested;
          from = low;
          to = high;
          decimals = one.1;
        },
      ) in
      subst (λ (z : Part × List Token). PartIs nest code ts z.1 z.0) q here

  swept_takes : (code : ℕ) → 6 ≤ code → code ≤ 7 → (ts rest : List Token) (p : Part)
      → body_at (suc nest) (body_of (forms.Swept code)) ts ≡ Ok (p, rest) → PartIs nest code ts rest p
  swept_takes code low high ts rest p e =
      let x = bind_ok (decimals_at (swept_size code) ts) (λ texts. curve3_at (suc nest) texts.1
      >>= λ c. Ok (parts.Leaf (surfaces.Swept code texts.0 c.0), c.1)) (p, rest) e in
      let y = bind_ok (curve3_at (suc nest) x.0.1) (λ c. Ok (parts.Leaf (surfaces.Swept code x.0.0 c.0), c.1))
      (p, rest) x.2 in
      let q = ok_is (parts.Leaf (surfaces.Swept code x.0.0 y.0.0), y.0.1) (p, rest) y.2 in
      let one = (fields.decimals (swept_size code)).takes ts x.0.1 x.0.0 x.1 in
      let two = (curves.curve3 (suc nest) (omega (arith, nested))).takes x.0.1 y.0.1 y.0.0 y.1 in
      let here : PartIs nest code ts y.0.1 (parts.Leaf (surfaces.Swept code x.0.0 y.0.0)) = (
        λ all b. fields.joined all (decimal code ∷ []) ts (x.0.0 ++ spelling3 y.0.0) y.0.1 b
            (fields.joined ts x.0.0 x.0.1 (spelling3 y.0.0) y.0.1 one.0 two.0),
        record { nested = nested; from = low; to = high; decimals = one.1; inner = two.1 },
      ) in
      subst (λ (z : Part × List Token). PartIs nest code ts z.1 z.0) q here

  around_takes : (wrap : Wrap) (ts rest : List Token) (p : Part)
      → body_at (suc nest) (body_of (forms.Around wrap)) ts ≡ Ok (p, rest) → PartIs nest (wrap_code wrap) ts rest p
  around_takes wrap ts rest p e =
      let x = bind_ok (decimals_at (wrap_size wrap) ts)
      (λ texts. Ok (parts.Open (record { wrap = wrap; texts = texts.0 }), texts.1)) (p, rest) e in
      let q = ok_is (parts.Open (record { wrap = wrap; texts = x.0.0 }), x.0.1) (p, rest) x.2 in
      let one = (fields.decimals (wrap_size wrap)).takes ts x.0.1 x.0.0 x.1 in
      let here : PartIs nest (wrap_code wrap) ts x.0.1 (parts.Open (record { wrap = wrap; texts = x.0.0 })) =
      (refl, one.0, record { nested = nested; decimals = one.1 }) in
      subst (λ (z : Part × List Token). PartIs nest (wrap_code wrap) ts z.1 z.0) q here

  bezier_takes_part : (ts rest : List Token) (p : Part)
      → (bezier_at ts >>= λ b. body_at (suc nest) b.0 b.1) ≡ Ok (p, rest) → PartIs nest 8 ts rest p
  bezier_takes_part ts rest p e =
      let b = bind_ok (bezier_at ts) (λ b. body_at (suc nest) b.0 b.1) (p, rest) e in
      let h = bezier_takes fields ts b.0.1 b.0.0 b.1 in
      let read : body_at (suc nest) (body_of (forms.Bezier h.u h.v h.n h.m)) b.0.1 ≡ Ok (p, rest) =
      ap (λ z. body_at (suc nest) z b.0.1) h.same ∙ b.2 in
      let size : ℕ = form_size (forms.Bezier h.u h.v h.n h.m) in
      let x = bind_ok (decimals_at size b.0.1)
      (λ texts. Ok (parts.Leaf (surfaces.Bezier h.u h.v h.n h.m texts.0), texts.1)) (p, rest) read in
      let q = ok_is (parts.Leaf (surfaces.Bezier h.u h.v h.n h.m x.0.0), x.0.1) (p, rest) x.2 in
      let one = (fields.decimals size).takes b.0.1 x.0.1 x.0.0 x.1 in
      let here : PartIs nest 8 ts x.0.1 (parts.Leaf (surfaces.Bezier h.u h.v h.n h.m x.0.0)) = (
        λ all c. fields.joined all (decimal 8 ∷ []) ts (bezier_texts h.u h.v h.n h.m ++ x.0.0) x.0.1 c
            (fields.joined ts (bezier_texts h.u h.v h.n h.m) b.0.1 x.0.0 x.0.1 h.begins one.0),
        record {
          nested = nested;
          u_small = h.n_small;
          v_small = h.m_small;
          poles_small = h.poles_small;
          decimals = one.1;
        },
      ) in
      subst (λ (z : Part × List Token). PartIs nest 8 ts z.1 z.0) q here

  knots_are : (n : ℕ) (k : Knots) → IsSmall n → AreKnots n k → AreKnotsOf k.texts k.counts
  knots_are n k small are = record { small = rw are.texts.0 small; pairs = rw are.texts.0 are }

  spline_part : (f : SurfaceFlags) (n m p q k l : ℕ) (ts mid last end rest : List Token) (poles : List (List ℕ))
      (u v : Knots) (part : Part) → Begins ts (flag_texts f) mid → Begins mid (count_texts n m p q k l) last
      → Begins last (poles ++ (spell_knots u ++ spell_knots v)) end
      → IsBSpline nest f n m p q poles u.texts u.counts v.texts v.counts → length u.texts ≡ k → length v.texts ≡ l
      → after (net_surface (net_of f n m p q) poles u v) end ≡ after part rest → PartIs nest 9 ts rest part
  spline_part f n m p q k l ts mid last end rest poles u v part b1 b2 b3 is uk vl same =
      let two : Begins mid (count_texts n m p q (length u.texts) l) last =
      subst (λ (z : ℕ). Begins mid (count_texts n m p q z l) last) (sym uk) b2 in
      let counts : Begins mid (count_texts n m p q (length u.texts) (length v.texts)) last =
      subst (λ (z : ℕ). Begins mid (count_texts n m p q (length u.texts) z) last) (sym vl) two in
      let tail : List (List ℕ) = poles ++ (spell_knots u ++ spell_knots v) in
      let here : PartIs nest 9 ts end (net_surface (net_of f n m p q) poles u v) = (
        λ all b. fields.joined all (decimal 9 ∷ []) ts
            (flag_texts f ++ (count_texts n m p q (length u.texts) (length v.texts) ++ tail)) end b
            (fields.joined ts (flag_texts f) mid (count_texts n m p q (length u.texts) (length v.texts) ++ tail) end b1
            (fields.joined mid (count_texts n m p q (length u.texts) (length v.texts)) last tail end counts b3)),
        is,
      ) in
      subst (λ (z : Part × List Token). PartIs nest 9 ts z.1 z.0) same here

  spline_body : (f : SurfaceFlags) (n m p q k l : ℕ) (ts mid last rest : List Token) (part : Part)
      → Begins ts (flag_texts f) mid → Begins mid (count_texts n m p q k l) last → AreNumbers n m p q
      → IsSmall k → IsSmall l
      → body_at (suc nest) (body_of (forms.BSpline (net_of f n m p q) k l)) last ≡ Ok (part, rest)
      → PartIs nest 9 ts rest part
  spline_body f n m p q k l ts mid last rest part b1 b2 numbers k_small l_small e =
      let size : ℕ = p * q * per_pole f.urational f.vrational in
      let x = bind_ok (decimals_at size last) (λ texts. knots_at k texts.1 >>= λ u. knots_at l u.1
      >>= λ v. Ok (net_surface (net_of f n m p q) texts.0 u.0 v.0, v.1)) (part, rest) e in
      let u = bind_ok (knots_at k x.0.1) (λ u. knots_at l u.1 >>= λ v. Ok (
        net_surface (net_of f n m p q) x.0.0 u.0 v.0,
        v.1,
      )) (part, rest) x.2 in
      let v = bind_ok (knots_at l u.0.1) (λ v. Ok (net_surface (net_of f n m p q) x.0.0 u.0.0 v.0, v.1))
      (part, rest) u.2 in
      let same = ok_is (net_surface (net_of f n m p q) x.0.0 u.0.0 v.0.0, v.0.1) (part, rest) v.2 in
      let one = (fields.decimals size).takes last x.0.1 x.0.0 x.1 in
      let two = (fields.knots k).takes x.0.1 u.0.1 u.0.0 u.1 in
      let three = (fields.knots l).takes u.0.1 v.0.1 v.0.0 v.1 in
      spline_part f n m p q k l ts mid last v.0.1 rest x.0.0 u.0.0 v.0.0 part b1 b2
      (fields.joined last x.0.0 x.0.1 (spell_knots u.0.0 ++ spell_knots v.0.0) v.0.1 one.0
      (fields.joined x.0.1 (spell_knots u.0.0) u.0.1 (spell_knots v.0.0) v.0.1 two.0 three.0))
      (record {
        nested = nested;
        numbers = numbers;
        decimals = one.1;
        u = knots_are k u.0.0 k_small two.1;
        v = knots_are l v.0.0 l_small three.1;
      }) two.1.texts.0 three.1.texts.0 same

  spline_takes_part : (ts rest : List Token) (p : Part)
      → (spline_at ts >>= λ b. body_at (suc nest) b.0 b.1) ≡ Ok (p, rest) → PartIs nest 9 ts rest p
  spline_takes_part ts rest p e =
      let b = bind_ok (spline_at ts) (λ b. body_at (suc nest) b.0 b.1) (p, rest) e in
      let f = flags_take fields ts b.0.1 b.0.0 b.1 in
      let h = counts_take fields f.all f.mid b.0.1 b.0.0 f.next in
      spline_body f.all h.n h.m h.p h.q h.k h.l ts f.mid b.0.1 rest p f.begins h.begins h.numbers h.k_small h.l_small
      (ap (λ z. body_at (suc nest) z b.0.1) h.same ∙ b.2)

  -- what was read of a part after its code
  pub part_takes : (code : ℕ) → is_code code ≡ true → (ts rest : List Token) (p : Part)
      → part_at (suc nest) code ts ≡ Ok (p, rest) → PartIs nest code ts rest p
  part_takes code is ts rest p e =
      elim (chosen (code == 6) _ _ (Ok (p, rest)) e) [
        | inl a ↦ subst (λ (k : ℕ). PartIs nest k ts rest p) (sym (eqb-true code 6 a.0))
            (swept_takes 6 (omega arith) (omega arith) ts rest p a.1)
        | inr no6 ↦ elim (chosen (code == 7) _ _ (Ok (p, rest)) no6.1) [
          | inl a ↦ subst (λ (k : ℕ). PartIs nest k ts rest p) (sym (eqb-true code 7 a.0))
              (swept_takes 7 (omega arith) (omega arith) ts rest p a.1)
          | inr no7 ↦ elim (chosen (code == 8) _ _ (Ok (p, rest)) no7.1) [
            | inl a ↦ subst (λ (k : ℕ). PartIs nest k ts rest p) (sym (eqb-true code 8 a.0))
                (bezier_takes_part ts rest p a.1)
            | inr no8 ↦ elim (chosen (code == 9) _ _ (Ok (p, rest)) no8.1) [
              | inl a ↦ subst (λ (k : ℕ). PartIs nest k ts rest p) (sym (eqb-true code 9 a.0))
                  (spline_takes_part ts rest p a.1)
              | inr no9 ↦ elim (chosen (code == 10) _ _ (Ok (p, rest)) no9.1) [
                | inl a ↦ subst (λ (k : ℕ). PartIs nest k ts rest p) (sym (eqb-true code 10 a.0))
                    (around_takes Trimmed ts rest p a.1)
                | inr no10 ↦ elim (chosen (code == 11) _ _ (Ok (p, rest)) no10.1) [
                  | inl a ↦ subst (λ (k : ℕ). PartIs nest k ts rest p) (sym (eqb-true code 11 a.0))
                      (around_takes Offset ts rest p a.1)
                  | inr no11 ↦ plain_takes code (plain_low code is)
                      (plain_high code is no6.0 no7.0 no8.0 no9.0 no10.0 no11.0) ts rest p no11.1
                ]
              ]
            ]
          ]
        ]
      ]

  -- ---- what is spelled is read

  pub plain_again : (code : ℕ) → 1 ≤ code → code ≤ 5 → (ts rest : List Token) (texts : List (List ℕ))
      → Begins ts texts rest → AreDecimals (plain_size code) texts
      → part_at (suc nest) code ts ≡ Ok (parts.Leaf (surfaces.Plain code texts), rest)
  plain_again code low high ts rest texts b are =
      rw (
        plain_not code 6 high (omega arith),
        plain_not code 7 high (omega arith),
        plain_not code 8 high (omega arith),
        plain_not code 9 high (omega arith),
        plain_not code 10 high (omega arith),
        plain_not code 11 high (omega arith),
        (fields.decimals (plain_size code)).again ts rest texts b are,
      ) refl

  abbrev SweptAgain : ℕ → Type 0
  SweptAgain code = (ts rest : List Token) (texts : List (List ℕ)) (curve : Curve3)
      → Begins ts (texts ++ spelling3 curve) rest → AreDecimals (swept_size code) texts → IsSound3 (suc nest) curve
      → part_at (suc nest) code ts ≡ Ok (parts.Leaf (surfaces.Swept code texts curve), rest)

  extrusion_again : SweptAgain 6
  extrusion_again ts rest texts curve b are is =
      let s = fields.split ts texts (spelling3 curve) rest b in
      rw (
        (fields.decimals 3).again ts s.0 texts s.1 are,
        (curves.curve3 (suc nest) (omega (arith, nested))).again s.0
            rest curve s.2 is,
      ) refl

  revolution_again : SweptAgain 7
  revolution_again ts rest texts curve b are is =
      let s = fields.split ts texts (spelling3 curve) rest b in
      rw (
        (fields.decimals 6).again ts s.0 texts s.1 are,
        (curves.curve3 (suc nest) (omega (arith, nested))).again s.0
            rest curve s.2 is,
      ) refl

  pub swept_again : (code : ℕ) → 6 ≤ code → code ≤ 7 → SweptAgain code
  swept_again code low high = elim (six_or_seven code low high) [
    | inl e ↦ subst SweptAgain (sym e) extrusion_again
    | inr e ↦ subst SweptAgain (sym e) revolution_again
  ]

  pub bezier_part_again : (u v : Bool) (n m : ℕ) (ts rest : List Token) (poles : List (List ℕ))
      → Begins ts (bezier_texts u v n m ++ poles) rest → IsBezier nest u v n m poles
      → part_at (suc nest) 8 ts ≡ Ok (parts.Leaf (surfaces.Bezier u v n m poles), rest)
  bezier_part_again u v n m ts rest poles b is =
      let s = fields.split ts (bezier_texts u v n m) poles rest b in
      rw (
        bezier_again fields u v n m ts s.0 s.1 is.u_small is.v_small is.poles_small,
        (fields.decimals (form_size (forms.Bezier u v n m))).again s.0 rest poles s.2 is.decimals,
      ) refl

  pub spline_part_again : (f : SurfaceFlags) (n m p q : ℕ) (ts rest : List Token) (poles uknots : List (List ℕ))
      (umult : List ℕ) (vknots : List (List ℕ)) (vmult : List ℕ)
      → Begins ts (flag_texts f ++ (count_texts n m p q (length uknots) (length vknots)
      ++ (poles ++ (zipped uknots umult ++ zipped vknots vmult)))) rest
      → IsBSpline nest f n m p q poles uknots umult vknots vmult
      → part_at (suc nest) 9 ts ≡ Ok (parts.Leaf (surfaces.BSpline f n m p q poles uknots umult vknots vmult), rest)
  spline_part_again f n m p q ts rest poles uknots umult vknots vmult b is =
      let s1 = fields.split ts (flag_texts f) (count_texts n m p q (length uknots) (length vknots)
      ++ (poles ++ (zipped uknots umult ++ zipped vknots vmult))) rest b in
      let s2 = fields.split s1.0 (count_texts n m p q (length uknots) (length vknots))
      (poles ++ (zipped uknots umult ++ zipped vknots vmult)) rest s1.2 in
      let s3 = fields.split s2.0 poles (zipped uknots umult ++ zipped vknots vmult) rest s2.2 in
      let s4 = fields.split s3.0 (zipped uknots umult) (zipped vknots vmult) rest s3.2 in
      let header : spline_at ts ≡ Ok
      (body_of (forms.BSpline (net_of f n m p q) (length uknots) (length vknots)), s2.0) =
      flags_again fields f ts s1.0 s1.1 ∙ counts_again fields f n m p q (length uknots) (length vknots) s1.0 s2.0 s2.1
      is.numbers is.u.small is.v.small in
      rw (
        header,
        (fields.decimals (p * q * per_pole f.urational f.vrational)).again s2.0 s3.0 poles s3.1 is.decimals,
        (fields.knots (length uknots)).again s3.0 s4.0 (record { texts = uknots; counts = umult }) s4.1 is.u.pairs,
        (fields.knots (length vknots)).again s4.0 rest (record { texts = vknots; counts = vmult }) s4.2 is.v.pairs,
      ) refl

  pub around_again : (wrap : Wrap) (ts rest : List Token) (texts : List (List ℕ)) → Begins ts texts rest
      → AreDecimals (wrap_size wrap) texts
      → part_at (suc nest) (wrap_code wrap) ts ≡ Ok (parts.Open (record { wrap = wrap; texts = texts }), rest)
  around_again Trimmed ts rest texts b are = rw ((fields.decimals 4).again ts rest texts b are) refl
  around_again Offset ts rest texts b are = rw ((fields.decimals 1).again ts rest texts b are) refl
