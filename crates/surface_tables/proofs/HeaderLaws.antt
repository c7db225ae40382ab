-- The numbers in front of a surface's decimals are read exactly as they are spelled.
use Rattle.std.proofs.lemmas.Bool.Decides.{nat_tests}
use Rattle.std.proofs.Common.{◌≡◌, ℕ, ◌+◌, ◌*◌, ◌^◌, Bool, true, if◌then◌else◌, List, [], ◌∷◌, Ok, Err, refl, sym, ap}
use Rattle.std.proofs.Common.{subst, ◌∙◌, arith}
use Rattle.std.specs.Prelude.{nat_lt}
use Rattle.std.specs.Fmt.{decimal}
use Rattle.brep_tokens.specs.Forms.{flag_text}
use Rattle.entry_readers.specs.Reading.{fault, at_token, refused, number_at, flag_at}
use Rattle.entry_readers.specs.Begins.{Begins, IsSmall, FieldsAreExact}
use Rattle.lists.proofs.Results.{bind_ok, guard_ok, ok_is}
use Rattle.brep_tokens.specs.declared.text.Token.{Token}
use Rattle.brep_tokens.specs.declared.fault.ReadCode.TheVariants as codes
use Rattle.surface_tables.specs.Bodies.{bezier_poles, body_of}
use Rattle.surface_tables.specs.Counts.{per_pole}
use Rattle.surface_tables.specs.HeaderLeft.{bezier_left, counts_left, flags_left, flags_of, net_of}
use Rattle.surface_tables.specs.Headers.{bezier_at, code_at, is_code, sized_at, spline_at}
use Rattle.surface_tables.specs.Sound.{AreNumbers}
use Rattle.surface_tables.specs.declared.header.BezierHeader.TheVariants as bezier
use Rattle.surface_tables.specs.declared.header.SplineFlags.TheVariants as flags
use Rattle.surface_tables.specs.declared.header.SplineCounts.TheVariants as counts
use Rattle.surface_tables.specs.declared.parts.Body.{Body}
use Rattle.surface_tables.specs.declared.parts.Form.TheVariants as forms
use Rattle.surface_tables.specs.declared.surface.SurfaceFlags.{SurfaceFlags}

-- ---- what was read of a Bezier surface

abbrev pub bezier_texts : Bool → Bool → ℕ → ℕ → List (List ℕ)
bezier_texts u v n m = flag_text u ∷ flag_text v ∷ decimal n ∷ decimal m ∷ []

pub record BezierRead (ts rest : List Token) (b : Body) : Type 0 where
  pub u : Bool
  pub v : Bool
  pub n : ℕ
  pub m : ℕ
  pub same : body_of (forms.Bezier u v n m) ≡ b
  pub begins : Begins ts (bezier_texts u v n m) rest
  pub n_small : IsSmall n
  pub m_small : IsSmall m
  pub poles_small : IsSmall (bezier_poles n m)

-- ---- and of a B-spline surface

abbrev pub flag_texts : SurfaceFlags → List (List ℕ)
flag_texts f = flag_text f.urational ∷ flag_text f.vrational ∷ flag_text f.uflag ∷ flag_text f.vflag ∷ []

pub record FlagsRead (ts rest : List Token) (b : Body) : Type 0 where
  pub all : SurfaceFlags
  pub mid : List Token
  pub begins : Begins ts (flag_texts all) mid
  pub next : counts_left (counts.Udegree all) mid ≡ Ok (b, rest)

abbrev pub count_texts : ℕ → ℕ → ℕ → ℕ → ℕ → ℕ → List (List ℕ)
count_texts n m p q k l = decimal n ∷ decimal m ∷ decimal p ∷ decimal q ∷ decimal k ∷ decimal l ∷ []

pub record CountsRead (f : SurfaceFlags) (ts rest : List Token) (b : Body) : Type 0 where
  pub n : ℕ
  pub m : ℕ
  pub p : ℕ
  pub q : ℕ
  pub k : ℕ
  pub l : ℕ
  pub same : body_of (forms.BSpline (net_of f n m p q) k l) ≡ b
  pub begins : Begins ts (count_texts n m p q k l) rest
  pub numbers : AreNumbers n m p q
  pub k_small : IsSmall k
  pub l_small : IsSmall l

module _ (fields : FieldsAreExact) where
  -- ---- one token

  pub code_takes : (ts rest : List Token) (n : ℕ) (t : Token) → code_at ts ≡ Ok ((n, t), rest)
      → Begins ts (decimal n ∷ []) rest × (is_code n ≡ true)
  code_takes [] rest n t e = absurd cc
  code_takes (u ∷ ts) rest n t e =
      let b = bind_ok (number_at (u ∷ ts)) (λ m. if is_code m.0 then Ok ((m.0, u), m.1)
      else Err (fault (at_token codes.UnknownCode m.0 0 u))) ((n, t), rest) e in
      let g = guard_ok (is_code b.0.0) (fault (at_token codes.UnknownCode b.0.0 0 u)) ((b.0.0, u), b.0.1)
      ((n, t), rest) b.2 in
      let same : b.0.0 ≡ n = ap (λ p. p.0.0) g.1 in
      let left : b.0.1 ≡ rest = ap (λ p. p.1) g.1 in
      let one : Begins (u ∷ ts) (decimal b.0.0 ∷ []) b.0.1 = (fields.number.takes (u ∷ ts) b.0.1 b.0.0 b.1).0 in
      ((one.0 ∙ ap decimal same, one.1 ∙ left), ap is_code (sym same) ∙ g.0)

  pub code_again : (ts rest : List Token) (n : ℕ) → Begins ts (decimal n ∷ []) rest → IsSmall n → is_code n ≡ true
      → (t : Token) × (code_at ts ≡ Ok ((n, t), rest))
  code_again [] rest n b small is = absurd b
  code_again (u ∷ ts) rest n b small is =
      let one : number_at (u ∷ ts) ≡ Ok (n, rest) = fields.number.again (u ∷ ts) rest n b small in
      (u, rw (one, is) refl)

  pub sized_takes : (poles : ℕ → ℕ) (ts rest : List Token) (n : ℕ) → sized_at poles ts ≡ Ok (n, rest)
      → Begins ts (decimal n ∷ []) rest × IsSmall n × IsSmall (poles n)
  sized_takes poles [] rest n e = absurd cc
  sized_takes poles (t ∷ ts) rest n e =
      let b = bind_ok (number_at (t ∷ ts)) (λ m. if nat_lt (poles m.0) (10 ^ 18) then Ok m
      else Err (refused codes.TooMany t)) (n, rest) e in
      let g = guard_ok (nat_lt (poles b.0.0) (10 ^ 18)) (refused codes.TooMany t) b.0 (n, rest) b.2 in
      let one = fields.number.takes (t ∷ ts) b.0.1 b.0.0 b.1 in
      let lt : IsSmall (poles b.0.0) = grind (arith, nat_tests, g.0) in
      subst (λ (q : ℕ × List Token). Begins (t ∷ ts) (decimal q.0 ∷ []) q.1 × IsSmall q.0 × IsSmall (poles q.0)) g.1
      (one.0, one.1, lt)

  pub sized_again : (poles : ℕ → ℕ) (ts rest : List Token) (n : ℕ) → Begins ts (decimal n ∷ []) rest → IsSmall n
      → IsSmall (poles n) → sized_at poles ts ≡ Ok (n, rest)
  sized_again poles [] rest n b small fits = absurd b
  sized_again poles (t ∷ ts) rest n b small fits =
      let one : number_at (t ∷ ts) ≡ Ok (n, rest) = fields.number.again (t ∷ ts) rest n b small in
      let lt : nat_lt (poles n) (10 ^ 18) ≡ true = grind (arith, nat_tests, fits) in
      rw (one, lt) refl

  -- ---- a Bezier surface

  pub bezier_takes : (ts rest : List Token) (b : Body) → bezier_at ts ≡ Ok (b, rest) → BezierRead ts rest b
  bezier_takes ts rest b e =
      let u = bind_ok (flag_at ts) (λ x. bezier_left (bezier.Vrational x.0) x.1) (b, rest) e in
      let v = bind_ok (flag_at u.0.1) (λ x. bezier_left (bezier.Udegree u.0.0 x.0) x.1) (b, rest) u.2 in
      let n = bind_ok (number_at v.0.1) (λ x. bezier_left (bezier.Vdegree u.0.0 v.0.0 x.0 (x.0 + 1)) x.1)
      (b, rest) v.2 in
      let m = bind_ok (sized_at (λ x. (n.0.0 + 1) * (x + 1)) n.0.1)
      (λ x. Ok (body_of (forms.Bezier u.0.0 v.0.0 n.0.0 x.0), x.1)) (b, rest) n.2 in
      let same = ok_is (body_of (forms.Bezier u.0.0 v.0.0 n.0.0 m.0.0), m.0.1) (b, rest) m.2 in
      let b1 = (fields.flag.takes ts u.0.1 u.0.0 u.1).0 in
      let b2 = (fields.flag.takes u.0.1 v.0.1 v.0.0 v.1).0 in
      let b3 = fields.number.takes v.0.1 n.0.1 n.0.0 n.1 in
      let b4 = sized_takes (λ x. (n.0.0 + 1) * (x + 1)) n.0.1 m.0.1 m.0.0 m.1 in
      let begins : Begins ts (bezier_texts u.0.0 v.0.0 n.0.0 m.0.0) m.0.1 =
      fields.joined ts (flag_text u.0.0 ∷ []) u.0.1 (flag_text v.0.0 ∷ decimal n.0.0 ∷ decimal m.0.0 ∷ []) m.0.1 b1
      (fields.joined u.0.1 (flag_text v.0.0 ∷ []) v.0.1 (decimal n.0.0 ∷ decimal m.0.0 ∷ []) m.0.1 b2
      (fields.joined v.0.1 (decimal n.0.0 ∷ []) n.0.1 (decimal m.0.0 ∷ []) m.0.1 b3.0 b4.0)) in
      record {
        u = u.0.0;
        v = v.0.0;
        n = n.0.0;
        m = m.0.0;
        same = ap (λ q. q.0) same;
        begins = subst (λ (z : List Token). Begins ts (bezier_texts u.0.0 v.0.0 n.0.0 m.0.0) z)
            (ap (λ q. q.1) same) begins;
        n_small = b3.1;
        m_small = b4.1;
        poles_small = b4.2;
      }

  pub bezier_again : (u v : Bool) (n m : ℕ) (ts rest : List Token) → Begins ts (bezier_texts u v n m) rest → IsSmall n
      → IsSmall m → IsSmall (bezier_poles n m) → bezier_at ts ≡ Ok (body_of (forms.Bezier u v n m), rest)
  bezier_again u v n m ts rest b n_small m_small poles_small =
      let s1 = fields.split ts (flag_text u ∷ []) (flag_text v ∷ decimal n ∷ decimal m ∷ []) rest b in
      let s2 = fields.split s1.0 (flag_text v ∷ []) (decimal n ∷ decimal m ∷ []) rest s1.2 in
      let s3 = fields.split s2.0 (decimal n ∷ []) (decimal m ∷ []) rest s2.2 in
      rw (
        fields.flag.again ts s1.0 u s1.1 tt,
        fields.flag.again s1.0 s2.0 v s2.1 tt,
        fields.number.again s2.0 s3.0 n s3.1 n_small,
        sized_again (λ x. (n + 1) * (x + 1)) s3.0 rest m s3.2 m_small
            poles_small,
      ) refl

  -- ---- a B-spline surface

  pub flags_take : (ts rest : List Token) (b : Body) → spline_at ts ≡ Ok (b, rest) → FlagsRead ts rest b
  flags_take ts rest b e =
      let u = bind_ok (flag_at ts) (λ x. flags_left (flags.Vrational x.0) x.1) (b, rest) e in
      let v = bind_ok (flag_at u.0.1) (λ x. flags_left (flags.Uflag u.0.0 x.0) x.1) (b, rest) u.2 in
      let f = bind_ok (flag_at v.0.1) (λ x. flags_left (flags.Vflag u.0.0 v.0.0 x.0) x.1) (b, rest) v.2 in
      let g = bind_ok (flag_at f.0.1) (λ x. counts_left (counts.Udegree (flags_of u.0.0 v.0.0 f.0.0 x.0)) x.1)
      (b, rest) f.2 in
      record {
        all = flags_of u.0.0 v.0.0 f.0.0 g.0.0;
        mid = g.0.1;
        begins = fields.joined ts (flag_text u.0.0 ∷ []) u.0.1 (flag_text v.0.0 ∷ flag_text f.0.0 ∷ flag_text g.0.0
            ∷ []) g.0.1 (fields.flag.takes ts u.0.1 u.0.0 u.1).0
            (fields.joined u.0.1 (flag_text v.0.0 ∷ []) v.0.1 (flag_text f.0.0 ∷ flag_text g.0.0 ∷ []) g.0.1
            (fields.flag.takes u.0.1 v.0.1 v.0.0 v.1).0
            (fields.joined v.0.1 (flag_text f.0.0 ∷ []) f.0.1 (flag_text g.0.0 ∷ []) g.0.1
            (fields.flag.takes v.0.1 f.0.1 f.0.0 f.1).0 (fields.flag.takes f.0.1 g.0.1 g.0.0 g.1).0));
        next = g.2;
      }

  pub counts_take : (f : SurfaceFlags) (ts rest : List Token) (b : Body)
      → counts_left (counts.Udegree f) ts ≡ Ok (b, rest) → CountsRead f ts rest b
  counts_take f ts rest b e =
      let n = bind_ok (number_at ts) (λ x. counts_left (counts.Vdegree f x.0) x.1) (b, rest) e in
      let m = bind_ok (number_at n.0.1) (λ x. counts_left (counts.Upoles f n.0.0 x.0) x.1) (b, rest) n.2 in
      let p = bind_ok (number_at m.0.1) (λ x. counts_left (counts.Vpoles f n.0.0 m.0.0 x.0) x.1) (b, rest) m.2 in
      let q = bind_ok (sized_at (λ x. p.0.0 * x) p.0.1)
      (λ x. counts_left (counts.Uknots (net_of f n.0.0 m.0.0 p.0.0 x.0)
      (p.0.0 * x.0 * per_pole f.urational f.vrational)) x.1) (b, rest) p.2 in
      let k = bind_ok (number_at q.0.1)
      (λ x. counts_left (counts.Vknots (net_of f n.0.0 m.0.0 p.0.0 q.0.0)
      (p.0.0 * q.0.0 * per_pole f.urational f.vrational) x.0) x.1) (b, rest) q.2 in
      let l = bind_ok (number_at k.0.1) (λ x. Ok (
        body_of (forms.BSpline (net_of f n.0.0 m.0.0 p.0.0 q.0.0) k.0.0 x.0),
        x.1,
      )) (b, rest) k.2 in
      let same = ok_is (body_of (forms.BSpline (net_of f n.0.0 m.0.0 p.0.0 q.0.0) k.0.0 l.0.0), l.0.1) (b, rest) l.2 in
      let b1 = fields.number.takes ts n.0.1 n.0.0 n.1 in
      let b2 = fields.number.takes n.0.1 m.0.1 m.0.0 m.1 in
      let b3 = fields.number.takes m.0.1 p.0.1 p.0.0 p.1 in
      let b4 = sized_takes (λ x. p.0.0 * x) p.0.1 q.0.1 q.0.0 q.1 in
      let b5 = fields.number.takes q.0.1 k.0.1 k.0.0 k.1 in
      let b6 = fields.number.takes k.0.1 l.0.1 l.0.0 l.1 in
      let end : Begins p.0.1 (decimal q.0.0 ∷ decimal k.0.0 ∷ decimal l.0.0 ∷ []) l.0.1 =
      fields.joined p.0.1 (decimal q.0.0 ∷ []) q.0.1 (decimal k.0.0 ∷ decimal l.0.0 ∷ []) l.0.1 b4.0
      (fields.joined q.0.1 (decimal k.0.0 ∷ []) k.0.1 (decimal l.0.0 ∷ []) l.0.1 b5.0 b6.0) in
      let begins : Begins ts (count_texts n.0.0 m.0.0 p.0.0 q.0.0 k.0.0 l.0.0) l.0.1 =
      fields.joined ts (decimal n.0.0 ∷ []) n.0.1 (decimal m.0.0 ∷ decimal p.0.0 ∷ decimal q.0.0 ∷ decimal k.0.0
      ∷ decimal l.0.0 ∷ []) l.0.1 b1.0
      (fields.joined n.0.1 (decimal m.0.0 ∷ []) m.0.1 (decimal p.0.0 ∷ decimal q.0.0 ∷ decimal k.0.0 ∷ decimal l.0.0
      ∷ []) l.0.1 b2.0
      (fields.joined m.0.1 (decimal p.0.0 ∷ []) p.0.1 (decimal q.0.0 ∷ decimal k.0.0 ∷ decimal l.0.0 ∷ [])
      l.0.1 b3.0 end)) in
      record {
        n = n.0.0;
        m = m.0.0;
        p = p.0.0;
        q = q.0.0;
        k = k.0.0;
        l = l.0.0;
        same = ap (λ z. z.0) same;
        begins = subst (λ (z : List Token). Begins ts (count_texts n.0.0 m.0.0 p.0.0 q.0.0 k.0.0 l.0.0) z)
            (ap (λ z. z.1) same) begins;
        numbers = record {
          udegree_small = b1.1;
          vdegree_small = b2.1;
          upoles_small = b3.1;
          vpoles_small = b4.1;
          poles_small = b4.2;
        };
        k_small = b5.1;
        l_small = b6.1;
      }

  pub counts_again : (f : SurfaceFlags) (n m p q k l : ℕ) (ts rest : List Token)
      → Begins ts (count_texts n m p q k l) rest → AreNumbers n m p q → IsSmall k → IsSmall l
      → counts_left (counts.Udegree f) ts ≡ Ok (body_of (forms.BSpline (net_of f n m p q) k l), rest)
  counts_again f n m p q k l ts rest b are k_small l_small =
      let s1 = fields.split ts (decimal n ∷ []) (decimal m ∷ decimal p ∷ decimal q ∷ decimal k ∷ decimal l
      ∷ []) rest b in
      let s2 = fields.split s1.0 (decimal m ∷ []) (decimal p ∷ decimal q ∷ decimal k ∷ decimal l ∷ []) rest s1.2 in
      let s3 = fields.split s2.0 (decimal p ∷ []) (decimal q ∷ decimal k ∷ decimal l ∷ []) rest s2.2 in
      let s4 = fields.split s3.0 (decimal q ∷ []) (decimal k ∷ decimal l ∷ []) rest s3.2 in
      let s5 = fields.split s4.0 (decimal k ∷ []) (decimal l ∷ []) rest s4.2 in
      rw (
        fields.number.again ts s1.0 n s1.1 are.udegree_small,
        fields.number.again s1.0 s2.0 m s2.1 are.vdegree_small,
        fields.number.again s2.0 s3.0 p s3.1 are.upoles_small,
        sized_again (λ x. p * x) s3.0 s4.0 q s4.1 are.vpoles_small are.poles_small,
        fields.number.again s4.0 s5.0 k s5.1 k_small,
        fields.number.again s5.0 rest l s5.2 l_small,
      ) refl

  pub flags_again : (f : SurfaceFlags) (ts mid : List Token) → Begins ts (flag_texts f) mid
      → spline_at ts ≡ counts_left (counts.Udegree f) mid
  flags_again f ts mid b =
      let s1 = fields.split ts (flag_text f.urational ∷ [])
      (flag_text f.vrational ∷ flag_text f.uflag ∷ flag_text f.vflag ∷ []) mid b in
      let s2 = fields.split s1.0 (flag_text f.vrational ∷ []) (flag_text f.uflag ∷ flag_text f.vflag ∷ []) mid s1.2 in
      let s3 = fields.split s2.0 (flag_text f.uflag ∷ []) (flag_text f.vflag ∷ []) mid s2.2 in
      rw (
        fields.flag.again ts s1.0 f.urational s1.1 tt,
        fields.flag.again s1.0 s2.0 f.vrational s2.1 tt,
        fields.flag.again s2.0 s3.0 f.uflag s3.1 tt,
        fields.flag.again s3.0 mid f.vflag s3.2 tt,
      ) refl
