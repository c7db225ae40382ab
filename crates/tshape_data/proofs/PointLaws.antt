-- A representation of a vertex is read exactly as it is spelled.
use Rattle.std.proofs.Common.{◌≡◌, ◌==◌, ℕ, zero, suc, ◌+◌, ◌<◌, Bool, true, false, if◌then◌else◌, nat_eq, List, []}
use Rattle.std.proofs.Common.{◌∷◌, ◌++◌, length, map, take, drop, Option, Some, None, Result, Ok, Err, codes, refl, sym}
use Rattle.std.proofs.Common.{ap, subst, ◌∙◌, arith}
use Rattle.std.specs.Cmp.Lexicographic.{pointwise}
use Rattle.std.specs.Fmt.{decimal}
use Rattle.std.specs.Option.{option_map}
use Rattle.std.proofs.lemmas.Bool.Decides.{nat_tests}
use Rattle.std.proofs.lemmas.List.{map-append}
use Rattle.std.proofs.lemmas.Slice.Eq.{bytes_eq-Decides}
use Rattle.brep_tokens.specs.Forms.{is_decimal}
use Rattle.brep_tokens.specs.Laws.{FormsAreExact}
use Rattle.brep_tokens.specs.declared.text.Token.{Token}
use Rattle.entry_readers.specs.Begins.{AreDecimals, Begins, FieldsAreExact, IsDecimal}
use Rattle.lists.specs.Results.{◌>>=◌}
use Rattle.entry_readers.specs.Reading.{Read, Refusal, decimal_at, decimals_at, decimals_from, number_at}
use Rattle.lists.proofs.Results.{bind_ok, guard_ok, ok_is}
use Rattle.tshape_data.specs.Columns.{point_columns, point_form, point_number, second_texts}
use Rattle.tshape_data.specs.Parts.{column_parts, tokens}
use Rattle.tshape_data.specs.RepReading.{columns_at, param_at, point_form_at, point_kind, point_rep_at, unknown_code}
use Rattle.tshape_data.specs.RepReading.{with_room}
use Rattle.tshape_data.specs.Reps.{form_of_point, numbers_of_point, point_rep, texts_of_point}
use Rattle.tshape_data.specs.Sound.{AreInColumns, IsSoundPoint, sizes}
use Rattle.tshape_data.specs.Spelling.{part_text}
use Rattle.tshape_data.specs.declared.head_bounds.HeadBounds.{HeadBounds}
use Rattle.tshape_data.specs.declared.forms.PointForm.{PointForm}
use Rattle.tshape_data.specs.declared.forms.PointForm.TheVariants as points
use Rattle.tshape_data.specs.declared.reps.PointRep.{PointRep}
use Rattle.tshape_data.specs.declared.reps.PointRep.TheVariants as point_reps
use Rattle.tshape_data.proofs.ColumnLaws.{columns_again, columns_takes, number_texts}
use Rattle.tshape_data.proofs.EdgeLaws.{room_some}
use Rattle.tshape_data.proofs.PartLaws.{point_form_back, point_numbers_back, point_rep_sound, point_texts_back}
use Rattle.tshape_data.proofs.PartLaws.{texts_of_tokens, zero_text}
use Rattle.tshape_data.proofs.PayloadTexts.{point_rep_texts}
use Rattle.tshape_data.proofs.RepsLaws.{OneIsExact}

-- ---- decimals after a first one

after_both : {A B C : Type 0} (r : Result A Refusal) (f : A → Result C Refusal) (g : A → Result B Refusal) (k : B
    → Result C Refusal)
    → ((x : A) → f x ≡ (g x >>= k)) → (r >>= f) ≡ ((r >>= g) >>= k)
after_both (Ok x) f g k same = same x
after_both (Err e) f g k same = refl

after_first : (first : List ℕ) (texts : List (List ℕ)) (n : ℕ) (ts : List Token)
    → decimals_from (first ∷ texts) n ts ≡ (decimals_from texts n ts >>= λ x. Ok (first ∷ x.0, x.1))
after_first first texts zero ts = refl
after_first first texts (suc n) ts =
    after_both (decimal_at ts) (λ d. decimals_from (first ∷ (texts ++ d.0 ∷ [])) n d.1)
    (λ d. decimals_from (texts ++ d.0 ∷ []) n d.1) (λ x. Ok (first ∷ x.0, x.1))
    (λ d. after_first first (texts ++ d.0 ∷ []) n d.1)

second_takes : FieldsAreExact → (param : List ℕ) (k : ℕ) (ts mid : List Token) (texts : List (List ℕ))
    → decimals_from (param ∷ []) k ts ≡ Ok (texts, mid)
    → (second : List (List ℕ)) × (texts ≡ param ∷ second) × Begins ts second mid × AreDecimals k second
second_takes fields param k ts mid texts e =
    let y = bind_ok (decimals_at k ts) (λ others. Ok (param ∷ others.0, others.1)) (texts, mid)
    (sym (after_first param [] k ts) ∙ e) in
    let same = ok_is (param ∷ y.0.0, y.0.1) (texts, mid) y.2 in
    let one = (fields.decimals k).takes ts y.0.1 y.0.0 y.1 in
    (y.0.0, sym (ap (λ q. q.0) same), subst (λ (m : List Token). Begins ts y.0.0 m) (ap (λ q. q.1) same) one.0, one.1)

-- ---- a parameter and the number of a form

zero_decimal : IsDecimal (codes "0")
unfolding is_decimal
zero_decimal = refl

number_there : (n : ℕ) (form : PointForm) → point_form n ≡ Some form → n ≡ point_number form
number_there n points.OnCurve e = grind (arith, nat_tests)
number_there n points.OnCurve2 e = grind (arith, nat_tests)
number_there n points.OnSurface e = grind (arith, nat_tests)

-- what a number that was accepted begins, after a parameter
abbrev IsKind : ℕ → List ℕ → ℕ → Option PointForm → Type 0
IsKind room param n None = (n ≡ 0) × (param ≡ codes "0")
IsKind room param n (Some form) = (n ≡ point_number form) × (0 < room)

abbrev none_if : List ℕ → ℕ → Token → Result (Option PointForm) Refusal
none_if param n t = if pointwise nat_eq param (codes "0") then Ok None else Err (unknown_code n t)

is_zero : (n : ℕ) → (n == 0) ≡ true → n ≡ 0
is_zero n e = grind (arith, nat_tests)

kind_if : (x : Bool) (param : List ℕ) (room : ℕ) (t : Token) (n : ℕ) (o : Option PointForm) → (n == 0) ≡ x
    → (if x then none_if param n t else with_room room t n (point_form n)) ≡ Ok o → IsKind room param n o
kind_if true param room t n o is e =
    let g = guard_ok (pointwise nat_eq param (codes "0")) (unknown_code n t) None o e in
    subst (IsKind room param n) g.1 (is_zero n is, (bytes_eq-Decides param (codes "0")).0 g.0)
kind_if false param room t n None is e =
    let s = room_some room t n (point_form n) None e in
    absurd cc
kind_if false param room t n (Some form) is e =
    let s = room_some room t n (point_form n) (Some form) e in
    (number_there n form (s.1 ∙ sym s.2), s.3)

-- the same with the parameter
abbrev IsParam : ℕ → List ℕ → ℕ → Option (List ℕ × PointForm) → Type 0
IsParam room param n None = (n ≡ 0) × (param ≡ codes "0")
IsParam room param n (Some p) = (n ≡ point_number p.1) × (0 < room) × (p.0 ≡ param)

with_param : (room : ℕ) (param : List ℕ) (n : ℕ) (o : Option PointForm) → IsKind room param n o
    → IsParam room param n (option_map (λ f. (param, f)) o)
with_param room param n None is = is
with_param room param n (Some form) is = (is.0, is.1, refl)

-- a parameter and a number were read
record IsRead (room : ℕ) (ts rest : List Token) (o : Option (List ℕ × PointForm)) : Type 0 where
  param : List ℕ
  n : ℕ
  begins : Begins ts (param ∷ decimal n ∷ []) rest
  is_decimal : IsDecimal param
  kind : IsParam room param n o

module _ (fields : FieldsAreExact) where
  abbrev done : Option PointForm × List Token → Read (Option PointForm)
  done x = Ok x

  kind_takes : (param : List ℕ) (room : ℕ) (ts rest : List Token) (o : Option PointForm)
      → point_form_at param room ts ≡ Ok (o, rest) → (n : ℕ) × Begins ts (decimal n ∷ []) rest × IsKind room param n o
  kind_takes param room [] rest o e = absurd cc
  kind_takes param room (t ∷ ts) rest o e =
      let n = bind_ok (number_at (t ∷ ts)) (λ n. point_kind param room t n.0
      >>= λ form. done (form, n.1)) (o, rest) e in
      let k = bind_ok (point_kind param room t n.0.0) (λ form. done (form, n.0.1)) (o, rest) n.2 in
      let p = ok_is (k.0, n.0.1) (o, rest) k.2 in
      let one = (fields.number.takes (t ∷ ts) n.0.1 n.0.0 n.1).0 in (
        n.0.0,
        subst (λ (m : List Token). Begins (t ∷ ts) (decimal n.0.0 ∷ []) m) (ap (λ q. q.1) p) one,
        subst (IsKind room param n.0.0) (ap (λ q. q.0) p) (kind_if (n.0.0 == 0) param room t n.0.0 k.0 refl k.1),
      )

  abbrev whole : List ℕ → Option PointForm × List Token → Read (Option (List ℕ × PointForm))
  whole param form = Ok (option_map (λ f. (param, f)) form.0, form.1)

  param_takes : (room : ℕ) (ts rest : List Token) (o : Option (List ℕ × PointForm)) → param_at room ts ≡ Ok (o, rest)
      → IsRead room ts rest o
  param_takes room ts rest o e =
      let d = bind_ok (decimal_at ts) (λ param. point_form_at param.0 room param.1 >>= whole param.0) (o, rest) e in
      let k = bind_ok (point_form_at d.0.0 room d.0.1) (whole d.0.0) (o, rest) d.2 in
      let p = ok_is (option_map (λ f. (d.0.0, f)) k.0.0, k.0.1) (o, rest) k.2 in
      let one = fields.texts.takes ts d.0.1 d.0.0 d.1 in
      let two = kind_takes d.0.0 room d.0.1 k.0.1 k.0.0 k.1 in
      let read : IsRead room ts k.0.1 (option_map (λ f. (d.0.0, f)) k.0.0) = record {
        param = d.0.0;
        n = two.0;
        begins = fields.joined ts (d.0.0 ∷ []) d.0.1 (decimal two.0 ∷ []) k.0.1 one.0 two.1;
        is_decimal = one.1;
        kind = with_param room d.0.0 two.0 k.0.0 two.2;
      } in
      subst (λ (q : Option (List ℕ × PointForm) × List Token). IsRead room ts q.1 q.0) p read

  -- a number of a form is read again
  form_again : (param : List ℕ) (room : ℕ) (form : PointForm) (ts rest : List Token)
      → Begins ts (decimal (point_number form) ∷ []) rest → point_form_at param (suc room) ts ≡ Ok (Some form, rest)
  form_again param room form [] rest b = absurd b
  form_again param room points.OnCurve (t ∷ ts) rest b = rw (fields.number.again (t ∷ ts) rest 1 b (omega arith)) refl
  form_again param room points.OnCurve2 (t ∷ ts) rest b = rw (fields.number.again (t ∷ ts) rest 2 b (omega arith)) refl
  form_again param room points.OnSurface (t ∷ ts) rest b = rw (fields.number.again (t ∷ ts) rest 3 b (omega arith)) refl

  param_again : (param : List ℕ) (room : ℕ) (form : PointForm) (ts rest : List Token) → IsDecimal param
      → Begins ts (param ∷ decimal (point_number form) ∷ []) rest
      → param_at (suc room) ts ≡ Ok (Some (param, form), rest)
  param_again param room form ts rest is b =
      let s = fields.split ts (param ∷ []) (decimal (point_number form) ∷ []) rest b in
      rw (fields.texts.again ts s.0 param s.1 is, form_again param room form s.0 rest s.2) refl

  none_again : FormsAreExact → (room : ℕ) (ts rest : List Token) → Begins ts (codes "0" ∷ []) rest
      → point_form_at (codes "0") room ts ≡ Ok (None, rest)
  none_again forms room [] rest b = absurd b
  none_again forms room (t ∷ ts) rest b =
      let zero_there : Begins (t ∷ ts) (decimal 0 ∷ []) rest = (b.0 ∙ zero_text forms, b.1) in
      rw (fields.number.again (t ∷ ts) rest 0 zero_there (omega arith)) refl

  end_again : FormsAreExact → (room : ℕ) (ts rest : List Token) → Begins ts (codes "0" ∷ codes "0" ∷ []) rest
      → param_at room ts ≡ Ok (None, rest)
  end_again forms room ts rest b =
      let s = fields.split ts (codes "0" ∷ []) (codes "0" ∷ []) rest b in
      rw (fields.texts.again ts s.0 (codes "0") s.1 zero_decimal, none_again forms room s.0 rest s.2) refl

-- ---- what follows it

-- second parameters, and numbers of a form
abbrev tail : PointForm → List ℕ → List (List ℕ) → List (List ℕ)
tail form ns second = second ++ number_texts (point_columns form) ns

spelled_of : (form : PointForm) (ns : List ℕ) (param : List ℕ) (second : List (List ℕ))
    → map part_text (tokens (take 1 (param ∷ second)) ++ tokens (decimal (point_number form) ∷ [])
    ++ (tokens (drop 1 (param ∷ second)) ++ column_parts (point_columns form) ns)) ≡ param ∷ decimal
    (point_number form) ∷ tail form ns second
spelled_of form ns param second =
    ap (λ (z : List (List ℕ)). param ∷ decimal (point_number form) ∷ z)
    (map-append part_text (tokens second) (column_parts (point_columns form) ns)
    ∙ ap (λ (z : List (List ℕ)). z ++ number_texts (point_columns form) ns) (texts_of_tokens second))

spelled : (p : PointRep) (param : List ℕ) (second : List (List ℕ)) → texts_of_point p ≡ param ∷ second
    → point_rep_texts p ≡ param ∷ decimal (point_number (form_of_point p)) ∷ tail (form_of_point p)
    (numbers_of_point p) second
spelled p param second e = rw e (spelled_of (form_of_point p) (numbers_of_point p) param second)

same_rep : (p : PointRep) → point_rep (form_of_point p) (numbers_of_point p) (texts_of_point p) ≡ p
same_rep (point_reps.OnCurve texts curve location) = refl
same_rep (point_reps.OnCurve2 texts curve2 surface location) = refl
same_rep (point_reps.OnSurface texts surface location) = refl

module _ (forms : FormsAreExact) (fields : FieldsAreExact) (b : HeadBounds) where
  -- a representation that was read: of this form, with this parameter before the form's number and these tokens after
  -- it
  pub record IsPointRep (f : PointForm) (param : List ℕ) (ts rest : List Token) (p : PointRep) : Type 0 where
    pub second : List (List ℕ)
    pub texts : texts_of_point p ≡ param ∷ second
    pub form : form_of_point p ≡ f
    pub begins : Begins ts (tail (form_of_point p) (numbers_of_point p) second) rest
    pub sound : IsSoundPoint (sizes b) p

  rep_built : (form : PointForm) (ns : List ℕ) (param : List ℕ) (second : List (List ℕ)) (ts rest : List Token)
      → AreInColumns (sizes b) (point_columns form) ns → IsDecimal param → AreDecimals (second_texts form) second
      → Begins ts (tail form ns second) rest → IsPointRep form param ts rest (point_rep form ns (param ∷ second))
  rep_built form ns param second ts rest are first decimals begins =
      let f = point_form_back form ns (param ∷ second) in
      let n = point_numbers_back (sizes b) form ns (param ∷ second) are in
      let x = point_texts_back form ns (param ∷ second) in
      let many : length (param ∷ second) ≡ 1 + second_texts form = omega (arith, decimals.0) in
      let all : AreDecimals (1 + second_texts form) (param ∷ second) = (many, (first, decimals.1)) in
      record {
        second = second;
        texts = x;
        form = f;
        begins = rw (f, n) begins;
        sound = point_rep_sound (sizes b) form ns (param ∷ second) are all;
      }

  rep_takes : (form : PointForm) (param : List ℕ) (ts rest : List Token) (p : PointRep) → IsDecimal param
      → point_rep_at b (param, form) ts ≡ Ok (p, rest) → IsPointRep form param ts rest p
  rep_takes form param ts rest p first e =
      let x = bind_ok (decimals_from (param ∷ []) (second_texts form) ts)
      (λ texts. columns_at b (point_columns form) texts.1
      >>= λ numbers. Ok (point_rep form numbers.0 texts.0, numbers.1)) (p, rest) e in
      let n = bind_ok (columns_at b (point_columns form) x.0.1)
      (λ numbers. Ok (point_rep form numbers.0 x.0.0, numbers.1)) (p, rest) x.2 in
      let same = ok_is (point_rep form n.0.0 x.0.0, n.0.1) (p, rest) n.2 in
      let one = second_takes fields param (second_texts form) ts x.0.1 x.0.0 x.1 in
      let two = columns_takes forms fields b (point_columns form) [] x.0.1 n.0.1 n.0.0 n.1 in
      let is = rep_built form two.0 param one.0 ts n.0.1 two.3 first one.3
      (fields.joined ts one.0 x.0.1 (number_texts (point_columns form) two.0) n.0.1 one.2 two.2) in
      let whole_same : point_rep form two.0 (param ∷ one.0) ≡ point_rep form n.0.0 x.0.0 =
      ap (λ (texts : List (List ℕ)). point_rep form two.0 texts) (sym one.1)
      ∙ ap (λ (ns : List ℕ). point_rep form ns x.0.0) (sym two.1) in
      subst (λ (q : PointRep × List Token). IsPointRep form param ts q.1 q.0) same
      (subst (λ (q : PointRep). IsPointRep form param ts n.0.1 q) whole_same is)

  rep_again : (form : PointForm) (ns : List ℕ) (param : List ℕ) (second : List (List ℕ)) (ts rest : List Token)
      → AreInColumns (sizes b) (point_columns form) ns → AreDecimals (second_texts form) second
      → Begins ts (tail form ns second) rest
      → point_rep_at b (param, form) ts ≡ Ok (point_rep form ns (param ∷ second), rest)
  rep_again form ns param second ts rest are decimals begins =
      let s = fields.split ts second (number_texts (point_columns form) ns) rest begins in
      rw (
        after_first param [] (second_texts form) ts,
        (fields.decimals (second_texts form)).again ts s.0 second s.1 decimals,
        columns_again forms fields b (point_columns form) [] s.0 rest ns s.2 are,
      ) refl

  goes : (room : ℕ) (ts mid rest : List Token) (f : List ℕ × PointForm) (p : PointRep)
      → param_at room ts ≡ Ok (Some f, mid) → point_rep_at b f mid ≡ Ok (p, rest)
      → Begins ts (point_rep_texts p) rest × IsSoundPoint (sizes b) p
  goes room ts mid rest f p e1 e2 =
      let k = param_takes fields room ts mid (Some f) e1 in
      let param_same : f.0 ≡ k.param = k.kind.2 in
      let is = rep_takes f.1 f.0 mid rest p (subst IsDecimal (sym param_same) k.is_decimal) e2 in
      let number : k.n ≡ point_number (form_of_point p) = k.kind.0 ∙ ap point_number (sym is.form) in
      let begins : Begins ts (f.0 ∷ decimal (point_number (form_of_point p)) ∷ []) mid =
      rw (param_same, ← number) k.begins in
      let after = tail (form_of_point p) (numbers_of_point p) is.second in (
        subst (λ (z : List (List ℕ)). Begins ts z rest) (sym (spelled p f.0 is.second is.texts))
            (fields.joined ts (f.0 ∷ decimal (point_number (form_of_point p)) ∷ []) mid after rest begins is.begins),
        is.sound,
      )

  again_of : (room : ℕ) (ts rest : List Token) (p : PointRep) (texts : List (List ℕ)) → texts_of_point p ≡ texts
      → Begins ts (point_rep_texts p) rest
      → AreInColumns (sizes b) (point_columns (form_of_point p)) (numbers_of_point p)
      → AreDecimals (1 + second_texts (form_of_point p)) texts → (f : List ℕ × PointForm) × (mid : List Token)
      × (param_at (suc room) ts ≡ Ok (Some f, mid)) × (point_rep_at b f mid ≡ Ok (p, rest))
  again_of room ts rest p [] same begins are decimals = absurd (omega (arith, decimals.0))
  again_of room ts rest p (param ∷ second) same begins are decimals =
      let form = form_of_point p in
      let ns = numbers_of_point p in
      let s = fields.split ts (param ∷ decimal (point_number form) ∷ []) (tail form ns second) rest
      (subst (λ (z : List (List ℕ)). Begins ts z rest) (spelled p param second same) begins) in
      let many : length second ≡ second_texts form = omega (arith, decimals.0) in
      let read = rep_again form ns param second s.0 rest are (many, decimals.1.1) s.2 in
      let back : point_rep form ns (param ∷ second) ≡ p = ap (point_rep form ns) (sym same) ∙ same_rep p in (
        (param, form),
        s.0,
        param_again fields param room form ts s.0 decimals.1.0 s.1,
        subst (λ (q : PointRep). point_rep_at b (param, form) s.0 ≡ Ok (q, rest)) back read,
      )

  pub points_exact : OneIsExact param_at (point_rep_at b) point_rep_texts (codes "0" ∷ codes "0" ∷ [])
      (IsSoundPoint (sizes b))
  points_exact = record {
    ends = λ room ts rest e. (let k = param_takes fields room ts rest None e in
        subst (λ (z : List (List ℕ)). Begins ts z rest) (ap (λ (x : List ℕ). x ∷ decimal k.n ∷ []) k.kind.1
        ∙ ap (λ (z : List ℕ). codes "0" ∷ z ∷ []) (ap decimal k.kind.0 ∙ sym (zero_text forms))) k.begins);
    goes = goes;
    full = λ ts mid f e. (let k = param_takes fields zero ts mid (Some f) e in omega (arith, k.kind.1));
    end_again = end_again fields forms;
    rep_again = λ room ts rest p begins sound. again_of room ts rest p (texts_of_point p) refl begins sound.numbers
        sound.decimals;
  }
