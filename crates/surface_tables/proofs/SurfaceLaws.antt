-- A surface is read exactly as it is spelled.
use Rattle.std.proofs.Common.{◌≡◌, ℕ, zero, suc, ◌+◌, ◌-◌, true, List, [], ◌∷◌, ◌++◌, length, Result, Ok, Err, refl}
use Rattle.std.proofs.Common.{sym, ap, subst, ◌∙◌, arith}
use Rattle.std.specs.Fmt.{decimal}
use Rattle.lists.specs.Results.{◌>>=◌}
use Rattle.entry_readers.specs.Reading.{Refusal, fault, at_token}
use Rattle.entry_readers.specs.Begins.{Begins, FieldsAreExact, IsExact, IsSmall, zipped}
use Rattle.lists.proofs.Results.{bind_ok, ok_is}
use Rattle.brep_tokens.specs.declared.text.Token.{Token}
use Rattle.brep_tokens.specs.declared.fault.ReadCode.TheVariants as codes
use Rattle.curve_tables.specs.Laws.{CurvesAreExact}
use Rattle.curve_tables.specs.Spelling.{spelling3}
use Rattle.surface_tables.specs.Frames.{framed_by, wrapped}
use Rattle.surface_tables.specs.Headers.{code_at, is_code}
use Rattle.surface_tables.specs.Sound.{IsSoundIn, IsSoundSurface, IsWrapped}
use Rattle.surface_tables.specs.Spelling.{spell_surface}
use Rattle.surface_tables.specs.Surfaces.{closed, part_at, surface_at, surface_in}
use Rattle.surface_tables.specs.declared.parts.Part.{Part}
use Rattle.surface_tables.specs.declared.parts.Part.TheVariants as parts
use Rattle.surface_tables.specs.declared.parts.Wrap.{Wrap}
use Rattle.surface_tables.specs.declared.parts.Wrap.TheVariants.{Trimmed, Offset}
use Rattle.surface_tables.specs.declared.surface.Surface.{Surface, Plain, Swept, Bezier, BSpline, Trimmed', Offset'}
use Rattle.surface_tables.specs.declared.surface.Surface.{end_of-Surface, more_of-Surface}
use Rattle.surface_tables.proofs.Equations.{is_offset, is_trimmed, sound_around, spelling_around, wrap_code}
use Rattle.surface_tables.proofs.HeaderLaws.{bezier_texts, code_again, code_takes, count_texts, flag_texts}
use Rattle.surface_tables.proofs.PartLaws.{PartIs, around_again, bezier_part_again, part_takes, plain_again, plain_code}
use Rattle.surface_tables.proofs.PartLaws.{spline_part_again, swept_again, swept_code}

abbrev stopped : {A : Type 0} → Refusal → Result A Refusal
stopped r = Err r

never : {A : Type 0} (r : Refusal) (x : A) → stopped r ≡ Ok x → ⊥
never r x e = absurd cc

-- a surface that was read where so many codes are open around it
abbrev Is : ℕ → List Token → List Token → Surface → Type 0
Is nest ts rest s = Begins ts (spell_surface s) rest × IsSoundIn nest s

module _ (fields : FieldsAreExact) (curves : CurvesAreExact) where
  -- ---- what is read is spelled so and sound

  closed_takes : (nest n code : ℕ) (all ts mid rest : List Token) (s : Surface) → Begins all (decimal code ∷ []) ts
      → (p : Part) → PartIs nest code ts mid p
      → ((ts' : List Token) (b : Surface) (rest' : List Token) → surface_in n ts' ≡ Ok (b, rest')
      → Is (suc nest) ts' rest' b) → closed (surface_in n) p mid ≡ Ok (s, rest) → Is nest all rest s
  closed_takes nest n code all ts mid rest s b (parts.Leaf x) is inner e =
      subst (λ (z : Surface × List Token). Is nest all z.1 z.0) (ok_is (x, mid) (s, rest) e) (is.0 all b, is.1)
  closed_takes nest n code all ts mid rest s b (parts.Open f) is inner e =
      let x = bind_ok (surface_in n mid) (λ y. Ok (framed_by f y.0, y.1)) (s, rest) e in
      let q = ok_is (framed_by f x.0.0, x.0.1) (s, rest) x.2 in
      let one = inner mid x.0.0 x.0.1 x.1 in
      let front : Begins all (decimal (wrap_code f.wrap) ∷ []) ts =
      subst (λ (k : ℕ). Begins all (decimal k ∷ []) ts) is.0 b in
      let begins : Begins all (decimal (wrap_code f.wrap) ∷ (f.texts ++ spell_surface x.0.0)) x.0.1 =
      fields.joined all (decimal (wrap_code f.wrap) ∷ []) ts (f.texts ++ spell_surface x.0.0) x.0.1 front
      (fields.joined ts f.texts mid (spell_surface x.0.0) x.0.1 is.1 one.0) in
      let here : Is nest all x.0.1 (framed_by f x.0.0) = (
        subst (λ (z : List (List ℕ)). Begins all z x.0.1) (sym (spelling_around f.texts x.0.0 f.wrap)) begins,
        sound_around f.texts x.0.0 nest f.wrap is.2 one.1,
      ) in
      subst (λ (z : Surface × List Token). Is nest all z.1 z.0) q here

  takes : (room nest : ℕ) → nest + room ≡ 64 → (all rest : List Token) (s : Surface)
      → surface_in room all ≡ Ok (s, rest) → Is nest all rest s
  takes zero nest fits all rest s e =
      let b = bind_ok (code_at all) (λ c. Err (fault (at_token codes.NestLimit 65 64 c.0.1))) (s, rest) e in
      absurd (never (fault (at_token codes.NestLimit 65 64 b.0.0.1)) (s, rest) b.2)
  takes (suc n) nest fits all rest s e =
      let c = bind_ok (code_at all) (λ c. part_at (64 - n) c.0.0 c.1 >>= λ p. closed (surface_in n) p.0 p.1)
      (s, rest) e in
      let p = bind_ok (part_at (64 - n) c.0.0.0 c.0.1) (λ p. closed (surface_in n) p.0 p.1) (s, rest) c.2 in
      let k = code_takes fields all c.0.1 c.0.0.0 c.0.0.1 c.1 in
      let inside : 64 - n ≡ suc nest = omega (arith, fits) in
      let read : part_at (suc nest) c.0.0.0 c.0.1 ≡ Ok p.0 = ap (λ m. part_at m c.0.0.0 c.0.1) (sym inside) ∙ p.1 in
      closed_takes nest n c.0.0.0 all c.0.1 p.0.1 rest s k.0 p.0.0
      (part_takes fields curves nest (omega (arith, fits)) c.0.0.0 k.1 c.0.1 p.0.1 p.0.0 read)
      (λ ts' b rest' h. takes n (suc nest) (omega (arith, fits)) ts' rest' b h) p.2

  -- ---- what is spelled so and sound is read

  -- the code was read, and the part after it
  opened : (nest n : ℕ) → nest + suc n ≡ 64 → (code : ℕ) → IsSmall code → is_code code ≡ true
      → (ts mid end rest : List Token) (p : Part) (s : Surface) → Begins ts (decimal code ∷ []) mid
      → part_at (suc nest) code mid ≡ Ok (p, end) → closed (surface_in n) p end ≡ Ok (s, rest)
      → surface_in (suc n) ts ≡ Ok (s, rest)
  opened nest n fits code small is ts mid end rest p s b read closes =
      let k = code_again fields ts mid code b small is in
      let inside : suc nest ≡ 64 - n = omega (arith, fits) in
      let part : part_at (64 - n) code mid ≡ Ok (p, end) = ap (λ m. part_at m code mid) (sym inside) ∙ read in
      rw (k.1, part) closes

  around : (nest n : ℕ) → nest + suc n ≡ 64 → (w : Wrap) (texts : List (List ℕ)) (b : Surface) (ts rest : List Token)
      → Begins ts (decimal (wrap_code w) ∷ (texts ++ spell_surface b)) rest → IsWrapped nest w texts
      → IsSmall (wrap_code w) → is_code (wrap_code w) ≡ true → ((mid : List Token) → Begins mid (spell_surface b) rest
      → surface_in n mid ≡ Ok (b, rest)) → surface_in (suc n) ts ≡ Ok (wrapped w texts b, rest)
  around nest n fits w texts b ts rest begins is small known inner =
      let s1 = fields.split ts (decimal (wrap_code w) ∷ []) (texts ++ spell_surface b) rest begins in
      let s2 = fields.split s1.0 texts (spell_surface b) rest s1.2 in
      let read : surface_in n s2.0 ≡ Ok (b, rest) = inner s2.0 s2.2 in
      opened nest n fits (wrap_code w) small known ts s1.0 s2.0 rest (parts.Open (record { wrap = w; texts = texts }))
      (wrapped w texts b) s1.1
      (around_again fields curves nest is.nested w s1.0 s2.0 texts s2.1 is.decimals) (rw read refl)

  again : (s : Surface) (room nest : ℕ) → nest + room ≡ 64 → (ts rest : List Token) → Begins ts (spell_surface s) rest
      → IsSoundIn nest s → surface_in room ts ≡ Ok (s, rest)
  again (Plain code texts) zero nest fits ts rest b is = absurd (omega (arith, fits, is.nested))
  again (Plain code texts) (suc n) nest fits ts rest b is =
      let c = fields.split ts (decimal code ∷ []) texts rest b in
      opened nest n fits code (omega (arith, is.to)) (plain_code code is.from is.to) ts c.0 rest rest
      (parts.Leaf (Plain code texts)) (Plain code texts) c.1
      (plain_again fields curves nest is.nested code is.from is.to c.0 rest texts c.2 is.decimals) refl
  again (Swept code texts curve) zero nest fits ts rest b is = absurd (omega (arith, fits, is.nested))
  again (Swept code texts curve) (suc n) nest fits ts rest b is =
      let c = fields.split ts (decimal code ∷ []) (texts ++ spelling3 curve) rest b in
      opened nest n fits code (omega (arith, is.to)) (swept_code code is.from is.to) ts c.0 rest rest
      (parts.Leaf (Swept code texts curve)) (Swept code texts curve) c.1
      (swept_again fields curves nest is.nested code is.from is.to c.0 rest texts curve c.2 is.decimals is.inner) refl
  again (Bezier u v k m poles) zero nest fits ts rest b is = absurd (omega (arith, fits, is.nested))
  again (Bezier u v k m poles) (suc n) nest fits ts rest b is =
      let c = fields.split ts (decimal 8 ∷ []) (bezier_texts u v k m ++ poles) rest b in
      opened nest n fits 8 (omega arith) refl ts c.0 rest rest (parts.Leaf (Bezier u v k m poles))
      (Bezier u v k m poles) c.1 (bezier_part_again fields curves nest is.nested u v k m c.0 rest poles c.2 is) refl
  again (BSpline f k m p q poles uknots umult vknots vmult) zero nest fits ts rest b is =
      absurd (omega (arith, fits, is.nested))
  again (BSpline f k m p q poles uknots umult vknots vmult) (suc n) nest fits ts rest b is =
      let c = fields.split ts (decimal 9 ∷ [])
      (flag_texts f ++ (count_texts k m p q (length uknots) (length vknots)
      ++ (poles ++ (zipped uknots umult ++ zipped vknots vmult)))) rest b in
      opened nest n fits 9 (omega arith) refl ts c.0 rest rest
      (parts.Leaf (BSpline f k m p q poles uknots umult vknots vmult))
      (BSpline f k m p q poles uknots umult vknots vmult) c.1
      (spline_part_again fields curves nest is.nested f k m p q c.0 rest poles uknots umult vknots vmult c.2 is) refl
  again (Trimmed' texts place (more_of-Surface s end_of-Surface)) zero nest fits ts rest b is =
      absurd (omega (arith, fits, is.0.nested))
  again (Trimmed' texts place (more_of-Surface s end_of-Surface)) (suc n) nest fits ts rest b is =
      subst (λ (z : Surface). surface_in (suc n) ts ≡ Ok (z, rest)) (is_trimmed texts place s)
      (around nest n fits Trimmed texts s ts rest b is.0 (omega arith) refl
      (λ mid h. again s n (suc nest) (omega (arith, fits)) mid rest h is.1))
  again (Offset' texts place (more_of-Surface s end_of-Surface)) zero nest fits ts rest b is =
      absurd (omega (arith, fits, is.0.nested))
  again (Offset' texts place (more_of-Surface s end_of-Surface)) (suc n) nest fits ts rest b is =
      subst (λ (z : Surface). surface_in (suc n) ts ≡ Ok (z, rest)) (is_offset texts place s)
      (around nest n fits Offset texts s ts rest b is.0 (omega arith) refl
      (λ mid h. again s n (suc nest) (omega (arith, fits)) mid rest h is.1))

  pub exact : IsExact surface_at spell_surface IsSoundSurface
  exact = record {
    takes = λ ts rest s e. takes 64 0 (omega arith) ts rest s e;
    again = λ ts rest s b is. again s 64 0 (omega arith) ts rest b is;
  }
