-- Records are read exactly as they are spelled.
use Rattle.std.proofs.Common.{◌≡◌, ℕ, zero, suc, ◌+◌, ◌≤◌, List, [], ◌∷◌, ◌++◌, length, Ok, refl, sym, ap, subst, ◌∙◌}
use Rattle.std.proofs.Common.{append_assoc, append-nil, arith}
use Rattle.std.specs.List.{flat_map, AllByRecursion}
use Rattle.brep_tokens.specs.Laws.{FormsAreExact}
use Rattle.brep_tokens.specs.declared.text.Token.{Token}
use Rattle.entry_readers.specs.Begins.{Begins, FieldsAreExact}
use Rattle.lists.proofs.Results.{bind_ok, ok_is}
use Rattle.orientation.specs.Laws.{SignsAndNamesTell}
use Rattle.tshape_data.specs.HeadReading.{head_at}
use Rattle.tshape_data.specs.Laws.{HeadsAreExact}
use Rattle.tshape_data.specs.RepReading.{most_reps}
use Rattle.tshape_data.specs.Sound.{IsSoundHead, rep_count, sizes}
use Rattle.tshape_data.specs.Spelling.{spell_head}
use Rattle.brep_file.specs.declared.uses.FileUse.{FileUse}
use Rattle.brep_file.specs.declared.records.Record.{Record}
use Rattle.brep_file.specs.Spelling.{spell_record}
use Rattle.brep_file.specs.Many.{many_from}
use Rattle.brep_file.specs.RecordReading.{RecordBounds, none_gathered, uses_from, SoFar, with_record, used, record_at}
use Rattle.brep_file.proofs.UseLaws.{FitsUse, with_uses, with_uses-uses, spell_uses, uses_takes, uses_again}

-- ---- what is to be shown of records, given what was read before

-- where the records may have so many representations
pub record FitsRecord (most : ℕ) (b : RecordBounds) (s : SoFar) (r : Record) : Type 0 where
  pub sound : IsSoundHead (sizes b.tables) b.version r.head
  pub uses : AllByRecursion (FitsUse b.tables.locations b.records r.head.kind s.seen) r.uses
  pub few : s.uses + length r.uses ≤ b.uses
  pub few_reps : s.reps + rep_count r.head.payload ≤ most

abbrev pub after : ℕ → SoFar → Record → SoFar
after n s r = with_record s r.head (with_uses n s.seen none_gathered r.uses)

abbrev pub after_all : ℕ → SoFar → List Record → SoFar
after_all n s [] = s
after_all n s (r ∷ rs) = after_all n (after n s r) rs

abbrev pub FitAll : ℕ → RecordBounds → SoFar → List Record → Type 0
FitAll most b s [] = Unit {0}
FitAll most b s (r ∷ rs) = FitsRecord most b s r × FitAll most b (after b.records s r) rs

pub after-records : (n : ℕ) (s : SoFar) (r : Record) → (after n s r).records ≡ s.records ++ r ∷ []
after-records n s r = ap (λ (us : List FileUse). s.records ++ record { head = r.head; uses = us } ∷ [])
    (with_uses-uses n s.seen none_gathered r.uses)

pub after-uses : (n : ℕ) (s : SoFar) (r : Record) → (after n s r).uses ≡ s.uses + length r.uses
after-uses n s r = ap (λ (us : List FileUse). s.uses + length us) (with_uses-uses n s.seen none_gathered r.uses)

pub after_all-records : (n : ℕ) (s : SoFar) (rs : List Record) → (after_all n s rs).records ≡ s.records ++ rs
after_all-records n s [] = sym (append-nil s.records)
after_all-records n s (r ∷ rs) = after_all-records n (after n s r) rs ∙ ap (λ (before : List Record). before ++ rs)
    (after-records n s r) ∙ append_assoc s.records (r ∷ []) rs

-- ---- one record

pub record IsRead (b : RecordBounds) (s : SoFar) (ts : List Token) (x : SoFar) (rest : List Token) : Type 0 where
  pub one : Record
  pub spelled : Begins ts (spell_record b.version one) rest
  pub fits : FitsRecord most_reps b s one
  pub result : x ≡ after b.records s one

pub record AreRead (b : RecordBounds) (count : ℕ) (s : SoFar) (ts : List Token) (x : SoFar)
    (rest : List Token) : Type 0 where
  pub all : List Record
  pub many : length all ≡ count
  pub spelled : Begins ts (flat_map (spell_record b.version) all) rest
  pub fit : FitAll most_reps b s all
  pub result : x ≡ after_all b.records s all

module _ (forms : FormsAreExact) (fields : FieldsAreExact) (names : SignsAndNamesTell) (heads : HeadsAreExact)
    (b : RecordBounds) where
  record_takes : (s : SoFar) (ts rest : List Token) (x : SoFar) → s.uses ≤ b.uses → s.reps ≤ most_reps
      → record_at b s ts ≡ Ok (x, rest) → IsRead b s ts x rest
  record_takes s ts rest x within few e =
      let h = bind_ok (head_at (record b.tables { reps = s.reps }) b.version ts)
      (λ head. used s head.0 (uses_from b s head.0.kind none_gathered head.1)) (x, rest) e in
      let u = bind_ok (uses_from b s h.0.0.kind none_gathered h.0.1) (λ g. Ok (with_record s h.0.0 g.0, g.1))
      (x, rest) h.2 in
      let head = (heads (record b.tables { reps = s.reps }) b.version few).takes ts h.0.1 h.0.0 h.1 in
      let taken = uses_takes forms fields b s h.0.0.kind none_gathered h.0.1 u.0.1 u.0.0 (omega (arith, within)) u.1 in
      let made : Record = record { head = h.0.0; uses = taken.taken } in
      let pair = ok_is (with_record s h.0.0 u.0.0, u.0.1) (x, rest) u.2 in
      record {
        one = made;
        spelled = subst (λ (r : List Token). Begins ts (spell_record b.version made) r)
            (ap (λ (q : SoFar × List Token). q.1) pair) (fields.joined ts (spell_head b.version h.0.0) h.0.1
            (spell_uses taken.taken) u.0.1 head.0 taken.spelled);
        fits = record {
          sound = head.1.sound;
          uses = taken.fits;
          few = omega (arith, taken.few);
          few_reps = head.1.few;
        };
        result = sym (ap (λ (q : SoFar × List Token). q.0) pair) ∙ ap (with_record s h.0.0) taken.result;
      }

  record_again : (s : SoFar) (r : Record) (ts rest : List Token) → Begins ts (spell_record b.version r) rest
      → FitsRecord most_reps b s r → record_at b s ts ≡ Ok (after b.records s r, rest)
  record_again s r ts rest begins fits =
      let split = fields.split ts (spell_head b.version r.head) (spell_uses r.uses) rest begins in
      rw (
        (heads (record b.tables { reps = s.reps }) b.version (omega (arith, fits.few_reps))).again ts split.0 r.head
            split.1 (record { sound = fits.sound; few = fits.few_reps }),
        uses_again forms fields b s r.head.kind names r.uses none_gathered split.0 rest split.2 fits.uses
            (omega (arith, fits.few)),
      ) refl

  -- ---- all records

  pub records_takes : (count : ℕ) (s : SoFar) (ts rest : List Token) (x : SoFar) → s.uses ≤ b.uses → s.reps ≤ most_reps
      → many_from (record_at b) s count ts ≡ Ok (x, rest) → AreRead b count s ts x rest
  records_takes zero s ts rest x within few e =
      let pair = ok_is (s, ts) (x, rest) e in
      record {
        all = [];
        many = refl;
        spelled = ap (λ (q : SoFar × List Token). q.1) pair;
        fit = tt;
        result = sym (ap (λ (q : SoFar × List Token). q.0) pair);
      }
  records_takes (suc count) s ts rest x within few e =
      let r = bind_ok (record_at b s ts) (λ r. many_from (record_at b) r.0 count r.1) (x, rest) e in
      let first = record_takes s ts r.0.1 r.0.0 within few r.1 in
      let fewer = after-uses b.records s first.one in
      let uses : r.0.0.uses ≡ s.uses + length first.one.uses = ap (λ (z : SoFar). z.uses) first.result ∙ fewer in
      let reps : r.0.0.reps ≡ s.reps + rep_count first.one.head.payload = ap (λ (z : SoFar). z.reps) first.result in
      let others = records_takes count r.0.0 r.0.1 rest x (omega (arith, uses, first.fits.few))
      (omega (arith, reps, first.fits.few_reps)) r.2 in
      record {
        all = first.one ∷ others.all;
        many = ap suc others.many;
        spelled = fields.joined ts (spell_record b.version first.one) r.0.1
            (flat_map (spell_record b.version) others.all) rest first.spelled others.spelled;
        fit = (first.fits, subst (λ (before : SoFar). FitAll most_reps b before others.all) first.result others.fit);
        result = others.result ∙ ap (λ (before : SoFar). after_all b.records before others.all) first.result;
      }

  pub records_again : (rs : List Record) (s : SoFar) (ts rest : List Token)
      → Begins ts (flat_map (spell_record b.version) rs) rest → FitAll most_reps b s rs
      → many_from (record_at b) s (length rs) ts ≡ Ok (after_all b.records s rs, rest)
  records_again [] s ts rest begins fit = rw begins refl
  records_again (r ∷ rs) s ts rest begins fit =
      let split = fields.split ts (spell_record b.version r) (flat_map (spell_record b.version) rs) rest begins in
      rw (record_again s r ts split.0 split.1 fit.0) (records_again rs (after b.records s r) split.0 rest split.2 fit.1)
