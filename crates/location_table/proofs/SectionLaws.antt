-- The section, entry by entry.
use Rattle.std.proofs.Common.{◌≡◌, ℕ, zero, suc, ◌-◌, ◌<◌, ◌==◌, false, List, [], ◌∷◌, ◌++◌, length, Ok, Err, refl, sym}
use Rattle.std.proofs.Common.{ap, ◌∙◌, append_assoc, append-nil, arith}
use Rattle.std.proofs.lemmas.Bool.Decides.{nat_tests}
use Rattle.brep_tokens.specs.declared.text.Token.{Token}
use Rattle.lists.specs.Results.{◌>>=◌}
use Rattle.entry_readers.specs.Reading.{Read, more}
use Rattle.entry_readers.specs.Begins.{Begins, FieldsAreExact}
use Rattle.lists.proofs.Results.{bind_ok, ok_is}
use Rattle.location_table.specs.declared.entry.LocationEntry.{LocationEntry}
use Rattle.location_table.specs.Locations.{location_at, spell_location, AreSoundAfter}
use Rattle.location_table.specs.Sections.{begun_from, locations_from, spell_locations, SectionsAreExact}
use Rattle.location_table.specs.Laws.{LocationsAreExact}

not_done : (n : ℕ) → 0 < n → (n == 0) ≡ false
not_done n lt = grind (arith, nat_tests)

step : (before : List LocationEntry) (n : ℕ) (ts : List Token) → 0 < n
    → locations_from before n ts ≡ (location_at before ts >>= λ e. locations_from (before ++ e.0 ∷ []) (n - 1) e.1)
step before zero ts lt = absurd (omega (arith, lt))
step before (suc n) ts lt =
    let e : suc n - 1 ≡ n = omega arith in
    rw e refl

-- an entry is whole
pub moved : (left : List Token → Read LocationEntry) (before : List LocationEntry) (n : ℕ) → 0 < n
    → (x : LocationEntry) (ts rest : List Token) → left ts ≡ Ok (x, rest)
    → begun_from left before n ts ≡ locations_from (before ++ x ∷ []) (n - 1) rest
moved left before n lt x ts rest e = rw (not_done n lt, e) refl

-- the next one isn't begun
pub fresh : (left : List Token → Read LocationEntry) (before : List LocationEntry) (n : ℕ) → 0 < n
    → ((ts : List Token) → left ts ≡ location_at before ts) → (ts : List Token)
    → begun_from left before n ts ≡ locations_from before n ts
fresh left before n lt new ts = rw (not_done n lt, new ts, step before n ts lt) refl

pub fresh_open : (left : List Token → Read LocationEntry) (before : List LocationEntry) (n : ℕ) → 0 < n
    → left [] ≡ Err more → begun_from left before n [] ≡ Err more
fresh_open left before n lt e = rw (not_done n lt, e) refl

module _ (fields : FieldsAreExact) (exact : LocationsAreExact) where
  record New (before : List LocationEntry) (n : ℕ) (ts rest : List Token) (all : List LocationEntry) : Type 0 where
    new : List LocationEntry
    joined : all ≡ before ++ new
    begins : Begins ts (spell_locations new) rest
    many : length new ≡ n
    sound : AreSoundAfter before new

  takes : (before : List LocationEntry) (n : ℕ) (ts rest : List Token) (all : List LocationEntry)
      → locations_from before n ts ≡ Ok (all, rest) → New before n ts rest all
  takes before zero ts rest all e =
      let p = ok_is (before, ts) (all, rest) e in
      record {
        new = [];
        joined = sym (ap (λ (q : List LocationEntry × List Token). q.0) p) ∙ sym (append-nil before);
        begins = ap (λ (q : List LocationEntry × List Token). q.1) p;
        many = refl;
        sound = tt;
      }
  takes before (suc n) ts rest all e =
      let b = bind_ok (location_at before ts) (λ e. locations_from (before ++ e.0 ∷ []) n e.1) (all, rest) e in
      let one = (exact.location before).takes ts b.0.1 b.0.0 b.1 in
      let others = takes (before ++ b.0.0 ∷ []) n b.0.1 rest all b.2 in
      record {
        new = b.0.0 ∷ others.new;
        joined = others.joined ∙ append_assoc before (b.0.0 ∷ []) others.new;
        begins = fields.joined ts (spell_location b.0.0) b.0.1 (spell_locations others.new) rest one.0 others.begins;
        many = ap suc others.many;
        sound = (one.1, others.sound);
      }

  again : (before new : List LocationEntry) (ts rest : List Token) → Begins ts (spell_locations new) rest
      → AreSoundAfter before new → locations_from before (length new) ts ≡ Ok (before ++ new, rest)
  again before [] ts rest b sound = rw (b, append-nil before) refl
  again before (x ∷ new) ts rest b sound =
      let s = fields.split ts (spell_location x) (spell_locations new) rest b in
      let one : location_at before ts ≡ Ok (x, s.0) = (exact.location before).again ts s.0 x s.1 sound.0 in
      rw (one, again (before ++ x ∷ []) new s.0 rest s.2 sound.1, append_assoc before (x ∷ []) new) refl

  pub sections_are_exact : SectionsAreExact
  sections_are_exact n = record {
    takes = λ ts rest all e. (let t = takes [] n ts rest all e in rw t.joined (t.begins, (t.many, t.sound)));
    again = λ ts rest all b is. rw (← is.0) (again [] all ts rest b is.1);
  }
