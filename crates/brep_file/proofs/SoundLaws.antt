-- The records that reading accepts are those of a sound file within the limits.
use Rattle.std.proofs.Common.{◌≡◌, ℕ, suc, ◌+◌, ◌-◌, ◌<◌, ◌≤◌, ◌||◌, nat_lt, ◌⊎◌, inl, inr, Bool, true, false, List, []}
use Rattle.std.proofs.Common.{◌∷◌, ◌++◌, length, Option, Some, refl, sym, ap, subst, ◌∙◌, append_assoc, append-nil}
use Rattle.std.proofs.Common.{arith}
use Rattle.std.specs.Prelude.{slice_get}
use Rattle.std.specs.List.{flat_map, AllByRecursion}
use Rattle.std.specs.Option.{option_map_or}
use Rattle.std.proofs.lemmas.Bool.{ltb-true, lt-ltb}
use Rattle.std.proofs.lemmas.List.{length-append}
use Rattle.std.proofs.lemmas.List.Elements.{All-from_recursion}
use Rattle.orientation.specs.declared.kind.Kind.{Kind}
use Rattle.orientation.specs.declared.kind.Kind.TheVariants.{Co}
use Rattle.orientation.specs.Kinds.{rank_of, kind_eq, IsBelow, is_below}
use Rattle.orientation.specs.Laws.{SignsAndNamesTell}
use Rattle.tshape_data.specs.RepReading.{most_reps}
use Rattle.expansion_laws.specs.Trees.{Tree}
use Rattle.expansion_laws.specs.Measures.{depth}
use Rattle.brep_file.specs.declared.uses.FileUse.{FileUse}
use Rattle.brep_file.specs.declared.records.Record.{Record}
use Rattle.brep_file.specs.declared.file.File.{File}
use Rattle.brep_file.specs.Seen.{Seen}
use Rattle.brep_file.specs.Sound.{Limits, IsWithin, IsUse, IsRecord, IsSound, AreSoundTables, reps_in, sizes_of}
use Rattle.brep_file.specs.Spelling.{spell_file}
use Rattle.brep_file.specs.RecordReading.{RecordBounds, Gathered, none_gathered, SoFar, nothing_read}
use Rattle.brep_file.proofs.Basics.{some_is}
use Rattle.brep_file.proofs.UseLaws.{seen_depth, FitsUse, with_use, with_uses}
use Rattle.brep_file.proofs.RecordLaws.{FitsRecord, FitAll, after, after-uses}
use Rattle.brep_file.proofs.FileParts.{FitFile, bounds_of}
use Rattle.brep_file.proofs.DepthLaws.{get_left, pushed, tree_in, tree_older, Tells, tells_nothing, known, named}
use Rattle.brep_file.proofs.DepthLaws.{IsNamed, new_depth, tells_more}

-- ---- kinds in order

either_true : (a b : Bool) → (a || b) ≡ true → (a ≡ true) ⊎ (b ≡ true)
either_true true b e = inl refl
either_true false b e = inr e

left_true : (a b : Bool) → a ≡ true → (a || b) ≡ true
left_true a b e = rw e refl

right_true : (a b : Bool) → b ≡ true → (a || b) ≡ true
right_true true b e = refl
right_true false b e = e

pub below_is : (names : SignsAndNamesTell) (child parent : Kind) → is_below child parent ≡ true → IsBelow child parent
below_is names child parent e =
    elim (either_true (nat_lt (rank_of child) (rank_of parent)) (kind_eq parent Co) e) [
      | inl lower ↦ inl (ltb-true (rank_of child) (rank_of parent) lower)
      | inr compound ↦ inr ((names.kinds parent Co).0 compound)
    ]

pub is_below_true : (names : SignsAndNamesTell) (child parent : Kind) → IsBelow child parent
    → is_below child parent ≡ true
is_below_true names child parent (inl lower) = left_true (nat_lt (rank_of child) (rank_of parent)) (kind_eq parent Co)
    (lt-ltb (rank_of child) (rank_of parent) lower)
is_below_true names child parent (inr compound) = right_true (nat_lt (rank_of child) (rank_of parent))
    (kind_eq parent Co) ((names.kinds parent Co).1 compound)

-- ---- how deep uses may be

gathered_shallow : (locations n : ℕ) (parent : Kind) (seen : List Seen) (us : List FileUse) (g : Gathered)
    → g.depth < 512 → AllByRecursion (FitsUse locations n parent seen) us → (with_uses n seen g us).depth < 512
gathered_shallow locations n parent seen [] g shallow fit = shallow
gathered_shallow locations n parent seen (u ∷ us) g shallow fit =
    let one : seen_depth n seen u.number ≡ fit.0.child.depth =
    ap (λ (o : Option Seen). option_map_or (λ c. c.depth) o 0) fit.0.found in
    gathered_shallow locations n parent seen us (with_use n seen g u) (omega (arith, one, shallow, fit.0.shallow)) fit.1

pub gathered_least : (n : ℕ) (seen : List Seen) (us : List FileUse) (g : Gathered)
    → g.depth ≤ (with_uses n seen g us).depth
gathered_least n seen [] g = omega arith
gathered_least n seen (u ∷ us) g = omega (arith, gathered_least n seen us (with_use n seen g u))

-- ---- what was read is sound

module _ (names : SignsAndNamesTell) (f : File) where
  abbrev n : ℕ
  n = length f.records

  abbrev Fits : Kind → List Seen → FileUse → Type 0
  Fits parent seen u = FitsUse (length f.locations) (length f.records) parent seen u

  named_of : (k : ℕ) (parent : Kind) (rs : List Record) (seen : List Seen) (tells : Tells f.locations n k rs seen)
      (us : List FileUse) → AllByRecursion (Fits parent seen) us → AllByRecursion (IsNamed f.locations n k) us
  named_of k parent rs seen tells [] fit = tt
  named_of k parent rs seen tells (u ∷ us) fit =
      (named f.locations n k rs seen tells u.number fit.0.child fit.0.found, named_of k parent rs seen tells us fit.1)

  use_sound : (k : ℕ) (parent : Kind) (rs rest : List Record) (seen : List Seen) → rs ++ rest ≡ f.records
      → Tells f.locations n k rs seen → (u : FileUse) → Fits parent seen u → IsUse f k parent u
  use_sound k parent rs rest seen all tells u fits =
      let within = named f.locations n k rs seen tells u.number fits.child fits.found in
      record {
        above = within.0;
        named = within.1;
        in_order = λ r e. (
            let own = known f.locations n k rs seen tells u.number within.0 within.1 in
            let inside : n - u.number < length rs = omega (arith, tells.count, within.0, within.1) in
            let same : own.0 ≡ r = some_is (sym own.1 ∙ sym (get_left rs rest (n - u.number) inside)
            ∙ ap (λ (xs : List Record). slice_get xs (n - u.number)) all ∙ e) in
            let child : fits.child.kind ≡ own.0.head.kind =
            ap (λ (s : Seen). s.kind) (some_is (sym fits.found ∙ own.2)) in
            below_is names r.head.kind parent
            (ap (λ (j : Kind). is_below j parent) (sym (child ∙ ap (λ (x : Record). x.head.kind) same))
            ∙ fits.in_order));
        location = fits.location;
      }

  uses_sound : (k : ℕ) (parent : Kind) (rs rest : List Record) (seen : List Seen) → rs ++ rest ≡ f.records
      → Tells f.locations n k rs seen → (us : List FileUse) → AllByRecursion (Fits parent seen) us
      → AllByRecursion (IsUse f k parent) us
  uses_sound k parent rs rest seen all tells [] fit = tt
  uses_sound k parent rs rest seen all tells (u ∷ us) fit =
      (use_sound k parent rs rest seen all tells u fit.0, uses_sound k parent rs rest seen all tells us fit.1)

  -- the records read so far are records of the sound file
  record AreSound (k : ℕ) (rs : List Record) (seen : List Seen) : Type 0 where
    tells : Tells f.locations n k rs seen
    records : (number : ℕ) (r : Record) → k < number → number ≤ n → slice_get rs (n - number) ≡ Some r
        → IsRecord f number r
    depths : (number : ℕ) (r : Record) → k < number → number ≤ n → slice_get rs (n - number) ≡ Some r
        → depth (tree_in f.locations k rs number) ≤ 512

  module _ (reps uses : ℕ) where
    abbrev b : RecordBounds
    b = bounds_of f.version (sizes_of f) n uses

    one_sound : (k : ℕ) (rs rest : List Record) (s : SoFar) (r : Record) → rs ++ r ∷ rest ≡ f.records
        → AreSound (suc k) rs s.seen → FitsRecord reps b s r → AreSound k (rs ++ r ∷ []) (after n s r).seen
    one_sound k rs rest s r all sound fits =
        let are = named_of (suc k) r.head.kind rs s.seen sound.tells r.uses fits.uses in
        let shallow = gathered_shallow (length f.locations) n r.head.kind s.seen r.uses none_gathered
        (omega arith) fits.uses in
        record {
          tells = tells_more f.locations n k rs s.seen sound.tells r are;
          records = pushed (IsRecord f) n k rs r sound.tells.count sound.records
              (record {
                head = fits.sound;
                uses = All-from_recursion (IsUse f (suc k) r.head.kind) r.uses
                    (uses_sound (suc k) r.head.kind rs (r ∷ rest) s.seen all sound.tells r.uses fits.uses);
              });
          depths = pushed (λ number _. depth (tree_in f.locations k (rs ++ r ∷ []) number) ≤ 512) n k rs r
              sound.tells.count
              (λ number x above within e. subst (λ (t : Tree). depth t ≤ 512)
              (sym (tree_older f.locations k rs r number above)) (sound.depths number x above within e))
              (let d = new_depth f.locations n k rs s.seen sound.tells r are in omega (arith, d, shallow));
        }

    all_sound : (rest rs : List Record) (s : SoFar) → rs ++ rest ≡ f.records → AreSound (length rest) rs s.seen
        → FitAll reps b s rest → (seen : List Seen) × AreSound 0 f.records seen
    all_sound [] rs s all sound fit =
        (s.seen, subst (λ (xs : List Record). AreSound 0 xs s.seen) (sym (append-nil rs) ∙ all) sound)
    all_sound (r ∷ rest) rs s all sound fit = all_sound rest (rs ++ r ∷ []) (after n s r) (append_assoc rs (r ∷ []) rest
        ∙ all) (one_sound (length rest) rs rest s r all sound fit.0) fit.1

    uses_within : (rs : List Record) (s : SoFar) → s.uses ≤ uses → FitAll reps b s rs
        → s.uses + length (flat_map (λ r. r.uses) rs) ≤ uses
    uses_within [] s within fit = omega (arith, within)
    uses_within (r ∷ rs) s within fit =
        let one = after-uses n s r in
        let others = uses_within rs (after n s r) (omega (arith, one, within, fit.0.few)) fit.1 in
        omega (arith, one, others, length-append r.uses (flat_map (λ r. r.uses) rs))

    reps_within : (rs : List Record) (s : SoFar) → s.reps ≤ reps → FitAll reps b s rs → s.reps + reps_in rs ≤ reps
    reps_within [] s within fit = omega (arith, within)
    reps_within (r ∷ rs) s within fit =
        let others = reps_within rs (after n s r) fit.0.few_reps fit.1 in
        omega (arith, others)

  module _ (limits : Limits) (fits : FitFile most_reps limits f) where
    abbrev tables : AreSoundTables f
    tables = record {
      countable = fits.0.countable;
      locations = fits.0.sound;
      curve2s = fits.1.0.0;
      curves = fits.1.1.0.0;
      polygons = fits.1.1.1.0.0;
      polygons_on = fits.1.1.1.1.0.0;
      surfaces = fits.1.1.1.1.1.0.0;
      meshes = fits.1.1.1.1.1.1.0.0;
    }

    pub sound_from : (f.version ≡ 1) ⊎ (f.version ≡ 2) → AllByRecursion (λ text. length text ≤ 128) (spell_file f)
        → IsSound f
    sound_from version short =
        let of_records = fits.1.1.1.1.1.1.1.0 in
        let root = fits.1.1.1.1.1.1.1.1 in
        let found = all_sound most_reps limits.uses f.records [] nothing_read refl (record {
          tells = tells_nothing f.locations n;
          records = λ number r above within e. absurd (omega (arith, above, within));
          depths = λ number r above within e. absurd (omega (arith, above, within));
        }) of_records.fit in
        record {
          version = version;
          tokens = short;
          tables = tables;
          countable = of_records.countable;
          records = λ k r is e. found.1.records k r is.0 is.1 e;
          depths = λ k is. (let own = known f.locations n 0 f.records found.0 found.1.tells k is.0 is.1 in
              found.1.depths k own.0 is.0 is.1 own.1);
          root = root.named;
          root_location = root.location;
        }

    pub within_from : IsWithin limits f
    within_from = record {
      locations = fits.0.few;
      curve2s = fits.1.0.1;
      curves = fits.1.1.0.1;
      polygons = fits.1.1.1.0.1;
      polygons_on = fits.1.1.1.1.0.1;
      surfaces = fits.1.1.1.1.1.0.1;
      meshes = fits.1.1.1.1.1.1.0.1;
      records = fits.1.1.1.1.1.1.1.0.within;
      uses = omega (
        arith,
        uses_within most_reps limits.uses f.records nothing_read
            (omega arith) fits.1.1.1.1.1.1.1.0.fit,
      );
      reps = omega (
        arith,
        reps_within most_reps limits.uses f.records nothing_read
            (omega arith) fits.1.1.1.1.1.1.1.0.fit,
      );
    }
