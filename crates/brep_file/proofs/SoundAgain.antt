-- The records of a sound file within the limits are accepted in reading.
use Rattle.std.proofs.Common.{◌≡◌, ℕ, suc, ◌+◌, ◌-◌, ◌<◌, ◌≤◌, List, [], ◌∷◌, ◌++◌, length, Some, refl, sym, ap, ◌∙◌}
use Rattle.std.proofs.Common.{append_assoc, arith}
use Rattle.std.specs.Prelude.{slice_get}
use Rattle.std.specs.List.{flat_map, AllByRecursion}
use Rattle.std.proofs.lemmas.List.{length-append}
use Rattle.std.proofs.lemmas.List.Elements.{recursion_from_All}
use Rattle.orientation.specs.declared.kind.Kind.{Kind}
use Rattle.orientation.specs.Laws.{SignsAndNamesTell}
use Rattle.tshape_data.specs.RepReading.{most_reps}
use Rattle.tshape_data.specs.Sound.{rep_count}
use Rattle.expansion_laws.specs.Measures.{depth}
use Rattle.brep_file.specs.declared.uses.FileUse.{FileUse}
use Rattle.brep_file.specs.declared.records.Record.{Record}
use Rattle.brep_file.specs.declared.file.File.{File}
use Rattle.brep_file.specs.PlainRecords.{record_of}
use Rattle.brep_file.specs.Seen.{Seen}
use Rattle.brep_file.specs.Sound.{Limits, IsWithin, IsUse, IsSound, reps_in, sizes_of}
use Rattle.brep_file.specs.RecordReading.{RecordBounds, Gathered, none_gathered, SoFar, nothing_read}
use Rattle.brep_file.proofs.UseLaws.{seen_depth, FitsUse, with_use, with_uses}
use Rattle.brep_file.proofs.RecordLaws.{FitsRecord, FitAll, after, after-uses}
use Rattle.brep_file.proofs.FileParts.{FitFile, FitRecords, FitsEnd, bounds_of}
use Rattle.brep_file.proofs.LocationLaws.{FitLocations}
use Rattle.brep_file.proofs.DepthLaws.{get_left, get_joint, tree_in, tree_kept, Tells, seen_of, tells_nothing, known}
use Rattle.brep_file.proofs.DepthLaws.{known_depth, IsNamed, new_depth, tells_more}
use Rattle.brep_file.proofs.SoundLaws.{is_below_true, gathered_least}

-- the counts are within these limits, and the records have at most so many representations
pub record IsCounted (most : ℕ) (limits : Limits) (f : File) : Type 0 where
  pub locations : length f.locations ≤ limits.entries
  pub curve2s : length f.curve2s ≤ limits.entries
  pub curves : length f.curves ≤ limits.entries
  pub polygons : length f.polygons ≤ limits.entries
  pub polygons_on : length f.polygons_on ≤ limits.entries
  pub surfaces : length f.surfaces ≤ limits.entries
  pub meshes : length f.meshes ≤ limits.entries
  pub records : length f.records ≤ limits.records
  pub uses : length (flat_map (λ r. r.uses) f.records) ≤ limits.uses
  pub reps : reps_in f.records ≤ most

pub counted : (limits : Limits) (f : File) → IsWithin limits f → IsCounted most_reps limits f
counted limits f w = record {
  locations = w.locations;
  curve2s = w.curve2s;
  curves = w.curves;
  polygons = w.polygons;
  polygons_on = w.polygons_on;
  surfaces = w.surfaces;
  meshes = w.meshes;
  records = w.records;
  uses = w.uses;
  reps = w.reps;
}

module _ (names : SignsAndNamesTell) (f : File) (sound : IsSound f) where
  abbrev n : ℕ
  n = length f.records

  -- each use names a record above
  named_in : (k : ℕ) (parent : Kind) (us : List FileUse) → AllByRecursion (IsUse f k parent) us
      → AllByRecursion (IsNamed f.locations n k) us
  named_in k parent [] are = tt
  named_in k parent (u ∷ us) are = ((are.0.above, are.0.named), named_in k parent us are.1)

  module _ (k : ℕ) (parent : Kind) (rs rest : List Record) (seen : List Seen) (all : rs ++ rest ≡ f.records)
      (tells : Tells f.locations n k rs seen) where
    use_fits : (u : FileUse) → IsUse f k parent u → seen_depth n seen u.number < 512
        → FitsUse (length f.locations) n parent seen u
    use_fits u is shallow =
        let own = known f.locations n k rs seen tells u.number is.above is.named in
        let inside : n - u.number < length rs = omega (arith, tells.count, is.above, is.named) in
        let there : record_of f u.number ≡ Some own.0 = ap (λ (xs : List Record). slice_get xs (n - u.number)) (sym all)
        ∙ get_left rs rest (n - u.number) inside ∙ own.1 in
        let deep = known_depth f.locations n k rs seen tells u.number is.above is.named in
        record {
          child = seen_of f.locations k rs u.number own.0;
          found = own.2;
          from = omega (arith, is.above);
          to = is.named;
          in_order = is_below_true names own.0.head.kind parent (is.in_order own.0 there);
          shallow = omega (arith, deep, shallow);
          location = is.location;
          small = omega (arith, is.named, sound.countable);
          location_small = omega (arith, is.location, sound.tables.countable);
        }

    uses_fit : (us : List FileUse) (g : Gathered) → AllByRecursion (IsUse f k parent) us
        → (with_uses n seen g us).depth < 512 → AllByRecursion (FitsUse (length f.locations) n parent seen) us
    uses_fit [] g are shallow = tt
    uses_fit (u ∷ us) g are shallow =
        let least = gathered_least n seen us (with_use n seen g u) in
        (use_fits u are.0 (omega (arith, least, shallow)), uses_fit us (with_use n seen g u) are.1 shallow)

  module _ (reps uses : ℕ) where
    abbrev b : RecordBounds
    b = bounds_of f.version (sizes_of f) n uses

    record_fits : (k : ℕ) (rs rest : List Record) (s : SoFar) (r : Record) → rs ++ r ∷ rest ≡ f.records
        → length rest ≡ k → (tells : Tells f.locations n (suc k) rs s.seen) → s.uses + length r.uses ≤ uses
        → s.reps + rep_count r.head.payload ≤ reps
        → FitsRecord reps b s r × Tells f.locations n k (rs ++ r ∷ []) (after n s r).seen
    record_fits k rs rest s r all few_left tells few few_reps =
        let place : n - suc k ≡ length rs = omega (arith, tells.count) in
        let there : record_of f (suc k) ≡ Some r = ap (slice_get f.records) place
        ∙ ap (λ (xs : List Record). slice_get xs (length rs)) (sym all) ∙ get_joint rs rest r in
        let within : suc k ≤ n = omega (arith, tells.count) in
        let is = sound.records (suc k) r (omega arith, within) there in
        let all_uses = recursion_from_All (IsUse f (suc k) r.head.kind) r.uses is.uses in
        let are = named_in (suc k) r.head.kind r.uses all_uses in
        let deep : depth (tree_in f.locations 0 f.records (suc k)) ≤ 512 = sound.depths (suc k) (omega arith, within) in
        let kept : tree_in f.locations 0 f.records (suc k) ≡ tree_in f.locations k (rs ++ r ∷ []) (suc k) =
        ap (λ (xs : List Record). tree_in f.locations 0 xs (suc k)) (sym all ∙ sym (append_assoc rs (r ∷ []) rest))
        ∙ tree_kept f.locations rest (rs ++ r ∷ []) (suc k) (omega (arith, few_left))
        ∙ ap (λ (m : ℕ). tree_in f.locations m (rs ++ r ∷ []) (suc k)) few_left in
        let new = new_depth f.locations n k rs s.seen tells r are in
        let shallow : (with_uses n s.seen none_gathered r.uses).depth < 512 =
        omega (arith, deep, ap depth kept, new) in (
          record {
            sound = is.head;
            uses = uses_fit (suc k) r.head.kind rs (r ∷ rest) s.seen all tells r.uses none_gathered all_uses shallow;
            few = few;
            few_reps = few_reps;
          },
          tells_more f.locations n k rs s.seen tells r are,
        )

    all_fit : (rest rs : List Record) (s : SoFar) → rs ++ rest ≡ f.records → Tells f.locations n (length rest) rs s.seen
        → s.uses + length (flat_map (λ r. r.uses) rest) ≤ uses → s.reps + reps_in rest ≤ reps → FitAll reps b s rest
    all_fit [] rs s all tells few few_reps = tt
    all_fit (r ∷ rest) rs s all tells few few_reps =
        let both = length-append r.uses (flat_map (λ r. r.uses) rest) in
        let one = record_fits (length rest) rs rest s r all refl tells (omega (arith, few, both))
        (omega (arith, few_reps)) in (
          one.0,
          all_fit rest (rs ++ r ∷ []) (after n s r) (append_assoc rs (r ∷ []) rest ∙ all) one.1
              (omega (arith, few, both, after-uses n s r)) (omega (arith, few_reps)),
        )

  pub fits_from : (reps : ℕ) (limits : Limits) → IsCounted reps limits f → FitFile reps limits f
  fits_from reps limits within =
      let of_records : FitRecords reps limits f = record {
        countable = sound.countable;
        within = within.records;
        fit = all_fit reps limits.uses f.records [] nothing_read refl (tells_nothing f.locations n)
            (omega (arith, within.uses)) (omega (arith, within.reps));
      } in
      let root : FitsEnd f = record {
        named = sound.root;
        location = sound.root_location;
        small = omega (arith, sound.root.1, sound.countable);
        location_small = omega (arith, sound.root_location, sound.tables.countable);
      } in
      let locations : FitLocations limits.entries f.locations = record {
        countable = sound.tables.countable;
        sound = sound.tables.locations;
        few = within.locations;
      } in (
        locations,
        (
          (sound.tables.curve2s, within.curve2s),
          (
            (sound.tables.curves, within.curves),
            (
              (sound.tables.polygons, within.polygons),
              (
                (sound.tables.polygons_on, within.polygons_on),
                ((sound.tables.surfaces, within.surfaces), ((sound.tables.meshes, within.meshes), (of_records, root))),
              ),
            ),
          ),
        ),
      )
