-- The section of locations is read exactly as it is spelled.
use Rattle.std.proofs.Common.{◌≡◌, ℕ, ◌≤◌, List, [], ◌∷◌, length, Ok, refl, sym, subst}
use Rattle.std.specs.Prelude.{codes}
use Rattle.std.specs.List.{flat_map}
use Rattle.std.specs.Fmt.{decimal}
use Rattle.brep_tokens.specs.declared.text.Token.{Token}
use Rattle.entry_readers.specs.Begins.{Begins, IsExact, IsSmall, FieldsAreExact}
use Rattle.lists.proofs.Results.{bind_ok}
use Rattle.location_table.specs.Sections.{SectionsAreExact, locations_at}
use Rattle.location_table.specs.Locations.{AreSoundLocations, spell_location}
use Rattle.location_table.specs.declared.entry.LocationEntry.{LocationEntry}
use Rattle.brep_file.specs.SectionReading.{heading_at, location_section_at}
use Rattle.brep_file.specs.Sound.{IsCountable}
use Rattle.brep_file.specs.Spelling.{section}
use Rattle.brep_file.proofs.SectionLaws.{heading_takes, heading_again}

-- the locations of a section: as many as a number tells and the limit allows, each sound after those before it
pub record FitLocations (most : ℕ) (entries : List LocationEntry) : Type 0 where
  pub countable : IsCountable entries
  pub sound : AreSoundLocations entries
  pub few : length entries ≤ most

module _ (exact : SectionsAreExact) (fields : FieldsAreExact) (most : ℕ) where
  locations_takes : (ts rest : List Token) (all : List LocationEntry) → location_section_at most ts ≡ Ok (all, rest)
      → Begins ts (section (codes "Locations") spell_location all) rest × FitLocations most all
  locations_takes ts rest all e =
      let h = bind_ok (heading_at (codes "Locations") most ts) (λ n. locations_at n.0 n.1) (all, rest) e in
      let head = heading_takes fields (codes "Locations") most ts h.0.1 h.0.0 h.1 in
      let read = (exact h.0.0).takes h.0.1 rest all h.2 in
      let whole : Begins ts (section (codes "Locations") spell_location all) rest =
      subst (λ (n : ℕ). Begins ts (codes "Locations" ∷ decimal n ∷ flat_map spell_location all) rest) (sym read.1.0)
      (fields.joined ts (codes "Locations" ∷ decimal h.0.0 ∷ []) h.0.1 (flat_map spell_location all) rest
      head.0 read.0) in (
        whole,
        record {
          countable = subst IsSmall (sym read.1.0) head.1;
          sound = read.1.1;
          few = subst (λ (n : ℕ). n ≤ most) (sym read.1.0) head.2;
        },
      )

  locations_again : (ts rest : List Token) (all : List LocationEntry)
      → Begins ts (section (codes "Locations") spell_location all) rest
      → FitLocations most all → location_section_at most ts ≡ Ok (all, rest)
  locations_again ts rest all b fit =
      let s = fields.split ts (codes "Locations" ∷ decimal (length all) ∷ []) (flat_map spell_location all) rest b in
      rw (heading_again fields (codes "Locations") most ts s.0 (length all) s.1 fit.countable fit.few)
      ((exact (length all)).again s.0 rest all s.2 (refl, fit.sound))

  pub locations_section : IsExact (location_section_at most) (section (codes "Locations") spell_location)
      (FitLocations most)
  locations_section = record { takes = locations_takes; again = locations_again }
