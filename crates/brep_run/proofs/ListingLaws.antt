-- A listing after its file was read.
use Rattle.std.proofs.Common.{◌≡◌, ℕ, List, IsTrue}
use Rattle.std.specs.Prelude.{None}
use Rattle.brep_desk.specs.Shown.{Shown, Tells}
use Rattle.brep_desk.specs.Transfers.{NothingWritten, NoMoreOpen}
use Rattle.brep_file.specs.declared.file.File.{File}
use Rattle.shape_listing.specs.declared.listing.Listing.{Listing}
use Rattle.shape_listing.specs.Files.{listing_due, text_of_listing}
use Rattle.brep_run.specs.declared.outcome.Outcome.{Outcome}
use Rattle.brep_run.specs.declared.outcome.Outcome.TheVariants.{Done, Usage, NotBuilt, Script, Cycle, Limit}
use Rattle.brep_run.specs.declared.outcome.Outcome.TheVariants.{ReadDesk, WriteDesk, NoMemory}
use Rattle.brep_run.specs.declared.outcome.Outcome.TheVariants as outcomes
use Rattle.brep_run.specs.Copy.{FirstStopped, OutWritten}
use Rattle.brep_run.specs.Listings.{IsListed, IsListingDue, IsListingStopped}
use Rattle.brep_run.specs.Outcomes.{OnDone, IfStopped}
use Rattle.brep_run.specs.Rewrite.{HoldsFile}
use Rattle.brep_run.proofs.Reading.{out-after}
use Rattle.brep_run.proofs.Stopping.{prefix_after}

-- a file that was read, and what is listed of it
pub due-listing : (t : Tells) (old : Shown) (source text : List ℕ) (listing : Listing) (f : File)
    → (IsTrue t.held → HoldsFile old source f) → text ≡ text_of_listing f listing → listing_due f listing ≡ None
    → IsListingDue t old source listing text
due-listing t old source text listing f file written none = λ told. (f, file told, written, none)

module _ (t : Tells) (a b d : Shown) (source text : List ℕ) (listing : Listing) (target : List ℕ)
    (quiet : NothingWritten t a b) (due : IsListingDue t a source listing text) where
  pub listed-after : (IsTrue t.opened → NoMoreOpen a b) → (o : Outcome) → OnDone o (OutWritten t b d target text)
      → OnDone o (IsListed t a d source listing target)
  listed-after closed Done h = (text, due, out-after t a b d quiet closed target text h)
  listed-after closed Usage h = tt
  listed-after closed NotBuilt h = tt
  listed-after closed (outcomes.File fault) h = tt
  listed-after closed (Script fault) h = tt
  listed-after closed (Cycle walk) h = tt
  listed-after closed (Limit which count) h = tt
  listed-after closed (ReadDesk before after) h = tt
  listed-after closed (WriteDesk before after file taken) h = tt
  listed-after closed NoMemory h = tt

  pub stopped-listing : (o : Outcome) → IfStopped o (FirstStopped t b d target text)
      → IfStopped o (IsListingStopped t a d source listing target)
  stopped-listing Done h = tt
  stopped-listing Usage h = tt
  stopped-listing NotBuilt h = tt
  stopped-listing (outcomes.File fault) h = tt
  stopped-listing (Script fault) h = tt
  stopped-listing (Cycle walk) h = tt
  stopped-listing (Limit which count) h = tt
  stopped-listing (ReadDesk before after) h = tt
  stopped-listing (WriteDesk before after file taken) h =
      (h.0, (text, due, prefix_after t a b d source target text quiet taken h.1))
  stopped-listing NoMemory h = tt
