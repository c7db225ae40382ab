-- What stands after a listing, whole or stopped, and why it is refused.
use Rattle.std.specs.Prelude.{◌≡◌, ◌⊎◌, ℕ, IsTrue, List, Option, None, Some}
use Rattle.brep_desk.specs.Shown.{Shown, Tells}
use Rattle.brep_file.specs.declared.file.File.{File}
use Rattle.shape_listing.specs.declared.fault.ListingFault.{ListingFault}
use Rattle.shape_listing.specs.declared.fault.ListingFault.TheVariants as faults
use Rattle.shape_listing.specs.declared.listing.Listing.{Listing}
use Rattle.shape_listing.specs.Files.{listing_due, text_of_listing}
use Rattle.brep_run.specs.declared.outcome.Outcome.{Outcome}
use Rattle.brep_run.specs.declared.outcome.Outcome.TheVariants as outcomes
use Rattle.key_results.specs.declared.fault.LimitKind.{LimitKind}
use Rattle.key_results.specs.declared.fault.LimitKind.TheVariants.{Keys, WordPairs, WordPower, Pairs}
use Rattle.brep_run.specs.Copy.{IsFileLimit, OutWritten, PrefixWritten}
use Rattle.brep_run.specs.Rewrite.{HoldsFile}

-- the outcome that a limit of a listing is told as
abbrev pub told_as : ListingFault → Outcome
told_as (faults.Keys n) = outcomes.Limit Keys n
told_as (faults.WordPairs n) = outcomes.Limit WordPairs n
told_as (faults.WordPower n) = outcomes.Limit WordPower n
told_as (faults.Pairs n) = outcomes.Limit Pairs n
told_as faults.NoMemory = outcomes.NoMemory

-- the outcome that is due where a file is listed: done where no limit is passed
abbrev pub told_of : Option ListingFault → Outcome
told_of None = outcomes.Done
told_of (Some fault) = told_as fault

abbrev pub listing_outcome : Listing → File → Outcome
listing_outcome listing f = told_of (listing_due f listing)

-- the file that the source holds, its text, and that no limit is passed
abbrev pub IsListingDue : Tells → Shown → List ℕ → Listing → List ℕ → Type 0
IsListingDue t old source listing text = IsTrue t.held →
    (f : File) × HoldsFile old source f × (text ≡ text_of_listing f listing) × (listing_due f listing ≡ None)

-- the text that is due stands whole under the name
abbrev pub IsListed : Tells → Shown → Shown → List ℕ → Listing → List ℕ → Type 0
IsListed t old new source listing target =
    (text : List ℕ) × IsListingDue t old source listing text × OutWritten t old new target text

-- the writing of the text that is due was stopped
abbrev pub IsListingStopped : Tells → Shown → Shown → List ℕ → Listing → List ℕ → ℕ → ℕ → Type 0
IsListingStopped t old new source listing target file taken =
    (file ≡ 1)
    × ((text : List ℕ) × IsListingDue t old source listing text × PrefixWritten t old new target text taken)

-- the file has more bytes than the limit, or else this limit is the first that its listing passes
abbrev pub IsListingLimit : Tells → Shown → List ℕ → Listing → LimitKind → ℕ → Type 0
IsListingLimit t old source listing which count =
    IsFileLimit t old source which count
    ⊎ (IsTrue t.held →
    (f : File) × HoldsFile old source f × (listing_outcome listing f ≡ outcomes.Limit which count))
