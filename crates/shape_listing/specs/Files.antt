-- What is listed of a file, and why it isn't.
use Rattle.std.specs.Prelude.{ℕ, List, Option}
use Rattle.brep_file.specs.declared.file.File.{File}
use Rattle.brep_file.specs.PlainRecords.{expansion_of}
use Rattle.file_loading.specs.Loading.{kind_of_record}
use Rattle.shape_listing.specs.declared.fault.ListingFault.{ListingFault}
use Rattle.shape_listing.specs.declared.listing.Listing.{Listing}
use Rattle.shape_listing.specs.Texts.{text_of}
use Rattle.shape_listing.specs.Causes.{due_of}

-- of the file's expansion, where origins have the kinds of the file's records
abbrev pub text_of_listing : File → Listing → List ℕ
text_of_listing f listing = text_of (kind_of_record f) listing (expansion_of f)

-- the limit that is passed first, and none where none is
abbrev pub listing_due : File → Listing → Option ListingFault
listing_due f listing = due_of (kind_of_record f) listing (expansion_of f)
