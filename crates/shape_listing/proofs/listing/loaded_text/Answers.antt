-- The root that is loaded is the file's expansion.
use Rattle.shape_listing.proofs.listing.loaded_text.Goals as goal

pub push_listing-requires-clause-root : goal.push_listing-requires-clause-root
push_listing-requires-clause-root c = c.in-Ok.ensures.held.0

pub push_listing-requires-clause-place : goal.push_listing-requires-clause-place
push_listing-requires-clause-place c = c.in-Ok.ensures.held.1

pub push_listing-requires-clause-places : goal.push_listing-requires-clause-places
push_listing-requires-clause-places c = c.in-Ok.ensures.loaded.places
