use Rattle.std.proofs.Common.{◌∙◌}
use Rattle.brep_run.proofs.ListingLaws.{due-listing, listed-after, stopped-listing}
use Rattle.brep_run.proofs.listing.list.Goals as goal

pub returns-in-Ok-listing_text-clause-done : goal.returns-in-Ok-listing_text-clause-done
returns-in-Ok-listing_text-clause-done g c =
    listed-after g.D.Desk.tells (g.D.Desk.shows c.args.desk.now) _ _ c.args.source.now _ c.args.listing
    c.args.target.now c.in-Ok.ensures.quiet
    (due-listing g.D.Desk.tells (g.D.Desk.shows c.args.desk.now) c.args.source.now _ c.args.listing c.in-Ok.file
    c.in-Ok.ensures.read (c.deref.ensures.value ∙ c.in-Ok-listing_text.ensures.text)
    c.in-Ok-listing_text.ensures.none_due)
    c.in-Ok.ensures.closes c.write_out.result c.write_out.ensures.done

pub returns-in-Ok-listing_text-clause-stopped : goal.returns-in-Ok-listing_text-clause-stopped
returns-in-Ok-listing_text-clause-stopped g c =
    stopped-listing g.D.Desk.tells (g.D.Desk.shows c.args.desk.now) _ _ c.args.source.now _ c.args.listing
    c.args.target.now c.in-Ok.ensures.quiet
    (due-listing g.D.Desk.tells (g.D.Desk.shows c.args.desk.now) c.args.source.now _ c.args.listing c.in-Ok.file
    c.in-Ok.ensures.read (c.deref.ensures.value ∙ c.in-Ok-listing_text.ensures.text)
    c.in-Ok-listing_text.ensures.none_due)
    c.write_out.result c.write_out.ensures.stopped
