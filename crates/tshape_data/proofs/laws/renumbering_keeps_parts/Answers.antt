-- By the parts of the data.
use Rattle.std.proofs.Common.{◌≤◌}
use Rattle.std.proofs.lemmas.List.Elements.{All-from_recursion, recursion_from_All}
use Rattle.tshape_data.specs.Locations.{data_locations}
use Rattle.tshape_data.proofs.RenumberingLaws.{count_renumbered, payload_renumbered, payload_stays_sound}
use Rattle.tshape_data.proofs.LocationLaws.{payload_within}
use Rattle.tshape_data.proofs.laws.renumbering_keeps_parts.Goals as goal

pub returns : goal.returns
returns c = record {
  within = λ b version h sound. All-from_recursion (λ n. n ≤ b.locations) (data_locations version h.payload)
      (payload_within b version h.kind h.payload sound);
  sound = λ b version h renumber n sound small all. payload_stays_sound b renumber n small version h.kind h.payload
      sound (recursion_from_All (λ location. renumber location ≤ n) (data_locations version h.payload) all);
  parts = λ version renumber p. payload_renumbered renumber version p;
  count = count_renumbered;
}
