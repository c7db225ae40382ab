-- The key comes last, among all and at its place.
use Rattle.std.proofs.Common.{inl, inr}
use Rattle.reshape.proofs.found.hold.Goals as goal

pub returns : goal.returns
returns c = record {
  long = c.in_ok-push_at.ensures.long;
  others = c.in_ok-push_at.ensures.others;
  own = elim c.in_ok-add_key.ensures [
    | inl o ↦ absurd (c.requires.new o.0)
    | inr o ↦ inr (o.0, o.1, c.in_ok-push_at.ensures.own)
  ];
}
