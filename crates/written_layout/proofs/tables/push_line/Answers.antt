use Rattle.std.proofs.Common.{refl, rules, sym}
use Rattle.byte_sink.proofs.Joining.{in_two}
use Rattle.written_layout.proofs.TableLines.{none-push, token-more}
use Rattle.written_layout.proofs.tables.push_line.Goals as goal

pub loop-token-init : goal.loop-token-init
loop-token-init g c = record { given = g.met.B.TakesBytes.joins.none _; first = refl }

pub loop-token-preserved : goal.loop-token-preserved
loop-token-preserved g c = record {
  given =
      in_two g.met.B.TakesBytes.joins _ _ _ _ _ _ c.loop-token.invariant.given c.push_token.ensures
      (token-more c.loop-token.yielded c.in-Some.token c.loop-token.first c.loop-token.invariant.first);
  first = sym (none-push c.loop-token.yielded c.in-Some.token);
}

pub returns : goal.returns
returns g c = (
  c.loop-token.yielded,
  search rules,
  g.met.B.TakesBytes.joins.joined _ _ _ _ _ c.loop-token.invariant.given c.push_byte.ensures,
)
