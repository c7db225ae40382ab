-- The edges so far are held.
use Rattle.std.proofs.Common.{◌<◌, All, length}
use Rattle.sewing.specs.declared.member.Member.{Member}
use Rattle.pool_rows.proofs.sews.members_of.Given as goal

abbrev pub invariant-loop-one : goal.invariant-loop-one
invariant-loop-one l = All (λ (m : Member). m.id.0 < length l.scene.pool) l.members.items
