use Rattle.std.proofs.Common.{[], refl}
use Rattle.brep_desk.specs.Shown.{closed}
use Rattle.brep_desk.specs.Kept.{state_of}
use Rattle.brep_desk.proofs.ChannelLists.{of_channel-past, state_in-get}
use Rattle.brep_desk.proofs.strays.state.Goals as goal

pub returns-then-i-channels : goal.returns-then-i-channels
returns-then-i-channels c = ([], of_channel-past state_of closed _ _ c.if-i-channels.true)

pub returns : goal.returns
returns c = (_, state_in-get _ _ _ _ c.if-i-channels.false refl)
