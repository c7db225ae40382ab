use Rattle.std.proofs.Common.{◌<◌, ◌∷◌, arith}
use Rattle.curve_tables.proofs.Rooms.{chain_inside}
use Rattle.curve_tables.proofs.chain.ChainReader.take_code.Goals as goal

pub returns-else-self-eq0 : goal.returns-else-self-eq0
returns-else-self-eq0 c rest =
    let lt : 0 < c.args.self.now.room = omega (arith, c.if-self-eq0.false) in
    rw (
      chain_inside c.args.self.now.dimension c.args.self.now.room c.args.self.now.frames (c.args.t.now ∷ rest) lt,
      c.in-Ok.ensures.answer rest,
    ) (c.open.ensures rest)
