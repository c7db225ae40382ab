-- Each token is taken at its stage.
use Rattle.std.proofs.Common.{sym, subst}
use Rattle.entry_readers.specs.Takes.{Takes}
use Rattle.location_table.specs.Left.{at_stage, location_left, IsDone, IsWaiting}
use Rattle.location_table.proofs.reader.LocationReader.take.Goals as goal

pub returns-in-Code : goal.returns-in-Code
returns-in-Code c =
    subst (λ s. Takes (at_stage s c.args.before.now c.args.self.now) c.args.t.now
    (location_left c.args.before.now c.take_code.new.self) (IsWaiting c.args.before.now c.take_code.new.self)
    (IsDone c.args.before.now c.take_code.new.self) c.take_code.result)
    (sym c.in-Code.is) (c.take_code.ensures c.args.before.now)

pub returns-in-Decimals : goal.returns-in-Decimals
returns-in-Decimals c =
    subst (λ s. Takes (at_stage s c.args.before.now c.args.self.now) c.args.t.now
    (location_left c.args.before.now c.take_decimal.new.self) (IsWaiting c.args.before.now c.take_decimal.new.self)
    (IsDone c.args.before.now c.take_decimal.new.self) c.take_decimal.result)
    (sym c.in-Decimals.is) (c.take_decimal.ensures c.args.before.now)
