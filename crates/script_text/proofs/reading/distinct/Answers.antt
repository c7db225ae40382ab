use Rattle.script_text.proofs.Distinct.{set_tells}
use Rattle.script_text.proofs.reading.distinct.Goals as goal

pub returns : goal.returns
returns c = set_tells c.args.mentions.now c.in_ok-set.set c.len.result c.in_ok-set.ensures c.len.ensures.len
