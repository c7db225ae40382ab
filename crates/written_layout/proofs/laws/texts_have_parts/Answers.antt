-- The law, as its lemmas prove it.
use Rattle.written_layout.proofs.Texts.{texts-have_parts}
use Rattle.written_layout.proofs.laws.texts_have_parts.Goals as goal

pub returns : goal.returns
returns c = texts-have_parts
