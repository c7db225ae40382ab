-- The law, as its lemmas prove it.
use Rattle.written_layout.proofs.Spelled.{layouts-spell}
use Rattle.written_layout.proofs.laws.layouts_spell.Goals as goal

pub returns : goal.returns
returns c =
    layouts-spell c.written_is_read.ensures c.locations_are_exact.ensures c.curves_are_exact.ensures
    c.surfaces_are_exact.ensures c.meshes_are_exact.ensures c.head_lines_are_exact.ensures
