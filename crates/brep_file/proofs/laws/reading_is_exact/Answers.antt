-- By the laws of tokens, fields, signs, the entries of each table, and heads.
use Rattle.brep_file.proofs.ReadingLaws.{reading_is_exact as law}
use Rattle.brep_file.proofs.laws.reading_is_exact.Goals as goal

pub returns : goal.returns
returns c =
    law c.scanner_gives_tokens.ensures c.forms_are_exact.ensures c.fields_are_exact.ensures
    c.signs_and_names_tell.ensures c.sections_are_exact.ensures c.curves_are_exact.ensures
    c.meshes_are_exact.ensures c.surfaces_are_exact.ensures
    c.heads_are_exact.ensures c.heads_tell.ensures
