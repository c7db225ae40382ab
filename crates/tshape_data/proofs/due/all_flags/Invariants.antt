use Rattle.std.proofs.Common.{◌≡◌, drop}
use Rattle.std.specs.List.{list_all}
use Rattle.brep_tokens.specs.Bytes.{is_flag}
use Rattle.tshape_data.proofs.due.all_flags.Given as goal

abbrev pub invariant-loop-b : goal.invariant-loop-b
invariant-loop-b l = list_all is_flag (drop l.b-index l.text) ≡ list_all is_flag l.text
