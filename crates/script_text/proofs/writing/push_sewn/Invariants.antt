use Rattle.std.proofs.Common.{◌≡◌, ◌++◌, map, take}
use Rattle.script_text.specs.Spelling.{spell_mention}
use Rattle.script_text.specs.Writing.{after_spaces, sewn_mention}
use Rattle.script_text.proofs.writing.push_sewn.Given as goal

abbrev pub invariant-names : goal.invariant-names
invariant-names l = l.line.items ≡ l.fn.line.items ++ after_spaces
    (map spell_mention (map sewn_mention (take l.named-index l.names)))
