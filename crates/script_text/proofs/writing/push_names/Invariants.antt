use Rattle.std.proofs.Common.{◌≡◌, ◌++◌, map, take}
use Rattle.script_text.specs.Spelling.{spell_mention}
use Rattle.script_text.specs.Writing.{after_spaces, bare_mention}
use Rattle.script_text.proofs.writing.push_names.Given as goal

abbrev pub invariant-names : goal.invariant-names
invariant-names l = l.line.items ≡ l.fn.line.items ++ after_spaces
    (map spell_mention (map bare_mention (take l.name-index l.names)))
