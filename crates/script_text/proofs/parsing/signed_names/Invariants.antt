use Rattle.std.proofs.Common.{◌≡◌, map, take, drop}
use Rattle.script_text.specs.Meaning.{mentions_fault, signed_name}
use Rattle.script_text.proofs.parsing.signed_names.Given as goal

abbrev pub invariant-mentions : goal.invariant-mentions
invariant-mentions l = record {
  held : l.names ≡ map signed_name (take l.mention-index l.mentions);
  left : mentions_fault l.shapes (drop l.mention-index l.mentions) ≡ mentions_fault l.shapes l.mentions;
}
