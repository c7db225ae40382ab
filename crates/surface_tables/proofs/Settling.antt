-- Where the same is left to read, it is settled alike.
use Rattle.std.proofs.Common.{◌≡◌, ◌<◌, List, ◌∷◌, Option, Some, None, Ok, sym, ◌∙◌}
use Rattle.entry_readers.specs.Reading.{Read}
use Rattle.brep_tokens.specs.declared.text.Token.{Token}
use Rattle.surface_tables.specs.PartLeft.{Settles, Same, StepsPart}
use Rattle.surface_tables.specs.declared.part.PartReader.{PartReader}
use Rattle.surface_tables.specs.declared.parts.Part.{Part}

pub settles_same : (old mid : List Token → Read Part) → Same mid old → (new : PartReader) (p : Option Part)
    → Settles mid new p → Settles old new p
settles_same old mid same new None s = (λ rest. s.0 rest ∙ sym (same rest), s.1)
settles_same old mid same new (Some part) s = λ rest. same rest ∙ s rest

-- a token was taken, and what was left after it was settled
pub steps_settled : (old mid : List Token → Read Part) (t : Token) → ((rest : List Token) → mid rest ≡ old (t ∷ rest))
    → (new : PartReader) (p : Option Part) → Settles mid new p → new.nest < 64 → StepsPart old t new (Ok p)
steps_settled old mid t took new None s nested = (λ rest. s.0 rest ∙ took rest, s.1)
steps_settled old mid t took new (Some part) s nested = (λ rest. sym (took rest) ∙ s rest, nested)
