-- The tokens that a record without its uses is spelled by.
use Rattle.std.specs.Prelude.{ℕ, List, [], ◌∷◌, ◌++◌, map}
use Rattle.std.specs.Fmt.{decimal}
use Rattle.orientation.specs.Kinds.{name_of}
use Rattle.tshape_data.specs.Flags.{spell_flags}
use Rattle.tshape_data.specs.Parts.{Part, token, entry, located, payload_parts}
use Rattle.tshape_data.specs.declared.head.Payload.{Payload}
use Rattle.tshape_data.specs.declared.head.Head.{Head}

-- an entry and a location are spelled by their numbers
abbrev pub part_text : Part → List ℕ
part_text (token text) = text
part_text (entry table n) = decimal n
part_text (located n) = decimal n

abbrev pub spell_payload : ℕ → Payload → List (List ℕ)
spell_payload version p = map part_text (payload_parts version p)

-- its kind, its data and its flags
abbrev pub spell_head : ℕ → Head → List (List ℕ)
spell_head version h = name_of h.kind ∷ (spell_payload version h.payload ++ spell_flags h.flags ∷ [])
