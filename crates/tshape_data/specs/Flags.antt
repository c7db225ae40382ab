-- The seven flags of a record as one token.
use Rattle.std.specs.Prelude.{ℕ, ◌==◌, ◌&&◌, Bool, if◌then◌else◌, slice_index, List, [], ◌∷◌, length, Option, Some}
use Rattle.std.specs.Prelude.{None}
use Rattle.std.specs.List.{list_all}
use Rattle.brep_tokens.specs.Bytes.{is_flag}
use Rattle.tshape_data.specs.declared.head.Flags.{Flags}

-- `0` or `1`
abbrev pub flag_code : Bool → ℕ
flag_code b = if b then 49 else 48

abbrev pub spell_flags : Flags → List ℕ
spell_flags f =
    flag_code f.free ∷ flag_code f.modified ∷ flag_code f.checked ∷ flag_code f.orientable
    ∷ flag_code f.closed ∷ flag_code f.infinite ∷ flag_code f.convex ∷ []

-- seven bytes, each `0` or `1`
abbrev pub are_flags : List ℕ → Bool
are_flags text = (length text == 7) && list_all is_flag text

-- is the byte there `1`?
abbrev pub is_set : List ℕ → ℕ → Bool
is_set text at = slice_index text at == 49

abbrev pub flags_from : List ℕ → Flags
flags_from text = record {
  free = is_set text 0;
  modified = is_set text 1;
  checked = is_set text 2;
  orientable = is_set text 3;
  closed = is_set text 4;
  infinite = is_set text 5;
  convex = is_set text 6;
}

-- the flags that a text spells, if it spells any
abbrev pub flags_of : List ℕ → Option Flags
flags_of text = if are_flags text then Some (flags_from text) else None
