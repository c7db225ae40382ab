-- Turns (orientations), their composition and their signs.
use Rattle.std.specs.Prelude.{ℕ, Bool, true, false, Option, Some, None, if◌then◌else◌, ◌==◌}
use Rattle.orientation.specs.declared.turn.Turn.{Turn}
use Rattle.orientation.specs.declared.turn.Turn.TheVariants.{Forward, Reversed, Internal, External}

-- the turn exchanged: forward and reversed change places, and the other two stay
abbrev pub reversed : Turn → Turn
reversed Forward = Reversed
reversed Reversed = Forward
reversed Internal = Internal
reversed External = External

-- the turn of a use of the second turn inside a use of the first
abbrev pub composed : Turn → Turn → Turn
composed Forward inner = inner
composed Reversed inner = reversed inner
composed Internal inner = Internal
composed External inner = External

-- the codes of `+ - i e`
abbrev pub sign_of : Turn → ℕ
sign_of Forward = 43
sign_of Reversed = 45
sign_of Internal = 105
sign_of External = 101

-- the turn that a code is the sign of
abbrev pub turn_of : ℕ → Option Turn
turn_of b =
    if b == 43 then Some Forward
    else (if b == 45 then Some Reversed
    else (if b == 105 then Some Internal
    else (if b == 101 then Some External else None)))

-- whether two turns are one
abbrev pub turn_eq : Turn → Turn → Bool
turn_eq Forward Forward = true
turn_eq Reversed Reversed = true
turn_eq Internal Internal = true
turn_eq External External = true
turn_eq _ _ = false
