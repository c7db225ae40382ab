-- The kinds of shapes, from the lowest to the highest, and their names.
use Rattle.std.specs.Prelude.{◌≡◌, ℕ, Bool, ◌==◌, ◌&&◌, ◌||◌, nat_lt, if◌then◌else◌}
use Rattle.std.specs.Prelude.{◌<◌, ◌⊎◌, List, [], ◌∷◌, Option, Some, None, codes}
use Rattle.orientation.specs.declared.kind.Kind.{Kind}
use Rattle.orientation.specs.declared.kind.Kind.TheVariants.{Ve, Ed, Wi, Fa, Sh, So, CS, Co}

-- the place of a kind in the order, counted from the lowest
abbrev pub rank_of : Kind → ℕ
rank_of Ve = 1
rank_of Ed = 2
rank_of Wi = 3
rank_of Fa = 4
rank_of Sh = 5
rank_of So = 6
rank_of CS = 7
rank_of Co = 8

-- whether two kinds are one
abbrev pub kind_eq : Kind → Kind → Bool
kind_eq a b = rank_of a == rank_of b

-- a shape of the first kind may stand in one of the second: its kind is lower, or the second is a compound
abbrev pub IsBelow : Kind → Kind → Type 0
IsBelow child parent = (rank_of child < rank_of parent) ⊎ (parent ≡ Co)

-- whether it may
abbrev pub is_below : Kind → Kind → Bool
is_below child parent = nat_lt (rank_of child) (rank_of parent) || kind_eq parent Co

-- the text that names a kind
abbrev pub name_of : Kind → List ℕ
name_of Ve = codes "Ve"
name_of Ed = codes "Ed"
name_of Wi = codes "Wi"
name_of Fa = codes "Fa"
name_of Sh = codes "Sh"
name_of So = codes "So"
name_of CS = codes "CS"
name_of Co = codes "Co"

-- the kind that two letters name, given by their codes
abbrev pub kind_of_letters : ℕ → ℕ → Option Kind
kind_of_letters a b =
    if (a == 86) && (b == 101) then Some Ve
    else (if (a == 69) && (b == 100) then Some Ed
    else (if (a == 87) && (b == 105) then Some Wi
    else (if (a == 70) && (b == 97) then Some Fa
    else (if (a == 83) && (b == 104) then Some Sh
    else (if (a == 83) && (b == 111) then Some So
    else (if (a == 67) && (b == 83) then Some CS
    else (if (a == 67) && (b == 111) then Some Co
    else None)))))))

-- the kind that a text names
abbrev pub kind_of_name : List ℕ → Option Kind
kind_of_name [] = None
kind_of_name (a ∷ []) = None
kind_of_name (a ∷ b ∷ []) = kind_of_letters a b
kind_of_name (a ∷ b ∷ c ∷ rest) = None
