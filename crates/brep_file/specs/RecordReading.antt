-- Reading the records of a file one after another, and the root use.
use Rattle.std.specs.Prelude.{ℕ, suc, max, ◌+◌, ◌-◌, ◌&&◌, Bool, if◌then◌else◌, nat_le, nat_lt, nat_eq, List, [], ◌∷◌}
use Rattle.std.specs.Prelude.{◌++◌, length, slice_get, Option, Some, None, Result, Ok, Err, codes}
use Rattle.std.specs.Cmp.Lexicographic.{pointwise}
use Rattle.std.specs.Option.{option_map}
use Rattle.brep_tokens.specs.Forms.{use_sign_of}
use Rattle.brep_tokens.specs.declared.text.Token.{Token}
use Rattle.brep_tokens.specs.declared.fault.ReadCode.TheVariants as faults
use Rattle.lists.specs.Results.{◌>>=◌}
use Rattle.entry_readers.specs.Reading.{Read, Refusal, fault, more, at_token, ranged_at, refused}
use Rattle.orientation.specs.declared.turn.Turn.{Turn}
use Rattle.orientation.specs.declared.kind.Kind.{Kind}
use Rattle.orientation.specs.Kinds.{is_below, rank_of}
use Rattle.orientation.specs.Turns.{turn_of}
use Rattle.tshape_data.specs.HeadReading.{head_at}
use Rattle.tshape_data.specs.Sound.{rep_count}
use Rattle.tshape_data.specs.declared.head_bounds.HeadBounds.{HeadBounds}
use Rattle.tshape_data.specs.declared.head.Head.{Head}
use Rattle.brep_file.specs.declared.uses.FileUse.{FileUse}
use Rattle.brep_file.specs.declared.records.Record.{Record}
use Rattle.brep_file.specs.Many.{many_from}
use Rattle.brep_file.specs.Seen.{Seen}
use Rattle.brep_file.specs.declared.reader.state.Named.{Named}

-- the records so far, what is to be known of them, and how many uses and representations they have
pub record SoFar : Type 0 where
  pub records : List Record
  pub seen : List Seen
  pub uses : ℕ
  pub reps : ℕ

abbrev pub nothing_read : SoFar
nothing_read = record { records = []; seen = []; uses = 0; reps = 0 }

-- the uses of a record so far, and the greatest depth of the trees that they name
pub record Gathered : Type 0 where
  pub uses : List FileUse
  pub depth : ℕ

abbrev pub none_gathered : Gathered
none_gathered = record { uses = []; depth = 0 }

-- a record more
abbrev pub with_record : SoFar → Head → Gathered → SoFar
with_record s head g = record {
  records = s.records ++ record { head = head; uses = g.uses } ∷ [];
  seen = s.seen ++ record { kind = head.kind; depth = suc g.depth } ∷ [];
  uses = s.uses + length g.uses;
  reps = s.reps + rep_count head.payload;
}

-- how many entries each table has, of which version the file is, how many records there are, and how many uses they may
-- have together
pub record RecordBounds : Type 0 where
  pub tables : HeadBounds
  pub version : ℕ
  pub records : ℕ
  pub uses : ℕ

-- the turn of a sign, with the number that is joined to it
abbrev pub turned : Option (ℕ × ℕ) → Option (Turn × ℕ)
turned None = None
turned (Some u) = option_map (λ turn. (turn, u.1)) (turn_of u.0)

-- the turn and the number that a text joins
abbrev pub use_of : List ℕ → Option (Turn × ℕ)
use_of text = turned (use_sign_of text)

-- the number's place among those that were seen: the record after them is next, of n
abbrev pub if_above : ℕ → List Seen → Token → ℕ → Option Seen → Result Seen Refusal
if_above n seen t number None = Err (fault (at_token faults.NotAbove number (n - length seen) t))
if_above n seen t number (Some child) = Ok child

abbrev pub above_at : ℕ → List Seen → Token → ℕ → Result Seen Refusal
above_at n seen t number =
    if nat_le 1 number && nat_le number n then if_above n seen t number (slice_get seen (n - number))
    else Err (fault (at_token faults.IndexOutOfRange number n t))

-- a child that fits: its kind is in order, it isn't as deep as a tree may be, and the uses aren't too many
abbrev pub fitting : RecordBounds → Kind → ℕ → Token → Seen → Result Seen Refusal
fitting b parent uses t child =
    if is_below child.kind parent then
    (if nat_lt child.depth 512 then
    (if nat_lt uses b.uses then Ok child else Err (fault (at_token faults.TooMany (suc uses) b.uses t)))
    else Err (fault (at_token faults.TooDeep (suc child.depth) 512 t)))
    else Err (fault (at_token faults.KindOrder (rank_of child.kind) (rank_of parent) t))

abbrev pub named : Turn × ℕ → Seen → Named
named u child = record { turn = u.0; number = u.1; child = child }

-- what a token names in a record of a kind, after so many uses
abbrev pub named_at : RecordBounds → List Seen → Kind → ℕ → Token → Option (Turn × ℕ) → Result Named Refusal
named_at b seen parent uses t None = Err (refused faults.UseExpected t)
named_at b seen parent uses t (Some u) = above_at b.records seen t u.1 >>= fitting b parent uses t
    >>= λ child. Ok (named u child)

-- a use more, with its location
abbrev pub gathered : Gathered → Named → ℕ → Gathered
gathered g u location = record {
  uses = g.uses ++ record { turn = u.turn; number = u.number; location = location } ∷ [];
  depth = max g.depth u.child.depth;
}

abbrev pub is_star : List ℕ → Bool
is_star text = pointwise nat_eq text (codes "*")

-- The uses of a record of a kind, and the `*` after the last: each a sign with a number, and a location's number.
module _ (b : RecordBounds) (s : SoFar) (parent : Kind) where
  abbrev mutual
    pub uses_from : Gathered → List Token → Read Gathered
    uses_from g [] = Err more
    uses_from g (t ∷ ts) = if is_star t.text then Ok (g, ts)
        else (named_at b s.seen parent (s.uses + length g.uses) t (use_of t.text) >>= λ u. located g u ts)

    -- after the sign and the number
    pub located : Gathered → Named → List Token → Read Gathered
    located g u [] = Err more
    located g u (t ∷ ts) = ranged_at 0 b.tables.locations (t ∷ ts)
        >>= λ location. uses_from (gathered g u location.0) ts

-- a record more, of which the uses are read
abbrev pub used : SoFar → Head → Read Gathered → Read SoFar
used s head read = read >>= λ g. Ok (with_record s head g.0, g.1)

abbrev pub record_at : RecordBounds → SoFar → List Token → Read SoFar
record_at b s ts = head_at (record b.tables { reps = s.reps }) b.version ts
    >>= λ head. used s head.0 (uses_from b s head.0.kind none_gathered head.1)

-- so many records more
abbrev pub records_from : RecordBounds → SoFar → ℕ → List Token → Read SoFar
records_from b s n ts = many_from (record_at b) s n ts

-- ---- the root use

abbrev pub root_named : ℕ → Token → Option (Turn × ℕ) → Result (Turn × ℕ) Refusal
root_named n t None = Err (refused faults.UseExpected t)
root_named n t (Some u) = if nat_le 1 u.1 && nat_le u.1 n then Ok u
    else Err (fault (at_token faults.IndexOutOfRange u.1 n t))

abbrev pub root_located : ℕ → Turn × ℕ → List Token → Read FileUse
root_located locations u [] = Err more
root_located locations u (t ∷ ts) = ranged_at 0 locations (t ∷ ts)
    >>= λ l. Ok (record { turn = u.0; number = u.1; location = l.0 }, ts)

abbrev pub root_at : ℕ → ℕ → List Token → Read FileUse
root_at locations n [] = Err more
root_at locations n (t ∷ ts) = root_named n t (use_of t.text) >>= λ u. root_located locations u ts
