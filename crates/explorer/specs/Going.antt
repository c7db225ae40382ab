-- An explorer on its way: what is still to be gone through, and what comes first of it.
use Rattle.std.specs.Prelude.{◌≡◌, ℕ, ◌<◌, Bool, true, false, if◌then◌else◌, List, [], ◌∷◌, ◌++◌, All, length}
use Rattle.std.specs.Prelude.{nat_eq, Option, None, Some, Result, Ok, Err}
use Rattle.std.specs.Option.{option_map_or}
use Rattle.std.specs.List.{flat_map}
use Rattle.orientation.specs.declared.kind.Kind.{Kind}
use Rattle.orientation.specs.declared.kind.Kind.TheVariants.{Co}
use Rattle.orientation.specs.declared.turn.Turn.{Turn}
use Rattle.location_words.specs.declared.pair.Pair.{Pair}
use Rattle.location_words.specs.declared.fault.WordFault.{WordFault}
use Rattle.location_words.specs.declared.fault.WordFault.TheVariants.{Pairs, Power, NoMemory}
use Rattle.location_words.specs.Faults.{fault_of}
use Rattle.expansion_laws.specs.Contexts.{Context, inside}
use Rattle.shape_pool.specs.declared.node.UseOf.{UseOf}
use Rattle.shape_pool.specs.Rows.{Row, tree_at, use_by, HaveKinds}
use Rattle.shape_pool.specs.Laws.{word_in, IsSound}
use Rattle.explorer.specs.declared.found.Found.{Found}
use Rattle.explorer.specs.declared.found.WordLimit.{WordLimit}
use Rattle.explorer.specs.Walks.{Occurrence, entered, is_wanted}

-- a use that is still to come, and the accumulated turn and word of its parent
pub record Place : Type 0 where
  pub here : Context
  pub one : UseOf

abbrev pub a_place : Context → UseOf → Place
a_place here u = record { here = here; one = u }

-- What an explorer stands for: the words and the nodes by number, the kinds sought and avoided, the uses still to come
-- in order, the accumulated word of the last occurrence that was given, and a word that was refused.
pub record Going : Type 0 where
  pub table : List (List Pair)
  pub rows : List Row
  pub find : Option Kind
  pub avoid : Option Kind
  pub coming : List Place
  pub last : List Pair
  pub limit : Option WordLimit

-- the kind of the first node of an origin, and a compound where there is none
abbrev pub kind_in : List Row → ℕ → Kind
kind_in [] o = Co
kind_in (r ∷ rows) o = if nat_eq r.origin o then r.kind else kind_in rows o

-- in each pool origins have kinds that agree with the nodes'
abbrev pub KindsAreThere : Type 0
KindsAreThere = (rows : List Row) → IsSound rows → (kind : ℕ → Kind) × HaveKinds rows kind

module _ (table : List (List Pair)) (rows : List Row) (kind : ℕ → Kind) (find avoid : Option Kind) where
  -- the occurrences that are entered at and below a use that is still to come
  abbrev pub entered_at : Place → List Occurrence
  entered_at p =
      entered kind find avoid (inside p.here (use_by (word_in table) (tree_at (word_in table) rows) p.one))
      (tree_at (word_in table) rows p.one.id.0)

  -- the occurrences that are entered at and below uses that are still to come, in order
  abbrev pub entered_at_all : List Place → List Occurrence
  entered_at_all ps = flat_map entered_at ps

-- the occurrences that an explorer will enter, in order
abbrev pub left : (ℕ → Kind) → Going → List Occurrence
left kind g = entered_at_all g.table g.rows kind g.find g.avoid g.coming

-- the limit that a word passes: that of pairs, or that of powers, and the number
abbrev pub limit_of : WordFault → WordLimit
limit_of (Pairs n) = record { pairs = true; count = n }
limit_of (Power n) = record { pairs = false; count = n }
limit_of NoMemory = record { pairs = false; count = 0 }

-- What comes first of occurrences that are entered in order: one that is wanted, with those after it; a word past its
-- limit; or neither, and they are over.
pub data Coming : Type 0 where
  found : Occurrence → List Occurrence → Coming
  past : WordLimit → Coming
  over : Coming

-- the word of each occurrence is tested before it is looked at
abbrev pub first_of : (Occurrence → Bool) → List Occurrence → Coming
first_of wanted [] = over
first_of wanted (o ∷ os) =
    option_map_or (λ f. past (limit_of f)) (fault_of o.here.word)
    (if wanted o then found o os else first_of wanted os)

-- what an explorer will answer: a refusal again, or what comes first
abbrev pub answer_of : (ℕ → Kind) → Going → Coming
answer_of kind g = option_map_or past g.limit (first_of (is_wanted kind g.find) (left kind g))

-- a found node stands for an occurrence: its turn, its number, and the word that is told
pub record IsGiven (table : List (List Pair)) (rows : List Row) (word : List Pair) (o : Occurrence) (f : Found)
    : Type 0 where
  pub turn : f.turn ≡ o.here.turn
  pub held : f.id.0 < length rows
  pub tree : tree_at (word_in table) rows f.id.0 ≡ o.tree
  pub word_is : word ≡ o.here.word

-- the answer that is due to what comes first, the word that is told with it, and the occurrences that are left then
abbrev pub IsAnswer : List (List Pair) → List Row → Coming → Result (Option Found) WordLimit → List Pair →
    List Occurrence → Type 0
IsAnswer table rows (found o os) (Ok (Some f)) word rest = IsGiven table rows word o f × (rest ≡ os)
IsAnswer table rows (found o os) (Ok None) word rest = ⊥
IsAnswer table rows (found o os) (Err l) word rest = ⊥
IsAnswer table rows (past due) (Ok r) word rest = ⊥
IsAnswer table rows (past due) (Err l) word rest = l ≡ due
IsAnswer table rows over (Ok (Some f)) word rest = ⊥
IsAnswer table rows over (Ok None) word rest = rest ≡ []
IsAnswer table rows over (Err l) word rest = ⊥

-- the answer of an explorer, whatever kinds the origins have that agree with the nodes'
abbrev pub Answers : Going → Going → Result (Option Found) WordLimit → Type 0
Answers old new r =
    (kind : ℕ → Kind) → HaveKinds old.rows kind →
    IsAnswer old.table old.rows (answer_of kind old) r new.last (left kind new)

-- the accumulated turn and word of a root are its own
abbrev pub a_context : Turn → List Pair → Context
a_context t w = record { turn = t; word = w }

-- an explorer of these words, nodes and kinds
pub record IsOf (g : Going) (table : List (List Pair)) (rows : List Row) (find avoid : Option Kind) : Type 0 where
  pub table_is : g.table ≡ table
  pub rows_are : g.rows ≡ rows
  pub find_is : g.find ≡ find
  pub avoid_is : g.avoid ≡ avoid

-- an explorer goes on in the same pool, with the same words and kinds
abbrev pub GoesOn : Going → Going → Type 0
GoesOn old new = IsOf new old.table old.rows old.find old.avoid

-- at its beginning everything is left, whatever kinds the origins have that agree with the nodes'
abbrev pub BeginsAt : List (List Pair) → List Row → UseOf → Option Kind → Option Kind → Going → Type 0
BeginsAt table rows root find avoid g =
    (kind : ℕ → Kind) → HaveKinds rows kind →
    left kind g ≡
    entered kind find avoid (a_context root.turn (word_in table root.place.0)) (tree_at (word_in table) rows root.id.0)

-- what is told of a word that was refused, and of the last occurrence where none is given
abbrev pub IsTold : Going → Going → Result (Option Found) WordLimit → Type 0
IsTold old new (Ok (Some f)) = new.limit ≡ None
IsTold old new (Ok None) = (new.limit ≡ None) × (new.last ≡ old.last)
IsTold old new (Err l) = (new.limit ≡ Some l) × (new.last ≡ old.last)

-- ---- What comes first, told by parts.
-- an occurrence that is passed by: its word is within the limits, and it isn't wanted
abbrev pub IsPassed : (Occurrence → Bool) → Occurrence → Type 0
IsPassed wanted o = (fault_of o.here.word ≡ None) × (wanted o ≡ false)

pub record FirstIsTold (wanted : Occurrence → Bool) (os : List Occurrence) : Type 0 where
  pub found_first : (o : Occurrence) (rest : List Occurrence) → first_of wanted os ≡ found o rest →
      (before : List Occurrence) × (os ≡ before ++ o ∷ rest) × All (IsPassed wanted) before ×
      (fault_of o.here.word ≡ None) × (wanted o ≡ true)
  pub past_first : (l : WordLimit) → first_of wanted os ≡ past l →
      (before : List Occurrence) × (o : Occurrence) × (rest : List Occurrence) × (f : WordFault) ×
      (os ≡ before ++ o ∷ rest) × All (IsPassed wanted) before × (fault_of o.here.word ≡ Some f) × (l ≡ limit_of f)
  pub none_left : first_of wanted os ≡ over → All (IsPassed wanted) os

abbrev pub FirstsAreTold : Type 0
FirstsAreTold = (wanted : Occurrence → Bool) (os : List Occurrence) → FirstIsTold wanted os
