-- What is known of a watcher, and what changes when it is told an event.
use Rattle.std.specs.Prelude.{◌≡◌, ℕ, suc, ◌-◌, ◌^◌, min, Bool, true, false, List, [], ◌∷◌, ◌++◌, Option, None, Some}
use Rattle.std.specs.Prelude.{option_map, slice_get}
use Rattle.watchers.specs.declared.event.Answer.{Answer}
use Rattle.watchers.specs.declared.event.Answer.TheVariants.{More, Enough, NoMemory}
use Rattle.watchers.specs.declared.event.Event.{Event}

pub record Watching : Type 0 where
  -- the events heard, where it keeps them
  pub heard : Option (List Event)
  -- how many it has heard, up to the last of 64 bits
  pub counted : ℕ
  -- whether it never lacks memory
  pub sure : Bool
  -- whether it wishes for more at the last event of a list that is told from now on, which has one at least
  pub wishes_more : List Event → Bool

-- the greatest count
abbrev pub most_counted : ℕ
most_counted = 2 ^ 64 - 1

-- one more, up to the greatest count
abbrev pub one_more : ℕ → ℕ
one_more n = min (suc n) most_counted

-- the answer by which a watcher wishes for more, or has enough
abbrev pub wish_answer : Bool → Answer
wish_answer true = More
wish_answer false = Enough

-- the answer is its wish at the event
abbrev pub IsWish : Watching → Event → Answer → Type 0
IsWish w e answer = answer ≡ wish_answer (w.wishes_more (e ∷ []))

-- its wishes go on from the event
abbrev pub GoesOn : Watching → Event → Watching → Type 0
GoesOn old e new =
    (next : Event) (later : List Event) → new.wishes_more (next ∷ later) ≡ old.wishes_more (e ∷ next ∷ later)

-- what it keeps, where the event was heard
abbrev pub heard_after : Answer → Event → Option (List Event) → Option (List Event)
heard_after More e heard = option_map (λ es. es ++ e ∷ []) heard
heard_after Enough e heard = option_map (λ es. es ++ e ∷ []) heard
heard_after NoMemory e heard = heard

abbrev pub counted_after : Answer → ℕ → ℕ
counted_after More n = one_more n
counted_after Enough n = one_more n
counted_after NoMemory n = n

-- the event kept at a place
abbrev pub kept_at : Option (List Event) → ℕ → Option Event
kept_at None i = None
kept_at (Some es) i = slice_get es i

-- a watcher that keeps its events, counts, and always wishes for more
abbrev pub always : Option (List Event) → ℕ → Bool → Watching
always heard counted sure = record { heard = heard; counted = counted; sure = sure; wishes_more = λ l. true }
