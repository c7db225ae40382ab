-- What a watcher hears of events that are told one after another.
use Rattle.std.proofs.Common.{◌≡◌, ◌<◌, ◌≤◌, ◌+◌, ◌∙◌, ℕ, zero, suc, List, [], ◌∷◌, length, ap, sym, subst, refl, arith}
use Rattle.std.specs.Prelude.{Bool, true, false, Option, None, Some, take}
use Rattle.std.specs.List.{AllByRecursion, AllZip, FoldsTo}
use Rattle.watchers.specs.declared.event.Event.{Event}
use Rattle.watchers.specs.declared.event.Answer.{Answer}
use Rattle.watchers.specs.declared.event.Answer.TheVariants as answers
use Rattle.watchers.specs.declared.slot.WatchState.{WatchState}
use Rattle.watchers.specs.declared.slot.WatchState.TheVariants as states
use Rattle.watchers.specs.Watching.{Watching, IsWish, GoesOn, one_more, most_counted, wish_answer}
use Rattle.watchers.specs.Told.{Told, IsTold, IsToldTo, Hears, after, fresh}
use Rattle.watchers.specs.TellsAll.{AreTold}
use Rattle.watchers.specs.Hearing.{AreAllTold, WishedMore, IsStateAfter, IsKept, HasHeard, HearsBy, AllHear, IsRow}
use Rattle.watchers.specs.Hearing.{WatchersHear}

-- ---- answers

abbrev is_more : Answer → Type 0
is_more answers.More = Unit {0}
is_more answers.Enough = ⊥
is_more answers.NoMemory = ⊥

abbrev is_heard : Answer → Type 0
is_heard answers.More = Unit {0}
is_heard answers.Enough = Unit {0}
is_heard answers.NoMemory = ⊥

more-wished : (b : Bool) → answers.More ≡ wish_answer b → b ≡ true
more-wished true e = refl
more-wished false e = absurd (subst is_more e tt)

enough-wished : (b : Bool) → answers.Enough ≡ wish_answer b → b ≡ false
enough-wished true e = absurd (subst is_more (sym e) tt)
enough-wished false e = refl

-- ---- wishes from the next event on

-- what was wished from the next event on was wished from this one on
wished-on : (w next : Watching) (e : Event) (es : List Event) (k : ℕ) → GoesOn w e next → 0 < k → k ≤ length es →
    next.wishes_more (take k es) ≡ w.wishes_more (e ∷ take k es)
wished-on w next e [] zero g pos le = absurd (omega (arith, pos))
wished-on w next e [] (suc k) g pos le = absurd (omega (arith, le))
wished-on w next e (x ∷ es) zero g pos le = absurd (omega (arith, pos))
wished-on w next e (x ∷ es) (suc k) g pos le = g x (take k es)

wished-before : (w next : Watching) (e : Event) (es : List Event) (n : ℕ) → GoesOn w e next → n ≤ length es →
    w.wishes_more (e ∷ []) ≡ true → WishedMore next es n → WishedMore w (e ∷ es) (suc n)
wished-before w next e es n g le first h zero pos at = absurd (omega (arith, pos))
wished-before w next e es n g le first h (suc zero) pos at = first
wished-before w next e es n g le first h (suc (suc k)) pos at =
    let within : suc k ≤ n = omega (arith, at) in
    let inside : suc k ≤ length es = omega (arith, within, le) in
    let some : 0 < suc k = omega (arith) in
    sym (wished-on w next e es (suc k) g some inside) ∙ h (suc k) some within

-- ---- one watcher

-- it is told events, one after another
abbrev pub IsAllTold : List Event → Told → Told → Type 0
IsAllTold es a b = FoldsTo (λ old e new. IsTold e old new) a es b

-- one that was dropped stays
stays : (es : List Event) (a b : Told) → a.watcher ≡ None → IsAllTold es a b → a ≡ b
stays [] a b none h = h
stays (e ∷ es) a b none h =
    let first : a ≡ h.0 = subst (λ (o : Option Watching). IsToldTo o e a h.0) none h.1 in
    first ∙ stays es h.0 b (sym (ap (λ (t : Told). t.watcher) first) ∙ none) h.2

-- a state one event later
state-later : (w next : Watching) (e : Event) (es : List Event) (n : ℕ) (state : WatchState) → GoesOn w e next →
    next.sure ≡ w.sure → w.wishes_more (e ∷ []) ≡ true → IsStateAfter next es n state →
    IsStateAfter w (e ∷ es) (suc n) state
state-later w next e es n states.Listening g sure first h =
    let all = h.0 in
    let le : n ≤ length es = omega (arith, all) in
    (ap suc h.0, wished-before w next e es n g le first h.1)
state-later w next e es n states.Enough g sure first h =
    let k = h.0 in
    let is : n ≡ k + 1 = h.1 in
    let le : n ≤ length es = h.2 in
    let few : k ≤ length es = omega (arith, is, le) in
    let some : 0 < n = omega (arith, is) in (
      suc k,
      omega (arith, is),
      omega (arith, le),
      wished-before w next e es k g few first h.3,
      sym (wished-on w next e es n g some le) ∙ h.4,
    )
state-later w next e es n states.NoMemory g sure first h =
    let lt = h.0 in
    let le : n ≤ length es = omega (arith, lt) in
    (omega (arith, lt), wished-before w next e es n g le first h.1, sym sure ∙ h.2)

none-wished : (w : Watching) (es : List Event) → WishedMore w es 0
none-wished w es k pos le = absurd (omega (arith, pos, le))

abbrev holds-one : Option Watching → Type 0
holds-one None = ⊥
holds-one (Some w) = Unit {0}

listens : (state : WatchState) (o : Option Watching) (w : Watching) → IsKept state o → o ≡ Some w →
    state ≡ states.Listening
listens states.Listening o w k e = refl
listens states.Enough None w k e = absurd (subst holds-one (sym e) tt)
listens states.Enough (Some v) w k e = absurd k
listens states.NoMemory None w k e = absurd (subst holds-one (sym e) tt)
listens states.NoMemory (Some v) w k e = absurd k

-- what a watcher that listens has heard of events
abbrev Hearing : List Event → Type 0
Hearing es =
    (a b : Told) (w : Watching) → IsRow a → a.watcher ≡ Some w → IsAllTold es a b → HasHeard w a.row.told es b

heard-after : (e : Event) (es : List Event) → Hearing es → (told : ℕ) (w next : Watching) (m b : Told) (answer : Answer) →
    told ≤ most_counted → Hears w e answer next → m ≡ after answer told next → IsAllTold es m b →
    HasHeard w told (e ∷ es) b
heard-after e es hearing told w next m b answers.More most h is rest =
    let r : IsRow (after answers.More told next) = record { counted = omega (arith); kept = tt } in
    let later = hearing (after answers.More told next) b next r refl
    (subst (λ (t : Told). IsAllTold es t b) is rest) in
    let on = later.told_on in
    record {
      count = suc later.count;
      state = state-later w next e es later.count b.row.state (h.goes_on refl) h.sure
          (more-wished (w.wishes_more (e ∷ [])) (h.wished (λ no. subst is_heard no tt))) later.state;
      told_on = omega (arith, on);
      kept = later.kept;
    }
heard-after e es hearing told w next m b answers.Enough most h is rest =
    let same = stays es m b (ap (λ (t : Told). t.watcher) is) rest in
    subst (λ (t : Told). HasHeard w told (e ∷ es) t) (sym is ∙ same) (record {
      count = 1;
      state = (
        0,
        refl,
        omega (arith),
        none-wished w (e ∷ es),
        enough-wished (w.wishes_more (e ∷ [])) (h.wished (λ no. subst is_heard no tt)),
      );
      told_on = omega (arith);
      kept = tt;
    })
heard-after e es hearing told w next m b answers.NoMemory most h is rest =
    let same = stays es m b (ap (λ (t : Told). t.watcher) is) rest in
    subst (λ (t : Told). HasHeard w told (e ∷ es) t) (sym is ∙ same) (record {
      count = 0;
      state = (omega (arith), none-wished w (e ∷ es), h.short refl);
      told_on = omega (arith, most);
      kept = tt;
    })

heard-by : (es : List Event) → Hearing es
heard-by [] a b w r is h =
    let most = r.counted in
    subst (λ (t : Told). HasHeard w a.row.told [] t) h (record {
      count = 0;
      state = subst (λ s. IsStateAfter w [] 0 s) (sym (listens a.row.state a.watcher w r.kept is))
          (refl, none-wished w []);
      told_on = omega (arith, most);
      kept = r.kept;
    })
heard-by (e ∷ es) a b w r is h =
    let t = subst (λ (o : Option Watching). IsToldTo o e a h.0) is h.1 in
    heard-after e es (heard-by es) a.row.told w t.1 h.0 b t.0 r.counted t.2 t.3 h.2

hears-by : (o : Option Watching) (es : List Event) (a b : Told) → a.watcher ≡ o → IsRow a → IsAllTold es a b →
    HearsBy o a es b
hears-by None es a b is r h = stays es a b is h
hears-by (Some w) es a b is r h = heard-by es a b w r is h

-- ---- rows stay rows

row-after : (answer : Answer) (told : ℕ) (w : Watching) → told ≤ most_counted → IsRow (after answer told w)
row-after answers.More told w most = record { counted = omega (arith); kept = tt }
row-after answers.Enough told w most = record { counted = omega (arith); kept = tt }
row-after answers.NoMemory told w most = record { counted = most; kept = tt }

row-told : (o : Option Watching) (e : Event) (a b : Told) → IsRow a → IsToldTo o e a b → IsRow b
row-told None e a b r h = subst IsRow h r
row-told (Some w) e a b r h = subst IsRow (sym h.3) (row-after h.0 a.row.told h.1 r.counted)

rows-told : (e : Event) (olds news : List Told) → AllByRecursion IsRow olds → AreTold e olds news →
    AllByRecursion IsRow news
rows-told e [] [] rs h = tt
rows-told e [] (b ∷ news) rs h = absurd h
rows-told e (a ∷ olds) [] rs h = absurd h
rows-told e (a ∷ olds) (b ∷ news) rs h = (row-told a.watcher e a b rs.0 h.0, rows-told e olds news rs.1 h.1)

rows-all-told : (es : List Event) (olds news : List Told) → AllByRecursion IsRow olds → AreAllTold es olds news →
    AllByRecursion IsRow news
rows-all-told [] olds news rs h = subst (AllByRecursion IsRow) h rs
rows-all-told (e ∷ es) olds news rs h = rows-all-told es h.0 news (rows-told e olds h.0 rs h.1) h.2

-- ---- all in their places

same-zip : (xs : List Told) → AllZip (IsAllTold []) xs xs
same-zip [] = tt
same-zip (x ∷ xs) = (refl, same-zip xs)

joined-zip : (e : Event) (es : List Event) (xs ms bs : List Told) → AllZip (IsTold e) xs ms →
    AllZip (IsAllTold es) ms bs → AllZip (IsAllTold (e ∷ es)) xs bs
joined-zip e es [] [] [] h k = tt
joined-zip e es [] [] (b ∷ bs) h k = absurd k
joined-zip e es [] (m ∷ ms) bs h k = absurd h
joined-zip e es (a ∷ xs) [] bs h k = absurd h
joined-zip e es (a ∷ xs) (m ∷ ms) [] h k = absurd k
joined-zip e es (a ∷ xs) (m ∷ ms) (b ∷ bs) h k = ((m, h.0, k.0), joined-zip e es xs ms bs h.1 k.1)

each-told : (es : List Event) (olds news : List Told) → AreAllTold es olds news → AllZip (IsAllTold es) olds news
each-told [] olds news h = subst (λ l. AllZip (IsAllTold []) olds l) h (same-zip olds)
each-told (e ∷ es) olds news h = joined-zip e es olds h.0 news h.1 (each-told es h.0 news h.2)

each-hears : (es : List Event) (olds news : List Told) → AllByRecursion IsRow olds → AllZip (IsAllTold es) olds news →
    AllHear es olds news
each-hears es [] [] rs h = tt
each-hears es [] (b ∷ news) rs h = absurd h
each-hears es (a ∷ olds) [] rs h = absurd h
each-hears es (a ∷ olds) (b ∷ news) rs h =
    (hears-by a.watcher es a b refl rs.0 h.0, each-hears es olds news rs.1 h.1)

pub watchers_hear : WatchersHear
watchers_hear = record {
  heard = λ es olds news rs h. each-hears es olds news rs (each-told es olds news h);
  rows = rows-all-told;
  begun = λ w. record { counted = omega (arith); kept = tt };
}
