-- What a list of channels shows at a number, after one was added, and after one was changed.
use Rattle.std.proofs.Common.{◌≡◌, ◌≢◌, ℕ, zero, suc, ◌+◌, ◌<◌, ◌≤◌, List, [], ◌∷◌, ◌++◌, length}
use Rattle.std.proofs.Common.{drop, set, get_or, refl, sym, ap, subst, ◌∙◌, arith, drop-drop}
use Rattle.std.proofs.Math.Path.{fun_ext}
use Rattle.brep_desk.specs.Shown.{closed, ChangesOnly}
use Rattle.brep_desk.specs.declared.channels.Channel.{Channel}
use Rattle.brep_desk.specs.declared.channels.State.{State}
use Rattle.brep_desk.specs.declared.channels.State.TheVariants.{Closed, Reading, Writing}
use Rattle.brep_desk.specs.Kept.{of_channel, left_of, state_of, state_over}
use Rattle.brep_desk.specs.Kept.{left_in, state_in, IsNotReading, IsNotWriting}

pub of_channel-past : {A : Type 0} (f : Channel → A) (d : A) (cs : List Channel) (k : ℕ) → length cs ≤ k
    → of_channel f d cs k ≡ d
of_channel-past f d [] k le = refl
of_channel-past f d (c ∷ cs) zero le = absurd (omega arith)
of_channel-past f d (c ∷ cs) (suc k) le = of_channel-past f d cs k (omega arith)

get_at : {A : Type 0} (f : Channel → A) (d : A) (cs : List Channel) (k : ℕ) (x : Channel) → k < length cs
    → of_channel f d cs k ≡ f (get_or cs k x)
get_at f d [] k x lt = absurd (omega arith)
get_at f d (c ∷ cs) zero x lt = refl
get_at f d (c ∷ cs) (suc k) x lt = get_at f d cs k x (omega arith)

-- the channel that an index refers to
pub of_channel-get : {A : Type 0} (f : Channel → A) (d : A) (cs : List Channel) (k : ℕ) (x y : Channel) → k < length cs
    → get_or cs k x ≡ y → of_channel f d cs k ≡ f y
of_channel-get f d cs k x y lt is = get_at f d cs k x lt ∙ ap f is

-- the channel that an index gave
pub of_channel-at : {A : Type 0} (f : Channel → A) (d : A) (cs : List Channel) (k : ℕ) (x y : Channel) → k < length cs
    → x ≡ get_or cs k x → x ≡ y → of_channel f d cs k ≡ f y
of_channel-at f d cs k x y lt got is = get_at f d cs k x lt ∙ ap f (sym got ∙ is)

pushed_here : {A : Type 0} (f : Channel → A) (d : A) (cs : List Channel) (c : Channel)
    → of_channel f d (cs ++ c ∷ []) (length cs) ≡ f c
pushed_here f d [] c = refl
pushed_here f d (x ∷ cs) c = pushed_here f d cs c

pushed_other : {A : Type 0} (f : Channel → A) (d : A) (cs : List Channel) (c : Channel) (k : ℕ) → k ≢ length cs
    → of_channel f d (cs ++ c ∷ []) k ≡ of_channel f d cs k
pushed_other f d [] c zero other = absurd (other refl)
pushed_other f d [] c (suc k) other = refl
pushed_other f d (x ∷ cs) c zero other = refl
pushed_other f d (x ∷ cs) c (suc k) other = pushed_other f d cs c k (λ e. other (ap suc e))

pushed_at : {A : Type 0} (f : Channel → A) (d : A) (cs : List Channel) (c : Channel)
    → ChangesOnly (of_channel f d cs) (of_channel f d (cs ++ c ∷ [])) (length cs) (f c)
pushed_at f d cs c = record { here = pushed_here f d cs c; others = λ k other. pushed_other f d cs c k other }

pub of_channel-pushed : {A : Type 0} (f : Channel → A) (d : A) (cs new : List Channel) (c : Channel) (k : ℕ)
    → new ≡ cs ++ c ∷ [] → k ≡ length cs → ChangesOnly (of_channel f d cs) (of_channel f d new) k (f c)
of_channel-pushed f d cs new c k is at = rw (is, at) (pushed_at f d cs c)

set_here : {A : Type 0} (f : Channel → A) (d : A) (cs : List Channel) (i : ℕ) (c : Channel) → i < length cs
    → of_channel f d (set cs i c) i ≡ f c
set_here f d [] i c lt = absurd (omega arith)
set_here f d (x ∷ cs) zero c lt = refl
set_here f d (x ∷ cs) (suc i) c lt = set_here f d cs i c (omega arith)

set_other : {A : Type 0} (f : Channel → A) (d : A) (cs : List Channel) (i : ℕ) (c : Channel) (k : ℕ) → k ≢ i
    → of_channel f d (set cs i c) k ≡ of_channel f d cs k
set_other f d [] i c k other = refl
set_other f d (x ∷ cs) zero c zero other = absurd (other refl)
set_other f d (x ∷ cs) zero c (suc k) other = refl
set_other f d (x ∷ cs) (suc i) c zero other = refl
set_other f d (x ∷ cs) (suc i) c (suc k) other = set_other f d cs i c k (λ e. other (ap suc e))

pub of_channel-set : {A : Type 0} (f : Channel → A) (d : A) (cs : List Channel) (i : ℕ) (c : Channel) → i < length cs
    → ChangesOnly (of_channel f d cs) (of_channel f d (set cs i c)) i (f c)
of_channel-set f d cs i c lt =
    record { here = set_here f d cs i c lt; others = λ k other. set_other f d cs i c k other }

set_kept_at : {A : Type 0} (f : Channel → A) (d : A) (cs : List Channel) (i : ℕ) (c : Channel)
    → of_channel f d cs i ≡ f c → (k : ℕ) → of_channel f d (set cs i c) k ≡ of_channel f d cs k
set_kept_at f d [] i c same k = refl
set_kept_at f d (x ∷ cs) zero c same zero = sym same
set_kept_at f d (x ∷ cs) zero c same (suc k) = refl
set_kept_at f d (x ∷ cs) (suc i) c same zero = refl
set_kept_at f d (x ∷ cs) (suc i) c same (suc k) = set_kept_at f d cs i c same k

-- a change that keeps the property keeps it at each number
pub of_channel-set_kept : {A : Type 0} (f : Channel → A) (d : A) (cs : List Channel) (i : ℕ) (c : Channel)
    → of_channel f d cs i ≡ f c → of_channel f d (set cs i c) ≡ of_channel f d cs
of_channel-set_kept f d cs i c same = fun_ext (set_kept_at f d cs i c same)

-- the channel at a number has the state
pub state_in-get : (cs : List Channel) (k : ℕ) (x : Channel) (s : State) → k < length cs → (get_or cs k x).state ≡ s
    → state_in cs k ≡ state_over s (get_or cs k x).name
state_in-get cs k x s lt is =
    of_channel-get state_of closed cs k x (get_or cs k x) lt refl
    ∙ ap (λ (v : State). state_over v (get_or cs k x).name) is

pub state_in-at : (cs : List Channel) (k : ℕ) (c : Channel) (s : State) → k < length cs → c ≡ get_or cs k c
    → c.state ≡ s → state_in cs k ≡ state_over s c.name
state_in-at cs k c s lt got is =
    of_channel-at state_of closed cs k c c lt got refl ∙ ap (λ (v : State). state_over v c.name) is

pub left_in-get : (cs : List Channel) (k : ℕ) (x : Channel) → k < length cs → left_in cs k ≡ left_of (get_or cs k x)
left_in-get cs k x lt = of_channel-get left_of [] cs k x (get_or cs k x) lt refl

pub left_in-read : (cs : List Channel) (k : ℕ) (c : Channel) (count : ℕ) → k < length cs → left_in cs k ≡ left_of c
    → ChangesOnly (left_in cs) (left_in (set cs k (record c { at = c.at + count }))) k (drop count (left_in cs k))
left_in-read cs k c count lt was =
    let value : drop (c.at + count) c.bytes ≡ drop count (left_in cs k) =
    sym (drop-drop count c.at c.bytes) ∙ ap (λ (x : List ℕ). drop count x) (sym was) in
    subst (λ (v : List ℕ). ChangesOnly (left_in cs) (left_in (set cs k (record c { at = c.at + count }))) k v) value
    (of_channel-set left_of [] cs k (record c { at = c.at + count }) lt)

not_reading : (s : State) (name : List ℕ) → s ≢ Reading → IsNotReading (state_over s name)
not_reading Closed name other = tt
not_reading Reading name other = other refl
not_reading Writing name other = tt

pub IsNotReading-get : (cs : List Channel) (k : ℕ) (x : Channel) → k < length cs → (get_or cs k x).state ≢ Reading
    → IsNotReading (state_in cs k)
IsNotReading-get cs k x lt other =
    subst IsNotReading (sym (state_in-get cs k x (get_or cs k x).state lt refl))
    (not_reading (get_or cs k x).state (get_or cs k x).name other)

not_writing : (s : State) (name : List ℕ) → s ≢ Writing → IsNotWriting (state_over s name)
not_writing Closed name other = tt
not_writing Reading name other = tt
not_writing Writing name other = other refl

pub IsNotWriting-at : (cs : List Channel) (k : ℕ) (c : Channel) → k < length cs → c ≡ get_or cs k c → c.state ≢ Writing
    → IsNotWriting (state_in cs k)
IsNotWriting-at cs k c lt got other =
    subst IsNotWriting (sym (state_in-at cs k c c.state lt got refl)) (not_writing c.state c.name other)

pub state_over-open : (s : State) (name : List ℕ) → s ≢ Closed → state_over s name ≢ closed
state_over-open Closed name other is = other refl
state_over-open Reading name other is = absurd cc
state_over-open Writing name other is = absurd cc

pushed_kept_at : {A : Type 0} (f : Channel → A) (d : A) (cs : List Channel) (c : Channel) → f c ≡ d → (k : ℕ)
    → of_channel f d (cs ++ c ∷ []) k ≡ of_channel f d cs k
pushed_kept_at f d [] c none zero = none
pushed_kept_at f d [] c none (suc k) = refl
pushed_kept_at f d (x ∷ cs) c none zero = refl
pushed_kept_at f d (x ∷ cs) c none (suc k) = pushed_kept_at f d cs c none k

-- a channel without the property, added, shows as before at each number
pub of_channel-pushed_kept : {A : Type 0} (f : Channel → A) (d : A) (cs new : List Channel) (c : Channel)
    → new ≡ cs ++ c ∷ [] → f c ≡ d → of_channel f d new ≡ of_channel f d cs
of_channel-pushed_kept f d cs new c is none =
    ap (λ (x : List Channel). of_channel f d x) is ∙ fun_ext (pushed_kept_at f d cs c none)
