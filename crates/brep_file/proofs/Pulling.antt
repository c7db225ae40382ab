-- Reading token by token from a scanner.
use Rattle.std.proofs.Common.{◌≡◌, List, ◌∷◌, Result, Ok, Err, IsErrAnd, refl, sym, ap, subst, ◌∙◌}
use Rattle.brep_tokens.specs.State.{Scan}
use Rattle.brep_tokens.specs.declared.fault.ReadStop.{ReadStop}
use Rattle.brep_tokens.specs.declared.fault.ReadStop.TheVariants as stops
use Rattle.brep_tokens.specs.declared.text.Token.{Token}
use Rattle.lists.specs.Results.{◌>>=◌}
use Rattle.entry_readers.specs.Reading.{Read, more, fault}
use Rattle.entry_readers.specs.Takes.{Stops}
use Rattle.brep_file.specs.Giving.{front, missing_at, GoesTo, Fails, Gives}

pub same_missing : (old new : Scan) → GoesTo old new → missing_at new ≡ missing_at old
same_missing old new goes = rw (goes.long, goes.fed) refl

pub further : (a b c : Scan) → GoesTo a b → GoesTo b c → GoesTo a c
further a b c one two = record { long = two.long ∙ one.long; fed = two.fed ∙ one.fed; reading = two.reading }

-- ---- one reading after another

pub fails_then : {A B : Type 0} (s : Scan) (r : Read A) (K : A × List Token → Read B) (e : ReadStop) → Fails s r e
    → Fails s (r >>= K) e
fails_then s r K stops.NoMemory is = tt
fails_then s (Ok x) K (stops.Fault f) is = absurd is
fails_then s (Err more) K (stops.Fault f) is = is
fails_then s (Err (fault g)) K (stops.Fault f) is = is

pub fails_later : {B : Type 0} (old new : Scan) (r : Read B) (e : ReadStop) → GoesTo old new → Fails new r e
    → Fails old r e
fails_later old new r stops.NoMemory goes is = tt
fails_later old new (Ok x) (stops.Fault f) goes is = absurd is
fails_later old new (Err more) (stops.Fault f) goes is = sym (same_missing old new goes) ∙ is
fails_later old new (Err (fault g)) (stops.Fault f) goes is = is

-- reading goes on after what was read
pub then_gives : {A B : Type 0} (read : List Token → Read A) (K : A × List Token → Read B) (old mid new : Scan) (x : A)
    (r : Result B ReadStop)
    → read (front old) ≡ Ok (x, front mid) → GoesTo old mid → Gives (λ y. y) (λ ts. K (x, ts)) mid new r
    → Gives (λ y. y) (λ ts. read ts >>= K) old new r
then_gives read K old mid new x (Ok y) e goes h = (rw e h.0, further old mid new goes h.1)
then_gives read K old mid new x (Err d) e goes h = rw e (fails_later old mid (K (x, front mid)) d goes h)

-- what reads the same gives the same
pub same_gives : {X B : Type 0} (view : X → B) (read other : List Token → Read B) (old new : Scan)
    (r : Result X ReadStop) → read (front old) ≡ other (front old)
    → Gives view other old new r → Gives view read old new r
same_gives view read other old new (Ok y) e h = (e ∙ h.0, h.1)
same_gives {B = B} view read other old new (Err d) e h = subst (λ (r : Read B). Fails old r d) (sym e) h

-- a reader stops at the next token
pub stop_fails : {A : Type 0} (left : List Token → Read A) (first s next : Scan) (t : Token) (start : Read A)
    (e : ReadStop) → left (front s) ≡ start → front s ≡ t ∷ front next → Stops left t e → Fails first start e
stop_fails left first s next t start stops.NoMemory same here stop = tt
stop_fails {A = A} left first s next t start (stops.Fault f) same here stop =
    subst (λ (r : Read A). Fails first r (stops.Fault f)) (sym (stop (front next)) ∙ sym (ap left here) ∙ same) refl

-- what stops a step stops the whole
pub stops_with : {X B : Type 0} (view : X → B) (read : List Token → Read B) (old new : Scan)
    (r : Result X ReadStop) (e : ReadStop)
    → IsErrAnd r (λ z. z ≡ e) → Fails old (read (front old)) e → Gives view read old new r
stops_with view read old new (Ok x) e wrong h = absurd wrong
stops_with view read old new (Err z) e is h = subst (λ (w : ReadStop). Fails old (read (front old)) w) (sym is) h
