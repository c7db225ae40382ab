-- Texts that are sent one after another are one text.
use Rattle.std.proofs.Common.{◌≡◌, ℕ, suc, ◌+◌, ◌^◌, ◌≤◌, ◌<◌, List, [], ◌∷◌, ◌++◌, length, get_or, take, drop, Some, Result, Ok, Err, refl, sym, ap, subst, ◌∙◌, append_assoc, inl, inr, arith}
use Rattle.std.proofs.lemmas.Bool.{cases_lt}
use Rattle.std.proofs.lemmas.List.{append-nil, length-append, take-append-le, take_all}
use Rattle.std.specs.Prelude.{IfErr, IsErrAnd}
use Rattle.brep_desk.specs.Shown.{ChannelState, writing, Shown, Tells, ChangesOnly}
use Rattle.brep_desk.specs.WritingCalls.{NoFewerWritingCalls, RoseWritingCalls}
use Rattle.brep_desk.specs.Transfers.{Appended}
use Rattle.brep_desk.specs.declared.transfers.WriteStop.{WriteStop}
use Rattle.brep_tokens.specs.Written.{line_text, lines_text}
use Rattle.history_text.proofs.LineLaws.{more, rest}
use Rattle.history_text.specs.Sending.{Waiting, counted, KeepsStraysIfOpen, Sent, Stopped, Sends}

same_channel : (a b : Shown) (c : ℕ) (u : ChannelState) → b.opened ≡ a.opened → a.opened c ≡ u → b.opened c ≡ u
same_channel a b c u same is = ap (λ (f : ℕ → ChannelState). f c) same ∙ is

take_past : (x y : List ℕ) (n : ℕ) → take (length x + n) (x ++ y) ≡ x ++ take n y
take_past [] y n = let e : 0 + n ≡ n = omega arith in ap (λ k. take k y) e
take_past (b ∷ x) y n = let e : length (b ∷ x) + n ≡ suc (length x + n) = omega arith in ap (λ k. take k (b ∷ (x ++ y))) e ∙ ap (λ z. b ∷ z) (take_past x y n)

take_front : (x y : List ℕ) (n : ℕ) → n ≤ length x → take n (x ++ y) ≡ take n x
take_front x y n le = take-append-le n x y le

Appended-join : (t : Tells) (a b d : Shown) (c : ℕ) (x y : List ℕ) (n : ℕ) → Appended t a b c x (length x) → Appended t b d c y n → Appended t a d c (x ++ y) (length x + n)
Appended-join t a b d c x y n p q = record {
  held = q.held ∙ p.held;
  left = q.left ∙ p.left;
  ended = q.ended ∙ p.ended;
  opened = q.opened ∙ p.opened;
  fits = omega (arith, q.fits, length-append x y);
  is_open = λ told some.
      elim (cases_lt 0 (length x)) [
        | inl lt ↦ p.is_open told lt
        | inr le ↦ (let o = q.is_open told (omega arith) in (o.0, same_channel b a c (writing o.0) (sym p.opened) o.1))
      ];
  written = λ told name before is_open was.
      let one = p.written told name before is_open was in
      let two = q.written told name (before ++ take (length x) x) (same_channel a b c (writing name) p.opened is_open) one.here in
      let front : take (length x) x ≡ x = take_all (length x) x (omega arith) in
      let whole : before ++ take (length x) x ++ take n y ≡ before ++ take (length x + n) (x ++ y) =
      append_assoc before (take (length x) x) (take n y) ∙ ap (λ z. before ++ (z ++ take n y)) front ∙ ap (λ z. before ++ z) (sym (take_past x y n)) in
      record {
        here = two.here ∙ ap Some whole;
        others = λ k other. two.others k other ∙ one.others k other;
      };
  nothing = λ none. q.nothing (omega arith) ∙ p.nothing (omega arith);
}

Appended-more : (t : Tells) (a b : Shown) (c : ℕ) (x y : List ℕ) (n : ℕ) → Appended t a b c x n → Appended t a b c (x ++ y) n
Appended-more t a b c x y n p = record {
  held = p.held;
  left = p.left;
  ended = p.ended;
  opened = p.opened;
  fits = omega (arith, p.fits, length-append x y);
  is_open = p.is_open;
  written = λ told name before is_open was. subst (λ (z : List ℕ). ChangesOnly a.written b.written name (Some (before ++ z))) (sym (take_front x y n p.fits)) (p.written told name before is_open was);
  nothing = p.nothing;
}

strays_then : (t : Tells) (a b d : Shown) (c : ℕ) → b.opened ≡ a.opened → KeepsStraysIfOpen t a b c → KeepsStraysIfOpen t b d c → KeepsStraysIfOpen t a d c
strays_then t a b d c same p q name is told = q name (same_channel a b c (writing name) same is) told ∙ p name is told

rose_later : (t : Tells) (a b d : Shown) → RoseWritingCalls t a b → NoFewerWritingCalls t b d → RoseWritingCalls t a d
rose_later t a b d rose later told = omega (arith, rose told, later told)

pub later_rose : (t : Tells) (a b d : Shown) → NoFewerWritingCalls t a b → RoseWritingCalls t b d → RoseWritingCalls t a d
later_rose t a b d later rose told = omega (arith, later told, rose told)

joined_then : (p x gone q y more r : List ℕ) → p ++ x ≡ gone ++ q → q ++ y ≡ more ++ r → p ++ (x ++ y) ≡ (gone ++ more) ++ r
joined_then p x gone q y more r e f =
    sym (append_assoc p x y) ∙ ap (λ z. z ++ y) e ∙ append_assoc gone q y ∙ ap (λ z. gone ++ z) f ∙ sym (append_assoc gone more r)

pub Sent-then : (t : Tells) (a b d : Shown) (c : ℕ) (p q r : Waiting) (x y : List ℕ) → Sent t a b c p q x → Sent t b d c q r y → Sent t a d c p r (x ++ y)
Sent-then t a b d c p q r x y one two = record {
  gone = one.gone ++ two.gone;
  appended = subst (λ (n : ℕ). Appended t a d c (one.gone ++ two.gone) n) (sym (length-append one.gone two.gone)) (Appended-join t a b d c one.gone two.gone (length two.gone) one.appended two.appended);
  joined = joined_then p.bytes x one.gone q.bytes y two.gone r.bytes one.joined two.joined;
  taken = omega (arith, one.taken, two.taken, length-append one.gone two.gone);
  strays = strays_then t a b d c one.appended.opened one.strays two.strays;
  writing_calls = λ told. omega (arith, one.writing_calls told, two.writing_calls told);
  calls = λ some.
      elim (cases_lt 0 (length one.gone)) [
        | inl lt ↦ rose_later t a b d (one.calls lt) two.writing_calls
        | inr le ↦ later_rose t a b d one.writing_calls (two.calls (omega (arith, le, some, length-append one.gone two.gone)))
      ];
}

pub Stopped-then : (t : Tells) (a b d : Shown) (c : ℕ) (p q : Waiting) (x y : List ℕ) (n : ℕ) → Sent t a b c p q x → Stopped t b d c q y n → Stopped t a d c p (x ++ y) n
Stopped-then t a b d c p q x y n one two =
    let whole : one.gone ++ (q.bytes ++ y) ≡ p.bytes ++ (x ++ y) =
    sym (append_assoc one.gone q.bytes y) ∙ ap (λ z. z ++ y) (sym one.joined) ∙ append_assoc p.bytes x y in
    record {
      count = length one.gone + two.count;
      short = omega (arith, two.short, ap length whole, length-append one.gone (q.bytes ++ y));
      appended = subst (λ (z : List ℕ). Appended t a d c z (length one.gone + two.count)) whole (Appended-join t a b d c one.gone (q.bytes ++ y) two.count one.appended two.appended);
      told = omega (arith, one.taken, two.told);
      strays = strays_then t a b d c one.appended.opened one.strays two.strays;
      calls = later_rose t a b d one.writing_calls two.calls;
    }

pub Stopped-more : (t : Tells) (a b : Shown) (c : ℕ) (p : Waiting) (x y : List ℕ) (n : ℕ) → Stopped t a b c p x n → Stopped t a b c p (x ++ y) n
Stopped-more t a b c p x y n s =
    let whole : (p.bytes ++ x) ++ y ≡ p.bytes ++ (x ++ y) = append_assoc p.bytes x y in
    record {
      count = s.count;
      short = omega (arith, s.short, ap length whole, length-append (p.bytes ++ x) y);
      appended = subst (λ (z : List ℕ). Appended t a b c z s.count) whole (Appended-more t a b c (p.bytes ++ x) y s.count s.appended);
      told = s.told;
      strays = s.strays;
      calls = s.calls;
    }

-- a stop in the middle one of three texts
pub Stopped-within : (t : Tells) (a b d : Shown) (c : ℕ) (p q : Waiting) (x y z text : List ℕ) (n : ℕ) → Sent t a b c p q x → Stopped t b d c q y n → text ≡ x ++ (y ++ z) → Stopped t a d c p text n
Stopped-within t a b d c p q x y z text n one two is =
    subst (λ (w : List ℕ). Stopped t a d c p w n) (sym is) (Stopped-then t a b d c p q x (y ++ z) n one (Stopped-more t b d c q y z n two))

Appended-none : (t : Tells) (s : Shown) (c : ℕ) → Appended t s s c [] 0
Appended-none t s c = record {
  held = refl;
  left = refl;
  ended = refl;
  opened = refl;
  fits = omega arith;
  is_open = λ _ some. absurd (omega arith);
  written = λ _ name before is_open was. record { here = was ∙ ap Some (sym (append-nil before)); others = λ k _. refl };
  nothing = λ _. refl;
}

-- what came only waits
pub Sent-waiting : (t : Tells) (s : Shown) (c : ℕ) (p q : Waiting) (x : List ℕ) → p.taken < 2 ^ 64 → p.bytes ++ x ≡ q.bytes → q.taken ≡ p.taken → Sent t s s c p q x
Sent-waiting t s c p q x range waits same = record {
  gone = [];
  appended = Appended-none t s c;
  joined = waits;
  taken = omega arith;
  strays = λ name is told. refl;
  writing_calls = λ _. omega arith;
  calls = λ some. absurd (omega (arith, some));
}

-- all that waited is gone
pub Sent-gone : (t : Tells) (a b : Shown) (c : ℕ) (p q : Waiting) (x : List ℕ) → Appended t a b c x (length x) → x ≡ p.bytes → q.bytes ≡ [] → q.taken ≡ counted (p.taken + length x) → KeepsStraysIfOpen t a b c → NoFewerWritingCalls t a b → (0 < length x → RoseWritingCalls t a b) → Sent t a b c p q []
Sent-gone t a b c p q x gone is none taken strays later calls = record {
  gone = x;
  appended = gone;
  joined = append-nil p.bytes ∙ sym is ∙ sym (append-nil x) ∙ ap (λ z. x ++ z) (sym none);
  taken = taken;
  strays = strays;
  writing_calls = later;
  calls = calls;
}

-- a part of what waited is gone
pub Stopped-gone : (t : Tells) (a b : Shown) (c : ℕ) (p : Waiting) (x : List ℕ) (n total : ℕ) → Appended t a b c x n → x ≡ p.bytes → n < length x → total ≡ counted (p.taken + n) → KeepsStraysIfOpen t a b c → (0 < length x → RoseWritingCalls t a b) → Stopped t a b c p [] total
Stopped-gone t a b c p x n total part is early told strays calls =
    let whole : x ≡ p.bytes ++ [] = is ∙ sym (append-nil p.bytes) in
    record {
      count = n;
      short = omega (arith, early, ap length whole);
      appended = subst (λ (z : List ℕ). Appended t a b c z n) whole part;
      told = told;
      strays = strays;
      calls = calls (omega (arith, early));
    }

-- an error that is handed on
pub Sends-on : (t : Tells) (a b : Shown) (c : ℕ) (p q : Waiting) (x : List ℕ) (r : Result Unit WriteStop) (e : WriteStop) → IsErrAnd r (λ z. z ≡ e) → Stopped t a b c p x e.taken → Sends t a b c p q x r
Sends-on t a b c p q x (Ok u) e wrong s = absurd wrong
Sends-on t a b c p q x (Err z) e is s = subst (λ (w : WriteStop). Stopped t a b c p x w.taken) (sym is) s

pub Stopped-from : (t : Tells) (a b : Shown) (c : ℕ) (p q : Waiting) (x : List ℕ) (n : ℕ) → p.bytes ≡ q.bytes → p.taken ≡ q.taken → Stopped t a b c p x n → Stopped t a b c q x n
Stopped-from t a b c p q x n e f s =
    let whole : p.bytes ++ x ≡ q.bytes ++ x = ap (λ z. z ++ x) e in
    record {
      count = s.count;
      short = omega (arith, s.short, ap length whole);
      appended = subst (λ (z : List ℕ). Appended t a b c z s.count) whole s.appended;
      told = s.told ∙ ap (λ k. counted (k + s.count)) f;
      strays = s.strays;
      calls = s.calls;
    }

-- a stop in the first of two texts
pub Stopped-first : (t : Tells) (a b : Shown) (c : ℕ) (p : Waiting) (x z text : List ℕ) (n : ℕ) → text ≡ x ++ z → Stopped t a b c p x n → Stopped t a b c p text n
Stopped-first t a b c p x z text n is s = subst (λ (w : List ℕ). Stopped t a b c p w n) (sym is) (Stopped-more t a b c p x z n s)

-- a text that is sent behind another
pub Sent-behind : (t : Tells) (a b d : Shown) (c : ℕ) (p q r : Waiting) (x y text : List ℕ) → x ++ y ≡ text → Sent t a b c p q x → Sent t b d c q r y → Sent t a d c p r text
Sent-behind t a b d c p q r x y text is one two = subst (λ (w : List ℕ). Sent t a d c p r w) is (Sent-then t a b d c p q r x y one two)

pub Sent-as : (t : Tells) (a b : Shown) (c : ℕ) (p q : Waiting) (x text : List ℕ) → x ≡ text → Sent t a b c p q x → Sent t a b c p q text
Sent-as t a b c p q x text is s = subst (λ (w : List ℕ). Sent t a b c p q w) is s

-- one line more
pub Sent-line : (t : Tells) (a b d : Shown) (c : ℕ) (p q r : Waiting) (head : List ℕ) (lines : List (List (List ℕ))) (i : ℕ) (line : List (List ℕ)) (y : List ℕ)
    → i < length lines → get_or lines i [] ≡ line → y ≡ line_text line → Sent t a b c p q (head ++ lines_text (take i lines)) → Sent t b d c q r y → Sent t a d c p r (head ++ lines_text (take (i + 1) lines))
Sent-line t a b d c p q r head lines i line y lt at is one two =
    Sent-behind t a b d c p q r (head ++ lines_text (take i lines)) y (head ++ lines_text (take (i + 1) lines))
    (ap (λ z. (head ++ lines_text (take i lines)) ++ z) is ∙ more head lines i line lt at) one two

-- a stop within a line
pub Stopped-line : (t : Tells) (a b d : Shown) (c : ℕ) (p q : Waiting) (head : List ℕ) (lines : List (List (List ℕ))) (i : ℕ) (line : List (List ℕ)) (y : List ℕ) (n : ℕ)
    → i < length lines → get_or lines i [] ≡ line → y ≡ line_text line → Sent t a b c p q (head ++ lines_text (take i lines)) → Stopped t b d c q y n → Stopped t a d c p (head ++ lines_text lines) n
Stopped-line t a b d c p q head lines i line y n lt at is one two =
    Stopped-within t a b d c p q (head ++ lines_text (take i lines)) y (lines_text (drop (i + 1) lines)) (head ++ lines_text lines) n one two
    (rest head lines i line lt at ∙ ap (λ z. (head ++ lines_text (take i lines)) ++ (z ++ lines_text (drop (i + 1) lines))) (sym is))

-- an answer of the second of two texts
pub Sends-behind : (t : Tells) (a b d : Shown) (c : ℕ) (p q r : Waiting) (x y text : List ℕ) (k : Result Unit WriteStop) → x ++ y ≡ text → Sent t a b c p q x → Sends t b d c q r y k → Sends t a d c p r text k
Sends-behind t a b d c p q r x y text (Ok u) is one two = Sent-behind t a b d c p q r x y text is one two
Sends-behind t a b d c p q r x y text (Err e) is one two = subst (λ (w : List ℕ). Stopped t a d c p w e.taken) is (Stopped-then t a b d c p q x y e.taken one two)

-- all of a text was sent, and nothing waits
pub Sent-all : (t : Tells) (a b : Shown) (c : ℕ) (p r : Waiting) (x : List ℕ) → p.bytes ≡ [] → r.bytes ≡ [] → Sent t a b c p r x → Appended t a b c x (length x)
Sent-all t a b c p r x first last s =
    let same : s.gone ≡ x = sym (append-nil s.gone) ∙ ap (λ z. s.gone ++ z) (sym last) ∙ sym s.joined ∙ ap (λ z. z ++ x) first in
    subst (λ (z : List ℕ). Appended t a b c z (length z)) same s.appended

pub taken-all : (t : Tells) (a b : Shown) (c : ℕ) (p r : Waiting) (x : List ℕ) → p.bytes ≡ [] → r.bytes ≡ [] → p.taken ≡ 0 → Sent t a b c p r x → r.taken ≡ counted (length x)
taken-all t a b c p r x first last none s =
    let same : s.gone ≡ x = sym (append-nil s.gone) ∙ ap (λ z. s.gone ++ z) (sym last) ∙ sym s.joined ∙ ap (λ z. z ++ x) first in
    omega (arith, s.taken, none, ap length same)

pub Stopped-part : (t : Tells) (a b : Shown) (c : ℕ) (p : Waiting) (x : List ℕ) (n : ℕ) → p.bytes ≡ [] → p.taken ≡ 0 → Stopped t a b c p x n → (count : ℕ) × (count < length x) × (n ≡ counted count) × Appended t a b c x count
Stopped-part t a b c p x n first none s =
    let same : p.bytes ++ x ≡ x = ap (λ z. z ++ x) first in
    (s.count, omega (arith, s.short, ap length same), omega (arith, s.told, none), subst (λ (z : List ℕ). Appended t a b c z s.count) same s.appended)

pub IfErr-on : {A : Type 0} (r : Result A WriteStop) (e : WriteStop) (P : WriteStop → Type 0) → IsErrAnd r (λ z. z ≡ e) → P e → IfErr r P
IfErr-on (Ok u) e P wrong h = absurd wrong
IfErr-on (Err z) e P is h = subst P (sym is) h

pub Stopped-as : (t : Tells) (a b : Shown) (c : ℕ) (p : Waiting) (x text : List ℕ) (n : ℕ) → x ≡ text → Stopped t a b c p x n → Stopped t a b c p text n
Stopped-as t a b c p x text n is s = subst (λ (w : List ℕ). Stopped t a b c p w n) is s

-- of a text that was sent whole, and has bytes, a call of writing is counted
pub Sent-calls : (t : Tells) (a b : Shown) (c : ℕ) (p r : Waiting) (x : List ℕ) → p.bytes ≡ [] → r.bytes ≡ [] → 0 < length x → Sent t a b c p r x → RoseWritingCalls t a b
Sent-calls t a b c p r x first last some s =
    let same : s.gone ≡ x = sym (append-nil s.gone) ∙ ap (λ z. s.gone ++ z) (sym last) ∙ sym s.joined ∙ ap (λ z. z ++ x) first in
    s.calls (omega (arith, some, ap length same))
