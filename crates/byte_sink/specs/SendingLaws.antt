-- Pieces that are handed in one after another are one piece.
use Rattle.std.proofs.Common.{◌≡◌, ℕ, suc, ◌+◌, ◌<◌, List, [], ◌∷◌, ◌++◌, length, take, Some, Result, Ok}
use Rattle.std.proofs.Common.{Err, refl, sym, ap, subst, ◌∙◌, append_assoc, inl, inr, arith}
use Rattle.std.proofs.lemmas.Bool.{cases_lt}
use Rattle.std.proofs.lemmas.List.{append-nil, length-append, take-append-le, take_all}
use Rattle.std.specs.Prelude.{IsErrAnd}
use Rattle.brep_desk.specs.Shown.{ChannelState, writing, Shown, Tells, ChangesOnly}
use Rattle.brep_desk.specs.Strays.{NoStrayOnWriting}
use Rattle.brep_desk.specs.WritingCalls.{NoFewerWritingCalls, RoseWritingCalls}
use Rattle.brep_desk.specs.Transfers.{Appended}
use Rattle.brep_desk.specs.declared.transfers.WriteStop.{WriteStop}
use Rattle.byte_sink.specs.Sending.{Waiting, nothing_waits, counted_on, Sent, Stopped, Sends}
use Rattle.byte_sink.specs.Laws.{PiecesJoin, TextsAreWhole}

same_channel : (a b : Shown) (c : ℕ) (u : ChannelState) → b.opened ≡ a.opened → a.opened c ≡ u → b.opened c ≡ u
same_channel a b c u same is = ap (λ (f : ℕ → ChannelState). f c) same ∙ is

take_past : (x y : List ℕ) (n : ℕ) → take (length x + n) (x ++ y) ≡ x ++ take n y
take_past [] y n = let e : 0 + n ≡ n = omega arith in ap (λ k. take k y) e
take_past (b ∷ x) y n =
    let e : length (b ∷ x) + n ≡ suc (length x + n) = omega arith in
    ap (λ k. take k (b ∷ (x ++ y))) e ∙ ap (λ z. b ∷ z) (take_past x y n)

Appended-join : (t : Tells) (a b d : Shown) (c : ℕ) (x y : List ℕ) (n : ℕ) → Appended t a b c x (length x)
    → Appended t b d c y n → Appended t a d c (x ++ y) (length x + n)
Appended-join t a b d c x y n p q = record {
  held = q.held ∙ p.held;
  left = q.left ∙ p.left;
  ended = q.ended ∙ p.ended;
  opened = q.opened ∙ p.opened;
  fits = omega (arith, q.fits, length-append x y);
  is_open = λ told some.
      elim (cases_lt 0 (length x)) [
        | inl lt ↦ p.is_open told lt
        | inr le ↦ (let o = q.is_open told (omega arith) in (o.0, same_channel b a c (writing o.0) (sym p.opened) o.1))
      ];
  written = λ told name before is_open was.
      let one = p.written told name before is_open was in
      let two = q.written told name (before ++ take (length x) x) (same_channel a b c (writing name) p.opened is_open)
      one.here in
      let front : take (length x) x ≡ x = take_all (length x) x (omega arith) in
      let whole : before ++ take (length x) x ++ take n y ≡ before ++ take (length x + n) (x ++ y) =
      append_assoc before (take (length x) x) (take n y) ∙ ap (λ z. before ++ (z ++ take n y)) front
      ∙ ap (λ z. before ++ z) (sym (take_past x y n)) in
      record {
        here = two.here ∙ ap Some whole;
        others = λ k other. two.others k other ∙ one.others k other;
      };
  nothing = λ none. q.nothing (omega arith) ∙ p.nothing (omega arith);
}

Appended-more : (t : Tells) (a b : Shown) (c : ℕ) (x y : List ℕ) (n : ℕ) → Appended t a b c x n
    → Appended t a b c (x ++ y) n
Appended-more t a b c x y n p = record {
  held = p.held;
  left = p.left;
  ended = p.ended;
  opened = p.opened;
  fits = omega (arith, p.fits, length-append x y);
  is_open = p.is_open;
  written =
      λ told name before is_open was. subst (λ (z : List ℕ). ChangesOnly a.written b.written name
      (Some (before ++ z))) (sym (take-append-le n x y p.fits)) (p.written told name before is_open was);
  nothing = p.nothing;
}

strays_then : (t : Tells) (a b d : Shown) (c : ℕ) → b.opened ≡ a.opened → NoStrayOnWriting t a b c
    → NoStrayOnWriting t b d c → NoStrayOnWriting t a d c
strays_then t a b d c same p q name is told = q name (same_channel a b c (writing name) same is) told ∙ p name is told

rose_later : (t : Tells) (a b d : Shown) → RoseWritingCalls t a b → NoFewerWritingCalls t b d → RoseWritingCalls t a d
rose_later t a b d rose later told = omega (arith, rose told, later told)

later_rose : (t : Tells) (a b d : Shown) → NoFewerWritingCalls t a b → RoseWritingCalls t b d → RoseWritingCalls t a d
later_rose t a b d later rose told = omega (arith, later told, rose told)

joined_then : (p x gone q y more r : List ℕ) → p ++ x ≡ gone ++ q → q ++ y ≡ more ++ r
    → p ++ (x ++ y) ≡ (gone ++ more) ++ r
joined_then p x gone q y more r e f =
    sym (append_assoc p x y) ∙ ap (λ z. z ++ y) e ∙ append_assoc gone q y ∙ ap (λ z. gone ++ z) f
    ∙ sym (append_assoc gone more r)

counted_then : (m k n : ℕ) → counted_on (counted_on m k) n ≡ counted_on m (k + n)
counted_then m k n = omega arith

pub Sent-then : (t : Tells) (a b d : Shown) (c : ℕ) (p q r : Waiting) (x y : List ℕ) → Sent t a b c p q x
    → Sent t b d c q r y → Sent t a d c p r (x ++ y)
Sent-then t a b d c p q r x y one two = record {
  gone = one.gone ++ two.gone;
  appended =
      subst (λ (n : ℕ). Appended t a d c (one.gone ++ two.gone) n) (sym (length-append one.gone two.gone))
      (Appended-join t a b d c one.gone two.gone (length two.gone) one.appended two.appended);
  joined = joined_then p.bytes x one.gone q.bytes y two.gone r.bytes one.joined two.joined;
  taken =
      two.taken ∙ ap (λ k. counted_on k (length two.gone)) one.taken
      ∙ counted_then p.taken (length one.gone) (length two.gone)
      ∙ ap (λ k. counted_on p.taken k) (sym (length-append one.gone two.gone));
  strays = strays_then t a b d c one.appended.opened one.strays two.strays;
  writing_calls = λ told. omega (arith, one.writing_calls told, two.writing_calls told);
  calls = λ some.
      elim (cases_lt 0 (length one.gone)) [
        | inl lt ↦ rose_later t a b d (one.calls lt) two.writing_calls
        | inr le ↦ later_rose t a b d one.writing_calls
            (two.calls (omega (arith, le, some, length-append one.gone two.gone)))
      ];
}

pub Stopped-then : (t : Tells) (a b d : Shown) (c : ℕ) (p q : Waiting) (x y : List ℕ) (n : ℕ) → Sent t a b c p q x
    → Stopped t b d c q y n → Stopped t a d c p (x ++ y) n
Stopped-then t a b d c p q x y n one two =
    let whole : one.gone ++ (q.bytes ++ y) ≡ p.bytes ++ (x ++ y) =
    sym (append_assoc one.gone q.bytes y) ∙ ap (λ z. z ++ y) (sym one.joined) ∙ append_assoc p.bytes x y in
    record {
      count = length one.gone + two.count;
      short = omega (arith, two.short, ap length whole, length-append one.gone (q.bytes ++ y));
      appended =
          subst (λ (z : List ℕ). Appended t a d c z (length one.gone + two.count)) whole
          (Appended-join t a b d c one.gone (q.bytes ++ y) two.count one.appended two.appended);
      told =
          two.told ∙ ap (λ k. counted_on k two.count) one.taken
          ∙ counted_then p.taken (length one.gone) two.count;
      strays = strays_then t a b d c one.appended.opened one.strays two.strays;
      calls = later_rose t a b d one.writing_calls two.calls;
    }

pub Stopped-more : (t : Tells) (a b : Shown) (c : ℕ) (p : Waiting) (x y : List ℕ) (n : ℕ) → Stopped t a b c p x n
    → Stopped t a b c p (x ++ y) n
Stopped-more t a b c p x y n s =
    let whole : (p.bytes ++ x) ++ y ≡ p.bytes ++ (x ++ y) = append_assoc p.bytes x y in
    record {
      count = s.count;
      short = omega (arith, s.short, ap length whole, length-append (p.bytes ++ x) y);
      appended =
          subst (λ (z : List ℕ). Appended t a b c z s.count) whole
          (Appended-more t a b c (p.bytes ++ x) y s.count s.appended);
      told = s.told;
      strays = s.strays;
      calls = s.calls;
    }

Appended-none : (t : Tells) (s : Shown) (c : ℕ) → Appended t s s c [] 0
Appended-none t s c = record {
  held = refl;
  left = refl;
  ended = refl;
  opened = refl;
  fits = omega arith;
  is_open = λ _ some. absurd (omega arith);
  written =
      λ _ name before is_open was. record {
        here = was ∙ ap Some (sym (append-nil before));
        others = λ k _. refl;
      };
  nothing = λ _. refl;
}

-- what came only waits
pub Sent-waiting : (t : Tells) (s : Shown) (c : ℕ) (p q : Waiting) (x : List ℕ) → p.bytes ++ x ≡ q.bytes
    → q.taken ≡ p.taken → Sent t s s c p q x
Sent-waiting t s c p q x waits same = record {
  gone = [];
  appended = Appended-none t s c;
  joined = waits;
  taken = same ∙ omega arith;
  strays = λ name is told. refl;
  writing_calls = λ _. omega arith;
  calls = λ some. absurd (omega (arith, some));
}

-- all that waited is gone, and then the piece
pub Sent-gone : (t : Tells) (a b : Shown) (c : ℕ) (p q : Waiting) (x piece : List ℕ) → Appended t a b c x (length x)
    → x ≡ p.bytes ++ piece → q.bytes ≡ [] → q.taken ≡ counted_on p.taken (length x) → NoStrayOnWriting t a b c
    → NoFewerWritingCalls t a b → (0 < length x → RoseWritingCalls t a b) → Sent t a b c p q piece
Sent-gone t a b c p q x piece gone is none taken strays later calls = record {
  gone = x;
  appended = gone;
  joined = sym is ∙ sym (append-nil x) ∙ ap (λ z. x ++ z) (sym none);
  taken = taken;
  strays = strays;
  writing_calls = later;
  calls = calls;
}

-- a part of what waited and of the piece is gone
pub Stopped-gone : (t : Tells) (a b : Shown) (c : ℕ) (p : Waiting) (x piece : List ℕ) (n total : ℕ)
    → Appended t a b c x n → x ≡ p.bytes ++ piece → n < length x → total ≡ counted_on p.taken n
    → NoStrayOnWriting t a b c → (0 < length x → RoseWritingCalls t a b) → Stopped t a b c p piece total
Stopped-gone t a b c p x piece n total part is early told strays calls = record {
  count = n;
  short = omega (arith, early, ap length is);
  appended = subst (λ (z : List ℕ). Appended t a b c z n) is part;
  told = told;
  strays = strays;
  calls = calls (omega (arith, early));
}

Sent-from : (t : Tells) (a b : Shown) (c : ℕ) (p q r : Waiting) (x : List ℕ) → p.bytes ≡ q.bytes
    → p.taken ≡ q.taken → Sent t a b c p r x → Sent t a b c q r x
Sent-from t a b c p q r x e f s = record {
  gone = s.gone;
  appended = s.appended;
  joined = ap (λ z. z ++ x) (sym e) ∙ s.joined;
  taken = s.taken ∙ ap (λ k. counted_on k (length s.gone)) f;
  strays = s.strays;
  writing_calls = s.writing_calls;
  calls = s.calls;
}

Stopped-from : (t : Tells) (a b : Shown) (c : ℕ) (p q : Waiting) (x : List ℕ) (n : ℕ) → p.bytes ≡ q.bytes
    → p.taken ≡ q.taken → Stopped t a b c p x n → Stopped t a b c q x n
Stopped-from t a b c p q x n e f s =
    let whole : p.bytes ++ x ≡ q.bytes ++ x = ap (λ z. z ++ x) e in
    record {
      count = s.count;
      short = omega (arith, s.short, ap length whole);
      appended = subst (λ (z : List ℕ). Appended t a b c z s.count) whole s.appended;
      told = s.told ∙ ap (λ k. counted_on k s.count) f;
      strays = s.strays;
      calls = s.calls;
    }

pub Sends-from : (t : Tells) (a b : Shown) (c : ℕ) (p q r : Waiting) (x : List ℕ) (k : Result Unit WriteStop)
    → p.bytes ≡ q.bytes → p.taken ≡ q.taken → Sends t a b c p r x k → Sends t a b c q r x k
Sends-from t a b c p q r x (Ok u) e f s = Sent-from t a b c p q r x e f s
Sends-from t a b c p q r x (Err z) e f s = Stopped-from t a b c p q x z.taken e f s

-- an error that is handed on
pub Sends-on : (t : Tells) (a b : Shown) (c : ℕ) (p q : Waiting) (x : List ℕ) (r : Result Unit WriteStop)
    (e : WriteStop) → IsErrAnd r (λ z. z ≡ e) → Stopped t a b c p x e.taken → Sends t a b c p q x r
Sends-on t a b c p q x (Ok u) e wrong s = absurd wrong
Sends-on t a b c p q x (Err z) e is s = subst (λ (w : WriteStop). Stopped t a b c p x w.taken) (sym is) s

-- an answer of the second of two pieces, of which the first was none
pub Sends-behind : (t : Tells) (a b d : Shown) (c : ℕ) (p q r : Waiting) (x y text : List ℕ)
    (k : Result Unit WriteStop) → x ++ y ≡ text → Sent t a b c p q x → Sends t b d c q r y k
    → Sends t a d c p r text k
Sends-behind t a b d c p q r x y text (Ok u) is one two =
    subst (λ (w : List ℕ). Sent t a d c p r w) is (Sent-then t a b d c p q r x y one two)
Sends-behind t a b d c p q r x y text (Err e) is one two =
    subst (λ (w : List ℕ). Stopped t a d c p w e.taken) is (Stopped-then t a b d c p q x y e.taken one two)

pub pieces-join : PiecesJoin
pieces-join = record {
  none = λ t s c p. Sent-waiting t s c p p [] (append-nil p.bytes) refl;
  joined = Sent-then;
  stopped_later = Stopped-then;
  stopped_within = Stopped-more;
}

pub all_gone : (t : Tells) (a b : Shown) (c : ℕ) (x : List ℕ) (n : ℕ)
    (s : Sent t a b c (nothing_waits 0) (nothing_waits n) x)
    → s.gone ≡ x
all_gone t a b c x n s = sym (append-nil s.gone) ∙ sym s.joined

pub texts-are-whole : TextsAreWhole
texts-are-whole = record {
  appended =
      λ t a b c x n s. subst (λ (z : List ℕ). Appended t a b c z (length z)) (all_gone t a b c x n s) s.appended;
  told = λ t a b c x n s. s.taken ∙ ap (λ (z : List ℕ). counted_on 0 (length z)) (all_gone t a b c x n s);
  stopped = λ t a b c x n s. (s.count, s.short, s.told, s.appended);
}
