-- What takes bytes takes texts.
use Rattle.std.proofs.Common.{◌≡◌, ℕ, ◌<◌, ◌≤◌, arith, List, [], ◌++◌, length, Option, Some, None, Ok, Err, refl, sym, ap, subst}
use Rattle.std.proofs.Common.{◌∙◌, append_assoc, true≢false}
use Rattle.std.proofs.lemmas.List.{append-nil}
use Rattle.std.specs.Prelude.{Bool, false, IsTrue}
use Rattle.brep_desk.specs.Causes.{Rose}
use Rattle.brep_desk.specs.Shown.{Shown, Tells}
use Rattle.brep_desk.specs.declared.transfers.WriteStop.{WriteStop}
use Rattle.byte_sink.specs.Sending.{Waiting, nothing_waits, Sent, Stopped}
use Rattle.byte_sink.specs.Handing.{TextsJoin, GivesText, Standing, standing, Begins, GoesOn, StopsAt, HandedBy}
use Rattle.byte_sink.specs.Handing.{Handed, GivesSink}
use Rattle.byte_sink.specs.Laws.{WentOut, TextsGoOut}
use Rattle.byte_sink.specs.declared.text.TextBytes.{TextBytes}
use Rattle.byte_sink.specs.SendingLaws.{Sent-waiting, Sent-then, Stopped-then, Stopped-more, all_gone}
use Rattle.byte_sink.specs.SendingLaws.{texts-are-whole}

pub text_joins : TextsJoin GivesText
text_joins = record {
  none = λ a. record { enough = λ e. e; bytes = λ _. sym (append-nil a.bytes.items) };
  joined = λ a b d x y one two. record {
    enough = λ e. one.enough (two.enough e);
    bytes = λ e. two.bytes e ∙ ap (λ z. z ++ y) (one.bytes (two.enough e)) ∙ append_assoc a.bytes.items x y;
  };
}

-- a text that is short isn't one for which memory was enough
short_is_short : (b : Bool) → IsTrue b → b ≡ false → ⊥
short_is_short b short enough = true≢false (sym short ∙ enough)

pub Gives-short : (a b : TextBytes) (x : List ℕ) → IsTrue b.short → GivesText a x b
Gives-short a b x short = record {
  enough = λ e. absurd (short_is_short b.short short e);
  bytes = λ e. absurd (short_is_short b.short short e);
}

goes_on_then : (t : Tells) (a b d : Standing) (x y : List ℕ) → b.channel ≡ a.channel → GoesOn t a b x
    → GoesOn t b d y → GoesOn t a d (x ++ y)
goes_on_then t a b d x y same one two = record {
  faults = two.faults ∙ one.faults;
  sent =
      Sent-then t a.shown b.shown d.shown a.channel a.waiting b.waiting d.waiting x y one.sent
      (subst (λ (c : ℕ). Sent t b.shown d.shown c b.waiting d.waiting y) same two.sent);
}

stops_then : (t : Tells) (a b d : Standing) (x y : List ℕ) (e : WriteStop) → b.channel ≡ a.channel → GoesOn t a b x
    → StopsAt t b d y e → StopsAt t a d (x ++ y) e
stops_then t a b d x y e same one two = record {
  later = subst (λ (n : ℕ). n ≤ d.faults) one.faults two.later;
  faults = subst (λ (n : ℕ). Rose n d.faults) one.faults two.faults;
  stopped =
      Stopped-then t a.shown b.shown d.shown a.channel a.waiting b.waiting x y e.taken one.sent
      (subst (λ (c : ℕ). Stopped t b.shown d.shown c b.waiting y e.taken) same two.stopped);
}

stops_more : (t : Tells) (a b : Standing) (x y : List ℕ) (e : WriteStop) → StopsAt t a b x e
    → StopsAt t a b (x ++ y) e
stops_more t a b x y e s = record {
  later = s.later;
  faults = s.faults;
  stopped = Stopped-more t a.shown b.shown a.channel a.waiting x y e.taken s.stopped;
}

stops_as : (t : Tells) (a b d : Standing) (x : List ℕ) (e f : WriteStop) → d ≡ b → f ≡ e → StopsAt t a b x e
    → StopsAt t a d x f
stops_as t a b d x e f same is s =
    subst (λ (z : Standing). StopsAt t a z x f) (sym same) (subst (λ (k : WriteStop). StopsAt t a b x k) (sym is) s)

handed_then : (t : Tells) (a b d : Standing) (x y : List ℕ) (p q r : Option WriteStop) → b.channel ≡ a.channel
    → HandedBy t a b x p q → HandedBy t b d y q r → HandedBy t a d (x ++ y) p r
handed_then t a b d x y None None None same one two = goes_on_then t a b d x y same one two
handed_then t a b d x y None None (Some f) same one two = stops_then t a b d x y f same one two
handed_then t a b d x y None (Some e) None same one two = absurd two
handed_then t a b d x y None (Some e) (Some f) same one two =
    stops_as t a b d (x ++ y) e f two.0 two.1 (stops_more t a b x y e one)
handed_then t a b d x y (Some s) None r same one two = absurd one
handed_then t a b d x y (Some s) (Some e) None same one two = absurd two
handed_then t a b d x y (Some s) (Some e) (Some f) same one two = (two.0 ∙ one.0, two.1 ∙ one.1)

none_by : (t : Tells) (a : Standing) (p : Option WriteStop) → HandedBy t a a [] p p
none_by t a None = record {
  faults = refl;
  sent = Sent-waiting t a.shown a.channel a.waiting a.waiting [] (append-nil a.waiting.bytes) refl;
}
none_by t a (Some s) = (refl, refl)

pub Handed-then : (t : Tells) (a b d : Standing) (x y : List ℕ) → Handed t a b x → Handed t b d y
    → Handed t a d (x ++ y)
Handed-then t a b d x y one two = record {
  desk = two.desk ∙ one.desk;
  channel = two.channel ∙ one.channel;
  handed = handed_then t a b d x y a.stop b.stop d.stop one.channel one.handed two.handed;
}

pub sink_joins : {D : Type 0} (t : Tells) (shows : D → Shown) (faults : D → ℕ) → TextsJoin (GivesSink t shows faults)
sink_joins t shows faults = record {
  none =
      λ a. record { desk = refl; channel = refl; handed = none_by t (standing shows faults a) a.stop };
  joined =
      λ a b d x y one two. Handed-then t (standing shows faults a) (standing shows faults b) (standing shows faults d)
      x y one two;
}

-- by why it had stopped, and has stopped
handed_as : (t : Tells) (a b : Standing) (x : List ℕ) (p q : Option WriteStop) → a.stop ≡ p → b.stop ≡ q
    → b.desk ≡ a.desk → b.channel ≡ a.channel → HandedBy t a b x p q → Handed t a b x
handed_as t a b x p q was is desk channel h = record {
  desk = desk;
  channel = channel;
  handed =
      subst (λ (v : Option WriteStop). HandedBy t a b x v b.stop) (sym was)
      (subst (λ (v : Option WriteStop). HandedBy t a b x p v) (sym is) h);
}

pub Handed-on : (t : Tells) (a b : Standing) (x : List ℕ) → a.stop ≡ None → b.stop ≡ None → b.desk ≡ a.desk
    → b.channel ≡ a.channel → GoesOn t a b x → Handed t a b x
Handed-on t a b x was is desk channel h = handed_as t a b x None None was is desk channel h

pub Handed-stop : (t : Tells) (a b : Standing) (x : List ℕ) (e : WriteStop) → a.stop ≡ None → b.stop ≡ Some e
    → b.desk ≡ a.desk → b.channel ≡ a.channel → StopsAt t a b x e → Handed t a b x
Handed-stop t a b x e was is desk channel h = handed_as t a b x None (Some e) was is desk channel h

-- one that has stopped takes no more
pub stopped_takes_no_more : (t : Tells) (a : Standing) (x : List ℕ) (e : WriteStop) → a.stop ≡ Some e
    → Handed t a a x
stopped_takes_no_more t a x e is = handed_as t a a x (Some e) (Some e) is is refl refl (refl, refl)

pub nothing_waits_in : (w : Waiting) (taken : ℕ) → w.bytes ≡ [] → taken ≡ w.taken → w ≡ nothing_waits taken
nothing_waits_in w taken none is =
    ap (λ (z : List ℕ). record { bytes = z; taken = w.taken }) none ∙ ap nothing_waits (sym is)

-- ---- a text from its beginning to its end

sent_over : (t : Tells) (a d : Standing) (old : Shown) (faults c : ℕ) (w : Waiting) (z text : List ℕ)
    → Begins old faults c a → d.waiting ≡ w → z ≡ text
    → Sent t a.shown d.shown a.channel a.waiting d.waiting z → Sent t old d.shown c (nothing_waits 0) w text
sent_over t a d old faults c w z text begins waits is s =
    subst (λ (v : Shown). Sent t v d.shown c (nothing_waits 0) w text) begins.shown
    (subst (λ (k : ℕ). Sent t a.shown d.shown k (nothing_waits 0) w text) begins.channel
    (subst (λ (v : Waiting). Sent t a.shown d.shown a.channel v w text) begins.waiting
    (subst (λ (v : Waiting). Sent t a.shown d.shown a.channel a.waiting v text) waits
    (subst (λ (v : List ℕ). Sent t a.shown d.shown a.channel a.waiting d.waiting v) is s))))

stopped_over : (t : Tells) (a d : Standing) (old : Shown) (faults c taken : ℕ) (z text : List ℕ)
    → Begins old faults c a → z ≡ text
    → Stopped t a.shown d.shown a.channel a.waiting z taken → Stopped t old d.shown c (nothing_waits 0) text taken
stopped_over t a d old faults c taken z text begins is s =
    subst (λ (v : Shown). Stopped t v d.shown c (nothing_waits 0) text taken) begins.shown
    (subst (λ (k : ℕ). Stopped t a.shown d.shown k (nothing_waits 0) text taken) begins.channel
    (subst (λ (v : Waiting). Stopped t a.shown d.shown a.channel v text taken) begins.waiting
    (subst (λ (v : List ℕ). Stopped t a.shown d.shown a.channel a.waiting v taken) is s)))

went_whole : (t : Tells) (old : Shown) (faults c : ℕ) (text : List ℕ) (d : Standing) (n : ℕ) → d.faults ≡ faults
    → Sent t old d.shown c (nothing_waits 0) (nothing_waits n) text → WentOut t old faults c text d (Ok n)
went_whole t old faults c text d n same s = record {
  later = omega (arith, same);
  cause = tt;
  no_fault = same;
  whole = texts-are-whole.appended t old d.shown c text n s;
  told = texts-are-whole.told t old d.shown c text n s;
  part = tt;
  strays = s.strays;
  no_fewer_calls = s.writing_calls;
  calls =
      λ some. s.calls (subst (λ (z : List ℕ). 0 < length z) (sym (all_gone t old d.shown c text n s)) some);
}

went_in_part : (t : Tells) (old : Shown) (faults c : ℕ) (text : List ℕ) (d : Standing) (stop : WriteStop)
    → faults ≤ d.faults → Rose faults d.faults → Stopped t old d.shown c (nothing_waits 0) text stop.taken
    → WentOut t old faults c text d (Err stop)
went_in_part t old faults c text d stop later rose s = record {
  later = later;
  cause = rose;
  no_fault = tt;
  whole = tt;
  told = tt;
  part = texts-are-whole.stopped t old d.shown c text stop.taken s;
  strays = s.strays;
  no_fewer_calls = tt;
  calls = λ _. s.calls;
}

-- by whether it had stopped, over the whole text
by_stops : (t : Tells) (a d : Standing) (z : List ℕ) (p q : Option WriteStop) → a.stop ≡ p → d.stop ≡ q
    → Handed t a d z → HandedBy t a d z p q
by_stops t a d z p q was is h =
    subst (λ (v : Option WriteStop). HandedBy t a d z p v) is
    (subst (λ (v : Option WriteStop). HandedBy t a d z v d.stop) was h.handed)

pub texts-go-out : TextsGoOut
texts-go-out t old faults c a b d text (Ok n) begins given ends =
    let all : Handed t a d (text ++ []) = Handed-then t a b d text [] given ends.handed in
    let on : GoesOn t a d (text ++ []) = by_stops t a d (text ++ []) None None begins.stop ends.taken.0 all in
    went_whole t old faults c text d n (on.faults ∙ begins.faults)
    (sent_over t a d old faults c (nothing_waits n) (text ++ []) text begins ends.taken.1 (append-nil text) on.sent)
texts-go-out t old faults c a b d text (Err stop) begins given ends =
    let all : Handed t a d (text ++ []) = Handed-then t a b d text [] given ends.handed in
    let at : StopsAt t a d (text ++ []) stop =
    by_stops t a d (text ++ []) None (Some stop) begins.stop ends.stopped all in
    went_in_part t old faults c text d stop
    (subst (λ (n : ℕ). n ≤ d.faults) begins.faults at.later)
    (subst (λ (n : ℕ). Rose n d.faults) begins.faults at.faults)
    (stopped_over t a d old faults c stop.taken (text ++ []) text begins (append-nil text) at.stopped)
