-- Pieces that are written one after another are one text.
use Rattle.std.proofs.Common.{◌≡◌, ℕ, ◌+◌, ◌≤◌, ◌<◌, List, [], ◌++◌, length, take, drop, Option}
use Rattle.std.proofs.Common.{Some, unwrap_or, refl, sym, ap, subst, ◌∙◌, append_assoc, arith}
use Rattle.std.proofs.lemmas.List.{append-nil, length-append, length-take, length-drop}
use Rattle.std.proofs.lemmas.List.{take-take, drop-take, take-append-drop}
use Rattle.brep_desk.specs.Shown.{ChannelState, writing, Shown, Tells, ChangesOnly, Same}
use Rattle.brep_desk.specs.Calls.{Writes}
use Rattle.brep_desk.specs.Transfers.{Appended, TakesAtMost}

unchanged : {K A : Type 0} (f : K → A) (place : K) → ChangesOnly f f place (f place)
unchanged f place = record { here = refl; others = λ k _. refl }

pub Appended-none : (t : Tells) (s : Shown) (c : ℕ) (text : List ℕ) → Appended t s s c text 0
Appended-none t s c text = record {
  held = refl;
  left = refl;
  ended = refl;
  opened = refl;
  fits = omega arith;
  is_open = λ _ some. absurd (omega arith);
  written =
      λ _ name before is_open was. subst (λ v. ChangesOnly s.written s.written name v)
      (was ∙ ap Some (sym (append-nil before))) (unchanged s.written name);
  nothing = λ _. refl;
}

take-add : (n m : ℕ) (text : List ℕ) → take n text ++ take m (drop n text) ≡ take (n + m) text
take-add n m text =
    let front : take n (take (n + m) text) ≡ take n text = take-take n (n + m) text (omega arith) in
    let back : drop n (take (n + m) text) ≡ take m (drop n text) = drop-take n m text in
    rw (← front, ← back) (take-append-drop n (take (n + m) text))

same_channel : (a b : Shown) (c : ℕ) (u : ChannelState) → b.opened ≡ a.opened → a.opened c ≡ u → b.opened c ≡ u
same_channel a b c u same is = ap (λ (f : ℕ → ChannelState). f c) same ∙ is

pub Appended-then : (t : Tells) (a b d : Shown) (c : ℕ) (text : List ℕ) (n m : ℕ) → n < length text
    → Appended t a b c text n → Writes t b d c (drop n text) m → Appended t a d c text (n + m)
Appended-then t a b d c text n m more p q = record {
  held = q.held ∙ p.held;
  left = q.left ∙ p.left;
  ended = q.ended ∙ p.ended;
  opened = q.opened ∙ p.opened;
  fits = omega (arith, q.fits, p.fits, length-drop n text);
  is_open = λ told some. let o = q.is_open told in (o.0, same_channel b a c (writing o.0) (sym p.opened) o.1);
  written = λ told name before is_open was.
      let one = p.written told name before is_open was in
      let two = q.written told name (same_channel a b c (writing name) p.opened is_open) in
      let joined : unwrap_or (b.written name) [] ≡ before ++ take n text = ap (λ v. unwrap_or v []) one.here in
      record {
        here =
            two.here ∙ ap Some (ap (λ x. x ++ take m (drop n text)) joined
            ∙ append_assoc before (take n text) (take m (drop n text)) ∙ ap (λ x. before ++ x) (take-add n m text));
        others = λ k other. two.others k other ∙ one.others k other;
      };
  nothing = λ none. absurd (omega (arith, q.some (omega (arith, length-drop n text))));
}

pub Appended-kept : (t : Tells) (a b d : Shown) (c : ℕ) (text : List ℕ) (n : ℕ) → Appended t a b c text n → Same b d
    → Appended t a d c text n
Appended-kept t a b d c text n p q = record {
  held = q.held ∙ p.held;
  left = q.left ∙ p.left;
  ended = q.ended ∙ p.ended;
  opened = q.opened ∙ p.opened;
  fits = p.fits;
  is_open = p.is_open;
  written =
      λ told name before is_open was. subst (λ (w : List ℕ → Option (List ℕ)). ChangesOnly a.written w name
      (Some (before ++ take n text))) (sym q.written) (p.written told name before is_open was);
  nothing = λ none. q.written ∙ p.nothing none;
}

pub Appended-whole : (t : Tells) (a b : Shown) (c : ℕ) (text : List ℕ) (n : ℕ) → length text ≤ n
    → Appended t a b c text n → Appended t a b c text (length text)
Appended-whole t a b c text n over p =
    let same : n ≡ length text = omega (arith, p.fits) in
    subst (λ (k : ℕ). Appended t a b c text k) same p

pub TakesAtMost-piece : (most : ℕ) (before got rest new : List ℕ) (n : ℕ) → before ≡ got ++ rest → new ≡ drop n rest
    → length got + n ≤ most → TakesAtMost most before new
TakesAtMost-piece most before got rest new n was is few =
    let whole : got ++ rest ≡ got ++ take n rest ++ drop n rest =
    ap (λ (x : List ℕ). got ++ x) (sym (take-append-drop n rest))
    ∙ sym (append_assoc got (take n rest) (drop n rest)) in (
      got ++ take n rest,
      was ∙ whole
          ∙ ap (λ (x : List ℕ). got ++ take n rest ++ x) (sym is),
      omega (arith, length-append got (take n rest), length-take n rest),
    )
