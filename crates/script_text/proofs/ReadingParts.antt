-- The parts of a line are read as they are spelled.
use Rattle.std.proofs.Common.{◌≡◌, ℕ, ◌^◌, ◌<◌, inl, inr, Bool, true, false, ◌==◌, if◌then◌else◌, List, [], ◌∷◌, ◌++◌}
use Rattle.std.proofs.Common.{map, Option, Some, None, refl, sym, ap, subst, ◌∙◌, append_assoc, arith}
use Rattle.std.specs.Bool.{Decides}
use Rattle.std.specs.Cmp.{unsigned_Decides}
use Rattle.std.specs.Fmt.{decimal}
use Rattle.std.specs.List.{AllByRecursion}
use Rattle.std.specs.Option.{option_and_then}
use Rattle.std.proofs.lemmas.Bool.Decides.{eqb_tells, nat_tests}
use Rattle.std.proofs.lemmas.List.{append-nil}
use Rattle.std.proofs.lemmas.Slice.Eq.{slice_eq-Decides}
use Rattle.brep_tokens.specs.Forms.{number_of}
use Rattle.brep_tokens.specs.Laws.{FormsAreExact}
use Rattle.orientation.specs.Kinds.{kind_of_letters, kind_of_name, name_of}
use Rattle.orientation.specs.Turns.{sign_of, turn_of}
use Rattle.orientation.specs.declared.kind.Kind.{Kind}
use Rattle.orientation.specs.declared.kind.Kind.TheVariants.{Ve, Ed, Wi, Fa, Sh, So, CS, Co}
use Rattle.orientation.specs.declared.turn.Turn.{Turn}
use Rattle.orientation.specs.declared.turn.Turn.TheVariants.{Forward, Reversed, Internal, External}
use Rattle.script_text.specs.Reading.{after_word, alone, before, given, kind_in, mention_in, mention_of}
use Rattle.script_text.specs.Reading.{mentions_from}
use Rattle.script_text.specs.Reading.{number_after, number_in, signed_mention, with_sign}
use Rattle.script_text.specs.Spelling.{IsShort, IsShortMention, MayBeShort, spell_mention, spell_number}
use Rattle.script_text.specs.Words.{is_word}
use Rattle.script_text.specs.declared.phrase.Mention.{Mention}
use Rattle.script_text.specs.declared.phrase.Phrase.{Phrase}

pub none_some : {A : Type 0} (o : Option A) (x : A) → o ≡ None → o ≡ Some x → ⊥
none_some (Some y) x e f = cc
none_some None x e f = cc

pub some_is : {A : Type 0} (x y : A) → Some x ≡ Some y → x ≡ y
some_is x y e = cc

pub bound : {A B : Type 0} (f : A → Option B) (o : Option A) (y : B) → option_and_then f o ≡ Some y
    → (x : A) × (o ≡ Some x) × (f x ≡ Some y)
bound f None y e = absurd (none_some None y refl e)
bound f (Some x) y e = (x, refl, e)

pub word_is : (a b : List ℕ) → Decides (is_word a b) (a ≡ b)
word_is a b = slice_eq-Decides unsigned_Decides a b (is_word a b) refl

after_word_if : (x : Bool) (word w : List ℕ) (ws rest : List (List ℕ)) → is_word w word ≡ x
    → (if x then Some ws else None) ≡ Some rest → w ∷ ws ≡ word ∷ rest
after_word_if true word w ws rest is e = ap (λ (z : List ℕ). z ∷ ws) ((word_is w word).0 is)
    ∙ ap (λ (z : List (List ℕ)). word ∷ z) (some_is ws rest e)
after_word_if false word w ws rest is e = absurd (none_some None rest refl e)

pub after_word_there : (word : List ℕ) (ws rest : List (List ℕ)) → after_word word ws ≡ Some rest → ws ≡ word ∷ rest
after_word_there word [] rest e = absurd (none_some None rest refl e)
after_word_there word (w ∷ ws) rest e = after_word_if (is_word w word) word w ws rest refl e

pub alone_there : (p q : Phrase) (ws : List (List ℕ)) → alone p ws ≡ Some q → (ws ≡ []) × (p ≡ q)
alone_there p q [] e = (refl, some_is p q e)
alone_there p q (w ∷ ws) e = absurd (none_some None q refl e)

letters_there : (a b : ℕ) (k : Kind) → kind_of_letters a b ≡ Some k → a ∷ b ∷ [] ≡ name_of k
letters_there a b Ve e = grind (arith, nat_tests)
letters_there a b Ed e = grind (arith, nat_tests)
letters_there a b Wi e = grind (arith, nat_tests)
letters_there a b Fa e = grind (arith, nat_tests)
letters_there a b Sh e = grind (arith, nat_tests)
letters_there a b So e = grind (arith, nat_tests)
letters_there a b CS e = grind (arith, nat_tests)
letters_there a b Co e = grind (arith, nat_tests)

kind_there : (w : List ℕ) (k : Kind) → kind_of_name w ≡ Some k → w ≡ name_of k
kind_there [] k e = absurd (none_some None k refl e)
kind_there (a ∷ []) k e = absurd (none_some None k refl e)
kind_there (a ∷ b ∷ []) k e = letters_there a b k e
kind_there (a ∷ b ∷ c ∷ rest) k e = absurd (none_some None k refl e)

kind_back : (k : Kind) → kind_of_name (name_of k) ≡ Some k
kind_back Ve = refl
kind_back Ed = refl
kind_back Wi = refl
kind_back Fa = refl
kind_back Sh = refl
kind_back So = refl
kind_back CS = refl
kind_back Co = refl

before_some : {A : Type 0} (ws : List (List ℕ)) (o : Option A) (r : A × List (List ℕ)) → before ws o ≡ Some r
    → (o ≡ Some r.0) × (ws ≡ r.1)
before_some ws None r e = absurd (none_some None r refl e)
before_some ws (Some x) r e = let p = some_is (x, ws) r e in
    (ap (λ (q : _ × List (List ℕ)). Some q.0) p, ap (λ (q : _ × List (List ℕ)). q.1) p)

pub kind_in_there : (ws : List (List ℕ)) (r : Kind × List (List ℕ)) → kind_in ws ≡ Some r → ws ≡ name_of r.0 ∷ r.1
kind_in_there [] r e = absurd (none_some None r refl e)
kind_in_there (w ∷ ws) r e =
    let s = before_some ws (kind_of_name w) r e in
    ap (λ (z : List ℕ). z ∷ ws) (kind_there w r.0 s.0) ∙ ap (λ (z : List (List ℕ)). name_of r.0 ∷ z) s.1

pub kind_in_back : (k : Kind) (rest : List (List ℕ)) → kind_in (name_of k ∷ rest) ≡ Some (k, rest)
kind_in_back k rest = ap (before rest) (kind_back k)

pub record AreMentions (ms : List Mention) (ws : List (List ℕ)) (ns : List Mention) : Type 0 where
  pub some : List Mention
  pub joined : ns ≡ ms ++ some
  pub spelled : ws ≡ map spell_mention some
  pub short : AllByRecursion IsShortMention some

module _ (forms : FormsAreExact) where
  number_there : (text : List ℕ) (n : ℕ) → number_of text ≡ Some n → (text ≡ decimal n) × IsShort n
  number_there text n e = let is = (forms.numbers text n).0 e in (is.spelled, is.small)

  pub number_back : (n : ℕ) → IsShort n → number_of (decimal n) ≡ Some n
  number_back n short = (forms.numbers (decimal n) n).1 (record { spelled = refl; small = short })

  -- ---- one word

  sign_there : (b : ℕ) (t : Turn) → turn_of b ≡ Some t → b ≡ sign_of t
  sign_there b Forward e = grind (arith, nat_tests)
  sign_there b Reversed e = grind (arith, nat_tests)
  sign_there b Internal e = grind (arith, nat_tests)
  sign_there b External e = grind (arith, nat_tests)

  signed_some : (s : Option Turn) (o : Option ℕ) (m : Mention) → with_sign s o ≡ Some m
      → (n : ℕ) × (o ≡ Some n) × (record { sign = s; number = n } ≡ m)
  signed_some s None m e = absurd (none_some None m refl e)
  signed_some s (Some n) m e = (n, refl, some_is (record { sign = s; number = n }) m e)

  mention_if : (t : Option Turn) (b : ℕ) (bs : List ℕ) (m : Mention) → turn_of b ≡ t
      → signed_mention t (b ∷ bs) bs ≡ Some m → (b ∷ bs ≡ spell_mention m) × IsShortMention m
  mention_if None b bs m sign e =
      let s = signed_some None (number_of (b ∷ bs)) m e in
      let is = number_there (b ∷ bs) s.0 s.1 in
      subst (λ (k : Mention). (b ∷ bs ≡ spell_mention k) × IsShortMention k) s.2 (is.0, is.1)
  mention_if (Some t) b bs m sign e =
      let s = signed_some (Some t) (number_of bs) m e in
      let is = number_there bs s.0 s.1 in
      subst (λ (k : Mention). (b ∷ bs ≡ spell_mention k) × IsShortMention k) s.2
      (ap (λ (x : ℕ). x ∷ bs) (sign_there b t sign) ∙ ap (λ (z : List ℕ). sign_of t ∷ z) is.0, is.1)

  pub mention_there : (w : List ℕ) (m : Mention) → mention_of w ≡ Some m → (w ≡ spell_mention m) × IsShortMention m
  mention_there [] m e = absurd (none_some None m refl e)
  mention_there (b ∷ bs) m e = mention_if (turn_of b) b bs m refl e

  no_sign : (b s : ℕ) (bs : List ℕ) (n : ℕ) → ((cs : List ℕ) → number_of (s ∷ cs) ≡ None) → number_of (b ∷ bs) ≡ Some n
      → (b == s) ≡ false
  no_sign b s bs n none e =
      elim (eqb_tells b s) [
        | inl is ↦ absurd (none_some (number_of (s ∷ bs)) n (none bs)
            (subst (λ (c : ℕ). number_of (c ∷ bs) ≡ Some n) is.1 e))
        | inr other ↦ other.0
      ]

  plus_none : (cs : List ℕ) → number_of (43 ∷ cs) ≡ None
  plus_none cs = grind (arith, nat_tests)

  minus_none : (cs : List ℕ) → number_of (45 ∷ cs) ≡ None
  minus_none cs = grind (arith, nat_tests)

  internal_none : (cs : List ℕ) → number_of (105 ∷ cs) ≡ None
  internal_none cs = grind (arith, nat_tests)

  external_none : (cs : List ℕ) → number_of (101 ∷ cs) ≡ None
  external_none cs = grind (arith, nat_tests)

  bare_back : (text : List ℕ) (n : ℕ) → number_of text ≡ Some n
      → mention_of text ≡ Some (record { sign = None; number = n })
  bare_back [] n e = absurd (none_some None n refl e)
  bare_back (b ∷ bs) n e =
      rw (
        no_sign b 43 bs n plus_none e,
        no_sign b 45 bs n minus_none e,
        no_sign b 105 bs n internal_none e,
        no_sign b 101 bs n external_none e,
        e,
      ) refl

  turn_back : (t : Turn) → turn_of (sign_of t) ≡ Some t
  turn_back Forward = refl
  turn_back Reversed = refl
  turn_back Internal = refl
  turn_back External = refl

  mention_by : (s : Option Turn) (n : ℕ) → n < 10 ^ 18
      → mention_of (spell_mention (record { sign = s; number = n })) ≡ Some (record { sign = s; number = n })
  mention_by None n short = bare_back (decimal n) n (number_back n short)
  mention_by (Some t) n short = rw (turn_back t, number_back n short) refl

  pub mention_back : (m : Mention) → IsShortMention m → mention_of (spell_mention m) ≡ Some m
  mention_back m short = mention_by m.sign m.number short

  -- ---- some words, and those that follow

  pub mention_in_there : (ws : List (List ℕ)) (r : Mention × List (List ℕ)) → mention_in ws ≡ Some r
      → (ws ≡ spell_mention r.0 ∷ r.1) × IsShortMention r.0
  mention_in_there [] r e = absurd (none_some None r refl e)
  mention_in_there (w ∷ ws) r e =
      let s = before_some ws (mention_of w) r e in
      let is = mention_there w r.0 s.0 in
      (ap (λ (z : List ℕ). z ∷ ws) is.0 ∙ ap (λ (z : List (List ℕ)). spell_mention r.0 ∷ z) s.1, is.1)

  pub mention_in_back : (m : Mention) (rest : List (List ℕ)) → IsShortMention m
      → mention_in (spell_mention m ∷ rest) ≡ Some (m, rest)
  mention_in_back m rest short = ap (before rest) (mention_back m short)

  given_some : (o : Option ℕ) (r : Option ℕ) → given o ≡ Some r → (n : ℕ) × (o ≡ Some n) × (Some n ≡ r)
  given_some None r e = absurd (none_some None r refl e)
  given_some (Some n) r e = (n, refl, some_is (Some n) r e)

  number_in_there : (word : List ℕ) (ws : List (List ℕ)) (r : Option ℕ × List (List ℕ)) → number_in ws ≡ Some r
      → (word ∷ ws ≡ spell_number word r.0 ++ r.1) × MayBeShort r.0
  number_in_there word [] r e = absurd (none_some None r refl e)
  number_in_there word (w ∷ ws) r e =
      let s = before_some ws (given (number_of w)) r e in
      let g = given_some (number_of w) r.0 s.0 in
      let is = number_there w g.0 g.1 in
      subst (λ (o : Option ℕ). (word ∷ w ∷ ws ≡ spell_number word o ++ r.1) × MayBeShort o) g.2
      (ap (λ (z : List ℕ). word ∷ z ∷ ws) is.0 ∙ ap (λ (z : List (List ℕ)). word ∷ decimal g.0 ∷ z) s.1, is.1)

  number_after_if : (x : Bool) (word w : List ℕ) (ws : List (List ℕ)) (r : Option ℕ × List (List ℕ))
      → is_word w word ≡ x → (if x then number_in ws else Some (None, w ∷ ws)) ≡ Some r
      → (w ∷ ws ≡ spell_number word r.0 ++ r.1) × MayBeShort r.0
  number_after_if true word w ws r is e =
      let there = number_in_there word ws r e in
      (ap (λ (z : List ℕ). z ∷ ws) ((word_is w word).0 is) ∙ there.0, there.1)
  number_after_if false word w ws r is e =
      subst (λ (q : Option ℕ × List (List ℕ)). (w ∷ ws ≡ spell_number word q.0 ++ q.1) × MayBeShort q.0)
      (some_is (None, w ∷ ws) r e) (refl, tt)

  pub number_after_there : (word : List ℕ) (ws : List (List ℕ)) (r : Option ℕ × List (List ℕ))
      → number_after word ws ≡ Some r → (ws ≡ spell_number word r.0 ++ r.1) × MayBeShort r.0
  number_after_there word [] r e =
      subst (λ (q : Option ℕ × List (List ℕ)). ([] ≡ spell_number word q.0 ++ q.1) × MayBeShort q.0)
      (some_is (None, []) r e) (refl, tt)
  number_after_there word (w ∷ ws) r e = number_after_if (is_word w word) word w ws r refl e

  pub number_after_back : (word : List ℕ) (o : Option ℕ) (rest : List (List ℕ))
      → number_after word rest ≡ Some (None, rest) → MayBeShort o
      → number_after word (spell_number word o ++ rest) ≡ Some (o, rest)
  number_after_back word None rest other short = other
  number_after_back word (Some n) rest other short = rw ((word_is word word).1 refl, number_back n short) refl

  -- ---- all words

  pub mentions_there : (ms : List Mention) (ws : List (List ℕ)) (ns : List Mention) → mentions_from ms ws ≡ Some ns
      → AreMentions ms ws ns
  mentions_there ms [] ns e = record {
    some = [];
    joined = sym (some_is ms ns e) ∙ sym (append-nil ms);
    spelled =
        refl;
    short = tt;
  }
  mentions_there ms (w ∷ ws) ns e =
      let b = bound (λ m. mentions_from (ms ++ m ∷ []) ws) (mention_of w) ns e in
      let is = mention_there w b.0 b.1 in
      let rest = mentions_there (ms ++ b.0 ∷ []) ws ns b.2 in
      record {
        some = b.0 ∷ rest.some;
        joined = rest.joined ∙ append_assoc ms (b.0 ∷ []) rest.some;
        spelled = ap (λ (z : List ℕ). z ∷ ws) is.0 ∙ ap (λ (z : List (List ℕ)). spell_mention b.0 ∷ z) rest.spelled;
        short = (is.1, rest.short);
      }

  pub mentions_back : (ms ks : List Mention) → AllByRecursion IsShortMention ks
      → mentions_from ms (map spell_mention ks) ≡ Some (ms ++ ks)
  mentions_back ms [] short = ap (λ (z : List Mention). Some z) (sym (append-nil ms))
  mentions_back ms (k ∷ ks) short =
      let rest = mentions_back (ms ++ k ∷ []) ks short.1 in
      rw (mention_back k short.0) (rest ∙ ap (λ (z : List Mention). Some z) (append_assoc ms (k ∷ []) ks))
