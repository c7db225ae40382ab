-- Uses of records are read exactly as they are spelled.
use Rattle.std.proofs.Common.{◌≡◌, ℕ, suc, max, ◌+◌, ◌-◌, ◌<◌, ◌≤◌, ◌^◌, ◌&&◌, nat_le, nat_lt, ◌⊎◌, inl, inr, Bool}
use Rattle.std.proofs.Common.{true, false, if◌then◌else◌, List, [], ◌∷◌, ◌++◌, length, Option, Some, None, Result, Ok}
use Rattle.std.proofs.Common.{Err, refl, sym, ap, subst, ◌∙◌, append_assoc, append-nil, arith}
use Rattle.std.specs.Prelude.{codes, slice_get}
use Rattle.std.specs.List.{flat_map, AllByRecursion}
use Rattle.std.specs.Option.{option_map, option_map_or}
use Rattle.std.specs.Fmt.{decimal}
use Rattle.std.proofs.lemmas.Bool.{ltb-true, lt-ltb, le-leb, leb-true, eqb-true}
use Rattle.std.proofs.lemmas.List.{length-append}
use Rattle.std.proofs.lemmas.Slice.Eq.{bytes_eq-Decides}
use Rattle.brep_tokens.specs.Bytes.{is_sign}
use Rattle.brep_tokens.specs.Forms.{use_sign_of}
use Rattle.brep_tokens.specs.Laws.{FormsAreExact}
use Rattle.brep_tokens.specs.declared.text.Token.{Token}
use Rattle.brep_tokens.specs.declared.fault.ReadCode.TheVariants as faults
use Rattle.lists.specs.Results.{◌>>=◌}
use Rattle.entry_readers.specs.Reading.{Refusal, more, fault, at_token, ranged_at}
use Rattle.entry_readers.specs.Begins.{Begins, FieldsAreExact}
use Rattle.lists.proofs.Results.{bind_ok, guard_ok, ok_is}
use Rattle.orientation.specs.declared.turn.Turn.{Turn}
use Rattle.orientation.specs.declared.turn.Turn.TheVariants.{Forward, Reversed, Internal, External}
use Rattle.orientation.specs.declared.kind.Kind.{Kind}
use Rattle.orientation.specs.Turns.{sign_of, turn_of}
use Rattle.orientation.specs.Kinds.{is_below, rank_of}
use Rattle.orientation.specs.Laws.{SignsAndNamesTell}
use Rattle.brep_file.specs.declared.uses.FileUse.{FileUse}
use Rattle.brep_file.specs.declared.reader.state.Named.{Named}
use Rattle.brep_file.specs.Seen.{Seen}
use Rattle.brep_file.specs.Spelling.{spell_use}
use Rattle.brep_file.specs.RecordReading.{RecordBounds, Gathered, SoFar, turned, use_of, if_above, above_at, fitting}
use Rattle.brep_file.specs.RecordReading.{named, named_at, gathered, is_star, uses_from, located}
use Rattle.brep_file.proofs.Basics.{and_true, branch_ok, chosen, some_is}

-- ---- signs joined to numbers

abbrev pub use_text : Turn → ℕ → List ℕ
use_text turn number = sign_of turn ∷ decimal number

turn_signed : (b : ℕ) (t : Turn) → turn_of b ≡ Some t → b ≡ sign_of t
turn_signed b t e =
    chosen _ Forward _ t (λ t. b ≡ sign_of t) e (eqb-true b 43) (λ e.
    chosen _ Reversed _ t (λ t. b ≡ sign_of t) e (eqb-true b 45) (λ e.
    chosen _ Internal _ t (λ t. b ≡ sign_of t) e (eqb-true b 105) (λ e.
    chosen _ External _ t (λ t. b ≡ sign_of t) e (eqb-true b 101) (λ e. absurd cc))))

abbrev twin : Turn → ℕ → Turn × ℕ
twin turn number = (turn, number)

turned_some : (t : Option Turn) (k : ℕ) (turn : Turn) (number : ℕ)
    → option_map (λ x. twin x k) t ≡ Some (twin turn number) → (t ≡ Some turn) × (k ≡ number)
turned_some None k turn number e = absurd cc
turned_some (Some t) k turn number e =
    let pair : twin t k ≡ twin turn number = some_is e in
    (ap (λ (p : Turn × ℕ). Some p.0) pair, ap (λ (p : Turn × ℕ). p.1) pair)

sign_is : (t : Turn) → is_sign (sign_of t) ≡ true
sign_is Forward = refl
sign_is Reversed = refl
sign_is Internal = refl
sign_is External = refl

-- ---- what is to be shown of uses, given what is known of the records above

-- what is known of the record with a number, of n
abbrev pub seen_at : ℕ → List Seen → ℕ → Option Seen
seen_at n seen number = if nat_le number n then slice_get seen (n - number) else None

-- the depth that is known of it
abbrev pub seen_depth : ℕ → List Seen → ℕ → ℕ
seen_depth n seen number = option_map_or (λ c. c.depth) (seen_at n seen number) 0

-- a use of a record above that fits
pub record FitsUse (locations n : ℕ) (parent : Kind) (seen : List Seen) (u : FileUse) : Type 0 where
  pub child : Seen
  pub found : seen_at n seen u.number ≡ Some child
  pub from : 1 ≤ u.number
  pub to : u.number ≤ n
  pub in_order : is_below child.kind parent ≡ true
  pub shallow : child.depth < 512
  pub location : u.location ≤ locations
  pub small : u.number < 10 ^ 18
  pub location_small : u.location < 10 ^ 18

abbrev pub with_use : ℕ → List Seen → Gathered → FileUse → Gathered
with_use n seen g u = record { uses = g.uses ++ u ∷ []; depth = max g.depth (seen_depth n seen u.number) }

abbrev pub with_uses : ℕ → List Seen → Gathered → List FileUse → Gathered
with_uses n seen g [] = g
with_uses n seen g (u ∷ us) = with_uses n seen (with_use n seen g u) us

pub with_uses-uses : (n : ℕ) (seen : List Seen) (g : Gathered) (us : List FileUse)
    → (with_uses n seen g us).uses ≡ g.uses ++ us
with_uses-uses n seen g [] = sym (append-nil g.uses)
with_uses-uses n seen g (u ∷ us) = with_uses-uses n seen (with_use n seen g u) us ∙ append_assoc g.uses (u ∷ []) us

-- ---- the record that a token names

pub record Names (b : RecordBounds) (seen : List Seen) (parent : Kind) (uses : ℕ) (text : List ℕ)
    (u : Named) : Type 0 where
  pub text_is : text ≡ use_text u.turn u.number
  pub small : u.number < 10 ^ 18
  pub from : 1 ≤ u.number
  pub to : u.number ≤ b.records
  pub found : slice_get seen (b.records - u.number) ≡ Some u.child
  pub in_order : is_below u.child.kind parent ≡ true
  pub shallow : u.child.depth < 512
  pub few : uses < b.uses

above_ok : (n : ℕ) (seen : List Seen) (t : Token) (number : ℕ) (o : Option Seen) (c : Seen)
    → if_above n seen t number o ≡ Ok c → o ≡ Some c
above_ok n seen t number None c e = absurd cc
above_ok n seen t number (Some x) c e = cc

star_is : (text : List ℕ) → is_star text ≡ true → text ≡ codes "*"
star_is text e = (bytes_eq-Decides text (codes "*")).0 e

no_star : (t : Turn) (rest : List ℕ) → is_star (sign_of t ∷ rest) ≡ false
no_star Forward rest = refl
no_star Reversed rest = refl
no_star Internal rest = refl
no_star External rest = refl

either : {A : Type 0} (b : Bool) (x : A) (r : Result A Refusal) (y : A) → (if b then Ok x else r) ≡ Ok y
    → ((b ≡ true) × (x ≡ y)) ⊎ ((b ≡ false) × (r ≡ Ok y))
either true x r y e = inl (refl, cc)
either false x r y e = inr (refl, e)

module _ (forms : FormsAreExact) where
  signed_takes : (text : List ℕ) (turn : Turn) (number : ℕ) (o : Option (ℕ × ℕ)) → use_sign_of text ≡ o
      → turned o ≡ Some (turn, number)
      → (text ≡ use_text turn number) × (number < 10 ^ 18)
  signed_takes text turn number None is e = absurd cc
  signed_takes text turn number (Some u) is e =
      let same = turned_some (turn_of u.0) u.1 turn number e in
      let sign = (forms.use_signs text u.0 u.1).0 is in (
        sign.spelled ∙ (λ i. turn_signed u.0 turn same.0 i ∷ decimal (same.1 i)),
        subst (λ (n : ℕ). n < 10 ^ 18) same.1 sign.small,
      )

  pub use_takes : (text : List ℕ) (turn : Turn) (number : ℕ) → use_of text ≡ Some (turn, number)
      → (text ≡ use_text turn number) × (number < 10 ^ 18)
  use_takes text turn number e = signed_takes text turn number (use_sign_of text) refl e

  named_takes : (b : RecordBounds) (seen : List Seen) (parent : Kind) (uses : ℕ) (t : Token) (o : Option (Turn × ℕ))
      → use_of t.text ≡ o → (u : Named) → named_at b seen parent uses t o ≡ Ok u → Names b seen parent uses t.text u
  named_takes b seen parent uses t None is u e = absurd cc
  named_takes b seen parent uses t (Some s) is u e =
      let above = above_at b.records seen t s.1 in
      let f = bind_ok (above >>= fitting b parent uses t) (λ child. Ok (named s child)) u e in
      let a = bind_ok above (fitting b parent uses t) f.0 f.1 in
      let range = branch_ok (nat_le 1 s.1 && nat_le s.1 b.records)
      (if_above b.records seen t s.1 (slice_get seen (b.records - s.1)))
      (fault (at_token faults.IndexOutOfRange s.1 b.records t)) a.0 a.1 in
      let ends = and_true (nat_le 1 s.1) (nat_le s.1 b.records) range.0 in
      let order = branch_ok (is_below a.0.kind parent) (if nat_lt a.0.depth 512
      then (if nat_lt uses b.uses then Ok a.0 else Err (fault (at_token faults.TooMany (suc uses) b.uses t)))
      else Err (fault (at_token faults.TooDeep (suc a.0.depth) 512 t)))
      (fault (at_token faults.KindOrder (rank_of a.0.kind) (rank_of parent) t)) f.0 a.2 in
      let deep = branch_ok (nat_lt a.0.depth 512) (if nat_lt uses b.uses then Ok a.0
      else Err (fault (at_token faults.TooMany (suc uses) b.uses t)))
      (fault (at_token faults.TooDeep (suc a.0.depth) 512 t)) f.0 order.1 in
      let few = guard_ok (nat_lt uses b.uses) (fault (at_token faults.TooMany (suc uses) b.uses t)) a.0 f.0 deep.1 in
      let text = use_takes t.text s.0 s.1 is in
      let made : Named = named s a.0 in
      let same : made ≡ u = ap (named s) few.1 ∙ ok_is (named s f.0) u f.2 in
      subst (λ (x : Named). Names b seen parent uses t.text x) same (record {
        text_is = text.0;
        small = text.1;
        from = leb-true 1 s.1 ends.0;
        to = leb-true s.1 b.records ends.1;
        found = above_ok b.records seen t s.1 (slice_get seen (b.records - s.1)) a.0 range.1;
        in_order = order.0;
        shallow = ltb-true a.0.depth 512 deep.0;
        few = ltb-true uses b.uses few.0;
      })

  module _ (names : SignsAndNamesTell) where
    pub use_again : (turn : Turn) (number : ℕ) → number < 10 ^ 18 → use_of (use_text turn number) ≡ Some (turn, number)
    use_again turn number small =
        ap turned ((forms.use_signs (use_text turn number) (sign_of turn) number).1
        (record { sign = sign_is turn; small = small; spelled = refl }))
        ∙ ap (option_map (λ x. twin x number)) (names.signs turn)

    named_again : (b : RecordBounds) (seen : List Seen) (parent : Kind) (uses : ℕ) (t : Token) (u : FileUse)
        → t.text ≡ use_text u.turn u.number → (fits : FitsUse b.tables.locations b.records parent seen u)
        → uses < b.uses
        → named_at b seen parent uses t (use_of t.text) ≡ Ok
        (record { turn = u.turn; number = u.number; child = fits.child })
    named_again b seen parent uses t u text fits few =
        let found : slice_get seen (b.records - u.number) ≡ Some fits.child =
        (let inside : seen_at b.records seen u.number ≡ slice_get seen (b.records - u.number) =
        rw (le-leb u.number b.records fits.to) refl in sym inside ∙ fits.found) in
        rw (
          text,
          use_again u.turn u.number fits.small,
          le-leb 1 u.number fits.from,
          le-leb u.number b.records fits.to,
          found,
          fits.in_order,
          lt-ltb fits.child.depth 512 fits.shallow,
          lt-ltb uses b.uses few,
        ) refl

-- ---- uses to the `*`

abbrev pub spell_uses : List FileUse → List (List ℕ)
spell_uses us = flat_map spell_use us ++ codes "*" ∷ []

pub record AreTaken (b : RecordBounds) (s : SoFar) (parent : Kind) (g : Gathered) (ts : List Token) (x : Gathered)
    (rest : List Token) : Type 0 where
  pub taken : List FileUse
  pub spelled : Begins ts (spell_uses taken) rest
  pub fits : AllByRecursion (FitsUse b.tables.locations b.records parent s.seen) taken
  pub few : (s.uses + length g.uses) + length taken ≤ b.uses
  pub result : x ≡ with_uses b.records s.seen g taken

star_first : (b : RecordBounds) (s : SoFar) (parent : Kind) (g : Gathered) (t : Token) (ts : List Token) (x : Gathered)
    (rest : List Token) → s.uses + length g.uses ≤ b.uses → is_star t.text ≡ true → g ≡ x → ts ≡ rest
    → AreTaken b s parent g (t ∷ ts) x rest
star_first b s parent g t ts x rest within star is done = record {
  taken = [];
  spelled = (star_is t.text star, done);
  fits = tt;
  few = omega (arith, within);
  result = sym is;
}

-- a use with the location that was read after it
abbrev made_use : Named → ℕ → FileUse
made_use u location = record { turn = u.turn; number = u.number; location = location }

use_first : (b : RecordBounds) (s : SoFar) (parent : Kind) (g : Gathered) (t t2 : Token) (ts : List Token)
    (x : Gathered) (rest : List Token) (u : Named) (location : ℕ)
    → Names b s.seen parent (s.uses + length g.uses) t.text u → t2.text ≡ decimal location
    → location ≤ b.tables.locations → location < 10 ^ 18
    → AreTaken b s parent (gathered g u location) ts x rest → AreTaken b s parent g (t ∷ t2 ∷ ts) x rest
use_first b s parent g t t2 ts x rest u location is text within small others =
    let one = made_use u location in
    let inside : seen_at b.records s.seen u.number ≡ slice_get s.seen (b.records - u.number) =
    rw (le-leb u.number b.records is.to) refl in
    let found : seen_at b.records s.seen u.number ≡ Some u.child = inside ∙ is.found in
    let deep : u.child.depth ≡ seen_depth b.records s.seen u.number =
    sym (ap (λ (o : Option Seen). option_map_or (λ c. c.depth) o 0) found) in
    let same : gathered g u location ≡ with_use b.records s.seen g one =
    ap (λ (d : ℕ). record { uses = g.uses ++ one ∷ []; depth = max g.depth d }) deep in
    let longer = length-append g.uses (one ∷ []) in
    record {
      taken = one ∷ others.taken;
      spelled = (is.text_is, (text, others.spelled));
      fits = (
        record {
          child = u.child;
          found = found;
          from = is.from;
          to = is.to;
          in_order = is.in_order;
          shallow = is.shallow;
          location = within;
          small = is.small;
          location_small = small;
        },
        others.fits,
      );
      few = omega (arith, longer, others.few);
      result = others.result ∙ ap (λ (h : Gathered). with_uses b.records s.seen h others.taken) same;
    }

abbrev no_tokens : (A : Type 0) → Result A Refusal
no_tokens A = Err more

none_located : {A : Type 0} {y : A} → no_tokens A ≡ Ok y → ⊥
none_located e = absurd cc

module _ (forms : FormsAreExact) (fields : FieldsAreExact) (b : RecordBounds) (s : SoFar) (parent : Kind) where
  pub uses_takes : (g : Gathered) (ts rest : List Token) (x : Gathered) → s.uses + length g.uses ≤ b.uses
      → uses_from b s parent g ts ≡ Ok (x, rest) → AreTaken b s parent g ts x rest
  uses_takes g [] rest x within e = absurd cc
  uses_takes g (t ∷ []) rest x within e =
      elim (either (is_star t.text) (g, []) (named_at b s.seen parent (s.uses + length g.uses) t (use_of t.text)
      >>= λ u. located b s parent g u []) (x, rest) e) [
        | inl star ↦ star_first b s parent g t [] x rest within star.0 (ap (λ (p : Gathered × List Token). p.0) star.1)
            (ap (λ (p : Gathered × List Token). p.1) star.1)
        | inr other ↦ (let n = bind_ok (named_at b s.seen parent (s.uses + length g.uses) t (use_of t.text))
            (λ u. located b s parent g u []) (x, rest) other.1 in absurd (none_located n.2))
      ]
  uses_takes g (t ∷ t2 ∷ ts) rest x within e =
      elim (either (is_star t.text) (g, t2 ∷ ts) (named_at b s.seen parent (s.uses + length g.uses) t (use_of t.text)
      >>= λ u. located b s parent g u (t2 ∷ ts)) (x, rest) e) [
        | inl star ↦ star_first b s parent g t (t2 ∷ ts) x rest within star.0
            (ap (λ (p : Gathered × List Token). p.0) star.1) (ap (λ (p : Gathered × List Token). p.1) star.1)
        | inr other ↦ (let n = bind_ok (named_at b s.seen parent (s.uses + length g.uses) t (use_of t.text))
            (λ u. located b s parent g u (t2 ∷ ts)) (x, rest) other.1 in
            let l = bind_ok (ranged_at 0 b.tables.locations (t2 ∷ ts))
            (λ l. uses_from b s parent (gathered g n.0 l.0) ts) (x, rest) n.2 in
            let is = named_takes forms b s.seen parent (s.uses + length g.uses) t (use_of t.text) refl n.0 n.1 in
            let location = (fields.ranged 0 b.tables.locations).takes (t2 ∷ ts) l.0.1 l.0.0 l.1 in
            let longer = length-append g.uses (made_use n.0 l.0.0 ∷ []) in
            use_first b s parent g t t2 ts x rest n.0 l.0.0 is location.0.0 location.1.to location.1.small
            (uses_takes (gathered g n.0 l.0.0) ts rest x (omega (arith, longer, is.few)) l.2))
      ]

  module _ (names : SignsAndNamesTell) where
    pub uses_again : (us : List FileUse) (g : Gathered) (ts rest : List Token) → Begins ts (spell_uses us) rest
        → AllByRecursion (FitsUse b.tables.locations b.records parent s.seen) us
        → (s.uses + length g.uses) + length us ≤ b.uses
        → uses_from b s parent g ts ≡ Ok (with_uses b.records s.seen g us, rest)
    uses_again [] g [] rest begins fit few = absurd begins
    uses_again [] g (t ∷ ts) rest begins fit few =
        let star : is_star t.text ≡ true = (bytes_eq-Decides t.text (codes "*")).1 begins.0 in
        rw (star, begins.1) refl
    uses_again (u ∷ us) g [] rest begins fit few = absurd begins
    uses_again (u ∷ us) g (t ∷ []) rest begins fit few = absurd begins.1
    uses_again (u ∷ us) g (t ∷ t2 ∷ ts) rest begins fit few =
        let plain : is_star t.text ≡ false = ap is_star begins.0 ∙ no_star u.turn (decimal u.number) in
        let one = named_again forms names b s.seen parent (s.uses + length g.uses) t u begins.0 fit.0
        (omega (arith, few)) in
        let location = (fields.ranged 0 b.tables.locations).again (t2 ∷ ts) ts u.location (begins.1.0, refl)
        (record { small = fit.0.location_small; from = omega arith; to = fit.0.location }) in
        let deep : fit.0.child.depth ≡ seen_depth b.records s.seen u.number =
        sym (ap (λ (o : Option Seen). option_map_or (λ c. c.depth) o 0) fit.0.found) in
        let same : gathered g (record { turn = u.turn; number = u.number; child = fit.0.child }) u.location
        ≡ with_use b.records s.seen g u =
        ap (λ (d : ℕ). record { uses = g.uses ++ u ∷ []; depth = max g.depth d }) deep in
        let longer = length-append g.uses (u ∷ []) in
        rw (plain, one, location, same) (uses_again us (with_use b.records s.seen g u) ts rest begins.1.1 fit.1
        (omega (arith, longer, few)))
