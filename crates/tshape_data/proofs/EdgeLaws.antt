-- A representation of an edge is read exactly as it is spelled.
use Rattle.std.proofs.Common.{◌≡◌, ◌==◌, ℕ, zero, suc, ◌<◌, Bool, true, false, if◌then◌else◌, List, [], ◌∷◌, ◌++◌}
use Rattle.std.proofs.Common.{Option, Some, None, Ok, codes, refl, sym, ap, subst, ◌∙◌, arith}
use Rattle.std.specs.Fmt.{decimal}
use Rattle.std.proofs.lemmas.Bool.Decides.{nat_tests}
use Rattle.std.proofs.lemmas.List.{take_all}
use Rattle.brep_tokens.specs.Laws.{FormsAreExact}
use Rattle.brep_tokens.specs.declared.text.Token.{Token}
use Rattle.entry_readers.specs.Begins.{AreDecimals, Begins, FieldsAreExact}
use Rattle.lists.specs.Results.{◌>>=◌}
use Rattle.entry_readers.specs.Reading.{Read, decimals_at, number_at}
use Rattle.lists.proofs.Results.{bind_ok, ok_is}
use Rattle.tshape_data.specs.Columns.{edge_columns, edge_form, edge_number, edge_texts}
use Rattle.tshape_data.specs.Parts.{texts_in}
use Rattle.tshape_data.specs.RepReading.{columns_at, edge_form_at, edge_kind, edge_rep_at, with_room}
use Rattle.tshape_data.specs.Reps.{edge_rep, form_of_edge, numbers_of_edge, texts_of_edge}
use Rattle.tshape_data.specs.Sound.{AreInColumns, IsSoundEdgeRep, sizes}
use Rattle.tshape_data.specs.declared.head_bounds.HeadBounds.{HeadBounds}
use Rattle.tshape_data.specs.declared.forms.EdgeForm.{EdgeForm}
use Rattle.tshape_data.specs.declared.forms.EdgeForm.TheVariants as edges
use Rattle.tshape_data.specs.declared.reps.EdgeRep.{EdgeRep}
use Rattle.tshape_data.specs.declared.reps.EdgeRep.TheVariants as edge_reps
use Rattle.tshape_data.proofs.ColumnLaws.{columns_again, columns_takes, number_texts}
use Rattle.tshape_data.proofs.PartLaws.{edge_form_back, edge_numbers_back, edge_rep_sound, edge_texts_back, zero_text}
use Rattle.tshape_data.proofs.PayloadTexts.{edge_rep_spelled, edge_rep_texts}
use Rattle.tshape_data.proofs.RepsLaws.{OneIsExact}

-- ---- the number of a form

-- a form that was accepted, where there was room
pub room_some : {A : Type 0} (room : ℕ) (t : Token) (n : ℕ) (o x : Option A) → with_room room t n o ≡ Ok x
    → (f : A) × (o ≡ Some f) × (x ≡ Some f) × (0 < room)
room_some room t n None x e = absurd cc
room_some zero t n (Some f) x e = absurd cc
room_some (suc room) t n (Some f) x e = (f, refl, sym (ok_is (Some f) x e), omega arith)

number_there : (n : ℕ) (form : EdgeForm) → edge_form n ≡ Some form → n ≡ edge_number form
number_there n edges.Curve e = grind (arith, nat_tests)
number_there n edges.Curve2 e = grind (arith, nat_tests)
number_there n edges.Seam e = grind (arith, nat_tests)
number_there n edges.Joint e = grind (arith, nat_tests)
number_there n edges.Polygon e = grind (arith, nat_tests)
number_there n edges.PolygonOn e = grind (arith, nat_tests)
number_there n edges.SeamPolygons e = grind (arith, nat_tests)

-- what a number that was accepted begins
abbrev IsKind : ℕ → ℕ → Option EdgeForm → Type 0
IsKind room n None = n ≡ 0
IsKind room n (Some form) = (n ≡ edge_number form) × (0 < room)

kind_if : (x : Bool) (room : ℕ) (t : Token) (n : ℕ) (o : Option EdgeForm) → (n == 0) ≡ x
    → (if x then Ok None else with_room room t n (edge_form n)) ≡ Ok o → IsKind room n o
kind_if true room t n None is e = grind (arith, nat_tests)
kind_if true room t n (Some form) is e = absurd cc
kind_if false room t n None is e =
    let s = room_some room t n (edge_form n) None e in
    absurd cc
kind_if false room t n (Some form) is e =
    let s = room_some room t n (edge_form n) (Some form) e in
    (number_there n form (s.1 ∙ sym s.2), s.3)

module _ (fields : FieldsAreExact) where
  abbrev done : Option EdgeForm × List Token → Read (Option EdgeForm)
  done x = Ok x

  kind_takes : (room : ℕ) (ts rest : List Token) (o : Option EdgeForm) → edge_form_at room ts ≡ Ok (o, rest)
      → (n : ℕ) × Begins ts (decimal n ∷ []) rest × IsKind room n o
  kind_takes room [] rest o e = absurd cc
  kind_takes room (t ∷ ts) rest o e =
      let n = bind_ok (number_at (t ∷ ts)) (λ n. edge_kind room t n.0 >>= λ form. done (form, n.1)) (o, rest) e in
      let k = bind_ok (edge_kind room t n.0.0) (λ form. done (form, n.0.1)) (o, rest) n.2 in
      let p = ok_is (k.0, n.0.1) (o, rest) k.2 in
      let one = (fields.number.takes (t ∷ ts) n.0.1 n.0.0 n.1).0 in (
        n.0.0,
        subst (λ (m : List Token). Begins (t ∷ ts) (decimal n.0.0 ∷ []) m) (ap (λ q. q.1) p) one,
        subst (IsKind room n.0.0) (ap (λ q. q.0) p) (kind_if (n.0.0 == 0) room t n.0.0 k.0 refl k.1),
      )

  end_again : FormsAreExact → (room : ℕ) (ts rest : List Token) → Begins ts (codes "0" ∷ []) rest
      → edge_form_at room ts ≡ Ok (None, rest)
  end_again forms room [] rest b = absurd b
  end_again forms room (t ∷ ts) rest b =
      let zero_there : Begins (t ∷ ts) (decimal 0 ∷ []) rest = (b.0 ∙ zero_text forms, b.1) in
      rw (fields.number.again (t ∷ ts) rest 0 zero_there (omega arith)) refl

  form_again : (room : ℕ) (form : EdgeForm) (ts rest : List Token) → Begins ts (decimal (edge_number form) ∷ []) rest
      → edge_form_at (suc room) ts ≡ Ok (Some form, rest)
  form_again room form [] rest b = absurd b
  form_again room edges.Curve (t ∷ ts) rest b = rw (fields.number.again (t ∷ ts) rest 1 b (omega arith)) refl
  form_again room edges.Curve2 (t ∷ ts) rest b = rw (fields.number.again (t ∷ ts) rest 2 b (omega arith)) refl
  form_again room edges.Seam (t ∷ ts) rest b = rw (fields.number.again (t ∷ ts) rest 3 b (omega arith)) refl
  form_again room edges.Joint (t ∷ ts) rest b = rw (fields.number.again (t ∷ ts) rest 4 b (omega arith)) refl
  form_again room edges.Polygon (t ∷ ts) rest b = rw (fields.number.again (t ∷ ts) rest 5 b (omega arith)) refl
  form_again room edges.PolygonOn (t ∷ ts) rest b = rw (fields.number.again (t ∷ ts) rest 6 b (omega arith)) refl
  form_again room edges.SeamPolygons (t ∷ ts) rest b = rw (fields.number.again (t ∷ ts) rest 7 b (omega arith)) refl

-- ---- what follows it

-- a representation of this form with these numbers and texts
abbrev built : ℕ → EdgeForm → List ℕ → List (List ℕ) → List (List ℕ)
built version form ns texts = number_texts (edge_columns form) ns ++ texts

spelled : (version : ℕ) (r : EdgeRep) → AreDecimals (edge_texts version (form_of_edge r)) (texts_of_edge r)
    → edge_rep_texts version r ≡ decimal (edge_number (form_of_edge r)) ∷ built version (form_of_edge r)
    (numbers_of_edge r) (texts_of_edge r)
spelled version r are =
    let all : texts_in version r ≡ texts_of_edge r = take_all (edge_texts version (form_of_edge r)) (texts_of_edge r)
    (omega (arith, are.0)) in
    edge_rep_spelled version r
    ∙ ap (λ (z : List (List ℕ)). decimal (edge_number (form_of_edge r))
    ∷ (number_texts (edge_columns (form_of_edge r)) (numbers_of_edge r) ++ z)) all

same_rep : (r : EdgeRep) → edge_rep (form_of_edge r) (numbers_of_edge r) (texts_of_edge r) ≡ r
same_rep (edge_reps.Curve curve location texts) = refl
same_rep (edge_reps.Curve2 curve2 surface location texts) = refl
same_rep (edge_reps.Seam first second continuity surface location texts) = refl
same_rep (edge_reps.Joint continuity first first_location second second_location) = refl
same_rep (edge_reps.Polygon polygon location) = refl
same_rep (edge_reps.PolygonOn polygon_on mesh location) = refl
same_rep (edge_reps.SeamPolygons first second mesh location) = refl

module _ (forms : FormsAreExact) (fields : FieldsAreExact) (b : HeadBounds) (version : ℕ) where
  -- a representation that was read: of this form, with these tokens after the form's number
  pub record IsEdgeRep (f : EdgeForm) (ts rest : List Token) (r : EdgeRep) : Type 0 where
    pub form : form_of_edge r ≡ f
    pub begins : Begins ts (built version (form_of_edge r) (numbers_of_edge r) (texts_of_edge r)) rest
    pub sound : IsSoundEdgeRep (sizes b) version r

  rep_built : (form : EdgeForm) (ns : List ℕ) (texts : List (List ℕ)) (ts rest : List Token)
      → AreInColumns (sizes b) (edge_columns form) ns → AreDecimals (edge_texts version form) texts
      → Begins ts (built version form ns texts) rest → IsEdgeRep form ts rest (edge_rep form ns texts)
  rep_built form ns texts ts rest are decimals begins =
      let f = edge_form_back form ns texts in
      let n = edge_numbers_back (sizes b) form ns texts are in
      let x = edge_texts_back version form ns texts decimals.0 in
      record {
        form = f;
        begins = rw (f, n, x) begins;
        sound = edge_rep_sound (sizes b) version form ns texts are decimals;
      }

  rep_takes : (form : EdgeForm) (ts rest : List Token) (r : EdgeRep) → edge_rep_at b version form ts ≡ Ok (r, rest)
      → IsEdgeRep form ts rest r
  rep_takes form ts rest r e =
      let n = bind_ok (columns_at b (edge_columns form) ts) (λ numbers. decimals_at (edge_texts version form) numbers.1
      >>= λ texts. Ok (edge_rep form numbers.0 texts.0, texts.1)) (r, rest) e in
      let x = bind_ok (decimals_at (edge_texts version form) n.0.1) (λ texts. Ok (edge_rep form n.0.0 texts.0, texts.1))
      (r, rest) n.2 in
      let p = ok_is (edge_rep form n.0.0 x.0.0, x.0.1) (r, rest) x.2 in
      let one = columns_takes forms fields b (edge_columns form) [] ts n.0.1 n.0.0 n.1 in
      let two = (fields.decimals (edge_texts version form)).takes n.0.1 x.0.1 x.0.0 x.1 in
      let are : AreInColumns (sizes b) (edge_columns form) n.0.0 = subst (AreInColumns (sizes b) (edge_columns form))
      (sym one.1) one.3 in
      let begins : Begins ts (number_texts (edge_columns form) n.0.0) n.0.1 =
      subst (λ (ns : List ℕ). Begins ts (number_texts (edge_columns form) ns) n.0.1) (sym one.1) one.2 in
      subst (λ (q : EdgeRep × List Token). IsEdgeRep form ts q.1 q.0) p
      (rep_built form n.0.0 x.0.0 ts x.0.1 are two.1
      (fields.joined ts (number_texts (edge_columns form) n.0.0) n.0.1 x.0.0 x.0.1 begins two.0))

  rep_again : (form : EdgeForm) (ns : List ℕ) (texts : List (List ℕ)) (ts rest : List Token)
      → AreInColumns (sizes b) (edge_columns form) ns → AreDecimals (edge_texts version form) texts
      → Begins ts (built version form ns texts) rest → edge_rep_at b version form ts ≡ Ok (edge_rep form ns texts, rest)
  rep_again form ns texts ts rest are decimals begins =
      let s = fields.split ts (number_texts (edge_columns form) ns) texts rest begins in
      rw (
        columns_again forms fields b (edge_columns form) [] ts s.0 ns s.1 are,
        (fields.decimals (edge_texts version form)).again s.0 rest texts s.2 decimals,
      ) refl

  goes : (room : ℕ) (ts mid rest : List Token) (form : EdgeForm) (r : EdgeRep)
      → edge_form_at room ts ≡ Ok (Some form, mid) → edge_rep_at b version form mid ≡ Ok (r, rest)
      → Begins ts (edge_rep_texts version r) rest × IsSoundEdgeRep (sizes b) version r
  goes room ts mid rest form r e1 e2 =
      let k = kind_takes fields room ts mid (Some form) e1 in
      let is = rep_takes form mid rest r e2 in
      let number : k.0 ≡ edge_number (form_of_edge r) = k.2.0 ∙ ap edge_number (sym is.form) in
      let one : Begins ts (decimal (edge_number (form_of_edge r)) ∷ []) mid =
      subst (λ (n : ℕ). Begins ts (decimal n ∷ []) mid) number k.1 in
      let tail = built version (form_of_edge r) (numbers_of_edge r) (texts_of_edge r) in (
        subst (λ (z : List (List ℕ)). Begins ts z rest) (sym (spelled version r is.sound.decimals))
            (fields.joined ts (decimal (edge_number (form_of_edge r)) ∷ []) mid tail rest one is.begins),
        is.sound,
      )

  again : (room : ℕ) (ts rest : List Token) (r : EdgeRep) → Begins ts (edge_rep_texts version r) rest
      → IsSoundEdgeRep (sizes b) version r
      → (f : EdgeForm) × (mid : List Token) × (edge_form_at (suc room) ts ≡ Ok (Some f, mid))
      × (edge_rep_at b version f mid ≡ Ok (r, rest))
  again room ts rest r begins sound =
      let tail = built version (form_of_edge r) (numbers_of_edge r) (texts_of_edge r) in
      let s = fields.split ts (decimal (edge_number (form_of_edge r)) ∷ []) tail rest
      (subst (λ (z : List (List ℕ)). Begins ts z rest) (spelled version r sound.decimals) begins) in (
        form_of_edge r,
        s.0,
        form_again fields room (form_of_edge r) ts s.0 s.1,
        subst (λ (q : EdgeRep). edge_rep_at b version (form_of_edge r) s.0 ≡ Ok (q, rest)) (same_rep r)
            (rep_again (form_of_edge r) (numbers_of_edge r) (texts_of_edge r) s.0 rest sound.numbers
            sound.decimals s.2),
      )

  pub edge_reps_exact : OneIsExact edge_form_at (edge_rep_at b version) (edge_rep_texts version) (codes "0" ∷ [])
      (IsSoundEdgeRep (sizes b) version)
  edge_reps_exact = record {
    ends = λ room ts rest e. (let k = kind_takes fields room ts rest None e in
        subst (λ (z : List ℕ). Begins ts (z ∷ []) rest) (ap decimal k.2 ∙ sym (zero_text forms)) k.1);
    goes = goes;
    full = λ ts mid form e. (let k = kind_takes fields zero ts mid (Some form) e in omega (arith, k.2.1));
    end_again = end_again fields forms;
    rep_again = again;
  }
