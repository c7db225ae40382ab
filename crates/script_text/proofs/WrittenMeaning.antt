-- What is written for a command means it, and is legal.
use Rattle.std.proofs.Common.{◌≡◌, ◌≢◌, ℕ, ◌≤◌, inl, inr, Bool, true, false, ◌==◌, List, []}
use Rattle.std.proofs.Common.{◌∷◌, length, map, if◌then◌else◌, Option, Some, None, Result, Ok, refl, sym}
use Rattle.std.proofs.Common.{ap, subst, ◌∙◌, arith}
use Rattle.std.specs.Prelude.{◌⊎◌, unwrap_or}
use Rattle.std.specs.List.{AllByRecursion, AllPairs, join_with_byte}
use Rattle.std.proofs.lemmas.Bool.{le-leb}
use Rattle.std.proofs.lemmas.Bool.Decides.{eqb_tells}
use Rattle.std.proofs.lemmas.List.{length-map}
use Rattle.brep_tokens.specs.Written.{WrittenIsRead}
use Rattle.orientation.specs.declared.turn.Turn.{Turn}
use Rattle.orientation.specs.declared.turn.Turn.TheVariants.{Forward, Reversed, Internal, External}
use Rattle.script_text.specs.Laws.{IsLineOf, LinesSpellOneCommand}
use Rattle.script_text.specs.Meaning.{command_of_line, fault_of, first_fault, location_fault, meaning_of}
use Rattle.script_text.specs.Meaning.{mentions_fault, number_of_mention, selection_fault, shape_fault, signed_name}
use Rattle.script_text.specs.Reading.{phrase_of}
use Rattle.script_text.specs.Spelling.{AreSewn, IsBare, IsLegal, IsShort, IsShortMention, IsSided, MayBeShort}
use Rattle.script_text.specs.Spelling.{spelling}
use Rattle.script_text.specs.Writing.{AreSides, HasLine, IsShape, IsSide, MayBePlace, bare_mention, line_of_command}
use Rattle.script_text.specs.Writing.{location_for, mention_for, name_of, phrase_for, sewn_mention, sign_for}
use Rattle.script_text.specs.declared.command.Command.{Command}
use Rattle.script_text.specs.declared.command.Command.TheVariants as commands
use Rattle.script_text.specs.declared.command.LineFault.{LineFault}
use Rattle.script_text.specs.declared.command.SignedName.{SignedName}
use Rattle.script_text.specs.declared.phrase.Mention.{Mention}
use Rattle.script_text.specs.declared.phrase.Phrase.{Phrase}
use Rattle.script_text.proofs.AnswerLaws.{spelling_says}
use Rattle.script_text.proofs.WrittenWords.{spelling_back}

abbrev pub gives : Command → Result (Option Command) LineFault
gives c = Ok (Some c)

-- ---- what is written means the command

turn_back : (t : Turn) → unwrap_or (sign_for t) Forward ≡ t
turn_back Forward = refl
turn_back Reversed = refl
turn_back Internal = refl
turn_back External = refl

location_if : (b : Bool) (meant l : ℕ) → (b ≡ true → l ≡ meant) → unwrap_or (if b then None else Some l) meant ≡ l
location_if true meant l is = sym (is refl)
location_if false meant l is = refl

same_if : (l meant : ℕ) → (l == meant) ≡ true → l ≡ meant
same_if l meant e =
    elim (eqb_tells l meant) [
      | inl is ↦ is.1
      | inr other ↦ absurd (let clash : true ≡ false = sym e ∙ other.0 in cc)
    ]

location_back : (place : Option ℕ) (l : ℕ) → unwrap_or (location_for place l) (unwrap_or place 0) ≡ l
location_back place l = location_if (l == unwrap_or place 0) (unwrap_or place 0) l (same_if l (unwrap_or place 0))

names_back : (ns : List ℕ) → map number_of_mention (map bare_mention ns) ≡ ns
names_back [] = refl
names_back (n ∷ ns) = ap (λ (z : List ℕ). n ∷ z) (names_back ns)

sewn_back : (ss : List SignedName) → map signed_name (map sewn_mention ss) ≡ ss
sewn_back [] = refl
sewn_back (s ∷ ss) =
    ap (λ (t : Turn). (record { name = s.name; turn = t }) ∷ map signed_name (map sewn_mention ss)) (turn_back s.turn)
    ∙ ap (λ (z : List SignedName). s ∷ z) (sewn_back ss)

pub meaning_back : (c : Command) → meaning_of (phrase_for c) ≡ c
meaning_back (commands.Replace sel tgt) =
    ap (λ (t : Turn). commands.Replace sel
    (record {
      name = tgt.name;
      turn = t;
      location =
          unwrap_or (location_for sel.place tgt.location) (unwrap_or sel.place 0);
    })) (turn_back tgt.turn)
    ∙ ap (λ (l : ℕ). commands.Replace sel (record { name = tgt.name; turn = tgt.turn; location = l }))
    (location_back sel.place tgt.location)
meaning_back (commands.Remove sel) = refl
meaning_back (commands.Merge names) = ap commands.Merge (names_back names)
meaning_back (commands.Sew names) = ap commands.Sew (sewn_back names)
meaning_back commands.Apply = refl
meaning_back commands.Undo = refl
meaning_back (commands.Until kind) = refl
meaning_back commands.Prune = refl
meaning_back commands.OutputFirst = refl

-- ---- what is written is legal, with all numbers in range

module _ (shapes locations : ℕ) where
  shape_free : (n : ℕ) → IsShape shapes n → shape_fault shapes n ≡ None
  shape_free n is = rw (le-leb 1 n is.0, le-leb n shapes is.1) refl

  place_free : (o : Option ℕ) → MayBePlace locations o → location_fault locations o ≡ None
  place_free None is = refl
  place_free (Some n) is = rw (le-leb n locations is) refl

  written_if : (b : Bool) (l : ℕ) → l ≤ locations → MayBePlace locations (if b then None else Some l)
  written_if true l is = tt
  written_if false l is = is

  selection_free : (m : Mention) (o : Option ℕ) → IsShape shapes m.number → MayBePlace locations o
      → selection_fault shapes locations m o ≡ None
  selection_free m o is may = rw (shape_free m.number is, place_free o may) refl

  bare_free : (ns : List ℕ) → AllByRecursion (IsShape shapes) ns → mentions_fault shapes (map bare_mention ns) ≡ None
  bare_free [] are = refl
  bare_free (n ∷ ns) are = rw (shape_free n are.0) (bare_free ns are.1)

  sewn_free : (ss : List SignedName) → AllByRecursion (IsShape shapes) (map name_of ss)
      → mentions_fault shapes (map sewn_mention ss) ≡ None
  sewn_free [] are = refl
  sewn_free (s ∷ ss) are = rw (shape_free s.name are.0) (sewn_free ss are.1)

  pub fault_free : (c : Command) → HasLine shapes locations c → fault_of shapes locations (phrase_for c) ≡ None
  fault_free (commands.Replace sel tgt) has =
      ap (λ (o : Option LineFault). first_fault o
      (selection_fault shapes locations (mention_for tgt.name (sign_for tgt.turn))
      (location_for sel.place tgt.location)))
      (selection_free (mention_for sel.name sel.turn) sel.place has.0.0 has.0.1)
      ∙ selection_free (mention_for tgt.name (sign_for tgt.turn)) (location_for sel.place tgt.location) has.1.0
      (written_if (tgt.location == unwrap_or sel.place 0) tgt.location has.1.1)
  fault_free (commands.Remove sel) has = selection_free (mention_for sel.name sel.turn) sel.place has.0 has.1
  fault_free (commands.Merge names) has = bare_free names has.are_shapes
  fault_free (commands.Sew names) has = sewn_free names has.0.are_shapes
  fault_free commands.Apply has = refl
  fault_free commands.Undo has = refl
  fault_free (commands.Until kind) has = refl
  fault_free commands.Prune has = refl
  fault_free commands.OutputFirst has = refl

  module _ (few_shapes : IsShort shapes) (few_locations : IsShort locations) where
    shape_short : (n : ℕ) → IsShape shapes n → IsShort n
    shape_short n is = (let up = is.1 in omega (arith, up, few_shapes))

    place_short : (o : Option ℕ) → MayBePlace locations o → MayBeShort o
    place_short None is = tt
    place_short (Some n) is = omega (arith, is, few_locations)

    bare_short : (ns : List ℕ) → AllByRecursion (IsShape shapes) ns
        → AllByRecursion IsShortMention (map bare_mention ns)
    bare_short [] are = tt
    bare_short (n ∷ ns) are = (shape_short n are.0, bare_short ns are.1)

    sewn_short : (ss : List SignedName) → AllByRecursion (IsShape shapes) (map name_of ss)
        → AllByRecursion IsShortMention (map sewn_mention ss)
    sewn_short [] are = tt
    sewn_short (s ∷ ss) are = (shape_short s.name are.0, sewn_short ss are.1)

    are_bare : (ns : List ℕ) → AllByRecursion IsBare (map bare_mention ns)
    are_bare [] = tt
    are_bare (n ∷ ns) = (refl, are_bare ns)

    side_sided : (t : Turn) → (t ≡ Forward) ⊎ (t ≡ Reversed)
        → (sign_for t ≡ None) ⊎ ((sign_for t ≡ Some Forward) ⊎ (sign_for t ≡ Some Reversed))
    side_sided t (inl e) = inl (ap sign_for e)
    side_sided t (inr e) = inr (inr (ap sign_for e))

    are_sided : (ss : List SignedName) → AllByRecursion IsSide ss → AllByRecursion IsSided (map sewn_mention ss)
    are_sided [] sides = tt
    are_sided (s ∷ ss) sides = (side_sided s.turn sides.0, are_sided ss sides.1)

    are_sewn : (ss : List SignedName) → AreSides ss → AreSewn (map sewn_mention ss)
    are_sewn [] sides = tt
    are_sewn (s ∷ ss) sides = (ap sign_for sides.0, are_sided ss sides.1)

    bare_numbers : (ns : List ℕ) → map (λ (m : Mention). m.number) (map bare_mention ns) ≡ ns
    bare_numbers [] = refl
    bare_numbers (n ∷ ns) = ap (λ (z : List ℕ). n ∷ z) (bare_numbers ns)

    sewn_numbers : (ss : List SignedName) → map (λ (m : Mention). m.number) (map sewn_mention ss) ≡ map name_of ss
    sewn_numbers [] = refl
    sewn_numbers (s ∷ ss) = ap (λ (z : List ℕ). s.name ∷ z) (sewn_numbers ss)

    bare_long : (ns : List ℕ) → length (map bare_mention ns) ≡ length ns
    bare_long ns = simp length-map

    sewn_long : (ss : List SignedName) → length (map sewn_mention ss) ≡ length (map name_of ss)
    sewn_long ss = simp length-map

    pub legal : (c : Command) → HasLine shapes locations c → IsLegal (phrase_for c)
    legal (commands.Replace sel tgt) has = (
      shape_short sel.name has.0.0,
      (
        place_short sel.place has.0.1,
        (
          shape_short tgt.name has.1.0,
          place_short (location_for sel.place tgt.location)
              (written_if (tgt.location == unwrap_or sel.place 0) tgt.location has.1.1),
        ),
      ),
    )
    legal (commands.Remove sel) has = (shape_short sel.name has.0, place_short sel.place has.1)
    legal (commands.Merge names) has = (
      record {
        short = bare_short names has.are_shapes;
        some = subst (λ (n : ℕ). 2 ≤ n) (sym (bare_long names)) has.some;
        distinct = subst (AllPairs (λ x y. x ≢ y)) (sym (bare_numbers names)) has.distinct;
      },
      are_bare names,
    )
    legal (commands.Sew names) has = (
      record {
        short = sewn_short names has.0.are_shapes;
        some = subst (λ (n : ℕ). 2 ≤ n) (sym (sewn_long names)) has.0.some;
        distinct = subst (AllPairs (λ x y. x ≢ y)) (sym (sewn_numbers names)) has.0.distinct;
      },
      are_sewn names has.1,
    )
    legal commands.Apply has = tt
    legal commands.Undo has = tt
    legal (commands.Until kind) has = tt
    legal commands.Prune has = tt
    legal commands.OutputFirst has = tt

    module _ (lines : LinesSpellOneCommand) (plain : WrittenIsRead) where
      read_back : (p : Phrase) → IsLegal p → fault_of shapes locations p ≡ None
          → command_of_line shapes locations (join_with_byte 32 (spelling p)) ≡ Ok (Some (meaning_of p))
      read_back p is_legal free =
          let read : phrase_of (spelling p) ≡ Some p =
          (lines.read (spelling p) p).1 (record { spelled = refl; legal = is_legal }) in
          rw (spelling_back plain p, spelling_says p, read, free) refl

      pub line_back : (c : Command) → HasLine shapes locations c → IsLineOf shapes locations (line_of_command c) c
      line_back c has =
          read_back (phrase_for c) (legal c has) (fault_free c has)
          ∙ ap gives (meaning_back c)
