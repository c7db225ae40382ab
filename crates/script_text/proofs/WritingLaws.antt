-- The line of a command is read as that command, and no line of the command is shorter.
use Rattle.std.proofs.Common.{◌≡◌, ◌≢◌, ℕ, ◌+◌, ◌<◌, ◌≤◌, inl, inr, Bool, true, false, ◌==◌, ◌&&◌, nat_le, List, []}
use Rattle.std.proofs.Common.{◌∷◌, ◌++◌, length, map, codes, if◌then◌else◌, Option, Some, None, Ok, refl, sym}
use Rattle.std.proofs.Common.{ap, subst, ◌∙◌, arith}
use Rattle.std.specs.Prelude.{◌⊎◌, unwrap_or}
use Rattle.std.specs.List.{AllByRecursion, AllPairs}
use Rattle.std.proofs.lemmas.Bool.{leb-true}
use Rattle.std.proofs.lemmas.Bool.Decides.{eqb_tells}
use Rattle.std.proofs.lemmas.List.{length-map}
use Rattle.brep_tokens.specs.Written.{WrittenIsRead}
use Rattle.orientation.specs.declared.turn.Turn.{Turn}
use Rattle.orientation.specs.declared.turn.Turn.TheVariants.{Forward, Reversed, Internal, External}
use Rattle.script_text.specs.Answers.{Answers, IsCommandOf}
use Rattle.script_text.specs.Laws.{CommandsAreWritten, CommandsHaveLines, IsLineOf, LinesSpellOneCommand}
use Rattle.script_text.specs.Meaning.{command_of_line, fault_of, first_fault, location_fault, meaning_of}
use Rattle.script_text.specs.Meaning.{mentions_fault, number_of_mention, selection_fault, shape_fault, signed_name}
use Rattle.script_text.specs.Meaning.{unless_faulty}
use Rattle.script_text.specs.Spelling.{AreSewn, IsBare, IsLegal, IsShort, IsSided, Spells}
use Rattle.script_text.specs.Spelling.{spell_mention, spell_number, spelling}
use Rattle.script_text.specs.Words.{words_of}
use Rattle.script_text.specs.Writing.{AreSides, HasLine, IsShape, IsSide, MayBePlace, bare_mention, line_of_command}
use Rattle.script_text.specs.Writing.{location_for, mention_for, name_of, phrase_for, sewn_mention, sign_for}
use Rattle.script_text.specs.declared.command.Command.{Command}
use Rattle.script_text.specs.declared.command.LineFault.{LineFault}
use Rattle.script_text.specs.declared.command.LineFault.TheVariants.{NoSuchShape, NoSuchLocation}
use Rattle.script_text.specs.declared.phrase.Mention.{Mention}
use Rattle.script_text.specs.declared.phrase.Phrase.{Phrase}
use Rattle.script_text.specs.declared.phrase.Phrase.TheVariants.{Replace, Remove, Merge, Sew, Apply, Undo, Until, Prune}
use Rattle.script_text.specs.declared.phrase.Phrase.TheVariants.{OutputFirst}
use Rattle.script_text.proofs.AnswerLaws.{answers}
use Rattle.script_text.proofs.ReadingParts.{none_some}
use Rattle.script_text.proofs.WrittenWords.{joined_size, line_size_fits, size_of}
use Rattle.script_text.proofs.WrittenMeaning.{gives, line_back}

-- ---- only such commands are given by lines

unfaulty : (c : Command) (o : Option LineFault) (d : Command) → unless_faulty c o ≡ Ok (Some d) → (o ≡ None) × (d ≡ c)
unfaulty c None d e = (refl, cc)
unfaulty c (Some f) d e = absurd cc

first_none : (a b : Option LineFault) → first_fault a b ≡ None → (a ≡ None) × (b ≡ None)
first_none None b e = (refl, e)
first_none (Some f) b e = absurd (none_some None f refl (sym e))

none_if : (b : Bool) (f : LineFault) → (if b then None else Some f) ≡ None → b ≡ true
none_if true f e = refl
none_if false f e = absurd (none_some None f refl (sym e))

both_true : (a b : Bool) → (a && b) ≡ true → (a ≡ true) × (b ≡ true)
both_true true b h = (refl, h)
both_true false b h = absurd cc

module _ (shapes locations : ℕ) where
  shape_there : (n : ℕ) → shape_fault shapes n ≡ None → IsShape shapes n
  shape_there n e =
      let both = both_true (nat_le 1 n) (nat_le n shapes) (none_if _ (NoSuchShape n) e) in
      (leb-true 1 n both.0, leb-true n shapes both.1)

  place_there : (o : Option ℕ) → location_fault locations o ≡ None → MayBePlace locations o
  place_there None e = tt
  place_there (Some n) e = leb-true n locations (none_if _ (NoSuchLocation n) e)

  record InRange (m : Mention) (o : Option ℕ) : Type 0 where
    shape : IsShape shapes m.number
    place : MayBePlace locations o

  selection_there : (m : Mention) (o : Option ℕ) → selection_fault shapes locations m o ≡ None → InRange m o
  selection_there m o e =
      let both = first_none (shape_fault shapes m.number) (location_fault locations o) e in
      record { shape = shape_there m.number both.0; place = place_there o both.1 }

  location_there : (l place : Option ℕ) → MayBePlace locations l → MayBePlace locations place
      → unwrap_or l (unwrap_or place 0) ≤ locations
  location_there (Some n) place is may = is
  location_there None (Some n) is may = may
  location_there None None is may = omega arith

  bare_there : (ms : List Mention) → mentions_fault shapes ms ≡ None
      → AllByRecursion (IsShape shapes) (map number_of_mention ms)
  bare_there [] e = tt
  bare_there (m ∷ ms) e =
      let both = first_none (shape_fault shapes m.number) (mentions_fault shapes ms) e in
      (shape_there m.number both.0, bare_there ms both.1)

  sewn_there : (ms : List Mention) → mentions_fault shapes ms ≡ None
      → AllByRecursion (IsShape shapes) (map name_of (map signed_name ms))
  sewn_there [] e = tt
  sewn_there (m ∷ ms) e =
      let both = first_none (shape_fault shapes m.number) (mentions_fault shapes ms) e in
      (shape_there m.number both.0, sewn_there ms both.1)

  names_of_sewn : (ms : List Mention) → map name_of (map signed_name ms) ≡ map (λ (m : Mention). m.number) ms
  names_of_sewn [] = refl
  names_of_sewn (m ∷ ms) = ap (λ (z : List ℕ). m.number ∷ z) (names_of_sewn ms)

  sided_side : (s : Option Turn) → (s ≡ None) ⊎ ((s ≡ Some Forward) ⊎ (s ≡ Some Reversed))
      → (unwrap_or s Forward ≡ Forward) ⊎ (unwrap_or s Forward ≡ Reversed)
  sided_side s (inl e) = inl (rw e refl)
  sided_side s (inr (inl e)) = inl (rw e refl)
  sided_side s (inr (inr e)) = inr (rw e refl)

  sides_there : (ms : List Mention) → AllByRecursion IsSided ms → AllByRecursion IsSide (map signed_name ms)
  sides_there [] are = tt
  sides_there (m ∷ ms) are = (sided_side m.sign are.0, sides_there ms are.1)

  are_sides : (ms : List Mention) → AreSewn ms → AreSides (map signed_name ms)
  are_sides [] are = tt
  are_sides (m ∷ ms) are = (ap (λ (s : Option Turn). unwrap_or s Forward) are.0, sides_there ms are.1)

  bare_count : (ms : List Mention) → length (map number_of_mention ms) ≡ length ms
  bare_count ms = simp length-map

  sewn_count : (ms : List Mention) → length (map name_of (map signed_name ms)) ≡ length ms
  sewn_count ms = simp length-map

  meant_there : (p : Phrase) → IsLegal p → fault_of shapes locations p ≡ None → HasLine shapes locations (meaning_of p)
  meant_there (Replace s place t l) is e =
      let both = first_none (selection_fault shapes locations s place) (selection_fault shapes locations t l) e in
      let source = selection_there s place both.0 in
      let target = selection_there t l both.1 in
      ((source.shape, source.place), (target.shape, location_there l place target.place source.place))
  meant_there (Remove s place) is e = (let source = selection_there s place e in (source.shape, source.place))
  meant_there (Merge ms) is e =
      record {
        are_shapes = bare_there ms e;
        some = subst (λ (n : ℕ). 2 ≤ n) (sym (bare_count ms)) is.0.some;
        distinct =
            is.0.distinct;
      }
  meant_there (Sew ms) is e = (
    record {
      are_shapes = sewn_there ms e;
      some = subst (λ (n : ℕ). 2 ≤ n) (sym (sewn_count ms)) is.0.some;
      distinct = subst (AllPairs (λ x y. x ≢ y)) (sym (names_of_sewn ms)) is.0.distinct;
    },
    are_sides ms is.1,
  )
  meant_there Apply is e = tt
  meant_there Undo is e = tt
  meant_there (Until kind) is e = tt
  meant_there Prune is e = tt
  meant_there OutputFirst is e = tt

  module _ (lines : LinesSpellOneCommand) where
    command_there : (line : List ℕ) (c : Command) → IsLineOf shapes locations line c
        → IsCommandOf shapes locations (words_of line) c
    command_there line c e = subst (Answers shapes locations (words_of line)) e (answers lines shapes locations line)

    pub only_there : (line : List ℕ) (c : Command) → IsLineOf shapes locations line c → HasLine shapes locations c
    only_there line c e =
        let is = command_there line c e in
        subst (HasLine shapes locations) (sym is.1.1.1) (meant_there is.0 is.1.0.legal is.1.1.0)

-- ---- no line of a command is shorter than the one that is written

sign_shorter : (s : Option Turn) (n : ℕ) → length (spell_mention (mention_for n (sign_for (unwrap_or s Forward))))
    ≤ length (spell_mention (mention_for n s))
sign_shorter None n = omega arith
sign_shorter (Some Forward) n = omega arith
sign_shorter (Some Reversed) n = omega arith
sign_shorter (Some Internal) n = omega arith
sign_shorter (Some External) n = omega arith

number_shorter : (word : List ℕ) (b : Bool) (n : ℕ) → size_of (spell_number word (if b then None else Some n))
    ≤ size_of (spell_number word (Some n))
number_shorter word true n = omega arith
number_shorter word false n = omega arith

nothing_to_say : (n : ℕ) → (n == n) ≡ true
nothing_to_say n =
    elim (eqb_tells n n) [
      | inl is ↦ is.0
      | inr other ↦ absurd (other.1 refl)
    ]

location_shorter : (l place : Option ℕ)
    → size_of (spell_number (codes "loc") (location_for place (unwrap_or l (unwrap_or place 0))))
    ≤ size_of (spell_number (codes "loc") l)
location_shorter None place = rw (nothing_to_say (unwrap_or place 0)) (omega arith)
location_shorter (Some n) place = number_shorter (codes "loc") (n == unwrap_or place 0) n

size-append : (xs ys : List (List ℕ)) → size_of (xs ++ ys) ≡ size_of xs + size_of ys
size-append [] ys = omega arith
size-append (x ∷ xs) ys = (let rest = size-append xs ys in omega (arith, rest))

bare_shorter : (ms : List Mention) → AllByRecursion IsBare ms
    → size_of (map spell_mention (map bare_mention (map number_of_mention ms))) ≤ size_of (map spell_mention ms)
bare_shorter [] are = omega arith
bare_shorter (m ∷ ms) are =
    let rest = bare_shorter ms are.1 in
    let first : length (spell_mention (bare_mention m.number)) ≡ length (spell_mention m) =
    ap (λ (s : Option Turn). length (spell_mention (mention_for m.number s))) (sym are.0) in
    omega (arith, rest, first)

sewn_shorter : (ms : List Mention) → size_of (map spell_mention (map sewn_mention (map signed_name ms)))
    ≤ size_of (map spell_mention ms)
sewn_shorter [] = omega arith
sewn_shorter (m ∷ ms) =
    let rest = sewn_shorter ms in
    let first = sign_shorter m.sign m.number in
    omega (arith, rest, first)

phrase_shorter : (p : Phrase) → IsLegal p → size_of (spelling (phrase_for (meaning_of p))) ≤ size_of (spelling p)
phrase_shorter (Replace s place t l) is =
    let target = sign_shorter t.sign t.number in
    let at = location_shorter l place in
    let whole = size-append (spell_number (codes "at") place)
    (codes "by" ∷ spell_mention t ∷ spell_number (codes "loc") l) in
    let written = size-append (spell_number (codes "at") place)
    (codes "by" ∷ spell_mention (mention_for t.number (sign_for (unwrap_or t.sign Forward))) ∷ spell_number
    (codes "loc") (location_for place (unwrap_or l (unwrap_or place 0)))) in
    omega (arith, target, at, whole, written)
phrase_shorter (Remove s place) is = omega arith
phrase_shorter (Merge ms) is = (let all = bare_shorter ms is.1 in omega (arith, all))
phrase_shorter (Sew ms) is = (let all = sewn_shorter ms in omega (arith, all))
phrase_shorter Apply is = omega arith
phrase_shorter Undo is = omega arith
phrase_shorter (Until kind) is = omega arith
phrase_shorter Prune is = omega arith
phrase_shorter OutputFirst is = omega arith

spelled_some : (p : Phrase) → 0 < length (spelling p)
spelled_some (Replace s place t l) = omega arith
spelled_some (Remove s place) = omega arith
spelled_some (Merge ms) = omega arith
spelled_some (Sew ms) = omega arith
spelled_some Apply = omega arith
spelled_some Undo = omega arith
spelled_some (Until kind) = omega arith
spelled_some Prune = omega arith
spelled_some OutputFirst = omega arith

line_shorter : (line : List ℕ) (p : Phrase) → Spells (words_of line) p
    → length (line_of_command (meaning_of p)) ≤ length line
line_shorter line p is =
    let shorter = phrase_shorter p is.legal in
    let written = joined_size (spelling (phrase_for (meaning_of p))) (spelled_some (phrase_for (meaning_of p))) in
    let same = ap size_of is.spelled in
    let fits = line_size_fits line in
    omega (arith, shorter, written, same, fits)

same_command : (c d : Command) → gives c ≡ gives d → c ≡ d
same_command c d e = cc

module _ (lines : LinesSpellOneCommand) (plain : WrittenIsRead) where
  written : (shapes locations : ℕ) → IsShort shapes → IsShort locations → CommandsAreWritten shapes locations
  written shapes locations few_shapes few_locations = record {
    back = line_back shapes locations few_shapes few_locations lines plain;
    only = only_there shapes locations lines;
    shortest = λ line c e. (let is = command_there shapes locations lines line c e in
        subst (λ (d : Command). length (line_of_command d) ≤ length line) (sym is.1.1.1)
        (line_shorter line is.0 is.1.0));
    told = λ c d has_c has_d same. same_command c d
        (sym (line_back shapes locations few_shapes few_locations lines plain c has_c)
        ∙ ap (command_of_line shapes locations) same ∙ line_back shapes locations few_shapes few_locations lines
        plain d has_d);
  }

  pub commands_have_lines : CommandsHaveLines
  commands_have_lines = written
