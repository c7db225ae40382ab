-- The command of a line is the one that its words spell.
use Rattle.std.proofs.Common.{◌≡◌, ℕ, inl, inr, Bool, true, false, ◌&&◌, nat_le, if◌then◌else◌, List, [], ◌∷◌, Option}
use Rattle.std.proofs.Common.{Some, None, Result, Ok, Err, refl, sym, ap, subst, ◌∙◌}
use Rattle.brep_tokens.specs.Laws.{FormsAreExact}
use Rattle.script_text.specs.Answers.{Answers}
use Rattle.script_text.specs.Laws.{LinesSpellOneCommand}
use Rattle.script_text.specs.Meaning.{Gives, first_fault, mentions_fault, selection_fault, command_of_line}
use Rattle.script_text.specs.Meaning.{command_of_phrase, fault_of, meaning_of, shape_fault, location_fault}
use Rattle.script_text.specs.Meaning.{unless_faulty}
use Rattle.script_text.specs.Reading.{phrase_of}
use Rattle.script_text.specs.Spelling.{Spells, spelling}
use Rattle.script_text.specs.Words.{is_nothing, words_of}
use Rattle.script_text.specs.declared.command.Command.{Command}
use Rattle.script_text.specs.declared.command.LineFault.{LineFault}
use Rattle.script_text.specs.declared.command.LineFault.TheVariants.{Syntax, NoSuchShape, NoSuchLocation, NoMemory}
use Rattle.script_text.specs.declared.phrase.Mention.{Mention}
use Rattle.script_text.specs.declared.phrase.Phrase.{Phrase}
use Rattle.script_text.specs.declared.phrase.Phrase.TheVariants.{Replace, Remove, Merge, Sew, Apply, Undo, Until, Prune}
use Rattle.script_text.specs.declared.phrase.Phrase.TheVariants.{OutputFirst}
use Rattle.script_text.proofs.ReadingParts.{none_some, some_is}
use Rattle.script_text.proofs.ReadingWhole.{phrase_back, phrase_there}

true_false : true ≡ false → ⊥
true_false e = cc

pub spelling_says : (p : Phrase) → is_nothing (spelling p) ≡ false
spelling_says (Replace s place t l) = refl
spelling_says (Remove s place) = refl
spelling_says (Merge ms) = refl
spelling_says (Sew ms) = refl
spelling_says Apply = refl
spelling_says Undo = refl
spelling_says (Until kind) = refl
spelling_says Prune = refl
spelling_says OutputFirst = refl

not_nothing : (words : List (List ℕ)) (p : Phrase) → is_nothing words ≡ true → Spells words p → ⊥
not_nothing words p nothing is = true_false (sym nothing ∙ ap is_nothing is.spelled ∙ spelling_says p)

module _ (forms : FormsAreExact) where
  pub lines_spell_one_command : LinesSpellOneCommand
  lines_spell_one_command = record {
    read = λ words p. ((phrase_there forms) words p, (phrase_back forms) words p);
    one = λ words p q a b. some_is p q (sym ((phrase_back forms) words p a) ∙ (phrase_back forms) words q b);
    nothing = not_nothing;
  }

-- a number out of range
IsRange : Option LineFault → Type 0
IsRange None = Unit {0}
IsRange (Some Syntax) = ⊥
IsRange (Some (NoSuchShape n)) = Unit {0}
IsRange (Some (NoSuchLocation n)) = Unit {0}
IsRange (Some NoMemory) = ⊥

shape_range : (x : Bool) (n : ℕ) → IsRange (if x then None else Some (NoSuchShape n))
unfolding IsRange
shape_range true n = tt
shape_range false n = tt

location_if : (x : Bool) (n : ℕ) → IsRange (if x then None else Some (NoSuchLocation n))
unfolding IsRange
location_if true n = tt
location_if false n = tt

location_range : (locations : ℕ) (o : Option ℕ) → IsRange (location_fault locations o)
unfolding IsRange
location_range locations None = tt
location_range locations (Some n) = location_if (nat_le n locations) n

first_range : (a b : Option LineFault) → IsRange a → IsRange b → IsRange (first_fault a b)
first_range None b x y = y
first_range (Some f) b x y = x

selection_range : (shapes locations : ℕ) (m : Mention) (o : Option ℕ) → IsRange (selection_fault shapes locations m o)
selection_range shapes locations m o =
    first_range (shape_fault shapes m.number) (location_fault locations o)
    (shape_range (nat_le 1 m.number && nat_le m.number shapes) m.number) (location_range locations o)

mentions_range : (shapes : ℕ) (ms : List Mention) → IsRange (mentions_fault shapes ms)
unfolding IsRange
mentions_range shapes [] = tt
mentions_range shapes (m ∷ ms) =
    first_range (shape_fault shapes m.number) (mentions_fault shapes ms)
    (shape_range (nat_le 1 m.number && nat_le m.number shapes) m.number) (mentions_range shapes ms)

fault_range : (shapes locations : ℕ) (p : Phrase) → IsRange (fault_of shapes locations p)
unfolding IsRange
fault_range shapes locations (Replace s place t l) =
    first_range (selection_fault shapes locations s place) (selection_fault shapes locations t l)
    (selection_range shapes locations s place) (selection_range shapes locations t l)
fault_range shapes locations (Remove s place) = selection_range shapes locations s place
fault_range shapes locations (Merge ms) = mentions_range shapes ms
fault_range shapes locations (Sew ms) = mentions_range shapes ms
fault_range shapes locations Apply = tt
fault_range shapes locations Undo = tt
fault_range shapes locations (Until kind) = tt
fault_range shapes locations Prune = tt
fault_range shapes locations OutputFirst = tt

no_syntax : (o : Option LineFault) → IsRange o → o ≡ Some Syntax → ⊥
unfolding IsRange
no_syntax o range e = subst IsRange e range

faulty : (shapes locations : ℕ) (words : List (List ℕ)) (p : Phrase) (f : LineFault) → Spells words p
    → fault_of shapes locations p ≡ Some f → Answers shapes locations words (Err f)
faulty shapes locations words p Syntax is e =
    absurd (no_syntax (fault_of shapes locations p) (fault_range shapes locations p) e)
faulty shapes locations words p (NoSuchShape n) is e = (p, (is, e))
faulty shapes locations words p (NoSuchLocation n) is e = (p, (is, e))
faulty shapes locations words p NoMemory is e = tt

spoken : (shapes locations : ℕ) (words : List (List ℕ)) (p : Phrase) (o : Option LineFault) → Spells words p
    → fault_of shapes locations p ≡ o → Answers shapes locations words (unless_faulty (meaning_of p) o)
spoken shapes locations words p None is e = (p, (is, (e, refl)))
spoken shapes locations words p (Some f) is e = faulty shapes locations words p f is e

module _ (lines : LinesSpellOneCommand) where
  with_phrase : (shapes locations : ℕ) (words : List (List ℕ)) (o : Option Phrase) → is_nothing words ≡ false
      → phrase_of words ≡ o → Answers shapes locations words (command_of_phrase shapes locations o)
  with_phrase shapes locations words None says e =
      (says, λ p is. none_some (phrase_of words) p e ((lines.read words p).1 is))
  with_phrase shapes locations words (Some p) says e = spoken shapes locations words p (fault_of shapes locations p)
      ((lines.read words p).0 e) refl

  by_words : (shapes locations : ℕ) (x : Bool) (words : List (List ℕ)) → is_nothing words ≡ x
      → Answers shapes locations words (if x then Ok None else command_of_phrase shapes locations (phrase_of words))
  by_words shapes locations true words is = is
  by_words shapes locations false words is = with_phrase shapes locations words (phrase_of words) is refl

  pub answers : (shapes locations : ℕ) (line : List ℕ)
      → Answers shapes locations (words_of line) (command_of_line shapes locations line)
  answers shapes locations line = by_words shapes locations (is_nothing (words_of line)) (words_of line) refl

  pub answers_given : (shapes locations : ℕ) (line : List ℕ) (r : Result (Option Command) LineFault)
      → Gives r (command_of_line shapes locations line) → Answers shapes locations (words_of line) r
  answers_given shapes locations line (Ok c) gives = subst (Answers shapes locations (words_of line)) gives
      (answers shapes locations line)
  answers_given shapes locations line (Err f) (inl wanted) =
      subst (λ (e : LineFault). Answers shapes locations (words_of line) (Err e)) (sym wanted) tt
  answers_given shapes locations line (Err f) (inr gives) = subst (Answers shapes locations (words_of line)) gives
      (answers shapes locations line)
