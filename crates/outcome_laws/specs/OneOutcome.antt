-- A script, carried out on a file, has one answer and one pair of texts.
use Rattle.std.specs.Prelude.{◌≡◌, ◌⊎◌, ℕ, IsTrue, List}
use Rattle.brep_desk.specs.Shown.{Shown, Tells}
use Rattle.brep_file.specs.declared.file.File.{File}
use Rattle.run_laws.specs.Agreeing.{IsOfWords}
use Rattle.brep_run.specs.Answering.{IsRunAnswer}
use Rattle.brep_run.specs.Rewrite.{AreDue}
use Rattle.brep_run.specs.declared.outcome.Outcome.{Outcome}
use Rattle.brep_run.specs.declared.outcome.Outcome.TheVariants.{Limit, NoMemory}

-- an answer tells of the keys that hold a word, or of a word past its limit
abbrev pub TellsOfWords : Outcome → Type 0
TellsOfWords (Limit which count) = IsOfWords which
TellsOfWords _ = ⊥

-- two answers are one, or memory was wanted, or both tell of words
abbrev pub OutcomesAgree : Outcome → Outcome → Type 0
OutcomesAgree a b = (a ≡ b) ⊎ ((a ≡ NoMemory) ⊎ ((b ≡ NoMemory) ⊎ (TellsOfWords a × TellsOfWords b)))

-- what the lines of a script may be answered with agrees
abbrev pub AnswersAgree : File → List ℕ → Type 0
AnswersAgree f lines = (a b : Outcome) → IsRunAnswer f lines a → IsRunAnswer f lines b → OutcomesAgree a b

-- where it is told what the names hold, one text of the file and one of the history are due
abbrev pub TextsAreOne : Tells → Shown → List ℕ → List ℕ → Type 0
TextsAreOne t old source script =
    IsTrue t.held → (text told text' told' : List ℕ) → AreDue t old source script text told →
    AreDue t old source script text' told' → (text ≡ text') × (told ≡ told')
