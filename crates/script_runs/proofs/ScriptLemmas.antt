-- What a script says, line by line.
use Rattle.std.proofs.Common.{◌≡◌, ◌∙◌, ℕ, ◌+◌, List, [], ◌∷◌, ◌++◌, Option, Some}
use Rattle.std.proofs.Common.{None, Result, Ok, Err, refl, sym, ap, subst}
use Rattle.std.proofs.lemmas.List.{append-nil}
use Rattle.std.proofs.lemmas.List.Elements.{All-nil, All-cons}
use Rattle.script_text.specs.Laws.{CommandsAreWritten}
use Rattle.script_text.specs.Lines.{script_lines}
use Rattle.script_text.specs.Meaning.{command_of_line}
use Rattle.script_text.specs.Writing.{HasLine}
use Rattle.script_text.specs.declared.command.Command.{Command}
use Rattle.script_text.specs.declared.command.LineFault.{LineFault}
use Rattle.script_runs.specs.declared.commands.LineCommand.{LineCommand}
use Rattle.script_runs.specs.Scripts.{AreLines, ScriptRead, commands, faulty_line, after_commands, with_line}
use Rattle.script_runs.specs.Scripts.{lines_read, script_read}

append-push : {A : Type 0} (xs : List A) (x : A) (ys : List A) → xs ++ ((x ∷ []) ++ ys) ≡ (xs ++ x ∷ []) ++ ys
append-push [] x ys = refl
append-push (z ∷ xs) x ys = ap (λ l. z ∷ l) (append-push xs x ys)

pub after-push : (first : List LineCommand) (c : LineCommand) (said : ScriptRead)
    → after_commands first (after_commands (c ∷ []) said) ≡ after_commands (first ++ c ∷ []) said
after-push first c (commands cs) = ap commands (append-push first c cs)
after-push first c (faulty_line line f) = refl

pub after-none : (said : ScriptRead) → after_commands [] said ≡ said
after-none (commands cs) = refl
after-none (faulty_line line f) = refl

pub before-none : (first : List LineCommand) → after_commands first (commands []) ≡ commands first
before-none first = ap commands (append-nil first)

pub read-start : (shapes locations : ℕ) (script : List ℕ) (taken : List LineCommand) (ls : List (List ℕ)) → taken ≡ []
    → ls ≡ script_lines script →
    after_commands taken (lines_read shapes locations 1 ls) ≡ script_read shapes locations script
unfolding script_read
read-start shapes locations script taken ls none e =
    ap (λ first. after_commands first (lines_read shapes locations 1 ls)) none
    ∙ after-none (lines_read shapes locations 1 ls) ∙ ap (λ l. lines_read shapes locations 1 l) e

pub read-end : (shapes locations line : ℕ) (taken : List LineCommand) (ls : List (List ℕ)) (said : ScriptRead) → ls ≡ []
    → after_commands taken (lines_read shapes locations line ls) ≡ said → said ≡ commands taken
read-end shapes locations line taken ls said none e =
    sym e ∙ ap (λ l. after_commands taken (lines_read shapes locations line l)) none ∙ before-none taken

pub fault-decides : (first : List LineCommand) (line : ℕ) (f : LineFault) (rest : ScriptRead)
    → after_commands first (with_line line (Err f) rest) ≡ faulty_line line f
fault-decides first line f rest = refl

-- ---- each command is one that a line gives

pub same-commands : (a b : List LineCommand) → commands a ≡ commands b → a ≡ b
same-commands a b e = cc

module _ (shapes locations : ℕ) (written : CommandsAreWritten shapes locations) where
  abbrev HasCommandLine : LineCommand → Type 0
  HasCommandLine c = HasLine shapes locations c.command

  after-lined : (c : LineCommand) (said : ScriptRead) (cs : List LineCommand) → HasCommandLine c
      → ((ds : List LineCommand) → said ≡ commands ds → AreLines shapes locations ds) →
      after_commands (c ∷ []) said ≡ commands cs → AreLines shapes locations cs
  after-lined c (commands ds) cs has h e =
      subst (AreLines shapes locations) (same-commands _ _ e) (All-cons HasCommandLine c ds has (h ds refl))
  after-lined c (faulty_line line f) cs has h e = cc

  with-lined : (line : ℕ) (l : List ℕ) (r : Result (Option Command) LineFault) (said : ScriptRead)
      (cs : List LineCommand)
      → command_of_line shapes locations l ≡ r →
      ((ds : List LineCommand) → said ≡ commands ds → AreLines shapes locations ds) →
      with_line line r said ≡ commands cs → AreLines shapes locations cs
  with-lined line l (Ok None) said cs is h e = h cs e
  with-lined line l (Ok (Some c)) said cs is h e =
      after-lined (record { line = line; command = c }) said cs (written.only l c is) h e
  with-lined line l (Err f) said cs is h e = cc

  lines-lined : (line : ℕ) (ls : List (List ℕ)) (cs : List LineCommand)
      → lines_read shapes locations line ls ≡ commands cs → AreLines shapes locations cs
  lines-lined line [] cs e = subst (AreLines shapes locations) (same-commands _ _ e) (All-nil HasCommandLine)
  lines-lined line (l ∷ ls) cs e =
      with-lined line l (command_of_line shapes locations l) (lines_read shapes locations (line + 1) ls) cs refl
      (lines-lined (line + 1) ls) e

  pub script-lined : (script : List ℕ) (cs : List LineCommand) → script_read shapes locations script ≡ commands cs
      → AreLines shapes locations cs
  unfolding script_read
  script-lined script cs said = lines-lined 1 (script_lines script) cs said
