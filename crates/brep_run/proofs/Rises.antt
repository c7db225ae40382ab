-- How a count of steps goes while names are read, and the file and the script that a name holds.
use Rattle.std.proofs.Common.{◌≡◌, ◌≤◌, ℕ, List, [], ◌∷◌, Some, IsTrue, inl, refl, sym, subst, ◌∙◌, arith}
use Rattle.brep_desk.specs.Shown.{Shown, Tells}
use Rattle.expansion_laws.specs.Requests.{Request}
use Rattle.brep_file.specs.declared.file.File.{File}
use Rattle.brep_file.specs.ReadingLaws.{ReadingIsExact}
use Rattle.brep_file.specs.Reads.{Reads}
use Rattle.brep_file.specs.Sound.{file_limits}
use Rattle.script_text.specs.declared.command.Command.{Command}
use Rattle.script_text.specs.declared.command.Command.TheVariants as commands
use Rattle.session.specs.Commands.{RisesBy, RisesByStep}
use Rattle.session.specs.States.{State, first_state}
use Rattle.script_runs.specs.Runs.{RisesInRun, RisesInScript, RisesBySaid}
use Rattle.script_runs.specs.Scripts as scripts
use Rattle.brep_run.specs.Rewrite.{HoldsFile, HoldsScript, IsRewriteRise}

-- ---- a count that stays
stays-by-step : (f : File) (s : State) (rs : List Request) (n : ℕ) → RisesByStep f s rs n n
stays-by-step f s [] n = refl
stays-by-step f s (r ∷ rs) n = λ m counts. omega arith

stays-by : (f : File) (s : State) (c : Command) (n : ℕ) → RisesBy f s c n n
stays-by f s commands.Apply n = stays-by-step f s s.requests n
stays-by f s commands.Undo n = refl
stays-by f s (commands.Until kind) n = refl
stays-by f s commands.Prune n = refl
stays-by f s commands.OutputFirst n = refl
stays-by f s (commands.Replace sel tgt) n = refl
stays-by f s (commands.Remove sel) n = refl
stays-by f s (commands.Merge names) n = refl
stays-by f s (commands.Sew names) n = refl

stays-in-run : (f : File) (s : State) (cs : _) (n : ℕ) → RisesInRun f s cs n n
stays-in-run f s [] n = stays-by f s commands.Apply n
stays-in-run f s (c ∷ cs) n = inl (stays-by f s c.command n)

stays-by-said : (f : File) (said : scripts.ScriptRead) (n : ℕ) → RisesBySaid f said n n
stays-by-said f (scripts.commands cs) n = stays-in-run f (first_state f) cs n
stays-by-said f (scripts.faulty_line line e) n = refl

pub stays-rise : (t : Tells) (old : Shown) (source script : List ℕ) (n : ℕ) → IsRewriteRise t old source script n n
stays-rise t old source script n = record {
  rises = omega arith;
  keys = λ told f lines file held. stays-by-said f (scripts.read_for f lines) n;
}

-- ---- what a name holds is one file, and one script
some-same : {A : Type 0} (x y : A) → Some x ≡ Some y → x ≡ y
some-same x y e = cc

one-file : ReadingIsExact → (bytes : List ℕ) (f g : File) → Reads bytes f → Reads bytes g → f ≡ g
one-file exact bytes f g a b =
    let first = exact.again file_limits bytes f a.spells a.small in
    let second = exact.again file_limits bytes g b.spells b.small in
    let both = sym first ∙ second in
    cc

module _ (exact : ReadingIsExact) (old : Shown) where
  same-file : (source : List ℕ) (f g : File) → HoldsFile old source f → HoldsFile old source g → f ≡ g
  same-file source f g a b =
      let same : b.bytes ≡ a.bytes = some-same b.bytes a.bytes (sym b.holds.held ∙ a.holds.held) in
      one-file exact a.bytes f g a.reads (subst (λ bytes. Reads bytes g) same b.reads)

  same-lines : (script a b : List ℕ) → HoldsScript old script a → HoldsScript old script b → a ≡ b
  same-lines script a b first second = some-same a b (sym first.held ∙ second.held)

  pub run-rise : (t : Tells) (source script : List ℕ) (f : File) (lines : List ℕ)
      → (IsTrue t.held → HoldsFile old source f) → (IsTrue t.held → HoldsScript old script lines) → (m n : ℕ)
      → m ≤ n → RisesInScript f lines m n → IsRewriteRise t old source script m n
  run-rise t source script f lines file held m n up risen = record {
    rises = up;
    keys = λ told g ls is are.
        subst (λ xs. RisesInScript g xs m n) (same-lines script lines ls (held told) are)
        (subst (λ h. RisesInScript h lines m n) (same-file source f g (file told) is) risen);
  }
