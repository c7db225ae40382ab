-- What the names hold has one pair of texts that are due.
use Rattle.std.proofs.Common.{◌≡◌, ◌∙◌, sym, ap, subst}
use Rattle.std.specs.Prelude.{ℕ, List, Some}
use Rattle.std.proofs.lemmas.Option.{same_Some}
use Rattle.brep_desk.specs.Shown.{Shown, Tells}
use Rattle.brep_file.specs.ReadingLaws.{ReadingIsExact}
use Rattle.brep_file.specs.Reads.{Spells}
use Rattle.brep_file.specs.declared.file.File.{File}
use Rattle.brep_writer.specs.WrittenFile.{text_of}
use Rattle.history_text.specs.HistoryText as history_text
use Rattle.session.specs.States.{State}
use Rattle.script_runs.specs.Runs.{IsRun}
use Rattle.run_laws.specs.Agreeing.{EndsAgree, ScriptsAgree}
use Rattle.brep_run.specs.Rewrite.{AreTextsOf, HoldsFile, HoldsScript}
use Rattle.outcome_laws.specs.OneOutcome.{TextsAreOne}

module _ (reading : ReadingIsExact) (old : Shown) where
  one-held : (name xs ys : List ℕ) → old.held name ≡ Some xs → old.held name ≡ Some ys → xs ≡ ys
  one-held name xs ys e g = same_Some xs ys (sym e ∙ g)

  one-file : (source : List ℕ) (f g : File) → HoldsFile old source f → HoldsFile old source g → f ≡ g
  one-file source f g a b =
      let same = one-held source a.bytes b.bytes a.holds.held b.holds.held in
      reading.one b.bytes f g (subst (λ l. Spells l f) same a.reads.spells) b.reads.spells

  one-script : (script xs ys : List ℕ) → HoldsScript old script xs → HoldsScript old script ys → xs ≡ ys
  one-script script xs ys a b = one-held script xs ys a.held b.held

  texts-of : (f : File) (a b : State) (text told text' told' : List ℕ) → EndsAgree f a b → AreTextsOf f a text told →
      AreTextsOf f b text' told' → (text ≡ text') × (told ≡ told')
  texts-of f a b text told text' told' ends p q = (
    p.written ∙ (λ i. text_of f (ends.root i) (ends.version i)) ∙ sym q.written,
    p.history.1 ∙
        ap history_text.text_of (ends.history_file p.history.0 q.history.0 p.history.2 q.history.2) ∙
        sym q.history.1,
  )

  pub texts-one : ((f : File) (lines : List ℕ) → ScriptsAgree f lines) → (t : Tells) (source script : List ℕ) →
      TextsAreOne t old source script
  texts-one agree t source script held text told text' told' p q =
      let (f, a, of_a, p_texts) = p held in
      let (g, b, of_b, q_texts) = q held in
      let same = one-file source g f of_b.file of_a.file in
      let lines = one-script script of_b.lines of_a.lines of_b.held of_a.held in
      let run : IsRun f of_a.lines b =
      subst (λ l. IsRun f l b) lines (subst (λ z. IsRun z of_b.lines b) same of_b.run) in
      texts-of f a b text told text' told' ((agree f of_a.lines).ends a b of_a.run run) p_texts
      (subst (λ z. AreTextsOf z b text' told') same q_texts)
