-- Whole scripts: what their lines say is one thing, and then their commands are carried out.
use Rattle.std.proofs.Common.{◌≡◌, ◌∙◌, sym, ap, subst, subst₂, inl, inr}
use Rattle.std.specs.Prelude.{ℕ, List, length}
use Rattle.brep_file.specs.declared.file.File.{File}
use Rattle.script_text.specs.declared.command.LineFault.{LineFault}
use Rattle.script_text.specs.declared.command.LineFault.TheVariants as faults
use Rattle.script_requests.specs.declared.fault.ScriptFault.{ScriptFault}
use Rattle.session.specs.declared.fault.SessionFault.TheVariants.{Script}
use Rattle.session.specs.States.{first_state}
use Rattle.script_runs.specs.Runs.{RunsTo, StopsFor}
use Rattle.script_runs.specs.Scripts.{IsTold}
use Rattle.run_laws.specs.Agreeing.{RunsAgree, ScriptsAgree}

told-one : (shapes locations line : ℕ) (e : LineFault) (a b : ScriptFault) → IsTold shapes locations line e a →
    IsTold shapes locations line e b → a ≡ b
told-one shapes locations line faults.Syntax a b h k = h ∙ sym k
told-one shapes locations line (faults.NoSuchShape n) a b h k = h ∙ sym k
told-one shapes locations line (faults.NoSuchLocation n) a b h k = h ∙ sym k
told-one shapes locations line faults.NoMemory a b h k = absurd h

pub scripts-agree : (f : File) (bytes : List ℕ) → RunsAgree f → ScriptsAgree f bytes
scripts-agree f bytes runs = let shapes = length f.records in let locations = length f.locations in record {
  apart =
      λ end fault p q. elim q [
        | inl (told, e, (line, of_line, g, t)) ↦ (let r = p.1 in absurd cc)
        | inr (ds, g, stops) ↦ (
            let r = p.1 in
            let same : p.0 ≡ ds = cc in
            runs.apart ds end fault (subst (λ z. RunsTo f (first_state f) z end) same p.2) stops)
      ];
  ends =
      λ a b p q.
      let r = p.1 in
      let g = q.1 in
      let same : p.0 ≡ q.0 = cc in
      runs.ends q.0 a b (subst (λ z. RunsTo f (first_state f) z a) same p.2) q.2;
  faults =
      λ a b p q. elim p [
        | inl (told, e, (line, of_line, r, t)) ↦ elim q [
          | inl (told', e', (line', of_line', g, t')) ↦ (
              let lines : line ≡ line' = cc in
              let same : of_line ≡ of_line' = cc in
              let one =
              told-one shapes locations line' of_line' told told'
              (subst₂ (λ n v. IsTold shapes locations n v told) lines same t) t' in
              inl (e ∙ ap Script one ∙ sym e'))
          | inr (ds, g, stops) ↦ absurd cc
        ]
        | inr (cs, r, stops) ↦ elim q [
          | inl (told', e', (line', of_line', g, t')) ↦ absurd cc
          | inr (ds, g, stops') ↦ (
              let same : cs ≡ ds = cc in
              runs.faults ds a b (subst (λ z. StopsFor f (first_state f) z a) same stops) stops')
        ]
      ];
}
