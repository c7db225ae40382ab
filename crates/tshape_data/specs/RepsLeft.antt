-- What the readers of representations have still to read.
use Rattle.std.specs.Prelude.{◌≡◌, ℕ, zero, suc, List, [], ◌∷◌, ◌++◌, Option, Result, Ok, Err}
use Rattle.std.specs.Option.{option_map_or}
use Rattle.brep_tokens.specs.declared.fault.Progress.{Progress}
use Rattle.brep_tokens.specs.declared.fault.Progress.TheVariants as progress
use Rattle.brep_tokens.specs.declared.fault.ReadFault.{ReadFault}
use Rattle.brep_tokens.specs.declared.text.Token.{Token}
use Rattle.lists.specs.Results.{◌>>=◌}
use Rattle.entry_readers.specs.Reading.{Read, Refusal, fault}
use Rattle.tshape_data.specs.RepReading.{reps_from}

-- the test of a form's number has this answer
abbrev pub AnswersForm : {F : Type 0} → Result (Option F) Refusal → Result (Option F) ReadFault → Type 0
AnswersForm answer (Ok form) = answer ≡ Ok form
AnswersForm answer (Err f) = answer ≡ Err (fault f)

-- the same is left to read, and a token is due, or the end was read
abbrev pub Settles : {A : Type 0} → (List Token → Read A) → (List Token → Read A) → Type 0 → Type 0 → Progress → Type 0
Settles old new waits done progress.More = ((rest : List Token) → new rest ≡ old rest) × waits
Settles old new waits done progress.Whole = ((rest : List Token) → new rest ≡ old rest) × done

-- the rest of the representations after the form of the next, or the end
module _ {F A : Type 0} (form_at : ℕ → List Token → Read (Option F)) (rep_at : F → List Token → Read A) where
  abbrev pub then_reps : ℕ → List A → Option F × List Token → Read (List A)
  then_reps zero reps form = Ok (reps, form.1)
  then_reps (suc room) reps form =
      option_map_or (λ f. rep_at f form.1 >>= λ r. reps_from form_at rep_at room (reps ++ r.0 ∷ []) r.1) form.0
      (Ok (reps, form.1))
