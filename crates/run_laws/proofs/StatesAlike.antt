-- States to which a script may lead, in one order of requests or another: the next ones are alike too.
use Rattle.std.proofs.Common.{◌≡◌, ◌∙◌, refl, sym, ap, subst, ◌++◌}
use Rattle.std.specs.Prelude.{true, List, [], ◌∷◌}
use Rattle.std.proofs.lemmas.List.Elements.{filter-append}
use Rattle.expansion_laws.specs.Trees.{Tree, Use}
use Rattle.expansion_laws.specs.Contexts.{at_root}
use Rattle.expansion_laws.specs.Requests.{Request, is_for, requests_for}
use Rattle.expansion_laws.specs.Rewriting.{StepsTo}
use Rattle.expansion_laws.specs.RewritingLaws.{IsDetermined}
use Rattle.expansion_laws.specs.Steps.{Step, root_of as new_root}
use Rattle.expansion_laws.specs.Visits.{IsImage, IsReplaced}
use Rattle.step_history.specs.Composition.{Done, root_after}
use Rattle.brep_file.specs.declared.file.File.{File}
use Rattle.brep_file.specs.PlainRecords.{expansion_of}
use Rattle.script_text.specs.declared.command.Command.{Command}
use Rattle.script_text.specs.declared.command.Command.TheVariants as commands
use Rattle.session.specs.Carrying.{Carries, Ends, TakesBack, AsksMore}
use Rattle.session.specs.States.{State, first_state, root_of, step_of, asked_too, at_rest, after_step, done_to}
use Rattle.session.specs.States.{with_steps, stopping_at, pruning, in_first_version}
use Rattle.run_laws.proofs.AskedAlike.{TreesTell, asks-alike}
use Rattle.run_laws.proofs.NamesAlike.{AllDoneAlike, DoneAlike, all-done-back}
use Rattle.run_laws.proofs.StepsAlike.{AskAlike, ask-back, StepAlike, lift, steps-to}
use Rattle.run_laws.proofs.VisitsAlike.{images, replaced}

pub record StateAlike (s t : State) : Type 0 where
  pub steps : AllDoneAlike s.steps t.steps
  pub made : s.made ≡ t.made
  pub requests : AskAlike s.requests t.requests
  pub rule : s.rule ≡ t.rule
  pub output : s.output ≡ t.output

pub state-back : (s t : State) → StateAlike s t → StateAlike t s
state-back s t a = record {
  steps = all-done-back s.steps t.steps a.steps;
  made = sym a.made;
  requests = ask-back s.requests t.requests a.requests;
  rule = sym a.rule;
  output = sym a.output;
}

-- nothing is asked where nothing is asked alike
pub not-empty : TreesTell → (q : Request) (qs : List Request) → AskAlike [] (q ∷ qs) → ⊥
not-empty tell q qs a =
    let t : is_for q.source q ≡ true = (tell q.source q.source).1 refl in
    let e : [] ≡ requests_for (q ∷ qs) q.source = a.same q.source in
    let none = rw t at e in absurd cc

ask-more : (rs qs more further : List Request) → AskAlike rs qs → AskAlike more further →
    AskAlike (rs ++ more) (qs ++ further)
ask-more rs qs more further a b = record {
  same =
      λ x.
      filter-append (is_for x) rs more ∙ (λ i. a.same x i ++ b.same x i) ∙ sym (filter-append (is_for x) qs further);
}

roots-same : (first : Use) (ds es : List Done) → AllDoneAlike ds es → root_after first ds ≡ root_after first es
roots-same first [] [] a = refl
roots-same first (d ∷ ds) (e ∷ es) a = a.0.after
roots-same first [] (e ∷ es) a = absurd a
roots-same first (d ∷ ds) [] a = absurd a

-- a step takes a root to one new root
pub one-root : ((s : Step) → IsDetermined s) → (s : Step) (root a b : Use) → StepsTo s root a → StepsTo s root b → a ≡ b
one-root one s root a b (us, of_a, e) (vs, of_b, g) = e ∙ ap new_root (one s at_root root us vs of_a of_b) ∙ sym g

module _ (f : File) where
  pub first-alike : StateAlike (first_state f) (first_state f)
  first-alike =
      record { steps = tt; made = refl; requests = record { same = λ x. refl }; rule = refl; output = refl }

  module _ (s t : State) (a : StateAlike s t) where
    pub root-same : root_of f s ≡ root_of f t
    root-same = roots-same (expansion_of f) s.steps t.steps a.steps

    pub step-alike : StepAlike (step_of f s) (step_of f t)
    step-alike = record { kinds = refl; rule = a.rule; asked = a.requests }

    pub steps-over : (new : Use) → StepsTo (step_of f s) (root_of f s) new → StepsTo (step_of f t) (root_of f t) new
    steps-over new h =
        subst (λ u. StepsTo (step_of f t) u new) root-same
        (lift (λ z. StepsTo z (root_of f s) new)
        (λ kinds rule rs qs b. steps-to kinds rule rs qs b (root_of f s) new) (step_of f s) (step_of f t) step-alike h)

    images-over : (x y : Tree) → IsImage (step_of f s) (root_of f s) x y → IsImage (step_of f t) (root_of f t) x y
    images-over x y h =
        subst (λ u. IsImage (step_of f t) u x y) root-same
        (lift (λ z. IsImage z (root_of f s) x y)
        (λ kinds rule rs qs b. images kinds rule rs qs b (root_of f s) x y) (step_of f s) (step_of f t) step-alike h)

    replaced-over : (x y : Tree) → IsReplaced (step_of f s) (root_of f s) x y →
        IsReplaced (step_of f t) (root_of f t) x y
    replaced-over x y h =
        subst (λ u. IsReplaced (step_of f t) u x y) root-same
        (lift (λ z. IsReplaced z (root_of f s) x y)
        (λ kinds rule rs qs b. replaced kinds rule rs qs b (root_of f s) x y) (step_of f s) (step_of f t) step-alike h)

  done-alike : (s t : State) → StateAlike s t → (new new' : Use) → new ≡ new' →
      DoneAlike (done_to f s new) (done_to f t new')
  done-alike s t a new new' e =
      let b = state-back s t a in record {
        kinds = refl;
        before = root-same s t a;
        after = e;
        images = λ x y. (images-over s t a x y, images-over t s b x y);
        replaced = λ x y. (replaced-over s t a x y, replaced-over t s b x y);
      }

  rest-alike : (s t : State) → StateAlike s t → StateAlike (at_rest s) (at_rest t)
  rest-alike s t a = record {
    steps = a.steps;
    made = a.made;
    requests = record { same = λ x. refl };
    rule = refl;
    output = a.output;
  }

  -- what holds of two states holds of equal ones
  to-equal : (s t a b : State) → StateAlike s t → a ≡ s → b ≡ t → StateAlike a b
  to-equal s t a b h e g = subst (λ z. StateAlike a z) (sym g) (subst (λ z. StateAlike z t) (sym e) h)

  module _ (tell : TreesTell) (one : (s : Step) → IsDetermined s) where
    module _ (s t : State) (a : StateAlike s t) where
      ends-alike : (rs qs : List Request) → AskAlike rs qs → (x y : State) → Ends f s rs x → Ends f t qs y →
          StateAlike x y
      ends-alike [] [] b x y e g = to-equal (at_rest s) (at_rest t) x y (rest-alike s t a) e g
      ends-alike [] (q ∷ qs) b x y e g = absurd (not-empty tell q qs b)
      ends-alike (r ∷ rs) [] b x y e g = absurd (not-empty tell r rs (ask-back (r ∷ rs) [] b))
      ends-alike (r ∷ rs) (q ∷ qs) b x y (new, to, e) (new', to', g) =
          let same = one-root one (step_of f t) (root_of f t) new new' (steps-over s t a new to) to' in
          to-equal (after_step f s new) (after_step f t new') x y (record {
            steps = (done-alike s t a new new' same, a.steps);
            made = λ i. same i ∷ a.made i;
            requests = record { same = λ x. refl };
            rule = refl;
            output = a.output;
          }) e g

      back-alike : (rs qs : List Request) → AskAlike rs qs → (ds es : List Done) → AllDoneAlike ds es → (x y : State) →
          TakesBack s rs ds x → TakesBack t qs es y → StateAlike x y
      back-alike (r ∷ rs) (q ∷ qs) b ds es c x y e g =
          to-equal (at_rest s) (at_rest t) x y (rest-alike s t a) e g
      back-alike [] [] b (d ∷ ds) (d' ∷ es) c x y e g = to-equal (with_steps s ds) (with_steps t es) x y (record {
        steps = c.1;
        made = a.made;
        requests = record { same = λ x. refl };
        rule = refl;
        output = a.output;
      }) e g
      back-alike [] [] b [] [] c x y e g = absurd e
      back-alike [] [] b [] (d ∷ es) c x y e g = absurd c
      back-alike [] [] b (d ∷ ds) [] c x y e g = absurd c
      back-alike [] (q ∷ qs) b ds es c x y e g = absurd (not-empty tell q qs b)
      back-alike (r ∷ rs) [] b ds es c x y e g = absurd (not-empty tell r rs (ask-back (r ∷ rs) [] b))

      asks-more : (c : Command) (x y : State) → AsksMore f s c x → AsksMore f t c y → StateAlike x y
      asks-more c x y (rs, of_rs, e) (qs, of_qs, g) = to-equal (asked_too s rs) (asked_too t qs) x y (record {
        steps = a.steps;
        made = a.made;
        requests =
            ask-more s.requests t.requests rs qs a.requests
            (asks-alike tell f s.steps t.steps a.steps c rs qs of_rs of_qs);
        rule = a.rule;
        output = a.output;
      }) e g

      pub carries-alike : (c : Command) (x y : State) → Carries f s c x → Carries f t c y → StateAlike x y
      carries-alike (commands.Replace sel tgt) x y p q = asks-more (commands.Replace sel tgt) x y p q
      carries-alike (commands.Remove sel) x y p q = asks-more (commands.Remove sel) x y p q
      carries-alike (commands.Merge names) x y p q = asks-more (commands.Merge names) x y p q
      carries-alike (commands.Sew names) x y p q = asks-more (commands.Sew names) x y p q
      carries-alike commands.Apply x y p q = ends-alike s.requests t.requests a.requests x y p q
      carries-alike commands.Undo x y p q = back-alike s.requests t.requests a.requests s.steps t.steps a.steps x y p q
      carries-alike (commands.Until kind) x y p q =
          to-equal (stopping_at s kind) (stopping_at t kind) x y (record {
            steps = a.steps;
            made = a.made;
            requests = a.requests;
            rule = λ i. record { stop = kind; prune = (a.rule i).prune };
            output = a.output;
          }) p q
      carries-alike commands.Prune x y p q = to-equal (pruning s) (pruning t) x y (record {
        steps = a.steps;
        made = a.made;
        requests = a.requests;
        rule = λ i. record { stop = (a.rule i).stop; prune = true };
        output = a.output;
      }) p q
      carries-alike commands.OutputFirst x y p q = to-equal (in_first_version s) (in_first_version t) x y (record {
        steps = a.steps;
        made = a.made;
        requests = a.requests;
        rule = a.rule;
        output = refl;
      }) p q
