-- A rewriting that is done wrote the text of a root that is due.
use Rattle.std.proofs.Common.{◌≡◌, ℕ, List, Some, refl, sym, subst, ◌∙◌}
use Rattle.std.specs.Prelude.{◌≢◌}
use Rattle.brep_desk.specs.Shown.{Shown, Tells}
use Rattle.brep_writer.specs.Copies.{IsTextFor}
use Rattle.session.specs.States.{root_of}
use Rattle.brep_run.specs.Rewrite.{IsRewritten, IsRewrittenRoot}
use Rattle.brep_run.specs.Runs.{WrittenExpands}

some-same : {A : Type 0} (x y : A) → Some x ≡ Some y → x ≡ y
some-same x y e = cc

module _ (t : Tells) (old new : Shown) (source script target history : List ℕ) (apart : target ≢ history) where
  pub rewrite-expands : IsRewritten t old new source script target history
      → WrittenExpands t new target (IsRewrittenRoot old source script)
  rewrite-expands done text held written is =
      let due = done.2 held in
      let here : new.written target ≡ Some done.0 =
      (done.3.2.written written).others target apart ∙ (done.3.1.written written).here in
      let same : done.0 ≡ text = some-same _ _ (sym here ∙ is) in
      let f = due.0 in
      let end = due.1 in (
        f,
        root_of f end,
        end.output,
        (end, due.2, refl, refl),
        subst (λ x. IsTextFor f (root_of f end) end.output x) same due.3.stands,
      )
