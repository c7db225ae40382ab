-- Live requests where one more is given.
use Rattle.std.proofs.Common.{◌≡◌, ◌∙◌, ◌++◌, ◌∷◌, [], sym, ap, subst, ℕ, List, nat_eq}
use Rattle.std.proofs.lemmas.Bool.{eqb-true}
use Rattle.requests.specs.declared.request.Request.{Request}
use Rattle.requests.specs.Numbered.{live_at, with_live}
use Rattle.requests.specs.Indexed.{listed_at}
use Rattle.lists.proofs.Cases.{by_test}
use Rattle.requests.proofs.LiveLaws.{live-source, live-others, nat_eq-apart}
use Rattle.requests.proofs.table.RequestTable.give.Goals as goal

pub invariant_of-self-in-Ok : goal.invariant_of-self-in-Ok
invariant_of-self-in-Ok c =
    let given : List Request = c.self.inside.given.items in
    let more : c.push.new.self.items ≡ given ++ c.args.r ∷ [] = c.in_ok-push.ensures.items in
    record {
      spared = c.in-Ok.ensures.spared;
      listed =
          λ i. subst (λ (l : List Request). listed_at c.note.new.sources.keys c.note.new.live.items i ≡ live_at l i)
          (sym more)
          (by_test (nat_eq i c.args.r.source.0)
          (λ t.
          subst
          (λ (j : ℕ). listed_at c.note.new.sources.keys c.note.new.live.items j ≡
          live_at (given ++ c.args.r ∷ []) j) (sym (eqb-true i c.args.r.source.0 t))
          (c.in-Ok.ensures.source ∙ ap (λ (l : List Request). with_live l c.args.r)
          (c.self.invariant.listed c.args.r.source.0) ∙ sym (live-source given c.args.r)))
          (λ f. let n = nat_eq-apart i c.args.r.source.0 f in
          c.in-Ok.ensures.others i n ∙ c.self.invariant.listed i ∙ sym (live-others given c.args.r i n)));
    }
