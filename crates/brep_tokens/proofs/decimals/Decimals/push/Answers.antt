use Rattle.std.proofs.Common.{[], ◌∷◌, ◌++◌, ◌∙◌, ap}
use Rattle.brep_tokens.proofs.SpacedLemmas.{appended, spaced_push, texts_pushed}
use Rattle.brep_tokens.proofs.decimals.Decimals.push.Goals as goal

pub invariant_of-self-in-Ok : goal.invariant_of-self-in-Ok
invariant_of-self-in-Ok c =
    let run = appended _ _ _ _ _ c.reserve.ensures.items c.push_reserved.ensures.items c.in-Ok.ensures.items in
    let whole = c.has_no_space.ensures.0 c.if-not-has_no_space.false in
    spaced_push _ _ _ _ c.self.invariant whole run

pub returns-clause-ok : goal.returns-clause-ok
returns-clause-ok c =
    let run = appended _ _ _ _ _ c.reserve.ensures.items c.push_reserved.ensures.items c.in-Ok.ensures.items in
    let whole = c.has_no_space.ensures.0 c.if-not-has_no_space.false in
    texts_pushed _ _ _ whole run ∙ ap (λ v. v ++ c.args.item.now ∷ []) c.self.view_is
