-- A link is added to the place that is found.
use Rattle.std.proofs.Common.{◌≡◌, ◌∙◌, ◌<◌, ℕ, All, List, sym, ap, subst, refl, slice_get, Some}
use Rattle.std.proofs.lemmas.Result.{IfErr-weaker, on_ok_weaker}
use Rattle.lists.proofs.Errors.{IfErr-on}
use Rattle.key_results.specs.declared.derive.Link.{Link}
use Rattle.key_results.specs.Faults.{of_word}
use Rattle.reshape.proofs.LinkLaws.{some-none, same-place}
use Rattle.reshape.proofs.NoteLaws.{All-push}
use Rattle.reshape.proofs.link.link_use.Goals as goal

pub returns-in_err-found-clause-refused : goal.returns-in_err-found-clause-refused
returns-in_err-found-clause-refused c =
    IfErr-on c.from_residual.result (of_word c.in_err-found.field-0.0) _ c.from_residual.ensures.1
    (λ root s word it has. ap of_word (c.in_err-found.ensures.refused root s word it has))

pub returns-in-None-clause-links : goal.returns-in-None-clause-links
returns-in-None-clause-links c = λ root s word it demanded has.
    let f = c.in_ok-found.ensures.found root s word it demanded has in
    absurd (some-none f.0 (sym f.2 ∙ c.in-None.is))

pub returns-in-Some-clause-links : goal.returns-in-Some-clause-links
returns-in-Some-clause-links c =
    on_ok_weaker c.push_link.result (λ e root s word it demanded has.
    let f = c.in_ok-found.ensures.found root s word it demanded has in
    let place : f.0 ≡ c.in-Some.key = same-place f.0 c.in-Some.key (sym f.2 ∙ c.in-Some.is) in
    let link : Link = record { turn = c.args.u.turn; place = c.args.u.place; key = c.in-Some.key } in
    (link, e, (refl, refl, f.1, subst (λ (i : ℕ). slice_get c.args.keys.now.keys i ≡ Some f.1) place f.3, f.4, f.5)))
    c.push_link.ensures.ok

pub returns-in-Some-clause-placed : goal.returns-in-Some-clause-placed
returns-in-Some-clause-placed c =
    let link : Link = record { turn = c.args.u.turn; place = c.args.u.place; key = c.in-Some.key } in
    on_ok_weaker c.push_link.result (λ e n lt all.
    subst (λ (ls : List Link). All (λ (l : Link). l.place.0 < n) ls) (sym e)
    (All-push (λ (l : Link). l.place.0 < n) c.args.links.now.items link all lt))
    c.push_link.ensures.ok

pub returns-in-Some-clause-refused : goal.returns-in-Some-clause-refused
returns-in-Some-clause-refused c =
    IfErr-weaker c.push_link.result _ _ (λ fault e root s word it has. e) c.push_link.ensures.refused
