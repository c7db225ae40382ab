-- The ends by the tests.
use Rattle.std.proofs.Common.{◌≡◌, ◌∙◌, ◌++◌, sym, ap, subst, ℕ, List}
use Rattle.std.specs.List.{flat_map}
use Rattle.shape_pool.specs.Laws.{ids_used}
use Rattle.requests.specs.declared.request.Request.{Request}
use Rattle.orientation.specs.declared.rule.Rule.{Rule}
use Rattle.orientation.specs.Rules.{is_above}
use Rattle.requests.specs.Numbered.{starts_plain, AreHeldIn}
use Rattle.requests.specs.Readings.{targets_at}
use Rattle.requests.proofs.HeldLaws.{held-live}
use Rattle.requests.proofs.EndLaws.{by_requests, ends-with}
use Rattle.requests.proofs.ends.list_ends.Goals as goal

pub push_all_targets-requires-clause-held : goal.push_all_targets-requires-clause-held
push_all_targets-requires-clause-held c =
    subst (AreHeldIn c.args.pool.now) (sym c.live-live.ensures)
    (held-live c.args.pool.now c.args.table.now.requests c.args.id.0 c.requires.held)

pub returns-in_ok-push_uses : goal.returns-in_ok-push_uses
returns-in_ok-push_uses c =
    let rows = c.args.pool.now in
    let i : ℕ = c.args.id.0 in
    let first : c.push_all_targets.new.ends.items ≡ by_requests rows c.args.table.now i =
    c.in_ok-push_all_targets.ensures ∙
    ap (λ l. l ++ flat_map (λ (r : Request). targets_at rows i r.act) c.live-live.result.now) c.clear.ensures.items ∙
    ap (flat_map (λ (r : Request). targets_at rows i r.act)) c.live-live.ensures in
    c.in_ok-push_uses.ensures ∙ ap (λ (l : List ℕ). l ++ ids_used rows i) first ∙ sym (ends-with rows c.args.table.now i
    (ap starts_plain (sym c.live-live.ensures) ∙ sym c.starts_unconditional.ensures ∙ c.if-not-starts_unconditional.true)
    (ap (is_above c.args.table.now.rule.stop) (sym c.kind.ensures) ∙ ap (λ (r : Rule). is_above r.stop c.kind.result) (sym c.rule.ensures) ∙
    sym c.enters.ensures ∙ c.if-enters.true))
