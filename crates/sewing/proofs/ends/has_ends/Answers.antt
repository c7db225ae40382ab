-- Ends in order are one list exactly where the ends are the same.
use Rattle.std.proofs.Common.{◌≡◌, ◌∙◌, sym, subst}
use Rattle.std.specs.Prelude.{true, IsPermutation, IsSorted}
use Rattle.std.specs.Cmp.Lexicographic.{pointwise}
use Rattle.sewing.specs.Keys.{key_cmp, keys_at}
use Rattle.sewing.proofs.KeyLaws.{ends-same, key_eq, keys-same, keys-itself}
use Rattle.sewing.proofs.ends.has_ends.Goals as goal

pub returns : goal.returns
returns c =
    let rows = c.args.pool.now in
    let own = c.as_slice.result.now in
    let ends = c.args.ends.now in
    let keys = keys_at rows c.args.member.turn c.args.member.id.0 in
    let moved = subst (λ l. IsPermutation keys l) (sym c.as_slice.ensures.value) c.in_ok-own.ensures.same in
    let sorted = subst (λ l. IsSorted key_cmp l) (sym c.as_slice.ensures.value) c.in_ok-own.ensures.order in
    let tells =
    ends-same rows c.args.first.0 c.args.member.turn c.args.member.id.0 own ends c.requires.same c.requires.order
    moved sorted in (
      (λ t. tells.0 (keys-same own ends (sym c.eq.ensures ∙ t))),
      (λ h. c.eq.ensures ∙ subst (λ l. pointwise key_eq own l ≡ true) (tells.1 h) (keys-itself own)),
    )
