-- The pair taken is added to the last pair of its datum, or goes last.
use Rattle.std.proofs.Common.{◌≡◌, sym, ◌∙◌, ap, subst, ◌+ℤ◌, ◌∷◌, [], ◌++◌, to_z}
use Rattle.std.proofs.Common.{of_z, w64, List, All, FitsSigned, rules, refl, ◌≤◌, ◌^◌}
use Rattle.std.specs.Prelude.{nat_abs, false}
use Rattle.std.specs.Int.{w128}
use Rattle.location_words.specs.declared.sum.Wide.{Wide}
use Rattle.location_words.specs.Pairs.{is_zero}
use Rattle.location_words.proofs.SumLemmas.{taken-sum, taken-other, grown-sum, grown-other, computed-sum}
use Rattle.location_words.proofs.SumLemmas.{computed-inner, computed-one, not_zero-bits64, not_zero-bits128, All-last}
use Rattle.location_words.proofs.sum.take_onto.Goals as goal

pub returns-in_ok-push-in-Some-clause-ok : goal.returns-in_ok-push-in-Some-clause-ok
returns-in_ok-push-in-Some-clause-ok c =
    let fits : FitsSigned w64 c.args.p.power = search rules in
    let small : nat_abs c.in-Some.last.power ≤ 2 ^ 126 =
    All-last (λ q. nat_abs q.power ≤ 2 ^ 126) c.pop.new.self.items c.in-Some.last
    (subst (λ l. All (λ q. nat_abs q.power ≤ 2 ^ 126) l) c.in-Some.ensures.items c.requires) in
    let sum = ap (λ z. to_z w128 (of_z w128 (to_z w128 (of_z w128 c.in-Some.last.power) +ℤ to_z w128 (of_z w128 z))))
    c.from-power.ensures ∙ computed-sum c.in-Some.last.power c.args.p.power small fits in
    let inner = ap (λ z. to_z w128 (of_z w128 c.in-Some.last.power) +ℤ to_z w128 (of_z w128 z)) c.from-power.ensures ∙
    computed-inner c.in-Some.last.power c.args.p.power small fits in
    let left : is_zero (c.in-Some.last.power +ℤ c.args.p.power) ≡ false =
    ap is_zero (sym inner) ∙ not_zero-bits128 _ c.if-sum-ne0.true in
    taken-sum c.pop.new.self.items c.args.so_far.now.items c.push-then-sum-ne0.new.self.items c.in-Some.last _ c.args.p
    c.in-Some.ensures.items c.in_ok-push-in-Some.ensures.ok (not_zero-bits64 c.args.p.power c.if-p-eq0.false)
    c.if-last-p.true refl sum left

pub returns-in_ok-push-in-Some-clause-grows : goal.returns-in_ok-push-in-Some-clause-grows
returns-in_ok-push-in-Some-clause-grows c =
    let fits : FitsSigned w64 c.args.p.power = search rules in
    let small : nat_abs c.in-Some.last.power ≤ 2 ^ 126 =
    All-last (λ q. nat_abs q.power ≤ 2 ^ 126) c.pop.new.self.items c.in-Some.last
    (subst (λ l. All (λ q. nat_abs q.power ≤ 2 ^ 126) l) c.in-Some.ensures.items c.requires) in
    let sum = ap (λ z. to_z w128 (of_z w128 (to_z w128 (of_z w128 c.in-Some.last.power) +ℤ to_z w128 (of_z w128 z))))
    c.from-power.ensures ∙ computed-sum c.in-Some.last.power c.args.p.power small fits in
    grown-sum c.pop.new.self.items c.args.so_far.now.items c.push-then-sum-ne0.new.self.items c.in-Some.last _
    c.args.p.power
    c.in-Some.ensures.items c.in_ok-push-in-Some.ensures.ok sum

pub returns-in_ok-push-in-Some-3-clause-ok : goal.returns-in_ok-push-in-Some-3-clause-ok
returns-in_ok-push-in-Some-3-clause-ok c =
    let fits : FitsSigned w64 c.args.p.power = search rules in
    let power = ap (λ z. to_z w128 (of_z w128 z)) c.from-power.ensures ∙ computed-one c.args.p.power fits in
    taken-other c.pop.new.self.items c.args.so_far.now.items c.push-else-last-p.new.self.items
    c.push-else-last-p-2.new.self.items c.in-Some.last _ c.args.p
    c.in-Some.ensures.items c.in_ok-push-in-Some-2.ensures.ok c.in_ok-push-in-Some-3.ensures.ok
    (not_zero-bits64 c.args.p.power c.if-p-eq0.false) c.if-last-p.false refl power

pub returns-in_ok-push-in-Some-3-clause-grows : goal.returns-in_ok-push-in-Some-3-clause-grows
returns-in_ok-push-in-Some-3-clause-grows c =
    let fits : FitsSigned w64 c.args.p.power = search rules in
    let power = ap (λ z. to_z w128 (of_z w128 z)) c.from-power.ensures ∙ computed-one c.args.p.power fits in
    let same : c.push-else-last-p.new.self.items ≡ c.args.so_far.now.items =
    c.in_ok-push-in-Some-2.ensures.ok ∙ sym c.in-Some.ensures.items in
    let q : Wide = record { datum = c.args.p.datum; power = to_z w128 (of_z w128 c.from-power.result) } in
    grown-other c.args.so_far.now.items c.push-else-last-p-2.new.self.items q c.args.p.power
    (c.in_ok-push-in-Some-3.ensures.ok ∙ ap (λ (l : List Wide). l ++ q ∷ []) same) power
