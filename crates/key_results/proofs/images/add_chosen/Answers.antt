-- The visit is chosen, or nothing is added.
use Rattle.std.proofs.Common.{◌≡◌, ◌∙◌, true, false, sym}
use Rattle.key_results.proofs.PartOwn.{ok-so}
use Rattle.key_results.proofs.PairLaws.{here-more, here-none}
use Rattle.key_results.proofs.images.add_chosen.Goals as goal

pub returns-then-is_chosen : goal.returns-then-is_chosen
returns-then-is_chosen c =
    ok-so c.add_pairs.result
    (λ h p. here-more c.args.visit.now c.args.key c.args.outgrowth.now c.args.nodes.now c.args.all
    c.args.pairs.now.items p
    c.add_pairs.new.pairs.items (c.is_chosen.ensures.0 c.if-is_chosen.true) (h p)) c.add_pairs.ensures

pub returns : goal.returns
returns c = λ p.
    here-none c.args.visit.now c.args.key c.args.outgrowth.now c.args.nodes.now c.args.all c.args.pairs.now.items p
    (λ h. let wrong : true ≡ false = sym (c.is_chosen.ensures.1 h) ∙ c.if-is_chosen.false in absurd cc)
