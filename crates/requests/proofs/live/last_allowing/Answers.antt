-- Each request that allows them takes the place of the one before.
use Rattle.std.proofs.Common.{refl, sym, ◌∙◌, ap, arith, List, None, true, false}
use Rattle.std.proofs.lemmas.List.{take_all}
use Rattle.requests.specs.declared.request.Request.{Request}
use Rattle.requests.specs.declared.request.Act.TheVariants.{Remove}
use Rattle.requests.specs.Numbered.{last_allowed}
use Rattle.requests.proofs.MatchLaws.{allowed-more}
use Rattle.requests.proofs.live.last_allowing.Goals.{then-allows, else-allows}
use Rattle.requests.proofs.live.last_allowing.Goals as goal

abbrev any_request : Request
any_request = record { source = record { 0 = 0 }; place = None; turn = None; act = Remove }

pub loop-r-init : goal.loop-r-init
loop-r-init c = refl

pub loop-r-preserved : goal.loop-r-preserved
loop-r-preserved c = elim c.if-allows.branch [
  | then-allows w ↦
      w.found-is ∙
      sym (allowed-more c.args.turn c.args.word.0 c.args.live.now c.loop-r.r-index any_request true c.loop-r-test.true
      (sym c.allows.ensures ∙ w.if-allows.true))
  | else-allows w ↦
      w.found-is ∙ c.loop-r.invariant ∙
      sym (allowed-more c.args.turn c.args.word.0 c.args.live.now c.loop-r.r-index any_request false c.loop-r-test.true
      (sym c.allows.ensures ∙ w.if-allows.false))
]

pub returns : goal.returns
returns c =
    c.loop-r.invariant ∙
    ap (λ (l : List Request). last_allowed l c.args.turn c.args.word.0)
    (take_all c.loop-r.r-index c.args.live.now (omega (arith, c.loop-r-test.false)))
