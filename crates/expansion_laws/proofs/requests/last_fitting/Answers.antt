-- Each request that fits takes the place of the one before.
use Rattle.std.proofs.Common.{refl, sym, ◌∙◌, ap}
use Rattle.std.specs.Option.{option_map}
use Rattle.lists.proofs.Places.{take-map-all}
use Rattle.expansion_laws.specs.Requests.{match_of}
use Rattle.expansion_laws.specs.Plain.{shown_tree}
use Rattle.expansion_laws.specs.SlowRewriting.{shown_request}
use Rattle.expansion_laws.specs.SlowParts.{context}
use Rattle.expansion_laws.proofs.MovingLemmas.{match-fits, match-other}
use Rattle.expansion_laws.proofs.requests.last_fitting.Goals.{then-fits, else-fits}
use Rattle.expansion_laws.proofs.requests.last_fitting.Goals as goal

pub loop-request-init : goal.loop-request-init
loop-request-init c = refl

pub loop-request-preserved : goal.loop-request-preserved
loop-request-preserved c = elim c.if-fits.branch [
  | then-fits w ↦
      ap (option_map (λ r. shown_request r.now)) w.found-is
      ∙ match-fits shown_request (shown_tree c.args.tree.now) (context c.args.here.now) c.args.requests.now
      c.loop-request.request-index c.request-item.result c.loop-request-test.true c.request-item.is
      (sym w.if-fits.true ∙ c.fits.ensures)
  | else-fits w ↦
      ap (option_map (λ r. shown_request r.now)) w.found-is
      ∙ match-other shown_request (shown_tree c.args.tree.now) (context c.args.here.now) c.args.requests.now
      c.loop-request.request-index c.request-item.result c.loop-request-test.true c.request-item.is
      (option_map (λ r. shown_request r.now) c.loop-request.found) (sym w.if-fits.false ∙ c.fits.ensures)
      c.loop-request.invariant
]

pub returns : goal.returns
returns c =
    c.loop-request.invariant
    ∙ ap (λ rs. match_of rs (shown_tree c.args.tree.now) (context c.args.here.now))
    (take-map-all shown_request c.args.requests.now c.loop-request.request-index c.loop-request-test.false)
