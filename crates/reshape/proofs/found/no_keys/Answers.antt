-- One place more.
use Rattle.std.proofs.Common.{arith, ◌∙◌, ap, ◌∷◌, [], length}
use Rattle.std.specs.Prelude.{List, Vec}
use Rattle.std.specs.Global.{Global}
use Rattle.std.proofs.lemmas.List.{length-append}
use Rattle.key_results.specs.declared.key.Key.{Key}
use Rattle.reshape.specs.Collecting.{keys_at}
use Rattle.reshape.proofs.NoteLaws.{keys-none}
use Rattle.reshape.proofs.found.no_keys.Goals as goal

pub loop-done-preserved : goal.loop-done-preserved
loop-done-preserved c =
    let more = c.in_ok-push.ensures.items in
    let long = ap (λ (l : List (Vec Key Global)). length l) more in
    let parts = length-append c.loop-done.at.items (c.no_key.result ∷ []) in
    let before = c.loop-done.invariant.0 in (
      omega (arith, long, parts, before),
      λ p. ap (λ (l : List (Vec Key Global)). keys_at l p) more ∙
          keys-none c.loop-done.at.items c.no_key.result c.no_key.ensures c.loop-done.invariant.1 p,
    )
