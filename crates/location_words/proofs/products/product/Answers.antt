-- What was summed is the whole product.
use Rattle.std.proofs.Common.{map}
use Rattle.location_words.proofs.ProductLemmas.{product-word}
use Rattle.location_words.proofs.products.product.Goals as goal

pub within-requires-clause-reduced : goal.within-requires-clause-reduced
within-requires-clause-reduced c =
    rw (c.as_slice.ensures, c.in-Ok.ensures.ok) (product-word (map (λ w. w.now) c.args.factors.now))
