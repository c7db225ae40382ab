-- What the factors so far make, how long it can be, and how large its powers.
use Rattle.std.proofs.Common.{◌≡◌, ◌≤◌, ◌-◌, ◌*◌, ◌^◌, map, drop, length, All, sum_by}
use Rattle.std.specs.Prelude.{nat_abs}
use Rattle.smallvec.specs.SmallVec.{small_vec_len}
use Rattle.location_words.specs.declared.sum.Wide.{Wide}
use Rattle.location_words.specs.Sums.{as_pair}
use Rattle.location_words.specs.Products.{product as product_of}
use Rattle.location_words.proofs.products.summed.Given as goal

abbrev pub invariant-loop-i : goal.invariant-loop-i
invariant-loop-i l = record {
  made : map as_pair l.sum.items ≡ product_of (map (λ w. w.now) (drop (length l.factors - l.i) l.factors));
  long : small_vec_len l.sum ≤ sum_by (λ w. length w.now) (drop (length l.factors - l.i) l.factors);
  room : 4 ≤ l.sum.capacity;
  fits : All (λ (q : Wide). nat_abs q.power ≤ l.i * 2 ^ 52) l.sum.items;
}
