-- What was taken so far, how long it can be, and how large its powers.
use Rattle.std.proofs.Common.{◌≡◌, ◌≤◌, ◌+◌, ◌*◌, ◌^◌, ℕ, take, All}
use Rattle.std.specs.Prelude.{nat_abs}
use Rattle.std.specs.List.{fold}
use Rattle.smallvec.specs.SmallVec.{small_vec_len}
use Rattle.location_words.specs.declared.pair.Pair.{Pair}
use Rattle.location_words.specs.declared.sum.Wide.{Wide}
use Rattle.location_words.specs.Pairs.{taken_onto}
use Rattle.location_words.specs.Sums.{from_last}
use Rattle.location_words.proofs.sum.take_all.Given as goal

abbrev pub invariant-loop-p : goal.invariant-loop-p
invariant-loop-p l = record {
  taken : from_last l.so_far.items ≡ fold taken_onto (from_last l.fn.so_far.items) (take l.p-index l.pairs);
  long : small_vec_len l.so_far ≤ small_vec_len l.fn.so_far + l.p-index;
  room : l.fn.so_far.capacity ≤ l.so_far.capacity;
  fits : All (λ (q : Wide). nat_abs q.power ≤ 2 ^ 125 + l.p-index * 2 ^ 63) l.so_far.items;
  grows : (n m : ℕ) → All (λ (q : Wide). nat_abs q.power ≤ n) l.fn.so_far.items →
      All (λ (p : Pair). nat_abs p.power ≤ m) l.pairs →
      All (λ (q : Wide). nat_abs q.power ≤ n + l.p-index * m) l.so_far.items;
}
