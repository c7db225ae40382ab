-- Sorting and leaving out repeats.
use Rattle.std.proofs.Common.{◌≡◌, ◌∙◌, ap, arith, length, sym}
use Rattle.std.specs.List.{dedup}
use Rattle.std.proofs.lemmas.List.Filters.{dedup_is}
use Rattle.written_history.proofs.SortLaws.{number_pair_eq, pairs-ascend, pairs-order, pairs-same}
use Rattle.written_history.proofs.ascending.ascending_pairs.Goals as goal

pub returns : goal.returns
returns c =
    let is : c.from_vec.result ≡ dedup number_pair_eq c.sort_unstable.new.self.items =
    c.from_vec.ensures
    ∙ dedup_is number_pair_eq c.sort_unstable.new.self.items c.dedup.new.self.items c.dedup.ensures.filtered
    in record {
      order = pairs-ascend c.from_vec.result
          (pairs-order c.sort_unstable.new.self.items c.from_vec.result c.sort_unstable.ensures.sorted is);
      same = pairs-same c.args.pairs.items c.sort_unstable.new.self.items c.from_vec.result
          c.sort_unstable.ensures.permutation is;
      short =
          let many : length c.from_vec.result ≡ c.pair_count.result =
          ap length (c.from_vec.ensures ∙ sym c.as_slice.ensures.value) ∙ sym c.pair_count.ensures.count in
          let few = c.pair_count.ensures.few in
          omega (arith, many, few);
    }
