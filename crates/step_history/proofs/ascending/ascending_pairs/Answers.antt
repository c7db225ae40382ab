-- Sorting and leaving out repeats.
use Rattle.std.proofs.Common.{◌≡◌, ◌∙◌}
use Rattle.std.specs.List.{dedup}
use Rattle.std.proofs.lemmas.List.Filters.{dedup_is}
use Rattle.step_history.proofs.SortLaws.{pair_eq, pairs-order, pairs-same}
use Rattle.step_history.proofs.ascending.ascending_pairs.Goals as goal

pub returns : goal.returns
returns c =
    let is : c.from_vec.result ≡ dedup pair_eq c.sort_unstable.new.self.items =
    c.from_vec.ensures ∙ dedup_is pair_eq c.sort_unstable.new.self.items c.dedup.new.self.items c.dedup.ensures.filtered in record {
      order = pairs-order c.sort_unstable.new.self.items c.from_vec.result c.sort_unstable.ensures.sorted is;
      same = pairs-same c.args.pairs.items c.sort_unstable.new.self.items c.from_vec.result c.sort_unstable.ensures.permutation is;
    }
